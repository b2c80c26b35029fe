-- What stands over a number, by what it is asked.
use Rattle.std.proofs.Common.{◌≡◌, ℕ, false, refl}
use Rattle.ca_forms.specs.declared.sort.Sort.{Sort}
use Rattle.ca_forms.specs.declared.polynomial.Node.{Node}
use Rattle.ca_forms.specs.declared.polynomial.Node.TheVariants as node
use Rattle.ca_forms.specs.declared.polynomial.Unary.{Unary}
use Rattle.ca_forms.specs.declared.polynomial.Unary.TheVariants as unary
use Rattle.ca_forms.specs.Plain.{PlainPolynomial, no_products}
use Rattle.ca_forms.specs.Seen.{part_of, over}
use Rattle.ca_forms.specs.Products.{is_truth}
use Rattle.ca_forms.specs.Rules.{is_receiver_part}

pub truth_over : (f : Unary) (a : PlainPolynomial) → is_truth (over f no_products) ≡ is_truth (over f a)
truth_over unary.Zero a = refl
truth_over (unary.Quotient n) a = refl
truth_over (unary.Modulus n) a = refl
truth_over (unary.OwnItem s g n) a = refl

-- an atom alone is the receiver
pub no_receiver : (n : Node) → ((s : Sort) (g k : ℕ) → n ≡ node.Variable s g k → ⊥) → is_receiver_part (part_of n) ≡ false
no_receiver (node.Variable s g k) h = absurd (h s g k refl)
no_receiver (node.Over unary.Zero a) h = refl
no_receiver (node.Over (unary.Quotient n) a) h = refl
no_receiver (node.Over (unary.Modulus n) a) h = refl
no_receiver (node.Over (unary.OwnItem s g n) a) h = refl
no_receiver n h = refl
