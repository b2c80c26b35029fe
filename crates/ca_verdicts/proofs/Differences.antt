-- Two forms, given where they are not alike.
use Rattle.std.proofs.Common.{◌≡◌, Bool, true, false, Option, Some, None, sym, ◌∙◌}
use Rattle.std.specs.Prelude.{◌≢◌, IfSome, IfNone, IsTrue}
use Rattle.ca_forms.specs.Plain.{PlainPolynomial, PlainScalar, number_form}

pub differ_of : {A : Type 0} (o : Option (A × A)) (alike : Bool) (x y : A) → IfSome o (λ p. p.0 ≡ x) → IfSome o (λ p. p.1 ≡ y) → IfSome o (λ _. alike ≡ false) → (x ≡ y → IsTrue alike) → IfSome o (λ p. p.0 ≢ p.1)
differ_of None alike x y first second differ exact = tt
differ_of (Some p) alike x y first second differ exact = λ same. let is : alike ≡ true = exact (sym first ∙ (same ∙ second)) in cc

pub same_of : {A : Type 0} (o : Option (A × A)) (alike : Bool) (x y : A) → IfNone o (IsTrue alike) → (IsTrue alike → x ≡ y) → IfNone o (x ≡ y)
same_of None alike x y same exact = exact same
same_of (Some p) alike x y same exact = tt

same_number : (f g : PlainPolynomial) → number_form f ≡ number_form g → f ≡ g
same_number f g is = cc

pub settled_of : (o : Option (PlainScalar × PlainScalar)) (alike : Bool) (x y : PlainScalar) (f g : PlainPolynomial) → IfNone o (IsTrue alike) → (IsTrue alike → x ≡ y) → x ≡ number_form f → y ≡ number_form g → IfNone o (f ≡ g)
settled_of None alike x y f g same exact one other = same_number f g (sym one ∙ (exact same ∙ other))
settled_of (Some p) alike x y f g same exact one other = tt
