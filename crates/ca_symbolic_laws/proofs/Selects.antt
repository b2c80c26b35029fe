-- What terms of arrays mean, item by item.
use Rattle.std.proofs.Common.{◌≡◌, ℤ, refl}
use Rattle.std.specs.Prelude.{cond}
use Rattle.ca_tree.specs.declared.tree.BinaryOp.TheVariants.{Plus}
use Rattle.ca_meaning.specs.Operators.{same_int}
use Rattle.ca_norm.specs.Terms.{PlainTerm, choose, select, put, add_at}
use Rattle.ca_norm.specs.Meanings.{Valuation, operate, chosen, mean}
use Rattle.ca_symbolic_laws.specs.Meant.{item_meant}
use Rattle.ca_symbolic_laws.proofs.Indexes.{number_of}

-- an item is told by the value of its index
pub by_number : (v : Valuation) (a i : PlainTerm) → mean v (select a i) ≡ item_meant v a (number_of (mean v i))
by_number v a i = refl

-- an item of a choice of arrays is that of the chosen one
pub of_choice : (v : Valuation) (c a b : PlainTerm) (z : ℤ) → item_meant v (choose c a b) z ≡ chosen (mean v c) (item_meant v a z) (item_meant v b z)
of_choice v c a b z = refl

-- a put and a sum change one item
pub of_put : (v : Valuation) (a i x : PlainTerm) (z : ℤ) → item_meant v (put a i x) z ≡ cond (same_int (number_of (mean v i)) z) (mean v x) (item_meant v a z)
of_put v a i x z = refl

pub of_add : (v : Valuation) (a i x : PlainTerm) (z : ℤ) → item_meant v (add_at a i x) z ≡ cond (same_int (number_of (mean v i)) z) (operate Plus (item_meant v a z) (mean v x)) (item_meant v a z)
of_add v a i x z = refl
