-- Nodes that are linked to nodes, in a heap.
use Rattle.std.proofs.Common.{◌≡◌, ℕ, suc, ◌<◌, List, [], ◌∷◌, Bool, ◌⊎◌, inl, inr, sym, ◌∙◌, subst, arith}
use Rattle.std.proofs.lemmas.Bool.{cases_eq}
use Rattle.std.specs.Prelude.{Some, slice_get}
use Rattle.ca_model.specs.declared.value.Value.{Value as Datum}
use Rattle.ca_model.specs.declared.value.Value.TheVariants.{Bool as Truth, Ref}
use Rattle.ca_model.specs.declared.value.Slot.TheVariants.{One, Many}
use Rattle.ca_model.specs.declared.value.Object.{Object}
use Rattle.ca_model.specs.Heaps.{stored}
use Rattle.ca_gen_laws.proofs.Program.{node, table}
use Rattle.ca_gen_laws.proofs.Heaps.{stored_elsewhere}

abbrev pub a_node : Bool → Datum → Datum → Datum → Datum → Object
a_node m v s l r = record { class = node; slots = One (Truth m) ∷ One v ∷ One s ∷ One l ∷ One r ∷ [] }

abbrev pub a_table : List Datum → Object
a_table items = record { class = table; slots = Many items ∷ [] }

-- object n is a node, linked to two of `size` nodes, of which node i is object i + 1
pub record LinkedAt (size : ℕ) (h : List Object) (n : ℕ) : Type 0 where
  pub mark : Bool
  pub value : Datum
  pub sum : Datum
  pub left : ℕ
  pub right : ℕ
  pub is : slice_get h n ≡ Some (a_node mark value sum (Ref (suc left)) (Ref (suc right)))
  pub left_in : left < size
  pub right_in : right < size

abbrev pub Nodes : ℕ → List Object → Type 0
Nodes size h = (i : ℕ) → i < size → LinkedAt size h (suc i)

-- the same object in another heap
pub moved : {size n : ℕ} {h x : List Object} → slice_get x n ≡ slice_get h n → LinkedAt size h n → LinkedAt size x n
moved e at = record { mark = at.mark; value = at.value; sum = at.sum; left = at.left; right = at.right; is = e ∙ at.is; left_in = at.left_in; right_in = at.right_in }

suc_same : {i j : ℕ} → suc i ≡ suc j → i ≡ j
suc_same e = omega (arith, e)

pub nodes_stored : (size : ℕ) (h : List Object) (i f : ℕ) (v : Datum) → Nodes size h → LinkedAt size (stored h (suc i) f 0 v) (suc i) → Nodes size (stored h (suc i) f 0 v)
nodes_stored size h i f v nodes here j in_size = at (cases_eq j i)
  where
    at : (j ≡ i) ⊎ (j ≡ i → ⊥) → LinkedAt size (stored h (suc i) f 0 v) (suc j)
    at (inl e) = let P : ℕ → Type 0 = λ z. LinkedAt size (stored h (suc i) f 0 v) (suc z) in subst P (sym e) here
    at (inr other) = moved (stored_elsewhere h (suc i) (suc j) f 0 v (λ e. other (suc_same e))) (nodes j in_size)
