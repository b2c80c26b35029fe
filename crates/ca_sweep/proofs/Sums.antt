-- A sum of products gives its value at once, whatever a sweep has changed.
use Rattle.std.proofs.Common.{◌≡◌, ℕ, Bool, true, false, List, ℤ, Ok, refl, ap, ap₂, ◌∙◌, slice_set, Some}
use Rattle.std.specs.Prelude.{slice_get, nat_eq}
use Rattle.ca_tree.specs.declared.tree.BinaryOp.{BinaryOp}
use Rattle.ca_tree.specs.declared.tree.BinaryOp.TheVariants.{Plus, Minus, Times}
use Rattle.ca_program.specs.declared.program.FieldId.{FieldId}
use Rattle.ca_program.specs.declared.program.LocalId.{LocalId}
use Rattle.ca_program.specs.Plain.{Expression, number, truth, null, this, local, own, own_item, read, read_item, value_call, unary, binary}
use Rattle.ca_model.specs.declared.value.Value.{Value as Datum}
use Rattle.ca_model.specs.declared.value.Value.TheVariants.{Long, Bool as Truth}
use Rattle.ca_model.specs.declared.value.Slot.{Slot}
use Rattle.ca_model.specs.declared.value.Slot.TheVariants.{Many}
use Rattle.ca_meaning.specs.Operators.{operated, not_of}
use Rattle.ca_meaning.specs.Expressions.{Out, gives, ◌>>=◌, answer, decided, unless_decided, Place, Calls, eval}
use Rattle.ca_sweep.specs.Sweeps.{Known, is_product, is_sum}
use Rattle.ca_sweep.specs.Means.{operate, sum_value, all_but}
use Rattle.ca_sweep.proofs.Tables.{value_other, one_set}
use Rattle.ca_sweep.proofs.Finding.{and_left, and_right}

-- an operator that never traps
abbrev pub Smooth : BinaryOp → Type 0
Smooth Plus = Unit {0}
Smooth Minus = Unit {0}
Smooth Times = Unit {0}
Smooth _ = ⊥

smooth_ok : (op : BinaryOp) (a b : Datum) → Smooth op → operated op a b ≡ Ok (operate op a b)
smooth_ok Plus (Long a) (Long b) s = refl
smooth_ok Plus (Truth a) (Truth b) s = refl
smooth_ok Plus a b s = refl
smooth_ok Minus (Long a) (Long b) s = refl
smooth_ok Minus (Truth a) (Truth b) s = refl
smooth_ok Minus a b s = refl
smooth_ok Times (Long a) (Long b) s = refl
smooth_ok Times (Truth a) (Truth b) s = refl
smooth_ok Times a b s = refl
smooth_ok op a b s = absurd s

undecided : (op : BinaryOp) (v : Datum) (k : ℕ) (o : Out Datum) → Smooth op → unless_decided (decided op v) k o ≡ o
undecided Plus v k o s = refl
undecided Minus v k o s = refl
undecided Times v k o s = refl
undecided op v k o s = absurd s

-- both sides, and then the operator
pub both_give : (c : Calls) (p : Place) (op : BinaryOp) (a b : Expression) (k : ℕ) (v w : Datum) → Smooth op → eval c p a k ≡ gives v k → eval c p b k ≡ gives w k → eval c p (binary op a b) k ≡ gives (operate op v w) k
both_give c p op a b k v w s e f =
    ap (λ o. o >>= λ v k. unless_decided (decided op v) k (eval c p b k >>= λ w k. answer p.line (operated op v w) k)) e
    ∙ undecided op v k _ s
    ∙ ap (λ o. o >>= λ w k. answer p.line (operated op v w) k) f
    ∙ ap (λ r. answer p.line r k) (smooth_ok op v w s)

-- what a sum of products may be made of
pub data Summed (k : Known) : Expression → Type 0 where
  a_number : (n : ℤ) → Summed k (number n)
  a_local : (l : LocalId) → k.local l.0 ≡ true → Summed k (local l)
  a_field : (f : FieldId) → k.field f ≡ true → Summed k (own f)
  a_sum : (a b : Expression) → Summed k a → Summed k b → Summed k (binary Plus a b)
  a_product : (a b : Expression) → Summed k a → Summed k b → Summed k (binary Times a b)

product_summed : (k : Known) (e : Expression) → is_product k e ≡ true → Summed k e
product_summed k (number n) e = a_number n
product_summed k (local l) e = a_local l e
product_summed k (own f) e = a_field f e
product_summed k (binary Times a b) e = a_product a b (product_summed k a (and_left _ _ e)) (product_summed k b (and_right (is_product k a) _ e))
product_summed k (binary op a b) e = absurd cc
product_summed k (truth b) e = absurd cc
product_summed k null e = absurd cc
product_summed k this e = absurd cc
product_summed k (own_item f i) e = absurd cc
product_summed k (read d f) e = absurd cc
product_summed k (read_item d f i) e = absurd cc
product_summed k (value_call d m es) e = absurd cc
product_summed k (unary op d) e = absurd cc

pub sum_summed : (k : Known) (e : Expression) → is_sum k e ≡ true → Summed k e
sum_summed k (binary Plus a b) e = a_sum a b (sum_summed k a (and_left _ _ e)) (sum_summed k b (and_right (is_sum k a) _ e))
sum_summed k (binary op a b) e = product_summed k (binary op a b) e
sum_summed k (number n) e = a_number n
sum_summed k (local l) e = a_local l e
sum_summed k (own f) e = a_field f e
sum_summed k (truth b) e = absurd cc
sum_summed k null e = absurd cc
sum_summed k this e = absurd cc
sum_summed k (own_item f i) e = absurd cc
sum_summed k (read d f) e = absurd cc
sum_summed k (read_item d f i) e = absurd cc
sum_summed k (value_call d m es) e = absurd cc
sum_summed k (unary op d) e = absurd cc

-- a sum gives its value, and takes no step
pub sum_gives : (known : Known) (c : Calls) (p : Place) (e : Expression) → Summed known e → (k : ℕ) → eval c p e k ≡ gives (sum_value p.own p.locals e) k
sum_gives known c p _ (a_number n) k = refl
sum_gives known c p _ (a_local l e) k = refl
sum_gives known c p _ (a_field f e) k = refl
sum_gives known c p _ (a_sum a b x y) k = both_give c p Plus a b k _ _ tt (sum_gives known c p a x k) (sum_gives known c p b y k)
sum_gives known c p _ (a_product a b x y) k = both_give c p Times a b k _ _ tt (sum_gives known c p a x k) (sum_gives known c p b y k)

pub not_false : (b : Bool) → not_of b ≡ true → b ≡ false
not_false true e = cc
not_false false e = refl

-- its value is the same where the counter and the items of an array have changed
pub sum_same : (i : ℕ) (ss : List Slot) (ls : List Datum) (f : ℕ) (xs ys : List Datum) (d : Datum) → slice_get ss f ≡ Some (Many xs) → (e : Expression) → Summed (all_but i) e → sum_value (slice_set ss f (Many ys)) (slice_set ls i d) e ≡ sum_value ss ls e
sum_same i ss ls f xs ys d g _ (a_number n) = refl
sum_same i ss ls f xs ys d g _ (a_local l e) = value_other ls i l.0 d (not_false (nat_eq i l.0) e)
sum_same i ss ls f xs ys d g _ (a_field h e) = one_set ss f h.field xs ys g
sum_same i ss ls f xs ys d g _ (a_sum a b x y) = ap₂ (operate Plus) (sum_same i ss ls f xs ys d g a x) (sum_same i ss ls f xs ys d g b y)
sum_same i ss ls f xs ys d g _ (a_product a b x y) = ap₂ (operate Times) (sum_same i ss ls f xs ys d g a x) (sum_same i ss ls f xs ys d g b y)
