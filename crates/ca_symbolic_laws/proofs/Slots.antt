-- Slots that terms mean: puts into them, and choices of them.
use Rattle.std.proofs.Common.{◌≡◌, ℕ, zero, suc, ◌+◌, ◌<◌, Bool, true, false, List, [], ◌∷◌, length, map, Option, Some, None, ℤ, pos, refl, sym, ap, ap₂, ◌∙◌, arith, slice_set, eq-eqb}
use Rattle.std.specs.Prelude.{slice_get, cond, eqb, IsSome}
use Rattle.std.proofs.lemmas.Bool.Decides.{nat_tests}
use Rattle.ca_program.specs.declared.program.FieldInfo.{FieldInfo}
use Rattle.ca_program.specs.declared.program.ValueType.{ValueType}
use Rattle.ca_model.specs.declared.value.Value.{Value as Datum}
use Rattle.ca_model.specs.declared.value.Value.TheVariants.{Bool as Truth}
use Rattle.ca_model.specs.declared.value.Slot.TheVariants.{One, Many}
use Rattle.ca_model.specs.Slots.{put_item, put_slot}
use Rattle.ca_meaning.specs.Operators.{same_int}
use Rattle.ca_meaning.specs.ProgramTyped.{IsScalar, IsArray}
use Rattle.ca_norm.specs.Terms.{PlainTerm}
use Rattle.ca_norm.specs.Meanings.{Valuation, chosen, mean}
use Rattle.ca_symbolic.specs.Execution.{choose_if, choices}
use Rattle.ca_symbolic_laws.specs.Meant.{item_meant, items_meant, slot_meant, slots_meant}
use Rattle.ca_symbolic_laws.proofs.Selects.{of_choice}

-- Items

same_false : (m n : ℕ) → n < m → eqb m n ≡ false
same_false m n e = grind (arith, nat_tests)

less_false : (m n : ℕ) → m < n → eqb m n ≡ false
less_false m n e = grind (arith, nat_tests)

-- the array t is the array y with d at the number i
pub record Changed (v : Valuation) (y t : PlainTerm) (i : ℕ) (d : Datum) : Type 0 where
  pub at : (z : ℤ) → item_meant v t z ≡ cond (same_int (pos i) z) d (item_meant v y z)

items_other : (v : Valuation) (y t : PlainTerm) (d : Datum) (i : ℕ) → Changed v y t i d → (k n : ℕ) → i < k → items_meant v y k n ≡ items_meant v t k n
items_other v y t d i c k zero l = refl
items_other v y t d i c k (suc n) l = ap₂ (λ x z. x ∷ z) (sym (c.at (pos k) ∙ ap (λ b. cond b d (item_meant v y (pos k))) (less_false i k l))) (items_other v y t d i c (suc k) n (omega (arith, l)))

items_put : (v : Valuation) (y t : PlainTerm) (d : Datum) (k n i : ℕ) → Changed v y t (k + i) d → slice_set (items_meant v y k n) i d ≡ items_meant v t k n
items_put v y t d k zero i c = refl
items_put v y t d k (suc n) zero c =
    ap₂ (λ x z. x ∷ z) (sym (c.at (pos k) ∙ ap (λ b. cond b d (item_meant v y (pos k))) (eq-eqb (k + zero) k (omega arith)))) (items_other v y t d (k + zero) c (suc k) n (omega arith))
items_put v y t d k (suc n) (suc i) c =
    ap₂ (λ x z. x ∷ z) (sym (c.at (pos k) ∙ ap (λ b. cond b d (item_meant v y (pos k))) (same_false (k + suc i) k (omega arith)))) (items_put v y t d (suc k) n i (record { at = λ z. c.at z ∙ ap (λ j. cond (same_int (pos j) z) d (item_meant v y z)) (let e : k + suc i ≡ suc k + i = omega arith in e) }))

array_put : (v : Valuation) (y t : PlainTerm) (len : Option ℕ) (i : ℕ) (d : Datum) → IsSome len → Changed v y t i d → put_item (slot_meant v y len) i d ≡ slot_meant v t len
array_put v y t None i d s c = cc
array_put v y t (Some n) i d s c = ap Many (items_put v y t d 0 n i (record { at = λ z. c.at z ∙ ap (λ j. cond (same_int (pos j) z) d (item_meant v y z)) (let e : i ≡ 0 + i = omega arith in e) }))

-- Puts

one_put : (v : Valuation) (y t : PlainTerm) (len : Option ℕ) (d : Datum) → len ≡ None → d ≡ mean v t → put_item (slot_meant v y len) 0 d ≡ slot_meant v t len
one_put v y t None d e h = ap One h
one_put v y t (Some n) d e h = cc

no_slots : (v : Valuation) (ts : List PlainTerm) → slots_meant v ts [] ≡ []
no_slots v [] = refl
no_slots v (t ∷ ts) = refl

-- a value is put into a field that is no array
pub put_one : (v : Valuation) (ts : List PlainTerm) (fs : List FieldInfo) (f : ℕ) (ty : ValueType) (d : Datum) (t : PlainTerm) → IsScalar (slice_get fs f) ty → d ≡ mean v t → put_slot (slots_meant v ts fs) f 0 d ≡ slots_meant v (slice_set ts f t) fs
put_one v ts [] f ty d t i e = absurd i
put_one v [] (x ∷ fs) f ty d t i e = refl
put_one v (y ∷ ts) (x ∷ fs) zero ty d t i e = ap (λ z. z ∷ slots_meant v ts fs) (one_put v y t x.length d i.1 e)
put_one v (y ∷ ts) (x ∷ fs) (suc f) ty d t i e = ap (λ z. slot_meant v y x.length ∷ z) (put_one v ts fs f ty d t i e)

-- an item is put into an array
pub put_at : (v : Valuation) (ts : List PlainTerm) (fs : List FieldInfo) (f : ℕ) (ty : ValueType) (i : ℕ) (d : Datum) (y t : PlainTerm) → IsArray (slice_get fs f) ty → slice_get ts f ≡ Some y → Changed v y t i d → put_slot (slots_meant v ts fs) f i d ≡ slots_meant v (slice_set ts f t) fs
put_at v ts [] f ty i d y t a e c = absurd a
put_at v [] (x ∷ fs) f ty i d y t a e c = refl
put_at v (u ∷ ts) (x ∷ fs) zero ty i d y t a e c =
    let same : u ≡ y = cc in ap (λ z. put_item (slot_meant v z x.length) i d ∷ slots_meant v ts fs) same ∙ ap (λ z. z ∷ slots_meant v ts fs) (array_put v y t x.length i d a.1 c)
put_at v (u ∷ ts) (x ∷ fs) (suc f) ty i d y t a e c = ap (λ z. slot_meant v u x.length ∷ z) (put_at v ts fs f ty i d y t a e c)

-- Choices

-- two terms that mean the same, each item alike
pub record SameMeant (v : Valuation) (t u : PlainTerm) : Type 0 where
  pub value : mean v t ≡ mean v u
  pub items : (z : ℤ) → item_meant v t z ≡ item_meant v u z

same_itself : (v : Valuation) (t : PlainTerm) → SameMeant v t t
same_itself v t = record { value = refl; items = λ z. refl }

pub data AllSame (v : Valuation) : List PlainTerm → List PlainTerm → Type 0 where
  none_same : AllSame v [] []
  more_same : (t u : PlainTerm) (ts us : List PlainTerm) → SameMeant v t u → AllSame v ts us → AllSame v (t ∷ ts) (u ∷ us)

choice_true : (v : Valuation) (b : Bool) (c x y : PlainTerm) → mean v c ≡ Truth true → SameMeant v (choose_if b c x y) x
choice_true v true c x y e = record { value = ap (λ d. chosen d (mean v x) (mean v y)) e; items = λ z. of_choice v c x y z ∙ ap (λ d. chosen d (item_meant v x z) (item_meant v y z)) e }
choice_true v false c x y e = same_itself v x

choice_false : (v : Valuation) (b : Bool) (c x y : PlainTerm) → mean v c ≡ Truth false → (b ≡ false → x ≡ y) → SameMeant v (choose_if b c x y) y
choice_false v true c x y e h = record { value = ap (λ d. chosen d (mean v x) (mean v y)) e; items = λ z. of_choice v c x y z ∙ ap (λ d. chosen d (item_meant v x z) (item_meant v y z)) e }
choice_false v false c x y e h = let same : x ≡ y = h refl in rw same (same_itself v y)

-- of lists that agree where nothing is put, the choices mean what the chosen list means
pub choices_true : (v : Valuation) (is_put : ℕ → Bool) (n : ℕ) (c : PlainTerm) (xs ys : List PlainTerm) → length xs ≡ length ys → mean v c ≡ Truth true → AllSame v (choices is_put n c xs ys) xs
choices_true v is_put n c [] ys l e = none_same
choices_true v is_put n c (x ∷ xs) [] l e = cc
choices_true v is_put n c (x ∷ xs) (y ∷ ys) l e = more_same _ x _ xs (choice_true v (is_put n) c x y e) (choices_true v is_put (suc n) c xs ys (omega (arith, l)) e)

some_same : {x y : PlainTerm} → Some x ≡ Some y → x ≡ y
some_same e = cc

pub choices_false : (v : Valuation) (is_put : ℕ → Bool) (n : ℕ) (c : PlainTerm) (xs ys : List PlainTerm) → length xs ≡ length ys → mean v c ≡ Truth false → ((i : ℕ) → is_put (n + i) ≡ false → slice_get xs i ≡ slice_get ys i) → AllSame v (choices is_put n c xs ys) ys
choices_false v is_put n c [] [] l e h = none_same
choices_false v is_put n c [] (y ∷ ys) l e h = cc
choices_false v is_put n c (x ∷ xs) [] l e h = cc
choices_false v is_put n c (x ∷ xs) (y ∷ ys) l e h =
    more_same _ y _ ys (choice_false v (is_put n) c x y e (λ f. some_same (h zero (ap is_put (let z : n + zero ≡ n = omega arith in z) ∙ f))))
    (choices_false v is_put (suc n) c xs ys (omega (arith, l)) e (λ i f. h (suc i) (ap is_put (let z : n + suc i ≡ suc n + i = omega arith in z) ∙ f)))

pub values_same : (v : Valuation) (ts us : List PlainTerm) → AllSame v ts us → map (mean v) ts ≡ map (mean v) us
values_same v _ _ none_same = refl
values_same v _ _ (more_same t u ts us e h) = ap₂ (λ a b. a ∷ b) e.value (values_same v ts us h)

items_same : (v : Valuation) (t u : PlainTerm) (k n : ℕ) → SameMeant v t u → items_meant v t k n ≡ items_meant v u k n
items_same v t u k zero e = refl
items_same v t u k (suc n) e = ap₂ (λ a b. a ∷ b) (e.items (pos k)) (items_same v t u (suc k) n e)

slot_same : (v : Valuation) (t u : PlainTerm) (len : Option ℕ) → SameMeant v t u → slot_meant v t len ≡ slot_meant v u len
slot_same v t u None e = ap One e.value
slot_same v t u (Some n) e = ap Many (items_same v t u 0 n e)

pub slots_same : (v : Valuation) (ts us : List PlainTerm) (fs : List FieldInfo) → AllSame v ts us → slots_meant v ts fs ≡ slots_meant v us fs
slots_same v _ _ fs none_same = refl
slots_same v _ _ [] (more_same t u ts us e h) = refl
slots_same v _ _ (f ∷ fs) (more_same t u ts us e h) = ap₂ (λ a b. a ∷ b) (slot_same v t u f.length e) (slots_same v ts us fs h)
