-- An expression gives what its term means, and takes what its demands take.
use Rattle.std.proofs.Common.{◌≡◌, ℕ, zero, suc, ◌+◌, ◌-◌, ◌≤◌, Bool, true, false, List, [], ◌∷◌, map, Option, Some, None, pos, refl, sym, ap, ap₂, ◌∙◌, arith, subst, add-zero}
use Rattle.std.specs.Prelude.{slice_get, nat_le, nat_lt, nat_eq, ◌||◌, if◌then◌else◌, IsSome}
use Rattle.std.proofs.lemmas.Bool.Decides.{nat_tests}
use Rattle.std.proofs.lemmas.Bool.{or_parts}
use Rattle.ca_tree.specs.declared.tree.BinaryOp.{BinaryOp}
use Rattle.ca_program.specs.declared.program.ClassId.{ClassId}
use Rattle.ca_program.specs.declared.program.FieldId.{FieldId}
use Rattle.ca_program.specs.declared.program.FieldInfo.{FieldInfo}
use Rattle.ca_program.specs.declared.program.ValueType.{ValueType}
use Rattle.ca_program.specs.declared.program.ValueType.TheVariants as type
use Rattle.ca_program.specs.Plain.{PlainProgram, PlainMethod, Expression, Expressions, this, local, own, own_item, read_item, value_call, unary, binary, no_expressions, expression_and}
use Rattle.ca_program.specs.Plain as plain
use Rattle.ca_model.specs.declared.value.Value.{Value as Datum}
use Rattle.ca_model.specs.declared.value.Value.TheVariants.{Long, Bool as Truth, Null, Ref}
use Rattle.ca_model.specs.declared.value.Object.{Object}
use Rattle.ca_model.specs.Typed.{IsOfClass, HasType}
use Rattle.ca_meaning.specs.Operators.{operated, signed}
use Rattle.ca_meaning.specs.Expressions.{Out, gives, ◌>>=◌, answer, decided, unless_decided, take_step, pointed, indexed, one_in, items_in, value_at, Place, Calls, eval, eval_all}
use Rattle.ca_meaning.specs.Functions.{functions_of}
use Rattle.ca_meaning.specs.ProgramTyped.{IsScalar, IsArray, field_info, signed_type, ExpressionTyped, ExpressionsTyped, scope_of}
use Rattle.ca_meaning.specs.Sections.{section_place}
use Rattle.ca_meaning.specs.WellTyped.{ValuesTyped}
use Rattle.ca_parallel.specs.Scoped.{names, any_names}
use Rattle.ca_parallel.specs.Separable.{IsClean, AreClean}
use Rattle.ca_norm.specs.Terms.{PlainTerm}
use Rattle.ca_norm.specs.Meanings.{Valuation, operate, mean, means}
use Rattle.ca_norm.specs.Environments.{Environment}
use Rattle.ca_sweep.specs.Means.{length_in}
use Rattle.ca_symbolic.specs.States.{State, not_null, in_range, calls, term_at}
use Rattle.ca_symbolic.specs.Execution.{sort_in, sort_of_result, term_of, terms_of}
use Rattle.ca_symbolic.specs.Demands.{terms_in, right_guard, demands_in, demands_in_all}
use Rattle.ca_symbolic_laws.specs.Costs.{plus, left, with_left, value_of, hidden}
use Rattle.ca_symbolic_laws.specs.Meant.{item_meant, items_meant, slot_meant, slots_meant, FieldsTyped}
use Rattle.ca_symbolic_laws.specs.Demanded.{names_object, is_index, call_cost, cost}
use Rattle.ca_symbolic_laws.specs.Laws.{fields_in, Typed, StateTyped, LocalsAre}
use Rattle.ca_symbolic_laws.proofs.Budgets.{free, plus_none, none_plus, then_value}
use Rattle.ca_symbolic_laws.proofs.Indexes.{number_of, place_of, found_if, no_less, more_less, both_less, ItemsAre, indexed_is}
use Rattle.ca_symbolic_laws.proofs.Operators.{BothTruths, both_truths, decides_alone, Fine, right_fine, operated_gives, operation_means, signed_means, decided_off, guard_on}
use Rattle.ca_symbolic_laws.proofs.Runs.{Runs}
use Rattle.ca_symbolic_laws.proofs.Selects.{by_number}
use Rattle.ca_symbolic_laws.proofs.Terms.{means_are, own_info, mean_typed, means_typed}
use Rattle.ca_symbolic_laws.proofs.Demands.{cost_append, asked, one_asked, off_expression}
use Rattle.ca_sweep.proofs.Finding.{itself as is_itself}

-- Names

-- what is hidden isn't named
abbrev pub Unnamed : (ℕ → Bool) → (ℕ → Bool) → Type 0
Unnamed is_hidden is_named = (n : ℕ) → is_hidden n ≡ true → is_named n ≡ false

pub unnamed_left : (t a b : ℕ → Bool) → Unnamed t (λ n. a n || b n) → Unnamed t a
unnamed_left t a b h = λ n e. (or_parts (a n) (b n) (h n e)).0

pub unnamed_right : (t a b : ℕ → Bool) → Unnamed t (λ n. a n || b n) → Unnamed t b
unnamed_right t a b h = λ n e. (or_parts (a n) (b n) (h n e)).1

-- what is named isn't hidden
pub shown : (t : ℕ → Bool) (l : ℕ) → ((n : ℕ) → t n ≡ true → nat_eq l n ≡ false) → t l ≡ false
shown t l h = at (t l) refl
  where
    at : (b : Bool) → t l ≡ b → t l ≡ false
    at true e = let c : true ≡ false = sym (is_itself l) ∙ h l e in cc
    at false e = e

-- Locals

same_head : (d e : Datum) (b : Bool) → b ≡ false → (if b then Null else d) ≡ (if b then Null else e) → d ≡ e
same_head d e true h k = cc
same_head d e false h k = k

pub hidden_at : (t : ℕ → Bool) (n : ℕ) (ls ms : List Datum) (l : ℕ) → hidden t n ls ≡ hidden t n ms → t (n + l) ≡ false → value_at ls l ≡ value_at ms l
hidden_at t n [] [] l e h = refl
hidden_at t n [] (y ∷ ms) l e h = cc
hidden_at t n (x ∷ ls) [] l e h = cc
hidden_at t n (x ∷ ls) (y ∷ ms) zero e h =
    let k : (if t n then Null else x) ≡ (if t n then Null else y) = cc in same_head x y (t n) (ap t (sym (add-zero n)) ∙ h) k
hidden_at t n (x ∷ ls) (y ∷ ms) (suc l) e h =
    let k : hidden t (n + 1) ls ≡ hidden t (n + 1) ms = cc in hidden_at t (n + 1) ls ms l k (ap t (let z : n + 1 + l ≡ n + suc l = omega arith in z) ∙ h)

pub local_means : (v : Valuation) (ts : List PlainTerm) (l : ℕ) → value_at (map (mean v) ts) l ≡ mean v (term_at ts l)
local_means v [] l = refl
local_means v (t ∷ ts) zero = refl
local_means v (t ∷ ts) (suc l) = local_means v ts l

-- Own fields

one_means : (v : Valuation) (t : PlainTerm) (len : Option ℕ) → len ≡ None → one_in (Some (slot_meant v t len)) ≡ mean v t
one_means v t None e = refl
one_means v t (Some n) e = cc

pub field_means : (h : List Object) (v : Valuation) (ts : List PlainTerm) (fs : List FieldInfo) (f : ℕ) (ty : ValueType) → FieldsTyped h v ts fs → IsScalar (slice_get fs f) ty → one_in (slice_get (slots_meant v ts fs) f) ≡ mean v (term_at ts f)
field_means h v [] [] f ty t i = absurd i
field_means h v [] (x ∷ fs) f ty t i = absurd t
field_means h v (y ∷ ts) [] f ty t i = absurd i
field_means h v (y ∷ ts) (x ∷ fs) zero ty t i = one_means v y x.length i.1
field_means h v (y ∷ ts) (x ∷ fs) (suc f) ty t i = field_means h v ts fs f ty t.1 i

items_get : (v : Valuation) (t : PlainTerm) (k n i : ℕ) → slice_get (items_meant v t k n) i ≡ found_if (nat_lt i n) (item_meant v t (pos (k + i)))
items_get v t k zero i = sym (ap (λ b. found_if b (item_meant v t (pos (k + i)))) (no_less i))
items_get v t k (suc n) zero = ap (λ m. Some (item_meant v t (pos m))) (let z : k ≡ k + zero = omega arith in z) ∙ sym (ap (λ b. found_if b (item_meant v t (pos (k + zero)))) (more_less n))
items_get v t k (suc n) (suc i) = items_get v t (suc k) n i ∙ ap₂ (λ b m. found_if b (item_meant v t (pos m))) (sym (both_less i n)) (let z : suc k + i ≡ k + suc i = omega arith in z)

pub items_are : (v : Valuation) (t : PlainTerm) (n : ℕ) → ItemsAre (items_meant v t 0 n) n (item_meant v t)
items_are v t n = record { at = λ i. items_get v t 0 n i ∙ ap (λ m. found_if (nat_lt i n) (item_meant v t (pos m))) (let z : 0 + i ≡ i = omega arith in z) }

slot_index : (v : Valuation) (t : PlainTerm) (len : Option ℕ) → IsSome len → (line k : ℕ) (d : Datum) → value_of (indexed line (items_in (Some (slot_meant v t len))) d k) ≡ with_left (record { place = place_of d; value = item_meant v t (number_of d) }) (left (is_index len d) k)
slot_index v t None i line k d = cc
slot_index v t (Some n) i line k d = indexed_is line n k (items_meant v t 0 n) (item_meant v t) (items_are v t n) d

-- the item of an own array at an index
pub own_index : (h : List Object) (v : Valuation) (ts : List PlainTerm) (fs : List FieldInfo) (f : ℕ) (ty : ValueType) → FieldsTyped h v ts fs → IsArray (slice_get fs f) ty → (line k : ℕ) (d : Datum) →
    value_of (indexed line (items_in (slice_get (slots_meant v ts fs) f)) d k) ≡ with_left (record { place = place_of d; value = item_meant v (term_at ts f) (number_of d) }) (left (is_index (length_in (slice_get fs f)) d) k)
own_index h v [] [] f ty t i line k d = absurd i
own_index h v [] (x ∷ fs) f ty t i line k d = absurd t
own_index h v (y ∷ ts) [] f ty t i line k d = absurd i
own_index h v (y ∷ ts) (x ∷ fs) zero ty t i line k d = slot_index v y x.length i.1 line k d
own_index h v (y ∷ ts) (x ∷ fs) (suc f) ty t i line k d = own_index h v ts fs f ty t.1 i line k d

-- Pointers

pub pointed_then : {A : Type 0} (line k : ℕ) (d : Datum) (F : ℕ → ℕ → Out A) (x : A) (c : Option ℕ) → ((n : ℕ) → d ≡ Ref n → value_of (F n k) ≡ with_left x (left c k)) → value_of (pointed line d k >>= F) ≡ with_left x (left (plus (names_object d) c) k)
pointed_then line k (Ref n) F x c h = h n refl ∙ ap (λ z. with_left x (left z k)) (sym (none_plus c))
pointed_then line k (Long n) F x c h = refl
pointed_then line k (Truth b) F x c h = refl
pointed_then line k Null F x c h = refl

pub one_step : (k : ℕ) → value_of (take_step k) ≡ with_left tt (left (Some 1) k)
one_step zero = refl
one_step (suc k) = let e : nat_le 1 (suc k) ≡ true = grind (arith, nat_tests) in rw e (ap (λ z. Some (tt, z)) (let z : k ≡ suc k - 1 = omega arith in z))

named_class : (h : List Object) (d : Datum) (c : ClassId) (n : ℕ) → HasType h d (type.Pointer c) → d ≡ Ref n → IsOfClass (slice_get h n) c
named_class h d c n t e = subst (λ z. HasType h z (type.Pointer c)) e t

module _ (s : Environment) (v : Valuation) (runs : Runs s v) (m : PlainMethod) (typed : Typed s m)
    (st : State) (is : StateTyped s v m st) (written : List FieldId) (called : Bool)
    (is_hidden : ℕ → Bool) (ls : List Datum) (same : LocalsAre v is_hidden ls st.locals) (line : ℕ) where
  abbrev p : PlainProgram
  p = s.program

  abbrev method : Calls
  method = (functions_of p.functions s.heap).call

  abbrev here : Place
  here = section_place s.heap (Ref s.receiver) (slots_meant v st.fields (fields_in s m.class)) line ls

  -- the right side of an operator
  right_at : (op : BinaryOp) (d w : Datum) (c : Option ℕ) (o : ℕ → Out Datum) (k : ℕ) → Fine op w → ((j : ℕ) → j ≤ k → value_of (o j) ≡ with_left w (left c j)) → value_of (o k >>= λ w k. answer line (operated op d w) k) ≡ with_left (operate op d w) (left c k)
  right_at op d w c o k u f =
      then_value (o k) (λ x j. answer line (operated op d x) j) w _ c (Some 0) k (f k (omega arith)) (λ j i. ap value_of (operated_gives op line j d w u) ∙ free _ j) ∙ ap (λ z. with_left (operate op d w) (left z k)) (plus_none c)

  side_at : (op : BinaryOp) (d w : Datum) (q : Option Datum) (c : Option ℕ) (o : ℕ → Out Datum) (k : ℕ) → Fine op w → BothTruths op d w → decided op d ≡ q → ((x : Datum) → q ≡ Some x → c ≡ Some 0) → (q ≡ None → (j : ℕ) → j ≤ k → value_of (o j) ≡ with_left w (left c j)) →
      value_of (unless_decided q k (o k >>= λ w k. answer line (operated op d w) k)) ≡ with_left (operate op d w) (left c k)
  side_at op d w (Some x) c o k u b e f n = free x k ∙ ap₂ (λ y z. with_left y (left z k)) (sym (decides_alone op d w x b e)) (sym (f x refl))
  side_at op d w None c o k u b e f n = right_at op d w c o k u (n refl)

  same_length : (f : FieldId) → Some m.class ≡ Some f.class → length_in (slice_get (fields_in s m.class) f.field) ≡ length_in (field_info p f)
  same_length f e = own_info s v runs m typed st is written called f (λ o. length_in o ≡ length_in (field_info p f)) e refl

  own_at : (f : FieldId) (ty : ValueType) → Some m.class ≡ Some f.class → IsArray (field_info p f) ty → (k : ℕ) (d : Datum) →
      value_of (indexed line (items_in (slice_get (slots_meant v st.fields (fields_in s m.class)) f.field)) d k) ≡ with_left (record { place = place_of d; value = item_meant v (term_at st.fields f.field) (number_of d) }) (left (is_index (length_in (field_info p f)) d) k)
  own_at f ty e i k d =
      own_index s.heap v st.fields (fields_in s m.class) f.field ty is.fields (own_info s v runs m typed st is written called f (λ o. IsArray o ty) e i) line k d
      ∙ ap (λ n. with_left (record { place = place_of d; value = item_meant v (term_at st.fields f.field) (number_of d) }) (left (is_index n d) k)) (same_length f e)

  abbrev Is : Expression → PlainTerm → ℕ → Type 0
  Is e g k = value_of (eval method here e k) ≡ with_left (mean v (term_of p st e)) (left (cost s v (demands_in p st g e)) k)

  abbrev Are : Expressions → PlainTerm → ℕ → Type 0
  Are es g k = value_of (eval_all method here es k) ≡ with_left (means v (terms_of p st es)) (left (cost s v (demands_in_all p st g es)) k)

  mutual
    pub eval_is : (e : Expression) (ty : ValueType) → ExpressionTyped p (scope_of m) e ty → IsClean p written called e → Unnamed is_hidden (names e) →
        (g : PlainTerm) → mean v g ≡ Truth true → (k : ℕ) → k ≤ s.steps → Is e g k
    eval_is (plain.number n) ty t c u g y k l = free (Long n) k
    eval_is (plain.truth b) ty t c u g y k l = free (Truth b) k
    eval_is plain.null ty t c u g y k l = free Null k
    eval_is this ty t c u g y k l = ap (λ d. Some (d, k)) (sym runs.receiver_is) ∙ free _ k
    eval_is (local i) ty t c u g y k l =
        ap (λ d. Some (d, k)) (hidden_at is_hidden 0 ls (map (mean v) st.locals) i.0 same (ap is_hidden (let z : 0 + i.0 ≡ i.0 = omega arith in z) ∙ shown is_hidden i.0 u) ∙ local_means v st.locals i.0) ∙ free _ k
    eval_is (own f) ty t c u g y k l =
        ap (λ d. Some (d, k)) (field_means s.heap v st.fields (fields_in s m.class) f.field ty is.fields (own_info s v runs m typed st is written called f (λ o. IsScalar o ty) t.0 t.1)) ∙ free _ k
    eval_is (own_item f i) ty t c u g y k l =
        let d : Datum = mean v (term_of p st i) in
        let x : Datum = item_meant v (term_at st.fields f.field) (number_of d) in
        let range : Option ℕ = is_index (length_in (field_info p f)) d in
        then_value (eval method here i k) _ d x (cost s v (demands_in p st g i)) range k (eval_is i type.Long t.2 c.1 u g y k l)
        (λ j h. then_value _ (λ item k. gives item.value k) _ x range (Some 0) j (own_at f ty t.0 t.1 j d) (λ a b. free x a) ∙ ap (λ z. with_left x (left z j)) (plus_none _))
        ∙ ap₂ (λ a b. with_left a (left b k)) (sym (by_number v (term_at st.fields f.field) (term_of p st i)))
        (ap (plus (cost s v (demands_in p st g i))) (sym (one_asked s v g (in_range f) (term_of p st i ∷ []) y)) ∙ sym (cost_append s v (demands_in p st g i) _))
    eval_is (plain.read e f) ty t c u g y k l =
        let d : Datum = mean v (term_of p st e) in
        let x : Datum = mean v (term_of p st (plain.read e f)) in
        let class : HasType s.heap d (type.Pointer f.class) = mean_typed s v runs m typed st is written called e (type.Pointer f.class) t.0 c.1 in
        then_value (eval method here e k) _ d x (cost s v (demands_in p st g e)) (names_object d) k (eval_is e (type.Pointer f.class) t.0 c.1 u g y k l)
        (λ j h. pointed_then line j d _ x (Some 0) (λ n a. ap (λ z. Some (z, j)) (sym (ap (λ z. v.read (sort_in (field_info p f)) z f.class.0 f.field) a ∙ runs.read_is n f ty t.1 (named_class s.heap d f.class n class a))) ∙ free x j) ∙ ap (λ z. with_left x (left z j)) (plus_none _))
        ∙ ap (λ b. with_left x (left b k)) (ap (plus (cost s v (demands_in p st g e))) (sym (one_asked s v g not_null (term_of p st e ∷ []) y)) ∙ sym (cost_append s v (demands_in p st g e) _))
    eval_is (read_item e f i) ty t c u g y k l =
        let d : Datum = mean v (term_of p st e) in
        let w : Datum = mean v (term_of p st i) in
        let x : Datum = mean v (term_of p st (read_item e f i)) in
        let class : HasType s.heap d (type.Pointer f.class) = mean_typed s v runs m typed st is written called e (type.Pointer f.class) t.0 c.1 in
        let index : HasType s.heap w type.Long = mean_typed s v runs m typed st is written called i type.Long t.2 c.2 in
        let range : Option ℕ = is_index (length_in (field_info p f)) w in
        let inner : Option ℕ = plus (cost s v (demands_in p st g i)) range in
        then_value (eval method here e k) _ d x (cost s v (demands_in p st g e)) (plus (names_object d) inner) k (eval_is e (type.Pointer f.class) t.0 c.1 (unnamed_left is_hidden (names e) (names i) u) g y k l)
        (λ j h. pointed_then line j d _ x inner (λ n a.
        then_value (eval method here i j) _ w x (cost s v (demands_in p st g i)) range j (eval_is i type.Long t.2 c.2 (unnamed_right is_hidden (names e) (names i) u) g y j (omega (arith, h, l)))
        (λ b z. runs.item_is n f ty t.1 (named_class s.heap d f.class n class a) line b w index ∙ ap (λ o. with_left (v.read_at (sort_in (field_info p f)) o f.class.0 f.field w) (left range b)) (sym a))))
        ∙ ap (λ b. with_left x (left b k))
        (ap (plus (cost s v (demands_in p st g e))) (ap₂ plus (sym (asked s v g not_null (term_of p st e ∷ []) y)) (ap (plus (cost s v (demands_in p st g i))) (sym (one_asked s v g (in_range f) (term_of p st i ∷ []) y)) ∙ sym (cost_append s v (demands_in p st g i) _)))
        ∙ sym (cost_append s v (demands_in p st g e) _))
    eval_is (value_call e n es) ty t c u g y k l =
        let d : Datum = mean v (term_of p st e) in
        let xs : List Datum = means v (terms_of p st es) in
        let x : Datum = mean v (term_of p st (value_call e n es)) in
        let class : HasType s.heap d (type.Pointer t.0) = mean_typed s v runs m typed st is written called e (type.Pointer t.0) t.3 c.1 in
        let given : ValuesTyped s.heap xs t.1 = means_typed s v runs m typed st is written called es t.1 t.4 c.2 in
        let own_cost : Option ℕ = plus (Some 1) (call_cost s n d xs) in
        let both : Option ℕ = plus (names_object d) own_cost in
        then_value (eval method here e k) _ d x (cost s v (demands_in p st g e)) (plus (cost s v (demands_in_all p st g es)) both) k (eval_is e (type.Pointer t.0) t.3 c.1 (unnamed_left is_hidden (names e) (any_names es) u) g y k l)
        (λ j h. then_value (eval_all method here es j) _ xs x (cost s v (demands_in_all p st g es)) both j (evals_are es t.1 t.4 c.2 (unnamed_right is_hidden (names e) (any_names es) u) g y j (omega (arith, h, l)))
        (λ a z. pointed_then line a d _ x own_cost (λ r b.
        then_value (take_step a) (λ _ k. method n r xs k) tt x (Some 1) (call_cost s n d xs) a (one_step a)
        (λ i w. runs.result_is n r xs t.0 t.1 ty t.2 (named_class s.heap d t.0 r class b) given i (omega (arith, w, z, h, l))
        ∙ ap (λ o. with_left (v.result (sort_of_result (slice_get p.functions n.0)) n.0 o xs) (left (call_cost s n o xs) i)) (sym b)))))
        ∙ ap (λ b. with_left x (left b k))
        (ap (plus (cost s v (demands_in p st g e))) (ap (plus (cost s v (demands_in_all p st g es)))
        (ap₂ plus (sym (asked s v g not_null (term_of p st e ∷ []) y)) (ap (λ ys. plus (Some 1) (call_cost s n d ys)) (means_are v p st es) ∙ sym (one_asked s v g (calls n) (term_of p st e ∷ terms_in p st es) y)))
        ∙ sym (cost_append s v (demands_in_all p st g es) _))
        ∙ sym (cost_append s v (demands_in p st g e) _))
    eval_is (unary op e) ty t c u g y k l =
        let d : Datum = mean v (term_of p st e) in
        then_value (eval method here e k) _ d (signed op d) (cost s v (demands_in p st g e)) (Some 0) k (eval_is e (signed_type op) t.1 c u g y k l) (λ j h. free _ j)
        ∙ ap₂ (λ a b. with_left a (left b k)) (sym (signed_means v op (term_of p st e))) (plus_none _)
    eval_is (binary op a b) ty t c u g y k l =
        let d : Datum = mean v (term_of p st a) in
        let w : Datum = mean v (term_of p st b) in
        let r : PlainTerm = right_guard op g (term_of p st a) in
        let one : HasType s.heap d t.0 = mean_typed s v runs m typed st is written called a t.0 t.2 c.1 in
        let other : HasType s.heap w t.0 = mean_typed s v runs m typed st is written called b t.0 t.3 c.2 in
        let truths : BothTruths op d w = both_truths s.heap op d w t.0 ty t.1 one other in
        let fine : Fine op w = right_fine p (scope_of m) v st op b t.0 t.3 c.0 in
        then_value (eval method here a k) _ d (operate op d w) (cost s v (demands_in p st g a)) (cost s v (demands_in p st r b)) k (eval_is a t.0 t.2 c.1 (unnamed_left is_hidden (names a) (names b) u) g y k l)
        (λ j i. side_at op d w (decided op d) (cost s v (demands_in p st r b)) (λ z. eval method here b z) j fine truths refl
        (λ x e. (off_expression s v p st b r (decided_off v op g (term_of p st a) x y e)).free)
        (λ e n z. eval_is b t.0 t.3 c.2 (unnamed_right is_hidden (names a) (names b) u) r (guard_on v op g (term_of p st a) w y truths e) n (omega (arith, i, z, l))))
        ∙ ap₂ (λ x z. with_left x (left z k)) (sym (operation_means s.heap p (scope_of m) v st op (term_of p st a) b t.0 ty t.1 c.0 one other)) (sym (cost_append s v (demands_in p st g a) _))

    pub evals_are : (es : Expressions) (tys : List ValueType) → ExpressionsTyped p (scope_of m) es tys → AreClean p written called es → Unnamed is_hidden (any_names es) →
        (g : PlainTerm) → mean v g ≡ Truth true → (k : ℕ) → k ≤ s.steps → Are es g k
    evals_are no_expressions tys t c u g y k l = free [] k
    evals_are (expression_and e es) tys t c u g y k l =
        let d : Datum = mean v (term_of p st e) in
        let xs : List Datum = means v (terms_of p st es) in
        then_value (eval method here e k) _ d (d ∷ xs) (cost s v (demands_in p st g e)) (cost s v (demands_in_all p st g es)) k (eval_is e t.0 t.3 c.0 (unnamed_left is_hidden (names e) (any_names es) u) g y k l)
        (λ j i. then_value (eval_all method here es j) _ xs (d ∷ xs) (cost s v (demands_in_all p st g es)) (Some 0) j (evals_are es t.1 t.4 c.1 (unnamed_right is_hidden (names e) (any_names es) u) g y j (omega (arith, i, l))) (λ a b. free (d ∷ xs) a) ∙ ap (λ z. with_left (d ∷ xs) (left z j)) (plus_none _))
        ∙ ap (λ z. with_left (d ∷ xs) (left z k)) (sym (cost_append s v (demands_in p st g e) _))
