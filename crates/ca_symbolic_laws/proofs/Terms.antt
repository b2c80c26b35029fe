-- The terms of a typed expression mean values of its type.
use Rattle.std.proofs.Common.{◌≡◌, ℕ, zero, suc, Bool, List, [], ◌∷◌, map, Option, Some, None, ℤ, refl, sym, ap, subst}
use Rattle.std.specs.Prelude.{slice_get, IsSome}
use Rattle.ca_program.specs.declared.program.ClassId.{ClassId}
use Rattle.ca_program.specs.declared.program.FieldId.{FieldId}
use Rattle.ca_program.specs.declared.program.FieldInfo.{FieldInfo}
use Rattle.ca_program.specs.declared.program.ValueType.{ValueType}
use Rattle.ca_program.specs.declared.program.ValueType.TheVariants as type
use Rattle.ca_program.specs.Plain.{PlainProgram, PlainMethod, Expression, Expressions, this, local, own, own_item, read_item, value_call, unary, binary, no_expressions, expression_and}
use Rattle.ca_program.specs.Plain as plain
use Rattle.ca_model.specs.declared.value.Value.TheVariants.{Long, Bool as Truth, Null}
use Rattle.ca_model.specs.declared.value.Object.{Object}
use Rattle.ca_model.specs.Heaps.{fields_of}
use Rattle.ca_model.specs.Typed.{IsOfClass, HasType}
use Rattle.ca_meaning.specs.WellTyped.{ValuesTyped}
use Rattle.ca_meaning.specs.ProgramTyped.{IsScalar, IsArray, field_info, signed_type, ExpressionTyped, ExpressionsTyped, scope_of}
use Rattle.ca_meaning_laws.proofs.Values.{signed_typed}
use Rattle.ca_parallel.specs.Separable.{IsClean, AreClean}
use Rattle.ca_norm.specs.Terms.{PlainTerm}
use Rattle.ca_norm.specs.Meanings.{Valuation, mean, means}
use Rattle.ca_norm.specs.Environments.{Environment}
use Rattle.ca_symbolic.specs.States.{State, receiver, term_at}
use Rattle.ca_symbolic.specs.Execution.{term_of, terms_of}
use Rattle.ca_symbolic.specs.Demands.{terms_in}
use Rattle.ca_symbolic_laws.specs.Meant.{item_meant, TermTyped, FieldsTyped, LocalsTyped}
use Rattle.ca_symbolic_laws.specs.Laws.{fields_in, Typed, StateTyped}
use Rattle.ca_symbolic_laws.proofs.Indexes.{number_of}
use Rattle.ca_symbolic_laws.proofs.Operators.{operate_typed, operation_means, signed_means, right_fine}
use Rattle.ca_symbolic_laws.proofs.Runs.{Runs}
use Rattle.ca_symbolic_laws.proofs.Selects.{by_number}

-- Terms of fields and locals

pub local_has : (h : List Object) (v : Valuation) (ts : List PlainTerm) (tys : List ValueType) (l : ℕ) (ty : ValueType) → LocalsTyped h v ts tys → slice_get tys l ≡ Some ty → HasType h (mean v (term_at ts l)) ty
local_has h v [] [] l ty t e = cc
local_has h v [] (x ∷ tys) l ty t e = absurd t
local_has h v (y ∷ ts) [] l ty t e = absurd t
local_has h v (y ∷ ts) (x ∷ tys) zero ty t e = let same : x ≡ ty = cc in subst (λ z. HasType h (mean v y) z) same t.0
local_has h v (y ∷ ts) (x ∷ tys) (suc l) ty t e = local_has h v ts tys l ty t.1 e

one_has : (h : List Object) (v : Valuation) (t : PlainTerm) (had ty : ValueType) (len : Option ℕ) → TermTyped h v t had len → had ≡ ty → len ≡ None → HasType h (mean v t) ty
one_has h v t had ty None k e n = subst (λ z. HasType h (mean v t) z) e k
one_has h v t had ty (Some m) k e n = cc

pub field_has : (h : List Object) (v : Valuation) (ts : List PlainTerm) (fs : List FieldInfo) (f : ℕ) (ty : ValueType) → FieldsTyped h v ts fs → IsScalar (slice_get fs f) ty → HasType h (mean v (term_at ts f)) ty
field_has h v [] [] f ty t e = absurd e
field_has h v [] (x ∷ fs) f ty t e = absurd t
field_has h v (y ∷ ts) [] f ty t e = absurd t
field_has h v (y ∷ ts) (x ∷ fs) zero ty t e = one_has h v y x.ty ty x.length t.0 e.0 e.1
field_has h v (y ∷ ts) (x ∷ fs) (suc f) ty t e = field_has h v ts fs f ty t.1 e

item_of : (h : List Object) (v : Valuation) (t : PlainTerm) (had ty : ValueType) (len : Option ℕ) → TermTyped h v t had len → had ≡ ty → IsSome len → (z : ℤ) → HasType h (item_meant v t z) ty
item_of h v t had ty None k e n z = cc
item_of h v t had ty (Some m) k e n z = subst (λ y. HasType h (item_meant v t z) y) e (k z)

pub item_has : (h : List Object) (v : Valuation) (ts : List PlainTerm) (fs : List FieldInfo) (f : ℕ) (ty : ValueType) → FieldsTyped h v ts fs → IsArray (slice_get fs f) ty → (z : ℤ) → HasType h (item_meant v (term_at ts f) z) ty
item_has h v [] [] f ty t e z = absurd e
item_has h v [] (x ∷ fs) f ty t e z = absurd t
item_has h v (y ∷ ts) [] f ty t e z = absurd t
item_has h v (y ∷ ts) (x ∷ fs) zero ty t e z = item_of h v y x.ty ty x.length t.0 e.0 e.1 z
item_has h v (y ∷ ts) (x ∷ fs) (suc f) ty t e z = item_has h v ts fs f ty t.1 e z

pub means_are : (v : Valuation) (p : PlainProgram) (st : State) (es : Expressions) → means v (terms_of p st es) ≡ map (mean v) (terms_in p st es)
means_are v p st no_expressions = refl
means_are v p st (expression_and e es) = ap (λ z. mean v (term_of p st e) ∷ z) (means_are v p st es)

pub class_same : (a b : ClassId) → Some a ≡ Some b → a ≡ b
class_same a b e = cc

module _ (s : Environment) (v : Valuation) (runs : Runs s v) (m : PlainMethod) (typed : Typed s m)
    (st : State) (is : StateTyped s v m st) (written : List FieldId) (called : Bool) where
  abbrev p : PlainProgram
  p = s.program

  -- a field of the receiver's class is one of the fields of the state
  pub own_info : (f : FieldId) (P : Option FieldInfo → Type 0) → Some m.class ≡ Some f.class → P (field_info p f) → P (slice_get (fields_in s m.class) f.field)
  own_info f P e i = subst (λ c. P (slice_get (fields_of (slice_get p.classes c.0)) f.field)) (sym (class_same m.class f.class e)) i

  mutual
    pub mean_typed : (e : Expression) (ty : ValueType) → ExpressionTyped p (scope_of m) e ty → IsClean p written called e → HasType s.heap (mean v (term_of p st e)) ty
    mean_typed (plain.number n) ty t c = subst (λ z. HasType s.heap (Long n) z) (sym t.0) t.1
    mean_typed (plain.truth x) ty t c = subst (λ z. HasType s.heap (Truth x) z) (sym t) tt
    mean_typed plain.null ty t c = subst (λ z. HasType s.heap Null z) (sym t.1) tt
    mean_typed this ty t c =
        subst (λ z. HasType s.heap (mean v receiver) z) (sym t.1) (subst (λ d. HasType s.heap d (type.Pointer t.0)) (sym runs.receiver_is) (subst (λ k. IsOfClass (slice_get s.heap s.receiver) k) (class_same m.class t.0 t.2) typed.receiver))
    mean_typed (local l) ty t c = local_has s.heap v st.locals m.body.locals l.0 ty is.locals t
    mean_typed (own f) ty t c = field_has s.heap v st.fields (fields_in s m.class) f.field ty is.fields (own_info f (λ o. IsScalar o ty) t.0 t.1)
    mean_typed (own_item f i) ty t c =
        subst (λ d. HasType s.heap d ty) (sym (by_number v (term_at st.fields f.field) (term_of p st i)))
        (item_has s.heap v st.fields (fields_in s m.class) f.field ty is.fields (own_info f (λ o. IsArray o ty) t.0 t.1) (number_of (mean v (term_of p st i))))
    mean_typed (plain.read e f) ty t c = runs.read_typed (mean v (term_of p st e)) f ty t.1 (mean_typed e (type.Pointer f.class) t.0 c.1)
    mean_typed (read_item e f i) ty t c = runs.item_typed (mean v (term_of p st e)) f ty t.1 (mean_typed e (type.Pointer f.class) t.0 c.1) (mean v (term_of p st i))
    mean_typed (value_call e n es) ty t c = runs.result_typed n (mean v (term_of p st e)) (means v (terms_of p st es)) t.0 t.1 ty t.2 (mean_typed e (type.Pointer t.0) t.3 c.1) (means_typed es t.1 t.4 c.2)
    mean_typed (unary op e) ty t c =
        subst (λ z. HasType s.heap (mean v (term_of p st (unary op e))) z) (sym t.0)
        (subst (λ d. HasType s.heap d (signed_type op)) (sym (signed_means v op (term_of p st e))) (signed_typed s.heap op (mean v (term_of p st e)) (mean_typed e (signed_type op) t.1 c)))
    mean_typed (binary op a b) ty t c =
        let x : HasType s.heap (mean v (term_of p st a)) t.0 = mean_typed a t.0 t.2 c.1 in
        let y : HasType s.heap (mean v (term_of p st b)) t.0 = mean_typed b t.0 t.3 c.2 in
        subst (λ d. HasType s.heap d ty) (sym (operation_means s.heap p (scope_of m) v st op (term_of p st a) b t.0 ty t.1 c.0 x y))
        (operate_typed s.heap op (mean v (term_of p st a)) (mean v (term_of p st b)) t.0 ty t.1 x y (right_fine p (scope_of m) v st op b t.0 t.3 c.0))

    pub means_typed : (es : Expressions) (tys : List ValueType) → ExpressionsTyped p (scope_of m) es tys → AreClean p written called es → ValuesTyped s.heap (means v (terms_of p st es)) tys
    means_typed no_expressions tys t c = subst (λ z. ValuesTyped s.heap [] z) (sym t) tt
    means_typed (expression_and e es) tys t c = subst (λ z. ValuesTyped s.heap (mean v (term_of p st e) ∷ means v (terms_of p st es)) z) (sym t.2) (mean_typed e t.0 t.3 c.0, means_typed es t.1 t.4 c.1)
