-- Expressions of a typed program have values of their types, and the calls that they make are typed.
use Rattle.std.proofs.Common.{◌≡◌, ℕ, zero, suc, List, [], ◌∷◌, Option, Some, None, sym, subst}
use Rattle.std.specs.Prelude.{slice_get}
use Rattle.ca_program.specs.declared.program.ClassId.{ClassId}
use Rattle.ca_program.specs.declared.program.FunctionId.{FunctionId}
use Rattle.ca_program.specs.declared.program.OpId.{OpId}
use Rattle.ca_program.specs.declared.program.ValueType.{ValueType}
use Rattle.ca_program.specs.declared.program.ValueType.TheVariants.{Long as LongType, Pointer}
use Rattle.ca_program.specs.Plain.{PlainProgram, PlainMethod, Expression, Expressions, number, truth, null, this, local, own, own_item, read, read_item, value_call, unary, binary, no_expressions, expression_and}
use Rattle.ca_model.specs.declared.value.Value.{Value as Datum}
use Rattle.ca_model.specs.declared.value.Value.TheVariants.{Long, Bool as Truth, Null, Ref}
use Rattle.ca_model.specs.declared.value.Slot.{Slot}
use Rattle.ca_model.specs.declared.value.Object.{Object}
use Rattle.ca_model.specs.Typed.{IsOfClass, HasType, AllHaveType, ObjectTyped}
use Rattle.ca_meaning.specs.Operators.{signed}
use Rattle.ca_meaning.specs.Expressions.{Out, gives, traps, over, ◌>>=◌, take_step, items_in, slot_of, indexed, Place, Calls, eval, eval_all, invocation, due}
use Rattle.ca_meaning.specs.WellTyped.{ValuesTyped, CallTyped, WellTyped}
use Rattle.ca_meaning.specs.ProgramTyped.{Scope, IsFunction, IsOperation, ExpressionTyped, ExpressionsTyped, signed_type}
use Rattle.ca_meaning_laws.specs.Typed.{Yields, yields, yields_trap, yields_over, IsReceiver, OwnTyped, PlaceTyped}
use Rattle.ca_meaning_laws.proofs.Values.{answer_typed, unless_typed, signed_typed, local_typed, own_scalar, own_array, indexed_typed}
use Rattle.ca_meaning_laws.proofs.Heaps.{read_typed, items_typed, pointed_typed}

pub yields_then : {A B : Type 0} (P : A → Type 0) (Q : B → Type 0) (o : Out A) (f : A → ℕ → Out B) → Yields P o → ((v : A) (k : ℕ) → P v → Yields Q (f v k)) → Yields Q (o >>= f)
yields_then P Q (gives v k) f (yields _ _ t) h = h v k t
yields_then P Q (traps t) f y h = yields_trap t
yields_then P Q over f y h = yields_over

yields_step : {B : Type 0} (Q : B → Type 0) (k : ℕ) (f : Unit {0} → ℕ → Out B) → ((j : ℕ) → Yields Q (f tt j)) → Yields Q (take_step k >>= f)
yields_step Q zero f h = yields_over
yields_step Q (suc k) f h = h k

-- each call of a value method gives a value of its result's type
abbrev pub CallsTyped : PlainProgram → List Object → Calls → Type 0
CallsTyped p h c = (m : FunctionId) (r : ℕ) (vs : List Datum) (k : ℕ) (class : ClassId) (tys : List ValueType) (ty : ValueType) → IsFunction (slice_get p.functions m.0) class tys ty → IsOfClass (slice_get h r) class → ValuesTyped h vs tys → Yields (λ v. HasType h v ty) (c m r vs k)

receiver_type : (h : List Object) (class : Option ClassId) (r : Datum) (c : ClassId) → IsReceiver h class r → class ≡ Some c → HasType h r (Pointer c)
receiver_type h None r c t e = cc
receiver_type h (Some d) (Ref n) c t e = let same : d ≡ c = cc in subst (λ z. IsOfClass (slice_get h n) z) same t
receiver_type h (Some d) (Long n) c t e = absurd t
receiver_type h (Some d) (Truth b) c t e = absurd t
receiver_type h (Some d) Null c t e = absurd t

-- where the class is known, the own slots are those of an object of it
pub own_at : (p : PlainProgram) (h : List Object) (class : Option ClassId) (ss : List Slot) (c : ClassId) → OwnTyped p h class ss → class ≡ Some c → ObjectTyped h (slice_get p.classes c.0) ss
own_at p h None ss c t e = cc
own_at p h (Some d) ss c t e = let same : d ≡ c = cc in subst (λ z. ObjectTyped h (slice_get p.classes z.0) ss) same t

item_of : (h : List Object) (line : ℕ) (items : List Datum) (v : Datum) (k : ℕ) (ty : ValueType) → AllHaveType h items ty → Yields (λ v. HasType h v ty) (indexed line items v k >>= λ item k. gives item.value k)
item_of h line items v k ty t = yields_then (λ item. HasType h item.value ty) (λ v. HasType h v ty) (indexed line items v k) _ (indexed_typed h line items v k ty t) (λ item k hv. yields item.value k hv)

call_of : (h : List Object) (o : Option PlainMethod) (c : ClassId) (tys : List ValueType) (n : ℕ) (vs : List Datum) → IsOperation o c tys → IsOfClass (slice_get h n) c → ValuesTyped h vs tys → CallTyped h o n vs
call_of h None c tys n vs o e t = absurd o
call_of h (Some m) c tys n vs o e t = (subst (λ z. IsOfClass (slice_get h n) z) (sym o.0) e, subst (λ z. ValuesTyped h vs z) (sym o.1) t)

module _ (p : PlainProgram) (s : Scope) (q : Place) (c : Calls) (calls : CallsTyped p q.heap c) (at : PlaceTyped p s q) where
  mutual
    pub eval_typed : (e : Expression) (ty : ValueType) → ExpressionTyped p s e ty → (k : ℕ) → Yields (λ v. HasType q.heap v ty) (eval c q e k)
    eval_typed (number n) ty t k = yields (Long n) k (subst (λ z. HasType q.heap (Long n) z) (sym t.0) t.1)
    eval_typed (truth b) ty t k = yields (Truth b) k (subst (λ z. HasType q.heap (Truth b) z) (sym t) tt)
    eval_typed null ty t k = yields Null k (subst (λ z. HasType q.heap Null z) (sym t.1) tt)
    eval_typed this ty t k = yields q.this k (subst (λ z. HasType q.heap q.this z) (sym t.1) (receiver_type q.heap s.class q.this t.0 at.this t.2))
    eval_typed (local l) ty t k = yields _ k (local_typed q.heap q.locals s.locals l.0 ty at.locals t)
    eval_typed (own f) ty t k = yields _ k (own_scalar q.heap (slice_get p.classes f.class.0) q.own f.field ty (own_at p q.heap s.class q.own f.class at.own t.0) t.1)
    eval_typed (own_item f i) ty t k =
        yields_then (λ v. HasType q.heap v LongType) (λ v. HasType q.heap v ty) (eval c q i k) _ (eval_typed i LongType t.2 k)
        (λ v k1 hv. item_of q.heap q.line _ v k1 ty (own_array q.heap (slice_get p.classes f.class.0) q.own f.field ty (own_at p q.heap s.class q.own f.class at.own t.0) t.1))
    eval_typed (read e f) ty t k =
        yields_then (λ v. HasType q.heap v (Pointer f.class)) (λ v. HasType q.heap v ty) (eval c q e k) _ (eval_typed e (Pointer f.class) t.0 k)
        (λ v k1 hv. yields_then (λ n. IsOfClass (slice_get q.heap n) f.class) (λ v. HasType q.heap v ty) _ _ (pointed_typed q.heap q.line v f.class k1 hv)
        (λ n k2 e. yields _ k2 (read_typed p q.heap n f ty at.heap e t.1)))
    eval_typed (read_item e f i) ty t k =
        yields_then (λ v. HasType q.heap v (Pointer f.class)) (λ v. HasType q.heap v ty) (eval c q e k) _ (eval_typed e (Pointer f.class) t.0 k)
        (λ v k1 hv. yields_then (λ n. IsOfClass (slice_get q.heap n) f.class) (λ v. HasType q.heap v ty) _ _ (pointed_typed q.heap q.line v f.class k1 hv)
        (λ n k2 e. yields_then (λ v. HasType q.heap v LongType) (λ v. HasType q.heap v ty) (eval c q i k2) _ (eval_typed i LongType t.2 k2)
        (λ w k3 hw. item_of q.heap q.line (items_in (slot_of q.heap n f)) w k3 ty (items_typed p q.heap n f ty at.heap e t.1))))
    eval_typed (value_call e m arguments) ty t k =
        yields_then (λ v. HasType q.heap v (Pointer t.0)) (λ v. HasType q.heap v ty) (eval c q e k) _ (eval_typed e (Pointer t.0) t.3 k)
        (λ v k1 hv. yields_then (λ vs. ValuesTyped q.heap vs t.1) (λ v. HasType q.heap v ty) (eval_all c q arguments k1) _ (all_typed arguments t.1 t.4 k1)
        (λ vs k2 hvs. yields_then (λ n. IsOfClass (slice_get q.heap n) t.0) (λ v. HasType q.heap v ty) _ _ (pointed_typed q.heap q.line v t.0 k2 hv)
        (λ n k3 e. yields_step (λ v. HasType q.heap v ty) k3 _ (λ j. calls m n vs j t.0 t.1 ty t.2 e hvs))))
    eval_typed (unary op e) ty t k =
        yields_then (λ v. HasType q.heap v (signed_type op)) (λ v. HasType q.heap v ty) (eval c q e k) _ (eval_typed e (signed_type op) t.1 k)
        (λ v k1 hv. yields (signed op v) k1 (subst (λ z. HasType q.heap (signed op v) z) (sym t.0) (signed_typed q.heap op v hv)))
    eval_typed (binary op a b) ty t k =
        yields_then (λ v. HasType q.heap v t.0) (λ v. HasType q.heap v ty) (eval c q a k) _ (eval_typed a t.0 t.2 k)
        (λ v k1 hv. unless_typed q.heap op v k1 _ t.0 ty t.1
        (yields_then (λ w. HasType q.heap w t.0) (λ v. HasType q.heap v ty) (eval c q b k1) _ (eval_typed b t.0 t.3 k1)
        (λ w k2 hw. answer_typed q.heap q.line op v w t.0 ty k2 t.1 hv hw)))

    pub all_typed : (es : Expressions) (tys : List ValueType) → ExpressionsTyped p s es tys → (k : ℕ) → Yields (λ vs. ValuesTyped q.heap vs tys) (eval_all c q es k)
    all_typed no_expressions tys t k = yields [] k (subst (λ z. ValuesTyped q.heap [] z) (sym t) tt)
    all_typed (expression_and e es) tys t k =
        yields_then (λ v. HasType q.heap v t.0) (λ vs. ValuesTyped q.heap vs tys) (eval c q e k) _ (eval_typed e t.0 t.3 k)
        (λ v k1 hv. yields_then (λ vs. ValuesTyped q.heap vs t.1) (λ vs. ValuesTyped q.heap vs tys) (eval_all c q es k1) _ (all_typed es t.1 t.4 k1)
        (λ vs k2 hvs. yields (v ∷ vs) k2 (subst (λ z. ValuesTyped q.heap (v ∷ vs) z) (sym t.2) (hv, hvs))))

  -- the call that is due is well typed
  pub due_typed : (e : Expression) (op : OpId) (es : Expressions) (class : ClassId) (tys : List ValueType) → IsOperation (slice_get p.ops op.0) class tys → ExpressionTyped p s e (Pointer class) → ExpressionsTyped p s es tys → (k : ℕ) → Yields (λ i. WellTyped p q.heap i) (due c q e op es k)
  due_typed e op es class tys o te tes k =
      yields_then (λ v. HasType q.heap v (Pointer class)) (λ i. WellTyped p q.heap i) (eval c q e k) _ (eval_typed e (Pointer class) te k)
      (λ v k1 hv. yields_then (λ vs. ValuesTyped q.heap vs tys) (λ i. WellTyped p q.heap i) (eval_all c q es k1) _ (all_typed es tys tes k1)
      (λ vs k2 hvs. yields_then (λ n. IsOfClass (slice_get q.heap n) class) (λ i. WellTyped p q.heap i) _ _ (pointed_typed q.heap q.line v class k2 hv)
      (λ n k3 there. yields (invocation n op vs) k3 (call_of q.heap (slice_get p.ops op.0) class tys n vs o there hvs))))
