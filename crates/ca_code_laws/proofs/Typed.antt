-- In a typed program each expression has the kind of its type, and each value that it comes to has that kind.
use Rattle.std.proofs.Common.{◌≡◌, ℕ, zero, suc, ◌+◌, ◌<◌, ◌≤◌, List, [], ◌∷◌, length, take, drop, map, Option, Some, None, refl, sym, ap, ◌∙◌, subst, arith}
use Rattle.std.specs.Prelude.{true, ◌&&◌, slice_get}
use Rattle.std.proofs.lemmas.Option.{slice_get_within}
use Rattle.ca_tree.specs.declared.tree.UnaryOp.{UnaryOp}
use Rattle.ca_tree.specs.declared.tree.UnaryOp.TheVariants as one
use Rattle.ca_tree.specs.declared.tree.BinaryOp.{BinaryOp}
use Rattle.ca_tree.specs.declared.tree.BinaryOp.TheVariants as two
use Rattle.ca_program.specs.declared.program.ClassId.{ClassId}
use Rattle.ca_program.specs.declared.program.FieldInfo.{FieldInfo}
use Rattle.ca_program.specs.declared.program.ValueType.{ValueType}
use Rattle.ca_program.specs.declared.program.ValueType.TheVariants.{Long as LongType, Bool as BoolType, Pointer}
use Rattle.ca_program.specs.Plain.{PlainProgram, PlainMethod, Expression, Expressions, number, truth, null, this, local, own, own_item, read, read_item, value_call, unary, binary, no_expressions, expression_and}
use Rattle.ca_program.specs.Kinds.{Kind, kind_type, kind_at, field_kind, param_kind, result_kind, kinds_in, unary_kind, binary_kind, kind_of}
use Rattle.ca_program.specs.Layout.{width_of, is_lazy, stands}
use Rattle.ca_model.specs.declared.value.Value.{Value as Datum}
use Rattle.ca_model.specs.declared.value.Value.TheVariants.{Long, Bool as Truth, Null, Ref}
use Rattle.ca_model.specs.declared.value.Object.{Object}
use Rattle.ca_model.specs.Typed.{IsOfClass, HasType}
use Rattle.ca_meaning.specs.Expressions.{Out, gives, traps, over, ◌>>=◌}
use Rattle.ca_meaning.specs.Flows.{Flow, goes_on, gives_back, stops, runs_out}
use Rattle.ca_meaning.specs.WellTyped.{ValuesTyped, parameters_of, CallTyped}
use Rattle.ca_meaning.specs.ProgramTyped.{Scope, IsFunction, IsOperation, ExpressionTyped, ExpressionsTyped, IsScalar, IsArray, SidesTyped, signed_type}
use Rattle.ca_meaning_laws.specs.Typed.{Yields, yields, yields_trap, yields_over, FlowTyped, goes_on_typed}
use Rattle.ca_code_laws.specs.Fitting.{AreOf}
use Rattle.ca_code_laws.specs.Words.{has_kind, all_have}
use Rattle.ca_code_laws.proofs.Steps.{length_taken, Goes}

length_dropped : {A : Type 0} (n : ℕ) (xs : List A) → n ≤ length xs → n + length (drop n xs) ≡ length xs
length_dropped zero [] le = refl
length_dropped zero (x ∷ xs) le = omega arith
length_dropped (suc n) [] le = absurd (omega (arith, le))
length_dropped (suc n) (x ∷ xs) le = let e : n + length (drop n xs) ≡ length xs = length_dropped n xs (omega (arith, le)) in omega (arith, e)

pub width_is : (m : PlainMethod) → m.params ≤ length m.body.locals → width_of m ≡ length m.body.locals
width_is m le = length_dropped m.params m.body.locals le

-- ---- a value of a type has its kind

pub of_kind : (h : List Object) (v : Datum) (ty : ValueType) → HasType h v ty → has_kind (kind_type ty) v ≡ true
of_kind h (Long n) LongType t = refl
of_kind h (Long n) BoolType t = absurd t
of_kind h (Long n) (Pointer c) t = absurd t
of_kind h (Truth b) LongType t = absurd t
of_kind h (Truth b) BoolType t = refl
of_kind h (Truth b) (Pointer c) t = absurd t
of_kind h Null LongType t = absurd t
of_kind h Null BoolType t = absurd t
of_kind h Null (Pointer c) t = refl
of_kind h (Ref n) LongType t = absurd t
of_kind h (Ref n) BoolType t = absurd t
of_kind h (Ref n) (Pointer c) t = refl

pub all_of_kind : (h : List Object) (vs : List Datum) (tys : List ValueType) → ValuesTyped h vs tys → all_have (map kind_type tys) vs ≡ true
all_of_kind h [] [] t = refl
all_of_kind h [] (ty ∷ tys) t = absurd t
all_of_kind h (v ∷ vs) [] t = absurd t
all_of_kind h (v ∷ vs) (ty ∷ tys) t = ap (λ b. b && all_have (map kind_type tys) vs) (of_kind h v ty t.0) ∙ all_of_kind h vs tys t.1

pub values_counted : (h : List Object) (vs : List Datum) (tys : List ValueType) → ValuesTyped h vs tys → length vs ≡ length tys
values_counted h [] [] t = refl
values_counted h [] (ty ∷ tys) t = absurd t
values_counted h (v ∷ vs) [] t = absurd t
values_counted h (v ∷ vs) (ty ∷ tys) t = ap suc (values_counted h vs tys t.1)

-- as many arguments as parameters
pub arguments_counted : (h : List Object) (m : PlainMethod) (vs : List Datum) → m.params ≤ length m.body.locals → ValuesTyped h vs (parameters_of m) → m.params ≡ length vs
arguments_counted h m vs le t = sym (values_counted h vs (parameters_of m) t ∙ length_taken m.params m.body.locals le)

-- what an evaluation gives
pub given : {A : Type 0} (P : A → Type 0) (o : Out A) (v : A) (k : ℕ) → Yields P o → o ≡ gives v k → P v
given P o v k (yields w j t) e = let same : w ≡ v = cc in subst P same t
given P o v k (yields_trap t) e = cc
given P o v k yields_over e = cc

-- the value that an evaluation gives, if it gives one, has the kind
abbrev pub Kinded : Kind → Out Datum → Type 0
Kinded κ (gives v k) = has_kind κ v ≡ true
Kinded κ (traps t) = Unit {0}
Kinded κ over = Unit {0}

pub kinded : (h : List Object) (κ : Kind) (ty : ValueType) (o : Out Datum) → κ ≡ kind_type ty → Yields (λ v. HasType h v ty) o → Kinded κ o
kinded h κ ty (gives v k) same (yields _ _ t) = ap (λ y. has_kind y v) same ∙ of_kind h v ty t
kinded h κ ty (traps t) same y = tt
kinded h κ ty over same y = tt

-- what comes behind an evaluation
pub behind : {A : Type 0} (κ : Kind) (o : Out A) (g : A → ℕ → Out Datum) (v : A) (k : ℕ) → o ≡ gives v k → Kinded κ (o >>= g) → Kinded κ (g v k)
behind κ o g v k e t = subst (λ z. Kinded κ (z >>= g)) e t

-- a statement that goes on leaves a good state and typed locals
abbrev pub Sound : {P : Type 0} → (P → List Object) → (P → Type 0) → Scope → List Datum → P → Type 0
Sound heap Good s ls x = Good x × ValuesTyped (heap x) ls s.locals

pub goes_sound : {P : Type 0} (heap : P → List Object) (Good : P → Type 0) (s : Scope) (h : List Object) (o : Flow P) → FlowTyped heap Good s h o → Goes (Sound heap Good s) o
goes_sound heap Good s h (goes_on ls x k) (goes_on_typed _ _ _ good ext t) = (good, t)
goes_sound heap Good s h (gives_back v x k) f = tt
goes_sound heap Good s h (stops t x) f = tt
goes_sound heap Good s h (runs_out x) f = tt

-- ---- kinds are those of types

scalar_kind : (o : Option FieldInfo) (ty : ValueType) → IsScalar o ty → field_kind o ≡ kind_type ty
scalar_kind None ty t = absurd t
scalar_kind (Some f) ty t = ap kind_type t.0

array_kind : (o : Option FieldInfo) (ty : ValueType) → IsArray o ty → field_kind o ≡ kind_type ty
array_kind None ty t = absurd t
array_kind (Some f) ty t = ap kind_type t.0

function_kind : (o : Option PlainMethod) (c : ClassId) (tys : List ValueType) (ty : ValueType) → IsFunction o c tys ty → result_kind o ≡ kind_type ty
function_kind None c tys ty t = absurd t
function_kind (Some m) c tys ty t = ap kind_at t.2

pub signed_kind : (op : UnaryOp) → unary_kind op ≡ kind_type (signed_type op)
signed_kind one.Minus = refl
signed_kind one.Not = refl

-- one row an operator
sides_kind : (op : BinaryOp) (side ty : ValueType) → SidesTyped op side ty → binary_kind op ≡ kind_type ty
sides_kind two.Or side ty t = sym (ap kind_type t.1)
sides_kind two.And side ty t = sym (ap kind_type t.1)
sides_kind two.Equal side ty t = sym (ap kind_type t)
sides_kind two.NotEqual side ty t = sym (ap kind_type t)
sides_kind two.Less side ty t = sym (ap kind_type t.1)
sides_kind two.Greater side ty t = sym (ap kind_type t.1)
sides_kind two.LessEqual side ty t = sym (ap kind_type t.1)
sides_kind two.GreaterEqual side ty t = sym (ap kind_type t.1)
sides_kind two.Plus side ty t = sym (ap kind_type t.1)
sides_kind two.Minus side ty t = sym (ap kind_type t.1)
sides_kind two.Times side ty t = sym (ap kind_type t.1)
sides_kind two.Divide side ty t = sym (ap kind_type t.1)
sides_kind two.Remainder side ty t = sym (ap kind_type t.1)
sides_kind two.BitAnd side ty t = sym (ap kind_type t.1)
sides_kind two.BitOr side ty t = sym (ap kind_type t.1)
sides_kind two.BitXor side ty t = sym (ap kind_type t.1)
sides_kind two.Max side ty t = sym (ap kind_type t.1)
sides_kind two.Min side ty t = sym (ap kind_type t.1)

pub lazy_side : (op : BinaryOp) (side ty : ValueType) → SidesTyped op side ty → is_lazy op ≡ true → side ≡ BoolType
lazy_side two.Or side ty t e = t.0
lazy_side two.And side ty t e = t.0
lazy_side other side ty t e = cc

taken : (n : ℕ) (tys : List ValueType) (i : ℕ) (ty : ValueType) → slice_get (take n tys) i ≡ Some ty → slice_get tys i ≡ Some ty
taken zero [] i ty e = e
taken zero (x ∷ tys) i ty e = cc
taken (suc n) [] i ty e = e
taken (suc n) (x ∷ tys) zero ty e = e
taken (suc n) (x ∷ tys) (suc i) ty e = taken n tys i ty e

params_are : (m : PlainMethod) (tys : List ValueType) → parameters_of m ≡ tys → (i : ℕ) (ty : ValueType) → slice_get tys i ≡ Some ty → kind_at (slice_get m.body.locals i) ≡ kind_type ty
params_are m tys same i ty e = ap kind_at (taken m.params m.body.locals i ty (ap (λ z. slice_get z i) same ∙ e))

pub function_params : (o : Option PlainMethod) (c : ClassId) (tys : List ValueType) (result : ValueType) → IsFunction o c tys result → (i : ℕ) (ty : ValueType) → slice_get tys i ≡ Some ty → param_kind o i ≡ kind_type ty
function_params None c tys result t i ty e = absurd t
function_params (Some m) c tys result t i ty e = params_are m tys t.1 i ty e

pub operation_params : (o : Option PlainMethod) (c : ClassId) (tys : List ValueType) → IsOperation o c tys → (i : ℕ) (ty : ValueType) → slice_get tys i ≡ Some ty → param_kind o i ≡ kind_type ty
operation_params None c tys t i ty e = absurd t
operation_params (Some m) c tys t i ty e = params_are m tys t.1 i ty e

-- a call of a method that is there is typed
pub function_call : (h : List Object) (o : Option PlainMethod) (c : ClassId) (tys : List ValueType) (ty : ValueType) (n : ℕ) (vs : List Datum) → IsFunction o c tys ty → IsOfClass (slice_get h n) c → ValuesTyped h vs tys → CallTyped h o n vs
function_call h None c tys ty n vs f e t = absurd f
function_call h (Some m) c tys ty n vs f e t = (subst (λ z. IsOfClass (slice_get h n) z) (sym f.0) e, subst (λ z. ValuesTyped h vs z) (sym f.1) t)

pub operation_call : (h : List Object) (o : Option PlainMethod) (c : ClassId) (tys : List ValueType) (n : ℕ) (vs : List Datum) → IsOperation o c tys → IsOfClass (slice_get h n) c → ValuesTyped h vs tys → CallTyped h o n vs
operation_call h None c tys n vs f e t = absurd f
operation_call h (Some m) c tys n vs f e t = (subst (λ z. IsOfClass (slice_get h n) z) (sym f.0) e, subst (λ z. ValuesTyped h vs z) (sym f.1) t)

module _ (p : PlainProgram) (s : Scope) where
  pub kind_is : (e : Expression) (ty : ValueType) → ExpressionTyped p s e ty → kind_of (kinds_in p s.locals) e ≡ kind_type ty
  kind_is (number n) ty t = sym (ap kind_type t.0)
  kind_is (truth b) ty t = sym (ap kind_type t)
  kind_is null ty t = sym (ap kind_type t.1)
  kind_is this ty t = sym (ap kind_type t.1)
  kind_is (local l) ty t = ap kind_at t
  kind_is (own f) ty t = scalar_kind _ ty t.1
  kind_is (own_item f i) ty t = array_kind _ ty t.1
  kind_is (read e f) ty t = scalar_kind _ ty t.1
  kind_is (read_item e f i) ty t = array_kind _ ty t.1
  kind_is (value_call e m es) ty t = function_kind _ t.0 t.1 ty t.2
  kind_is (unary op e) ty t = signed_kind op ∙ sym (ap kind_type t.0)
  kind_is (binary op a b) ty t = sides_kind op t.0 ty t.1

  pub arguments_fit : (es : Expressions) (tys : List ValueType) (κs : ℕ → Kind) → ExpressionsTyped p s es tys → ((i : ℕ) (ty : ValueType) → slice_get tys i ≡ Some ty → κs i ≡ kind_type ty) → AreOf (kinds_in p s.locals) κs es
  arguments_fit no_expressions tys κs t h = tt
  arguments_fit (expression_and e es) tys κs t h =
      (kind_is e t.0 t.3 ∙ sym (h zero t.0 (ap (λ z. slice_get z zero) t.2)), arguments_fit es t.1 (λ i. κs (suc i)) t.4 (λ i ty e. h (suc i) ty (ap (λ z. slice_get z (suc i)) t.2 ∙ e)))

  -- the slot of an operand stands below the next free one
  pub slot_within : (e : Expression) (ty : ValueType) (top : ℕ) → ExpressionTyped p s e ty → length s.locals ≤ top → stands e top < top + 1
  slot_within (local l) ty top t le = omega (arith, slice_get_within s.locals l.0 ty t, le)
  slot_within other ty top t le = omega arith
