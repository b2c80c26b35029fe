-- The instructions of an expression of a typed program do what it means.
use Rattle.std.proofs.Common.{◌≡◌, ℕ, ◌<◌, ◌≤◌, List, ◌∷◌, length, Option, Some, None, refl, sym, ap, ◌∙◌, subst, inl, inr}
use Rattle.std.specs.Prelude.{true, slice_get}
use Rattle.std.proofs.lemmas.Option.{slice_get_within}
use Rattle.ca_program.specs.declared.program.FunctionId.{FunctionId}
use Rattle.ca_program.specs.Plain.{Expression, Expressions, this, local, own, own_item, read, read_item, value_call, unary, binary, PlainMethod, PlainProgram}
use Rattle.ca_model.specs.declared.value.Value.{Value as Datum}
use Rattle.ca_model.specs.declared.value.Value.TheVariants.{Ref}
use Rattle.ca_model.specs.declared.value.Object.{Object}
use Rattle.ca_meaning.specs.Expressions.{gives, Place, Calls, eval, eval_all}
use Rattle.ca_model.specs.Typed.{HasType}
use Rattle.ca_meaning.specs.WellTyped.{ValuesTyped, CallTyped}
use Rattle.ca_meaning.specs.ProgramTyped.{Scope, ExpressionTyped, ExpressionsTyped, signed_type}
use Rattle.ca_meaning_laws.specs.Typed.{PlaceTyped}
use Rattle.ca_meaning_laws.proofs.Evals.{CallsTyped, eval_typed, all_typed}
use Rattle.ca_program.specs.declared.program.ValueType.{ValueType}
use Rattle.ca_program.specs.declared.program.ValueType.TheVariants.{Long as LongType, Pointer}
use Rattle.ca_program.specs.Kinds.{Kind, kind_type, Kinds, kinds_in, param_kind, result_kind, kind_of}
use Rattle.ca_program.specs.Instructions.{Code, HasAt, StandsAt}
use Rattle.ca_program.specs.Layout.{stands, expression_code, expressions_code, operand_code, how_many, FunctionsLaidOut, function_code}
use Rattle.ca_code_laws.specs.Machine.{Store, Back, Accesses, State, moved}
use Rattle.ca_code_laws.specs.Told.{Holds, Returned}
use Rattle.ca_code_laws.proofs.Typed.{values_counted, given, kinded, signed_kind, lazy_side, function_params, function_call, kind_is, arguments_fit}
use Rattle.ca_code_laws.proofs.Steps.{Reaches}
use Rattle.ca_code_laws.proofs.Instead.{nothing_else, only}
use Rattle.ca_code_laws.specs.Fitting.{AreOf}
use Rattle.ca_code_laws.proofs.Evaluated.{Valued, Stood, AllStood, PartsOf, Knows, expression_does, expressions_do, operand_does}

module _ {S : Type 0} (acc : Accesses S) (code : Code) (p : PlainProgram) (laid : FunctionsLaidOut p code) where
  -- calls of value methods with fewer than n steps left run as they mean
  abbrev pub CallsRun : S → Calls → ℕ → Type 0
  CallsRun w c n =
      (m : FunctionId) (r : ℕ) (vs : List Datum) (start base k : ℕ) (b : Back) (bs : List Back) (f : Store) → b.wants ≡ true → k < n → slice_get code.functions m.0 ≡ Some start → CallTyped (acc.heap w) (slice_get p.functions m.0) r vs → Holds (λ i. param_kind (slice_get p.functions m.0) i) f base vs → Returned acc code (result_kind (slice_get p.functions m.0)) (record { at = start; base = base; left = k; this = Ref r; below = b ∷ bs; slots = f; world = w }) b bs (c m r vs k)

  starts : (h : List Object) (m r : ℕ) (vs : List Datum) (o : Option PlainMethod) → slice_get p.functions m ≡ o → CallTyped h o r vs → (at : ℕ) × (slice_get code.functions m ≡ Some at)
  starts h m r vs None e t = absurd t
  starts h m r vs (Some f) e t = by (slice_get code.functions m) (laid m f e)
    where
      by : (o : Option ℕ) → StandsAt code o (function_code p f) → (at : ℕ) × (o ≡ Some at)
      by None h = absurd h
      by (Some at) h = (at, refl)

  module _ (sc : Scope) (s0 : State S) (c : Calls) (n : ℕ) (calls_run : CallsRun s0.world c n) (calls : CallsTyped p (acc.heap s0.world) c) where
    -- the same body at another place, and where its expressions are evaluated
    abbrev st : ℕ → ℕ → Store → State S
    st at k f = moved s0 at k f s0.world

    abbrev pl : ℕ → List Datum → Place
    pl line ls = record { heap = acc.heap s0.world; this = s0.this; own = acc.own s0.below s0.world s0.this; locals = ls; line = line }

    abbrev ks : Kinds
    ks = kinds_in p sc.locals

    -- expressions of some type, places of the body, and typed calls
    abbrev E : Expression → Type 0
    E e = (ty : ValueType) × ExpressionTyped p sc e ty

    abbrev Es : Expressions → Type 0
    Es es = (tys : List ValueType) × ExpressionsTyped p sc es tys

    abbrev IsPlace : ℕ → List Datum → Type 0
    IsPlace line ls = PlaceTyped p sc (pl line ls)

    abbrev Callable : FunctionId → ℕ → List Datum → Type 0
    Callable m r vs = CallTyped (acc.heap s0.world) (slice_get p.functions m.0) r vs

    parts : (e : Expression) → E e → PartsOf p sc.locals E Es e
    parts (local l) t = slice_get_within sc.locals l.0 t.0 t.1
    parts (own_item x i) t = (kind_is p sc i LongType t.1.2, (LongType, t.1.2))
    parts (read e x) t = (kind_is p sc e (Pointer x.class) t.1.0, (Pointer x.class, t.1.0))
    parts (read_item e x i) t = (kind_is p sc e (Pointer x.class) t.1.0, kind_is p sc i LongType t.1.2, (Pointer x.class, t.1.0), (LongType, t.1.2))
    parts (value_call e m es) t =
        (kind_is p sc e (Pointer t.1.0) t.1.3, arguments_fit p sc es t.1.1 (ks.params m) t.1.4 (function_params (slice_get p.functions m.0) t.1.0 t.1.1 t.0 t.1.2), (Pointer t.1.0, t.1.3), (t.1.1, t.1.4))
    parts (unary op e) t = (kind_is p sc e (signed_type op) t.1.1 ∙ sym (signed_kind op), (signed_type op, t.1.1))
    parts (binary op a b) t = ((λ lazy. kind_is p sc a t.1.0 t.1.2 ∙ ap kind_type (lazy_side op t.1.0 t.0 t.1.1 lazy)), (t.1.0, t.1.2), (t.1.0, t.1.3))
    parts other t = tt

    -- a call whose receiver and arguments were evaluated is typed
    callable : (e : Expression) (m : FunctionId) (es : Expressions) → E (value_call e m es) → (line : ℕ) (ls : List Datum) → IsPlace line ls → (k j i r : ℕ) (vs : List Datum) → eval c (pl line ls) e k ≡ gives (Ref r) j → eval_all c (pl line ls) es j ≡ gives vs i → Callable m r vs
    callable e m es t line ls place k j i r vs y z =
        let heap = acc.heap s0.world in
        function_call heap (slice_get p.functions m.0) t.1.0 t.1.1 t.0 r vs t.1.2
        (given (λ v. HasType heap v (Pointer t.1.0)) (eval c (pl line ls) e k) (Ref r) j (eval_typed p sc (pl line ls) c calls place e (Pointer t.1.0) t.1.3 k) y)
        (given (λ vs. ValuesTyped heap vs t.1.1) (eval_all c (pl line ls) es j) vs i (all_typed p sc (pl line ls) c calls place es t.1.1 t.1.4 j) z)

    know : Knows acc code (nothing_else acc code) p sc.locals s0 c n E Es IsPlace Callable
    know = record {
      parts = parts;
      more = λ e es t. ((t.1.0, t.1.3), (t.1.1, t.1.4));
      counted = λ line ls place. values_counted (acc.heap s0.world) ls sc.locals place.locals;
      keeps = λ e t line ls place k. inl (kinded (acc.heap s0.world) (kind_of ks e) t.0 (eval c (pl line ls) e k) (kind_is p sc e t.0 t.1) (eval_typed p sc (pl line ls) c calls place e t.0 t.1 k));
      callable = λ e m es t line ls place k j i r vs y z many. callable e m es t line ls place k j i r vs y z;
      starts = λ m r vs t. starts (acc.heap s0.world) m.0 r vs (slice_get p.functions m.0) refl t;
      calls = λ m r vs start base k b bs f wants lt place call holds. inr (calls_run m r vs start base k b bs f wants lt place call holds);
    }

    few : (line top : ℕ) (ls : List Datum) → IsPlace line ls → length ls ≤ top → length sc.locals ≤ top
    few line top ls place len = subst (λ n. n ≤ top) (know.counted line ls place) len

    pub expression_runs : (e : Expression) (ty : ValueType) → ExpressionTyped p sc e ty → (line to top : ℕ) (ls : List Datum) → IsPlace line ls → (at k : ℕ) (f : Store) → HasAt code at (expression_code ks line e to top) → length ls ≤ top → to ≤ top → k ≤ n → Holds ks.locals f s0.base ls → Reaches acc code (st at k f) (length (expression_code ks line e to top)) (Valued s0.base f to top (kind_of ks e)) (eval c (pl line ls) e k)
    expression_runs e ty t line to top ls place at k f h len le left holds =
        only (expression_does acc code (nothing_else acc code) p sc.locals s0 c n E Es IsPlace Callable know e (ty, t) line to top ls place at k f h (few line top ls place len) le left holds)

    pub expressions_runs : (es : Expressions) (tys : List ValueType) → ExpressionsTyped p sc es tys → (κs : ℕ → Kind) (line top : ℕ) (ls : List Datum) → IsPlace line ls → (at k : ℕ) (f : Store) → HasAt code at (expressions_code ks line es top) → AreOf ks κs es → length ls ≤ top → k ≤ n → Holds ks.locals f s0.base ls → Reaches acc code (st at k f) (length (expressions_code ks line es top)) (AllStood s0.base f top (how_many es) κs) (eval_all c (pl line ls) es k)
    expressions_runs es tys t κs line top ls place at k f h fits len left holds =
        only (expressions_do acc code (nothing_else acc code) p sc.locals s0 c n E Es IsPlace Callable know es (tys, t) κs line top ls place at k f h fits (few line top ls place len) left holds)

    pub operand_runs : (e : Expression) (ty : ValueType) → ExpressionTyped p sc e ty → (line top : ℕ) (ls : List Datum) → IsPlace line ls → (at k : ℕ) (f : Store) → HasAt code at (operand_code ks line e top) → length ls ≤ top → k ≤ n → Holds ks.locals f s0.base ls → Reaches acc code (st at k f) (length (operand_code ks line e top)) (Stood s0.base f (stands e top) top (kind_of ks e)) (eval c (pl line ls) e k)
    operand_runs e ty t line top ls place at k f h len left holds =
        only (operand_does acc code (nothing_else acc code) p sc.locals s0 c n E Es IsPlace Callable know e (ty, t) line top ls place at k f h (few line top ls place len) left holds)
