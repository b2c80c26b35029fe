-- The instructions of an expression that fits its layout do what it means, or the machine wants memory.
use Rattle.std.proofs.Common.{◌≡◌, ℕ, ◌+◌, ◌<◌, ◌≤◌, List, ◌∷◌, length, Option, Some, None, refl, sym, subst, arith, ◌⊎◌, inr}
use Rattle.std.specs.Prelude.{true, slice_get}
use Rattle.ca_program.specs.declared.program.FunctionId.{FunctionId}
use Rattle.ca_program.specs.declared.program.ValueType.{ValueType}
use Rattle.ca_program.specs.Plain.{Expression, Expressions, this, local, own, own_item, read, read_item, value_call, unary, binary, PlainMethod, PlainProgram}
use Rattle.ca_model.specs.declared.value.Value.{Value as Datum}
use Rattle.ca_model.specs.declared.value.Value.TheVariants.{Ref}
use Rattle.ca_meaning.specs.Expressions.{Place, Calls, eval, eval_all}
use Rattle.ca_program.specs.Kinds.{Kind, Kinds, kinds_in, param_kind, result_kind, kind_of}
use Rattle.ca_program.specs.Instructions.{Code, HasAt, StandsAt}
use Rattle.ca_program.specs.Layout.{stands, expression_code, expressions_code, operand_code, how_many, function_code, FunctionsLaidOut}
use Rattle.ca_code_laws.specs.Machine.{Store, Back, Accesses, State, Wanting, moved, Ends}
use Rattle.ca_code_laws.specs.Told.{Holds, Returned}
use Rattle.ca_code_laws.specs.Fitting.{Takes, AreOf, Fits, FitAll}
use Rattle.ca_code_laws.proofs.Instead.{or_wants, Gets}
use Rattle.ca_code_laws.proofs.Evaluated.{Valued, Stood, AllStood, PartsOf, Knows, expression_does, expressions_do, operand_does}

-- the slot of an operand stands below the next free one
pub fit_within : (p : PlainProgram) (tys : List ValueType) (e : Expression) (top : ℕ) → Fits p tys e → length tys ≤ top → stands e top < top + 1
fit_within p tys (local l) top t le = omega (arith, t, le)
fit_within p tys other top t le = omega arith

module _ {S : Type 0} (acc : Accesses S) (code : Code) (p : PlainProgram) (laid : FunctionsLaidOut p code) where
  -- calls of value methods with fewer than n steps left run as they mean
  abbrev pub CallsFit : S → Calls → ℕ → Type 0
  CallsFit w c n =
      (m : FunctionId) (r : ℕ) (vs : List Datum) (start base k : ℕ) (b : Back) (bs : List Back) (f : Store) → b.wants ≡ true → k < n → slice_get code.functions m.0 ≡ Some start → Takes (slice_get p.functions m.0) (length vs) → Holds (λ i. param_kind (slice_get p.functions m.0) i) f base vs → Ends acc code (record { at = start; base = base; left = k; this = Ref r; below = b ∷ bs; slots = f; world = w }) Wanting ⊎ Returned acc code (result_kind (slice_get p.functions m.0)) (record { at = start; base = base; left = k; this = Ref r; below = b ∷ bs; slots = f; world = w }) b bs (c m r vs k)

  starts : (m n : ℕ) (o : Option PlainMethod) → slice_get p.functions m ≡ o → Takes o n → (at : ℕ) × (slice_get code.functions m ≡ Some at)
  starts m n None e t = absurd t
  starts m n (Some f) e t = by (slice_get code.functions m) (laid m f e)
    where
      by : (o : Option ℕ) → StandsAt code o (function_code p f) → (at : ℕ) × (o ≡ Some at)
      by None h = absurd h
      by (Some at) h = (at, refl)

  module _ (tys : List ValueType) (s0 : State S) (c : Calls) (n : ℕ) (calls_fit : CallsFit s0.world c n) where
    -- the same body at another place, and where its expressions are evaluated
    abbrev st : ℕ → ℕ → Store → State S
    st at k f = moved s0 at k f s0.world

    abbrev pl : ℕ → List Datum → Place
    pl line ls = record { heap = acc.heap s0.world; this = s0.this; own = acc.own s0.below s0.world s0.this; locals = ls; line = line }

    abbrev ks : Kinds
    ks = kinds_in p tys

    -- as many values as locals, and as many arguments as parameters
    abbrev IsPlace : ℕ → List Datum → Type 0
    IsPlace line ls = length ls ≡ length tys

    abbrev Callable : FunctionId → ℕ → List Datum → Type 0
    Callable m r vs = Takes (slice_get p.functions m.0) (length vs)

    parts : (e : Expression) → Fits p tys e → PartsOf p tys (Fits p tys) (FitAll p tys) e
    parts (local l) t = t
    parts (own_item x i) t = t
    parts (read e x) t = t
    parts (read_item e x i) t = t
    parts (value_call e m es) t = (t.0, t.2, t.3, t.4)
    parts (unary op e) t = t
    parts (binary op a b) t = t
    parts other t = tt

    know : Knows acc code (or_wants acc code) p tys s0 c n (Fits p tys) (FitAll p tys) IsPlace Callable
    know = record {
      parts = parts;
      more = λ e es t. t;
      counted = λ line ls place. place;
      keeps = λ e t line ls place k. inr (λ s w. w);
      callable = λ e m es t line ls place k j i r vs y z many. subst (λ n. Takes (slice_get p.functions m.0) n) (sym many) t.1;
      starts = λ m r vs t. starts m.0 (length vs) (slice_get p.functions m.0) refl t;
      calls = λ m r vs start base k b bs f wants lt place call holds. calls_fit m r vs start base k b bs f wants lt place call holds;
    }

    pub expression_fits : (e : Expression) → Fits p tys e → (line to top : ℕ) (ls : List Datum) → length ls ≡ length tys → (at k : ℕ) (f : Store) → HasAt code at (expression_code ks line e to top) → length tys ≤ top → to ≤ top → k ≤ n → Holds ks.locals f s0.base ls → Gets acc code (or_wants acc code) (st at k f) (length (expression_code ks line e to top)) (Valued s0.base f to top (kind_of ks e)) (eval c (pl line ls) e k)
    expression_fits = expression_does acc code (or_wants acc code) p tys s0 c n (Fits p tys) (FitAll p tys) IsPlace Callable know

    pub expressions_fit : (es : Expressions) → FitAll p tys es → (κs : ℕ → Kind) (line top : ℕ) (ls : List Datum) → length ls ≡ length tys → (at k : ℕ) (f : Store) → HasAt code at (expressions_code ks line es top) → AreOf ks κs es → length tys ≤ top → k ≤ n → Holds ks.locals f s0.base ls → Gets acc code (or_wants acc code) (st at k f) (length (expressions_code ks line es top)) (AllStood s0.base f top (how_many es) κs) (eval_all c (pl line ls) es k)
    expressions_fit = expressions_do acc code (or_wants acc code) p tys s0 c n (Fits p tys) (FitAll p tys) IsPlace Callable know

    pub operand_fits : (e : Expression) → Fits p tys e → (line top : ℕ) (ls : List Datum) → length ls ≡ length tys → (at k : ℕ) (f : Store) → HasAt code at (operand_code ks line e top) → length tys ≤ top → k ≤ n → Holds ks.locals f s0.base ls → Gets acc code (or_wants acc code) (st at k f) (length (operand_code ks line e top)) (Stood s0.base f (stands e top) top (kind_of ks e)) (eval c (pl line ls) e k)
    operand_fits = operand_does acc code (or_wants acc code) p tys s0 c n (Fits p tys) (FitAll p tys) IsPlace Callable know
