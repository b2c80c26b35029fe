-- Sections do what they mean: the same instructions, with another access.
use Rattle.std.proofs.Common.{◌≡◌, ℕ, zero, suc, ◌+◌, ◌<◌, ◌≤◌, List, [], ◌∷◌, ◌++◌, length, Some, None, refl, sym, ap, ◌∙◌, subst, arith, length-append, map, Option, take, ◌⊎◌, ⊎_elim, inl, inr}
use Rattle.std.proofs.lemmas.Option.{none-some}
use Rattle.std.specs.Prelude.{true, false, cond, slice_get}
use Rattle.ca_program.specs.declared.program.ClassId.{ClassId}
use Rattle.ca_program.specs.declared.program.FieldId.{FieldId}
use Rattle.ca_program.specs.declared.program.OpId.{OpId}
use Rattle.ca_program.specs.declared.program.ValueType.{ValueType}
use Rattle.ca_program.specs.Plain.{PlainProgram, Statement, put_field, put_item, new_local, new_field, new_item, invoke, print_value, PlainMethod}
use Rattle.ca_program.specs.Kinds.{Kind, Kinds, as_pointer, kind_type, kind_at, param_kind, param_kinds, kinds_in}
use Rattle.ca_program.specs.Instructions.{Return, Leave, Invoke, Code, Placed, on, IsAt, HasAt, StandsAt}
use Rattle.ca_program.specs.Layout.{all_acts, no_hands, statement_code, statements_code, starts_code, others_of, width_of, operation_code, FunctionsLaidOut, kinds_of, OperationsLaidOut}
use Rattle.ca_model.specs.declared.value.Value.{Value as Datum}
use Rattle.ca_model.specs.declared.value.Value.TheVariants.{Long, Bool as Truth, Null, Ref}
use Rattle.ca_model.specs.declared.value.Slot.{Slot}
use Rattle.ca_model.specs.declared.value.Object.{Object}
use Rattle.ca_model.specs.declared.value.TrapKind.TheVariants.{NullPointer}
use Rattle.ca_model.specs.Slots.{start_of}
use Rattle.ca_model.specs.Typed.{ObjectTyped, TypedHeap}
use Rattle.ca_meaning.specs.Expressions.{gives, ◌>>=◌, trap_at, pointed, invocation}
use Rattle.ca_meaning.specs.Flows.{Flow, goes_on, gives_back, stops, runs_out, with, exec, exec_all}
use Rattle.ca_meaning.specs.Functions.{own_of, body_of, locals_of, functions_of}
use Rattle.ca_meaning.specs.Sections.{Section, with_listed, section_place, section_start, section_parts, section_run, loops_of, loop_run}
use Rattle.ca_meaning.specs.WellTyped.{ValuesTyped, CallTyped, WellTyped, IsMethodOf, IsTypedObject}
use Rattle.ca_meaning.specs.ProgramTyped.{Scope, IsOperation, StatementTyped, scope_of, ProgramTyped}
use Rattle.ca_meaning.proofs.Fix.{section_loop_runs}
use Rattle.ca_meaning_laws.specs.Typed.{IsReceiver, PlaceTyped, SectionTyped, frozen_heap}
use Rattle.ca_meaning_laws.proofs.Values.{frame_typed}
use Rattle.ca_meaning_laws.proofs.Heaps.{own_typed}
use Rattle.ca_meaning_laws.proofs.Evals.{CallsTyped}
use Rattle.ca_meaning_laws.proofs.FunctionTypes.{calls_typed}
use Rattle.ca_meaning_laws.proofs.SectionTypes.{all_section_parts_typed}
use Rattle.ca_parallel.specs.Separable.{Separable}
use Rattle.ca_code_laws.specs.Words.{read_as}
use Rattle.ca_code_laws.specs.Machine.{Store, State, Finished, Trapped, Spent, Next, after, row, act, Ends, kinds_there}
use Rattle.ca_code_laws.specs.Runs.{section_access, section_outcome}
use Rattle.ca_code_laws.specs.Told.{Passed, Holds}
use Rattle.ca_code_laws.proofs.Steps.{has_front, has_back, Within, joins_end, steps, steps_end, Flows, length_mapped}
use Rattle.ca_code_laws.proofs.Values.{CallsRun, expression_runs, operand_runs}
use Rattle.ca_code_laws.proofs.Typed.{width_is, values_counted, arguments_counted, Sound}
use Rattle.ca_code_laws.proofs.Quiet.{May, MayAll, separable_quiet}
use Rattle.ca_code_laws.proofs.Statements.{PartsRun, statement_runs, statements_run, loop_runs}
use Rattle.ca_code_laws.proofs.Executed.{LocalsAt, body_of_loop, tail_of_loop, IsLoop, IsAct, acted}
use Rattle.ca_code_laws.proofs.Methods.{begun, methods_run, other_kinds}
use Rattle.ca_code_laws.proofs.Acts.{Hands, acts_run, invokes}
use Rattle.ca_code_laws.proofs.Instead.{Otherwise, nothing_else, only, Does}

-- a row of slots
pub row_is : (κs : ℕ → Kind) (kinds : List Kind) (vs : List Datum) (f : Store) (first : ℕ) → length vs ≡ length kinds → ((i : ℕ) (κ : Kind) → slice_get kinds i ≡ Some κ → κs i ≡ κ) → Holds κs f first vs → row f first kinds ≡ vs
row_is κs [] [] f first len fits holds = refl
row_is κs [] (v ∷ vs) f first len fits holds = absurd (omega (arith, len))
row_is κs (κ ∷ kinds) [] f first len fits holds = absurd (omega (arith, len))
row_is κs (κ ∷ kinds) (v ∷ vs) f first len fits holds =
    let z : first ≡ first + 0 = omega arith in
    let here : read_as κ (f first) ≡ v = ap (λ y. read_as y (f first)) (sym (fits 0 κ refl)) ∙ ap (λ y. read_as (κs 0) (f y)) z ∙ holds zero (omega arith) in
    let rest : row f (first + 1) kinds ≡ vs = row_is (λ i. κs (suc i)) kinds vs f (first + 1) (omega (arith, len)) (λ i κ e. fits (suc i) κ e) (λ i lt. let e : first + 1 + i ≡ first + suc i = omega arith in ap (λ y. read_as (κs (suc i)) (f y)) e ∙ holds (suc i) (omega (arith, lt))) in
    ap (λ y. y ∷ row f (first + 1) kinds) here ∙ ap (λ ys. v ∷ ys) rest

pub kind_mapped : (tys : List ValueType) (n i : ℕ) (κ : Kind) → slice_get (map kind_type (take n tys)) i ≡ Some κ → kind_at (slice_get tys i) ≡ κ
kind_mapped [] zero i κ e = cc
kind_mapped [] (suc n) i κ e = cc
kind_mapped (ty ∷ tys) zero i κ e = cc
kind_mapped (ty ∷ tys) (suc n) zero κ e = some_of e
  where
    some_of : {A : Type 0} {a b : A} → Some a ≡ Some b → a ≡ b
    some_of e = cc
kind_mapped (ty ∷ tys) (suc n) (suc i) κ e = kind_mapped tys n i κ e

pub all_mapped : (tys : List ValueType) (i : ℕ) (κ : Kind) → slice_get (map kind_type tys) i ≡ Some κ → kind_at (slice_get tys i) ≡ κ
all_mapped [] i κ e = cc
all_mapped (ty ∷ tys) zero κ e = some_of e
  where
    some_of : {A : Type 0} {a b : A} → Some a ≡ Some b → a ≡ b
    some_of e = cc
all_mapped (ty ∷ tys) (suc i) κ e = all_mapped tys i κ e

-- the arguments of a call, read as the kinds of the parameters
pub arguments_are : (p : PlainProgram) (code : Code) → OperationsLaidOut p code → (h : List Object) (op : OpId) (class : ClassId) (tys : List ValueType) (vs : List Datum) (f : Store) (first : ℕ) → IsOperation (slice_get p.ops op.0) class tys → ValuesTyped h vs tys → Holds (λ i. param_kind (slice_get p.ops op.0) i) f first vs → row f first (kinds_there (slice_get code.params op.0)) ≡ vs
arguments_are p code laid h op class tys vs f first is_op of_types holds = by (slice_get p.ops op.0) refl is_op holds
  where
    by : (o : Option PlainMethod) → slice_get p.ops op.0 ≡ o → IsOperation o class tys → Holds (λ i. param_kind o i) f first vs → row f first (kinds_there (slice_get code.params op.0)) ≡ vs
    by None e t holds = absurd t
    by (Some m) e t holds =
        let many : length vs ≡ length (param_kinds m) = values_counted h vs tys of_types ∙ sym (ap length t.1) ∙ sym (length_mapped kind_type (take m.params m.body.locals)) in
        ap (λ y. row f first (kinds_there y)) (laid op.0 m e).1 ∙ row_is (λ i. kind_at (slice_get m.body.locals i)) (param_kinds m) vs f first many (λ i κ e. kind_mapped m.body.locals m.params i κ e) holds

module _ (code : Code) (h : List Object) (alt : Otherwise (section_access h) code) (κ : Kind) (me : Datum) (base : ℕ) where
  abbrev here : (at k : ℕ) → Store → Section → State Section
  here at k f x = record { at = at; base = base; left = k; this = me; below = []; slots = f; world = x }

  -- a call of an operation is listed
  pub lists_call : (ks : Kinds) (top line : ℕ) (op : OpId) (ls vs : List Datum) (v : Datum) (x : Section) (at k : ℕ) (f : Store) → IsAt code at (on line (Invoke op top)) → read_as as_pointer (f (base + top)) ≡ v → row f (base + (top + 1)) (kinds_there (slice_get code.params op.0)) ≡ vs → LocalsAt ks base top ls f → Does (section_access h) code alt (λ (s : Section). s) κ (here at k f x) 1 (LocalsAt ks base top) (with (pointed line v k >>= λ r k. gives (invocation r op vs) k) x (λ i k. goes_on ls (with_listed x i) k))
  lists_call ks top line op ls vs v x at k f hi is values locals = by v is
    where
      call : Placed
      call = on line (Invoke op top)

      does : (v : Datum) → read_as as_pointer (f (base + top)) ≡ v → (next : Next Section) → act (section_access h) code line (Some call.instruction) next (here at k f x) ≡ after (pointed line v k) x (λ r k. next (here (at + 1) k f (with_listed x (invocation r op vs))))
      does v is next = ap (λ y. after (pointed line y k) x (λ r k. next (here (at + 1) k f (with_listed x (invocation r op (row f (base + (top + 1)) (kinds_there (slice_get code.params op.0)))))))) is ∙ ap (λ y. after (pointed line v k) x (λ r k. next (here (at + 1) k f (with_listed x (invocation r op y))))) values

      by : (v : Datum) → read_as as_pointer (f (base + top)) ≡ v → Does (section_access h) code alt (λ (s : Section). s) κ (here at k f x) 1 (LocalsAt ks base top) (with (pointed line v k >>= λ r k. gives (invocation r op vs) k) x (λ i k. goes_on ls (with_listed x i) k))
      by (Ref r) is = inr (f, steps (section_access h) code (here at k f x) (here (at + 1) k f (with_listed x (invocation r op vs))) call hi (does (Ref r) is), locals, (λ j lt. refl), omega arith)
      by (Long y) is = inr (steps_end (section_access h) code (here at k f x) (Trapped (trap_at line NullPointer) x) call hi (does (Long y) is))
      by (Truth y) is = inr (steps_end (section_access h) code (here at k f x) (Trapped (trap_at line NullPointer) x) call hi (does (Truth y) is))
      by Null is = inr (steps_end (section_access h) code (here at k f x) (Trapped (trap_at line NullPointer) x) call hi (does Null is))

  -- what a section does before it leaves is how it ends
  ends : (at k : ℕ) (f : Store) (x0 : Section) (l : ℕ) (Q : List Datum → Store → Type 0) → IsAt code (at + l) (on 0 Leave) → (o : Flow Section) → Does (section_access h) code alt (λ (s : Section). s) κ (here at k f x0) l Q o → alt.there (here at k f x0) ⊎ Ends (section_access h) code (here at k f x0) (section_outcome o)
  ends at k f x0 l Q hl o (inl t) = inl t
  ends at k f x0 l Q hl (goes_on ls x j) (inr t) = inr (joins_end (section_access h) code t.1 (steps_end (section_access h) code (here (at + l) j t.0 x) (Finished x j) (on 0 Leave) hl (λ next. refl)))
  ends at k f x0 l Q hl (gives_back v x j) (inr t) = inr (joins_end (section_access h) code t.4 (steps_end (section_access h) code (here t.1 j t.0 x) (Spent x) (on t.3 (Return t.2)) t.5 (λ next. refl)))
  ends at k f x0 l Q hl (stops y x) (inr t) = inr t
  ends at k f x0 l Q hl (runs_out x) (inr t) = inr t

  -- the body of an operation: the other locals begin, and then the statements
  pub body_ends : (p : PlainProgram) (m : PlainMethod) (vs : List Datum) (at k : ℕ) (f : Store) (x : Section) → HasAt code at (operation_code p m) → m.params ≡ length vs → Holds (kinds_of p m).locals f base vs → (o : Flow Section)
      → ((at : ℕ) (f : Store) → HasAt code at (statements_code (kinds_of p m) (all_acts (kinds_of p m)) no_hands m.body.statements (width_of m)) → length (vs ++ map start_of (others_of m)) ≡ width_of m → Holds (kinds_of p m).locals f base (vs ++ map start_of (others_of m)) → Does (section_access h) code alt (λ (s : Section). s) κ (here at k f x) (length (statements_code (kinds_of p m) (all_acts (kinds_of p m)) no_hands m.body.statements (width_of m))) (LocalsAt (kinds_of p m) base (width_of m)) o)
      → alt.there (here at k f x) ⊎ Ends (section_access h) code (here at k f x) (section_outcome o)
  body_ends p m vs at k f x hc params holds o does =
      let first = starts_code m.params (others_of m) in
      let body = statements_code (kinds_of p m) (all_acts (kinds_of p m)) no_hands m.body.statements (width_of m) in
      let g = begun (section_access h) code (kinds_of p m).locals m.params (others_of m) (here at k f x) vs (sym params) (other_kinds p m) (has_front code at first (body ++ on 0 Leave ∷ []) hc) holds in
      let len : length (vs ++ map start_of (others_of m)) ≡ width_of m = omega (arith, length-append vs (map start_of (others_of m)), length_mapped start_of (others_of m), params) in
      let hb = has_back code at first (body ++ on 0 Leave ∷ []) hc in
      let behind = here (at + length first) k g.0 x in
      ⊎_elim (λ e. inl (alt.back (here at k f x) behind g.1 e)) (λ e. inr (joins_end (section_access h) code g.1 e))
      (ends (at + length first) k g.0 x (length body) (LocalsAt (kinds_of p m) base (width_of m)) (has_back code (at + length first) body (on 0 Leave ∷ []) hb).0 o (does (at + length first) g.0 (has_front code (at + length first) body (on 0 Leave ∷ []) hb) len g.2))

module _ (p : PlainProgram) (code : Code) (typed : ProgramTyped p) (laid : FunctionsLaidOut p code) (ops_laid : OperationsLaidOut p code) (h : List Object) (typed_heap : TypedHeap p h) where
  values_run : (n : ℕ) (sc : Scope) (x : Section) → SectionTyped p h sc x → CallsRun (section_access h) code p laid x (functions_of p.functions h).call n
  values_run n sc x good = methods_run (section_access h) code p typed laid (λ b bs w me. refl) x typed_heap n

  value_calls : (sc : Scope) (x : Section) → SectionTyped p h sc x → CallsTyped p h (functions_of p.functions h).call
  value_calls sc x good = calls_typed p typed h typed_heap

  places : (sc : Scope) (me : Datum) → IsReceiver h sc.class me → (line : ℕ) (ls : List Datum) (x : Section) → SectionTyped p h sc x → ValuesTyped h ls sc.locals → PlaceTyped p sc (section_place h me x.own line ls)
  places sc me receiver line ls x good v = record { heap = typed_heap; this = receiver; own = good.own; locals = v }

  room_within : (line : ℕ) (x : Section) (c : ClassId) (k : ℕ) → Within k ((section_access h).room line x c k)
  room_within line x c k = omega arith

  abbrev pub there : (me : Datum) (base at k : ℕ) → Store → Section → State Section
  there me base at k f x = record { at = at; base = base; left = k; this = me; below = []; slots = f; world = x }

  hands : (n : ℕ) (sc : Scope) (me : Datum) (receiver : IsReceiver h sc.class me) (base top : ℕ) (wide : length sc.locals ≡ top) → Hands (section_access h) code p laid sc (SectionTyped p h sc) me [] base n top wide room_within (values_run n sc) (value_calls sc) (places sc me receiver) Invoke (λ ls i x k. goes_on ls (with_listed x i) k)
  hands n sc me receiver base top wide line op class tys ls vs v x at k f hi is_op of_class of_types is holds len good left locals =
      only (lists_call code h (nothing_else (section_access h) code) (kind_at sc.result) me base (kinds_in p sc.locals) top line op ls vs v x at k f hi is (arguments_are p code ops_laid h op class tys vs f (base + (top + 1)) is_op of_types holds) (locals, len))

  abbrev AgainsRun : ℕ → Type 0
  AgainsRun n =
      (sc : Scope) (me : Datum) (base top : ℕ) → length sc.locals ≡ top → IsReceiver h sc.class me → (s : Statement) (line : ℕ) (ls : List Datum) (x : Section) (at k : ℕ) (f : Store) → IsLoop s → HasAt code at (body_of_loop (kinds_in p sc.locals) (all_acts (kinds_in p sc.locals)) no_hands line s top ++ tail_of_loop (kinds_in p sc.locals) (all_acts (kinds_in p sc.locals)) no_hands line s top) → StatementTyped p sc s → May false s → length ls ≡ top → SectionTyped p h sc x → ValuesTyped h ls sc.locals → k < n → Holds (kinds_in p sc.locals).locals f base ls → Flows (section_access h) code (λ (s : Section). s) (kind_at sc.result) (record { at = at + length (body_of_loop (kinds_in p sc.locals) (all_acts (kinds_in p sc.locals)) no_hands line s top); base = base; left = k; this = me; below = []; slots = f; world = x }) (length (tail_of_loop (kinds_in p sc.locals) (all_acts (kinds_in p sc.locals)) no_hands line s top)) (LocalsAt (kinds_in p sc.locals) base top) (loops_of p h me line ls x s k)

  parts_run : (n : ℕ) → AgainsRun n → (sc : Scope) (me : Datum) (base top : ℕ) → length sc.locals ≡ top → IsReceiver h sc.class me → PartsRun (section_access h) code p false (λ (s : Section). s) (all_acts (kinds_in p sc.locals)) no_hands (section_parts p h me) sc (frozen_heap h) (SectionTyped p h sc) me [] base n top
  parts_run n agains sc me base top wide receiver = record {
    types = all_section_parts_typed p typed h typed_heap sc me receiver;
    wide = wide;
    values = λ e ty t line to ls x at k f hc len good le left holds.
        expression_runs (section_access h) code p laid sc (there me base at k f x) (functions_of p.functions h).call n (values_run n sc x good.0) (value_calls sc x good.0) e ty t line to top ls (places sc me receiver line ls x good.0 good.1) at k f hc (omega (arith, len)) le left holds;
    operands = λ e ty t line ls x at k f hc len good left holds.
        operand_runs (section_access h) code p laid sc (there me base at k f x) (functions_of p.functions h).call n (values_run n sc x good.0) (value_calls sc x good.0) e ty t line top ls (places sc me receiver line ls x good.0 good.1) at k f hc (omega (arith, len)) left holds;
    acts = made;
    agains = λ s line ls x at k f is hc fits len good lt holds. agains sc me base top wide receiver s line ls x at k f is hc fits.0 fits.1 len good.0 good.1 lt holds;
    begins = λ line ls x s k plain e. refl;
    handed = λ line ls x s at k f plain cx e hc fits len good left holds. absurd (none-some _ e);
  }
    where
      nothing_made : {A : Type 0} → false ≡ true → A
      nothing_made e = absurd (subst (λ b. cond b ⊥ (Unit {0})) e tt)

      made : (s : Statement) (line : ℕ) (ls : List Datum) (x : Section) (at k : ℕ) (f : Store) → IsAct s → HasAt code at (all_acts (kinds_in p sc.locals) line s top) → StatementTyped p sc s × May false s → length ls ≡ top → Sound (frozen_heap h) (SectionTyped p h sc) sc ls x → k ≤ n → Holds (kinds_in p sc.locals).locals f base ls → Flows (section_access h) code (λ (s : Section). s) (kind_at sc.result) (there me base at k f x) (length (all_acts (kinds_in p sc.locals) line s top)) (LocalsAt (kinds_in p sc.locals) base top) (acted (section_parts p h me) line ls x s k)
      made (invoke l e op es) line ls x at k f is hc fits len good left holds =
          invokes (section_access h) code p laid sc (SectionTyped p h sc) me [] base n top wide room_within (values_run n sc) (value_calls sc) (places sc me receiver) Invoke (λ ls i x k. goes_on ls (with_listed x i) k) (hands n sc me receiver base top wide) e op es fits.0.0 fits.0.1 line ls x at k f hc fits.0.3 fits.0.4 fits.0.5 len good left holds
      made (put_field l y op e) line ls x at k f is hc fits len good left holds =
          acts_run (section_access h) code p laid sc (SectionTyped p h sc) me [] base n top wide room_within (values_run n sc) (value_calls sc) (places sc me receiver) (put_field l y op e) line ls x at k f tt hc fits.0 len good left holds
      made (put_item l y i op e) line ls x at k f is hc fits len good left holds =
          acts_run (section_access h) code p laid sc (SectionTyped p h sc) me [] base n top wide room_within (values_run n sc) (value_calls sc) (places sc me receiver) (put_item l y i op e) line ls x at k f tt hc fits.0 len good left holds
      made (new_local l y c) line ls x at k f is hc fits len good left holds = nothing_made fits.1
      made (new_field l y c) line ls x at k f is hc fits len good left holds = nothing_made fits.1
      made (new_item l y i c) line ls x at k f is hc fits len good left holds = nothing_made fits.1
      made (print_value l e) line ls x at k f is hc fits len good left holds = nothing_made fits.1
      made other line ls x at k f is hc fits len good left holds = absurd is

  again_runs : (n : ℕ) → AgainsRun n
  again_runs zero sc me base top wide receiver s line ls x at k f is hc t may len good v lt holds = absurd (omega (arith, lt))
  again_runs (suc n) sc me base top wide receiver s line ls x at k f is hc t may len good v lt holds =
      subst (λ o. Flows (section_access h) code (λ (s : Section). s) (kind_at sc.result) (there me base (at + length (body_of_loop (kinds_in p sc.locals) (all_acts (kinds_in p sc.locals)) no_hands line s top)) k f x) (length (tail_of_loop (kinds_in p sc.locals) (all_acts (kinds_in p sc.locals)) no_hands line s top)) (LocalsAt (kinds_in p sc.locals) base top) o) (sym (section_loop_runs p h me line ls x s k))
      (loop_runs (section_access h) code p false (λ (s : Section). s) (all_acts (kinds_in p sc.locals)) no_hands (section_parts p h me) sc (frozen_heap h) (SectionTyped p h sc) me [] base n top (parts_run n (again_runs n) sc me base top wide receiver) s line ls x at k f is hc (t, may) len (good, v) (omega (arith, lt)) holds)

  -- the body of an operation in the section of a typed call on a typed object, behind the step of the call
  body_runs : (n : ℕ) (m : PlainMethod) → slice_get p.ops n ≡ Some m → MayAll false m.body.statements → (r : ℕ) (vs : List Datum) (own : List Slot) → CallTyped h (Some m) r vs → ObjectTyped h (slice_get p.classes m.class.0) own → (at base k : ℕ) (f : Store) → HasAt code at (operation_code p m) → Holds (kinds_of p m).locals f base vs → Ends (section_access h) code (there (Ref r) base at k f (section_start own)) (section_outcome (exec_all (section_parts p h (Ref r)) (locals_of (Some m) vs) (section_start own) m.body.statements k))
  body_runs n m found may r vs own call own_typed at base k f hc holds =
      let mt = typed.ops n m found in
      let x = section_start own in
      let ls = vs ++ map start_of (others_of m) in
      let good : SectionTyped p h (scope_of m) x = record { own = own_typed; listed = tt } in
      only (body_ends code h (nothing_else (section_access h) code) (kind_at m.result) (Ref r) base p m vs at k f x hc (arguments_counted h m vs mt.method.parameters call.1) holds (exec_all (section_parts p h (Ref r)) ls x m.body.statements k)
      (λ at g hb len stood. inr (statements_run (section_access h) code p false (λ (s : Section). s) (all_acts (kinds_of p m)) no_hands (section_parts p h (Ref r)) (scope_of m) (frozen_heap h) (SectionTyped p h (scope_of m)) (Ref r) [] base k (width_of m) (parts_run k (again_runs k) (scope_of m) (Ref r) base (width_of m) (sym (width_is m mt.method.parameters)) call.0) m.body.statements ls x at k g hb (mt.method.body, may) len (good, frame_typed h vs m.params m.body.locals call.1) (omega arith) stood)))

  pub section_runs : (written : List FieldId) (op : OpId) → Separable p written op → (r : ℕ) (vs : List Datum) → WellTyped p h (invocation r op vs) → (c : ClassId) → IsMethodOf (slice_get p.ops op.0) c → (object : Object) → IsTypedObject p h c object → (start base k : ℕ) (f : Store) → slice_get code.ops op.0 ≡ Some start → Holds (λ i. param_kind (slice_get p.ops op.0) i) f base vs → Ends (section_access h) code (there (Ref r) base start k f (section_start object.slots)) (section_outcome (section_run p h (invocation r op vs) object.slots (suc k)))
  section_runs written op separable r vs well c of_class object typed_object start base k f place holds =
      by (slice_get p.ops op.0) refl (separable_quiet p written (body_of (slice_get p.ops op.0)) false separable) well of_class holds
    where
      at_its_place : (o : Option ℕ) (x : List Placed) → o ≡ Some start → StandsAt code o x → HasAt code start x
      at_its_place o x e h = subst (λ o. StandsAt code o x) e h

      by : (o : Option PlainMethod) → slice_get p.ops op.0 ≡ o → MayAll false (body_of o) → CallTyped h o r vs → IsMethodOf o c → Holds (λ i. param_kind o i) f base vs → Ends (section_access h) code (there (Ref r) base start k f (section_start object.slots)) (section_outcome (exec_all (section_parts p h (Ref r)) (locals_of o vs) (section_start object.slots) (body_of o) k))
      by None e may call is_of holds = absurd call
      by (Some m) e may call is_of holds =
          body_runs op.0 m e may r vs object.slots call (subst (λ z. ObjectTyped h (slice_get p.classes z.0) object.slots) (sym is_of) typed_object.slots) start base k f (at_its_place (slice_get code.ops op.0) (operation_code p m) place (ops_laid op.0 m e).0) holds

  -- the section of a loop, wherever its code stands
  pub section_loop_passes : (sc : Scope) (me : Datum) → IsReceiver h sc.class me → (s : Statement) → StatementTyped p sc s → May false s → (line : ℕ) (ls : List Datum) → ValuesTyped h ls sc.locals → (at base k : ℕ) (f : Store) → HasAt code at (statement_code (kinds_in p sc.locals) (all_acts (kinds_in p sc.locals)) no_hands line s (length sc.locals)) → Holds (kinds_in p sc.locals).locals f base ls → Passed (kinds_in p sc.locals).locals h code (there me base at k f (section_start (own_of h me))) (length (statement_code (kinds_in p sc.locals) (all_acts (kinds_in p sc.locals)) no_hands line s (length sc.locals))) (loop_run p h me ls line s k)
  section_loop_passes sc me receiver s t may line ls v at base k f hc holds =
      let x = section_start (own_of h me) in
      let top = length sc.locals in
      let good : SectionTyped p h sc x = record { own = own_typed p h sc.class me typed_heap receiver; listed = tt } in
      passes (exec (section_parts p h me) line ls x s k)
      (statement_runs (section_access h) code p false (λ (s : Section). s) (all_acts (kinds_in p sc.locals)) no_hands (section_parts p h me) sc (frozen_heap h) (SectionTyped p h sc) me [] base k top (parts_run k (again_runs k) sc me base top refl receiver) s line ls x at k f hc (t, may) (values_counted h ls sc.locals v) (good, v) (omega arith) holds)
    where
      n : ℕ
      n = length (statement_code (kinds_in p sc.locals) (all_acts (kinds_in p sc.locals)) no_hands line s (length sc.locals))

      passes : (o : Flow Section) → Flows (section_access h) code (λ (s : Section). s) (kind_at sc.result) (there me base at k f (section_start (own_of h me))) n (LocalsAt (kinds_in p sc.locals) base (length sc.locals)) o → Passed (kinds_in p sc.locals).locals h code (there me base at k f (section_start (own_of h me))) n o
      passes (goes_on ls y j) t = (t.0, t.1, t.2.0, t.3, t.4)
      passes (gives_back v y j) t = joins_end (section_access h) code t.4 (steps_end (section_access h) code (there me base t.1 j t.0 y) (Spent y) (on t.3 (Return t.2)) t.5 (λ next. refl))
      passes (stops y z) t = t
      passes (runs_out y) t = t
