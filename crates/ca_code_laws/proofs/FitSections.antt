-- Sections of texts that fit do what they mean, or the machine wants memory: in any heap, on any slots.
use Rattle.std.proofs.Common.{◌≡◌, ℕ, zero, suc, ◌+◌, ◌<◌, ◌≤◌, List, [], ◌++◌, length, Option, Some, None, refl, sym, ap, ◌∙◌, subst, arith, map, take, ◌⊎◌}
use Rattle.std.specs.Prelude.{true, slice_get}
use Rattle.ca_program.specs.declared.program.OpId.{OpId}
use Rattle.ca_program.specs.declared.program.ValueType.{ValueType}
use Rattle.ca_program.specs.Plain.{PlainProgram, Statement, put_field, put_item, new_local, new_field, new_item, invoke, print_value, PlainMethod}
use Rattle.ca_program.specs.Kinds.{Kind, Kinds, kind_type, kind_at, param_kind, param_kinds, kinds_in}
use Rattle.ca_program.specs.Instructions.{Invoke, Code, HasAt}
use Rattle.ca_program.specs.Layout.{all_acts, no_hands, statement_code, others_of, width_of, operation_code, FunctionsLaidOut, kinds_of, OperationsLaidOut}
use Rattle.ca_model.specs.declared.value.Value.{Value as Datum}
use Rattle.ca_model.specs.declared.value.Value.TheVariants.{Ref}
use Rattle.ca_model.specs.declared.value.Slot.{Slot}
use Rattle.ca_model.specs.declared.value.Object.{Object}
use Rattle.ca_model.specs.Slots.{start_of}
use Rattle.ca_meaning.specs.Flows.{goes_on, exec, exec_all}
use Rattle.ca_meaning.specs.Functions.{locals_of, functions_of}
use Rattle.ca_meaning.specs.Sections.{Section, with_listed, section_start, section_parts, loops_of}
use Rattle.ca_meaning.proofs.Fix.{section_loop_runs}
use Rattle.ca_code_laws.specs.Machine.{Store, State, Wanting, row, Ends, kinds_there}
use Rattle.ca_code_laws.specs.Runs.{section_access, section_outcome}
use Rattle.ca_code_laws.specs.Told.{Holds}
use Rattle.ca_code_laws.specs.Fitting.{Takes, Fits, FitAll, FitsStatement, FitsMethod, FunctionsFit}
use Rattle.ca_code_laws.proofs.Steps.{length_mapped, length_taken}
use Rattle.ca_code_laws.proofs.Typed.{width_is}
use Rattle.ca_code_laws.proofs.Executed.{LocalsAt, body_of_loop, tail_of_loop, IsLoop, IsAct, acted}
use Rattle.ca_code_laws.proofs.Acted.{Operands, acts_do, calls_do}
use Rattle.ca_code_laws.proofs.Sections.{row_is, kind_mapped, lists_call, body_ends}
use Rattle.ca_code_laws.proofs.Instead.{or_wants, Does}
use Rattle.ca_code_laws.proofs.FitValues.{CallsFit, expression_fits, expressions_fit, operand_fits, fit_within}
use Rattle.ca_code_laws.proofs.FitStatements.{PartsFit, statement_fits, statements_fit, loop_fits}
use Rattle.ca_code_laws.proofs.FitMethods.{methods_fit}

-- the arguments of a call, read as the kinds of the parameters
pub taken_are : (p : PlainProgram) (code : Code) → OperationsLaidOut p code → (op : OpId) (vs : List Datum) (f : Store) (first : ℕ) → Takes (slice_get p.ops op.0) (length vs) → Holds (λ i. param_kind (slice_get p.ops op.0) i) f first vs → row f first (kinds_there (slice_get code.params op.0)) ≡ vs
taken_are p code laid op vs f first takes holds = by (slice_get p.ops op.0) refl takes holds
  where
    by : (o : Option PlainMethod) → slice_get p.ops op.0 ≡ o → Takes o (length vs) → Holds (λ i. param_kind o i) f first vs → row f first (kinds_there (slice_get code.params op.0)) ≡ vs
    by None e t holds = absurd t
    by (Some m) e t holds =
        let many : length vs ≡ length (param_kinds m) = sym (length_mapped kind_type (take m.params m.body.locals) ∙ length_taken m.params m.body.locals t.1 ∙ t.0) in
        ap (λ y. row f first (kinds_there y)) (laid op.0 m e).1 ∙ row_is (λ i. kind_at (slice_get m.body.locals i)) (param_kinds m) vs f first many (λ i κ e. kind_mapped m.body.locals m.params i κ e) holds

module _ (p : PlainProgram) (code : Code) (fit : FunctionsFit p) (laid : FunctionsLaidOut p code) (ops_laid : OperationsLaidOut p code) (h : List Object) where
  values_fit : (n : ℕ) (x : Section) → CallsFit (section_access h) code p laid x (functions_of p.functions h).call n
  values_fit n x = methods_fit (section_access h) code p fit laid (λ b bs w me. refl) x n

  abbrev there : (me : Datum) (base at k : ℕ) → Store → Section → State Section
  there me base at k f x = record { at = at; base = base; left = k; this = me; below = []; slots = f; world = x }

  module _ (tys : List ValueType) (ret : Kind) (me : Datum) (base n top : ℕ) (wide : length tys ≡ top) where
    abbrev ks : Kinds
    ks = kinds_in p tys

    -- nothing is asked of locals and of a section
    abbrev Here : List Datum → Section → Type 0
    Here ls x = Unit {0}

    operands : Operands (section_access h) (λ (s : Section). (functions_of p.functions h).call) me [] code (or_wants (section_access h) code) ks ret base n top (Fits p tys) (FitAll p tys) Here
    operands = record {
      within = λ e t. fit_within p tys e top t (omega (arith, wide));
      room = λ line x c k. omega arith;
      operand = λ e t line free ls x at k f hc len good le left holds.
          operand_fits (section_access h) code p laid tys (there me base at k f x) (functions_of p.functions h).call n (values_fit n x) e t line free ls (len ∙ sym wide) at k f hc (omega (arith, wide, le)) left holds;
      expression = λ e t line ls x at k f hc len good left holds.
          expression_fits (section_access h) code p laid tys (there me base at k f x) (functions_of p.functions h).call n (values_fit n x) e t line top top ls (len ∙ sym wide) at k f hc (omega (arith, wide)) (omega arith) left holds;
      expressions = λ es t κs line ls x at k f hc fits len good left holds.
          expressions_fit (section_access h) code p laid tys (there me base at k f x) (functions_of p.functions h).call n (values_fit n x) es t κs line (top + 1) ls (len ∙ sym wide) at k f hc fits (omega (arith, wide)) left holds;
    }

    acts_fit : (s : Statement) (line : ℕ) (ls : List Datum) (x : Section) (at k : ℕ) (f : Store) → IsAct s → HasAt code at (all_acts ks line s top) → FitsStatement p tys true ret s → length ls ≡ top → k ≤ n → Holds ks.locals f base ls → Does (section_access h) code (or_wants (section_access h) code) (λ (s : Section). s) ret (there me base at k f x) (length (all_acts ks line s top)) (LocalsAt ks base top) (acted (section_parts p h me) line ls x s k)
    acts_fit (invoke own e op es) line ls x at k f is hc t len left holds =
        calls_do (section_access h) (λ (s : Section). (functions_of p.functions h).call) me [] code (or_wants (section_access h) code) ks ret base n top (Fits p tys) (FitAll p tys) Here operands Invoke (λ ls i x k. goes_on ls (with_listed x i) k) e op es line ls x k
        (λ v vs j i at f y z many hi is arguments le locals.
        lists_call code h (or_wants (section_access h) code) ret me base ks top line op ls vs v x at i f hi is (taken_are p code ops_laid op vs f (base + (top + 1)) (subst (λ z. Takes (slice_get p.ops op.0) z) (sym many) t.1) arguments) (locals, len))
        t.0 t.2 t.3 t.4 at f hc len tt left holds
    acts_fit (put_field own y op e) line ls x at k f is hc t len left holds =
        acts_do (section_access h) (λ (s : Section). (functions_of p.functions h).call) me [] code (or_wants (section_access h) code) ks ret base n top (Fits p tys) (FitAll p tys) Here operands (put_field own y op e) line ls x at k f t hc len tt left holds
    acts_fit (put_item own y i op e) line ls x at k f is hc t len left holds =
        acts_do (section_access h) (λ (s : Section). (functions_of p.functions h).call) me [] code (or_wants (section_access h) code) ks ret base n top (Fits p tys) (FitAll p tys) Here operands (put_item own y i op e) line ls x at k f t hc len tt left holds
    acts_fit (new_local own y c) line ls x at k f is hc t len left holds = absurd t
    acts_fit (new_field own y c) line ls x at k f is hc t len left holds = absurd t
    acts_fit (new_item own y i c) line ls x at k f is hc t len left holds = absurd t
    acts_fit (print_value own e) line ls x at k f is hc t len left holds = absurd t
    acts_fit other line ls x at k f is hc t len left holds = absurd is

  -- loops that come again with fewer than n steps left
  abbrev AgainsFit : ℕ → Type 0
  AgainsFit n =
      (tys : List ValueType) (ret : Kind) (me : Datum) (base top : ℕ) → length tys ≡ top → (s : Statement) (line : ℕ) (ls : List Datum) (x : Section) (at k : ℕ) (f : Store) → IsLoop s → HasAt code at (body_of_loop (kinds_in p tys) (all_acts (kinds_in p tys)) no_hands line s top ++ tail_of_loop (kinds_in p tys) (all_acts (kinds_in p tys)) no_hands line s top) → FitsStatement p tys true ret s → length ls ≡ top → k < n → Holds (kinds_in p tys).locals f base ls → Does (section_access h) code (or_wants (section_access h) code) (λ (s : Section). s) ret (there me base (at + length (body_of_loop (kinds_in p tys) (all_acts (kinds_in p tys)) no_hands line s top)) k f x) (length (tail_of_loop (kinds_in p tys) (all_acts (kinds_in p tys)) no_hands line s top)) (LocalsAt (kinds_in p tys) base top) (loops_of p h me line ls x s k)

  parts_fit : (n : ℕ) → AgainsFit n → (tys : List ValueType) (ret : Kind) (me : Datum) (base top : ℕ) → length tys ≡ top → PartsFit (section_access h) code p (λ (s : Section). s) (all_acts (kinds_in p tys)) (section_parts p h me) tys true ret me [] base n top
  parts_fit n agains tys ret me base top wide = record {
    wide = wide;
    values = λ e t line to ls x at k f hc len le left holds.
        expression_fits (section_access h) code p laid tys (there me base at k f x) (functions_of p.functions h).call n (values_fit n x) e t line to top ls (len ∙ sym wide) at k f hc (omega (arith, wide)) le left holds;
    operands = λ e t line ls x at k f hc len left holds.
        operand_fits (section_access h) code p laid tys (there me base at k f x) (functions_of p.functions h).call n (values_fit n x) e t line top ls (len ∙ sym wide) at k f hc (omega (arith, wide)) left holds;
    acting = λ s line ls x at k f is hc t len left holds. acts_fit tys ret me base n top wide s line ls x at k f is hc t len left holds;
    agains = λ s line ls x at k f is hc t len lt holds. agains tys ret me base top wide s line ls x at k f is hc t len lt holds;
    begins = λ line ls x s k plain. refl;
  }

  again_fits : (n : ℕ) → AgainsFit n
  again_fits zero tys ret me base top wide s line ls x at k f is hc t len lt holds = absurd (omega (arith, lt))
  again_fits (suc n) tys ret me base top wide s line ls x at k f is hc t len lt holds =
      subst (λ o. Does (section_access h) code (or_wants (section_access h) code) (λ (s : Section). s) ret (there me base (at + length (body_of_loop (kinds_in p tys) (all_acts (kinds_in p tys)) no_hands line s top)) k f x) (length (tail_of_loop (kinds_in p tys) (all_acts (kinds_in p tys)) no_hands line s top)) (LocalsAt (kinds_in p tys) base top) o) (sym (section_loop_runs p h me line ls x s k))
      (loop_fits (section_access h) code p (λ (s : Section). s) (all_acts (kinds_in p tys)) (section_parts p h me) tys true ret me [] base n top (parts_fit n (again_fits n) tys ret me base top wide) s line ls x at k f is hc t len (omega (arith, lt)) holds)

  -- a statement of a section, wherever its code stands: the section of a loop is one
  pub section_statement_fits : (tys : List ValueType) (ret : Kind) (me : Datum) (s : Statement) (line : ℕ) (ls : List Datum) (x : Section) (at base k : ℕ) (f : Store) → HasAt code at (statement_code (kinds_in p tys) (all_acts (kinds_in p tys)) no_hands line s (length tys)) → FitsStatement p tys true ret s → length ls ≡ length tys → Holds (kinds_in p tys).locals f base ls → Does (section_access h) code (or_wants (section_access h) code) (λ (s : Section). s) ret (there me base at k f x) (length (statement_code (kinds_in p tys) (all_acts (kinds_in p tys)) no_hands line s (length tys))) (LocalsAt (kinds_in p tys) base (length tys)) (exec (section_parts p h me) line ls x s k)
  section_statement_fits tys ret me s line ls x at base k f hc t len holds =
      statement_fits (section_access h) code p (λ (s : Section). s) (all_acts (kinds_in p tys)) (section_parts p h me) tys true ret me [] base k (length tys) (parts_fit k (again_fits k) tys ret me base (length tys) refl) s line ls x at k f hc t len (omega arith) holds

  -- the section of an operation, behind the step of its call
  pub section_fits : (m : PlainMethod) → FitsMethod p true m → (r : ℕ) (vs : List Datum) (own : List Slot) (at base k : ℕ) (f : Store) → HasAt code at (operation_code p m) → m.params ≡ length vs → Holds (kinds_of p m).locals f base vs → Ends (section_access h) code (there (Ref r) base at k f (section_start own)) Wanting ⊎ Ends (section_access h) code (there (Ref r) base at k f (section_start own)) (section_outcome (exec_all (section_parts p h (Ref r)) (locals_of (Some m) vs) (section_start own) m.body.statements k))
  section_fits m mf r vs own at base k f hc params holds =
      let x = section_start own in
      let ls = vs ++ map start_of (others_of m) in
      body_ends code h (or_wants (section_access h) code) (kind_at m.result) (Ref r) base p m vs at k f x hc params holds (exec_all (section_parts p h (Ref r)) ls x m.body.statements k)
      (λ at g hb len stood. statements_fit (section_access h) code p (λ (s : Section). s) (all_acts (kinds_of p m)) (section_parts p h (Ref r)) m.body.locals true (kind_at m.result) (Ref r) [] base k (width_of m) (parts_fit k (again_fits k) m.body.locals (kind_at m.result) (Ref r) base (width_of m) (sym (width_is m mf.parameters))) m.body.statements ls x at k g hb mf.body len (omega arith) stood)
