-- The law of symbolic meaning, in the run of an environment.
use Rattle.std.proofs.Common.{◌≡◌, ℕ, ◌≤◌, Bool, true, false, List, [], ◌++◌, map, Option, Some, refl, sym, ap, ◌∙◌, arith}
use Rattle.ca_program.specs.declared.program.FieldId.{FieldId}
use Rattle.ca_program.specs.declared.program.OpId.{OpId}
use Rattle.ca_program.specs.Plain.{PlainMethod, Statements}
use Rattle.ca_model.specs.declared.value.Value.{Value as Datum}
use Rattle.ca_model.specs.declared.value.Value.TheVariants.{Bool as Truth, Ref}
use Rattle.ca_model.specs.declared.value.Object.{Object}
use Rattle.ca_meaning.specs.Expressions.{take_step, Invocation}
use Rattle.ca_meaning.specs.Flows.{Flow, with, exec_all}
use Rattle.ca_meaning.specs.Functions.{body_of, locals_of}
use Rattle.ca_meaning.specs.Sections.{Section, section_parts, section_start, sectioned}
use Rattle.ca_parallel.specs.Bodies.{fors_in_all}
use Rattle.ca_parallel.specs.Scoped.{any_counts, any_names_outside}
use Rattle.ca_parallel.specs.Separable.{AreSeparated}
use Rattle.ca_norm.specs.Terms.{PlainTerm}
use Rattle.ca_norm.specs.Terms as term
use Rattle.ca_norm.specs.Meanings.{Valuation, mean}
use Rattle.ca_norm.specs.Environments.{Environment}
use Rattle.ca_norm.specs.Valuations.{valuation_in}
use Rattle.ca_symbolic.specs.States.{State, PlainDemand}
use Rattle.ca_symbolic.specs.Execution.{after_all}
use Rattle.ca_symbolic.specs.Demands.{demanded_all}
use Rattle.ca_symbolic_laws.specs.Costs.{plus, left, with_left, hidden, state_of, outcome_of}
use Rattle.ca_symbolic_laws.specs.Meant.{slots_meant}
use Rattle.ca_symbolic_laws.specs.Demanded.{cost, lists}
use Rattle.ca_symbolic_laws.specs.Laws.{Typed, StateTyped, LocalsAre, Body, Called, ValuesAreMeant, StatementsAreMeant, StatesStayTyped, SectionsAreMeant, FieldsStayTyped, StartsAreMeant, ConstantsAreKept, fields_in, object_meant, section_meant, arguments_in, begun, operation_demands, fields_behind}
use Rattle.ca_symbolic_laws.proofs.Runs.{Runs, runs}
use Rattle.ca_symbolic_laws.proofs.Expressions.{one_step, eval_is}
use Rattle.ca_symbolic_laws.proofs.Typings.{typed_behind_all}
use Rattle.ca_symbolic_laws.proofs.Flows.{with_then}
use Rattle.ca_symbolic_laws.proofs.Fits.{FitAll}
use Rattle.ca_symbolic_laws.proofs.Statements.{exec_all_is}
use Rattle.ca_symbolic_laws.proofs.Sections.{outcome_at, sectioned_is, outcome_is}
use Rattle.ca_meaning.specs.Agree.{AgreesAt}
use Rattle.ca_meaning.specs.Functions.{own_of}
use Rattle.ca_symbolic_laws.proofs.LoopLaw.{Stands, loops_are_meant}
use Rattle.ca_symbolic_laws.proofs.Stands.{constants_behind, constants_behind_all, agreed, agrees_again}
use Rattle.ca_symbolic_laws.proofs.Begun.{first_mean, first_typed, starts_are_meant}

runs_in : (s : Environment) (m : PlainMethod) → Typed s m → Runs s (valuation_in s)
runs_in s m typed = runs s typed.program typed.heap

pub values_are_meant : ValuesAreMeant
values_are_meant s m typed st is e ty t written called c is_hidden u ls same g y line k l =
    eval_is s (valuation_in s) (runs_in s m typed) m typed st is written called is_hidden ls same line e ty t c u g y k l

-- Statements and sections

module _ (s : Environment) (m : PlainMethod) (typed : Typed s m) (written : List FieldId) (called : Bool) (xs : Statements) (t : ℕ → Bool)
    (b : Body s m written xs) (c : AreSeparated s.program written called xs) (counted : (n : ℕ) → any_counts xs n ≡ true → t n ≡ true) (apart : (n : ℕ) → t n ≡ true → any_names_outside xs n ≡ false) where
  abbrev v : Valuation
  v = valuation_in s

  body_fits : FitAll s m written t (fors_in_all xs) called xs
  body_fits = record { typed = b.typed; separated = c; known = b.loops; puts = b.puts; inside = λ x i. i; counted = counted; apart = apart }

  abbrev Stand : State → Type 0
  Stand st = Stands s v (runs_in s m typed) m typed written t (fors_in_all xs) b.found st

  pub body_is : (st : State) → StateTyped s v m st → AgreesAt written (object_meant s m.class st.fields) s.heap s.receiver → (ls : List Datum) → LocalsAre v t ls st.locals → (l : List Invocation) (g : PlainTerm) → mean v g ≡ Truth true → (k : ℕ) → k ≤ s.steps →
      state_of t (exec_all (section_parts s.program s.heap (Ref s.receiver)) ls (section_meant s m.class st.fields l) xs k)
      ≡ with_left (hidden t 0 (map (mean v) (after_all s.program st xs).locals), section_meant s m.class (after_all s.program st xs).fields (l ++ lists s v (demanded_all s.program st g xs))) (left (cost s v (demanded_all s.program st g xs)) k)
  body_is st is agrees ls same l g y k i =
      exec_all_is s v (runs_in s m typed) m typed written t (fors_in_all xs) Stand
      (λ x e st f at. constants_behind s.program m v (fields_in s m.class) written (own_of s.heap (Ref s.receiver)) x st f.typed f.puts at)
      (loops_are_meant s v (runs_in s m typed) m typed written t (fors_in_all xs) b.found)
      xs called body_fits st is (agreed m written (slots_meant v st.fields (fields_in s m.class)) s.heap s.receiver agrees) g y ls same l k i

pub statements_are_meant : StatementsAreMeant
statements_are_meant s m typed written called xs b c is_counter counted apart st is agrees ls same l g y k i =
    body_is s m typed written called xs is_counter b c counted apart st is agrees ls same l g y k i

pub states_stay_typed : StatesStayTyped
states_stay_typed s m typed written called xs b c st is =
    typed_behind_all s (valuation_in s) (runs_in s m typed) m typed written xs called st is b.typed c

begun_typed : (s : Environment) (written : List FieldId) (op : OpId) (m : PlainMethod) (group : ℕ) (fields : List PlainTerm) → Called s written op m group fields → StateTyped s (valuation_in s) m (begun group m fields)
begun_typed s written op m group fields c = record { fields = c.object; locals = first_typed s group m c.arguments }

pub fields_stay_typed : FieldsStayTyped
fields_stay_typed s written op m group fields c =
    (states_stay_typed s m c.typed written false m.body.statements c.body c.separable (begun group m fields) (begun_typed s written op m group fields c)).fields

-- the section of an operation
abbrev run_of : Environment → Object → List Datum → Option PlainMethod → ℕ → Flow Section
run_of s o xs m k = with (take_step k) (section_start o.slots) (λ _ k. exec_all (section_parts s.program s.heap (Ref s.receiver)) (locals_of m xs) (section_start o.slots) (body_of m) k)

pub sections_are_meant : SectionsAreMeant
sections_are_meant s written op m group fields c k i =
    let o : Object = object_meant s m.class fields in
    let xs : List Datum = arguments_in s group in
    let st : State = begun group m fields in
    let counter : ℕ → Bool = any_counts m.body.statements in
    let ds : List PlainDemand = operation_demands s group m fields in
    let w : List Datum × Section = (hidden counter 0 (map (mean (valuation_in s)) (after_all s.program st m.body.statements).locals), section_meant s m.class (fields_behind s group m fields) (lists s (valuation_in s) ds)) in
    let ran : state_of counter (run_of s o xs (Some m) k) ≡ with_left w (left (plus (Some 1) (cost s (valuation_in s) ds)) k) =
    with_then counter (take_step k) (section_start o.slots) (λ _ k. exec_all (section_parts s.program s.heap (Ref s.receiver)) (locals_of (Some m) xs) (section_start o.slots) m.body.statements k) tt w (Some 1) (cost s (valuation_in s) ds) k (one_step k)
    (λ j h. body_is s m c.typed written false m.body.statements counter c.body c.separable (λ n e. e) c.scoped st (begun_typed s written op m group fields c) c.agrees (locals_of (Some m) xs) (ap (hidden counter 0) (sym (first_mean s group m c.arguments))) [] (term.truth true) refl j (omega (arith, h, i))) in
    ap (λ z. outcome_of (sectioned m.class k (run_of s o xs z k))) c.method
    ∙ sectioned_is counter m.class k (run_of s o xs (Some m) k) ∙ ap (outcome_at m.class k) ran ∙ outcome_is m.class w (plus (Some 1) (cost s (valuation_in s) ds)) k

-- the object behind a section agrees on constants
pub constants_are_kept : ConstantsAreKept
constants_are_kept s written op m group fields c =
    agrees_again m written _ _ s.heap s.receiver c.agrees
    (constants_behind_all s.program m (valuation_in s) (fields_in s m.class) written (own_of s.heap (Ref s.receiver)) m.body.statements (begun group m fields) c.body.typed c.body.puts
    (agreed m written (slots_meant (valuation_in s) fields (fields_in s m.class)) s.heap s.receiver c.agrees))

pub starts_mean_the_object : StartsAreMeant
starts_mean_the_object s c o = starts_are_meant s c o
