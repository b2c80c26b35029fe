-- A state has one end, and that of `main` is the serial run's.
use Rattle.std.proofs.Common.{◌≡◌, ℕ, suc, ◌+◌, refl, sym, ap, ◌∙◌, subst, arith, List, [], Some}
use Rattle.std.specs.Prelude.{slice_get}
use Rattle.ca_program.specs.declared.program.ClassId.{ClassId}
use Rattle.ca_program.specs.declared.program.FieldId.{FieldId}
use Rattle.ca_program.specs.declared.program.OpId.{OpId}
use Rattle.ca_program.specs.Plain.{PlainProgram}
use Rattle.ca_program.specs.Kinds.{param_kind}
use Rattle.ca_program.specs.Instructions.{Code}
use Rattle.ca_program.specs.Layout.{MainLaidOut}
use Rattle.ca_model.specs.declared.value.Value.{Value as Datum}
use Rattle.ca_model.specs.declared.value.Value.TheVariants.{Ref}
use Rattle.ca_model.specs.declared.value.Object.{Object}
use Rattle.ca_model.specs.Typed.{TypedHeap}
use Rattle.ca_meaning.specs.Expressions.{Invocation, invocation}
use Rattle.ca_meaning.specs.Flows.{Flow, goes_on, gives_back, stops, runs_out}
use Rattle.ca_meaning.specs.Serial.{World, ended, operations_of, serial, main_run}
use Rattle.ca_meaning.specs.Sections.{Section, section, section_start, section_run, sectioned}
use Rattle.ca_meaning.specs.WellTyped.{WellTyped, IsMethodOf, IsTypedObject}
use Rattle.ca_meaning.specs.ProgramTyped.{ProgramTyped}
use Rattle.ca_parallel.specs.Separable.{Separable}
use Rattle.ca_code_laws.specs.Machine.{Store, Accesses, State, Outcome, runs, Comes, Ends}
use Rattle.ca_code_laws.specs.Runs.{never, section_access, section_outcome, sectioned_as, run_access, beginning, outcome_of, ended_as}
use Rattle.ca_code_laws.specs.Told.{Holds, IsLaidOut}
use Rattle.ca_code_laws.specs.Known.{IsKnown}
use Rattle.ca_code_laws.proofs.Sections.{section_runs}
use Rattle.ca_code_laws.proofs.Steps.{joins_end}
use Rattle.ca_code_laws.proofs.Operations.{calls_end, main_runs}

pub one_end : {S : Type 0} (acc : Accesses S) (code : Code) (s : State S) (o x : Outcome S) → Ends acc code s o → Ends acc code s x → o ≡ x
one_end acc code s o x a b =
    let e : a.count + suc b.count ≡ b.count + suc a.count = omega arith in
    sym (a.by b.count) ∙ ap (λ n. runs acc code n s) e ∙ b.by a.count

pub ended_is : (budget : ℕ) (o : Flow World) → ended_as budget (outcome_of o) ≡ ended budget o
ended_is budget (goes_on ls w k) = refl
ended_is budget (gives_back v w k) = refl
ended_is budget (stops t w) = refl
ended_is budget (runs_out w) = refl

-- whoever comes from the beginning to a state that ends knows how the serial run ends
pub whoever_ends : (p : PlainProgram) → ProgramTyped p → (code : Code) → IsLaidOut p code → (at budget : ℕ) → MainLaidOut p code at → (s : State World) (o : Outcome World) → Comes (run_access p) code (beginning at budget) s → Ends (run_access p) code s o → serial p budget ≡ ended_as budget o
whoever_ends p typed code is at budget main s o comes ends =
    let same = one_end (run_access p) code (beginning at budget) (outcome_of (main_run p budget)) o (main_runs never p code typed is.functions is.ops at budget main) (joins_end (run_access p) code comes ends) in
    sym (ended_is budget (main_run p budget)) ∙ ap (ended_as budget) same

-- whoever runs the body of a call with none below to its end knows the call
pub call_known : (p : PlainProgram) → ProgramTyped p → (code : Code) → IsLaidOut p code → (i : Invocation) (x : World) → TypedHeap p x.heap → WellTyped p x.heap i → (start base k : ℕ) (f : Store) → slice_get code.ops i.op.0 ≡ Some start → Holds (λ j. param_kind (slice_get p.ops i.op.0) j) f base i.arguments → (o : Outcome World) → Ends (run_access p) code (record { at = start; base = base; left = k; this = Ref i.receiver; below = []; slots = f; world = x }) o → o ≡ outcome_of ((operations_of p).invoke i x k)
call_known p typed code is i x heap well start base k f place holds o ends =
    one_end (run_access p) code (record { at = start; base = base; left = k; this = Ref i.receiver; below = []; slots = f; world = x }) o (outcome_of ((operations_of p).invoke i x k)) ends (calls_end never p code typed is.functions is.ops i x start base k f place heap well holds)

pub sectioned_is : (c : ClassId) (budget : ℕ) (o : Flow Section) → sectioned_as c budget (section_outcome o) ≡ sectioned c budget o
sectioned_is c budget (goes_on ls s k) = refl
sectioned_is c budget (gives_back v s k) = refl
sectioned_is c budget (stops t s) = refl
sectioned_is c budget (runs_out s) = refl

-- whoever runs the body behind the step of the call knows the section
pub section_ends : (p : PlainProgram) → ProgramTyped p → (code : Code) → IsLaidOut p code → (frozen : List Object) → TypedHeap p frozen → (written : List FieldId) (op : OpId) → Separable p written op → (r : ℕ) (vs : List Datum) → WellTyped p frozen (invocation r op vs) → (c : ClassId) → IsMethodOf (slice_get p.ops op.0) c → (object : Object) → IsTypedObject p frozen c object → (start base k : ℕ) (f : Store) → slice_get code.ops op.0 ≡ Some start → Holds (λ i. param_kind (slice_get p.ops op.0) i) f base vs → (o : Outcome Section) → Ends (section_access frozen) code (record { at = start; base = base; left = k; this = Ref r; below = []; slots = f; world = section_start object.slots }) o → section p frozen r object op vs (suc k) ≡ sectioned_as object.class (suc k) o
section_ends p typed code is frozen heap written op separable r vs well c of_class object typed_object start base k f place holds o ends =
    let here : State Section = record { at = start; base = base; left = k; this = Ref r; below = []; slots = f; world = section_start object.slots } in
    let run = section_run p frozen (invocation r op vs) object.slots (suc k) in
    let same = one_end (section_access frozen) code here (section_outcome run) o (section_runs p code typed is.functions is.ops frozen heap written op separable r vs well c of_class object typed_object start base k f place holds) ends in
    sym (sectioned_is object.class (suc k) run) ∙ ap (sectioned_as object.class (suc k)) same

-- what means something is an end at which no memory is wanted
pub known : (f : Flow World) → IsKnown (outcome_of f)
known (goes_on ls w k) = tt
known (gives_back v w k) = tt
known (stops t w) = tt
known (runs_out w) = tt

section_known : (f : Flow Section) → IsKnown (section_outcome f)
section_known (goes_on ls s k) = tt
section_known (gives_back v s k) = tt
section_known (stops t s) = tt
section_known (runs_out s) = tt

pub run_known : (p : PlainProgram) → ProgramTyped p → (code : Code) → IsLaidOut p code → (at budget : ℕ) → MainLaidOut p code at → (s : State World) (o : Outcome World) → Comes (run_access p) code (beginning at budget) s → Ends (run_access p) code s o → IsKnown o
run_known p typed code is at budget main s o comes ends =
    subst IsKnown (one_end (run_access p) code (beginning at budget) (outcome_of (main_run p budget)) o (main_runs never p code typed is.functions is.ops at budget main) (joins_end (run_access p) code comes ends)) (known (main_run p budget))

pub section_is_known : (p : PlainProgram) → ProgramTyped p → (code : Code) → IsLaidOut p code → (frozen : List Object) → TypedHeap p frozen → (written : List FieldId) (op : OpId) → Separable p written op → (r : ℕ) (vs : List Datum) → WellTyped p frozen (invocation r op vs) → (c : ClassId) → IsMethodOf (slice_get p.ops op.0) c → (object : Object) → IsTypedObject p frozen c object → (start base k : ℕ) (f : Store) → slice_get code.ops op.0 ≡ Some start → Holds (λ i. param_kind (slice_get p.ops op.0) i) f base vs → (o : Outcome Section) → Ends (section_access frozen) code (record { at = start; base = base; left = k; this = Ref r; below = []; slots = f; world = section_start object.slots }) o → IsKnown o
section_is_known p typed code is frozen heap written op separable r vs well c of_class object typed_object start base k f place holds o ends =
    let here : State Section = record { at = start; base = base; left = k; this = Ref r; below = []; slots = f; world = section_start object.slots } in
    let run = section_run p frozen (invocation r op vs) object.slots (suc k) in
    subst IsKnown (one_end (section_access frozen) code here (section_outcome run) o (section_runs p code typed is.functions is.ops frozen heap written op separable r vs well c of_class object typed_object start base k f place holds) ends) (section_known run)
