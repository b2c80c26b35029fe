-- The law of symbolic meaning: what symbolic execution gives is what a section does, in every run. An expression gives
-- what its term means, and takes what its demands take; the state behind a body means the object that a section leaves;
-- its steps and its list are those of the demands. All this is said for each bound on steps: what isn't complete within
-- the steps of the environment counts as never complete.
use Rattle.std.specs.Prelude.{ℕ, zero, suc, ◌≡◌, ◌≤◌, Bool, true, false, List, [], ◌++◌, length, map, Some, None, slice_get, Contains}
use Rattle.ca_program.specs.declared.program.ClassId.{ClassId}
use Rattle.ca_program.specs.declared.program.FieldId.{FieldId}
use Rattle.ca_program.specs.declared.program.FieldInfo.{FieldInfo}
use Rattle.ca_program.specs.declared.program.LoopId.{LoopId}
use Rattle.ca_program.specs.declared.program.OpId.{OpId}
use Rattle.ca_program.specs.declared.program.ValueType.{ValueType}
use Rattle.ca_program.specs.Plain.{PlainMethod, Expression, Statement, Statements}
use Rattle.ca_model.specs.declared.value.Value.{Value as Datum}
use Rattle.ca_model.specs.declared.value.Value.TheVariants.{Bool as Truth, Ref}
use Rattle.ca_model.specs.declared.value.Object.{Object}
use Rattle.ca_model.specs.Heaps.{fields_of}
use Rattle.ca_model.specs.Typed.{IsOfClass, TypedHeap}
use Rattle.ca_meaning.specs.Agree.{AgreesAt}
use Rattle.ca_meaning.specs.Expressions.{Invocation, eval}
use Rattle.ca_meaning.specs.Flows.{exec_all}
use Rattle.ca_meaning.specs.Functions.{functions_of}
use Rattle.ca_meaning.specs.ProgramTyped.{ProgramTyped, ExpressionTyped, StatementsTyped, scope_of}
use Rattle.ca_meaning.specs.Sections.{Section, section_place, section_parts, section, Outcome}
use Rattle.ca_meaning.specs.WellTyped.{ValuesTyped, IsTypedObject, parameters_of}
use Rattle.ca_parallel.specs.Bodies.{targets_of_all, fors_in_all}
use Rattle.ca_parallel.specs.Marks.{HasSite}
use Rattle.ca_parallel.specs.Scoped.{names, any_counts, any_names_outside, Scoped}
use Rattle.ca_parallel.specs.Separable.{IsClean, AreSeparated}
use Rattle.ca_norm.specs.Terms.{PlainTerm}
use Rattle.ca_norm.specs.Terms as term
use Rattle.ca_norm.specs.Meanings.{Valuation, mean}
use Rattle.ca_norm.specs.Environments.{Environment}
use Rattle.ca_norm.specs.Valuations.{valuation_in}
use Rattle.ca_shared_terms.specs.Starts.{starts}
use Rattle.ca_symbolic.specs.States.{State, PlainDemand, first_locals}
use Rattle.ca_symbolic.specs.Execution.{term_of, after_all}
use Rattle.ca_symbolic.specs.Demands.{demands_in, demanded_all}
use Rattle.ca_symbolic.specs.OtherLoops.{other_loop_in}
use Rattle.ca_symbolic_laws.specs.Costs.{plus, left, with_left, value_of, hidden, state_of, outcome_of, within}
use Rattle.ca_symbolic_laws.specs.Meant.{slots_meant, FieldsTyped, LocalsTyped}
use Rattle.ca_symbolic_laws.specs.Demanded.{loop_at, cost, lists}

-- the fields of a class
abbrev pub fields_in : Environment → ClassId → List FieldInfo
fields_in s c = fields_of (slice_get s.program.classes c.0)

-- the arguments whose atoms have this group
abbrev pub arguments_in : Environment → ℕ → List Datum
arguments_in s zero = []
arguments_in s (suc zero) = s.first
arguments_in s (suc (suc zero)) = s.second
arguments_in s (suc (suc (suc n))) = []

-- The method is an operation, program and heap are typed, and the receiver names an object of its class.
pub record Typed (s : Environment) (m : PlainMethod) : Type 0 where
  pub operation : m.result ≡ None
  pub program : ProgramTyped s.program
  pub heap : TypedHeap s.program s.heap
  pub receiver : IsOfClass (slice_get s.heap s.receiver) m.class

-- A state in the method: its terms mean values of the types of their fields and locals.
pub record StateTyped (s : Environment) (v : Valuation) (m : PlainMethod) (st : State) : Type 0 where
  pub fields : FieldsTyped s.heap v st.fields (fields_in s m.class)
  pub locals : LocalsTyped s.heap v st.locals m.body.locals

-- the locals are those that the terms mean, but for those that are hidden
abbrev pub LocalsAre : Valuation → (ℕ → Bool) → List Datum → List PlainTerm → Type 0
LocalsAre v is_hidden ls ts = hidden is_hidden 0 ls ≡ hidden is_hidden 0 (map (mean v) ts)

-- Values

-- Where the guard is true, an expression gives what its term means, and takes what its demands take: it gives nothing
-- exactly where one of them fails or the steps don't suffice.
abbrev pub ValuesAreMeant : Type 0
ValuesAreMeant =
    (s : Environment) (m : PlainMethod) → Typed s m →
    (st : State) → StateTyped s (valuation_in s) m st →
    (e : Expression) (ty : ValueType) → ExpressionTyped s.program (scope_of m) e ty →
    (written : List FieldId) (called : Bool) → IsClean s.program written called e →
    (is_hidden : ℕ → Bool) → ((n : ℕ) → is_hidden n ≡ true → names e n ≡ false) →
    (ls : List Datum) → LocalsAre (valuation_in s) is_hidden ls st.locals →
    (g : PlainTerm) → mean (valuation_in s) g ≡ Truth true → (line k : ℕ) → k ≤ s.steps →
    value_of (eval (functions_of s.program.functions s.heap).call (section_place s.heap (Ref s.receiver) (slots_meant (valuation_in s) st.fields (fields_in s m.class)) line ls) e k)
    ≡ with_left (mean (valuation_in s) (term_of s.program st e)) (left (cost s (valuation_in s) (demands_in s.program st g e)) k)

-- Statements

-- What the law asks of a body: it is typed and separable, puts only fields that are written, has no loop but call loops,
-- each of which is found by its number, and none of their counters is named outside its loop.
pub record Body (s : Environment) (m : PlainMethod) (written : List FieldId) (body : Statements) : Type 0 where
  pub typed : StatementsTyped s.program (scope_of m) body
  pub puts : (f : FieldId) → Contains (targets_of_all body) f → Contains written f
  pub loops : other_loop_in m.params written body ≡ None
  pub found : (x : Statement) (site : LoopId) → Contains (fors_in_all body) x → HasSite x site → loop_at s.program.ops site ≡ Some (record { loop = x; locals = length m.body.locals })

-- the object that the terms of its fields mean
abbrev pub object_meant : Environment → ClassId → List PlainTerm → Object
object_meant s c ts = record { class = c; slots = slots_meant (valuation_in s) ts (fields_in s c) }

-- the section behind which the state stands: its own slots, and what it has listed
abbrev pub section_meant : Environment → ClassId → List PlainTerm → List Invocation → Section
section_meant s c ts listed = record { own = slots_meant (valuation_in s) ts (fields_in s c); listed = listed }

-- Where the guard is true, statements of a section leave the locals and the slots that the state behind them means, list
-- what their demands list, and take what these take. Counters of loops are left out.
abbrev pub StatementsAreMeant : Type 0
StatementsAreMeant =
    (s : Environment) (m : PlainMethod) → Typed s m →
    (written : List FieldId) (called : Bool) (body : Statements) → Body s m written body → AreSeparated s.program written called body →
    (is_counter : ℕ → Bool) → ((n : ℕ) → any_counts body n ≡ true → is_counter n ≡ true) → ((n : ℕ) → is_counter n ≡ true → any_names_outside body n ≡ false) →
    (st : State) → StateTyped s (valuation_in s) m st → AgreesAt written (object_meant s m.class st.fields) s.heap s.receiver →
    (ls : List Datum) → LocalsAre (valuation_in s) is_counter ls st.locals → (listed : List Invocation) →
    (g : PlainTerm) → mean (valuation_in s) g ≡ Truth true → (k : ℕ) → k ≤ s.steps →
    state_of is_counter (exec_all (section_parts s.program s.heap (Ref s.receiver)) ls (section_meant s m.class st.fields listed) body k)
    ≡ with_left (hidden is_counter 0 (map (mean (valuation_in s)) (after_all s.program st body).locals), section_meant s m.class (after_all s.program st body).fields (listed ++ lists s (valuation_in s) (demanded_all s.program st g body)))
    (left (cost s (valuation_in s) (demanded_all s.program st g body)) k)

-- the state behind a body is typed again
abbrev pub StatesStayTyped : Type 0
StatesStayTyped =
    (s : Environment) (m : PlainMethod) → Typed s m →
    (written : List FieldId) (called : Bool) (body : Statements) → Body s m written body → AreSeparated s.program written called body →
    (st : State) → StateTyped s (valuation_in s) m st → StateTyped s (valuation_in s) m (after_all s.program st body)

-- Sections

-- the state in which an operation begins, with the atoms of a group for its parameters
abbrev pub begun : ℕ → PlainMethod → List PlainTerm → State
begun group m fields = record { fields = fields; locals = first_locals group (Some m) }

-- the demands of an operation's body, and the terms of the fields behind it
abbrev pub operation_demands : Environment → ℕ → PlainMethod → List PlainTerm → List PlainDemand
operation_demands s group m fields = demanded_all s.program (begun group m fields) (term.truth true) m.body.statements

abbrev pub fields_behind : Environment → ℕ → PlainMethod → List PlainTerm → List PlainTerm
fields_behind s group m fields = (after_all s.program (begun group m fields) m.body.statements).fields

-- a call of an operation, with the arguments of a group, on the object that these terms mean
pub record Called (s : Environment) (written : List FieldId) (op : OpId) (m : PlainMethod) (group : ℕ) (fields : List PlainTerm) : Type 0 where
  pub method : slice_get s.program.ops op.0 ≡ Some m
  pub typed : Typed s m
  pub arguments : ValuesTyped s.heap (arguments_in s group) (parameters_of m)
  pub object : FieldsTyped s.heap (valuation_in s) fields (fields_in s m.class)
  pub agrees : AgreesAt written (object_meant s m.class fields) s.heap s.receiver
  pub body : Body s m written m.body.statements
  pub separable : AreSeparated s.program written false m.body.statements
  pub scoped : Scoped m.body.statements

-- what such a section leaves, if it takes n steps
abbrev pub foretold : Environment → ℕ → PlainMethod → List PlainTerm → ℕ → Outcome
foretold s group m fields n = record {
  object = object_meant s m.class (fields_behind s group m fields);
  listed = lists s (valuation_in s) (operation_demands s group m fields);
  steps = n;
}

-- The section is complete exactly where no demand under a true guard fails and the steps suffice. It then leaves the
-- object that the state behind the body means, lists what the demands list, and takes one step and those of the demands.
abbrev pub SectionsAreMeant : Type 0
SectionsAreMeant =
    (s : Environment) (written : List FieldId) (op : OpId) (m : PlainMethod) (group : ℕ) (fields : List PlainTerm) → Called s written op m group fields →
    (k : ℕ) → k ≤ s.steps →
    outcome_of (section s.program s.heap s.receiver (object_meant s m.class fields) op (arguments_in s group) k)
    ≡ within (plus (Some 1) (cost s (valuation_in s) (operation_demands s group m fields))) k (foretold s group m fields)

-- and the fields behind it are typed again, so that another operation may follow
abbrev pub FieldsStayTyped : Type 0
FieldsStayTyped =
    (s : Environment) (written : List FieldId) (op : OpId) (m : PlainMethod) (group : ℕ) (fields : List PlainTerm) → Called s written op m group fields →
    FieldsTyped s.heap (valuation_in s) (fields_behind s group m fields) (fields_in s m.class)

-- It agrees with the heap on the constants as before.
abbrev pub ConstantsAreKept : Type 0
ConstantsAreKept =
    (s : Environment) (written : List FieldId) (op : OpId) (m : PlainMethod) (group : ℕ) (fields : List PlainTerm) → Called s written op m group fields →
    AgreesAt written (object_meant s m.class (fields_behind s group m fields)) s.heap s.receiver

-- The atoms with which a first operation begins mean the receiver's object, and are typed.
abbrev pub StartsAreMeant : Type 0
StartsAreMeant =
    (s : Environment) (c : ClassId) → IsTypedObject s.program s.heap c s.object →
    (object_meant s c (starts 0 (fields_in s c)) ≡ s.object) × FieldsTyped s.heap (valuation_in s) (starts 0 (fields_in s c)) (fields_in s c)
