-- The laws of order as statements.
use Rattle.std.specs.Prelude.{◌≡◌, ◌≤◌, ◌↔◌, ◌+◌, ◌-◌, ℕ, true, List, [], ◌∷◌, ◌++◌, Some, slice_get, slice_set, Contains}
use Rattle.ca_program.specs.declared.program.OpId.{OpId}
use Rattle.ca_program.specs.declared.program.ClassId.{ClassId}
use Rattle.ca_program.specs.Plain.{PlainProgram, Statement}
use Rattle.ca_model.specs.declared.value.Value.{Value as Datum}
use Rattle.ca_model.specs.declared.value.Object.{Object}
use Rattle.ca_model.specs.Typed.{TypedHeap}
use Rattle.ca_meaning.specs.Expressions.{Invocation}
use Rattle.ca_meaning.specs.Flows.{Flow, goes_on, stops, runs_out, and_on, exec}
use Rattle.ca_meaning.specs.Serial.{World, operations_of, run_call, serial_parts, serial_ops}
use Rattle.ca_meaning.specs.Sections.{Outcome, section, then_listed, LoopSectioned, loop_done, loop_stopped, loop_over, loop_section}
use Rattle.ca_meaning.specs.WellTyped.{ValuesTyped, WellTyped, AllWellTyped, IsMethodOf, IsTypedObject}
use Rattle.ca_meaning.specs.Agree.{HeapsAgree}
use Rattle.ca_meaning.specs.ProgramTyped.{Scope, StatementTyped, ProgramTyped}
use Rattle.ca_meaning_laws.specs.Typed.{WorldTyped}
use Rattle.ca_parallel.specs.Bodies.{calls_of}
use Rattle.ca_parallel.specs.Extents.{Extent, IsExtentOf}
use Rattle.ca_parallel.specs.Separable.{IsSeparated, Separable}
use Rattle.ca_parallel.specs.Loops.{IsCallLoop}
use Rattle.ca_parallel.specs.Calls.{RunsTo}
use Rattle.ca_parallel.specs.Parallel.{Parallel}
use Rattle.ca_order_laws.specs.Pending.{Leaves, PendingRun, CompleteRun}

-- A heap that stands for the frozen one: typed, with the same objects but for the fields that the extent writes.
pub record StandsFor (p : PlainProgram) (x : Extent) (frozen h : List Object) : Type 0 where
  pub heap : TypedHeap p h
  pub agree : HeapsAgree x.written h frozen

-- A section reads constants of the frozen heap alone: any heap that stands for it serves as well.
abbrev pub AnyFrozenHeap : Type 0
AnyFrozenHeap =
    (p : PlainProgram) → ProgramTyped p → (x : Extent) (frozen h : List Object) → TypedHeap p frozen → StandsFor p x frozen h →
    (i : Invocation) → Separable p x.written i.op → WellTyped p frozen i →
    (c : ClassId) → IsMethodOf (slice_get p.ops i.op.0) c → (o : Object) → IsTypedObject p frozen c o →
    (k : ℕ) → section p h i.receiver o i.op i.arguments k ≡ section p frozen i.receiver o i.op i.arguments k

-- all of these operations are of the extent
abbrev pub AllInside : Extent → List Invocation → Type 0
AllInside x is = (i : Invocation) → Contains is i → Contains x.ops i.op

-- An operation that waits runs next: its section is complete on its receiver's object, and after it there is again a
-- complete run, to the same heap, with the steps that are left.
pub record RunsNext (p : PlainProgram) (frozen h : List Object) (i : Invocation) (others : List Invocation) (last : List Object) (steps : ℕ) : Type 0 where
  pub object : Object
  pub outcome : Outcome
  pub left : ℕ
  pub found : slice_get h i.receiver ≡ Some object
  pub section : Leaves p frozen i object outcome
  pub rest : CompleteRun p frozen (slice_set h i.receiver outcome.object) (outcome.listed ++ others) last left
  pub sum : steps ≡ outcome.steps + left

-- Where there is a complete run, each operation that waits can run next.
abbrev pub Diamond : Type 0
Diamond =
    (p : PlainProgram) → ProgramTyped p → (roots : List OpId) (x : Extent) → IsExtentOf p roots x → Parallel p x →
    (frozen h : List Object) → TypedHeap p frozen → StandsFor p x frozen h →
    (i : Invocation) (others : List Invocation) → AllWellTyped p frozen (i ∷ others) → AllInside x (i ∷ others) →
    (last : List Object) (steps : ℕ) → CompleteRun p frozen h (i ∷ others) last steps → RunsNext p frozen h i others last steps

-- All complete runs end in one heap with one sum of steps.
abbrev pub OneEnd : Type 0
OneEnd =
    (p : PlainProgram) → ProgramTyped p → (roots : List OpId) (x : Extent) → IsExtentOf p roots x → Parallel p x →
    (frozen h : List Object) → TypedHeap p frozen → StandsFor p x frozen h →
    (is : List Invocation) → AllWellTyped p frozen is → AllInside x is →
    (last end : List Object) (s t : ℕ) → CompleteRun p frozen h is last s → CompleteRun p frozen h is end t → (last ≡ end) × (s ≡ t)

-- Where there is a complete run, there is one again behind any run that leaves operations waiting, to the same heap,
-- with the steps that are left.
abbrev pub Finishes : Type 0
Finishes =
    (p : PlainProgram) → ProgramTyped p → (roots : List OpId) (x : Extent) → IsExtentOf p roots x → Parallel p x →
    (frozen h : List Object) → TypedHeap p frozen → StandsFor p x frozen h →
    (is : List Invocation) → AllWellTyped p frozen is → AllInside x is →
    (mid : List Object) (rest order : List Invocation) (s : ℕ) → PendingRun p frozen mid rest order h is s →
    (last : List Object) (t : ℕ) → CompleteRun p frozen h is last t → (left : ℕ) × CompleteRun p frozen mid rest last left × (t ≡ s + left)

-- The serial run of a call of a separable operation is done exactly where its section on the receiver's object, put
-- back, and then the run of what it lists is, and both end alike. What it calls need not be separable.
abbrev pub SectionThenList : Type 0
SectionThenList =
    (p : PlainProgram) → ProgramTyped p → (roots : List OpId) (x : Extent) → IsExtentOf p roots x →
    (w : World) → TypedHeap p w.heap → (i : Invocation) → Contains x.ops i.op → Separable p x.written i.op → WellTyped p w.heap i →
    (o : Object) → slice_get w.heap i.receiver ≡ Some o → (k j : ℕ) (v : World) →
    (run_call (operations_of p) [] i w k ≡ goes_on [] v j) ↔ (then_listed p i.receiver w k (section p w.heap i.receiver o i.op i.arguments k) ≡ goes_on [] v j)

-- how a run goes on after the section of a loop: with what it lists, and then behind the loop
abbrev pub then_looped : PlainProgram → World → ℕ → LoopSectioned → Flow World
then_looped p w budget (loop_done m) = and_on (serial_ops p m.listed w (budget - m.steps)) (λ ls w k. goes_on m.locals w k)
then_looped p w budget (loop_stopped t) = stops t w
then_looped p w budget loop_over = runs_out w

-- The same of a loop of serial code whose calls are of the extent and whose own expressions read only locals and what
-- the extent doesn't write: it changes no object itself.
abbrev pub LoopThenList : Type 0
LoopThenList =
    (p : PlainProgram) → ProgramTyped p → (roots : List OpId) (x : Extent) → IsExtentOf p roots x →
    (loop : Statement) → IsCallLoop loop → ((op : OpId) → Contains (calls_of loop) op → Contains x.ops op) → IsSeparated p x.written true loop →
    (s : Scope) (this : Datum) (line : ℕ) (ls : List Datum) (w : World) → StatementTyped p s loop → WorldTyped p s this w → ValuesTyped w.heap ls s.locals →
    (k j : ℕ) (ms : List Datum) (v : World) →
    (exec (serial_parts p this) line ls w loop k ≡ goes_on ms v j) ↔ (then_looped p w k (loop_section p w.heap this ls line loop k) ≡ goes_on ms v j)

-- The serial run is done within a budget exactly where the pending machine has a complete run of as many steps.
abbrev pub DepthFirst : Type 0
DepthFirst =
    (p : PlainProgram) → ProgramTyped p → (roots : List OpId) (x : Extent) → IsExtentOf p roots x → Parallel p x →
    (h : List Object) → TypedHeap p h → (is : List Invocation) → AllWellTyped p h is → AllInside x is →
    (budget : ℕ) (last : List Object) (steps : ℕ) → RunsTo p h is budget last steps ↔ ((steps ≤ budget) × CompleteRun p h h is last steps)

-- A run, and then a run from where it ended, are one run: rounds need no relation of their own.
abbrev pub Rounds : Type 0
Rounds =
    (p : PlainProgram) (frozen h mid last : List Object) (is rest waiting first second : List Invocation) (s t : ℕ) →
    PendingRun p frozen mid rest first h is s → PendingRun p frozen last waiting second mid rest t →
    PendingRun p frozen last waiting (first ++ second) h is (s + t)

-- What a run leaves is as good as what it began with: its heap stands for the frozen one, and what waits is well typed
-- and of the extent.
abbrev pub RunsStay : Type 0
RunsStay =
    (p : PlainProgram) → ProgramTyped p → (roots : List OpId) (x : Extent) → IsExtentOf p roots x → Parallel p x →
    (frozen h : List Object) → TypedHeap p frozen → StandsFor p x frozen h →
    (is : List Invocation) → AllWellTyped p frozen is → AllInside x is →
    (mid : List Object) (rest order : List Invocation) (s : ℕ) → PendingRun p frozen mid rest order h is s →
    StandsFor p x frozen mid × AllWellTyped p frozen rest × AllInside x rest
