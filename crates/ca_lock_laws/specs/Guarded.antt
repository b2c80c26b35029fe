-- Which bodies keep the lock discipline: those of all operations that a marked operation or a marked loop may reach, with
-- the marks of a parallel operation.
use Rattle.std.specs.Prelude.{Bool, true, false, if◌then◌else◌, List, [], ◌∷◌, Option, Some, Contains}
use Rattle.ca_tree.specs.Plain as tree
use Rattle.ca_program.specs.declared.program.LoopId.{LoopId}
use Rattle.ca_program.specs.declared.program.OpId.{OpId}
use Rattle.ca_program.specs.Plain.{PlainProgram, Statement}
use Rattle.ca_parallel.specs.Bodies.{calls_of}
use Rattle.ca_parallel.specs.Extents.{Extent, IsExtentOf, operation_body}
use Rattle.ca_parallel.specs.Lists.{PlainMarks}
use Rattle.ca_parallel.specs.Marks.{HasSite, loops_of_program}
use Rattle.ca_lock_laws.specs.Events.{Event, locks, unlocks, spawns}
use Rattle.ca_lock_laws.specs.Paths.{Guards, Through}
use Rattle.ca_lock_laws.specs.Discipline.{Disciplined}

-- A follower is a call directly behind another call of the same list, on the same receiver. Which receivers are the same is
-- told.
abbrev pub follows : (tree.Expression → tree.Expression → Bool) → Option tree.Statement → tree.Statement → Bool
follows same (Some (tree.call_statement at e)) (tree.call_statement place other) = same e other
follows same front s = false

-- Before a call: a parallel operation that takes its receiver's lock gives it back, and the call is spawned. One that is free
-- has none to give back.
abbrev pub before_calls : Bool → List Event
before_calls true = unlocks ∷ spawns ∷ []
before_calls false = spawns ∷ []

-- a follower is spawned with the call in front of it
abbrev pub before_in : Bool → (tree.Expression → tree.Expression → Bool) → Option tree.Statement → tree.Statement → List Event
before_in locked same front (tree.call_statement at e) = if follows same front (tree.call_statement at e) then [] else before_calls locked
before_in locked same front other = []

-- A parallel operation takes its receiver's lock behind its `{`, gives it back before each call that is spawned, and before
-- its `}`.
abbrev pub locked_guards : (tree.Expression → tree.Expression → Bool) → Guards
locked_guards same = record { opening = locks ∷ []; before = before_in true same; closing = unlocks ∷ [] }

-- a free one takes none
abbrev pub free_guards : (tree.Expression → tree.Expression → Bool) → Guards
free_guards same = record { opening = []; before = before_in false same; closing = [] }

-- the operations that a marked call or loop begins with
pub data Begins (p : PlainProgram) (marks : PlainMarks) : List OpId → Type 0 where
  a_call : {op : OpId} → Contains marks.ops op → Begins p marks (op ∷ [])
  a_loop : {id : LoopId} {loop : Statement} → Contains marks.loops id → Contains (loops_of_program p) loop → HasSite loop id → Begins p marks (calls_of loop)

-- The body of the operation, with these marks, keeps the discipline of each extent of marked calls and loops that it is of.
abbrev pub KeepsLock : PlainProgram → PlainMarks → OpId → Guards → tree.Statements → Type 0
KeepsLock p marks op g ss =
    (roots : List OpId) → Begins p marks roots → (x : Extent) → IsExtentOf p roots x → Contains x.ops op
    → (es : List Event) → Through g ss (operation_body p op) es → Disciplined p x.written es
