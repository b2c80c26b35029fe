-- Separable operations and those of sound marks keep the lock discipline.
use Rattle.std.proofs.Common.{◌≡◌, Bool, List, true, false, refl}
use Rattle.std.specs.Prelude.{Contains, Option, Some, None, slice_get}
use Rattle.ca_tree.specs.Plain as tree
use Rattle.ca_program.specs.declared.program.FieldId.{FieldId}
use Rattle.ca_program.specs.declared.program.OpId.{OpId}
use Rattle.ca_program.specs.Plain.{PlainProgram, PlainMethod}
use Rattle.ca_meaning.specs.Functions.{body_of}
use Rattle.ca_meaning.specs.ProgramTyped.{scope_of, main_scope, ProgramTyped}
use Rattle.ca_parallel.specs.Bodies.{calls_of}
use Rattle.ca_parallel.specs.Extents.{Extent, IsExtentOf, operation_body}
use Rattle.ca_parallel.specs.Free.{IsFree}
use Rattle.ca_parallel.specs.Lists.{PlainMarks}
use Rattle.ca_parallel.specs.Marks.{SoundMarks}
use Rattle.ca_parallel.specs.Parallel.{Parallel, ParallelFrom}
use Rattle.ca_parallel.specs.Separable.{AreSeparated, Separable}
use Rattle.ca_parallel.proofs.FreeBodies.{free_behind}
use Rattle.ca_parallel.proofs.Smaller.{smaller_is_parallel}
use Rattle.ca_lock_laws.specs.Events.{Event}
use Rattle.ca_lock_laws.specs.Paths.{Through}
use Rattle.ca_lock_laws.specs.Discipline.{Disciplined}
use Rattle.ca_lock_laws.specs.Guarded.{Begins, a_call, a_loop, KeepsLock, locked_guards, free_guards}
use Rattle.ca_lock_laws.proofs.Keeping.{locked_through, free_through}

-- whether two receivers are the same
abbrev Same : Type 0
Same = tree.Expression → tree.Expression → Bool

module _ (p : PlainProgram) (typed : ProgramTyped p) (written : List FieldId) where
  locked_body : (n : _) (o : Option PlainMethod) → slice_get p.ops n ≡ o → AreSeparated p written false (body_of o)
      → (same : Same) (ss : tree.Statements) (es : List Event) → Through (locked_guards same) ss (body_of o) es → Disciplined p written es
  locked_body n None e sep same ss es t = locked_through p written same (main_scope p) refl t sep tt
  locked_body n (Some m) e sep same ss es t = let o = typed.ops n m e in locked_through p written same (scope_of m) o.result t sep o.method.body

  free_body : (n : _) (o : Option PlainMethod) → slice_get p.ops n ≡ o → AreSeparated p written true (body_of o)
      → (same : Same) (ss : tree.Statements) (es : List Event) → Through (free_guards same) ss (body_of o) es → Disciplined p written es
  free_body n None e sep same ss es t = free_through p written same (main_scope p) refl t sep tt
  free_body n (Some m) e sep same ss es t = let o = typed.ops n m e in free_through p written same (scope_of m) o.result t sep o.method.body

pub separable_keeps : (p : PlainProgram) → ProgramTyped p → (written : List FieldId) (op : OpId) → Separable p written op
    → (same : Same) (ss : tree.Statements) (es : List Event) → Through (locked_guards same) ss (operation_body p op) es → Disciplined p written es
separable_keeps p typed written op sep same ss es t = locked_body p typed written op.0 (slice_get p.ops op.0) refl sep same ss es t

pub free_keeps : (p : PlainProgram) → ProgramTyped p → (written : List FieldId) (op : OpId) → Separable p written op → IsFree p written op
    → (same : Same) (ss : tree.Statements) (es : List Event) → Through (free_guards same) ss (operation_body p op) es → Disciplined p written es
free_keeps p typed written op sep free same ss es t = free_body p typed written op.0 (slice_get p.ops op.0) refl (free_behind p written op sep free) same ss es t

smaller : (p : PlainProgram) (ops : List OpId) (x : Extent) → ParallelFrom p ops → IsExtentOf p ops x → Parallel p x
smaller p ops x f is = smaller_is_parallel p f.roots ops f.extent x f.is f.parallel f.holds is

begins_parallel : (p : PlainProgram) (marks : PlainMarks) → SoundMarks p marks → {roots : List OpId} → Begins p marks roots → (x : Extent) → IsExtentOf p roots x → Parallel p x
begins_parallel p marks sound {roots} (a_call {op} c) x is = smaller p roots x (sound.operations op c) is
begins_parallel p marks sound {roots} (a_loop {id} {loop} c there site) x is = smaller p (calls_of loop) x (sound.sites id c loop there site).calls is

pub parallel_keeps : (p : PlainProgram) → ProgramTyped p → (marks : PlainMarks) → SoundMarks p marks → (same : Same) (op : OpId) (ss : tree.Statements) → KeepsLock p marks op (locked_guards same) ss
parallel_keeps p typed marks sound same op ss roots b x is c es t = separable_keeps p typed x.written op ((begins_parallel p marks sound b x is).separable op c) same ss es t

pub free_parallel_keeps : (p : PlainProgram) → ProgramTyped p → (marks : PlainMarks) → SoundMarks p marks → (same : Same) (op : OpId)
    → ((roots : List OpId) → Begins p marks roots → (x : Extent) → IsExtentOf p roots x → Contains x.ops op → IsFree p x.written op) → (ss : tree.Statements) → KeepsLock p marks op (free_guards same) ss
free_parallel_keeps p typed marks sound same op free ss roots b x is c es t = free_keeps p typed x.written op ((begins_parallel p marks sound b x is).separable op c) (free roots b x is c) same ss es t
