-- The annotated text of a tree whose program has a plan: which marks stand where.
use Rattle.std.specs.Prelude.{ℕ, ◌+◌, ◌*◌, Bool, true, false, if◌then◌else◌, ◌&&◌, ◌||◌, nat_eq, List, [], ◌∷◌, ◌++◌, map, Option, Some, None}
use Rattle.std.specs.List.{list_any}
use Rattle.ca_tree.specs.declared.name.Place.{Place}
use Rattle.ca_tree.specs.Plain as tree
use Rattle.ca_tree.specs.Plain.{MethodTree, TextTree}
use Rattle.ca_program.specs.declared.program.FieldId.{FieldId}
use Rattle.ca_program.specs.declared.program.LoopId.{LoopId}
use Rattle.ca_program.specs.declared.program.OpId.{OpId}
use Rattle.ca_program.specs.Plain as program
use Rattle.ca_program.specs.Plain.{PlainProgram}
use Rattle.ca_meaning.specs.Operators.{not_of}
use Rattle.ca_parallel.specs.Extents.{Extent, operation_body}
use Rattle.ca_parallel.specs.Lists.{PlainMarks, op_in}
pub use Rattle.ca_lock_laws.specs.Resolves.{operation_and, operations_in, operations_of}
pub use Rattle.ca_lock_laws.specs.Sites.{sites_of, sites_of_all}
use Rattle.ca_canonical.specs.declared.marks.Mark.{Mark}
use Rattle.ca_canonical.specs.declared.marks.Mark.TheVariants.{Lock, Unlock, Spawn, Parallel}
use Rattle.ca_canonical.specs.Marks.{Marking}
use Rattle.ca_canonical.specs.Annotated.{annotated}
use Rattle.ca_canonical.specs.Texts.{text_of_pieces}
use Rattle.ca_plan.specs.Plans.{PlainPlan, Judged, JudgedLoop, op_at}
use Rattle.ca_plan.specs.Texts.{loop_in}
use Rattle.ca_section.specs.TakesLock.{takes_lock}
use Rattle.ca_emit.specs.Receivers.{follows}

-- What is picked from the extents of marked operations and of marked loops.

abbrev pub ops_if : Bool → List OpId → List OpId
ops_if true ops = ops
ops_if false ops = []

-- of the operations from number n on
abbrev pub reached_by_ops : (Extent → List OpId) → List OpId → ℕ → List Judged → List OpId
reached_by_ops of marked n [] = []
reached_by_ops of marked n (j ∷ js) = ops_if (op_in marked (op_at n)) (of j.extent) ++ reached_by_ops of marked (n + 1) js

abbrev pub reached_by_loops : (Extent → List OpId) → List LoopId → List JudgedLoop → List OpId
reached_by_loops of marked [] = []
reached_by_loops of marked (l ∷ ls) = ops_if (loop_in marked l.site) (of l.judged.extent) ++ reached_by_loops of marked ls

abbrev pub reached : (Extent → List OpId) → PlainPlan → List OpId
reached of plan = reached_by_ops of plan.marks.ops 0 plan.ops ++ reached_by_loops of plan.marks.loops plan.loops

-- Parallel operations are those of such an extent.
abbrev pub all_ops : Extent → List OpId
all_ops x = x.ops

abbrev pub parallel_ops : PlainPlan → List OpId
parallel_ops plan = reached all_ops plan

-- Those that take a lock in one of these extents take it everywhere. All others are free: their bodies access no field that
-- such an extent writes.
abbrev pub locked_of : PlainProgram → List FieldId → List OpId → List OpId
locked_of p written [] = []
locked_of p written (op ∷ ops) = ops_if (takes_lock written (operation_body p op)) (op ∷ []) ++ locked_of p written ops

abbrev pub locked_in : PlainProgram → Extent → List OpId
locked_in p x = locked_of p x.written x.ops

abbrev pub locked_ops : PlainProgram → PlainPlan → List OpId
locked_ops p plan = reached (locked_in p) plan

-- Which calls and loops run in parallel: calls of marked operations outside marked loops, and marked loops. Whether the statement
-- stands inside a marked loop is told.
abbrev mutual
  pub runs_parallel : PlainMarks → Bool → program.Statement → List Bool
  runs_parallel ms inside (program.block line ss) = run_parallel ms inside ss
  runs_parallel ms inside (program.invoke line e op arguments) = (not_of inside && op_in ms.ops op) ∷ []
  runs_parallel ms inside (program.if_else line c a b) = runs_parallel ms inside a ++ runs_parallel ms inside b
  runs_parallel ms inside (program.while_loop line c b) = runs_parallel ms inside b
  runs_parallel ms inside (program.for_loop line site part first c next b) =
      loop_in ms.loops site ∷ runs_parallel ms (inside || loop_in ms.loops site) b
  runs_parallel ms inside (program.put_local line l op e) = []
  runs_parallel ms inside (program.put_field line f op e) = []
  runs_parallel ms inside (program.put_item line f i op e) = []
  runs_parallel ms inside (program.new_local line l c) = []
  runs_parallel ms inside (program.new_field line f c) = []
  runs_parallel ms inside (program.new_item line f i c) = []
  runs_parallel ms inside (program.return_value line e) = []
  runs_parallel ms inside (program.print_value line e) = []

  pub run_parallel : PlainMarks → Bool → program.Statements → List Bool
  run_parallel ms inside program.no_statements = []
  run_parallel ms inside (program.statement_and s ss) = runs_parallel ms inside s ++ run_parallel ms inside ss

abbrev pub place_if : Bool → Place → List Place
place_if true at = at ∷ []
place_if false at = []

abbrev pub picked : List Place → List Bool → List Place
picked [] bs = []
picked (at ∷ ats) [] = []
picked (at ∷ ats) (b ∷ bs) = place_if b at ++ picked ats bs

-- Where marks stand

-- of the operations from number n on, the names of these
abbrev pub bodies_from : List OpId → ℕ → List MethodTree → List Place
bodies_from ops n [] = []
bodies_from ops n (m ∷ ms) = place_if (op_in ops (op_at n)) m.at ++ bodies_from ops (n + 1) ms

-- what runs in parallel in a body that isn't itself parallel
abbrev pub sites_in : PlainMarks → Bool → tree.Statements → program.Statements → List Place
sites_in ms true ss xs = []
sites_in ms false ss xs = picked (sites_of_all ss) (run_parallel ms false xs)

-- in that of operation n
abbrev pub sites_of_method : PlainProgram → PlainMarks → List OpId → ℕ → MethodTree → List Place
sites_of_method p ms parallel n m = sites_in ms (op_in parallel (op_at n)) m.body (operation_body p (op_at n))

-- in those of the operations from number n on
abbrev pub sites_from : PlainProgram → PlainMarks → List OpId → ℕ → List MethodTree → List Place
sites_from p ms parallel n [] = []
sites_from p ms parallel n (m ∷ rest) = sites_of_method p ms parallel n m ++ sites_from p ms parallel (n + 1) rest

-- the names of the parallel operations, and of those of them that take a lock
abbrev pub parallel_bodies : PlainPlan → TextTree → List Place
parallel_bodies plan t = bodies_from (parallel_ops plan) 0 (operations_of t.classes)

abbrev pub locked_bodies : PlainProgram → PlainPlan → TextTree → List Place
locked_bodies p plan t = bodies_from (locked_ops p plan) 0 (operations_of t.classes)

-- the calls and loops of other operations and of `main` that run in parallel
abbrev pub all_sites : PlainProgram → PlainMarks → List OpId → TextTree → List Place
all_sites p ms parallel t = sites_from p ms parallel 0 (operations_of t.classes) ++ sites_in ms false t.main p.main.statements

abbrev pub parallel_sites : PlainProgram → PlainPlan → TextTree → List Place
parallel_sites p plan t = all_sites p plan.marks (parallel_ops plan) t

-- Which marks stand there: a parallel operation that isn't free takes its receiver's lock behind its `{`, gives it back
-- before each call that is spawned, and before its `}`. A free one only spawns. A follower goes with the call before it.

-- lines and columns fit 32 bits, so one number tells a place
abbrev pub place_number : Place → ℕ
place_number at = at.line * 4294967296 + at.column

abbrev pub number_in : List ℕ → ℕ → Bool
number_in ns n = list_any (λ m. nat_eq m n) ns

abbrev pub has_place : List ℕ → Place → Bool
has_place numbers at = number_in numbers (place_number at)

abbrev pub place_in : List Place → Place → Bool
place_in places at = has_place (map place_number places) at

abbrev pub call_marks : Bool → List Mark
call_marks true = Unlock ∷ Spawn ∷ []
call_marks false = Spawn ∷ []

abbrev pub before_call : Bool → Option tree.Statement → tree.Statement → List Mark
before_call locked front (tree.call_statement at e) = if follows front e then [] else call_marks locked
before_call locked front other = []

abbrev pub marks_if : Bool → Mark → List Mark
marks_if true m = m ∷ []
marks_if false m = []

abbrev pub before_site : (Place → Bool) → tree.Statement → List Mark
before_site sites (tree.call_statement at e) = marks_if (sites at) Parallel
before_site sites (tree.for_loop at first c next s) = marks_if (sites at) Parallel
before_site sites other = []

-- the body is among these
abbrev pub is_among : (Place → Bool) → Option Place → Bool
is_among bodies None = false
is_among bodies (Some at) = bodies at

-- of a body that takes a lock, or of one that is parallel
abbrev pub before_statement : Bool → Bool → (Place → Bool) → Option tree.Statement → tree.Statement → List Mark
before_statement true parallel sites front s = before_call true front s
before_statement false true sites front s = before_call false front s
before_statement false false sites front s = before_site sites s

abbrev pub marking_by : (Place → Bool) → (Place → Bool) → (Place → Bool) → Marking
marking_by locked parallel sites = record {
  before = λ body front s. before_statement (is_among locked body) (is_among parallel body) sites front s;
  opening = λ at. marks_if (locked at) Lock;
  closing = λ at. marks_if (locked at) Unlock;
}

abbrev pub marking_of : PlainProgram → PlainPlan → TextTree → Marking
marking_of p plan t = marking_by (place_in (locked_bodies p plan t)) (place_in (parallel_bodies plan t)) (place_in (parallel_sites p plan t))

abbrev pub annotated_text : PlainProgram → PlainPlan → TextTree → List ℕ
annotated_text p plan t = text_of_pieces (annotated (marking_of p plan t) t)
