-- The lock discipline of an annotated text: which of its marks tell of a lock, and that its bodies keep it; and that the text
-- marks each call and each loop that runs in parallel.
use Rattle.std.specs.Prelude.{ℕ, ◌≡◌, true, false, List, [], ◌∷◌, flat_map, Option, Some, None, slice_get, Contains}
use Rattle.ca_tree.specs.declared.name.Place.{Place}
use Rattle.ca_tree.specs.Plain as tree
use Rattle.ca_tree.specs.Plain.{MethodTree, TextTree}
use Rattle.ca_program.specs.declared.program.OpId.{OpId}
use Rattle.ca_program.specs.Plain.{PlainProgram}
use Rattle.ca_program.specs.Plain as program
use Rattle.ca_parallel.specs.Extents.{Extent, IsExtentOf, operation_body}
use Rattle.ca_parallel.specs.Lists.{PlainMarks}
use Rattle.ca_lock_laws.specs.Events.{Event, locks, unlocks, spawns}
use Rattle.ca_lock_laws.specs.Paths.{Guards}
use Rattle.ca_lock_laws.specs.Guarded.{Begins, KeepsLock}
use Rattle.ca_canonical.specs.declared.marks.Mark.{Mark}
use Rattle.ca_canonical.specs.declared.marks.Mark.TheVariants.{Lock, Unlock, Spawn, Parallel}
use Rattle.ca_canonical.specs.Marks.{Marking}
use Rattle.ca_canonical.specs.Annotated.{annotated}
use Rattle.ca_canonical.specs.Texts.{text_of_pieces}
use Rattle.ca_plan.specs.Plans.{PlainPlan, op_at}
use Rattle.ca_lock_laws.specs.Sites.{sites_of_all}
use Rattle.ca_emit.specs.Annotations.{operations_of, place_number, run_parallel}

abbrev pub event_of : Mark → List Event
event_of Lock = locks ∷ []
event_of Unlock = unlocks ∷ []
event_of Spawn = spawns ∷ []
event_of Parallel = []

abbrev pub events_of : List Mark → List Event
events_of ms = flat_map event_of ms

-- the marks of the method whose name stands at this place
abbrev pub guards_of : Marking → Place → Guards
guards_of m at = record { opening = events_of (m.opening at); before = λ front s. events_of (m.before (Some at) front s); closing = events_of (m.closing at) }

-- On every path through the body of every operation that a marked call or loop may reach, the lock is held at each access to
-- a field that the extent of that call or loop writes, and isn't held at a call or at the end.
abbrev pub KeepsLocks : PlainProgram → PlainMarks → Marking → TextTree → Type 0
KeepsLocks p marks m t = (n : ℕ) (x : MethodTree) → slice_get (operations_of t.classes) n ≡ Some x → KeepsLock p marks (op_at n) (guards_of m x.at) x.body

-- the text is that of a tree with marks that keep the discipline
pub record KeptText (p : PlainProgram) (plan : PlainPlan) (t : TextTree) (text : List ℕ) : Type 0 where
  pub marking : Marking
  pub is : text ≡ text_of_pieces (annotated marking t)
  pub keeps : KeepsLocks p plan.marks marking t

-- a call or a loop at this place of the body has a mark before it
pub record Marks (m : Marking) (body : Option Place) (at : Place) : Type 0 where
  pub call : (front : Option tree.Statement) (e : tree.Expression) → m.before body front (tree.call_statement at e) ≡ Parallel ∷ []
  pub loop : (front : Option tree.Statement) (first : tree.Statement) (c : tree.Expression) (next s : tree.Statement) → m.before body front (tree.for_loop at first c next s) ≡ Parallel ∷ []

-- Where the nth call or loop of a body runs in parallel, the nth of its text has a mark before it.
abbrev pub MarksEach : PlainMarks → Marking → Option Place → tree.Statements → program.Statements → Type 0
MarksEach marks m body ss xs = (n : ℕ) → slice_get (run_parallel marks false xs) n ≡ Some true → (at : Place) × (slice_get (sites_of_all ss) n ≡ Some at) × Marks m body at

-- a marked call or a marked loop may lead to the operation: it is in the extent of one
pub record IsLedTo (p : PlainProgram) (marks : PlainMarks) (op : OpId) : Type 0 where
  pub roots : List OpId
  pub begins : Begins p marks roots
  pub extent : Extent
  pub is : IsExtentOf p roots extent
  pub holds : Contains extent.ops op

-- no two operations have their names at one place, as in each text
abbrev pub NamesApart : TextTree → Type 0
NamesApart t =
    (k n : ℕ) (x y : MethodTree) → slice_get (operations_of t.classes) k ≡ Some x → slice_get (operations_of t.classes) n ≡ Some y
    → place_number x.at ≡ place_number y.at → k ≡ n

-- The text is that of a tree with a mark for each call and each loop that runs in parallel, in `main` and in each operation
-- to which no marked call or loop may lead.
pub record MarkedText (p : PlainProgram) (plan : PlainPlan) (t : TextTree) (text : List ℕ) : Type 0 where
  pub marking : Marking
  pub is : text ≡ text_of_pieces (annotated marking t)
  pub main : MarksEach plan.marks marking None t.main p.main.statements
  pub operations : (n : ℕ) (x : MethodTree) → slice_get (operations_of t.classes) n ≡ Some x → (IsLedTo p plan.marks (op_at n) → ⊥) → MarksEach plan.marks marking (Some x.at) x.body (operation_body p (op_at n))
