-- The paths through the body of a method: what happens on each, in order. A body is seen as the text has it, where marks
-- stand before statements, together with what it resolves to, where names are fields and operations.
--
-- What conditions are is ignored: behind one either branch may come, and a loop may be left before each of its turns.
use Rattle.std.specs.Prelude.{ℕ, List, [], ◌∷◌, ◌++◌, Option, Some, None}
use Rattle.ca_tree.specs.declared.name.Place.{Place}
use Rattle.ca_tree.specs.declared.tree.TypeNode.{TypeNode}
use Rattle.ca_tree.specs.declared.tree.AssignOp.{AssignOp}
use Rattle.ca_tree.specs.Plain as tree
use Rattle.ca_tree.specs.Plain.{RightSide}
use Rattle.ca_program.specs.declared.program.ClassId.{ClassId}
use Rattle.ca_program.specs.declared.program.FieldId.{FieldId}
use Rattle.ca_program.specs.declared.program.FirstPart.{FirstPart}
use Rattle.ca_program.specs.declared.program.LocalId.{LocalId}
use Rattle.ca_program.specs.declared.program.LoopId.{LoopId}
use Rattle.ca_program.specs.declared.program.OpId.{OpId}
use Rattle.ca_program.specs.Plain as program
use Rattle.ca_lock_laws.specs.Events.{Event, calls, evaluated, happens}

-- What a declaration or an assignment puts, or creates.
pub data IsPut : program.Statement → Type 0 where
  puts_local : (line : ℕ) (l : LocalId) (op : AssignOp) (e : program.Expression) → IsPut (program.put_local line l op e)
  puts_field : (line : ℕ) (f : FieldId) (op : AssignOp) (e : program.Expression) → IsPut (program.put_field line f op e)
  puts_item : (line : ℕ) (f : FieldId) (i : program.Expression) (op : AssignOp) (e : program.Expression) → IsPut (program.put_item line f i op e)
  creates_local : (line : ℕ) (l : LocalId) (c : ClassId) → IsPut (program.new_local line l c)
  creates_field : (line : ℕ) (f : FieldId) (c : ClassId) → IsPut (program.new_field line f c)
  creates_item : (line : ℕ) (f : FieldId) (i : program.Expression) (c : ClassId) → IsPut (program.new_item line f i c)

-- A statement with no other inside, and what it resolves to.
pub data IsLine : tree.Statement → program.Statement → Type 0 where
  declared : (at : Place) (ty : TypeNode) (name : List ℕ) (name_at : Place) (v : Option RightSide) {x : program.Statement} → IsPut x → IsLine (tree.local at ty name name_at v) x
  assigned : (at : Place) (target : tree.Expression) (op : AssignOp) (r : RightSide) {x : program.Statement} → IsPut x → IsLine (tree.assign at target op r) x
  printed : (at : Place) (e : tree.Expression) (line : ℕ) (v : program.Expression) → IsLine (tree.print_value at e) (program.print_value line v)

-- how a path leaves a statement: what stands behind it comes next, or the body ends there
pub data Way : Type 0 where
  goes_on : Way
  returns : Way

-- What is taken as marks before a statement of a body comes before what happens in it. The receiver and the arguments of a
-- call statement are no events: the marks of the call stand before them, and who runs it evaluates them first.
mutual
  pub data Path (before : Option tree.Statement → tree.Statement → List Event) : tree.Statement → program.Statement → List Event → Way → Type 0 where
    empty : (at : Place) (line : ℕ) → Path before (tree.empty at) (program.block line program.no_statements) [] goes_on
    of_line : {s : tree.Statement} {x : program.Statement} → IsLine s x → Path before s x (happens x) goes_on
    call : (at : Place) (e : tree.Expression) (line : ℕ) (receiver : program.Expression) (op : OpId) (arguments : program.Expressions)
        → Path before (tree.call_statement at e) (program.invoke line receiver op arguments) (calls op ∷ []) goes_on
    gives_back : (at : Place) (e : tree.Expression) (line : ℕ) (v : program.Expression) → Path before (tree.return_value at e) (program.return_value line v) (evaluated v) returns
    block : (at : Place) (line : ℕ) {ss : tree.Statements} {xs : program.Statements} {es : List Event} {w : Way}
        → Paths before None ss xs es w → Path before (tree.block at ss) (program.block line xs) es w
    passed : (at : Place) (e : tree.Expression) (s : tree.Statement) (line otherwise : ℕ) (c : program.Expression) (x : program.Statement)
        → Path before (tree.if_only at e s) (program.if_else line c x (program.block otherwise program.no_statements)) (evaluated c) goes_on
    taken : (at : Place) (e : tree.Expression) (line otherwise : ℕ) (c : program.Expression) {s : tree.Statement} {x : program.Statement} {es : List Event} {w : Way}
        → Path before s x es w → Path before (tree.if_only at e s) (program.if_else line c x (program.block otherwise program.no_statements)) (evaluated c ++ (before None s ++ es)) w
    one_branch : (at : Place) (e : tree.Expression) (t : tree.Statement) (line : ℕ) (c : program.Expression) (y : program.Statement) {s : tree.Statement} {x : program.Statement} {es : List Event} {w : Way}
        → Path before s x es w → Path before (tree.if_else at e s t) (program.if_else line c x y) (evaluated c ++ (before None s ++ es)) w
    other_branch : (at : Place) (e : tree.Expression) (s : tree.Statement) (line : ℕ) (c : program.Expression) (x : program.Statement) {t : tree.Statement} {y : program.Statement} {es : List Event} {w : Way}
        → Path before t y es w → Path before (tree.if_else at e s t) (program.if_else line c x y) (evaluated c ++ (before None t ++ es)) w
    repeated : (at : Place) (e : tree.Expression) (line : ℕ) {c : program.Expression} {s : tree.Statement} {x : program.Statement} {es : List Event} {w : Way}
        → Turns before c s x [] es w → Path before (tree.while_loop at e s) (program.while_loop line c x) es w
    counted : (at : Place) (e : tree.Expression) (line : ℕ) (site : LoopId) (part : FirstPart) {begin next : tree.Statement} {start step : program.Statement}
        {c : program.Expression} {s : tree.Statement} {x : program.Statement} {es : List Event} {w : Way}
        → IsLine begin start → IsLine next step → Turns before c s x (happens step) es w
        → Path before (tree.for_loop at begin e next s) (program.for_loop line site part start c step x) (happens start ++ es) w

  -- behind a statement of the list, or at its beginning
  pub data Paths (before : Option tree.Statement → tree.Statement → List Event) : Option tree.Statement → tree.Statements → program.Statements → List Event → Way → Type 0 where
    none : (front : Option tree.Statement) → Paths before front tree.no_statements program.no_statements [] goes_on
    and_then : (front : Option tree.Statement) {s : tree.Statement} {x : program.Statement} {ss : tree.Statements} {xs : program.Statements} {es fs : List Event} {w : Way}
        → Path before s x es goes_on → Paths before (Some s) ss xs fs w → Paths before front (tree.statement_and s ss) (program.statement_and x xs) ((before front s ++ es) ++ fs) w
    no_more : (front : Option tree.Statement) (ss : tree.Statements) (xs : program.Statements) {s : tree.Statement} {x : program.Statement} {es : List Event}
        → Path before s x es returns → Paths before front (tree.statement_and s ss) (program.statement_and x xs) (before front s ++ es) returns

  -- the turns of a loop of this condition and body, with what happens behind each turn
  pub data Turns (before : Option tree.Statement → tree.Statement → List Event) : program.Expression → tree.Statement → program.Statement → List Event → List Event → Way → Type 0 where
    leaves : (c : program.Expression) (s : tree.Statement) (x : program.Statement) (behind : List Event) → Turns before c s x behind (evaluated c) goes_on
    turn : {c : program.Expression} {s : tree.Statement} {x : program.Statement} {behind es fs : List Event} {w : Way}
        → Path before s x es goes_on → Turns before c s x behind fs w → Turns before c s x behind (evaluated c ++ ((before None s ++ es) ++ (behind ++ fs))) w
    broken : (c : program.Expression) (behind : List Event) {s : tree.Statement} {x : program.Statement} {es : List Event}
        → Path before s x es returns → Turns before c s x behind (evaluated c ++ (before None s ++ es)) returns

-- What is taken as marks in a body: behind its `{`, before a statement, and before its `}`.
pub record Guards : Type 0 where
  pub opening : List Event
  pub before : Option tree.Statement → tree.Statement → List Event
  pub closing : List Event

-- a path from one end of a body to the other, or to a `return`
pub data Through (g : Guards) (ss : tree.Statements) (xs : program.Statements) : List Event → Type 0 where
  to_its_end : {es : List Event} → Paths g.before None ss xs es goes_on → Through g ss xs (g.opening ++ (es ++ g.closing))
  to_a_return : {es : List Event} → Paths g.before None ss xs es returns → Through g ss xs (g.opening ++ es)
