-- The courses that a body may take, as its program has it and without marks; and of which texts each is a path.
use Rattle.std.specs.Prelude.{ℕ, List, [], ◌∷◌, ◌++◌}
use Rattle.std.specs.List.{AllByRecursion}
use Rattle.ca_tree.specs.Plain as tree
use Rattle.ca_tree.specs.Plain.{MethodTree, TextTree}
use Rattle.ca_tree.specs.declared.tree.AssignOp.{AssignOp}
use Rattle.ca_program.specs.declared.program.ClassId.{ClassId}
use Rattle.ca_program.specs.declared.program.FieldId.{FieldId}
use Rattle.ca_program.specs.declared.program.FirstPart.{FirstPart}
use Rattle.ca_program.specs.declared.program.LocalId.{LocalId}
use Rattle.ca_program.specs.declared.program.LoopId.{LoopId}
use Rattle.ca_program.specs.declared.program.OpId.{OpId}
use Rattle.ca_program.specs.Plain as program
use Rattle.ca_lock_laws.specs.Events.{Event, locks, unlocks, spawns, accesses, evaluates, calls, evaluated, happens}
use Rattle.ca_lock_laws.specs.Resolves.{operations_of}
use Rattle.ca_lock_laws.specs.Paths.{Way, goes_on, returns}

mutual
  pub data Course : program.Statement → List Event → Way → Type 0 where
    in_block : {line : ℕ} {xs : program.Statements} {es : List Event} {w : Way} → Courses xs es w → Course (program.block line xs) es w
    puts_local : {line : ℕ} {l : LocalId} {op : AssignOp} {e : program.Expression} → Course (program.put_local line l op e) (happens (program.put_local line l op e)) goes_on
    puts_field : {line : ℕ} {f : FieldId} {op : AssignOp} {e : program.Expression} → Course (program.put_field line f op e) (happens (program.put_field line f op e)) goes_on
    puts_item : {line : ℕ} {f : FieldId} {i : program.Expression} {op : AssignOp} {e : program.Expression} → Course (program.put_item line f i op e) (happens (program.put_item line f i op e)) goes_on
    creates_local : {line : ℕ} {l : LocalId} {c : ClassId} → Course (program.new_local line l c) (happens (program.new_local line l c)) goes_on
    creates_field : {line : ℕ} {f : FieldId} {c : ClassId} → Course (program.new_field line f c) (happens (program.new_field line f c)) goes_on
    creates_item : {line : ℕ} {f : FieldId} {i : program.Expression} {c : ClassId} → Course (program.new_item line f i c) (happens (program.new_item line f i c)) goes_on
    prints : {line : ℕ} {v : program.Expression} → Course (program.print_value line v) (happens (program.print_value line v)) goes_on
    by_call : {line : ℕ} {receiver : program.Expression} {op : OpId} {arguments : program.Expressions} → Course (program.invoke line receiver op arguments) (calls op ∷ []) goes_on
    by_return : {line : ℕ} {v : program.Expression} → Course (program.return_value line v) (evaluated v) returns
    by_first : {line : ℕ} {c : program.Expression} {x y : program.Statement} {es : List Event} {w : Way} → Course x es w → Course (program.if_else line c x y) (evaluated c ++ es) w
    by_second : {line : ℕ} {c : program.Expression} {x y : program.Statement} {es : List Event} {w : Way} → Course y es w → Course (program.if_else line c x y) (evaluated c ++ es) w
    by_while : {line : ℕ} {c : program.Expression} {x : program.Statement} {es : List Event} {w : Way} → Rounds c x [] es w → Course (program.while_loop line c x) es w
    by_for : {line : ℕ} {site : LoopId} {part : FirstPart} {start step x : program.Statement} {c : program.Expression} {es : List Event} {w : Way}
        → Rounds c x (happens step) es w → Course (program.for_loop line site part start c step x) (happens start ++ es) w

  pub data Courses : program.Statements → List Event → Way → Type 0 where
    at_end : Courses program.no_statements [] goes_on
    and_next : {x : program.Statement} {xs : program.Statements} {es fs : List Event} {w : Way}
        → Course x es goes_on → Courses xs fs w → Courses (program.statement_and x xs) (es ++ fs) w
    and_return : {x : program.Statement} {xs : program.Statements} {es : List Event} → Course x es returns → Courses (program.statement_and x xs) es returns

  -- the rounds of a loop of this condition and body, with what happens behind each
  pub data Rounds : program.Expression → program.Statement → List Event → List Event → Way → Type 0 where
    no_round : {c : program.Expression} {x : program.Statement} {behind : List Event} → Rounds c x behind (evaluated c) goes_on
    one_round : {c : program.Expression} {x : program.Statement} {behind es fs : List Event} {w : Way}
        → Course x es goes_on → Rounds c x behind fs w → Rounds c x behind (evaluated c ++ (es ++ (behind ++ fs))) w
    last_round : {c : program.Expression} {x : program.Statement} {behind es : List Event} → Course x es returns → Rounds c x behind (evaluated c ++ es) returns

-- what happens, without the marks
abbrev pub unmarked : List Event → List Event
unmarked [] = []
unmarked (locks ∷ es) = unmarked es
unmarked (unlocks ∷ es) = unmarked es
unmarked (spawns ∷ es) = unmarked es
unmarked (accesses f ∷ es) = accesses f ∷ unmarked es
unmarked (evaluates m ∷ es) = evaluates m ∷ unmarked es
unmarked (calls op ∷ es) = calls op ∷ unmarked es

-- The first and the last part of each `for` are declarations or assignments, as the grammar has it.

abbrev pub IsHead : tree.Statement → Type 0
IsHead (tree.local at ty name name_at v) = Unit {0}
IsHead (tree.assign at target op r) = Unit {0}
IsHead other = ⊥

abbrev mutual
  pub HeadsStand : tree.Statement → Type 0
  HeadsStand (tree.block at ss) = AllHeadsStand ss
  HeadsStand (tree.if_only at e s) = HeadsStand s
  HeadsStand (tree.if_else at e s t) = HeadsStand s × HeadsStand t
  HeadsStand (tree.while_loop at e s) = HeadsStand s
  HeadsStand (tree.for_loop at first e next s) = IsHead first × IsHead next × HeadsStand s
  HeadsStand (tree.empty at) = Unit {0}
  HeadsStand (tree.local at ty name name_at v) = Unit {0}
  HeadsStand (tree.assign at target op r) = Unit {0}
  HeadsStand (tree.call_statement at e) = Unit {0}
  HeadsStand (tree.return_value at e) = Unit {0}
  HeadsStand (tree.print_value at e) = Unit {0}

  pub AllHeadsStand : tree.Statements → Type 0
  AllHeadsStand tree.no_statements = Unit {0}
  AllHeadsStand (tree.statement_and s ss) = HeadsStand s × AllHeadsStand ss

abbrev pub BodyHeadsStand : MethodTree → Type 0
BodyHeadsStand m = AllHeadsStand m.body

-- in operations and in `main`
pub record TreeHeadsStand (t : TextTree) : Type 0 where
  pub operations : AllByRecursion BodyHeadsStand (operations_of t.classes)
  pub main : AllHeadsStand t.main
