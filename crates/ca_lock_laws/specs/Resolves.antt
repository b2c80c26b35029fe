-- Which statement of a program stands for which statement of a text: one of the same form, part by part. Calls, branches and
-- loops stand on the line of the text.
use Rattle.std.specs.Prelude.{List, [], ◌∷◌, ◌++◌, Option, Some, None}
use Rattle.ca_tree.specs.declared.name.Place.{Place}
use Rattle.ca_tree.specs.declared.tree.TypeNode.{TypeNode}
use Rattle.ca_tree.specs.Plain as tree
use Rattle.ca_tree.specs.Plain.{MethodTree, MemberTree, ClassTree, TextTree, field_member, method_member}
use Rattle.ca_program.specs.declared.program.FirstPart.{FirstPart}
use Rattle.ca_program.specs.declared.program.LoopId.{LoopId}
use Rattle.ca_program.specs.declared.program.OpId.{OpId}
use Rattle.ca_program.specs.Plain as program
use Rattle.ca_program.specs.Plain.{PlainMethod, PlainProgram}
use Rattle.ca_lock_laws.specs.Paths.{IsLine}

mutual
  pub data Resolves : tree.Statement → program.Statement → Type 0 where
    an_empty : (at : Place) → Resolves (tree.empty at) (program.block at.line program.no_statements)
    a_line : {s : tree.Statement} {x : program.Statement} → IsLine s x → Resolves s x
    a_call : (at : Place) (e : tree.Expression) (receiver : program.Expression) (op : OpId) (arguments : program.Expressions)
        → Resolves (tree.call_statement at e) (program.invoke at.line receiver op arguments)
    a_return : (at : Place) (e : tree.Expression) (v : program.Expression) → Resolves (tree.return_value at e) (program.return_value at.line v)
    a_block : (at : Place) {ss : tree.Statements} {xs : program.Statements} → AllResolve ss xs → Resolves (tree.block at ss) (program.block at.line xs)
    an_if : (at : Place) (e : tree.Expression) (c : program.Expression) {s : tree.Statement} {x : program.Statement}
        → Resolves s x → Resolves (tree.if_only at e s) (program.if_else at.line c x (program.block at.line program.no_statements))
    an_else : (at : Place) (e : tree.Expression) (c : program.Expression) {s t : tree.Statement} {x y : program.Statement}
        → Resolves s x → Resolves t y → Resolves (tree.if_else at e s t) (program.if_else at.line c x y)
    a_while : (at : Place) (e : tree.Expression) (c : program.Expression) {s : tree.Statement} {x : program.Statement}
        → Resolves s x → Resolves (tree.while_loop at e s) (program.while_loop at.line c x)
    a_for : (at : Place) (e : tree.Expression) (site : LoopId) (part : FirstPart) (c : program.Expression)
        {begin next s : tree.Statement} {start step x : program.Statement}
        → Resolves begin start → Resolves next step → Resolves s x → Resolves (tree.for_loop at begin e next s) (program.for_loop at.line site part start c step x)

  pub data AllResolve : tree.Statements → program.Statements → Type 0 where
    none : AllResolve tree.no_statements program.no_statements
    and_all : {s : tree.Statement} {x : program.Statement} {ss : tree.Statements} {xs : program.Statements}
        → Resolves s x → AllResolve ss xs → AllResolve (tree.statement_and s ss) (program.statement_and x xs)

-- The operations of a tree in the order of the text: the methods without a result.

abbrev pub operation_and : Option TypeNode → MethodTree → List MethodTree → List MethodTree
operation_and None m ms = m ∷ ms
operation_and (Some ty) m ms = ms

abbrev pub operations_in : List MemberTree → List MethodTree
operations_in [] = []
operations_in (field_member f ∷ ms) = operations_in ms
operations_in (method_member m ∷ ms) = operation_and m.result m (operations_in ms)

abbrev pub operations_of : List ClassTree → List MethodTree
operations_of [] = []
operations_of (c ∷ cs) = operations_in c.members ++ operations_of cs

-- one by one, as many as there are
abbrev pub AllBodies : (tree.Statements → program.Statements → Type 0) → List MethodTree → List PlainMethod → Type 0
AllBodies P [] [] = Unit {0}
AllBodies P [] (x ∷ xs) = ⊥
AllBodies P (m ∷ ms) [] = ⊥
AllBodies P (m ∷ ms) (x ∷ xs) = P m.body x.body.statements × AllBodies P ms xs

-- The bodies of operations and of `main`, which alone have calls of operations.
pub record ProgramResolves (t : TextTree) (p : PlainProgram) : Type 0 where
  pub operations : AllBodies AllResolve (operations_of t.classes) p.ops
  pub main : AllResolve t.main p.main.statements
