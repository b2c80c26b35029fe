-- Expressions and branches in memory, as the plain ones.
use Rattle.std.proofs.Common.{◌≡◌, List, ap, ap₂, ◌∙◌, sym, Global}
use Rattle.std.specs.declared.vec.Vec.{Vec}
use Rattle.std.specs.declared.boxed.Box.{Box}
use Rattle.ca_tree.specs.declared.tree.BinaryOp.{BinaryOp}
use Rattle.ca_tree.specs.declared.tree.UnaryOp.{UnaryOp}
use Rattle.ca_program.specs.declared.program.Expr.{Expr, OwnItem, Read, ReadItem, Value, Unary, Binary}
use Rattle.ca_program.specs.declared.program.FieldId.{FieldId}
use Rattle.ca_program.specs.declared.program.FunctionId.{FunctionId}
use Rattle.ca_program.specs.declared.program.Stmt.{Stmt}
use Rattle.ca_program.specs.declared.program.StmtForm.{If}
use Rattle.ca_program.specs.Plain.{own_item, read, read_item, value_call, unary, binary, if_else}
use Rattle.ca_program.specs.View.{expression_view, expressions_view, form_view, statement_view}
use Rattle.ca_symbolic.proofs.Blocks.{call_view}

pub own_item_is : (e : Expr) (f : FieldId) (p : Box Expr Global) (i : Expr) → e ≡ OwnItem f p → i ≡ p.value → expression_view e ≡ own_item f (expression_view i)
own_item_is e f p i is h = ap expression_view is ∙ ap (λ z. own_item f (expression_view z)) (sym h)

pub read_is : (e : Expr) (p : Box Expr Global) (f : FieldId) (o : Expr) → e ≡ Read p f → o ≡ p.value → expression_view e ≡ read (expression_view o) f
read_is e p f o is h = ap expression_view is ∙ ap (λ z. read (expression_view z) f) (sym h)

pub read_item_is : (e : Expr) (p : Box Expr Global) (f : FieldId) (q : Box Expr Global) (o i : Expr) → e ≡ ReadItem p f q → o ≡ p.value → i ≡ q.value →
    expression_view e ≡ read_item (expression_view o) f (expression_view i)
read_item_is e p f q o i is h g =
    ap expression_view is ∙ ap₂ (λ y z. read_item (expression_view y) f (expression_view z)) (sym h) (sym g)

pub call_is : (e : Expr) (p : Box Expr Global) (m : FunctionId) (v : Vec Expr Global) (o : Expr) (xs : List Expr) → e ≡ Value p m v → o ≡ p.value → xs ≡ v.items →
    expression_view e ≡ value_call (expression_view o) m (expressions_view xs)
call_is e p m v o xs is h g =
    call_view e p m v is ∙ ap₂ (λ z zs. value_call (expression_view z) m (expressions_view zs)) (sym h) (sym g)

pub unary_is : (e : Expr) (op : UnaryOp) (p : Box Expr Global) (a : Expr) → e ≡ Unary op p → a ≡ p.value → expression_view e ≡ unary op (expression_view a)
unary_is e op p a is h = ap expression_view is ∙ ap (λ z. unary op (expression_view z)) (sym h)

pub binary_is : (e : Expr) (op : BinaryOp) (p q : Box Expr Global) (a b : Expr) → e ≡ Binary op p q → a ≡ p.value → b ≡ q.value →
    expression_view e ≡ binary op (expression_view a) (expression_view b)
binary_is e op p q a b is h g =
    ap expression_view is ∙ ap₂ (λ y z. binary op (expression_view y) (expression_view z)) (sym h) (sym g)

pub if_is : (s : Stmt) (e : Expr) (p q : Box Stmt Global) → s.kind ≡ If e p q → statement_view s ≡ if_else s.line (expression_view e) (statement_view p.value) (statement_view q.value)
if_is s e p q is = ap (λ k. form_view k s.line) is
