-- Statements of the tree in memory, as the plain tree has them.
use Rattle.std.proofs.Common.{◌≡◌, Option, Some, None, Global, sym, ap, ◌∙◌}
use Rattle.std.specs.declared.boxed.Box.{Box}
use Rattle.ca_tree.specs.declared.name.Place.{Place}
use Rattle.ca_tree.specs.declared.tree.ExprNode.{ExprNode}
use Rattle.ca_tree.specs.declared.tree.StmtNode.{StmtNode}
use Rattle.ca_tree.specs.declared.tree.StmtKind.{StmtKind, If, While, For}
use Rattle.ca_tree.specs.Plain.{if_only, if_else, while_loop, for_loop}
use Rattle.ca_tree.specs.View.{form_view, expression_view, statement_view}

pub while_is : (at : Place) (k : StmtKind) (e : ExprNode) (p : Box StmtNode Global) (x : StmtNode) → k ≡ While e p → x ≡ p.value → form_view k at ≡ while_loop at (expression_view e) (statement_view x)
while_is at k e p x is h = ap (λ z. form_view z at) is ∙ ap (λ z. while_loop at (expression_view e) (statement_view z)) (sym h)

pub only_is : (at : Place) (k : StmtKind) (e : ExprNode) (p : Box StmtNode Global) (o : Option (Box StmtNode Global)) (x : StmtNode) → k ≡ If e p o → o ≡ None → x ≡ p.value
    → form_view k at ≡ if_only at (expression_view e) (statement_view x)
only_is at k e p o x is none h = ap (λ z. form_view z at) is ∙ (ap (λ z. form_view (If e p z) at) none ∙ ap (λ z. if_only at (expression_view e) (statement_view z)) (sym h))

pub else_is : (at : Place) (k : StmtKind) (e : ExprNode) (p q : Box StmtNode Global) (o : Option (Box StmtNode Global)) (x y : StmtNode) → k ≡ If e p o → o ≡ Some q → x ≡ p.value → y ≡ q.value
    → form_view k at ≡ if_else at (expression_view e) (statement_view x) (statement_view y)
else_is at k e p q o x y is some h g =
    ap (λ z. form_view z at) is
    ∙ (ap (λ z. form_view (If e p z) at) some
    ∙ (ap (λ z. if_else at (expression_view e) (statement_view z) (statement_view q.value)) (sym h) ∙ ap (λ z. if_else at (expression_view e) (statement_view x) (statement_view z)) (sym g)))

pub for_is : (at : Place) (k : StmtKind) (e : ExprNode) (p q r : Box StmtNode Global) (x y z : StmtNode) → k ≡ For p e q r → x ≡ p.value → y ≡ q.value → z ≡ r.value
    → form_view k at ≡ for_loop at (statement_view x) (expression_view e) (statement_view y) (statement_view z)
for_is at k e p q r x y z is h g f =
    ap (λ w. form_view w at) is
    ∙ (ap (λ w. for_loop at (statement_view w) (expression_view e) (statement_view q.value) (statement_view r.value)) (sym h)
    ∙ (ap (λ w. for_loop at (statement_view x) (expression_view e) (statement_view w) (statement_view r.value)) (sym g) ∙ ap (λ w. for_loop at (statement_view x) (expression_view e) (statement_view y) (statement_view w)) (sym f)))
