-- Parts in a Vec are viewed as the list that it holds.
use Rattle.std.proofs.Common.{◌≡◌, ℕ, List, [], ◌∷◌, refl, ◌∙◌, ap, Global}
use Rattle.std.specs.declared.vec.Vec.{Vec}
use Rattle.ca_program.specs.declared.program.Expr.{Expr, Row_of-Expr, end_of-Expr, more_of-Expr, items-the_row-Expr, items_hidden-the_row-Expr-0}
use Rattle.ca_program.specs.declared.program.Expr.TheBlock.{hidden-the_row-Expr-0}
use Rattle.ca_program.specs.declared.program.Stmt.{Stmt}
use Rattle.ca_program.specs.declared.program.StmtForm.{Block, Row_of-Stmt, end_of-Stmt, more_of-Stmt, items-the_row-Stmt, items_hidden-the_row-Stmt-0}
use Rattle.ca_program.specs.declared.program.StmtForm.TheBlock.{hidden-the_row-Stmt-0}
use Rattle.ca_program.specs.Plain.{expression_and, statement_and, block}
use Rattle.ca_program.specs.View.{expression_view, row_view, expressions_view, form_view, list_view, statements_view}

expression_row : {n : _} (k : Row_of-Expr n) → row_view k ≡ expressions_view (items-the_row-Expr n k)
expression_row end_of-Expr = refl
expression_row (more_of-Expr e rest) = ap (λ z. expression_and (expression_view e) z) (expression_row rest)

-- the arguments of a value method's call
pub row_is_list : (v : Vec Expr Global) → row_view (hidden-the_row-Expr-0 v) ≡ expressions_view v.items
row_is_list v = expression_row (hidden-the_row-Expr-0 v) ∙ ap expressions_view (items_hidden-the_row-Expr-0 v)

statement_row : {n : _} (k : Row_of-Stmt n) → list_view k ≡ statements_view (items-the_row-Stmt n k)
statement_row end_of-Stmt = refl
statement_row (more_of-Stmt line s rest) = ap (λ z. statement_and (form_view s line) z) (statement_row rest)

pub statements_are_list : (v : Vec Stmt Global) → list_view (hidden-the_row-Stmt-0 v) ≡ statements_view v.items
statements_are_list v = statement_row (hidden-the_row-Stmt-0 v) ∙ ap statements_view (items_hidden-the_row-Stmt-0 v)

pub block_is : (line : ℕ) (v : Vec Stmt Global) → form_view (Block v) line ≡ block line (statements_view v.items)
block_is line v = ap (λ ss. block line ss) (statements_are_list v)
