-- Statements and calls in memory, and what they are viewed as.
use Rattle.std.proofs.Common.{◌≡◌, ℕ, ◌<◌, Bool, true, false, ◌&&◌, List, [], ◌∷◌, length, refl, sym, ap, ap₂, ◌∙◌, arith, Global}
use Rattle.std.specs.declared.vec.Vec.{Vec}
use Rattle.std.specs.declared.boxed.Box.{Box}
use Rattle.ca_program.specs.declared.program.Expr.{Expr, Value}
use Rattle.ca_program.specs.declared.program.FunctionId.{FunctionId}
use Rattle.ca_program.specs.declared.program.Stmt.{Stmt}
use Rattle.ca_program.specs.Plain.{Expression, Expressions, expression_and, Statement, Statements, statement_and, block, value_call}
use Rattle.ca_program.specs.View.{statements_view, expression_view, expressions_view}
use Rattle.ca_symbolic.specs.OtherLoops.{is_call, are_calls, calls_alone}
use Rattle.ca_symbolic.specs.Same.{same_expression, same_expressions}
use Rattle.ca_program.proofs.Rows.{row_is_list}

pub call_view : (e : Expr) (p : Box Expr Global) (m : FunctionId) (v : Vec Expr Global) → e ≡ Value p m v → expression_view e ≡ value_call (expression_view p.value) m (expressions_view v.items)
call_view e p m v is = ap expression_view is ∙ ap (λ es. value_call (expression_view p.value) m es) (row_is_list v)

pub some_calls : (line : ℕ) (xs : List Stmt) → 0 < length xs → are_calls (statements_view xs) ≡ calls_alone (block line (statements_view xs))
some_calls line [] h = absurd (omega (arith, h))
some_calls line (x ∷ xs) h = refl

pub no_calls : (line : ℕ) (xs : List Stmt) → length xs < 1 → false ≡ calls_alone (block line (statements_view xs))
no_calls line [] h = refl
no_calls line (x ∷ xs) h = absurd (omega (arith, h))

pub unequal : (xs ys : List Expr) → (length xs ≡ length ys → ⊥) → false ≡ same_expressions (expressions_view xs) (expressions_view ys)
unequal [] [] h = absurd (h refl)
unequal [] (y ∷ ys) h = refl
unequal (x ∷ xs) [] h = refl
unequal (x ∷ xs) (y ∷ ys) h = differs (same_expression (expression_view x) (expression_view y)) (unequal xs ys (λ e. h (omega (arith, e))))
  where
    differs : (b : Bool) → false ≡ same_expressions (expressions_view xs) (expressions_view ys) → false ≡ (b && same_expressions (expressions_view xs) (expressions_view ys))
    differs true e = e
    differs false e = refl

-- two rows whose first items are written alike, or aren't
module _ (d e : Expression) (ds es ls ms : Expressions) (r : Bool) (p : ls ≡ expression_and d ds) (q : ms ≡ expression_and e es) (was : same_expressions ls ms ≡ r) where
  pub alike_so_far : same_expression d e ≡ true → same_expressions ds es ≡ r
  alike_so_far h = sym (ap₂ same_expressions p q ∙ ap (λ b. b && same_expressions ds es) h) ∙ was

  pub not_alike : same_expression d e ≡ false → false ≡ r
  not_alike h = sym (ap₂ same_expressions p q ∙ ap (λ b. b && same_expressions ds es) h) ∙ was

-- a row whose first statement is a call, or isn't
module _ (y : Statement) (rest left : Statements) (r : Bool) (opened : left ≡ statement_and y rest) (was : are_calls left ≡ r) where
  pub calls_so_far : is_call y ≡ true → are_calls rest ≡ r
  calls_so_far h = sym (ap are_calls opened ∙ ap (λ b. b && are_calls rest) h) ∙ was

  pub no_call : is_call y ≡ false → false ≡ r
  no_call h = sym (ap are_calls opened ∙ ap (λ b. b && are_calls rest) h) ∙ was
