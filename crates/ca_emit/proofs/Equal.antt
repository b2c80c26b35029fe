-- Rows of expressions that are equal but for places, one by one.
use Rattle.std.proofs.Common.{◌≡◌, Bool, true, false, ◌&&◌, List, [], ◌∷◌, length, refl, sym, ap, ap₂, ◌∙◌, arith}
use Rattle.ca_tree.specs.declared.tree.ExprNode.{ExprNode}
use Rattle.ca_tree.specs.Plain.{Expression, Expressions, expression_and}
use Rattle.ca_tree.specs.View.{expression_view, expressions_view}
use Rattle.ca_emit.specs.Receivers.{same_expression, same_expressions}

pub unequal : (xs ys : List ExprNode) → (length xs ≡ length ys → ⊥) → false ≡ same_expressions (expressions_view xs) (expressions_view ys)
unequal [] [] h = absurd (h refl)
unequal [] (y ∷ ys) h = refl
unequal (x ∷ xs) [] h = refl
unequal (x ∷ xs) (y ∷ ys) h = differs (same_expression (expression_view x) (expression_view y)) (unequal xs ys (λ e. h (omega (arith, e))))
  where
    differs : (b : Bool) → false ≡ same_expressions (expressions_view xs) (expressions_view ys) → false ≡ (b && same_expressions (expressions_view xs) (expressions_view ys))
    differs true e = e
    differs false e = refl

-- two rows whose first items are equal, or aren't
module _ (d e : Expression) (ds es ls ms : Expressions) (r : Bool) (p : ls ≡ expression_and d ds) (q : ms ≡ expression_and e es) (was : same_expressions ls ms ≡ r) where
  pub equal_so_far : same_expression d e ≡ true → same_expressions ds es ≡ r
  equal_so_far h = sym (ap₂ same_expressions p q ∙ ap (λ b. b && same_expressions ds es) h) ∙ was

  pub not_equal : same_expression d e ≡ false → false ≡ r
  not_equal h = sym (ap₂ same_expressions p q ∙ ap (λ b. b && same_expressions ds es) h) ∙ was
