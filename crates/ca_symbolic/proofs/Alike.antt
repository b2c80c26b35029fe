-- Expressions are written alike exactly where they are equal.
use Rattle.std.proofs.Common.{◌≡◌, ℕ, Bool, true, false, ◌&&◌, ◌↔◌, refl, sym, ap, ap₂, ◌∙◌, subst, ℤ}
use Rattle.std.specs.Prelude.{nat_eq, List, [], ◌∷◌, Some, slice_get}
use Rattle.std.specs.Ordering.{int_eq}
use Rattle.std.proofs.lemmas.Bool.{eqb-true, eq-eqb, and_parts}
use Rattle.std.proofs.lemmas.Bool.Decides.{Decides-int_eq}
use Rattle.ca_tree.specs.declared.tree.BinaryOp.{BinaryOp}
use Rattle.ca_tree.specs.declared.tree.BinaryOp.TheVariants as op
use Rattle.ca_tree.specs.declared.tree.UnaryOp.{UnaryOp}
use Rattle.ca_tree.specs.declared.tree.UnaryOp.TheVariants as sign
use Rattle.ca_program.specs.declared.program.FieldId.{FieldId}
use Rattle.ca_program.specs.declared.program.FunctionId.{FunctionId}
use Rattle.ca_program.specs.Fields.{same_field}
use Rattle.ca_program.specs.Plain.{Expression, Expressions, number, truth, null, this, local, own, own_item, read, read_item, value_call, unary, binary, no_expressions, expression_and}
use Rattle.ca_program.proofs.Fields.{same_fields, same_itself}
use Rattle.ca_symbolic.specs.Execution.{is_item}
use Rattle.ca_symbolic.specs.clauses.Refusals.{is_own_item}
use Rattle.ca_symbolic.specs.Same.{same_truth, same_sign, place_of, same_expression, same_expressions}
use Rattle.ca_sweep.proofs.Finding.{same_local as locals}

truths : (a b : Bool) → same_truth a b ≡ true → a ≡ b
truths true b e = sym e
truths false true e = absurd cc
truths false false e = refl

numbers : (m n : ℤ) → int_eq m n ≡ true → m ≡ n
numbers m n e = (Decides-int_eq m n).0 e

functions : (l m : FunctionId) → nat_eq l.0 m.0 ≡ true → l ≡ m
functions l m e = let c : l.0 ≡ m.0 = eqb-true l.0 m.0 e in λ i. record { 0 = c i }

signs : (o s : UnaryOp) → same_sign o s ≡ true → o ≡ s
signs sign.Minus sign.Minus e = refl
signs sign.Not sign.Not e = refl
signs sign.Minus sign.Not e = absurd cc
signs sign.Not sign.Minus e = absurd cc

abbrev every : List BinaryOp
every =
    op.Or ∷ op.And ∷ op.Equal ∷ op.NotEqual ∷ op.Less ∷ op.Greater ∷ op.LessEqual ∷ op.GreaterEqual ∷ op.Plus ∷ op.Minus ∷
    op.Times ∷ op.Divide ∷ op.Remainder ∷ op.BitAnd ∷ op.BitOr ∷ op.BitXor ∷ op.Max ∷ op.Min ∷ []

at_place : (o : BinaryOp) → slice_get every (place_of o) ≡ Some o
at_place op.Or = refl
at_place op.And = refl
at_place op.Equal = refl
at_place op.NotEqual = refl
at_place op.Less = refl
at_place op.Greater = refl
at_place op.LessEqual = refl
at_place op.GreaterEqual = refl
at_place op.Plus = refl
at_place op.Minus = refl
at_place op.Times = refl
at_place op.Divide = refl
at_place op.Remainder = refl
at_place op.BitAnd = refl
at_place op.BitOr = refl
at_place op.BitXor = refl
at_place op.Max = refl
at_place op.Min = refl

operators : (o s : BinaryOp) → nat_eq (place_of o) (place_of s) ≡ true → o ≡ s
operators o s e =
    let same : Some o ≡ Some s = sym (at_place o) ∙ ap (λ (n : ℕ). slice_get every n) (eqb-true (place_of o) (place_of s) e) ∙ at_place s in
    cc

mutual
  pub alike : (d e : Expression) → same_expression d e ≡ true → d ≡ e
  alike (number m) (number n) s = ap number (numbers m n s)
  alike (truth a) (truth b) s = ap truth (truths a b s)
  alike null null s = refl
  alike this this s = refl
  alike (local l) (local m) s = ap local (locals l m s)
  alike (own f) (own g) s = ap own (same_fields f g s)
  alike (own_item f i) (own_item g j) s =
      let b = and_parts (same_field f g) (same_expression i j) s in ap₂ own_item (same_fields f g b.0) (alike i j b.1)
  alike (read d f) (read e g) s =
      let b = and_parts (same_field f g) (same_expression d e) s in ap₂ read (alike d e b.1) (same_fields f g b.0)
  alike (read_item d f i) (read_item e g j) s =
      let b = and_parts (same_field f g) (same_expression d e && same_expression i j) s in
      let c = and_parts (same_expression d e) (same_expression i j) b.1 in
      let p : f ≡ g = same_fields f g b.0 in
      let q : d ≡ e = alike d e c.0 in
      let r : i ≡ j = alike i j c.1 in
      cc
  alike (value_call d m xs) (value_call e n ys) s =
      let b = and_parts (nat_eq m.0 n.0) (same_expression d e && same_expressions xs ys) s in
      let c = and_parts (same_expression d e) (same_expressions xs ys) b.1 in
      let p : m ≡ n = functions m n b.0 in
      let q : d ≡ e = alike d e c.0 in
      let r : xs ≡ ys = all_alike xs ys c.1 in
      cc
  alike (unary o d) (unary t e) s =
      let b = and_parts (same_sign o t) (same_expression d e) s in ap₂ unary (signs o t b.0) (alike d e b.1)
  alike (binary o a b) (binary t c d) s =
      let x = and_parts (nat_eq (place_of o) (place_of t)) (same_expression a c && same_expression b d) s in
      let y = and_parts (same_expression a c) (same_expression b d) x.1 in
      let p : o ≡ t = operators o t x.0 in
      let q : a ≡ c = alike a c y.0 in
      let r : b ≡ d = alike b d y.1 in
      cc
  alike d e s = absurd cc

  pub all_alike : (xs ys : Expressions) → same_expressions xs ys ≡ true → xs ≡ ys
  all_alike no_expressions no_expressions s = refl
  all_alike (expression_and d ds) (expression_and e es) s =
      let b = and_parts (same_expression d e) (same_expressions ds es) s in ap₂ expression_and (alike d e b.0) (all_alike ds es b.1)
  all_alike xs ys s = absurd cc

truth_itself : (b : Bool) → same_truth b b ≡ true
truth_itself true = refl
truth_itself false = refl

number_itself : (n : ℤ) → int_eq n n ≡ true
number_itself n = (Decides-int_eq n n).1 refl

sign_itself : (o : UnaryOp) → same_sign o o ≡ true
sign_itself sign.Minus = refl
sign_itself sign.Not = refl

pub two : (a b : Bool) → a ≡ true → b ≡ true → (a && b) ≡ true
two true true p q = refl
two true false p q = absurd cc
two false b p q = absurd cc

mutual
  itself : (e : Expression) → same_expression e e ≡ true
  itself (number n) = number_itself n
  itself (truth b) = truth_itself b
  itself null = refl
  itself this = refl
  itself (local l) = eq-eqb l.0 l.0 refl
  itself (own f) = same_itself f
  itself (own_item f i) = two (same_field f f) (same_expression i i) (same_itself f) (itself i)
  itself (read e f) = two (same_field f f) (same_expression e e) (same_itself f) (itself e)
  itself (read_item e f i) =
      two (same_field f f) (same_expression e e && same_expression i i) (same_itself f) (two (same_expression e e) (same_expression i i) (itself e) (itself i))
  itself (value_call e m xs) =
      two (nat_eq m.0 m.0) (same_expression e e && same_expressions xs xs) (eq-eqb m.0 m.0 refl)
      (two (same_expression e e) (same_expressions xs xs) (itself e) (all_themselves xs))
  itself (unary o e) = two (same_sign o o) (same_expression e e) (sign_itself o) (itself e)
  itself (binary o a b) =
      two (nat_eq (place_of o) (place_of o)) (same_expression a a && same_expression b b) (eq-eqb (place_of o) (place_of o) refl)
      (two (same_expression a a) (same_expression b b) (itself a) (itself b))

  all_themselves : (es : Expressions) → same_expressions es es ≡ true
  all_themselves no_expressions = refl
  all_themselves (expression_and e es) = two (same_expression e e) (same_expressions es es) (itself e) (all_themselves es)

pub alike_is_equal : (d e : Expression) → (same_expression d e ≡ true) ↔ (d ≡ e)
alike_is_equal d e = (alike d e, λ s. subst (λ x. same_expression d x ≡ true) s (itself d))

-- what is an item of a field at an index is an item of an own field
pub own_item_alike : (f : FieldId) (i e : Expression) → is_item f i e ≡ true → is_own_item e ≡ true
own_item_alike f i (own_item g j) h = refl
own_item_alike f i e h = absurd cc
