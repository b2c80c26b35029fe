-- Expressions that count as the same are those that are equal but for their places.
use Rattle.std.proofs.Common.{◌≡◌, ℤ, Bool, true, false, ◌&&◌, ◌↔◌, List, refl, sym, ap, ap₂, ◌∙◌, subst}
use Rattle.std.specs.Prelude.{ℕ, Some}
use Rattle.std.specs.Ordering.{int_eq}
use Rattle.std.specs.Str.{bytes_eq}
use Rattle.std.proofs.lemmas.Bool.{and_parts, and_from}
use Rattle.std.proofs.lemmas.Bool.Decides.{Decides-int_eq}
use Rattle.std.proofs.lemmas.Slice.Eq.{bytes_eq-Decides}
use Rattle.ca_tree.specs.declared.tree.BinaryOp.{BinaryOp}
use Rattle.ca_tree.specs.declared.tree.UnaryOp.{UnaryOp}
use Rattle.ca_tree.specs.declared.token.Sign.{Sign}
use Rattle.ca_tree.specs.Codes.{sign_code, binary_code, same_sign, same_binary}
use Rattle.ca_tree.specs.Operators.{unary_sign, unary_of_sign}
use Rattle.ca_tree.specs.Plain.{Expression, Expressions, number, truth, null, this, named, call, field, method, index, unary, binary, no_expressions, expression_and}
use Rattle.ca_tree.proofs.Table.{is_sign, is_binary, unary_back}
use Rattle.std.proofs.lemmas.Bool.{eq-eqb}
use Rattle.ca_canonical.specs.Bare.{bare_expression, bare_expressions, nowhere}
use Rattle.ca_symbolic.specs.Same.{same_truth}
use Rattle.ca_emit.specs.Receivers.{same_expression, same_expressions}

truths : (a b : Bool) → same_truth a b ≡ true → a ≡ b
truths true b e = sym e
truths false true e = absurd cc
truths false false e = refl

numbers : (m n : ℤ) → int_eq m n ≡ true → m ≡ n
numbers m n e = (Decides-int_eq m n).0 e

names : (m n : List ℕ) → bytes_eq m n ≡ true → m ≡ n
names m n e = (bytes_eq-Decides m n).0 e

unaries : (o s : UnaryOp) → same_sign (unary_sign o) (unary_sign s) ≡ true → o ≡ s
unaries o s e = let one : Some o ≡ Some s = sym (unary_back o) ∙ (ap unary_of_sign (is_sign (unary_sign o) (unary_sign s) e) ∙ unary_back s) in cc

mutual
  alike : (d e : Expression) → same_expression d e ≡ true → bare_expression d ≡ bare_expression e
  alike (number at m) (number at2 n) s = ap (number nowhere) (numbers m n s)
  alike (truth at a) (truth at2 b) s = ap (truth nowhere) (truths a b s)
  alike (null at) (null at2) s = refl
  alike (this at) (this at2) s = refl
  alike (named at m) (named at2 n) s = ap (named nowhere) (names m n s)
  alike (call at m xs) (call at2 n ys) s =
      let b = and_parts (bytes_eq m n) (same_expressions xs ys) s in ap₂ (call nowhere) (names m n b.0) (all_alike xs ys b.1)
  alike (field at d m) (field at2 e n) s =
      let b = and_parts (bytes_eq m n) (same_expression d e) s in ap₂ (field nowhere) (alike d e b.1) (names m n b.0)
  alike (method at d m xs) (method at2 e n ys) s =
      let b = and_parts (bytes_eq m n) (same_expression d e && same_expressions xs ys) s in
      let c = and_parts (same_expression d e) (same_expressions xs ys) b.1 in
      let p : bare_expression d ≡ bare_expression e = alike d e c.0 in
      let q : m ≡ n = names m n b.0 in
      let r : bare_expressions xs ≡ bare_expressions ys = all_alike xs ys c.1 in
      λ i. method nowhere (p i) (q i) (r i)
  alike (index at d i) (index at2 e j) s =
      let b = and_parts (same_expression d e) (same_expression i j) s in ap₂ (index nowhere) (alike d e b.0) (alike i j b.1)
  alike (unary at o d) (unary at2 t e) s =
      let b = and_parts (same_sign (unary_sign o) (unary_sign t)) (same_expression d e) s in ap₂ (unary nowhere) (unaries o t b.0) (alike d e b.1)
  alike (binary at o a b) (binary at2 t d e) s =
      let x = and_parts (same_binary o t) (same_expression a d && same_expression b e) s in
      let y = and_parts (same_expression a d) (same_expression b e) x.1 in
      let p : o ≡ t = is_binary o t x.0 in
      let q : bare_expression a ≡ bare_expression d = alike a d y.0 in
      let r : bare_expression b ≡ bare_expression e = alike b e y.1 in
      λ i. binary nowhere (p i) (q i) (r i)
  alike d e s = absurd cc

  all_alike : (xs ys : Expressions) → same_expressions xs ys ≡ true → bare_expressions xs ≡ bare_expressions ys
  all_alike no_expressions no_expressions s = refl
  all_alike (expression_and d ds) (expression_and e es) s =
      let b = and_parts (same_expression d e) (same_expressions ds es) s in ap₂ expression_and (alike d e b.0) (all_alike ds es b.1)
  all_alike xs ys s = absurd cc

truth_itself : (b : Bool) → same_truth b b ≡ true
truth_itself true = refl
truth_itself false = refl

number_itself : (n : ℤ) → int_eq n n ≡ true
number_itself n = (Decides-int_eq n n).1 refl

name_itself : (n : List ℕ) → bytes_eq n n ≡ true
name_itself n = (bytes_eq-Decides n n).1 refl

sign_itself : (s : Sign) → same_sign s s ≡ true
sign_itself s = eq-eqb (sign_code s) (sign_code s) refl

binary_itself : (o : BinaryOp) → same_binary o o ≡ true
binary_itself o = eq-eqb (binary_code o) (binary_code o) refl

mutual
  -- the same as itself without places
  bare_is : (e : Expression) → same_expression (bare_expression e) (bare_expression e) ≡ true
  bare_is (number at n) = number_itself n
  bare_is (truth at b) = truth_itself b
  bare_is (null at) = refl
  bare_is (this at) = refl
  bare_is (named at n) = name_itself n
  bare_is (call at n es) = and_from (bytes_eq n n) (same_expressions (bare_expressions es) (bare_expressions es)) (name_itself n) (all_bare es)
  bare_is (field at e n) = and_from (bytes_eq n n) (same_expression (bare_expression e) (bare_expression e)) (name_itself n) (bare_is e)
  bare_is (method at e n es) =
      and_from (bytes_eq n n) (same_expression (bare_expression e) (bare_expression e) && same_expressions (bare_expressions es) (bare_expressions es)) (name_itself n)
      (and_from (same_expression (bare_expression e) (bare_expression e)) (same_expressions (bare_expressions es) (bare_expressions es)) (bare_is e) (all_bare es))
  bare_is (index at e i) = and_from (same_expression (bare_expression e) (bare_expression e)) (same_expression (bare_expression i) (bare_expression i)) (bare_is e) (bare_is i)
  bare_is (unary at o e) = and_from (same_sign (unary_sign o) (unary_sign o)) (same_expression (bare_expression e) (bare_expression e)) (sign_itself (unary_sign o)) (bare_is e)
  bare_is (binary at o a b) =
      and_from (same_binary o o) (same_expression (bare_expression a) (bare_expression a) && same_expression (bare_expression b) (bare_expression b)) (binary_itself o)
      (and_from (same_expression (bare_expression a) (bare_expression a)) (same_expression (bare_expression b) (bare_expression b)) (bare_is a) (bare_is b))

  all_bare : (es : Expressions) → same_expressions (bare_expressions es) (bare_expressions es) ≡ true
  all_bare no_expressions = refl
  all_bare (expression_and e es) = and_from (same_expression (bare_expression e) (bare_expression e)) (same_expressions (bare_expressions es) (bare_expressions es)) (bare_is e) (all_bare es)

mutual
  -- places don't matter
  aside : (d e : Expression) → same_expression (bare_expression d) (bare_expression e) ≡ same_expression d e
  aside (number at m) (number at2 n) = refl
  aside (truth at a) (truth at2 b) = refl
  aside (null at) (null at2) = refl
  aside (this at) (this at2) = refl
  aside (named at m) (named at2 n) = refl
  aside (call at m xs) (call at2 n ys) = ap (λ b. bytes_eq m n && b) (all_aside xs ys)
  aside (field at d m) (field at2 e n) = ap (λ b. bytes_eq m n && b) (aside d e)
  aside (method at d m xs) (method at2 e n ys) = ap₂ (λ a b. bytes_eq m n && (a && b)) (aside d e) (all_aside xs ys)
  aside (index at d i) (index at2 e j) = ap₂ (λ a b. a && b) (aside d e) (aside i j)
  aside (unary at o d) (unary at2 t e) = ap (λ b. same_sign (unary_sign o) (unary_sign t) && b) (aside d e)
  aside (binary at o a b) (binary at2 t d e) = ap₂ (λ x y. same_binary o t && (x && y)) (aside a d) (aside b e)
  aside d e = refl

  all_aside : (xs ys : Expressions) → same_expressions (bare_expressions xs) (bare_expressions ys) ≡ same_expressions xs ys
  all_aside no_expressions no_expressions = refl
  all_aside (expression_and d ds) (expression_and e es) = ap₂ (λ a b. a && b) (aside d e) (all_aside ds es)
  all_aside no_expressions (expression_and e es) = refl
  all_aside (expression_and d ds) no_expressions = refl

pub alike_but_for_places : (d e : Expression) → (same_expression d e ≡ true) ↔ (bare_expression d ≡ bare_expression e)
alike_but_for_places d e = (alike d e, λ s. sym (aside d e) ∙ subst (λ x. same_expression (bare_expression d) x ≡ true) s (bare_is d))
