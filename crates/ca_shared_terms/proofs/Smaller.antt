-- What a term stands over is smaller than it, and terms of equal operators over equal terms are equal.
use Rattle.std.proofs.Common.{◌≡◌, ◌+◌, ◌<◌, refl, sym, ap, ap₂, ◌∙◌, arith}
use Rattle.ca_norm.specs.declared.operators.Unary.{Unary}
use Rattle.ca_norm.specs.declared.operators.Unary.TheVariants as unary
use Rattle.ca_norm.specs.declared.operators.Binary.{Binary}
use Rattle.ca_norm.specs.declared.operators.Binary.TheVariants as binary
use Rattle.ca_norm.specs.declared.operators.Ternary.{Ternary}
use Rattle.ca_norm.specs.declared.operators.Ternary.TheVariants as ternary
use Rattle.ca_norm.specs.Terms.{PlainTerm}
use Rattle.ca_norm.specs.Operators.{over_one, over_two, over_three}
use Rattle.ca_shared_terms.specs.Sizes.{term_size}

size_over_one : (f : Unary) (a : PlainTerm) → term_size (over_one f a) ≡ term_size a + 1
size_over_one unary.Neg a = refl
size_over_one f a = refl

size_over_two : (f : Binary) (a b : PlainTerm) → term_size (over_two f a b) ≡ term_size a + term_size b + 1
size_over_two binary.Add a b = refl
size_over_two f a b = refl

size_over_three : (f : Ternary) (a b c : PlainTerm) → term_size (over_three f a b c) ≡ term_size a + term_size b + term_size c + 1
size_over_three ternary.Choose a b c = refl
size_over_three f a b c = refl

pub one_smaller : (f : Unary) (a t : PlainTerm) → over_one f a ≡ t → term_size a < term_size t
one_smaller f a t e = omega (arith, size_over_one f a, ap term_size e)

module _ (f : Binary) (a b t : PlainTerm) (e : over_two f a b ≡ t) where
  pub left_smaller : term_size a < term_size t
  left_smaller = omega (arith, size_over_two f a b, ap term_size e)

  pub right_smaller : term_size b < term_size t
  right_smaller = omega (arith, size_over_two f a b, ap term_size e)

module _ (f : Ternary) (a b c t : PlainTerm) (e : over_three f a b c ≡ t) where
  pub first_smaller : term_size a < term_size t
  first_smaller = omega (arith, size_over_three f a b c, ap term_size e)

  pub second_smaller : term_size b < term_size t
  second_smaller = omega (arith, size_over_three f a b c, ap term_size e)

  pub third_smaller : term_size c < term_size t
  third_smaller = omega (arith, size_over_three f a b c, ap term_size e)

pub same_ones : (f g : Unary) (a b t u : PlainTerm) → over_one f a ≡ t → over_one g b ≡ u → f ≡ g → a ≡ b → t ≡ u
same_ones f g a b t u p q e h = sym p ∙ ap₂ over_one e h ∙ q

pub same_twos : (f g : Binary) (a b c d t u : PlainTerm) → over_two f a b ≡ t → over_two g c d ≡ u → f ≡ g → a ≡ c → b ≡ d → t ≡ u
same_twos f g a b c d t u p q e h k = sym p ∙ ap (λ z. over_two z a b) e ∙ ap₂ (over_two g) h k ∙ q

pub same_threes : (f g : Ternary) (a b c x y z t u : PlainTerm) → over_three f a b c ≡ t → over_three g x y z ≡ u → f ≡ g → a ≡ x → b ≡ y → c ≡ z → t ≡ u
same_threes f g a b c x y z t u p q e h k l = sym p ∙ ap (λ v. over_three v a b c) e ∙ ap (λ v. over_three g v b c) h ∙ ap₂ (over_three g x) k l ∙ q
