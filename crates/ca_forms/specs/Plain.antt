-- Normal forms as plain values: parts, monomials of powers of parts, polynomials of products, and the forms of
-- pointers and of arguments.
use Rattle.std.specs.Prelude.{◌≡◌, ℕ, refl}
use Rattle.std.specs.Coded.{Coded}
use base.Stored.{Gv, gnil, gnum, gcons}
use Rattle.std.proofs.Common.{ap, ap₂, arith}
use Rattle.ca_forms.specs.declared.sort.Sort.{Sort}
use Rattle.ca_forms.specs.declared.sort.Sort.TheVariants.{Long, Bool, Pointer, LongArray, BoolArray, PointerArray}
use Rattle.ca_folds.specs.declared.operator.FoldOp.{FoldOp}
use Rattle.ca_folds.specs.Operators.{fold_number, fold_inj}

mutual
  -- what isn't taken apart
  pub data PlainPart : Type 0 where
    -- an atom, by its sort, group and number
    variable : Sort → ℕ → ℕ → PlainPart
    -- whether a number is less than another, whether it is zero, and whether two pointers are equal
    is_less : PlainPolynomial → PlainPolynomial → PlainPart
    is_zero : PlainPolynomial → PlainPart
    same_pointer : PlainPointer → PlainPointer → PlainPart
    -- a number divided by a word, and what that leaves
    quotient : PlainPolynomial → ℕ → PlainPart
    modulus : PlainPolynomial → ℕ → PlainPart
    -- a field of another object: its sort, the object, and the field's class and number
    field_of : Sort → PlainPointer → ℕ → ℕ → PlainPart
    -- and the item at an index of such a field
    item_of : Sort → PlainPointer → ℕ → ℕ → PlainPolynomial → PlainPart
    -- a value method's result: its sort, the method, the receiver and the arguments
    result_of : Sort → ℕ → PlainPointer → PlainScalars → PlainPart
    -- the item at an index of an array that is an atom: its sort, and the atom's group and number
    own_item : Sort → ℕ → ℕ → PlainPolynomial → PlainPart
    -- an operator on operands in any order: the word that those which are words come to, and the others in order
    fold_of : FoldOp → ℕ → PlainScalars → PlainPart

  -- products, each a monomial and its coefficient
  pub data PlainPolynomial : Type 0 where
    no_products : PlainPolynomial
    product_and : PlainMonomial → ℕ → PlainPolynomial → PlainPolynomial

  -- powers, each a part and its exponent
  pub data PlainMonomial : Type 0 where
    no_powers : PlainMonomial
    power_and : PlainPart → ℕ → PlainMonomial → PlainMonomial

  -- null, a part, or the first of two where a truth value holds and else the second
  pub data PlainPointer : Type 0 where
    no_object : PlainPointer
    pointer_part : PlainPart → PlainPointer
    pointer_choice : PlainPolynomial → PlainPointer → PlainPointer → PlainPointer

  pub data PlainScalar : Type 0 where
    number_form : PlainPolynomial → PlainScalar
    truth_form : PlainPolynomial → PlainScalar
    pointer_form : PlainPointer → PlainScalar

  pub data PlainScalars : Type 0 where
    no_scalars : PlainScalars
    scalar_and : PlainScalar → PlainScalars → PlainScalars

abbrev pub sort_number : Sort → ℕ
sort_number Long = 0
sort_number Bool = 1
sort_number Pointer = 2
sort_number LongArray = 3
sort_number BoolArray = 4
sort_number PointerArray = 5

abbrev pub kind : ℕ → Gv → Gv
kind n v = gcons (gnum n) v

-- by which parts of two kinds are told apart
abbrev kind_of : Gv → ℕ
kind_of (gcons (gnum n) v) = n
kind_of v = 11

-- a sort and two numbers
abbrev pub name_code : Sort → ℕ → ℕ → Gv
name_code s m n = gcons (gnum (sort_number s)) (gcons (gnum m) (gnum n))

-- each as a tree of numbers
abbrev mutual
  pub part_code : PlainPart → Gv
  part_code (variable s g n) = kind 0 (name_code s g n)
  part_code (is_less a b) = kind 1 (gcons (polynomial_code a) (polynomial_code b))
  part_code (is_zero a) = kind 2 (polynomial_code a)
  part_code (same_pointer p q) = kind 3 (gcons (pointer_code p) (pointer_code q))
  part_code (quotient a n) = kind 4 (gcons (polynomial_code a) (gnum n))
  part_code (modulus a n) = kind 5 (gcons (polynomial_code a) (gnum n))
  part_code (field_of s p c f) = kind 6 (gcons (name_code s c f) (pointer_code p))
  part_code (item_of s p c f i) = kind 7 (gcons (name_code s c f) (gcons (pointer_code p) (polynomial_code i)))
  part_code (result_of s m p xs) = kind 8 (gcons (name_code s m 0) (gcons (pointer_code p) (scalars_code xs)))
  part_code (own_item s g n i) = kind 9 (gcons (name_code s g n) (polynomial_code i))
  part_code (fold_of o w xs) = kind 10 (gcons (name_code Long (fold_number o) 0) (gcons (gnum w) (scalars_code xs)))

  pub polynomial_code : PlainPolynomial → Gv
  polynomial_code no_products = gnil
  polynomial_code (product_and m c f) = gcons (gcons (monomial_code m) (gnum c)) (polynomial_code f)

  pub monomial_code : PlainMonomial → Gv
  monomial_code no_powers = gnil
  monomial_code (power_and p e m) = gcons (gcons (part_code p) (gnum e)) (monomial_code m)

  pub pointer_code : PlainPointer → Gv
  pointer_code no_object = gnil
  pointer_code (pointer_part p) = kind 0 (part_code p)
  pointer_code (pointer_choice c p q) = kind 1 (gcons (polynomial_code c) (gcons (pointer_code p) (pointer_code q)))

  pub scalar_code : PlainScalar → Gv
  scalar_code (number_form f) = kind 0 (polynomial_code f)
  scalar_code (truth_form f) = kind 1 (polynomial_code f)
  scalar_code (pointer_form p) = kind 2 (pointer_code p)

  pub scalars_code : PlainScalars → Gv
  scalars_code no_scalars = gnil
  scalars_code (scalar_and x xs) = gcons (scalar_code x) (scalars_code xs)

pub sort_inj : (s t : Sort) → sort_number s ≡ sort_number t → s ≡ t
sort_inj Long Long e = refl
sort_inj Bool Bool e = refl
sort_inj Pointer Pointer e = refl
sort_inj LongArray LongArray e = refl
sort_inj BoolArray BoolArray e = refl
sort_inj PointerArray PointerArray e = refl
sort_inj s t e = cc

mutual
  pub part_inj : (p q : PlainPart) → part_code p ≡ part_code q → p ≡ q
  part_inj (variable s g n) (variable t h m) e = let same : s ≡ t = sort_inj s t cc in cc
  part_inj (is_less a b) (is_less c d) e = ap₂ is_less (polynomial_inj a c cc) (polynomial_inj b d cc)
  part_inj (is_zero a) (is_zero c) e = ap is_zero (polynomial_inj a c cc)
  part_inj (same_pointer a b) (same_pointer c d) e = ap₂ same_pointer (pointer_inj a c cc) (pointer_inj b d cc)
  part_inj (quotient a n) (quotient c m) e = ap₂ quotient (polynomial_inj a c cc) cc
  part_inj (modulus a n) (modulus c m) e = ap₂ modulus (polynomial_inj a c cc) cc
  part_inj (field_of s a c f) (field_of t b d g) e =
      let same : s ≡ t = sort_inj s t cc in
      let i : a ≡ b = pointer_inj a b cc in cc
  part_inj (item_of s a c f x) (item_of t b d g y) e =
      let same : s ≡ t = sort_inj s t cc in
      let i : a ≡ b = pointer_inj a b cc in
      let j : x ≡ y = polynomial_inj x y cc in cc
  part_inj (result_of s m a xs) (result_of t n b ys) e =
      let same : s ≡ t = sort_inj s t cc in
      let i : a ≡ b = pointer_inj a b cc in
      let j : xs ≡ ys = scalars_inj xs ys cc in cc
  part_inj (own_item s g n x) (own_item t h m y) e =
      let same : s ≡ t = sort_inj s t cc in
      let j : x ≡ y = polynomial_inj x y cc in cc
  part_inj (fold_of o w xs) (fold_of p v ys) e =
      let same : o ≡ p = fold_inj o p cc in
      let j : xs ≡ ys = scalars_inj xs ys cc in cc
  part_inj p q e = let kinds : kind_of (part_code p) ≡ kind_of (part_code q) = ap kind_of e in absurd (omega (arith, kinds))

  pub polynomial_inj : (p q : PlainPolynomial) → polynomial_code p ≡ polynomial_code q → p ≡ q
  polynomial_inj no_products no_products e = refl
  polynomial_inj (product_and m c f) (product_and n d g) e =
      let i : m ≡ n = monomial_inj m n cc in
      let j : f ≡ g = polynomial_inj f g cc in cc
  polynomial_inj p q e = cc

  pub monomial_inj : (p q : PlainMonomial) → monomial_code p ≡ monomial_code q → p ≡ q
  monomial_inj no_powers no_powers e = refl
  monomial_inj (power_and p d m) (power_and q e n) h =
      let i : p ≡ q = part_inj p q cc in
      let j : m ≡ n = monomial_inj m n cc in cc
  monomial_inj p q e = cc

  pub pointer_inj : (p q : PlainPointer) → pointer_code p ≡ pointer_code q → p ≡ q
  pointer_inj no_object no_object e = refl
  pointer_inj (pointer_part p) (pointer_part q) e = ap pointer_part (part_inj p q cc)
  pointer_inj (pointer_choice c p q) (pointer_choice d r s) e =
      let h : c ≡ d = polynomial_inj c d cc in
      let i : p ≡ r = pointer_inj p r cc in
      let j : q ≡ s = pointer_inj q s cc in cc
  pointer_inj p q e = cc

  pub scalar_inj : (x y : PlainScalar) → scalar_code x ≡ scalar_code y → x ≡ y
  scalar_inj (number_form f) (number_form g) e = ap number_form (polynomial_inj f g cc)
  scalar_inj (truth_form f) (truth_form g) e = ap truth_form (polynomial_inj f g cc)
  scalar_inj (pointer_form p) (pointer_form q) e = ap pointer_form (pointer_inj p q cc)
  scalar_inj x y e = cc

  pub scalars_inj : (xs ys : PlainScalars) → scalars_code xs ≡ scalars_code ys → xs ≡ ys
  scalars_inj no_scalars no_scalars e = refl
  scalars_inj (scalar_and x xs) (scalar_and y ys) e = ap₂ scalar_and (scalar_inj x y cc) (scalars_inj xs ys cc)
  scalars_inj xs ys e = cc

abbrev pub coded_part : Coded PlainPart
coded_part = record { code = part_code; inj = part_inj }

abbrev pub coded_polynomial : Coded PlainPolynomial
coded_polynomial = record { code = polynomial_code; inj = polynomial_inj }

abbrev pub coded_monomial : Coded PlainMonomial
coded_monomial = record { code = monomial_code; inj = monomial_inj }

abbrev pub coded_pointer : Coded PlainPointer
coded_pointer = record { code = pointer_code; inj = pointer_inj }

abbrev pub coded_scalar : Coded PlainScalar
coded_scalar = record { code = scalar_code; inj = scalar_inj }

abbrev pub coded_scalars : Coded PlainScalars
coded_scalars = record { code = scalars_code; inj = scalars_inj }
