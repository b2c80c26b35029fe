-- Rising lists of the same items are one list, so the extent of some operations is one value.
use Rattle.std.proofs.Common.{◌≡◌, ◌⊎◌, inl, inr, suc, ◌<◌, List, [], ◌∷◌, refl, ap, ap₂, sym, subst, ◌∙◌, arith}
use Rattle.std.specs.Prelude.{◌↔◌, Contains}
use Rattle.ca_lists.proofs.Members.{has_first, has_further, first_or_behind}
use Rattle.ca_program.specs.declared.program.FieldId.{FieldId}
use Rattle.ca_program.specs.declared.program.FunctionId.{FunctionId}
use Rattle.ca_program.specs.declared.program.OpId.{OpId}
use Rattle.ca_program.specs.Plain.{PlainProgram}
use Rattle.ca_parallel.specs.Extents.{Extent}
use Rattle.ca_parallel.specs.ExtentsOf.{Rises, OpBefore, FunctionBefore, FieldBefore, ExtentOf}

-- no item comes before itself, and what comes before an item comes before all behind it
pub record Orders {A : Type 0} (Before : A → A → Type 0) : Type 0 where
  pub never : (x : A) → ¬ Before x x
  pub through : (x y z : A) → Before x y → Before y z → Before x z

module _ {A : Type 0} (Before : A → A → Type 0) (order : Orders Before) where
  rest_rises : (x : A) (xs : List A) → Rises Before (x ∷ xs) → Rises Before xs
  rest_rises x xs r = record { rises = λ n y z at next. r.rises (suc n) y z at next }

  least_from : (x z : A) (zs : List A) (y : A) → Before x z → (Contains zs y → Before z y) → (z ≡ y) ⊎ Contains zs y → Before x y
  least_from x z zs y before least (inl e) = subst (λ u. Before x u) e before
  least_from x z zs y before least (inr d) = order.through x z y before (least d)

  first_is_least : (x : A) (xs : List A) → Rises Before (x ∷ xs) → (y : A) → Contains xs y → Before x y
  first_is_least x [] r y (k, below, is) = absurd (omega (arith, below))
  first_is_least x (z ∷ zs) r y c = least_from x z zs y (r.rises 0 x z refl refl) (first_is_least z zs (rest_rises x (z ∷ zs) r) y) (first_or_behind z y zs c)

  abbrev pub Same : List A → List A → Type 0
  Same xs ys = (z : A) → Contains xs z ↔ Contains ys z

  first_same : (x y : A) (xs ys : List A) → Rises Before (x ∷ xs) → Rises Before (y ∷ ys) → Same (x ∷ xs) (y ∷ ys) → x ≡ y
  first_same x y xs ys rx ry same = from (first_or_behind y x ys ((same x).0 (has_first x xs))) (first_or_behind x y xs ((same y).1 (has_first y ys)))
    where
      from : (y ≡ x) ⊎ Contains ys x → (x ≡ y) ⊎ Contains xs y → x ≡ y
      from (inl e) b = sym e
      from (inr c) (inl e) = e
      from (inr c) (inr d) = absurd (order.never x (order.through x y x (first_is_least x xs rx y d) (first_is_least y ys ry x c)))

  -- what both lists hold stands behind the item that they begin with
  rest_holds : (x y : A) (xs ys : List A) → Rises Before (x ∷ xs) → x ≡ y → ((z : A) → Contains (x ∷ xs) z → Contains (y ∷ ys) z) → (z : A) → Contains xs z → Contains ys z
  rest_holds x y xs ys rx e held z c = from (first_or_behind y z ys (held z (has_further x z xs c)))
    where
      from : (y ≡ z) ⊎ Contains ys z → Contains ys z
      from (inl f) = absurd (order.never x (subst (λ u. Before x u) (sym (e ∙ f)) (first_is_least x xs rx z c)))
      from (inr d) = d

  rest_same : (x y : A) (xs ys : List A) → Rises Before (x ∷ xs) → Rises Before (y ∷ ys) → x ≡ y → Same (x ∷ xs) (y ∷ ys) → Same xs ys
  rest_same x y xs ys rx ry e same = λ z. (rest_holds x y xs ys rx e (λ u. (same u).0) z, rest_holds y x ys xs ry (sym e) (λ u. (same u).1) z)

  pub one_list : (xs ys : List A) → Rises Before xs → Rises Before ys → Same xs ys → xs ≡ ys
  one_list [] [] rx ry same = refl
  one_list [] (y ∷ ys) rx ry same = none ((same y).1 (has_first y ys))
    where
      none : Contains [] y → [] ≡ y ∷ ys
      none (k, below, is) = absurd (omega (arith, below))
  one_list (x ∷ xs) [] rx ry same = none ((same x).0 (has_first x xs))
    where
      none : Contains [] x → x ∷ xs ≡ []
      none (k, below, is) = absurd (omega (arith, below))
  one_list (x ∷ xs) (y ∷ ys) rx ry same =
      let e : x ≡ y = first_same x y xs ys rx ry same in
      ap₂ (λ u us. u ∷ us) e (one_list xs ys (rest_rises x xs rx) (rest_rises y ys ry) (rest_same x y xs ys rx ry e same))

-- ---- the three orders

pub ops_order : Orders OpBefore
ops_order = record { never = λ a less. omega (arith, less); through = λ a b c x y. omega (arith, x, y) }

functions_order : Orders FunctionBefore
functions_order = record { never = λ a less. omega (arith, less); through = λ a b c x y. omega (arith, x, y) }

fields_order : Orders FieldBefore
fields_order = record { never = never; through = through }
  where
    never : (f : FieldId) → ¬ FieldBefore f f
    never f (inl less) = omega (arith, less)
    never f (inr (same, less)) = omega (arith, less)

    through : (f g h : FieldId) → FieldBefore f g → FieldBefore g h → FieldBefore f h
    through f g h (inl a) (inl b) = inl (omega (arith, a, b))
    through f g h (inl a) (inr (same, b)) = inl (subst (λ c. f.class.0 < c.0) same a)
    through f g h (inr (same, a)) (inl b) = inl (subst (λ c. c.0 < h.class.0) (sym same) b)
    through f g h (inr (same, a)) (inr (also, b)) = inr (same ∙ also, omega (arith, a, b))

both_ways : {X Y Z : Type 0} → X ↔ Z → Y ↔ Z → X ↔ Y
both_ways a b = (λ x. b.1 (a.0 x), λ y. a.1 (b.0 y))

abbrev extent : List OpId → List FunctionId → List FieldId → Extent
extent ops functions written = record { ops = ops; functions = functions; written = written }

pub one_extent : (p : PlainProgram) (roots : List OpId) (x y : Extent) → ExtentOf p roots x → ExtentOf p roots y → x ≡ y
one_extent p roots x y a b =
    let ops : x.ops ≡ y.ops = one_list OpBefore ops_order x.ops y.ops a.ops b.ops (λ z. both_ways (a.holds.ops z) (b.holds.ops z)) in
    let functions : x.functions ≡ y.functions = one_list FunctionBefore functions_order x.functions y.functions a.functions b.functions (λ z. both_ways (a.holds.functions z) (b.holds.functions z)) in
    let written : x.written ≡ y.written = one_list FieldBefore fields_order x.written y.written a.written b.written (λ z. both_ways (a.holds.written z) (b.holds.written z)) in
    ap (λ z. extent z x.functions x.written) ops ∙ ap (λ z. extent y.ops z x.written) functions ∙ ap (λ z. extent y.ops y.functions z) written
