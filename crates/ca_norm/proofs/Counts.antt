-- A product of two numbers, each counted as far as the largest word.
use Rattle.std.proofs.Common.{◌≡◌, ℕ, zero, suc, ◌-◌, ◌*◌, ◌^◌, ◌<◌, ◌≤◌, ◌⊎◌, inl, inr, min, refl, ap, ◌∙◌, arith, mul_comm}
use Rattle.std.proofs.lemmas.Bool.{cases_lt}

-- the most that is counted
abbrev most : ℕ
most = 2 ^ 64 - 1

left_at : (x k : ℕ) → (most < x) ⊎ (x ≤ most) → min (min x most * k) most ≡ min (x * k) most
left_at x zero o = omega arith
left_at x (suc k) (inl h) = let e : min x most ≡ most = omega (arith, h) in rw e (omega (arith, h))
left_at x (suc k) (inr h) = let e : min x most ≡ x = omega (arith, h) in rw e refl

left : (x k : ℕ) → min (min x most * k) most ≡ min (x * k) most
left x k = left_at x k (cases_lt most x)

pub count_product : (x y : ℕ) → min (min x most * min y most) most ≡ min (x * y) most
count_product x y = left x (min y most) ∙ ap (λ z. min z most) (mul_comm x (min y most)) ∙ left y x ∙ ap (λ z. min z most) (mul_comm y x)
