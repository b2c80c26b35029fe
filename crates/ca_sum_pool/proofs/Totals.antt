-- Sums of steps, and counts.
use Rattle.std.proofs.Common.{◌≡◌, ◌+◌, ◌-◌, ℕ, Bool, true, false, cond, Option, Some, None, refl, ap, subst, arith}
use Rattle.std.specs.Prelude.{nat_lt}
use Rattle.std.proofs.lemmas.Bool.{ltb-true, ltb-false}
use Rattle.ca_sum_pool.specs.Rounded.{IsSum}
use Rattle.ca_sum_pool.specs.Parts.{sum_within, sums_within}

-- so many steps more
pub sum_more : (left n steps : ℕ) (taken : Option ℕ) → IsSum left n taken → IsSum left (n + steps) (sum_within left taken steps)
sum_more left n steps None lt = omega (arith, lt)
sum_more left n steps (Some m) s = from (nat_lt left m) refl (nat_lt (left - m) steps) refl
  where
    from : (a : Bool) → nat_lt left m ≡ a → (b : Bool) → nat_lt (left - m) steps ≡ b → IsSum left (n + steps) (cond a None (cond b None (Some (m + steps))))
    from true e b d = let lt = ltb-true left m e in let same = s.0 in let le = s.1 in absurd (omega (arith, lt, same, le))
    from false e true d = let lt = ltb-true (left - m) steps d in let same = s.0 in let le = s.1 in omega (arith, lt, same, le)
    from false e false d = let few = ltb-false (left - m) steps d in let same = s.0 in let le = s.1 in (ap (λ k. k + steps) same, omega (arith, few, same, le))

pub sums_more : (left n m : ℕ) (taken more : Option ℕ) → IsSum left n taken → IsSum left m more → IsSum left (n + m) (sums_within left taken more)
sums_more left n m taken None s lt = omega (arith, lt)
sums_more left n m taken (Some k) s t = subst (λ j. IsSum left (n + j) (sum_within left taken k)) t.0 (sum_more left n k taken s)

pub sum_is : (left n m : ℕ) (taken : Option ℕ) → n ≡ m → IsSum left n taken → IsSum left m taken
sum_is left n m taken e s = subst (λ k. IsSum left k taken) e s
