-- Quotas behind each other.
use Rattle.std.proofs.Common.{◌≡◌, ◌<◌, ◌≤◌, ◌*◌, ℕ, zero, suc, min, refl, ap, subst, ◌∙◌, arith}
use mathlib.Core.Logic.{dite}
use native.Mathlib.Decide.{dec_le}
use Rattle.ca_workers.specs.clauses.Quotas.{quota_behind_rounds, IsQuotaBehind}

-- a quota behind some rounds, and none before it is more than the steps
abbrev pub IsReached : ℕ → ℕ → Type 0
IsReached steps quota = (rounds : ℕ) × (quota ≡ quota_behind_rounds rounds) × ((n : ℕ) → n < rounds → quota_behind_rounds n ≤ steps)

pub first_reached : (steps : ℕ) → IsReached steps 64
first_reached steps = (0, refl, λ n lt. absurd (omega (arith, lt)))

pub next_reached : (steps quota next : ℕ) → next ≡ min (4 * quota) 65536 → quota ≤ steps → IsReached steps quota → IsReached steps next
next_reached steps quota next is le r = (suc r.0, is ∙ ap (λ (n : ℕ). min (4 * n) 65536) r.1, before)
  where
    before : (n : ℕ) → n < suc r.0 → quota_behind_rounds n ≤ steps
    before n lt = dite (dec_le (suc n) r.0) (λ less. r.2 n (omega (arith, less))) (λ more. let here : r.0 ≡ n = omega (arith, lt, more) in subst (λ (k : ℕ). quota_behind_rounds k ≤ steps) here (subst (λ (q : ℕ). q ≤ steps) r.1 le))

pub is_behind : (steps quota : ℕ) → IsReached steps quota → (quota ≤ steps → quota ≡ 65536) → IsQuotaBehind steps quota
is_behind steps quota r more = record { rounds = r.0; is = r.1; first = r.2; more = more }
