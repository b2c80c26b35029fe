-- How many tasks each worker runs in a round at most.
use Rattle.std.specs.Prelude.{ℕ, zero, suc, ◌≡◌, ◌<◌, ◌≤◌, ◌*◌, min}

-- the quota behind so many rounds: of the first one 64, and of each further one four times as many, 65,536 at most
abbrev pub quota_behind_rounds : ℕ → ℕ
quota_behind_rounds zero = 64
quota_behind_rounds (suc rounds) = min (4 * quota_behind_rounds rounds) 65536

-- That behind so many steps of one worker, which count as rounds: the first of these quotas that is more than the steps, or the greatest.
pub record IsQuotaBehind (steps quota : ℕ) : Type 0 where
  pub rounds : ℕ
  pub is : quota ≡ quota_behind_rounds rounds
  pub first : (n : ℕ) → n < rounds → quota_behind_rounds n ≤ steps
  pub more : quota ≤ steps → quota ≡ 65536
