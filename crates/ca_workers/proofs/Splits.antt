-- Calls that are taken whole.
use Rattle.std.proofs.Common.{◌≡◌, ◌≤◌, ℕ, List, length, take, sym}
use Rattle.std.proofs.lemmas.List.{take_all}
use Rattle.ca_parallel.specs.declared.op.Op.{Op}

-- As many calls as there are, or more, are all of them.
pub all_taken : (calls : List Op) (from : ℕ) → length calls ≤ from → calls ≡ take from calls
all_taken calls from le = sym (take_all from calls le)
