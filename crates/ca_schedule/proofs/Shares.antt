-- Values that each worker has a copy of.
use Rattle.std.proofs.Common.{◌≡◌, ◌<◌, ◌≤◌, ◌*◌, ℕ, true, arith}
use Rattle.std.specs.Prelude.{◌/◌, ◌↔◌, IsTrue, nat_le}
use Rattle.std.proofs.lemmas.Bool.{leb-true, le-leb}
use Rattle.std.proofs.lemmas.Nat.{div-add-mod', le-div, mul-le}

-- All copies hold no more than so many values exactly where one holds no more than its part of them.
pub each_part : (workers values most : ℕ) → 0 < workers → IsTrue (nat_le values (most / workers)) ↔ (values * workers ≤ most)
each_part workers values most some = (within, apart)
  where
    within : nat_le values (most / workers) ≡ true → values * workers ≤ most
    within e =
        let fewer : values * workers ≤ most / workers * workers = mul-le values workers (most / workers) workers (leb-true values (most / workers) e) (omega arith) in
        let whole = div-add-mod' most workers in
        omega (arith, fewer, whole)

    apart : values * workers ≤ most → nat_le values (most / workers) ≡ true
    apart le = le-leb values (most / workers) (le-div values most workers some le)
