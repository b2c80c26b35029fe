-- Calls of a list, from one place on, up to another.
use Rattle.std.proofs.Common.{◌≡◌, ◌<◌, ◌≤◌, ◌+◌, ◌-◌, ℕ, zero, suc, List, [], ◌∷◌, Some, length, map, refl, ap, subst, arith}
use Rattle.std.proofs.lemmas.Option.{same_Some}
use Rattle.std.specs.Prelude.{slice_get}
use Rattle.ca_meaning.specs.Multisets.{weight}
use Rattle.ca_parallel.specs.declared.op.Op.{Op}
use Rattle.ca_logs.specs.declared.log.Task.{Task}
use Rattle.ca_logs.specs.Entries.{task_after}
use Rattle.ca_deques.specs.Settings.{Setting, Fits, AllFit}
use Rattle.ca_deques.proofs.Places.{nothing_there}
use Rattle.ca_sum_pool.specs.Parts.{begun}

pub begun_none : (calls : List Op) (at : ℕ) → begun calls at zero ≡ []
begun_none [] at = refl
begun_none (o ∷ os) at = refl

pub begun_all : (calls : List Op) → begun calls zero (length calls) ≡ map (task_after 0) calls
begun_all [] = refl
begun_all (o ∷ os) = ap (λ (ts : List Task). task_after 0 o ∷ ts) (begun_all os)

-- where the end isn't behind the beginning
pub begun_over : (calls : List Op) (at end : ℕ) → end ≤ at → begun calls at end ≡ []
begun_over [] at end le = refl
begun_over (o ∷ os) at zero le = refl
begun_over (o ∷ os) zero (suc end) le = absurd (omega (arith, le))
begun_over (o ∷ os) (suc at) (suc end) le = begun_over os at end (omega (arith, le))

-- or the list ends before it
pub begun_past : (calls : List Op) (at end : ℕ) → length calls ≤ at → begun calls at end ≡ []
begun_past [] at end le = refl
begun_past (o ∷ os) at zero le = refl
begun_past (o ∷ os) zero (suc end) le = absurd (omega (arith, le))
begun_past (o ∷ os) (suc at) (suc end) le = begun_past os at end (omega (arith, le))

module _ (h : Task → ℕ) where
  -- those up to a place, and those from there on
  pub begun_parted : (calls : List Op) (mid end : ℕ) → mid ≤ end → weight h (begun calls zero mid) + weight h (begun calls mid end) ≡ weight h (begun calls zero end)
  begun_parted [] mid end le = omega arith
  begun_parted (o ∷ os) zero end le = omega arith
  begun_parted (o ∷ os) (suc mid) zero le = absurd (omega (arith, le))
  begun_parted (o ∷ os) (suc mid) (suc end) le = let a = begun_parted os mid end (omega (arith, le)) in omega (arith, a)

  first_in : (calls : List Op) (at end : ℕ) (o : Op) → at < end → slice_get calls at ≡ Some o → weight h (begun calls at end) ≡ h (task_after 0 o) + weight h (begun calls (suc at) end)
  first_in [] at end o lt there = absurd (nothing_there at o there)
  first_in (c ∷ os) at zero o lt there = absurd (omega (arith, lt))
  first_in (c ∷ os) zero (suc end) o lt there = ap (λ (z : Op). h (task_after 0 z) + weight h (begun os zero end)) (same_Some c o there)
  first_in (c ∷ os) (suc at) (suc end) o lt there = first_in os at end o (omega (arith, lt)) there

  last_in : (calls : List Op) (at end : ℕ) (o : Op) → at ≤ end → slice_get calls end ≡ Some o → weight h (begun calls at (suc end)) ≡ weight h (begun calls at end) + h (task_after 0 o)
  last_in [] at end o le there = absurd (nothing_there end o there)
  last_in (c ∷ os) zero zero o le there =
      let none : weight h (begun os zero zero) ≡ 0 = ap (weight h) (begun_none os zero) in
      let same : h (task_after 0 c) ≡ h (task_after 0 o) = ap (λ (z : Op). h (task_after 0 z)) (same_Some c o there) in
      omega (arith, none, same)
  last_in (c ∷ os) (suc at) zero o le there = absurd (omega (arith, le))
  last_in (c ∷ os) zero (suc end) o le there = let a = last_in os zero end o (omega arith) there in omega (arith, a)
  last_in (c ∷ os) (suc at) (suc end) o le there = last_in os at end o (omega (arith, le)) there

  -- the first one, and those behind it
  pub begun_first : (calls : List Op) (at more end : ℕ) (o : Op) → at < end → slice_get calls at ≡ Some o → more ≡ at + 1 → weight h (begun calls at end) ≡ h (task_after 0 o) + weight h (begun calls more end)
  begun_first calls at more end o lt there is = let e : suc at ≡ more = omega (arith, is) in subst (λ k. weight h (begun calls at end) ≡ h (task_after 0 o) + weight h (begun calls k end)) e (first_in calls at end o lt there)

  -- the last one, and those before it
  pub begun_last : (calls : List Op) (at end : ℕ) (o : Op) → at < end → slice_get calls (end - 1) ≡ Some o → weight h (begun calls at end) ≡ weight h (begun calls at (end - 1)) + h (task_after 0 o)
  begun_last calls at end o lt there = let e : suc (end - 1) ≡ end = omega (arith, lt) in subst (λ k. weight h (begun calls at k) ≡ weight h (begun calls at (end - 1)) + h (task_after 0 o)) e (last_in calls at (end - 1) o (omega (arith, lt)) there)

-- ---- which of them fit

-- a call of a list whose calls fit
pub call_fits : (s : Setting) (calls : List Op) (at : ℕ) (o : Op) → AllFit s (map (task_after 0) calls) → slice_get calls at ≡ Some o → Fits s (task_after 0 o)
call_fits s [] at o all there = absurd (nothing_there at o there)
call_fits s (c ∷ os) zero o all there = subst (λ (z : Op). Fits s (task_after 0 z)) (same_Some c o there) (all 0 (task_after 0 c) (omega arith))
call_fits s (c ∷ os) (suc at) o all there = call_fits s os at o (λ k d l. all (suc k) d (omega (arith, l))) there
