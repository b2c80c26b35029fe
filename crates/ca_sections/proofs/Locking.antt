-- Rows of truth values that tell which operations take a lock.
use Rattle.std.proofs.Common.{◌≡◌, ◌⊎◌, inl, inr, ⊎_elim, ℕ, zero, suc, Bool, false, List, [], ◌∷◌, ◌++◌, length, Some, refl, sym, ap, ◌∙◌}
use Rattle.std.specs.Prelude.{slice_get}
use Rattle.ca_program.specs.declared.program.FieldId.{FieldId}
use Rattle.ca_program.specs.declared.program.OpId.{OpId}
use Rattle.ca_program.specs.Plain.{PlainProgram}
use Rattle.ca_parallel.specs.Bodies.{targets_of_all}
use Rattle.ca_parallel.specs.Extents.{operation_body}
use Rattle.ca_parallel.specs.Free.{IsFree}
use Rattle.ca_section.specs.TakesLock.{takes_lock}
use Rattle.ca_section.proofs.Locking.{free}

-- each place tells of its operation
abbrev pub TellLocks : PlainProgram → List FieldId → List Bool → Type 0
TellLocks p written row = (op : OpId) (lock : Bool) → slice_get row op.0 ≡ Some lock → lock ≡ takes_lock written (operation_body p op)

behind_first : {A : Type 0} (a : A) (row : List A) (b lock : A) (k : ℕ) → (slice_get row k ≡ Some lock) ⊎ ((k ≡ length row) × (b ≡ lock)) → (slice_get (a ∷ row) (suc k) ≡ Some lock) ⊎ ((suc k ≡ length (a ∷ row)) × (b ≡ lock))
behind_first a row b lock k (inl e) = inl e
behind_first a row b lock k (inr e) = inr (ap suc e.0, e.1)

pub last_found : {A : Type 0} (row : List A) (b lock : A) (k : ℕ) → slice_get (row ++ b ∷ []) k ≡ Some lock → (slice_get row k ≡ Some lock) ⊎ ((k ≡ length row) × (b ≡ lock))
last_found [] b lock zero e = inr (refl, cc)
last_found [] b lock (suc k) e = absurd cc
last_found (a ∷ row) b lock zero e = inl e
last_found (a ∷ row) b lock (suc k) e = behind_first a row b lock k (last_found row b lock k e)

pub none_told : (p : PlainProgram) (written : List FieldId) (row : List Bool) → row ≡ [] → TellLocks p written row
none_told p written row is op lock e = let f : slice_get [] op.0 ≡ Some lock = ap (λ (r : List Bool). slice_get r op.0) (sym is) ∙ e in absurd cc

pub one_more_told : (p : PlainProgram) (written : List FieldId) (row more : List Bool) (b : Bool) (o : OpId) → more ≡ row ++ b ∷ [] → o.0 ≡ length row → b ≡ takes_lock written (operation_body p o) → TellLocks p written row → TellLocks p written more
one_more_told p written row more b o is at told all op lock e = ⊎_elim (all op lock) here (last_found row b lock op.0 (ap (λ (r : List Bool). slice_get r op.0) (sym is) ∙ e))
  where
    here : (op.0 ≡ length row) × (b ≡ lock) → lock ≡ takes_lock written (operation_body p op)
    here h =
        let same : o ≡ op = ap (λ (n : ℕ). record { 0 = n }) (at ∙ sym h.0) in
        sym h.1 ∙ (told ∙ ap (λ (q : OpId). takes_lock written (operation_body p q)) same)

-- those that take none are free and put nothing
pub free_ones : (p : PlainProgram) (written : List FieldId) (row : List Bool) → TellLocks p written row → (op : OpId) → slice_get row op.0 ≡ Some false → (targets_of_all (operation_body p op) ≡ []) × IsFree p written op
free_ones p written row told op e = free p op written (sym (told op false e))
