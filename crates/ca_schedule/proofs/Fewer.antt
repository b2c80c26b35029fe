-- Fewer marks are as sound as all.
use Rattle.std.proofs.Common.{◌≡◌, ◌<◌, ℕ, List, [], ◌∷◌, ◌++◌, length, get_or, ⊎_elim, subst, arith}
use Rattle.std.specs.Prelude.{Contains}
use Rattle.std.proofs.lemmas.List.Elements.{Contains-get_or, Contains-append_cases}
use Rattle.ca_lists.proofs.Members.{has_only}
use Rattle.ca_program.specs.declared.program.LoopId.{LoopId}
use Rattle.ca_program.specs.declared.program.OpId.{OpId}
use Rattle.ca_program.specs.Plain.{PlainProgram}
use Rattle.ca_parallel.specs.Lists.{PlainMarks}
use Rattle.ca_parallel.specs.Marks.{SoundMarks}
use Rattle.ca_schedule.specs.Fewer.{FewerMarks}

pub fewer_sound : (p : PlainProgram) (fewer all : PlainMarks) → FewerMarks fewer all → SoundMarks p all → SoundMarks p fewer
fewer_sound p fewer all f sound = record {
  operations = λ op there. sound.operations op (f.ops op there);
  sites = λ id there. sound.sites id (subst (λ (ids : List LoopId). Contains ids id) f.loops there);
}

-- ---- operations that are taken from a list, one by one

-- none yet
pub none_more : (all ops : List OpId) → ops ≡ [] → (op : OpId) → Contains ops op → Contains all op
none_more all ops e op there = in_none (subst (λ (xs : List OpId). Contains xs op) e there)
  where
    in_none : Contains [] op → Contains all op
    in_none (k, below, is) = absurd (omega (arith, below))

-- and one more of it
pub one_more : (all ops now : List OpId) (i : ℕ) (d : OpId) → i < length all → ((op : OpId) → Contains ops op → Contains all op) → now ≡ ops ++ get_or all i d ∷ [] → (op : OpId) → Contains now op → Contains all op
one_more all ops now i d lt some e op there =
    ⊎_elim (λ a. some op a) (λ a. subst (λ (o : OpId). Contains all o) (has_only (get_or all i d) op a) (Contains-get_or all i d lt)) (Contains-append_cases ops (get_or all i d ∷ []) op (subst (λ (xs : List OpId). Contains xs op) e there))
