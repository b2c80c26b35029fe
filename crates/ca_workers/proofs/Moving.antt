-- Replicas that are handed over, one after the other.
use Rattle.std.proofs.Common.{◌≡◌, ℕ, List, [], ◌∷◌, ◌++◌, length, reverse, ap, sym, subst, ◌∙◌, arith}
use Rattle.std.proofs.lemmas.List.{reverse-append}
use Rattle.ca_program.specs.declared.program.FieldId.{FieldId}
use Rattle.ca_model.specs.declared.value.Object.{Object}
use Rattle.ca_replica.specs.declared.replica.Replica.{Replica}
use Rattle.ca_replica.specs.Adding.{added, AreWhole, AllWhole}
use Rattle.ca_replica.specs.Together.{added_one_by_one}
use Rattle.ca_sum_pool.specs.Rounded.{copies_in}

turned : (rs rest : List Replica) (r : Replica) → rs ≡ rest ++ r ∷ [] → reverse rs ≡ r ∷ reverse rest
turned rs rest r e = ap reverse e ∙ reverse-append rest (r ∷ [])

-- the replicas that are left, the first one last, and what they make of what is beside the heap now
abbrev pub Leaves : List FieldId → List Object → List Object → List Replica → List Object → Type 0
Leaves ws h end rs now = (added_one_by_one ws (copies_in (reverse rs)) now ≡ end) × AllWhole ws h (copies_in (reverse rs))

pub none_moved : (ws : List FieldId) (h now : List Object) (all rs : List Replica) → reverse rs ≡ all → AllWhole ws h (copies_in all) → Leaves ws h (added_one_by_one ws (copies_in all) now) rs now
none_moved ws h now all rs e i = (ap (λ (l : List Replica). added_one_by_one ws (copies_in l) now) e, subst (λ (l : List Replica). AllWhole ws h (copies_in l)) (sym e) i)

pub next_whole : (ws : List FieldId) (h end now : List Object) (rs rest : List Replica) (r : Replica) → rs ≡ rest ++ r ∷ [] → Leaves ws h end rs now → AreWhole ws h r.copies
next_whole ws h end now rs rest r e i = (subst (λ (l : List Replica). AllWhole ws h (copies_in l)) (turned rs rest r e) i.1).0

pub next_moved : (ws : List FieldId) (h end now next : List Object) (rs rest : List Replica) (r : Replica) → rs ≡ rest ++ r ∷ [] → next ≡ added ws r.copies now → Leaves ws h end rs now → Leaves ws h end rest next
next_moved ws h end now next rs rest r e is i =
    let t = turned rs rest r e in (
      ap (added_one_by_one ws (copies_in (reverse rest))) is ∙ (ap (λ (l : List Replica). added_one_by_one ws (copies_in l) now) (sym t) ∙ i.0),
      (subst (λ (l : List Replica). AllWhole ws h (copies_in l)) t i.1).1,
    )

pub all_moved : (ws : List FieldId) (h end now : List Object) (rs : List Replica) (n : ℕ) → n ≡ 0 → n ≡ length rs → Leaves ws h end rs now → now ≡ end
all_moved ws h end now [] n z e i = i.0
all_moved ws h end now (r ∷ rs) n z e i = absurd (omega (arith, z, e))
