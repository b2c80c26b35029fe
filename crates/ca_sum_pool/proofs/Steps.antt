-- A worker's step, in the setting of its round.
use Rattle.std.proofs.Common.{◌≡◌, ℕ, Bool, false, List, Option, sym, subst}
use Rattle.ca_program.specs.Plain.{PlainProgram}
use Rattle.ca_model.specs.declared.value.Object.{Object}
use Rattle.ca_parallel.specs.Extents.{Extent}
use Rattle.ca_order_laws.specs.Order.{StandsFor}
use Rattle.ca_logs.specs.declared.log.Task.{Task}
use Rattle.ca_deques.specs.declared.rule.Hand.{Hand}
use Rattle.ca_deques.specs.Settings.{Setting}
use Rattle.ca_deques.specs.Thieves.{OwnerView, ThiefView}
use Rattle.ca_beside.specs.declared.beside.Changed.{Changed}
use Rattle.ca_replica.specs.Applied.{IsRound, sums}
use Rattle.ca_sum_pool.specs.declared.performing.Stuck.{Stuck}
use Rattle.ca_sum_pool.specs.declared.performing.Turn.{Turn}
use Rattle.ca_sum_pool.specs.Parts.{setting_of, Performed, Did, Sound}

stands_so : (p : PlainProgram) (y : Extent) (frozen : List Object) (left : ℕ) (hand : Hand) (thieves : List ThiefView) (copies : List Changed) (share mine waits : List Task) (stuck : Option Stuck) (count : ℕ) (steps : Option ℕ) → IsRound p y frozen → Did (setting_of p y frozen) y left hand thieves copies share mine waits stuck count steps → StandsFor p y frozen (sums y.written frozen copies)
stands_so p y frozen left hand thieves copies share mine waits stuck count steps round d = d.stands round.heap

-- the sums of a worker stand for the frozen heap
pub stands_there : (s : Setting) (p : PlainProgram) (x y : Extent) (frozen : List Object) (left : ℕ) (hand : Hand) (thieves : List ThiefView) (copies : List Changed) (share mine waits : List Task) (stuck : Option Stuck) (count : ℕ) (steps : Option ℕ) (short : Bool)
    → x ≡ y → s ≡ setting_of p y frozen → IsRound p y frozen → short ≡ false → Sound s x left hand thieves copies share mine waits stuck count steps short → StandsFor p y frozen (sums y.written frozen copies)
stands_there s p x y frozen left hand thieves copies share mine waits stuck count steps short e is round goes i =
    stands_so p y frozen left hand thieves copies share mine waits stuck count steps round
    (subst (λ (z : Setting). Did z y left hand thieves copies share mine waits stuck count steps) is (subst (λ (z : Extent). Did s z left hand thieves copies share mine waits stuck count steps) e (i.did goes)))

-- what was answered of a task, by the round's own extent and steps, and by how the worker goes on
pub performed_there : (s : Setting) (x y : Extent) (left own : ℕ) (task : Task) (old new : OwnerView) (before after : List Changed) (share rest : List Task) (turn is : Turn) → x ≡ y → own ≡ left → turn ≡ is → Performed s y own task old new before after share rest turn → Performed s x left task old new before after share rest is
performed_there s x y left own task old new before after share rest turn is e f t q =
    subst (λ (z : Turn). Performed s x left task old new before after share rest z) t
    (subst (λ (k : ℕ). Performed s x k task old new before after share rest turn) f
    (subst (λ (z : Extent). Performed s z own task old new before after share rest turn) (sym e) q))
