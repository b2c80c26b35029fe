-- A call that a worker ran with all that it leads to.
use Rattle.std.proofs.Common.{◌≡◌, ℕ, List, Some}
use Rattle.ca_program.specs.Plain.{PlainProgram}
use Rattle.ca_model.specs.declared.value.Object.{Object}
use Rattle.ca_parallel.specs.Extents.{Extent}
use Rattle.ca_order_laws.specs.Order.{StandsFor}
use Rattle.ca_logs.specs.declared.log.Task.{Task}
use Rattle.ca_logs.specs.Entries.{call_of}
use Rattle.ca_deques.specs.Settings.{Fits}
use Rattle.ca_beside.specs.declared.beside.Changed.{Changed}
use Rattle.ca_beside.specs.Beside.{AreDistinct}
use Rattle.ca_sum_laws.specs.Calls.{Led}
use Rattle.ca_sum_laws.proofs.Calls.{calls_lead}
use Rattle.ca_replica.specs.Zeroed.{zeroed_heap}
use Rattle.ca_replica.specs.Applied.{IsRound, sums}
use Rattle.ca_replica.specs.Calls.{Completed}
use Rattle.ca_sum_pool.specs.Parts.{setting_of, RanWhole, SameSums}

module _ (p : PlainProgram) (x : Extent) (frozen : List Object) (round : IsRound p x frozen) (task : Task) (left : ℕ) (before after : List Changed)
    (stands : StandsFor p x frozen (sums x.written frozen before)) (fits : Fits (setting_of p x frozen) task) (once : AreDistinct after) where
  -- it is done
  pub whole_ran : (steps : ℕ) → Completed p (sums x.written frozen before) (call_of task) left (sums x.written frozen after) (Some steps) → RanWhole p x frozen task before after steps
  whole_ran steps r =
      let l : Led p x frozen task (sums x.written frozen before) (sums x.written frozen after) steps =
      calls_lead p round.program round.roots x round.is round.parallel round.summed frozen (sums x.written frozen before) round.heap stands task (record { typed = fits.typed; inside = fits.inside }) left (sums x.written frozen after) steps r in
      record {
        entries = l.entries;
        ran = record { some = l.some; once = once; further = λ es q. l.further (zeroed_heap x.written frozen) es q; stands = l.stands; steps_are = l.steps_are };
        each = l.once;
      }

  -- or not, and the sums are as before
  pub whole_undone : sums x.written frozen after ≡ sums x.written frozen before → SameSums p x frozen before after
  whole_undone same = record { once = λ d. once; same = same }
