use Rattle.std.proofs.Common.{◌-◌}
use Rattle.ca_program.specs.View.{program_view}
use Rattle.ca_sum_pool.proofs.Alone.{GoesOn}
use Rattle.ca_sum_pool.proofs.finishing.run_rest.Given as goal

abbrev pub invariant-loop-ran : goal.invariant-loop-ran
invariant-loop-ran l = GoesOn (program_view l.program) l.extent l.frozen l.left l.count l.ran l.initial.rest.items l.rest.items l.initial.stuck.items l.stuck.items l.initial.steps l.replica.copies l.steps

abbrev pub decreases-loop-ran : goal.decreases-loop-ran
decreases-loop-ran l = l.quota - l.ran
