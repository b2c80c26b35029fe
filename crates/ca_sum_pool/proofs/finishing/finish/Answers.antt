use Rattle.std.proofs.Common.{List, ap, arith}
use Rattle.std.specs.Prelude.{length}
use Rattle.ca_program.specs.View.{program_view}
use Rattle.ca_sum_pool.specs.declared.performing.Stuck.{Stuck}
use Rattle.ca_sum_pool.proofs.Alone.{finished_first}
use Rattle.ca_sum_pool.proofs.finishing.finish.Goals as goal

pub returns-then-len-gt0 : goal.returns-then-len-gt0
returns-then-len-gt0 c = finished_first (program_view c.args.program.now) c.args.extent.now c.args.frozen.now c.args.left c.requires.round c.args.quota c.args.count c.args.rest.now.items c.args.stuck.now.items c.args.steps.now c.new-replica.result.copies c.new-replica.ensures c.requires.fits
    (λ none. let some = c.if-len-gt0.true in let long = c.len.ensures in let e = ap (λ (zs : List Stuck). length zs) none in absurd (omega (arith, some, long, e)))
