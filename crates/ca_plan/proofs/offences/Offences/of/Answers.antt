use Rattle.ca_program.specs.View.{program_view}
use Rattle.ca_plan.proofs.offences.Offences.of.Goals as goal

pub ops-init : goal.ops-init
ops-init c = c.in_ok-seen.ensures (program_view c.args.program.now) c.args.extent.now.written

pub see-requires : goal.see-requires
see-requires c = c.in_ok-readers.ensures

pub ops-preserved : goal.ops-preserved
ops-preserved c = c.see.ensures c.ops.invariant

pub returns : goal.returns
returns c = record { knows = c.in_ok-readers.ensures; seen = c.ops.invariant }
