use Rattle.std.proofs.Common.{arith}
use Rattle.ca_program.specs.View.{program_view}
use Rattle.ca_plan.proofs.Telling.{starts_with, next_with, ends_with}
use Rattle.ca_plan.proofs.pairs.add_pairs_with.Goals as goal

pub loop-b-init : goal.loop-b-init
loop-b-init c = record { told = starts_with (program_view c.args.program.now) c.args.extent.now _ c.args.a c.args.others.now; known = c.requires.known }

pub add_pair-requires : goal.add_pair-requires
add_pair-requires c = record { offences = c.requires.offences; known = c.loop-b.invariant.known }

pub loop-b-preserved : goal.loop-b-preserved
loop-b-preserved c = record {
  told = next_with (program_view c.args.program.now) c.args.extent.now _ _ _ c.args.a c.args.others.now c.loop-b.b-index _ (omega arith) c.loop-b.invariant.told c.in_ok-add_pair.ensures.told;
  known = c.in_ok-add_pair.ensures.known;
}

pub returns : goal.returns
returns c = record {
  told = ends_with (program_view c.args.program.now) c.args.extent.now _ _ c.args.a c.args.others.now c.loop-b.b-index (omega arith) c.loop-b.invariant.told;
  known = c.loop-b.invariant.known;
}
