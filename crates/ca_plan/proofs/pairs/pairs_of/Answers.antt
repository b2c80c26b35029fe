use Rattle.std.proofs.Common.{[], List, arith, sym, subst}
use Rattle.ca_program.specs.View.{program_view}
use Rattle.ca_plan.specs.Plans.{PairVerdict}
use Rattle.ca_plan.proofs.Telling.{TellingIn, starts_in, next_in, ends_in}
use Rattle.ca_plan.proofs.pairs.pairs_of.Goals as goal

pub loop-i-init : goal.loop-i-init
loop-i-init c = record {
  told = subst (λ (vs : List PairVerdict). TellingIn (program_view c.args.program.now) c.args.extent.now [] vs c.ops-ops.result.now 0) (sym c.new-pairs.ensures.items)
      (starts_in (program_view c.args.program.now) c.args.extent.now [] c.ops-ops.result.now);
  known = c.requires;
}

pub add_pairs_with-requires : goal.add_pairs_with-requires
add_pairs_with-requires c = record { offences = c.in_ok-offences.ensures; known = c.loop-i.invariant.known }

pub loop-i-preserved : goal.loop-i-preserved
loop-i-preserved c = record {
  told = next_in (program_view c.args.program.now) c.args.extent.now [] _ _ c.ops-ops.result.now c.loop-i.i _ (omega arith) c.loop-i.invariant.told (rw c.split_at.ensures.back at c.in_ok-add_pairs_with.ensures.told);
  known = c.in_ok-add_pairs_with.ensures.known;
}

pub returns : goal.returns
returns c = record {
  told = rw c.ops-ops.ensures at (ends_in (program_view c.args.program.now) c.args.extent.now [] _ c.ops-ops.result.now c.loop-i.i (omega arith) c.loop-i.invariant.told);
  known = c.loop-i.invariant.known;
}
