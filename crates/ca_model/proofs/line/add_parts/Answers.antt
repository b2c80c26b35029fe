use Rattle.std.proofs.Common.{[], sym, arith, append-nil, take_all}
use Rattle.ca_model.proofs.Parts.{part_went, part_began}
use Rattle.ca_base.proofs.Writing.{grown_nothing}
use Rattle.ca_model.proofs.line.add_parts.Goals as goal

pub loop-part-init : goal.loop-part-init
loop-part-init g c = record { went = record { out = []; told = sym (grown_nothing _); all = append-nil _ }; later = omega arith }

pub returns-in-Err-clause-bytes : goal.returns-in-Err-clause-bytes
returns-in-Err-clause-bytes g c = record {
  whole = tt;
  part = part_began _ _ _ c.args.line.now c.args.parts.now c.loop-part.part-index _ _ c.loop-part-test.true c.loop-part.invariant.went c.in-Err.ensures.bytes.part;
}

pub loop-part-preserved : goal.loop-part-preserved
loop-part-preserved g c = record {
  went = part_went _ _ _ c.args.line.now c.args.parts.now c.loop-part.part-index _ _ _ c.loop-part-test.true c.loop-part.invariant.went c.in_default.ensures.bytes.whole;
  later = omega (arith, c.loop-part.invariant.later, c.in_default.ensures.cause.later);
}

pub returns-clause-bytes : goal.returns-clause-bytes
returns-clause-bytes g c = record {
  whole = rw (take_all c.loop-part.part-index c.args.parts.now c.loop-part-test.false) at c.loop-part.invariant.went;
  part = tt;
}
