use Rattle.std.proofs.Common.{◌+◌, drop, arith}
use Rattle.std.specs.Prelude.{flat_map}
use Rattle.ca_program.specs.View.{program_view}
use Rattle.ca_plan.specs.Texts.{pair_text}
use Rattle.ca_plan.proofs.Written.{begun, one_done, failed, all_done, one_of, none_of}
use Rattle.ca_plan.proofs.texts.add_pairs.Goals as goal

pub loop-pair-init : goal.loop-pair-init
loop-pair-init g c = record { texts = begun _ c.args.line.now (flat_map (pair_text (program_view c.args.program.now)) c.args.pairs.now); later = omega arith }

pub returns-in-Err-clause-bytes : goal.returns-in-Err-clause-bytes
returns-in-Err-clause-bytes g c =
    let f = pair_text (program_view c.args.program.now) in
    let i = c.loop-pair.pair-index in
    failed _ (f c.pair-item.result) (flat_map f (drop (i + 1) c.args.pairs.now)) (one_of f c.args.pairs.now i c.pair-item.result (omega arith) c.pair-item.is) c.loop-pair.invariant.texts c.in-Err.ensures.bytes

pub loop-pair-preserved : goal.loop-pair-preserved
loop-pair-preserved g c =
    let f = pair_text (program_view c.args.program.now) in
    let i = c.loop-pair.pair-index in
    record {
      texts = one_done (f c.pair-item.result) (flat_map f (drop (i + 1) c.args.pairs.now)) (one_of f c.args.pairs.now i c.pair-item.result (omega arith) c.pair-item.is) c.loop-pair.invariant.texts c.in_default.ensures.bytes.whole;
      later = omega (arith, c.loop-pair.invariant.later, c.in_default.ensures.cause.later);
    }

pub returns-clause-bytes : goal.returns-clause-bytes
returns-clause-bytes g c = all_done _ (none_of (pair_text (program_view c.args.program.now)) c.args.pairs.now c.loop-pair.pair-index (omega arith)) c.loop-pair.invariant.texts
