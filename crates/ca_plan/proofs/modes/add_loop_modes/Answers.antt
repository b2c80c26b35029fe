use Rattle.std.proofs.Common.{◌+◌, drop, arith}
use Rattle.std.specs.Prelude.{flat_map}
use Rattle.ca_plan.specs.Texts.{loop_mode_text}
use Rattle.ca_plan.proofs.Written.{begun, one_done, failed, all_done, one_of, none_of}
use Rattle.ca_plan.proofs.modes.add_loop_modes.Goals as goal

pub loop-one-init : goal.loop-one-init
loop-one-init g c = record { texts = begun _ c.args.line.now (flat_map (loop_mode_text c.args.marked.now) c.args.loops.now); later = omega arith }

pub returns-in-Err-clause-bytes : goal.returns-in-Err-clause-bytes
returns-in-Err-clause-bytes g c =
    let f = loop_mode_text c.args.marked.now in
    let i = c.loop-one.one-index in
    failed _ (f c.one-item.result) (flat_map f (drop (i + 1) c.args.loops.now)) (one_of f c.args.loops.now i c.one-item.result (omega arith) c.one-item.is) c.loop-one.invariant.texts c.in-Err.ensures.bytes

pub loop-one-preserved : goal.loop-one-preserved
loop-one-preserved g c =
    let f = loop_mode_text c.args.marked.now in
    let i = c.loop-one.one-index in
    record {
      texts = one_done (f c.one-item.result) (flat_map f (drop (i + 1) c.args.loops.now)) (one_of f c.args.loops.now i c.one-item.result (omega arith) c.one-item.is) c.loop-one.invariant.texts c.in_default.ensures.bytes.whole;
      later = omega (arith, c.loop-one.invariant.later, c.in_default.ensures.cause.later);
    }

pub returns-clause-bytes : goal.returns-clause-bytes
returns-clause-bytes g c = all_done _ (none_of (loop_mode_text c.args.marked.now) c.args.loops.now c.loop-one.one-index (omega arith)) c.loop-one.invariant.texts
