use Rattle.std.proofs.Common.{◌≤◌, ◌++◌, ◌+◌, [], length, drop, refl, sym, arith}
use Rattle.ca_base.proofs.Writing.{grown_nothing, writes_after, writes_more}
use Rattle.ca_program.specs.View.{program_view}
use Rattle.ca_model.specs.Texts.{heap_text, object_text, objects_text}
use Rattle.ca_model.proofs.Lines.{at_end, further, grown_after}
use Rattle.ca_model.proofs.Texts.{at_object, no_objects}
use Rattle.ca_model.proofs.print.write_apart.Goals as goal

pub loop-id-init : goal.loop-id-init
loop-id-init g c = record {
  texts = ([], refl, sym (grown_nothing (g.K.Sink.written c.args.sink.now)));
  later = omega arith;
}

pub returns-in-Err-clause-bytes : goal.returns-in-Err-clause-bytes
returns-in-Err-clause-bytes g c =
    let p = program_view c.args.program.now in
    let objects = c.args.heap.now in
    let id = c.loop-id.id in
    let before = c.loop-id.invariant.texts in
    let o = c.get.result.now in
    let more = objects_text p (id + 1) (drop (id + 1) objects) in
    rw (further (heap_text p objects) before.0 _ (object_text p id o) more before.1 (at_object p objects id o c.get.ensures))
    (writes_more _ _ _ (before.0 ++ object_text p id o) more (writes_after _ _ _ _ before.0 (object_text p id o) before.2 c.in-Err.ensures.bytes))

pub loop-id-preserved : goal.loop-id-preserved
loop-id-preserved g c =
    let p = program_view c.args.program.now in
    let objects = c.args.heap.now in
    let id = c.loop-id.id in
    let before = c.loop-id.invariant.texts in
    let o = c.get.result.now in
    record {
      texts = (
        before.0 ++ object_text p id o,
        further (heap_text p objects) before.0 _ (object_text p id o) _ before.1 (at_object p objects id o c.get.ensures),
        grown_after _ _ _ before.0 (object_text p id o) before.2 c.in_default.ensures.bytes.whole,
      );
      later = omega (arith, c.loop-id.invariant.later, c.in_default.ensures.cause.later);
    }

pub returns-clause-bytes : goal.returns-clause-bytes
returns-clause-bytes g c =
    let p = program_view c.args.program.now in
    let objects = c.args.heap.now in
    let before = c.loop-id.invariant.texts in
    let past : length objects ≤ c.loop-id.id = omega (arith, c.len-id-end.ensures.value, c.loop-id-test.false) in
    rw (at_end (heap_text p objects) before.0 _ before.1 (no_objects p c.loop-id.id objects c.loop-id.id past)) (record { whole = before.2; part = tt })
