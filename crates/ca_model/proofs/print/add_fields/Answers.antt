use Rattle.std.proofs.Common.{◌<◌, ◌≤◌, ◌+◌, ◌++◌, length, min, drop, arith}
use Rattle.ca_model.specs.Texts.{field_text, fields_text}
use Rattle.ca_model.proofs.Stores.{found}
use Rattle.ca_model.proofs.Lines.{adds_after, adds_more, went_after, further, at_end}
use Rattle.ca_model.proofs.Texts.{at_field, no_fields}
use Rattle.ca_model.proofs.print.add_fields.Goals as goal

pub returns-in-Err-clause-bytes : goal.returns-in-Err-clause-bytes
returns-in-Err-clause-bytes g c =
    let fields = c.args.fields.now in
    let slots = c.args.slots.now in
    let i = c.loop-i.i in
    let before = c.loop-i.invariant.texts in
    let f = c.index-fields-i.result in
    let s = c.index-slots-i.result in
    let few_fields : i < length fields = omega (arith, c.min-count.ensures) in
    let few_slots : i < length slots = omega (arith, c.min-count.ensures) in
    let here = at_field fields slots i f s (found fields i f few_fields c.index-fields-i.is) (found slots i s few_slots c.index-slots-i.is) in
    let more = fields_text (drop (i + 1) fields) (drop (i + 1) slots) in
    rw (further (fields_text fields slots) before.0 _ (field_text f s) more before.1 here)
    (adds_more _ _ _ _ _ (before.0 ++ field_text f s) more (adds_after _ _ _ c.args.line.now before.0 _ (field_text f s) _ _ before.2 c.in-Err.ensures.bytes))

pub loop-i-preserved : goal.loop-i-preserved
loop-i-preserved g c =
    let fields = c.args.fields.now in
    let slots = c.args.slots.now in
    let i = c.loop-i.i in
    let before = c.loop-i.invariant.texts in
    let f = c.index-fields-i.result in
    let s = c.index-slots-i.result in
    let few_fields : i < length fields = omega (arith, c.min-count.ensures) in
    let few_slots : i < length slots = omega (arith, c.min-count.ensures) in
    let here = at_field fields slots i f s (found fields i f few_fields c.index-fields-i.is) (found slots i s few_slots c.index-slots-i.is) in
    record {
      texts = (
        before.0 ++ field_text f s,
        further (fields_text fields slots) before.0 _ (field_text f s) _ before.1 here,
        went_after _ _ _ c.args.line.now before.0 _ (field_text f s) _ before.2 c.in_default.ensures.bytes.whole,
      );
      later = omega (arith, c.loop-i.invariant.later, c.in_default.ensures.cause.later);
    }

pub returns-clause-bytes : goal.returns-clause-bytes
returns-clause-bytes g c =
    let fields = c.args.fields.now in
    let slots = c.args.slots.now in
    let before = c.loop-i.invariant.texts in
    let past : min (length fields) (length slots) ≤ c.loop-i.i = omega (arith, c.min-count.ensures, c.loop-i-test.false) in
    rw (at_end (fields_text fields slots) before.0 _ before.1 (no_fields fields slots c.loop-i.i past)) (record { whole = before.2; part = tt })
