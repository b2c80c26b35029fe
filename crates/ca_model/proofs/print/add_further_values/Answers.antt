use Rattle.std.proofs.Common.{◌<◌, ◌+◌, ◌++◌, length, get_or, drop, codes, arith, pos}
use Rattle.std.proofs.lemmas.Option.{slice_get-get_or}
use Rattle.ca_model.specs.declared.value.Value.TheVariants.{Long}
use Rattle.ca_model.specs.Texts.{value_text, further_values_text}
use Rattle.ca_model.proofs.Lines.{adds_after, adds_more, went_after, further}
use Rattle.ca_model.proofs.Texts.{at_value}
use Rattle.ca_model.proofs.print.add_further_values.Goals as goal

pub returns-in-Err-clause-bytes : goal.returns-in-Err-clause-bytes
returns-in-Err-clause-bytes g c =
    let values = c.args.values.now in
    let i = c.loop-value.value-index in
    let before = c.loop-value.invariant.texts in
    let lt : i < length values = omega arith in
    let v = get_or values i (Long (pos 0)) in
    let more = further_values_text (drop (i + 1) values) in
    rw (further (further_values_text values) before.0 _ (codes "," ++ value_text v) more before.1 (at_value values i v (slice_get-get_or values i (Long (pos 0)) lt)))
    (adds_more _ _ _ _ _ (before.0 ++ (codes "," ++ value_text v)) more (adds_after _ _ _ c.args.line.now before.0 _ (codes "," ++ value_text v) _ _ before.2 c.in-Err.ensures.bytes))

pub loop-value-preserved : goal.loop-value-preserved
loop-value-preserved g c =
    let values = c.args.values.now in
    let i = c.loop-value.value-index in
    let before = c.loop-value.invariant.texts in
    let lt : i < length values = omega arith in
    let v = get_or values i (Long (pos 0)) in
    record {
      texts = (
        before.0 ++ (codes "," ++ value_text v),
        further (further_values_text values) before.0 _ (codes "," ++ value_text v) _ before.1 (at_value values i v (slice_get-get_or values i (Long (pos 0)) lt)),
        went_after _ _ _ c.args.line.now before.0 _ (codes "," ++ value_text v) _ before.2 c.in_default.ensures.bytes.whole,
      );
      later = omega (arith, c.loop-value.invariant.later, c.in_default.ensures.cause.later);
    }
