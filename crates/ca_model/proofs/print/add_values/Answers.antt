use Rattle.std.proofs.Common.{get_or, drop, pos}
use Rattle.std.proofs.lemmas.List.{take_rest}
use Rattle.ca_model.specs.declared.value.Value.TheVariants.{Long}
use Rattle.ca_model.specs.Texts.{value_text, further_values_text}
use Rattle.ca_model.proofs.Lines.{adds_after, adds_more}
use Rattle.ca_model.proofs.Texts.{first_value}
use Rattle.ca_model.proofs.print.add_values.Goals as goal

pub returns-in-Err-clause-bytes : goal.returns-in-Err-clause-bytes
returns-in-Err-clause-bytes g c =
    let values = c.args.values.now in
    rw (first_value values (Long (pos 0)) c.in-len1-up.len_at_least)
    (adds_more _ _ _ _ _ (value_text (get_or values 0 (Long (pos 0)))) (further_values_text (drop 1 values)) c.in-Err.ensures.bytes)

pub returns-in_default-clause-bytes : goal.returns-in_default-clause-bytes
returns-in_default-clause-bytes g c =
    let values = c.args.values.now in
    rw (first_value values (Long (pos 0)) c.in-len1-up.len_at_least)
    (adds_after _ _ _ c.args.line.now (value_text (get_or values 0 (Long (pos 0)))) _ (further_values_text (drop 1 values)) _ _ c.in_default.ensures.bytes.whole (rw (take_rest values 1) at c.add_further_values.ensures.bytes))
