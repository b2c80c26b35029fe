use Rattle.std.proofs.Common.{◌++◌, codes}
use Rattle.ca_model.specs.Texts.{slot_text}
use Rattle.ca_model.proofs.Lines.{adds_after, adds_more}
use Rattle.ca_model.proofs.print.add_field.Goals as goal

pub returns-in-Err-clause-bytes : goal.returns-in-Err-clause-bytes
returns-in-Err-clause-bytes g c =
    let named = codes " " ++ c.args.field.now.name ++ codes "=" in
    adds_more _ _ _ _ _ named (slot_text c.args.slot.now) (rw c.as_bytes.ensures at c.in-Err.ensures.bytes)

pub returns-clause-bytes : goal.returns-clause-bytes
returns-clause-bytes g c =
    let named = codes " " ++ c.args.field.now.name ++ codes "=" in
    adds_after _ _ _ c.args.line.now named _ (slot_text c.args.slot.now) _ _ (rw c.as_bytes.ensures at c.in_default.ensures.bytes.whole) c.add_slot.ensures.bytes
