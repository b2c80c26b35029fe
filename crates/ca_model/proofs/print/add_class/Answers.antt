use Rattle.std.proofs.Common.{◌++◌, codes}
use Rattle.ca_model.specs.Texts.{fields_text}
use Rattle.ca_model.proofs.Lines.{adds_nothing, adds_after, adds_more, went_after}
use Rattle.ca_model.proofs.Texts.{class_there, no_class}
use Rattle.ca_model.proofs.print.add_class.Goals as goal

pub returns-in_default-clause-bytes : goal.returns-in_default-clause-bytes
returns-in_default-clause-bytes g c =
    let o = c.args.object.now in
    rw (no_class c.args.program.now o.class.0 o.slots c.in_default.ensures) (adds_nothing _ c.args.line.now tt)

pub returns-in-Err-clause-bytes : goal.returns-in-Err-clause-bytes
returns-in-Err-clause-bytes g c =
    let o = c.args.object.now in
    let class = c.in-Some.class.now in
    rw (class_there c.args.program.now o.class.0 o.slots class c.in-Some.ensures)
    (adds_more _ _ _ _ _ (codes " " ++ class.name) (fields_text class.fields.items o.slots) (adds_more _ _ _ _ _ (codes " ") class.name c.in-Err.ensures.bytes))

pub returns-in-Err-add-clause-bytes : goal.returns-in-Err-add-clause-bytes
returns-in-Err-add-clause-bytes g c =
    let o = c.args.object.now in
    let class = c.in-Some.class.now in
    rw (class_there c.args.program.now o.class.0 o.slots class c.in-Some.ensures)
    (adds_more _ _ _ _ _ (codes " " ++ class.name) (fields_text class.fields.items o.slots)
    (adds_after _ _ _ c.args.line.now (codes " ") _ class.name _ _ c.in_default-add.ensures.bytes.whole (rw c.as_bytes.ensures at c.in-Err-add.ensures.bytes)))

pub returns-clause-bytes : goal.returns-clause-bytes
returns-clause-bytes g c =
    let o = c.args.object.now in
    let class = c.in-Some.class.now in
    let named = went_after _ _ _ c.args.line.now (codes " ") _ class.name _ c.in_default-add.ensures.bytes.whole (rw c.as_bytes.ensures at c.in_default-add-2.ensures.bytes.whole) in
    rw (class_there c.args.program.now o.class.0 o.slots class c.in-Some.ensures)
    (adds_after _ _ _ c.args.line.now (codes " " ++ class.name) _ (fields_text class.fields.items o.slots) _ _ named (rw (c.as_slice.ensures.value, c.as_slice-2.ensures) at c.add_fields.ensures.bytes))
