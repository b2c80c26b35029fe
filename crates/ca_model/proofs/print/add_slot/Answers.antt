use Rattle.std.proofs.Common.{◌++◌, codes}
use Rattle.ca_model.specs.Texts.{values_text}
use Rattle.ca_model.proofs.Lines.{adds_after, adds_more, went_after}
use Rattle.ca_model.proofs.print.add_slot.Goals as goal

pub returns-in-Err-clause-bytes : goal.returns-in-Err-clause-bytes
returns-in-Err-clause-bytes g c =
    rw c.in-Many.is (adds_more _ _ _ _ _ (codes "[" ++ values_text c.in-Many.values) (codes "]") (adds_more _ _ _ _ _ (codes "[") (values_text c.in-Many.values) c.in-Err.ensures.bytes))

pub returns-in-Err-add_values-clause-bytes : goal.returns-in-Err-add_values-clause-bytes
returns-in-Err-add_values-clause-bytes g c =
    rw c.in-Many.is (adds_more _ _ _ _ _ (codes "[" ++ values_text c.in-Many.values) (codes "]")
    (adds_after _ _ _ c.args.line.now (codes "[") _ (values_text c.in-Many.values) _ _ c.in_default.ensures.bytes.whole (rw c.as_slice.ensures at c.in-Err-add_values.ensures.bytes)))

pub returns-in_default-add_values-clause-bytes : goal.returns-in_default-add_values-clause-bytes
returns-in_default-add_values-clause-bytes g c =
    let opened = went_after _ _ _ c.args.line.now (codes "[") _ (values_text c.in-Many.values) _ c.in_default.ensures.bytes.whole (rw c.as_slice.ensures at c.in_default-add_values.ensures.bytes.whole) in
    rw c.in-Many.is (adds_after _ _ _ c.args.line.now (codes "[" ++ values_text c.in-Many.values) _ (codes "]") _ _ opened c.add-in-Many.ensures.bytes)
