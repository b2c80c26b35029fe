use Rattle.std.proofs.Common.{◌++◌, ◌∷◌, [], codes, decimal}
use Rattle.std.specs.Prelude.{slice_get}
use Rattle.ca_program.specs.View.{program_view}
use Rattle.ca_model.specs.Texts.{class_text}
use Rattle.ca_model.proofs.Lines.{adds_after, adds_more, went_after}
use Rattle.ca_model.proofs.print.add_object.Goals as goal

pub returns-in-Err-clause-bytes : goal.returns-in-Err-clause-bytes
returns-in-Err-clause-bytes g c =
    let o = c.args.object.now in
    let class = class_text (slice_get (program_view c.args.program.now).classes o.class.0) o.slots in
    adds_more _ _ _ _ _ (codes "#" ++ decimal c.args.id ++ class) (10 ∷ []) (adds_more _ _ _ _ _ (codes "#" ++ decimal c.args.id) class (adds_more _ _ _ _ _ (codes "#") (decimal c.args.id) c.in-Err.ensures.bytes))

pub returns-in-Err-add-clause-bytes : goal.returns-in-Err-add-clause-bytes
returns-in-Err-add-clause-bytes g c =
    let o = c.args.object.now in
    let class = class_text (slice_get (program_view c.args.program.now).classes o.class.0) o.slots in
    adds_more _ _ _ _ _ (codes "#" ++ decimal c.args.id ++ class) (10 ∷ []) (adds_more _ _ _ _ _ (codes "#" ++ decimal c.args.id) class
    (adds_after _ _ _ c.args.line.now (codes "#") _ (decimal c.args.id) _ _ c.in_default.ensures.bytes.whole (rw (c.as_bytes.ensures.value, c.format.ensures.text) at c.in-Err-add.ensures.bytes)))

pub returns-in-Err-add_class-clause-bytes : goal.returns-in-Err-add_class-clause-bytes
returns-in-Err-add_class-clause-bytes g c =
    let o = c.args.object.now in
    let class = class_text (slice_get (program_view c.args.program.now).classes o.class.0) o.slots in
    let numbered = went_after _ _ _ c.args.line.now (codes "#") _ (decimal c.args.id) _ c.in_default.ensures.bytes.whole (rw (c.as_bytes.ensures.value, c.format.ensures.text) at c.in_default-add.ensures.bytes.whole) in
    adds_more _ _ _ _ _ (codes "#" ++ decimal c.args.id ++ class) (10 ∷ []) (adds_after _ _ _ c.args.line.now (codes "#" ++ decimal c.args.id) _ class _ _ numbered c.in-Err-add_class.ensures.bytes)

pub returns-clause-bytes : goal.returns-clause-bytes
returns-clause-bytes g c =
    let o = c.args.object.now in
    let class = class_text (slice_get (program_view c.args.program.now).classes o.class.0) o.slots in
    let numbered = went_after _ _ _ c.args.line.now (codes "#") _ (decimal c.args.id) _ c.in_default.ensures.bytes.whole (rw (c.as_bytes.ensures.value, c.format.ensures.text) at c.in_default-add.ensures.bytes.whole) in
    let classed = went_after _ _ _ c.args.line.now (codes "#" ++ decimal c.args.id) _ class _ numbered c.in_default-add_class.ensures.bytes.whole in
    adds_after _ _ _ c.args.line.now (codes "#" ++ decimal c.args.id ++ class) _ (10 ∷ []) _ _ classed c.add-3.ensures.bytes
