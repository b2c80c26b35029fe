use Rattle.std.proofs.Common.{◌∷◌, []}
use Rattle.std.specs.Prelude.{slice_get}
use Rattle.ca_program.specs.View.{program_view}
use Rattle.ca_model.specs.Texts.{class_text}
use Rattle.ca_model.proofs.Lines.{adds_after, adds_more, flushed, not_added, went_after}
use Rattle.ca_model.proofs.print.write_rest.Goals as goal

pub returns-in-Err-clause-bytes : goal.returns-in-Err-clause-bytes
returns-in-Err-clause-bytes g c =
    let o = c.args.object.now in
    let class = class_text (slice_get (program_view c.args.program.now).classes o.class.0) o.slots in
    not_added _ _ _ _ _ (adds_more _ _ _ _ _ class (10 ∷ []) (rw c.new-line.ensures at c.in-Err.ensures.bytes))

pub returns-in-Err-add-clause-bytes : goal.returns-in-Err-add-clause-bytes
returns-in-Err-add-clause-bytes g c =
    let o = c.args.object.now in
    let class = class_text (slice_get (program_view c.args.program.now).classes o.class.0) o.slots in
    not_added _ _ _ _ _ (adds_after _ _ _ [] class _ (10 ∷ []) _ _ (rw c.new-line.ensures at c.in_default.ensures.bytes.whole) c.in-Err-add.ensures.bytes)

pub returns-clause-bytes : goal.returns-clause-bytes
returns-clause-bytes g c =
    let o = c.args.object.now in
    let class = class_text (slice_get (program_view c.args.program.now).classes o.class.0) o.slots in
    flushed _ _ _ _ _ c.flush.result (went_after _ _ _ [] class _ (10 ∷ []) _ (rw c.new-line.ensures at c.in_default.ensures.bytes.whole) c.in_default-add.ensures.bytes.whole) c.flush.ensures.bytes
