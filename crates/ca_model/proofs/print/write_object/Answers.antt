use Rattle.std.proofs.Common.{◌++◌, ◌∷◌, [], codes, decimal, append_assoc}
use Rattle.std.specs.Prelude.{slice_get}
use Rattle.ca_base.proofs.Writing.{began_after, began_more, writes_after}
use Rattle.ca_program.specs.View.{program_view}
use Rattle.ca_model.specs.Texts.{class_text}
use Rattle.ca_model.proofs.Lines.{grown_after}
use Rattle.ca_model.proofs.print.write_object.Goals as goal

pub returns-in-Err-clause-bytes : goal.returns-in-Err-clause-bytes
returns-in-Err-clause-bytes g c =
    let o = c.args.object.now in
    let class = class_text (slice_get (program_view c.args.program.now).classes o.class.0) o.slots in
    let begun = began_more _ _ (codes "#" ++ decimal c.args.id) class (began_more _ _ (codes "#") (decimal c.args.id) c.in-Err.ensures.bytes.part) in
    record { whole = tt; part = began_more _ _ (codes "#" ++ decimal c.args.id ++ class) (10 ∷ []) begun }

pub returns-in-Err-write_all-clause-bytes : goal.returns-in-Err-write_all-clause-bytes
returns-in-Err-write_all-clause-bytes g c =
    let o = c.args.object.now in
    let class = class_text (slice_get (program_view c.args.program.now).classes o.class.0) o.slots in
    let begun = began_after _ _ _ (codes "#") (decimal c.args.id) c.in_default.ensures.bytes.whole (rw (c.as_bytes.ensures.value, c.format.ensures.text) at c.in-Err-write_all.ensures.bytes.part) in
    record { whole = tt; part = began_more _ _ (codes "#" ++ decimal c.args.id ++ class) (10 ∷ []) (began_more _ _ (codes "#" ++ decimal c.args.id) class begun) }

pub returns-clause-bytes : goal.returns-clause-bytes
returns-clause-bytes g c =
    let o = c.args.object.now in
    let class = class_text (slice_get (program_view c.args.program.now).classes o.class.0) o.slots in
    let numbered = grown_after _ _ _ (codes "#") (decimal c.args.id) c.in_default.ensures.bytes.whole (rw (c.as_bytes.ensures.value, c.format.ensures.text) at c.in_default-write_all.ensures.bytes.whole) in
    rw (append_assoc (codes "#" ++ decimal c.args.id) class (10 ∷ []))
    (writes_after _ _ _ c.write_rest.result (codes "#" ++ decimal c.args.id) (class ++ 10 ∷ []) numbered c.write_rest.ensures.bytes)
