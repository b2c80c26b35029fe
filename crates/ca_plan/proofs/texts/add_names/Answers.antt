use Rattle.std.proofs.Common.{ap₂}
use Rattle.std.specs.Prelude.{slice_get}
use Rattle.ca_program.specs.View.{program_view}
use Rattle.ca_plan.specs.Texts.{names_text}
use Rattle.ca_plan.proofs.Written.{adds_same, names_are}
use Rattle.ca_plan.proofs.texts.add_names.Goals as goal

pub returns-clause-bytes : goal.returns-clause-bytes
returns-clause-bytes g c =
    let p = program_view c.args.program.now in
    let a = c.first-a.result in
    let b = c.second-b.result in
    adds_same (names_text p a b) _ (ap₂ (names_text p) c.first-a.ensures c.second-b.ensures)
    (adds_same _ (names_text p a b) (names_are p (slice_get p.ops a.0) (slice_get p.ops b.0) _ _ _ _ _ _ c.class_part.ensures c.colons_part.ensures c.name_part.ensures c.class_part-2.ensures c.colons_part-2.ensures c.name_part-2.ensures) c.add_parts.ensures.bytes)
