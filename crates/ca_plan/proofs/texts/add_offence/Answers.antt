use Rattle.std.proofs.Common.{◌++◌, [], ap, codes}
use Rattle.std.specs.Prelude.{decimal, slice_get}
use Rattle.ca_program.specs.View.{program_view}
use Rattle.ca_plan.specs.Texts.{why_text}
use Rattle.ca_plan.proofs.Written.{adds_same, offence_is}
use Rattle.ca_plan.proofs.texts.add_offence.Goals as goal

pub returns-clause-bytes : goal.returns-clause-bytes
returns-clause-bytes g c =
    let p = program_view c.args.program.now in
    let rest = decimal c.args.at ++ (codes " " ++ (why_text c.args.why.now ++ [])) in
    adds_same _ _ (ap (λ t. codes "unproved NotSeparable " ++ t) (offence_is p (slice_get p.ops c.args.op.0) _ _ _ rest c.class_part.ensures c.colons_part.ensures c.name_part.ensures))
    (rw c.why_part.ensures at c.add_counted.ensures.bytes)
