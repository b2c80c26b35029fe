use Rattle.std.proofs.Common.{◌++◌, [], ap, codes}
use Rattle.std.specs.Prelude.{slice_get}
use Rattle.ca_program.specs.View.{program_view}
use Rattle.ca_plan.specs.Texts.{mode_text}
use Rattle.ca_plan.proofs.Written.{adds_same, named_is}
use Rattle.ca_plan.proofs.modes.add_named.Goals as goal

pub returns-clause-bytes : goal.returns-clause-bytes
returns-clause-bytes g c =
    let p = program_view c.args.program.now in
    adds_same _ _ (ap (λ t. codes "op " ++ t) (named_is p (slice_get p.ops c.args.op) _ _ _ (mode_text c.args.parallel.now ++ []) c.class_part.ensures c.colons_part.ensures c.name_part.ensures))
    (rw c.mode_part.ensures at c.add_parts.ensures.bytes)
