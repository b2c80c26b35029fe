use Rattle.std.proofs.Common.{◌≡◌, ◌≤◌, length, map, take, ap, ◌∙◌}
use Rattle.std.proofs.lemmas.List.{take_all}
use Rattle.ca_forms.specs.Lists.{scalars_of}
use Rattle.ca_norm.specs.Forms.{scalar_of}
use Rattle.ca_norm.proofs.Shapes.{arguments_forms}
use Rattle.ca_verdicts.proofs.key.forms_of.Goals as goal

pub returns : goal.returns
returns c =
    let end : length c.args.parts.now ≤ c.loop-part.part-index = c.loop-part-test.false in
    let so_far : c.loop-part.items.items ≡ map scalar_of (take c.loop-part.part-index c.args.parts.now) = c.loop-part.invariant in
    ap scalars_of (so_far ∙ ap (map scalar_of) (take_all c.loop-part.part-index c.args.parts.now end)) ∙ arguments_forms c.args.parts.now
