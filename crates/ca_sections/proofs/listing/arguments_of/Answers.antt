use Rattle.std.proofs.Common.{◌++◌, map, ap, ◌∙◌}
use Rattle.ca_code.specs.Seen.{kind_seen}
use Rattle.ca_code_laws.specs.Machine.{row}
use Rattle.ca_steps.specs.Stands.{seen}
use Rattle.ca_sections.proofs.listing.arguments_of.Goals as goal

pub returns : goal.returns
returns c =
    c.in_ok-add_values.ensures
    ∙ ap (λ vs. vs ++ row (seen c.args.slots.now) c.args.first (map kind_seen c.args.kinds.now)) c.in_ok-args.ensures.none
