use Rattle.std.proofs.Common.{◌++◌, ◌∷◌, [], ap, ◌∙◌}
use Rattle.ca_logs.specs.Telling.{told_entry, told_in}
use Rattle.ca_logs.proofs.entries.add_told.Goals as goal

pub returns : goal.returns
returns c = ap told_in c.of-2.ensures ∙ ap (λ s. told_in s.value ++ told_entry c.args.told ∷ []) c.replace-before.ensures.value
