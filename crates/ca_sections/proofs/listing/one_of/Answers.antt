use Rattle.std.proofs.Common.{◌++◌, [], ◌∷◌, ap, ◌∙◌}
use Rattle.ca_sections.proofs.listing.one_of.Goals as goal

pub returns : goal.returns
returns c = c.in_ok-push.ensures.added ∙ ap (λ xs. xs ++ c.args.value ∷ []) c.new-args.ensures
