use Rattle.std.proofs.Common.{◌++◌, [], ◌∷◌, ap, ◌∙◌}
use Rattle.ca_sections.proofs.listing.two_of.Goals as goal

pub returns : goal.returns
returns c =
    c.in_ok-push-2.ensures.added ∙ ap (λ xs. xs ++ c.args.second ∷ []) (c.in_ok-push.ensures.added ∙ ap (λ xs. xs ++ c.args.first ∷ []) c.new-args.ensures)
