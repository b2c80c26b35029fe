use Rattle.std.proofs.Common.{◌++◌, [], ◌∷◌, ap, ◌∙◌}
use Rattle.ca_sections.proofs.listing.list_none.Goals as goal

pub push_reserved-requires : goal.push_reserved-requires
push_reserved-requires c = c.requires

pub returns : goal.returns
returns c =
    c.push_reserved.ensures.items
    ∙ ap (λ args. c.args.listed.now.items ++ record { receiver = c.args.receiver; op = c.args.op; args = args } ∷ []) c.new-args.ensures
