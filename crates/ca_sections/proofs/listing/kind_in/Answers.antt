use Rattle.std.proofs.lemmas.Option.{slice_get-get_or}
use Rattle.ca_sections.proofs.listing.kind_in.Goals as goal

pub returns : goal.returns
returns c = slice_get-get_or c.args.kinds.now c.args.place _ c.requires
