use Rattle.std.proofs.Common.{sym, ◌∙◌, drop}
use Rattle.ca_order.proofs.Listing.{no_ranks}
use Rattle.ca_order.proofs.rankings.numbers_rise.Goals as goal

pub returns-else-place-ranks : goal.returns-else-place-ranks
returns-else-place-ranks c = sym (c.loop-place.invariant ∙ no_ranks (drop c.loop-place.place c.args.points.now) c.args.ranks.now c.loop-place.place c.if-place-ranks.false)
