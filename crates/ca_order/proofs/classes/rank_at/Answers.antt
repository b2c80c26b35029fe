use Rattle.ca_order.proofs.RanksAt.{inside, outside}
use Rattle.ca_order.proofs.classes.rank_at.Goals as goal

pub returns-then-place-ranks : goal.returns-then-place-ranks
returns-then-place-ranks c = inside c.args.ranks.now c.args.place c.if-place-ranks.true

pub returns-else-place-ranks : goal.returns-else-place-ranks
returns-else-place-ranks c = outside c.args.ranks.now c.args.place c.if-place-ranks.false
