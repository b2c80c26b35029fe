use Rattle.std.proofs.Common.{◌∙◌}
use Rattle.ca_order.proofs.Putting.{put_in}
use Rattle.ca_order.proofs.points.add_point.Goals as goal

pub returns : goal.returns
returns c = c.in_ok-insert.ensures.keys ∙ put_in c.args.point c.args.set.now.keys
