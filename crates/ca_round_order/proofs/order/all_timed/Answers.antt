use Rattle.ca_round_order.proofs.Collecting.{all_added}
use Rattle.ca_round_order.proofs.order.all_timed.Goals as goal

pub returns : goal.returns
returns c = all_added c.args.logs.now c.args.loose.now c.new-timed.result.items c.add_histories.new.timed.items c.add_loose.new.timed.items c.new-timed.ensures.items c.in_ok-add_histories.ensures c.in_ok-add_loose.ensures
