use Rattle.std.proofs.Common.{◌∙◌, sym}
use Rattle.ca_round_order.proofs.Collecting.{one_stopped, one_ran}
use Rattle.ca_round_order.proofs.order.add_entry.Goals as goal

pub returns-then-is_some : goal.returns-then-is_some
returns-then-is_some c = one_stopped c.args.entry.now c.args.timed.now.items (sym c.is_some.ensures ∙ c.if-is_some.true)

pub returns : goal.returns
returns c = one_ran c.args.entry.now _ c.args.timed.now.items c.push.new.self.items (sym c.is_some.ensures ∙ c.if-is_some.false) c.in_ok-copy.ensures c.in_ok-push.ensures.items
