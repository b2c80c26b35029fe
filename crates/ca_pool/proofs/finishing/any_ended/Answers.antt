use Rattle.std.proofs.Common.{true, sym, ◌∙◌, arith}
use Rattle.ca_deques.proofs.Places.{get_of_index}
use Rattle.ca_pool.proofs.OneMore.{ending_at}
use Rattle.ca_pool.proofs.finishing.any_ended.Goals as goal

pub returns-then-is_closed : goal.returns-then-is_closed
returns-then-is_closed c = λ e logs. ending_at logs c.args.loose.now c.loop-entries.entries-index c.entries-item.result (get_of_index c.args.loose.now c.loop-entries.entries-index c.entries-item.result (omega arith) c.entries-item.is) (sym c.is_closed.ensures ∙ c.if-is_closed.true)
