use Rattle.std.proofs.Common.{◌≤◌, ◌<◌, ◌++◌, List, length, sym, ap, ◌∙◌, append-nil, arith}
use Rattle.std.proofs.lemmas.List.{take_all}
use Rattle.ca_logs.specs.declared.log.CellLog.{CellLog}
use Rattle.ca_logs.specs.Entries.{entries_of}
use Rattle.ca_round_order.proofs.Collecting.{list_more, timed_ran}
use Rattle.ca_round_order.proofs.order.add_histories.Goals as goal

pub loop-log-init : goal.loop-log-init
loop-log-init c = sym (append-nil c.args.timed.now.items)

pub loop-log-preserved : goal.loop-log-preserved
loop-log-preserved c =
    let i = c.loop-log.log-index in
    let lt : i < length c.args.logs.now = omega arith in
    list_more c.args.timed.now.items c.loop-log.timed.items c.add_entries.new.timed.items (λ (log : CellLog). log.entries) c.args.logs.now i c.log-item.result lt c.log-item.is c.loop-log.invariant c.in_ok-add_entries.ensures

pub returns : goal.returns
returns c =
    let le : length c.args.logs.now ≤ c.loop-log.log-index = omega arith in
    c.loop-log.invariant ∙ ap (λ (l : List CellLog). c.args.timed.now.items ++ timed_ran (entries_of l)) (take_all c.loop-log.log-index c.args.logs.now le)
