use Rattle.std.proofs.Common.{◌≤◌, ◌<◌, ◌++◌, List, length, sym, ap, ◌∙◌, append-nil, arith}
use Rattle.std.proofs.lemmas.List.{take_all}
use Rattle.ca_logs.specs.declared.log.Entry.{Entry}
use Rattle.ca_logs.specs.Entries.{loose_entries}
use Rattle.ca_round_order.proofs.Collecting.{list_more, timed_ran}
use Rattle.ca_round_order.proofs.order.add_loose.Goals as goal

pub loop-entries-init : goal.loop-entries-init
loop-entries-init c = sym (append-nil c.args.timed.now.items)

pub loop-entries-preserved : goal.loop-entries-preserved
loop-entries-preserved c =
    let i = c.loop-entries.entries-index in
    let lt : i < length c.args.loose.now = omega arith in
    list_more c.args.timed.now.items c.loop-entries.timed.items c.add_entries.new.timed.items (λ (es : List Entry). es) c.args.loose.now i c.entries-item.result lt c.entries-item.is c.loop-entries.invariant c.in_ok-add_entries.ensures

pub returns : goal.returns
returns c =
    let le : length c.args.loose.now ≤ c.loop-entries.entries-index = omega arith in
    c.loop-entries.invariant ∙ ap (λ (l : List (List Entry)). c.args.timed.now.items ++ timed_ran (loose_entries l)) (take_all c.loop-entries.entries-index c.args.loose.now le)
