use Rattle.std.proofs.Common.{◌≤◌, ◌<◌, ◌++◌, List, length, sym, ap, ◌∙◌, append-nil, arith}
use Rattle.std.proofs.lemmas.List.{take_all}
use Rattle.ca_logs.specs.declared.log.Entry.{Entry}
use Rattle.ca_round_order.proofs.Collecting.{entry_more, timed_ran}
use Rattle.ca_round_order.proofs.order.add_entries.Goals as goal

pub loop-entry-init : goal.loop-entry-init
loop-entry-init c = sym (append-nil c.args.timed.now.items)

pub loop-entry-preserved : goal.loop-entry-preserved
loop-entry-preserved c =
    let i = c.loop-entry.entry-index in
    let lt : i < length c.in-Some.kept.now = omega arith in
    entry_more c.args.timed.now.items c.loop-entry.timed.items c.add_entry.new.timed.items c.in-Some.kept.now i c.entry-item.result lt c.entry-item.is c.loop-entry.invariant c.in_ok-add_entry.ensures

pub returns : goal.returns
returns c =
    let es : List Entry = c.in-Some.kept.now in
    let le : length es ≤ c.loop-entry.entry-index = omega arith in
    c.loop-entry.invariant ∙ ap (λ (l : List Entry). c.args.timed.now.items ++ timed_ran l) (take_all c.loop-entry.entry-index es le ∙ c.in-Some.ensures)
