use Rattle.std.proofs.Common.{◌≤◌, ◌<◌, ◌+◌, List, ◌∷◌, ◌++◌, length, drop, ap, sym, ◌∙◌, arith, append_assoc, append-nil}
use Rattle.std.proofs.lemmas.List.{drop_all, drop_more}
use Rattle.ca_logs.specs.declared.log.Task.{Task}
use Rattle.ca_logs.specs.declared.log.Entry.{Entry}
use Rattle.ca_pool.specs.Gathered.{loose_tasks, stuck_last}
use Rattle.ca_pool.proofs.gathering.add_loose.Goals as goal

pub loop-entries-preserved : goal.loop-entries-preserved
loop-entries-preserved c =
    let lists = c.args.loose.now in
    let i = c.loop-entries.entries-index in
    let es : List Entry = c.entries-item.result in
    let rest = c.loop-entries.rest.items in
    let lt : i < length lists = omega arith in
    ap (λ (ts : List Task). ts ++ loose_tasks (drop (i + 1) lists)) c.in_ok-add_stuck_of.ensures
    ∙ (append_assoc rest (stuck_last es) (loose_tasks (drop (i + 1) lists))
    ∙ (sym (ap (λ (ls : List (List Entry)). rest ++ loose_tasks ls) (drop_more lists i es lt ∙ ap (λ (x : List Entry). x ∷ drop (i + 1) lists) (sym c.entries-item.is))) ∙ c.loop-entries.invariant))

pub returns : goal.returns
returns c =
    let lists = c.args.loose.now in
    let rest = c.loop-entries.rest.items in
    let le : length lists ≤ c.loop-entries.entries-index = omega arith in
    sym (append-nil rest) ∙ (sym (ap (λ (ls : List (List Entry)). rest ++ loose_tasks ls) (drop_all c.loop-entries.entries-index lists le)) ∙ c.loop-entries.invariant)
