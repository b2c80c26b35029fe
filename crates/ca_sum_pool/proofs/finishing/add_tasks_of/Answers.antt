use Rattle.std.proofs.Common.{◌≤◌, ◌<◌, ◌+◌, List, [], ◌∷◌, ◌++◌, length, drop, ap, sym, ◌∙◌, arith, append_assoc, append-nil}
use Rattle.std.proofs.lemmas.List.{drop_all, drop_more}
use Rattle.ca_logs.specs.declared.log.Task.{Task}
use Rattle.ca_sum_pool.specs.declared.performing.Stuck.{Stuck}
use Rattle.ca_sum_pool.specs.Parts.{tasks_of}
use Rattle.ca_sum_pool.proofs.finishing.add_tasks_of.Goals as goal

pub loop-one-preserved : goal.loop-one-preserved
loop-one-preserved c =
    let all = c.args.stuck.now in
    let i = c.loop-one.one-index in
    let one : Stuck = c.one-item.result in
    let rest = c.loop-one.rest.items in
    let lt : i < length all = omega arith in
    ap (λ (ts : List Task). ts ++ tasks_of (drop (i + 1) all)) (c.in_ok-push.ensures.items ∙ ap (λ (t : Task). rest ++ t ∷ []) c.in_ok-task.ensures)
    ∙ (append_assoc rest (one.task ∷ []) (tasks_of (drop (i + 1) all))
    ∙ (sym (ap (λ (zs : List Stuck). rest ++ tasks_of zs) (drop_more all i one lt ∙ ap (λ (z : Stuck). z ∷ drop (i + 1) all) (sym c.one-item.is))) ∙ c.loop-one.invariant))

pub returns : goal.returns
returns c =
    let all = c.args.stuck.now in
    let rest = c.loop-one.rest.items in
    let le : length all ≤ c.loop-one.one-index = omega arith in
    sym (append-nil rest) ∙ (sym (ap (λ (zs : List Stuck). rest ++ tasks_of zs) (drop_all c.loop-one.one-index all le)) ∙ c.loop-one.invariant)
