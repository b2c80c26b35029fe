use Rattle.std.proofs.Common.{◌≡◌, ◌-◌, ℕ, Option, map, sym, subst}
use Rattle.std.specs.Prelude.{IfSome}
use Rattle.ca_program.specs.View.{program_view}
use Rattle.ca_parallel.specs.Calls.{invocations_of, operation_of}
use Rattle.ca_run.specs.Turns.{RanTo}
use Rattle.ca_workers.specs.clauses.Ahead.{with_steps}
use Rattle.ca_workers.specs.clauses.Runs.{Placed}
use Rattle.ca_workers.proofs.InHeap.{from_handed}
use Rattle.ca_workers.proofs.Opened.{opened_waits, placed_behind}
use Rattle.ca_workers.proofs.parallel.Parallel.run_list.Goals as goal

pub run_lent-requires-clause-waits : goal.run_lent-requires-clause-waits
run_lent-requires-clause-waits g c κs o =
    let r = c.requires in
    from_handed (program_view c.args.program.now) r.program c.args.heap.now r.heap c.args.first.now r.typed r.parallel

pub returns-in-None : goal.returns-in-None
returns-in-None g c = record { placed = c.run_lent.ensures.placed; kept = c.run_lent.ensures.kept }

pub run_owned-requires-clause-waits : goal.run_owned-requires-clause-waits
run_owned-requires-clause-waits g c κs o =
    let p = program_view c.args.program.now in
    let h = c.args.heap.now in
    let r = c.requires in
    let ops = c.args.first.now in
    let listed = c.open_first.new.listed.items in
    let ran = subst (λ (o : Option ℕ). IfSome o (λ k. RanTo p h h (invocations_of ops) c.args.left h (invocations_of listed) k)) c.in-Some.is c.in_ok-opened.ensures in
    opened_waits p h (map operation_of ops) (invocations_of ops) (from_handed p r.program h r.heap ops r.typed r.parallel) c.args.left (invocations_of listed) c.in-Some.steps ran

pub returns-clause-placed : goal.returns-clause-placed
returns-clause-placed g c =
    let p = program_view c.args.program.now in
    let h = c.args.heap.now in
    let r = c.requires in
    let ops = c.args.first.now in
    let w = from_handed p r.program h r.heap ops r.typed r.parallel in
    let listed = c.open_first.new.listed.items in
    let steps = c.in-Some.steps in
    let left = c.args.left in
    let last = c.run_owned.new.heap in
    let ended = c.in_ok-ended.ended in
    let rest : c.saturating_sub-rest.result ≡ left - steps = c.saturating_sub-rest.ensures in
    let ran = subst (λ (o : Option ℕ). IfSome o (λ k. RanTo p h h (invocations_of ops) left h (invocations_of listed) k)) c.in-Some.is c.in_ok-opened.ensures in
    let told = subst (λ (k : ℕ). Placed p h h (invocations_of listed) k last ended) rest c.in_ok-ended.ensures.placed in
    let all = placed_behind p w.extent h w.setting (invocations_of ops) w.waits left (invocations_of listed) steps ran last ended told in
    subst (λ (o : Option ℕ). Placed p h h (invocations_of ops) left last o) (sym c.with_steps.ensures)
    (subst (λ (k : ℕ). Placed p h h (invocations_of ops) left last (with_steps left k ended)) (sym rest) all)
