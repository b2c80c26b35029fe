use Rattle.std.proofs.Common.{◌≡◌, ◌++◌, ◌∙◌, All, List, drop, ap, sym, subst, arith}
use Rattle.ca_program.specs.View.{program_view}
use Rattle.ca_model.specs.declared.value.Object.{Object}
use Rattle.ca_beside.specs.Beside.{present}
use Rattle.ca_parallel.specs.declared.op.Op.{Op}
use Rattle.ca_parallel.specs.Calls.{invocations_of}
use Rattle.ca_logs.specs.declared.log.Task.{Task}
use Rattle.ca_logs.specs.Entries.{task_calls}
use Rattle.ca_workers.specs.clauses.Runs.{with_lent}
use Rattle.ca_workers.proofs.Back.{sticks, goes_in_order}
use Rattle.ca_workers.proofs.Beginning.{tasks_begin}
use Rattle.ca_workers.proofs.Behind.{stuck}
use Rattle.ca_workers.proofs.Lent.{both_calls, lent_begin}
use Rattle.ca_workers.proofs.rounds.Rounds.turn_in_order.Goals as goal

pub returns-in-Stuck-clause-turned : goal.returns-in-Stuck-clause-turned
returns-in-Stuck-clause-turned g c =
    let p = program_view c.args.self.now.program.now in
    let frozen = c.args.frozen.now in
    let now : List Object = present frozen c.args.beside.now in
    let listed = c.args.listed.now in
    let after : List Object = present frozen c.run_some.new.beside in
    let rest = invocations_of (drop c.run_some.new.next listed) ++ invocations_of c.run_some.new.waiting.items in
    stuck p c.args.self.now.extent.now frozen c.requires.setting now (task_calls (with_lent listed c.args.waiting.items)) c.requires.waiting c.args.left
    (sticks p frozen now listed c.in_ok-ops.ops.items c.args.waiting.items c.in_ok-ops.ensures c.args.left _ after rest c.in_ok-went.went c.in_ok-went.ensures c.in-Stuck.is)

pub returns-clause-turned : goal.returns-clause-turned
returns-clause-turned g c =
    let p = program_view c.args.self.now.program.now in
    let frozen = c.args.frozen.now in
    let now : List Object = present frozen c.args.beside.now in
    let listed = c.args.listed.now in
    let after : List Object = present frozen c.run_some.new.beside in
    let ops = c.run_some.new.waiting.items in
    let rest = invocations_of (drop c.run_some.new.next listed) ++ invocations_of ops in
    let calls = both_calls c.behind.result.now ops c.in_ok-tasks.tasks.items c.in_ok-tasks.ensures ∙ ap (λ (os : List Op). invocations_of os ++ invocations_of ops) c.behind.ensures in
    goes_in_order p frozen now listed c.in_ok-ops.ops.items c.args.waiting.items c.in_ok-ops.ensures c.args.left _ after rest c.in_ok-went.went c.in_ok-went.ensures c.in-Went.steps c.in-Went.is (omega arith) c.requires.some c.in_ok-rest.rest.items
    (ap task_calls c.in_ok-rest.ensures ∙ calls)

pub returns-clause-begins : goal.returns-clause-begins
returns-clause-begins g c =
    subst (λ (ts : List Task). All (λ (t : Task). t.after ≡ 0) ts) (sym c.in_ok-rest.ensures) (lent_begin c.behind.result.now c.in_ok-tasks.tasks.items
    (subst (λ (ts : List Task). All (λ (t : Task). t.after ≡ 0) ts) (sym c.in_ok-tasks.ensures) (tasks_begin c.run_some.new.waiting.items)))
