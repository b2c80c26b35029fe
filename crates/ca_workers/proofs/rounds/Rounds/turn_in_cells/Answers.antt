use Rattle.std.proofs.Common.{◌≡◌, ◌<◌, All, false, Option, Some, List, length, sym, ap, subst, ◌∙◌}
use Rattle.ca_program.specs.View.{program_view}
use Rattle.ca_model.specs.declared.value.Object.{Object}
use Rattle.ca_beside.specs.declared.beside.Changed.{Changed}
use Rattle.ca_beside.specs.Beside.{present}
use Rattle.ca_logs.specs.declared.log.Task.{Task}
use Rattle.ca_logs.specs.Entries.{task_calls}
use Rattle.ca_logs.specs.Laws.{objects_of}
use Rattle.ca_logs.specs.Touched.{logs_of}
use Rattle.ca_cells.specs.Logs.{logs_in, touched_in}
use Rattle.ca_workers.specs.declared.rounds.Left.{Left}
use Rattle.ca_workers.specs.declared.turning.Turn.{Turn}
use Rattle.ca_workers.specs.clauses.Runs.{MayWait, NoneWithin, RanBy, Turned, TurnedTo, Tells, Begin, BeginsAnew, order_in, with_lent}
use Rattle.ca_workers.proofs.Going.{ran_to}
use Rattle.ca_workers.proofs.Lent.{lent_begin, some_in_round}
use Rattle.ca_workers.proofs.rounds.Rounds.turn_in_cells.Goals as goal

pub run_round-requires-clause-waiting : goal.run_round-requires-clause-waiting
run_round-requires-clause-waiting g c κs within =
    let p = program_view c.args.self.now.program.now in
    let x = c.args.self.now.extent.now in
    let frozen = c.args.frozen.now in
    subst (λ (cs : List Changed). MayWait p x frozen (present frozen cs) (task_calls c.in_ok-tasks.tasks.items)) (sym c.lend-memory.ensures.same)
    (subst (λ (ts : List Task). MayWait p x frozen (present frozen c.args.beside.now) (task_calls ts)) (sym c.in_ok-tasks.ensures) c.requires.waiting)

pub run_round-requires-clause-begins : goal.run_round-requires-clause-begins
run_round-requires-clause-begins g c κs within = subst (λ (ts : List Task). All (λ (t : Task). t.after ≡ 0) ts) (sym c.in_ok-tasks.ensures) (lent_begin c.args.listed.now c.args.waiting.items c.requires.begins)

pub run_round-requires-clause-some : goal.run_round-requires-clause-some
run_round-requires-clause-some g c κs within = subst (λ (ts : List Task). 0 < length ts) (sym c.in_ok-tasks.ensures) (some_in_round c.args.listed.now c.args.waiting.items c.requires.some)

pub turn_behind-requires : goal.turn_behind-requires
turn_behind-requires g c = (subst (Tells (present c.args.frozen.now c.lend-memory.new.self) false) c.in-Some.is c.in_ok-went.ensures.tells).1

pub returns-in-None-clause-turned : goal.returns-in-None-clause-turned
returns-in-None-clause-turned g c =
    let p = program_view c.args.self.now.program.now in
    let frozen = c.args.frozen.now in
    let now : List Object = present frozen c.args.beside.now in
    subst (λ (ts : List Task). NoneWithin p frozen now (task_calls ts) c.args.left) c.in_ok-tasks.ensures
    (subst (λ (o : Option Left). Turned p frozen now (task_calls c.in_ok-tasks.tasks.items) c.args.left o) c.in-None.is
    (subst (λ (cs : List Changed). Turned p frozen (present frozen cs) (task_calls c.in_ok-tasks.tasks.items) c.args.left c.in_ok-went.went) c.lend-memory.ensures.same c.in_ok-went.ensures.turned))

pub returns-clause-turned : goal.returns-clause-turned
returns-clause-turned g c =
    let p = program_view c.args.self.now.program.now in
    let frozen = c.args.frozen.now in
    let now : List Object = present frozen c.args.beside.now in
    let round = c.in-Some.round in
    let ws = task_calls (with_lent c.args.listed.now c.args.waiting.items) in
    let same = c.lend-memory.ensures.same in
    let told = subst (λ (o : Option Left). Turned p frozen now (task_calls c.in_ok-tasks.tasks.items) c.args.left o) c.in-Some.is
    (subst (λ (cs : List Changed). Turned p frozen (present frozen cs) (task_calls c.in_ok-tasks.tasks.items) c.args.left c.in_ok-went.went) same c.in_ok-went.ensures.turned) in
    let ran = subst (λ (ts : List Task). RanBy p frozen now (task_calls ts) c.args.left (objects_of (logs_in round.log)) (task_calls round.rest.items) (order_in round.log) round.steps) c.in_ok-tasks.ensures told in
    let tells = subst (Tells now false) c.in-Some.is (subst (λ (cs : List Changed). Tells (present frozen cs) false c.in_ok-went.went) same c.in_ok-went.ensures.tells) in
    let after : List Object = present frozen c.give_back.new.beside in
    let heap : after ≡ objects_of (logs_in round.log) =
    ap (λ (cs : List Changed). present frozen cs) c.give_back.ensures ∙ (c.in_ok-turn.ensures.heap frozen
    ∙ (ap (λ (cs : List Changed). objects_of (logs_of (present frozen cs) (touched_in round.log))) same
    ∙ ap (λ (os : List Object). objects_of (logs_of os (touched_in round.log))) (sym tells.0))) in
    subst (λ (t : Turn). TurnedTo p frozen now c.args.listed.now c.args.waiting.items c.args.left after (Some t)) (sym c.in_ok-turn.ensures.turn)
    (ran_to p frozen now ws c.args.left after (task_calls round.rest.items) (order_in round.log) round.steps
    (subst (λ (h : List Object). RanBy p frozen now ws c.args.left h (task_calls round.rest.items) (order_in round.log) round.steps) (sym heap) ran))

pub returns-clause-begins : goal.returns-clause-begins
returns-clause-begins g c = subst (λ (t : Turn). BeginsAnew (Some t)) (sym c.in_ok-turn.ensures.turn) (subst Begin c.in-Some.is c.in_ok-went.ensures.begins)
