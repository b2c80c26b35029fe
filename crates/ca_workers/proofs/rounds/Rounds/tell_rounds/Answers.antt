use Rattle.std.proofs.Common.{List, Option, Some, None, length, sym, ap, subst, ◌∙◌, arith}
use Rattle.std.proofs.lemmas.List.{nil_from_length}
use Rattle.ca_program.specs.View.{program_view}
use Rattle.ca_model.specs.declared.value.Object.{Object}
use Rattle.ca_beside.specs.Beside.{present}
use Rattle.ca_logs.specs.declared.log.Task.{Task}
use Rattle.ca_logs.specs.Entries.{task_calls}
use Rattle.ca_workers.specs.declared.turning.Turn.{Turn}
use Rattle.ca_workers.specs.clauses.Runs.{MayWait, BeginsAnew}
use Rattle.ca_workers.specs.clauses.Told.{RoundTold}
use Rattle.ca_workers.proofs.Going.{waits_on, goes_nowhere}
use Rattle.ca_workers.proofs.ToldOn.{behind_both, nothing_told, round_runs, told_behind, told_on, told_to_its_end, untold}
use Rattle.ca_workers.proofs.rounds.Rounds.tell_rounds.Goals as goal

pub rounds-init : goal.rounds-init
rounds-init g c = record {
  going = nothing_told (program_view c.args.self.now.program.now) c.args.frozen.now (present c.args.frozen.now c.args.beside.now) (task_calls c.args.first.items) c.args.left c.args.lines.now.items;
  waits = c.requires.waiting;
  begins = c.requires.begins;
  quota = omega arith;
}

pub tell_round-requires-clause-waiting : goal.tell_round-requires-clause-waiting
tell_round-requires-clause-waiting g c κs within =
    let frozen = c.args.frozen.now in
    let same = ap (λ v. v.items) c.replace-tasks.ensures.value in
    subst (λ (ts : List Task). MayWait (program_view c.args.self.now.program.now) c.args.self.now.extent.now frozen (present frozen c.rounds.beside) (task_calls ts)) (sym same) c.rounds.invariant.waits

pub tell_round-requires-clause-some : goal.tell_round-requires-clause-some
tell_round-requires-clause-some g c κs within =
    let same = ap (λ v. length v.items) c.replace-tasks.ensures.value in
    let count = c.len.ensures ∙ c.rounds.waiting.ok.0 in
    omega (arith, same, count, c.rounds-test.true)

pub returns-in-None-clause-told : goal.returns-in-None-clause-told
returns-in-None-clause-told g c =
    let p = program_view c.args.self.now.program.now in
    let frozen = c.args.frozen.now in
    let start : List Object = present frozen c.args.beside.now in
    let now : List Object = present frozen c.rounds.beside in
    let first = task_calls c.args.first.items in
    let ws = task_calls c.rounds.waiting.items in
    let before = c.args.lines.now.items in
    let tasks = ap (λ v. v.items) c.replace-tasks.ensures.value in
    let after : List Object = present frozen c.tell_round.new.beside in
    let told = subst (λ (o : Option Turn). RoundTold p frozen now (task_calls c.replace-tasks.result.items) c.rounds.still c.rounds.lines.items after c.tell_round.new.lines.items o) c.in-None.is c.in_ok-told.ensures.told in
    goes_nowhere p c.args.self.now.extent.now frozen c.requires.setting start first c.requires.waiting c.args.left now ws c.rounds.still (untold p frozen start first c.args.left before now ws c.rounds.still c.rounds.lines.items c.rounds.invariant.going)
    (subst (λ (ts : List Task). RoundTold p frozen now (task_calls ts) c.rounds.still c.rounds.lines.items after c.tell_round.new.lines.items None) tasks told)

pub returns-in-None-clause-behind : goal.returns-in-None-clause-behind
returns-in-None-clause-behind g c =
    behind_both c.args.lines.now.items c.rounds.lines.items c.tell_round.new.lines.items
    (told_behind (program_view c.args.self.now.program.now) c.args.frozen.now (present c.args.frozen.now c.args.beside.now) (task_calls c.args.first.items) c.args.left c.args.lines.now.items (present c.args.frozen.now c.rounds.beside) (task_calls c.rounds.waiting.items) c.rounds.still c.rounds.lines.items c.rounds.invariant.going)
    c.tell_round.ensures.behind

pub returns-in_err-told-clause-behind : goal.returns-in_err-told-clause-behind
returns-in_err-told-clause-behind g c =
    behind_both c.args.lines.now.items c.rounds.lines.items c.tell_round.new.lines.items
    (told_behind (program_view c.args.self.now.program.now) c.args.frozen.now (present c.args.frozen.now c.args.beside.now) (task_calls c.args.first.items) c.args.left c.args.lines.now.items (present c.args.frozen.now c.rounds.beside) (task_calls c.rounds.waiting.items) c.rounds.still c.rounds.lines.items c.rounds.invariant.going)
    c.tell_round.ensures.behind

pub rounds-preserved : goal.rounds-preserved
rounds-preserved g c =
    let p = program_view c.args.self.now.program.now in
    let frozen = c.args.frozen.now in
    let start : List Object = present frozen c.args.beside.now in
    let now : List Object = present frozen c.rounds.beside in
    let first = task_calls c.args.first.items in
    let ws = task_calls c.rounds.waiting.items in
    let before = c.args.lines.now.items in
    let tasks = ap (λ v. v.items) c.replace-tasks.ensures.value in
    let turn = c.in-Some.turn in
    let after : List Object = present frozen c.tell_round.new.beside in
    let longer = c.tell_round.new.lines.items in
    let told = subst (λ (o : Option Turn). RoundTold p frozen now (task_calls c.replace-tasks.result.items) c.rounds.still c.rounds.lines.items after longer o) c.in-Some.is c.in_ok-told.ensures.told in
    let ran = (subst (λ (ts : List Task). RoundTold p frozen now (task_calls ts) c.rounds.still c.rounds.lines.items after longer (Some turn)) tasks told).0 in
    let more = task_calls turn.rest.items in
    record {
      going = told_on p frozen start first c.args.left before now ws c.rounds.still c.rounds.lines.items c.rounds.invariant.going after more longer turn.steps ran;
      waits = waits_on p c.args.self.now.extent.now frozen c.requires.setting now ws c.rounds.invariant.waits c.rounds.still after more turn.steps (round_runs p frozen now ws c.rounds.still c.rounds.lines.items after more longer turn.steps ran);
      begins = subst BeginsAnew c.in-Some.is c.in_ok-told.ensures.begins;
      quota = c.next_quota-quota.ensures.some;
    }

pub returns-clause-told : goal.returns-clause-told
returns-clause-told g c =
    let frozen = c.args.frozen.now in
    let count = c.len.ensures ∙ c.rounds.waiting.ok.0 in
    let none = nil_from_length c.rounds.waiting.items (omega (arith, count, c.rounds-test.false)) in
    told_to_its_end (program_view c.args.self.now.program.now) frozen (present frozen c.args.beside.now) (task_calls c.args.first.items) c.args.left c.args.lines.now.items (present frozen c.rounds.beside) (task_calls c.rounds.waiting.items) c.rounds.still c.rounds.lines.items c.rounds.invariant.going
    (ap task_calls none)

pub returns-clause-behind : goal.returns-clause-behind
returns-clause-behind g c =
    told_behind (program_view c.args.self.now.program.now) c.args.frozen.now (present c.args.frozen.now c.args.beside.now) (task_calls c.args.first.items) c.args.left c.args.lines.now.items (present c.args.frozen.now c.rounds.beside) (task_calls c.rounds.waiting.items) c.rounds.still c.rounds.lines.items c.rounds.invariant.going
