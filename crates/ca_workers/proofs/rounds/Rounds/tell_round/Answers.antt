use Rattle.std.proofs.Common.{◌≡◌, true, Option, Some, List, refl, sym, ap, subst, ◌∙◌}
use Rattle.ca_program.specs.View.{program_view}
use Rattle.ca_model.specs.declared.value.Object.{Object}
use Rattle.ca_beside.specs.Beside.{present}
use Rattle.ca_logs.specs.Entries.{task_calls}
use Rattle.ca_logs.specs.Laws.{objects_of}
use Rattle.ca_logs.specs.Touched.{logs_of}
use Rattle.ca_cells.specs.Logs.{logs_in, loose_in, touched_in}
use Rattle.ca_workers.specs.declared.rounds.Left.{Left}
use Rattle.ca_workers.specs.declared.turning.Turn.{Turn}
use Rattle.ca_workers.specs.clauses.Runs.{Turned, Tells, Begin, BeginsAnew}
use Rattle.ca_workers.specs.clauses.Told.{RoundTold}
use Rattle.ca_workers.proofs.ToldOn.{round_told, none_behind_them, adds_behind}
use Rattle.ca_workers.proofs.rounds.Rounds.tell_round.Goals as goal

pub add_lines-requires : goal.add_lines-requires
add_lines-requires g c = (subst (Tells (present c.args.frozen.now c.args.beside.now) true) c.in-Some.is c.in_ok-went.ensures.tells).2

pub turn_behind-requires : goal.turn_behind-requires
turn_behind-requires g c = (subst (Tells (present c.args.frozen.now c.args.beside.now) true) c.in-Some.is c.in_ok-went.ensures.tells).1

pub returns-in-None-clause-told : goal.returns-in-None-clause-told
returns-in-None-clause-told g c =
    subst (λ (o : Option Left). Turned (program_view c.args.self.now.program.now) c.args.frozen.now (present c.args.frozen.now c.args.beside.now) (task_calls c.args.waiting.items) c.args.left o) c.in-None.is c.in_ok-went.ensures.turned

pub returns-clause-told : goal.returns-clause-told
returns-clause-told g c =
    let p = program_view c.args.self.now.program.now in
    let frozen = c.args.frozen.now in
    let now : List Object = present frozen c.args.beside.now in
    let round = c.in-Some.round in
    let ws = task_calls c.args.waiting.items in
    let ran = subst (λ (o : Option Left). Turned p frozen now ws c.args.left o) c.in-Some.is c.in_ok-went.ensures.turned in
    let tells = subst (Tells now true) c.in-Some.is c.in_ok-went.ensures.tells in
    let after : List Object = present frozen c.turn_behind.new.beside in
    let heap : after ≡ objects_of (logs_in round.log) = c.in_ok-turn.ensures.heap frozen ∙ ap (λ (os : List Object). objects_of (logs_of os (touched_in round.log))) (sym tells.0) in
    subst (λ (t : Turn). RoundTold p frozen now ws c.args.left c.args.lines.now.items after c.add_lines.new.lines.items (Some t)) (sym c.in_ok-turn.ensures.turn)
    (round_told p frozen now ws c.args.left c.args.lines.now.items round.log tells.1 round.log.logs.items (loose_in round.log) refl refl after heap (task_calls round.rest.items) round.steps ran c.add_lines.new.lines.items c.in_ok-add_lines.ensures.added)

pub returns-clause-begins : goal.returns-clause-begins
returns-clause-begins g c = subst (λ (t : Turn). BeginsAnew (Some t)) (sym c.in_ok-turn.ensures.turn) (subst Begin c.in-Some.is c.in_ok-went.ensures.begins)

pub returns-clause-behind : goal.returns-clause-behind
returns-clause-behind g c = adds_behind c.args.lines.now.items c.in-Some.round.log.logs.items (loose_in c.in-Some.round.log) c.add_lines.new.lines.items c.in_ok-add_lines.ensures.added

pub returns-in_err-went-clause-behind : goal.returns-in_err-went-clause-behind
returns-in_err-went-clause-behind g c = none_behind_them c.args.lines.now.items c.args.lines.now.items refl

pub returns-in-None-clause-behind : goal.returns-in-None-clause-behind
returns-in-None-clause-behind g c = none_behind_them c.args.lines.now.items c.args.lines.now.items refl

pub returns-in_err-add_lines-clause-behind : goal.returns-in_err-add_lines-clause-behind
returns-in_err-add_lines-clause-behind g c = none_behind_them c.args.lines.now.items c.add_lines.new.lines.items c.in_err-add_lines.ensures.kept

pub returns-in_err-turn-clause-behind : goal.returns-in_err-turn-clause-behind
returns-in_err-turn-clause-behind g c = adds_behind c.args.lines.now.items c.in-Some.round.log.logs.items (loose_in c.in-Some.round.log) c.add_lines.new.lines.items c.in_ok-add_lines.ensures.added
