use Rattle.std.proofs.Common.{ap, ◌∙◌, sym}
use Rattle.ca_tree.specs.View.{expression_view}
use Rattle.ca_program.specs.Plain as program
use Rattle.ca_resolve.specs.Judged.{fine, within}
use Rattle.ca_resolve.specs.Scopes.{Invocation}
use Rattle.ca_resolve.specs.Values.{judge_call, place_of, in_order}
use Rattle.ca_resolve.specs.View.{invocation_view}
use Rattle.ca_types.specs.Rules.{called_operation}
use Rattle.ca_types.specs.clauses.View.{env_view}
use Rattle.ca_resolve.proofs.Judging.{within_tells}
use Rattle.ca_types.proofs.Answering.{own_tells, within_ok}
use Rattle.ca_resolve.proofs.InMemory.{place_is, in_order_is}
use Rattle.ca_types.proofs.lines.check_call_statement.Goals as goal

pub returns-in-Err : goal.returns-in-Err
returns-in-Err c =
    let s = env_view c.args.walk.now in
    let e = expression_view c.args.e.now in
    let err = c.in-Err.e in
    let i = invocation_view c.in_ok-call.call in
    own_tells err (judge_call s.scope e) (λ (i : Invocation). within (called_operation s.result i.callee (place_of e)) (λ o. fine (program.invoke c.args.at.line i.receiver o (in_order i.arguments)))) i
    (ap (λ z. judge_call z e) (sym c.scope.ensures) ∙ c.in_ok-call.ensures)
    (rw (place_is c.args.e.now)
    (within_tells err (called_operation s.result i.callee c.args.e.now.at) (λ o. fine (program.invoke c.args.at.line i.receiver o (in_order i.arguments))) c.in-Err.ensures))

pub returns-in-Ok : goal.returns-in-Ok
returns-in-Ok c =
    let s = env_view c.args.walk.now in
    let e = expression_view c.args.e.now in
    let i = invocation_view c.in_ok-call.call in
    within_ok (judge_call s.scope e) (λ (i : Invocation). within (called_operation s.result i.callee (place_of e)) (λ o. fine (program.invoke c.args.at.line i.receiver o (in_order i.arguments)))) i
    (ap (λ z. judge_call z e) (sym c.scope.ensures) ∙ c.in_ok-call.ensures)
    ∙ (rw (place_is c.args.e.now) (rw c.in-Ok.ensures (ap (λ z. fine (program.invoke c.args.at.line i.receiver c.in-Ok.op z)) (in_order_is c.in_ok-call.call.arguments.items))))
