use Rattle.std.proofs.Common.{◌≡◌, ◌≢◌, ◌↔◌, [], subst, sym}
use Rattle.std.specs.Prelude.{IsTrue}
use Rattle.ca_program.specs.View.{program_view, statements_view}
use Rattle.ca_parallel.specs.Bodies.{calls_of_all}
use Rattle.ca_parallel.specs.Extents.{operation_body}
use Rattle.ca_plan.specs.Told.{AllCommute}
use Rattle.ca_plan.proofs.Chosen.{body_at}
use Rattle.ca_plan.proofs.Tested.{given, not_given}
use Rattle.ca_plan.proofs.marking.note_op.Goals as goal

pub returns-in_ok-push : goal.returns-in_ok-push
returns-in_ok-push c =
    let body : operation_body (program_view c.args.program.now) c.args.op ≡ statements_view c.as_slice-stmts.result.now = rw c.as_slice-stmts.ensures.value (body_at c.args.program.now c.args.op c.op.result.now c.op.ensures) in
    let decided : IsTrue c.in_ok-marked.marked ↔ ((calls_of_all (operation_body (program_view c.args.program.now) c.args.op) ≢ []) × AllCommute c.args.judged.now) =
    subst (λ z. IsTrue c.in_ok-marked.marked ↔ ((calls_of_all z ≢ []) × AllCommute c.args.judged.now)) (sym body) c.in_ok-marked.ensures in
    given c.in_ok-marked.marked _ _ c.args.op decided c.if-marked.true c.in_ok-push.ensures.items

pub returns-else-marked : goal.returns-else-marked
returns-else-marked c =
    let body : operation_body (program_view c.args.program.now) c.args.op ≡ statements_view c.as_slice-stmts.result.now = rw c.as_slice-stmts.ensures.value (body_at c.args.program.now c.args.op c.op.result.now c.op.ensures) in
    let decided : IsTrue c.in_ok-marked.marked ↔ ((calls_of_all (operation_body (program_view c.args.program.now) c.args.op) ≢ []) × AllCommute c.args.judged.now) =
    subst (λ z. IsTrue c.in_ok-marked.marked ↔ ((calls_of_all z ≢ []) × AllCommute c.args.judged.now)) (sym body) c.in_ok-marked.ensures in
    not_given c.in_ok-marked.marked _ c.args.op decided c.if-marked.false
