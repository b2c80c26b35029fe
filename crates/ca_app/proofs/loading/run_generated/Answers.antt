use Rattle.std.proofs.Common.{rules}
use Rattle.std.proofs.lemmas.Result.{IfOk-weaker}
use Rattle.ca_app.proofs.AcceptedTyped.{accepted_is_checked}
use Rattle.ca_app.proofs.LoadedTexts.{read_is_done, never_refused, is_loaded}
use Rattle.ca_app.proofs.loading.run_generated.Goals as goal

pub unreachable-requires : goal.unreachable-requires
unreachable-requires g c = never_refused (rw (c.in-Err-Refused.field-0-is, c.deref.ensures.value) at c.in-Err-Refused.ensures.cause) c.in_ok-text.ensures.runs

pub run_to_end-requires : goal.run_to_end-requires
run_to_end-requires g c =
    let done = read_is_done c.args.size c.requires.size.1 (rw c.deref.ensures.value at c.in-Ok.ensures.program) c.in_ok-text.ensures.runs in
    (search rules, (search rules, (accepted_is_checked c.in-Ok.ensures.program.accepted, (c.requires.workers, done))))

pub returns-in-Ok : goal.returns-in-Ok
returns-in-Ok g c =
    IfOk-weaker c.run_to_end.result _ _
    (λ loaded ran. is_loaded c.args.seed c.args.size c.in_ok-text.ensures.text (rw c.deref.ensures.value at c.in-Ok.ensures.program) ran) c.run_to_end.ensures
