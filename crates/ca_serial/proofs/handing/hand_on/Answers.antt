use Rattle.std.proofs.Common.{◌∷◌, [], inl, inr, refl}
use Rattle.std.proofs.lemmas.Result.{err_from_is_err_and}
use Rattle.ca_program.specs.View.{program_view}
use Rattle.ca_meaning.specs.Serial.{in_heap}
use Rattle.ca_code.specs.Codes.{code_seen}
use Rattle.ca_serial.specs.clauses.Handing.{due_at, with_note}
use Rattle.ca_serial.proofs.Hands.{call_passes, call_enters, call_spends}
use Rattle.ca_serial.proofs.Told.{none_told, none_done, told_err}
use Rattle.ca_serial.proofs.handing.hand_on.Goals as goal

pub ask-requires-clause-ready : goal.ask-requires-clause-ready
ask-requires-clause-ready g c = λ κs o. c.requires.ready

pub ask-requires-clause-program : goal.ask-requires-clause-program
ask-requires-clause-program g c = λ κs o. c.requires.program

pub ask-requires-clause-good : goal.ask-requires-clause-good
ask-requires-clause-good g c = λ κs o. rw (c.as_slice.ensures.value, c.in_ok-ops.ensures.calls, c.left-left.ensures) c.requires.good

pub ask-requires-clause-serves : goal.ask-requires-clause-serves
ask-requires-clause-serves g c = λ κs o. c.requires.serves

-- the machine stands behind the call
pub returns-in-Some-clause-means : goal.returns-in-Some-clause-means
returns-in-Some-clause-means g c = λ w into out.
    let p = program_view c.args.coded.now in
    call_passes p (code_seen c.args.code.now) c.args.frames.now c.args.op c.args.first c.args.receiver c.requires.due c.args.run.now.heap w into out c.ask.new.heap c.in-Some.rest c.pass.new.self
    (rw (c.as_slice.ensures.value, c.in_ok-ops.ensures.calls, c.left-left.ensures, c.in-Some.is) at (c.in_ok-answer.ensures.given w)) c.in_ok-pass-in-Some.ensures

-- its body is entered
pub returns-in-On-clause-means : goal.returns-in-On-clause-means
returns-in-On-clause-means g c = λ w into out.
    let p = program_view c.args.coded.now in
    let m = c.args.frames.now in
    let x = with_note (in_heap w c.args.run.now.heap) (due_at (code_seen c.args.code.now) m c.args.op c.args.first c.args.receiver ∷ []) m.left in
    call_enters p (code_seen c.args.code.now) m c.args.op c.args.first c.args.receiver c.requires.due c.args.run.now.heap w into out c.ask.new.heap c.enter_operation.new.self
    (rw (c.as_slice.ensures.value, c.in_ok-ops.ensures.calls, c.left-left.ensures, c.in-None.is) at (c.in_ok-answer.ensures.given w))
    (rw (c.as_slice-in-None.ensures.value, c.in-On.is) at (c.in_ok-went-in-None.ensures 0 (in_heap w c.args.run.now.heap) x))

pub returns-in-Spends-clause-means : goal.returns-in-Spends-clause-means
returns-in-Spends-clause-means g c = λ w into out.
    let p = program_view c.args.coded.now in
    let m = c.args.frames.now in
    let x = with_note (in_heap w c.args.run.now.heap) (due_at (code_seen c.args.code.now) m c.args.op c.args.first c.args.receiver ∷ []) m.left in
    call_spends p (code_seen c.args.code.now) m c.args.op c.args.first c.args.receiver c.requires.due c.args.run.now.heap w into out c.ask.new.heap
    (rw (c.as_slice.ensures.value, c.in_ok-ops.ensures.calls, c.left-left.ensures, c.in-None.is) at (c.in_ok-answer.ensures.given w))
    (rw (c.as_slice-in-None.ensures.value, c.in-Spends.is) at (c.in_ok-went-in-None.ensures 0 (in_heap w c.args.run.now.heap) x))

pub returns-in-Some-clause-account : goal.returns-in-Some-clause-account
returns-in-Some-clause-account g c = rw (c.as_slice.ensures.value, c.in_ok-ops.ensures.calls, c.left-left.ensures) at c.in_ok-answer.ensures.account

pub returns-in-On-clause-account : goal.returns-in-On-clause-account
returns-in-On-clause-account g c = rw (c.as_slice.ensures.value, c.in_ok-ops.ensures.calls, c.left-left.ensures) at c.in_ok-answer.ensures.account

pub returns-in-Spends-clause-account : goal.returns-in-Spends-clause-account
returns-in-Spends-clause-account g c = rw (c.as_slice.ensures.value, c.in_ok-ops.ensures.calls, c.left-left.ensures) at c.in_ok-answer.ensures.account

-- ---- where it gives up

pub returns-in_err-ops : goal.returns-in_err-ops
returns-in_err-ops g c =
    let e = err_from_is_err_and c.from_residual.result c.from_residual.ensures.1 in
    record {
      means = none_told _ c.from_residual.result e.0 e.1;
      account = none_done _ c.from_residual.result e.0 e.1;
      account_kept = told_err _ c.from_residual.result (inl refl);
      program = refl;
    }

pub returns-in_err-answer : goal.returns-in_err-answer
returns-in_err-answer g c =
    let r = c.from_residual-in_err-answer.result in
    let e = err_from_is_err_and r c.from_residual-in_err-answer.ensures.1 in
    record {
      means = none_told _ r e.0 e.1;
      account = none_done _ r e.0 e.1;
      account_kept = told_err _ r (inl c.in_err-answer.ensures.account_kept);
      program = refl;
    }

pub returns-in_err-pass-in-Some : goal.returns-in_err-pass-in-Some
returns-in_err-pass-in-Some g c =
    let r = c.from_residual-in_err-pass-in-Some.result in
    let e = err_from_is_err_and r c.from_residual-in_err-pass-in-Some.ensures.1 in
    record {
      means = none_told _ r e.0 e.1;
      account = none_done _ r e.0 e.1;
      account_kept = told_err _ r (inr (rw (c.as_slice.ensures.value, c.in_ok-ops.ensures.calls, c.left-left.ensures) at c.in_ok-answer.ensures.account));
      program = refl;
    }

pub returns-clause-account_kept : goal.returns-clause-account_kept
returns-clause-account_kept g c = inr (rw (c.as_slice.ensures.value, c.in_ok-ops.ensures.calls, c.left-left.ensures) at c.in_ok-answer.ensures.account)

pub returns-in_err-went-in-None : goal.returns-in_err-went-in-None
returns-in_err-went-in-None g c =
    let r = c.from_residual-in_err-went-in-None.result in
    let e = err_from_is_err_and r c.from_residual-in_err-went-in-None.ensures.1 in
    record {
      means = none_told _ r e.0 e.1;
      account = none_done _ r e.0 e.1;
      account_kept = told_err _ r (inr (rw (c.as_slice.ensures.value, c.in_ok-ops.ensures.calls, c.left-left.ensures) at c.in_ok-answer.ensures.account));
      program = refl;
    }
