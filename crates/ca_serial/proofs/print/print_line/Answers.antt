use Rattle.std.proofs.Common.{◌++◌, ◌∷◌, [], arith}
use Rattle.ca_model.specs.Texts.{value_text}
use Rattle.ca_model.proofs.Lines.{adds_after, adds_more, went_after, not_added, flushed}
use Rattle.ca_serial.proofs.Endings.{cause_after}
use Rattle.ca_serial.proofs.print.print_line.Goals as goal

pub returns-in-Err-clause-bytes : goal.returns-in-Err-clause-bytes
returns-in-Err-clause-bytes g c =
    let text = value_text c.args.value in
    not_added _ _ _ _ (text ++ 10 ∷ []) (adds_more _ _ _ _ _ text (10 ∷ []) (rw c.new-line.ensures at c.in-Err.ensures.bytes))

pub returns-in-Err-clause-cause : goal.returns-in-Err-clause-cause
returns-in-Err-clause-cause g c = c.in-Err.ensures.cause

pub returns-in-Err-add-clause-cause : goal.returns-in-Err-add-clause-cause
returns-in-Err-add-clause-cause g c = cause_after _ _ _ _ c.in_default.ensures.cause.later c.in-Err-add.ensures.cause

pub returns-clause-cause : goal.returns-clause-cause
returns-clause-cause g c = cause_after _ _ _ _ (omega (arith, c.in_default.ensures.cause.later, c.in_default-add.ensures.cause.later)) c.flush.ensures.cause

pub returns-in-Err-add-clause-bytes : goal.returns-in-Err-add-clause-bytes
returns-in-Err-add-clause-bytes g c =
    let text = value_text c.args.value in
    not_added _ _ _ _ (text ++ 10 ∷ []) (adds_after _ _ _ [] text _ (10 ∷ []) _ _ (rw c.new-line.ensures at c.in_default.ensures.bytes.whole) c.in-Err-add.ensures.bytes)

pub returns-clause-bytes : goal.returns-clause-bytes
returns-clause-bytes g c =
    let text = value_text c.args.value in
    flushed _ _ _ (text ++ 10 ∷ []) _ _
    (went_after _ _ _ [] text _ (10 ∷ []) _ (rw c.new-line.ensures at c.in_default.ensures.bytes.whole) c.in_default-add.ensures.bytes.whole)
    c.flush.ensures.bytes
