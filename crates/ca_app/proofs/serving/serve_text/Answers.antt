use Rattle.std.proofs.Common.{rules, inl, refl}
use Rattle.ca_app.proofs.AcceptedTyped.{accepted_is_checked}
use Rattle.ca_app.proofs.Ended.{refused_not_done}
use Rattle.ca_app.proofs.Endings.{ends_refused, ends_program, told_of_text}
use Rattle.ca_app.proofs.Uses.{unserved}
use Rattle.ca_app.proofs.serving.serve_text.Goals as goal

pub returns-in-Ok-clause-served : goal.returns-in-Ok-clause-served
returns-in-Ok-clause-served g c = record {
  ends = ends_program _ _ c.in-Ok.ensures.program c.in-Ok.ensures.tree c.serve_program.ensures.ends;
  told = λ told is zero. told_of_text _ _ c.in-Ok.ensures.program c.in-Ok.ensures.tree (c.serve_program.ensures.told told is zero);
}

pub returns-in-Err-Refused-clause-served : goal.returns-in-Err-Refused-clause-served
returns-in-Err-Refused-clause-served g c = record {
  ends = ends_refused (rw c.in-Err-Refused.field-0-is at c.in-Err-Refused.ensures.cause) (rw c.in-Err-Refused.field-0-is at c.refuse.ensures.ends);
  told = λ told is zero. absurd (refused_not_done c.in-Err-Refused.refusal.at c.in-Err-Refused.refusal.code.0 (rw c.in-Err-Refused.field-0-is at c.refuse.ensures.ends) zero);
}

pub returns-in-Err-Memory-clause-served : goal.returns-in-Err-Memory-clause-served
returns-in-Err-Memory-clause-served g c = unserved c.args.command c.args.text.now (record { cause = inl refl; same = refl })

pub serve_program-requires : goal.serve_program-requires
serve_program-requires g c = (search rules, (search rules, (accepted_is_checked c.in-Ok.ensures.program.accepted, c.requires.in_range)))
