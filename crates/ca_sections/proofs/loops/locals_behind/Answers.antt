use Rattle.std.proofs.Common.{inl, inr, ◌++◌, Err, sym, ap, ◌∙◌}
use Rattle.std.proofs.lemmas.Result.{err_from_is_err_and}
use Rattle.std.specs.Prelude.{map}
use Rattle.ca_program.specs.Kinds.{kind_type}
use Rattle.ca_code_laws.specs.Machine.{row}
use Rattle.ca_steps.specs.Stands.{seen}
use Rattle.ca_sections.proofs.Looping.{none_read}
use Rattle.ca_sections.proofs.loops.locals_behind.Goals as goal

pub returns-in_ok-locals-in-Ok : goal.returns-in_ok-locals-in-Ok
returns-in_ok-locals-in-Ok c =
    let slots = row (seen c.args.frames.now.slots.items) c.args.frames.now.base (map kind_type c.args.types.now) in
    record { ran = inl (sym c.in-Ok.is); read = c.in_ok-locals-in-Ok.ensures ∙ ap (λ xs. xs ++ slots) c.clear.ensures.items }

pub returns-in-Err : goal.returns-in-Err
returns-in-Err c = record { ran = inl (sym c.in-Err.is); read = tt }

pub returns-in_err-locals-in-Ok : goal.returns-in_err-locals-in-Ok
returns-in_err-locals-in-Ok c =
    let e = err_from_is_err_and c.from_residual.result c.from_residual.ensures.1 in
    record { ran = inr (e.1 ∙ ap Err e.2); read = none_read _ c.from_residual.result e.0 e.1 }
