use Rattle.std.proofs.Common.{sym, subst}
use Rattle.std.proofs.lemmas.Result.{err_from_is_err_and}
use Rattle.ca_program.specs.View.{program_view}
use Rattle.ca_code.specs.declared.layout.Code.{Code}
use Rattle.ca_code.specs.Codes.{code_seen}
use Rattle.ca_sections.specs.Extending.{AllStand}
use Rattle.ca_serial.specs.Codes.{IsRun}
use Rattle.ca_serial.proofs.Laid.{marked_runs, still_marked}
use Rattle.ca_serial.proofs.Told.{none_told}
use Rattle.ca_serial.proofs.running.made_of.Goals as goal

pub returns-in_err-code : goal.returns-in_err-code
returns-in_err-code c =
    let r = c.from_residual.result in
    let e = err_from_is_err_and r c.from_residual.ensures.1 in
    none_told _ r e.0 e.1

pub returns-in_err-code-2 : goal.returns-in_err-code-2
returns-in_err-code-2 c =
    let r = c.from_residual-in_err-code-2.result in
    let e = err_from_is_err_and r c.from_residual-in_err-code-2.ensures.1 in
    none_told _ r e.0 e.1

pub returns-in_err-laid : goal.returns-in_err-laid
returns-in_err-laid c =
    let r = c.from_residual-in_err-laid.result in
    let e = err_from_is_err_and r c.from_residual-in_err-laid.ensures.1 in
    none_told _ r e.0 e.1

pub returns : goal.returns
returns c =
    let p = program_view c.args.program.now in
    let marks = c.args.marks.now in
    let told = c.in_ok-laid.ensures in
    let made = c.in_ok-code-2.ensures in
    record {
      run = subst (λ (d : Code). IsRun marks p (code_seen d) d.main) (sym told.0) (marked_runs p c.requires.program marks c.requires.sound (code_seen c.in_ok-code-2.code) c.in_ok-code-2.code.main (still_marked marks p c.in_ok-code.code c.in_ok-code-2.code made.0 c.in_ok-code.ensures));
      ops = told.1;
      loops = subst (λ (d : Code). AllStand p (code_seen d) c.in_ok-code-2.places.items) (sym told.0) made.1;
    }

pub made_once-requires : goal.made_once-requires
made_once-requires c = record { program = c.requires.program; none = c.nothing_is_marked.ensures c.if-nothing_is_marked.true }

pub returns-then-nothing_is_marked : goal.returns-then-nothing_is_marked
returns-then-nothing_is_marked c = c.made_once.ensures
