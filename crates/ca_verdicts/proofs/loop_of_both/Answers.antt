use Rattle.std.proofs.Common.{◌∙◌, ap}
use Rattle.std.specs.Option.{option_or}
use Rattle.ca_program.specs.View.{program_view}
use Rattle.ca_symbolic.specs.Runs.{first_other_loop}
use Rattle.ca_verdicts.proofs.loop_of_both.Goals as goal

pub returns-in-Some : goal.returns-in-Some
returns-in-Some c = ap (λ o. option_or o (first_other_loop (program_view c.args.program.now) c.args.written.now c.args.b)) c.in-Some.ensures

pub returns-in-None : goal.returns-in-None
returns-in-None c =
    c.other_loop-in-None.ensures
    ∙ ap (λ o. option_or o (first_other_loop (program_view c.args.program.now) c.args.written.now c.args.b)) c.in-None.ensures
