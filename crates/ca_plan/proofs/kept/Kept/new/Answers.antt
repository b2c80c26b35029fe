use Rattle.ca_program.specs.View.{program_view}
use Rattle.ca_plan.proofs.Keeping.{none_told}
use Rattle.ca_plan.proofs.kept.Kept.new.Goals as goal

pub returns : goal.returns
returns c =
    let p = program_view c.args.program.now in
    record { extents = none_told p _ c.new-all.ensures.items; verdicts = c.in_ok-known.ensures p }
