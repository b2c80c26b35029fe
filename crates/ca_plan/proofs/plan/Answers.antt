use Rattle.ca_program.specs.View.{program_view}
use Rattle.ca_plan.proofs.Commuting.{commute_of, sound_of}
use Rattle.ca_plan.proofs.plan.Goals as goal

pub returns-clause-commute : goal.returns-clause-commute
returns-clause-commute c = commute_of (program_view c.args.program.now) c.made.result c.made.ensures.exact c.made.ensures.told

pub returns-clause-sound : goal.returns-clause-sound
returns-clause-sound c = sound_of (program_view c.args.program.now) c.made.result c.made.ensures.exact c.made.ensures.told
