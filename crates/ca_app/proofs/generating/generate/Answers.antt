use Rattle.ca_app.proofs.GeneratedRuns.{generated_runs}
use Rattle.ca_app.proofs.generating.generate.Goals as goal

pub returns-clause-runs : goal.returns-clause-runs
returns-clause-runs c = generated_runs c.in_ok-text.text.items c.args.seed c.args.size c.requires.0 c.requires.1 c.in_ok-text.ensures
