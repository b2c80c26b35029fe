use Rattle.ca_run.proofs.one_worker.OneWorker.run_more.Goals as goal

pub run_one-requires : goal.run_one-requires
run_one-requires g c = record { program = c.requires.program; heap = c.requires.heap; typed = c.requires.typed }

pub returns : goal.returns
returns g c = record { ran = c.run_one.ensures.ran; before = c.run_one.ensures.before }
