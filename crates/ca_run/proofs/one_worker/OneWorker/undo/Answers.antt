use Rattle.ca_run.proofs.one_worker.OneWorker.undo.Goals as goal

pub returns : goal.returns
returns g c = c.undo.ensures
