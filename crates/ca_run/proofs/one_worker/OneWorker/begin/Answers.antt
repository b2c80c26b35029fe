use Rattle.ca_undo.proofs.Restoring.{nothing_kept}
use Rattle.ca_run.proofs.one_worker.OneWorker.begin.Goals as goal

pub returns : goal.returns
returns g c = λ h. nothing_kept c.forget.new.self h c.forget.ensures.puts c.forget.ensures.whole
