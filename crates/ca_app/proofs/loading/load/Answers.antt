use Rattle.ca_app.proofs.Ended.{caused, written_so}
use Rattle.ca_app.proofs.Endings.{ends_loaded, ends_written}
use Rattle.ca_app.proofs.loading.load.Goals as goal

pub returns-in-Ok-clause-ends : goal.returns-in-Ok-clause-ends
returns-in-Ok-clause-ends g c =
    ends_loaded c.args.seed c.args.size c.args.workers c.in-Ok.loaded.steps c.in-Ok.loaded.heap c.in-Ok.ensures
    (ends_written _ 0 _ _ _ _ c.write_summary.ensures.bytes (written_so _ _ _ c.finish.ensures))

pub returns-in-Ok-clause-write_fault : goal.returns-in-Ok-clause-write_fault
returns-in-Ok-clause-write_fault g c = caused _ _ c.write_summary.result _ _ c.write_summary.ensures.cause c.finish.ensures
