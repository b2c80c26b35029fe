use Rattle.ca_app.proofs.Ended.{caused, ends_as}
use Rattle.ca_app.proofs.serving.refuse.Goals as goal

pub returns-clause-ends : goal.returns-clause-ends
returns-clause-ends g c = ends_as c.write.result c.status.result c.finish.result _ _ _ _ c.status.ensures c.write.ensures.bytes c.finish.ensures

pub returns-clause-write_fault : goal.returns-clause-write_fault
returns-clause-write_fault g c = caused _ _ c.write.result _ _ c.write.ensures.cause c.finish.ensures
