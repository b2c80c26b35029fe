use Rattle.ca_words.specs.declared.PlanCommand.TheVariants.{Pairs, Plan, Emit}
use Rattle.ca_app.proofs.Ended.{caused, written_so}
use Rattle.ca_app.proofs.Endings.{ends_written, told_so}
use Rattle.ca_app.proofs.telling.tell.Goals as goal

pub returns-in-Pairs-clause-ends : goal.returns-in-Pairs-clause-ends
returns-in-Pairs-clause-ends g c = λ bytes t. told_so Pairs c.in-Pairs.is t (ends_written _ 0 _ _ _ _ c.print_pairs.ensures.bytes (written_so _ _ _ c.finish.ensures))

pub returns-in-Plan-clause-ends : goal.returns-in-Plan-clause-ends
returns-in-Plan-clause-ends g c = λ bytes t. told_so Plan c.in-Plan.is t (ends_written _ 0 _ _ _ _ c.print_plan.ensures.bytes (written_so _ _ _ c.finish-in-Plan.ensures))

pub returns-in-Ok-clause-ends : goal.returns-in-Ok-clause-ends
returns-in-Ok-clause-ends g c = λ bytes t.
    told_so Emit c.in-Emit.is t (ends_written _ 0 _ _ _ _ (rw (c.deref.ensures.value, c.in-Ok.ensures.text) at c.write_all.ensures.bytes) (written_so _ _ _ c.finish-in-Ok.ensures))

pub returns-in-Pairs-clause-write_fault : goal.returns-in-Pairs-clause-write_fault
returns-in-Pairs-clause-write_fault g c = caused _ _ c.print_pairs.result _ _ c.print_pairs.ensures.cause c.finish.ensures

pub returns-in-Plan-clause-write_fault : goal.returns-in-Plan-clause-write_fault
returns-in-Plan-clause-write_fault g c = caused _ _ c.print_plan.result _ _ c.print_plan.ensures.cause c.finish-in-Plan.ensures

pub returns-in-Ok-clause-write_fault : goal.returns-in-Ok-clause-write_fault
returns-in-Ok-clause-write_fault g c = caused _ _ c.write_all.result _ _ c.write_all.ensures.cause c.finish-in-Ok.ensures
