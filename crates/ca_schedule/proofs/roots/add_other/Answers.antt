use Rattle.std.proofs.Common.{List, subst}
use Rattle.std.specs.Prelude.{Contains}
use Rattle.ca_program.specs.declared.program.OpId.{OpId}
use Rattle.ca_schedule.proofs.Alike.{there_alike, equal_alike}
use Rattle.ca_schedule.proofs.roots.add_other.Goals as goal

pub returns-then-is_last : goal.returns-then-is_last
returns-then-is_last c = there_alike c.args.ids.now.items c.args.id (subst (λ (xs : List OpId). Contains xs c.args.id) c.as_slice.ensures.value (c.is_last.ensures c.if-is_last.true))

pub returns : goal.returns
returns c = equal_alike _ _ c.in_ok-push.ensures.items
