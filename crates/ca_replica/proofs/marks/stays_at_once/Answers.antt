use Rattle.std.proofs.Common.{subst, arith}
use Rattle.std.specs.Prelude.{Contains}
use Rattle.ca_model.specs.declared.value.Object.{Object}
use Rattle.ca_order_laws.proofs.Places.{one_some}
use Rattle.ca_beside.proofs.Present.{past_none}
use Rattle.ca_replica.proofs.InPlace.{field_at}
use Rattle.ca_replica.proofs.marks.stays_at_once.Goals as goal

pub returns-then-n-len : goal.returns-then-n-len
returns-then-n-len c = λ e ws m o there. absurd (past_none c.args.frozen.now c.args.n o (omega (arith, c.if-n-len.true, c.len.ensures.value)) there)

pub get-requires : goal.get-requires
get-requires c = omega (arith, c.if-n-len.false, c.len.ensures.value)

pub returns : goal.returns
returns c = λ e ws m o there. subst (λ (z : Object). ¬ Contains ws (field_at z.class c.args.field)) (one_some _ c.get.result.now o c.get.ensures there) (c.is_free.ensures e ws m)
