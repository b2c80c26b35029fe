use Rattle.std.proofs.Common.{arith}
use Rattle.ca_workers.proofs.Quotas.{first_reached, next_reached, is_behind}
use Rattle.ca_workers.proofs.rounds.quota_behind.Goals as goal

pub quotas-init : goal.quotas-init
quotas-init c = record { some = omega arith; few = omega arith; reached = first_reached c.args.steps }

pub quotas-preserved : goal.quotas-preserved
quotas-preserved c = let next = c.next_quota-quota.ensures.next in record {
  some = c.next_quota-quota.ensures.some;
  few = omega (arith, next);
  reached = next_reached c.args.steps c.quotas.quota _ next (omega (arith, c.if-from-steps.false, c.from.ensures)) c.quotas.invariant.reached;
}

pub returns-then-from-steps-clause-behind : goal.returns-then-from-steps-clause-behind
returns-then-from-steps-clause-behind c = is_behind c.args.steps c.quotas.quota c.quotas.invariant.reached (λ le. absurd (omega (arith, le, c.if-from-steps.true, c.from.ensures)))

pub returns-clause-behind : goal.returns-clause-behind
returns-clause-behind c = is_behind c.args.steps c.quotas.quota c.quotas.invariant.reached (λ le. omega (arith, c.quotas.invariant.few, c.quotas-test.false))
