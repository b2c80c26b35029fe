use Rattle.std.proofs.Common.{◌≡◌, ◌*◌, ◌∙◌, arith}
use Rattle.std.proofs.Math.Nat.{min-eq_left}
use Rattle.ca_workers.proofs.tasks.most_of.Goals as goal

pub returns-then-most-lt1-clause-all : goal.returns-then-most-lt1-clause-all
returns-then-most-lt1-clause-all c = λ some fits.
    let is : c.saturating_mul-most.result ≡ c.args.workers * c.args.quota = c.saturating_mul-most.ensures ∙ min-eq_left (omega (arith, fits)) in
    absurd (omega (arith, some, is, c.if-most-lt1.true))

pub returns-else-most-lt1-clause-all : goal.returns-else-most-lt1-clause-all
returns-else-most-lt1-clause-all c = λ some fits. c.saturating_mul-most.ensures ∙ min-eq_left (omega (arith, fits))
