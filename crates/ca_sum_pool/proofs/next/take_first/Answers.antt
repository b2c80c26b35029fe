use Rattle.std.proofs.Common.{refl, arith}
use Rattle.ca_model.proofs.Stores.{found}
use Rattle.ca_sum_pool.proofs.Begun.{begun_over, begun_past}
use Rattle.ca_sum_pool.proofs.next.take_first.Goals as goal

pub returns-then-end-place-clause-none : goal.returns-then-end-place-clause-none
returns-then-end-place-clause-none c = λ e. begun_over c.args.listed.now c.args.at.now c.args.end c.if-end-place.true

pub returns-then-listed-place-clause-none : goal.returns-then-listed-place-clause-none
returns-then-listed-place-clause-none c = λ e. begun_past c.args.listed.now c.args.at.now c.args.end c.if-listed-place.true

pub returns-clause-took : goal.returns-clause-took
returns-clause-took c = (
  omega (arith, c.if-end-place.false),
  found c.args.listed.now c.args.at.now c.index-listed-place.result (omega (arith, c.if-listed-place.false)) c.index-listed-place.is,
  refl,
)
