use Rattle.std.proofs.Common.{Some, ap, sym, ◌∙◌, arith}
use Rattle.ca_sum_pool.specs.declared.performing.Stuck.{Stuck}
use Rattle.ca_sum_pool.proofs.Whole.{no_why, why_of}
use Rattle.ca_sum_pool.proofs.finishing.first_why_of.Goals as goal

pub returns-then-stuck-eq0 : goal.returns-then-stuck-eq0
returns-then-stuck-eq0 c = no_why c.args.stuck.now (omega (arith, c.if-stuck-eq0.true))

pub returns : goal.returns
returns c = ap (λ (z : Stuck). Some z.why) (sym c.index-stuck-0.is) ∙ why_of c.args.stuck.now c.index-stuck-0.result c.index-stuck-0.is (omega (arith, c.if-stuck-eq0.false))
