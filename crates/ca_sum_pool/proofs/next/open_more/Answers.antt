use Rattle.std.proofs.Common.{◌∙◌, arith}
use Rattle.ca_sum_pool.proofs.next.open_more.Goals as goal

pub items-preserved : goal.items-preserved
items-preserved g c = let i = c.items.invariant in let o = c.open_some.ensures in record {
  same = o.same ∙ i.same;
  taken = o.taken ∙ i.taken;
  share = o.share;
  pushed = λ h. omega (arith, o.pushed h, i.pushed h);
}
