use Rattle.std.proofs.Common.{◌≡◌, ap, sym, ◌∙◌, arith}
use Rattle.ca_parallel.specs.Extents.{Extent}
use Rattle.ca_plan.specs.Plans.{Judged}
use Rattle.ca_plan.specs.Told.{shared}
use Rattle.ca_plan.proofs.Keeping.{among}
use Rattle.ca_plan.proofs.kept.Kept.find.Goals as goal

pub returns-then-same_ops-clause-extent : goal.returns-then-same_ops-clause-extent
returns-then-same_ops-clause-extent c =
    let said : c.ops.result.now ≡ c.ops-in-loop-j.result.now = c.same_ops.ensures c.if-same_ops.true in
    let one : c.in_ok-shared.shared.value ≡ c.deref.result.now = c.in_ok-shared.ensures.cases ∙ sym c.deref.ensures in
    ap (λ (j : Judged). j.extent.ops) one ∙ (ap (λ (x : Extent). x.ops) (sym c.extent.ensures) ∙ (sym c.ops.ensures ∙ (said ∙ c.ops-in-loop-j.ensures)))

pub returns-then-same_ops-clause-kept : goal.returns-then-same_ops-clause-kept
returns-then-same_ops-clause-kept c = among c.deref-j-items.result.now c.loop-j.j-index c.j-item.result _ (shared c.args.self.now.all.items) (omega arith) c.j-item.is c.in_ok-shared.ensures.cases (ap shared c.deref-j-items.ensures.value)
