use Rattle.std.proofs.Common.{◌≡◌, ap, arith}
use Rattle.ca_meaning.specs.Multisets.{weight}
use Rattle.ca_deques.specs.declared.rule.Hand.{Hand}
use Rattle.ca_deques.specs.Hands.{taking}
use Rattle.ca_deques.proofs.Grown.{taking_weight, grown_weight}
use Rattle.ca_deques.proofs.taking.put_behind_open.Goals as goal

pub returns-in-Some-pop-clause-moved : goal.returns-in-Some-pop-clause-moved
returns-in-Some-pop-clause-moved g c =
    let t : c.pop.new.self.hand ≡ taking c.args.owner.now.hand c.in-Some.item = c.in-Some.ensures.taken in
    λ h. omega (arith, taking_weight _ _ c.in-Some.item t h, ap (λ (v : Hand). weight h v.pushed) t, ap (weight h) c.into_tasks.ensures.same, grown_weight _ _ _ c.in-Some-pop.ensures.items h, grown_weight _ _ _ c.push_reserved.ensures.items h, ap (weight h) c.requires.empty)
