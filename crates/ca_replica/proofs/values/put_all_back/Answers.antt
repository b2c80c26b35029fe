use Rattle.std.proofs.Common.{refl, sym, ap, subst, ◌∙◌}
use Rattle.ca_beside.specs.Beside.{present}
use Rattle.ca_undo.specs.Puts.{restored}
use Rattle.ca_replica.specs.InPlace.{AllHave}
use Rattle.ca_replica.proofs.InPlace.{all_have_on}
use Rattle.ca_replica.proofs.values.put_all_back.Goals as goal

pub olds-init : goal.olds-init
olds-init c = (λ h. refl, c.requires)

pub put_back-requires : goal.put_back-requires
put_back-requires c = (subst (λ os. AllHave os c.olds.copies) c.in-Some.ensures c.olds.invariant.1).0

pub olds-preserved : goal.olds-preserved
olds-preserved c =
    let cs = c.olds.copies in
    let new = c.put_back.new.copies in
    let rest = c.last.new.self in (
      λ h. ap (restored rest) (c.put_back.ensures.back h) ∙ (ap (λ os. restored os (present h cs)) (sym c.in-Some.ensures) ∙ c.olds.invariant.0 h),
      all_have_on cs new c.put_back.ensures.has rest (subst (λ os. AllHave os cs) c.in-Some.ensures c.olds.invariant.1).1,
    )

pub returns : goal.returns
returns c = λ h. ap (λ os. restored os (present h c.olds.copies)) (sym c.in_default.ensures.0) ∙ c.olds.invariant.0 h
