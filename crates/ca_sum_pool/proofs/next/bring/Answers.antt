use Rattle.std.proofs.Common.{sym, ap, subst, arith}
use Rattle.ca_model.proofs.Stores.{found}
use Rattle.ca_meaning.specs.Multisets.{weight}
use Rattle.ca_deques.specs.Settings.{Fits, AllFit}
use Rattle.ca_deques.proofs.Grown.{grown_fit, grown_weight, one_fits}
use Rattle.ca_sum_pool.proofs.Begun.{begun_last, call_fits}
use Rattle.ca_sum_pool.proofs.next.bring.Goals as goal

pub returns-then-keep-clause-moved : goal.returns-then-keep-clause-moved
returns-then-keep-clause-moved c =
    let calls = c.args.listed.now in
    let q = c.keep.ensures.added c.if-keep.true in
    let there = found calls _ c.index-listed-place.result (omega (arith, c.if-place-at.false, c.if-listed-place.false)) c.index-listed-place.is in
    λ h. omega (arith, begun_last h calls c.args.at c.args.end.now _ (omega (arith, c.if-place-at.false)) there, grown_weight _ _ _ q h, ap h c.in-Ok.ensures)

pub returns-then-keep-clause-fits : goal.returns-then-keep-clause-fits
returns-then-keep-clause-fits c =
    let calls = c.args.listed.now in
    let q = c.keep.ensures.added c.if-keep.true in
    let there = found calls _ c.index-listed-place.result (omega (arith, c.if-place-at.false, c.if-listed-place.false)) c.index-listed-place.is in
    λ s all old. grown_fit s _ _ _ q old (one_fits s _ (subst (Fits s) (sym c.in-Ok.ensures) (call_fits s calls _ _ all there)))

pub returns-clause-moved : goal.returns-clause-moved
returns-clause-moved c = λ h. omega (arith, ap (weight h) (c.keep.ensures.lost c.if-keep.false))

pub returns-clause-fits : goal.returns-clause-fits
returns-clause-fits c = λ s all old. subst (AllFit s) (sym (c.keep.ensures.lost c.if-keep.false)) old
