use Rattle.std.proofs.Common.{◌≤◌, ◌++◌, length, min, false, sym, ap, ◌∙◌, append-nil, arith}
use Rattle.std.proofs.lemmas.Option.{slice_get-get_or}
use Rattle.ca_emit.proofs.Picking.{one_picked, all_picked}
use Rattle.ca_emit.proofs.sites.add_picked.Goals as goal

pub loop-i-preserved : goal.loop-i-preserved
loop-i-preserved c =
    let ats = c.args.places.now in
    let bs = c.args.flags.now in
    let i = c.loop-i.i in
    one_picked ats bs i _ _ (slice_get-get_or ats i (record { line = 0; column = 0 }) (omega (arith, c.min-count.ensures))) (slice_get-get_or bs i false (omega (arith, c.min-count.ensures))) _ _ _ c.loop-i.invariant c.in_ok-add_place.ensures

pub returns : goal.returns
returns c =
    let past : min (length c.args.places.now) (length c.args.flags.now) ≤ c.loop-i.i = omega (arith, c.min-count.ensures) in
    sym (append-nil c.loop-i.out.items) ∙ (ap (λ z. c.loop-i.out.items ++ z) (sym (all_picked c.args.places.now c.args.flags.now c.loop-i.i past)) ∙ c.loop-i.invariant)
