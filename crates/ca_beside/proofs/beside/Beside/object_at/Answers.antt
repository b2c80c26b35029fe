use Rattle.std.proofs.Common.{◌≡◌, length, Some, sym, ap, subst, arith}
use Rattle.std.specs.Prelude.{slice_get}
use Rattle.ca_model.proofs.Stores.{found}
use Rattle.ca_beside.specs.declared.beside.Changed.{Changed}
use Rattle.ca_beside.proofs.Present.{same_some}
use Rattle.ca_beside.proofs.beside.Beside.object_at.Goals as goal

pub returns : goal.returns
returns c = λ d there.
    let cs = c.self.inside.changed.items in
    let place = c.args.place in
    let r = c.index.result.now in
    let many = ap length c.self.view_is in
    let here : slice_get cs place ≡ Some r = found cs place r (omega (arith, c.requires, many)) c.index.ensures in
    ap (λ (z : Changed). z.object) (same_some (slice_get cs place) r d here (subst (λ ds. slice_get ds place ≡ Some d) (sym c.self.view_is) there))
