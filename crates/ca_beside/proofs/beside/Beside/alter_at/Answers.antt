use Rattle.std.proofs.Common.{◌<◌, length, sym, ap, ◌∙◌, arith}
use Rattle.ca_model.proofs.Stores.{found}
use Rattle.ca_beside.proofs.Altering.{altered_at}
use Rattle.ca_beside.proofs.beside.Beside.alter_at.Goals as goal

pub returns : goal.returns
returns g c =
    let cs = c.self.inside.changed.items in
    let place = c.args.place in
    let many = ap length c.self.view_is in
    altered_at (g.C.Change.makes c.args.change.now) c.self.inside.index.items cs c.args.self.now place c.index_mut-changed.result.now c.apply.new.object
    c.self.invariant c.self.view_is (found cs place c.index_mut-changed.result.now (omega (arith, c.requires, many)) c.index_mut-changed.ensures.value) c.apply.ensures
