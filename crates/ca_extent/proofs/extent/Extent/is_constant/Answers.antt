use Rattle.std.proofs.Common.{◌≡◌, ◌≤◌, length, take, refl, ap, arith}
use Rattle.std.proofs.lemmas.List.{take_all}
use Rattle.ca_parallel.specs.Extents.{Extent}
use Rattle.ca_extent.proofs.extent.Extent.is_constant.Goals as goal

pub returns : goal.returns
returns c =
    let view = ap (λ (x : Extent). x.written) c.self.view_is in
    let e : c.deref-f-items.result.now ≡ c.args.self.now.written = cc view in
    let h : length c.args.self.now.written ≤ c.loop-f.f-index = omega (arith, ap length e) in
    let all : take c.loop-f.f-index c.args.self.now.written ≡ c.args.self.now.written = take_all _ _ h in
    (λ t k. c.loop-f.invariant (rw all k), λ n. refl)
