use Rattle.std.proofs.Common.{sym, ap, ◌∙◌}
use Rattle.std.specs.Prelude.{slice_get}
use Rattle.ca_meaning.specs.Expressions.{one_in}
use Rattle.ca_meaning.specs.Functions.{own_of}
use Rattle.ca_steps.proofs.Loading.{some_by}
use Rattle.ca_replica.specs.Applied.{sums}
use Rattle.ca_replica.proofs.in_place.InReplicaAccess.own.Goals as goal

pub returns-in-Some : goal.returns-in-Some
returns-in-Some g c =
    let s = c.args.self.now in
    let h = sums s.ground.extent.now.written s.ground.frozen.now s.copies.now in
    some_by _ _ c.told_at_once-told.result
    (λ v e past bs fits. ap (λ w. one_in (slice_get (own_of h w) c.args.f.field)) c.in-Ref.is ∙ e s.copies.now s.olds.now fits)
    c.told_at_once-told.ensures

pub returns-in-None : goal.returns-in-None
returns-in-None g c =
    let s = c.args.self.now in
    let h = sums s.ground.extent.now.written s.ground.frozen.now s.copies.now in
    λ past bs fits. ap (λ v. one_in (slice_get (own_of h v) c.args.f.field)) c.in-Ref.is ∙ sym (c.own_slowly.ensures s.olds.now fits)

pub returns-in-Null : goal.returns-in-Null
returns-in-Null g c =
    let s = c.args.self.now in
    let h = sums s.ground.extent.now.written s.ground.frozen.now s.copies.now in
    λ past bs fits. ap (λ v. one_in (slice_get (own_of h v) c.args.f.field)) c.in-Null.is

pub returns-in-Long : goal.returns-in-Long
returns-in-Long g c =
    let s = c.args.self.now in
    let h = sums s.ground.extent.now.written s.ground.frozen.now s.copies.now in
    λ past bs fits. ap (λ v. one_in (slice_get (own_of h v) c.args.f.field)) c.in-Long.is

pub returns-in-Bool : goal.returns-in-Bool
returns-in-Bool g c =
    let s = c.args.self.now in
    let h = sums s.ground.extent.now.written s.ground.frozen.now s.copies.now in
    λ past bs fits. ap (λ v. one_in (slice_get (own_of h v) c.args.f.field)) c.in-Bool.is
