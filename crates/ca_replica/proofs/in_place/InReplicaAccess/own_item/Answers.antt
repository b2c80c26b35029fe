use Rattle.std.proofs.Common.{sym, ap, ◌∙◌, subst, rules, w64}
use mir.Val.{SFits}
use Rattle.std.proofs.lemmas.Int.{to_z-of_z}
use Rattle.std.specs.Prelude.{slice_get}
use Rattle.ca_model.specs.declared.value.Value.TheVariants.{Long}
use Rattle.ca_meaning.specs.Expressions.{indexed, items_in}
use Rattle.ca_meaning.specs.Functions.{own_of}
use Rattle.ca_steps.specs.Telling.{Looks}
use Rattle.ca_steps.proofs.Loading.{none_indexed}
use Rattle.ca_replica.specs.Applied.{sums}
use Rattle.ca_replica.proofs.in_place.InReplicaAccess.own_item.Goals as goal

pub returns-in-Ref : goal.returns-in-Ref
returns-in-Ref g c =
    let s = c.args.self.now in
    let h = sums s.ground.extent.now.written s.ground.frozen.now s.copies.now in
    let small : SFits w64 c.args.index = search rules in
    λ past bs line k fits. subst (λ v. Looks line (slice_get (own_of h v) c.args.f.field) c.args.index k c.own_look.result) (sym c.in-Ref.is) (rw (to_z-of_z w64 c.args.index small) at (c.own_look.ensures s.copies.now s.olds.now fits line k))

pub returns-in-Null : goal.returns-in-Null
returns-in-Null g c =
    let s = c.args.self.now in
    let h = sums s.ground.extent.now.written s.ground.frozen.now s.copies.now in
    λ past bs line k fits. ap (λ v. indexed line (items_in (slice_get (own_of h v) c.args.f.field)) (Long c.args.index) k) c.in-Null.is ∙ none_indexed line k c.args.index

pub returns-in-Long : goal.returns-in-Long
returns-in-Long g c =
    let s = c.args.self.now in
    let h = sums s.ground.extent.now.written s.ground.frozen.now s.copies.now in
    λ past bs line k fits. ap (λ v. indexed line (items_in (slice_get (own_of h v) c.args.f.field)) (Long c.args.index) k) c.in-Long.is ∙ none_indexed line k c.args.index

pub returns-in-Bool : goal.returns-in-Bool
returns-in-Bool g c =
    let s = c.args.self.now in
    let h = sums s.ground.extent.now.written s.ground.frozen.now s.copies.now in
    λ past bs line k fits. ap (λ v. indexed line (items_in (slice_get (own_of h v) c.args.f.field)) (Long c.args.index) k) c.in-Bool.is ∙ none_indexed line k c.args.index
