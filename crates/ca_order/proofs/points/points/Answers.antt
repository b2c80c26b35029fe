use Rattle.std.proofs.Common.{◌≡◌, ap, ◌∙◌, subst, IfOk, List}
use Rattle.ca_norm.specs.Terms.{shape}
use Rattle.ca_order.specs.declared.point.Point.{Point}
use Rattle.ca_order.specs.clauses.Added.{added}
use Rattle.ca_order.proofs.Putting.{points_are}
use Rattle.ca_order.proofs.points.points.Goals as goal

pub returns : goal.returns
returns c =
    subst (λ (z : List Point). IfOk c.listed.result (λ v. v.items ≡ z))
    (c.in_ok-add_points-2.ensures ∙ ap (added (shape c.args.first.now)) (c.in_ok-add_points.ensures ∙ ap (added (shape c.args.second.now)) c.new-set.ensures.empty) ∙ points_are (shape c.args.first.now) (shape c.args.second.now))
    c.listed.ensures
