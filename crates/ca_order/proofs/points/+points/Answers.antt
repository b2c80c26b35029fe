use Rattle.std.proofs.Common.{◌≡◌, List, map, sym, ap, ◌∙◌}
use Rattle.ca_norm.specs.Terms.{PlainTerm, result, shape, terms_of}
use Rattle.ca_norm.proofs.Shapes.{call_is}
use Rattle.ca_forms.proofs.Told.{on_ok}
use Rattle.ca_order.specs.declared.point.Point.{Point}
use Rattle.ca_order.specs.clauses.Added.{added, added_all}
use Rattle.ca_order.proofs.points.+points.Goals as goal

pub add_points-returns-in_ok-add_all-in-Result : goal.add_points-returns-in_ok-add_all-in-Result
add_points-returns-in_ok-add_all-in-Result t c =
    let ts : List PlainTerm = map shape c.in-Result.args.items in
    let new : List Point = c.add_points-in-Result.new.set.keys in
    let old : List Point = c.args.set.now.keys in
    let p : PlainTerm = shape c.in-Result.p.value in
    let args : c.add_all.new.set.keys ≡ added_all (terms_of ts) old = c.in_ok-add_all-in-Result.ensures ∙ ap (λ z. added_all (terms_of (map shape z)) old) c.as_slice.ensures.value in
    let whole : added p (added_all (terms_of ts) old) ≡ added (shape c.args.term.now) old = ap (λ z. added z old) (sym (call_is c.in-Result.field-0 c.in-Result.field-1 c.in-Result.p c.in-Result.args) ∙ sym (ap shape c.in-Result.is)) in
    on_ok c.add_points-in-Result.result _ _
    (λ (e : new ≡ added (shape c.deref-in-Result.result.now) c.add_all.new.set.keys). e ∙ ap (λ z. added (shape z) c.add_all.new.set.keys) c.deref-in-Result.ensures ∙ ap (added p) args ∙ whole)
    c.add_points-in-Result.ensures
