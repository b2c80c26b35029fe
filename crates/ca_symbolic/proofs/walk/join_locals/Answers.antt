use Rattle.std.proofs.Common.{◌≡◌, ℕ, ◌<◌, List, IfOk, length, min, sym, ◌∙◌, subst, arith}
use Rattle.ca_program.specs.View.{statement_view}
use Rattle.ca_norm.specs.Terms.{PlainTerm}
use Rattle.ca_symbolic.specs.Execution.{local_target}
use Rattle.ca_symbolic.specs.clauses.Places.{is_marked, locals_put}
use Rattle.ca_symbolic.proofs.Marks.{made_too, heavy_too, light_too}
use Rattle.ca_symbolic.proofs.Told.{both_long, local_marks}
use Rattle.ca_symbolic.proofs.walk.join_locals.Goals as goal

pub join_terms-requires : goal.join_terms-requires
join_terms-requires c =
    let long : length c.mark_locals-2.new.marks.items ≡ min (length c.args.first.now) (length c.args.second.now) =
    both_long c.min.result c.in_ok-marks.marks.items c.mark_locals.new.marks.items c.mark_locals-2.new.marks.items (locals_put (statement_view c.args.yes.now)) (locals_put (statement_view c.args.no.now))
    c.in_ok-marks.ensures c.mark_locals.ensures c.mark_locals-2.ensures ∙ c.min.ensures in
    record { long = rw c.deref.ensures.value long }

pub returns-clause-made : goal.returns-clause-made
returns-clause-made c =
    let a = statement_view c.args.yes.now in
    let b = statement_view c.args.no.now in
    let ms = c.mark_locals-2.new.marks.items in
    let same : (n : ℕ) → n < min (length c.args.first.now) (length c.args.second.now) → is_marked ms n ≡ local_target a b n =
    λ n h. local_marks c.min.result c.in_ok-marks.marks.items c.mark_locals.new.marks.items ms a b c.in_ok-marks.ensures c.mark_locals.ensures c.mark_locals-2.ensures n (omega (arith, h, c.min.ensures)) in
    subst (λ (ts : List PlainTerm). IfOk c.join_terms.result (λ v. v.items ≡ ts)) (made_too ms (local_target a b) c.args.condition.now c.args.first.now c.args.second.now same)
    (rw c.deref.ensures.value at c.join_terms.ensures.made)

pub returns-clause-light : goal.returns-clause-light
returns-clause-light c =
    let a = statement_view c.args.yes.now in
    let b = statement_view c.args.no.now in
    let ms = c.mark_locals-2.new.marks.items in
    let same : (n : ℕ) → n < min (length c.args.first.now) (length c.args.second.now) → is_marked ms n ≡ local_target a b n =
    λ n h. local_marks c.min.result c.in_ok-marks.marks.items c.mark_locals.new.marks.items ms a b c.in_ok-marks.ensures c.mark_locals.ensures c.mark_locals-2.ensures n (omega (arith, h, c.min.ensures)) in
    light_too ms (local_target a b) c.args.condition.now c.args.first.now c.args.second.now same c.join_terms.result (λ v. v.items)
    (rw c.deref.ensures.value at c.join_terms.ensures.made) (rw c.deref.ensures.value at c.join_terms.ensures.light)

pub returns-clause-large : goal.returns-clause-large
returns-clause-large c =
    let a = statement_view c.args.yes.now in
    let b = statement_view c.args.no.now in
    let ms = c.mark_locals-2.new.marks.items in
    let same : (n : ℕ) → n < min (length c.args.first.now) (length c.args.second.now) → is_marked ms n ≡ local_target a b n =
    λ n h. local_marks c.min.result c.in_ok-marks.marks.items c.mark_locals.new.marks.items ms a b c.in_ok-marks.ensures c.mark_locals.ensures c.mark_locals-2.ensures n (omega (arith, h, c.min.ensures)) in
    λ e. sym (heavy_too ms (local_target a b) c.args.condition.now c.args.first.now c.args.second.now same) ∙ (rw c.deref.ensures.value at c.join_terms.ensures.large) e
