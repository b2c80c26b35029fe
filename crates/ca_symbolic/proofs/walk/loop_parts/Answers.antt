use Rattle.std.proofs.Common.{arith, refl, ◌≡◌, false, ◌&&◌, length, replicate, ap, ◌∙◌}
use Rattle.std.specs.List.{list_any}
use Rattle.ca_program.specs.View.{statement_view}
use Rattle.ca_meaning.specs.Operators.{not_of}
use Rattle.ca_symbolic.specs.Demands.{is_counter, picked}
use Rattle.ca_symbolic.specs.clauses.Places.{is_marked, is_read, marked, locals_named}
use Rattle.ca_shared_terms.specs.Heavy.{is_heavy}
use Rattle.ca_symbolic.proofs.Joining.{picked_step, all_made}
use Rattle.ca_symbolic.proofs.Marks.{among, so_long}
use Rattle.ca_symbolic.proofs.walk.loop_parts.Goals as goal

pub loop-place-preserved : goal.loop-place-preserved
loop-place-preserved c =
    let n = c.loop-place.place in
    let count = length c.args.locals.now in
    let s = statement_view c.args.s.now in
    let first = statement_view c.args.first.now in
    let marks : c.mark_named.new.marks.items ≡ marked (replicate count false) (locals_named s) = c.mark_named.ensures ∙ ap (λ m. marked m (locals_named s)) c.in_ok-marks.ensures in
    let named : c.is_marked.result ≡ is_marked c.mark_named.new.marks.items n = rw c.deref.ensures.value at c.is_marked.ensures in
    let told : c.is_read-is_added.result ≡ is_read s first n =
    c.is_read-is_added.ensures ∙ ap (λ b. not_of (is_counter first n) && b) (named ∙ (ap (λ m. is_marked m n) marks ∙ among count (locals_named s) n c.loop-place-test.true)) in
    let light : list_any is_heavy c.add_if.new.out.items ≡ false = c.in_ok-add_if.ensures.light c.loop-place.invariant.1 in (
      picked_step (is_read s first) c.args.locals.now n c.loop-place.parts.items c.add_if.new.out.items _ c.index-locals-place.result c.is_read-is_added.result c.loop-place-test.true c.index-locals-place.is c.loop-place.invariant.0 told c.in_ok-add_if.ensures.added,
      light,
    )

pub is_marked-requires : goal.is_marked-requires
is_marked-requires c =
    let count = length c.args.locals.now in
    let names = locals_named (statement_view c.args.s.now) in
    let marks : c.mark_named.new.marks.items ≡ marked (replicate count false) names = c.mark_named.ensures ∙ ap (λ m. marked m names) c.in_ok-marks.ensures in
    let long : length c.mark_named.new.marks.items ≡ count = ap length marks ∙ so_long count names in
    rw c.deref.ensures.value (omega (arith, long, c.loop-place-test.true))

pub returns-clause-parts : goal.returns-clause-parts
returns-clause-parts c =
    let f = is_read (statement_view c.args.s.now) (statement_view c.args.first.now) in
    all_made c.args.locals.now c.loop-place.place (picked f c.loop-place.place) refl (omega (arith, c.loop-place-test.false)) c.loop-place.parts.items (picked f 0 c.args.locals.now) c.loop-place.invariant.0
