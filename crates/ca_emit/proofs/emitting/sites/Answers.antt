use Rattle.std.proofs.Common.{◌≡◌, ◌++◌, false, refl, sym, ap, ◌∙◌, arith, append-nil}
use Rattle.ca_tree.specs.View.{method_view, tree_view}
use Rattle.ca_program.specs.View.{program_view}
use Rattle.ca_emit.specs.Annotations.{sites_from, sites_in, sites_of_method}
use Rattle.ca_emit.specs.clauses.Seen.{methods_seen}
use Rattle.ca_emit.proofs.Picking.{one_at, method_at, none_behind}
use Rattle.ca_emit.proofs.emitting.sites.Goals as goal

pub loop-n-init : goal.loop-n-init
loop-n-init c = rw c.new-places.ensures.items refl

pub loop-n-preserved : goal.loop-n-preserved
loop-n-preserved c =
    let p = program_view c.args.program.now in
    let ms = c.args.marks.now in
    let ops = c.args.parallel.now in
    let m = c.index-methods-n.result in
    one_at (sites_from p ms ops) (sites_of_method p ms ops) (λ n x xs. refl) (methods_seen c.args.methods.now) c.loop-n.n (method_view m.now)
    (method_at c.args.methods.now c.loop-n.n m (omega arith) c.index-methods-n.is) _ _ _ c.loop-n.invariant c.in_ok-add_sites_in.ensures

pub returns : goal.returns
returns c =
    let p = program_view c.args.program.now in
    let ms = c.args.marks.now in
    let ops = c.args.parallel.now in
    let all : c.loop-n.places.items ≡ sites_from p ms ops 0 (methods_seen c.args.methods.now) =
    sym (append-nil _) ∙ (ap (λ z. c.loop-n.places.items ++ z) (sym (none_behind (sites_from p ms ops) (λ n. refl) c.args.methods.now c.loop-n.n (omega arith))) ∙ c.loop-n.invariant) in
    (rw (c.deref.ensures.value, c.deref-2.ensures.value) at c.in_ok-add_parallel.ensures)
    ∙ (ap (λ z. z ++ sites_in ms false (tree_view c.args.tree.now).main p.main.statements) all
    ∙ ap (λ z. sites_from p ms ops 0 z ++ sites_in ms false (tree_view c.args.tree.now).main p.main.statements) c.requires)
