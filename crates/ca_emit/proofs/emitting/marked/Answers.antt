use Rattle.std.proofs.Common.{◌≡◌, List, ap, ◌∙◌}
use Rattle.ca_tree.specs.declared.name.Place.{Place}
use Rattle.ca_tree.specs.View.{tree_view}
use Rattle.ca_program.specs.View.{program_view}
use Rattle.ca_emit.specs.Annotations.{locked_bodies, locked_ops, operations_of, parallel_bodies, parallel_ops, parallel_sites, place_in, place_number}
use Rattle.ca_emit.specs.clauses.Seen.{methods_seen}
use Rattle.ca_emit.proofs.emitting.marked.Goals as goal

pub sites-requires : goal.sites-requires
sites-requires c = ap methods_seen c.deref-6.ensures.value ∙ c.in_ok-methods.ensures

pub returns-clause-locked : goal.returns-clause-locked
returns-clause-locked c = λ at.
    let t = tree_view c.args.tree.now in
    let p = program_view c.args.program.now in
    let ops : c.deref-3.result.now ≡ locked_ops p c.args.plan.now = c.deref-3.ensures.value ∙ c.in_ok-locked_ops.ensures in
    let methods : methods_seen c.deref-4.result.now ≡ operations_of t.classes = ap methods_seen c.deref-4.ensures.value ∙ c.in_ok-methods.ensures in
    let named : c.deref-7.result.now ≡ locked_bodies p c.args.plan.now t = c.deref-7.ensures.value ∙ (rw (ops, methods) at c.in_ok-taking.ensures) in
    c.in_ok-locked.ensures (place_number at) ∙ ap (λ (ps : List Place). place_in ps at) named

pub returns-clause-parallel : goal.returns-clause-parallel
returns-clause-parallel c = λ at.
    let t = tree_view c.args.tree.now in
    let ops : c.deref.result.now ≡ parallel_ops c.args.plan.now = c.deref.ensures.value ∙ c.in_ok-parallel_ops.ensures in
    let methods : methods_seen c.deref-2.result.now ≡ operations_of t.classes = ap methods_seen c.deref-2.ensures.value ∙ c.in_ok-methods.ensures in
    let named : c.deref-8.result.now ≡ parallel_bodies c.args.plan.now t = c.deref-8.ensures.value ∙ (rw (ops, methods) at c.in_ok-named.ensures) in
    c.in_ok-parallel.ensures (place_number at) ∙ ap (λ (ps : List Place). place_in ps at) named

pub returns-clause-sites : goal.returns-clause-sites
returns-clause-sites c = λ at.
    let t = tree_view c.args.tree.now in
    let ops : c.deref-5.result.now ≡ parallel_ops c.args.plan.now = c.deref-5.ensures.value ∙ c.in_ok-parallel_ops.ensures in
    let called : c.deref-9.result.now ≡ parallel_sites (program_view c.args.program.now) c.args.plan.now t = c.deref-9.ensures.value ∙ (rw (ops, c.marks.ensures) at c.in_ok-called.ensures) in
    c.in_ok-sites.ensures (place_number at) ∙ ap (λ (ps : List Place). place_in ps at) called
