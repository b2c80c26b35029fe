use Rattle.ca_tree.specs.View.{tree_view}
use Rattle.ca_program.specs.View.{program_view}
use Rattle.ca_canonical.proofs.Program.{erased}
use Rattle.ca_emit.specs.Annotations.{has_place, locked_bodies, marking_by, parallel_bodies, parallel_sites, place_in}
use Rattle.ca_emit.proofs.Emitted.{same_marks, nothing_before, text_is, erased_of}
use Rattle.ca_emit.proofs.Locked.{kept_text}
use Rattle.ca_emit.proofs.Marked.{marked_text}
use Rattle.ca_emit.proofs.emitting.emit.Goals as goal

pub returns-clause-text : goal.returns-clause-text
returns-clause-text c =
    let t = tree_view c.args.tree.now in
    let m = c.in_ok-marked.marked in
    let plan = c.args.plan.now in
    let p = program_view c.args.program.now in
    text_is (λ v. v.items) c.annotate.result _ _
    (same_marks t (has_place m.locked) (has_place m.parallel) (has_place m.sites) (place_in (locked_bodies p plan t)) (place_in (parallel_bodies plan t)) (place_in (parallel_sites p plan t))
    c.in_ok-marked.ensures.locked c.in_ok-marked.ensures.parallel c.in_ok-marked.ensures.sites)
    c.annotate.ensures

pub returns-clause-erased : goal.returns-clause-erased
returns-clause-erased c = λ text tokens lexed derived.
    let t = tree_view c.args.tree.now in
    let m = c.in_ok-marked.marked in
    erased_of (λ v. v.items) c.annotate.result _ _
    (erased text tokens t (marking_by (has_place m.locked) (has_place m.parallel) (has_place m.sites)) lexed derived (nothing_before (has_place m.locked) (has_place m.parallel) (has_place m.sites)))
    c.annotate.ensures

pub returns-clause-locks : goal.returns-clause-locks
returns-clause-locks c = λ is checked sound.
    kept_text (program_view c.args.program.now) c.args.plan.now is checked (λ v. v.items) c.annotate.result (tree_view c.args.tree.now) sound (returns-clause-text c)

pub returns-clause-sites : goal.returns-clause-sites
returns-clause-sites c = λ resolves is apart.
    marked_text (program_view c.args.program.now) c.args.plan.now (tree_view c.args.tree.now) resolves is apart (λ v. v.items) c.annotate.result (returns-clause-text c)
