use Rattle.std.proofs.Common.{◌≡◌, ◌∙◌, false}
use Rattle.ca_tree.specs.View as of_tree
use Rattle.ca_program.specs.View as of_program
use Rattle.ca_emit.specs.Annotations.{sites_of_all, run_parallel}
use Rattle.ca_emit.proofs.sites.add_parallel.Goals as goal

pub returns : goal.returns
returns c =
    let ats : c.deref.result.now ≡ sites_of_all (of_tree.statements_view c.args.nodes.now) = c.deref.ensures.value ∙ (rw c.new-places.ensures.items at c.in_ok-add_all_sites.ensures) in
    let flags : c.deref-2.result.now ≡ run_parallel c.args.marks.now false (of_program.statements_view c.args.stmts.now) = c.deref-2.ensures.value ∙ (rw c.new-flags.ensures.items at c.in_ok-add_all_flags.ensures) in
    rw (ats, flags) at c.add_picked.ensures
