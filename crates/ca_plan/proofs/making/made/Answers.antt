use Rattle.std.proofs.Common.{◌≡◌, length, sym, ap, ◌∙◌}
use Rattle.std.specs.Borrow.{Bor}
use Rattle.std.proofs.lemmas.List.{length-map}
use Rattle.ca_program.specs.declared.program.Stmt.{Stmt}
use Rattle.ca_program.specs.View.{program_view, statement_view}
use Rattle.ca_parallel.specs.Marks.{loops_of_program}
use Rattle.ca_plan.specs.clauses.Loops.{seen}
use Rattle.ca_plan.specs.Plans.{call_loops}
use Rattle.ca_plan.specs.Told.{shared}
use Rattle.ca_plan.proofs.Made.{AreLoops, AreMarks, is_plan, all_told, are_ops, are_loops, are_marks, each_is}
use Rattle.ca_plan.proofs.making.made.Goals as goal

pub judged_ops-requires : goal.judged_ops-requires
judged_ops-requires c = c.in_ok-kept.ensures

pub judged_loops-requires-clause-form : goal.judged_loops-requires-clause-form
judged_loops-requires-clause-form c =
    let loops : seen c.deref.result.now ≡ call_loops (program_view c.args.program.now) = ap seen c.deref.ensures.value ∙ c.in_ok-found.ensures in
    each_is (loops_of_program (program_view c.args.program.now)) (seen c.deref.result.now) loops

pub returns-clause-exact : goal.returns-clause-exact
returns-clause-exact c =
    let p = program_view c.args.program.now in
    let first : seen c.deref.result.now ≡ call_loops p = ap seen c.deref.ensures.value ∙ c.in_ok-found.ensures in
    let again : seen c.deref-3.result.now ≡ call_loops p = ap seen c.deref-3.ensures.value ∙ c.in_ok-found.ensures in
    let ops = are_ops c.args.program.now c.in_ok-ops.ops.items c.in_ok-ops.ensures.as_many c.in_ok-ops.ensures.each in
    let many : length c.deref.result.now ≡ length (seen c.deref.result.now) = sym (length-map c.deref.result.now (λ (x : Bor Stmt). statement_view x.now)) in
    let loops : AreLoops p c.in_ok-loops.loops.items = are_loops p (seen c.deref.result.now) c.in_ok-loops.loops.items _ first c.in_ok-loops.ensures.as_many many c.in_ok-loops.ensures.each c.in_ok-loops.ensures.told in
    let marks : AreMarks p (shared c.in_ok-ops.ops.items) c.in_ok-loops.loops.items c.in_ok-marked.marked.items c.in_ok-sites.sites.items =
    are_marks p (shared c.in_ok-ops.ops.items) (seen c.deref-3.result.now) c.in_ok-loops.loops.items c.in_ok-marked.marked.items c.in_ok-sites.sites.items again
    (rw c.deref-2.ensures.value at c.in_ok-marked.ensures.marked) c.in_ok-marked.ensures.rise (rw c.deref-4.ensures.value at c.in_ok-sites.ensures.marked) c.in_ok-sites.ensures.rise in
    is_plan p (shared c.in_ok-ops.ops.items) c.in_ok-loops.loops.items c.in_ok-marked.marked.items c.in_ok-sites.sites.items ops loops marks

pub returns-clause-told : goal.returns-clause-told
returns-clause-told c =
    let p = program_view c.args.program.now in
    let first : seen c.deref.result.now ≡ call_loops p = ap seen c.deref.ensures.value ∙ c.in_ok-found.ensures in
    let many : length c.deref.result.now ≡ length (seen c.deref.result.now) = sym (length-map c.deref.result.now (λ (x : Bor Stmt). statement_view x.now)) in
    let loops : AreLoops p c.in_ok-loops.loops.items = are_loops p (seen c.deref.result.now) c.in_ok-loops.loops.items _ first c.in_ok-loops.ensures.as_many many c.in_ok-loops.ensures.each c.in_ok-loops.ensures.told in
    all_told p (shared c.in_ok-ops.ops.items) c.in_ok-loops.loops.items c.in_ok-marked.marked.items c.in_ok-sites.sites.items (are_ops c.args.program.now c.in_ok-ops.ops.items c.in_ok-ops.ensures.as_many c.in_ok-ops.ensures.each) loops
