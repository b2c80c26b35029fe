use Rattle.std.proofs.Common.{◌≡◌, ℕ, List, Some, sym, subst, arith}
use Rattle.std.specs.Prelude.{slice_get}
use Rattle.ca_program.specs.View.{program_view, statement_view}
use Rattle.ca_model.proofs.Stores.{found}
use Rattle.ca_plan.specs.clauses.Loops.{seen}
use Rattle.ca_plan.proofs.Judgements.{seen_at}
use Rattle.ca_plan.proofs.Chosen.{SitesTo, no_sites, next_site, all_sites}
use Rattle.ca_plan.proofs.marking.marked_sites.Goals as goal

pub loop-n-init : goal.loop-n-init
loop-n-init c = subst (λ (ns : List ℕ). SitesTo (program_view c.args.program.now) (seen c.args.loops.now) c.args.judged.now 0 ns) (sym c.new-sites.ensures.items) (no_sites (program_view c.args.program.now) (seen c.args.loops.now) c.args.judged.now)

pub loop-n-preserved : goal.loop-n-preserved
loop-n-preserved c =
    let at : slice_get (seen c.args.loops.now) c.loop-n.n ≡ Some (statement_view c.index-loops-n.result.now) = seen_at c.args.loops.now c.loop-n.n c.index-loops-n.result (omega arith) c.index-loops-n.is in
    let l : slice_get c.args.judged.now c.loop-n.n ≡ Some c.index-judged-n.result = found c.args.judged.now c.loop-n.n c.index-judged-n.result (omega arith) c.index-judged-n.is in
    next_site (program_view c.args.program.now) (seen c.args.loops.now) c.args.judged.now c.loop-n.n _ _ (statement_view c.index-loops-n.result.now) c.index-judged-n.result at l c.in_ok-note_loop.ensures c.loop-n.invariant

pub returns : goal.returns
returns c = all_sites (program_view c.args.program.now) (seen c.args.loops.now) c.args.judged.now c.loop-n.n _ (omega arith) c.loop-n.invariant
