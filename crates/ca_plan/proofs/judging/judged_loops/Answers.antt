use Rattle.std.proofs.Common.{◌≡◌, [], ◌∷◌, length, Some, arith, ap, length-append}
use Rattle.std.specs.Prelude.{slice_get}
use Rattle.ca_program.specs.View.{program_view, statement_view}
use Rattle.ca_plan.specs.clauses.Loops.{seen}
use Rattle.ca_plan.proofs.Judgements.{more_loops, more_told, none_at, seen_at}
use Rattle.ca_plan.proofs.judging.judged_loops.Goals as goal

pub loop-n-init : goal.loop-n-init
loop-n-init c = record {
  as_many = ap length c.new-judged.ensures.items;
  each = λ n s l e f. absurd (none_at _ c.new-judged.ensures.items n l f);
  told = λ n l e. absurd (none_at _ c.new-judged.ensures.items n l e);
  kept = c.requires.told;
}

pub judged_loop-requires-clause-told : goal.judged_loop-requires-clause-told
judged_loop-requires-clause-told c = c.loop-n.invariant.kept

pub judged_loop-requires-clause-form : goal.judged_loop-requires-clause-form
judged_loop-requires-clause-form c = c.requires.form c.loop-n.n _ (seen_at c.args.loops.now c.loop-n.n c.index-loops-n.result (omega arith) c.index-loops-n.is)

pub loop-n-preserved : goal.loop-n-preserved
loop-n-preserved c =
    let stands : slice_get (seen c.args.loops.now) c.loop-n.n ≡ Some (statement_view c.index-loops-n.result.now) = seen_at c.args.loops.now c.loop-n.n c.index-loops-n.result (omega arith) c.index-loops-n.is in
    record {
      as_many = omega (arith, ap length c.in_ok-push.ensures.items, length-append c.loop-n.judged.items (c.in_ok-one.one ∷ []), c.loop-n.invariant.as_many);
      each = more_loops (program_view c.args.program.now) (seen c.args.loops.now) c.loop-n.judged.items _ c.in_ok-one.one c.loop-n.n _ c.in_ok-push.ensures.items c.loop-n.invariant.as_many stands c.loop-n.invariant.each c.in_ok-one.ensures.judged;
      told = more_told (program_view c.args.program.now) c.loop-n.judged.items _ c.in_ok-one.one c.in_ok-push.ensures.items c.loop-n.invariant.told c.in_ok-one.ensures.told;
      kept = c.in_ok-one.ensures.kept;
    }
