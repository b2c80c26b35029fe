use Rattle.std.proofs.Common.{◌≡◌, length}
use Rattle.ca_program.specs.View.{program_view}
use Rattle.ca_plan.specs.clauses.Keeping.{AreKept}
use Rattle.ca_plan.specs.clauses.Loops.{seen}
use Rattle.ca_plan.proofs.Judgements.{AreJudgedLoops, LoopsTold}
use Rattle.ca_plan.proofs.judging.judged_loops.Given as goal

abbrev pub invariant-loop-n : goal.invariant-loop-n
invariant-loop-n l = record {
  as_many : length l.judged.items ≡ l.n;
  each : AreJudgedLoops (program_view l.program) (seen l.loops) l.judged.items;
  told : LoopsTold (program_view l.program) l.judged.items;
  kept : AreKept (program_view l.program) l.kept;
}
