use Rattle.std.proofs.Common.{◌≡◌, length}
use Rattle.ca_program.specs.View.{program_view}
use Rattle.ca_plan.specs.clauses.Keeping.{AreKept}
use Rattle.ca_plan.specs.Told.{shared}
use Rattle.ca_plan.proofs.Judgements.{AreJudged}
use Rattle.ca_plan.proofs.judging.judged_ops.Given as goal

abbrev pub invariant-loop-n : goal.invariant-loop-n
invariant-loop-n l = record {
  as_many : length l.ops.items ≡ l.n;
  each : AreJudged (program_view l.program) (shared l.ops.items);
  kept : AreKept (program_view l.program) l.kept;
}
