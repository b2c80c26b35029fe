use Rattle.std.proofs.Common.{[]}
use Rattle.ca_program.specs.View.{program_view}
use Rattle.ca_plan.specs.clauses.Keeping.{AllFit}
use Rattle.ca_plan.proofs.Telling.{TellingIn}
use Rattle.ca_plan.proofs.pairs.pairs_of.Given as goal

abbrev pub invariant-loop-i : goal.invariant-loop-i
invariant-loop-i l = record {
  told : TellingIn (program_view l.program) l.extent [] l.pairs.items l.ops l.i;
  known : AllFit (program_view l.program) l.known.slots.items;
}
