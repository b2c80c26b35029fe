use Rattle.ca_program.specs.View.{program_view}
use Rattle.ca_plan.specs.clauses.Keeping.{AllFit}
use Rattle.ca_plan.proofs.Telling.{TellingWith}
use Rattle.ca_plan.proofs.pairs.add_pairs_with.Given as goal

abbrev pub invariant-loop-b : goal.invariant-loop-b
invariant-loop-b l = record {
  told : TellingWith (program_view l.program) l.extent l.initial.out.items l.out.items l.a l.others l.b-index;
  known : AllFit (program_view l.program) l.known.slots.items;
}
