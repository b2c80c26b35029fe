use Rattle.ca_program.specs.View.{program_view}
use Rattle.ca_plan.specs.clauses.Loops.{seen}
use Rattle.ca_plan.proofs.Chosen.{SitesTo}
use Rattle.ca_plan.proofs.marking.marked_sites.Given as goal

abbrev pub invariant-loop-n : goal.invariant-loop-n
invariant-loop-n l = SitesTo (program_view l.program) (seen l.loops) l.judged l.n l.sites.items
