use Rattle.std.proofs.Common.{◌↔◌, true, subst}
use Rattle.std.specs.Prelude.{IsTrue}
use Rattle.ca_program.specs.View.{program_view, statement_view}
use Rattle.ca_parallel.specs.Separable.{IsSeparated}
use Rattle.ca_plan.specs.Plans.{Judged}
use Rattle.ca_plan.specs.Told.{AllCommute}
use Rattle.ca_plan.proofs.Tested.{given, not_given}
use Rattle.ca_plan.proofs.marking.note_loop.Goals as goal

pub returns-in_ok-push : goal.returns-in_ok-push
returns-in_ok-push c =
    let decided = subst (λ (j : Judged). IsTrue c.in_ok-marked.marked ↔ (AllCommute j × IsSeparated (program_view c.args.program.now) j.extent.written true (statement_view c.args.s.now))) c.judged.ensures c.in_ok-marked.ensures in
    given c.in_ok-marked.marked _ _ c.args.judged.now.site.0 decided c.if-marked.true (rw c.site.ensures at c.in_ok-push.ensures.items)

pub returns-else-marked : goal.returns-else-marked
returns-else-marked c =
    let decided = subst (λ (j : Judged). IsTrue c.in_ok-marked.marked ↔ (AllCommute j × IsSeparated (program_view c.args.program.now) j.extent.written true (statement_view c.args.s.now))) c.judged.ensures c.in_ok-marked.ensures in
    not_given c.in_ok-marked.marked _ c.args.judged.now.site.0 decided c.if-marked.false
