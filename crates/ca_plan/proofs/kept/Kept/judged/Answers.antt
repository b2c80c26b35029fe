use Rattle.std.proofs.Common.{sym, subst}
use Rattle.ca_program.specs.View.{program_view}
use Rattle.ca_parallel.specs.ExtentsOf.{ExtentOf}
use Rattle.ca_plan.specs.Plans.{Judged}
use Rattle.ca_plan.specs.Told.{WhollyTold}
use Rattle.ca_plan.proofs.Keeping.{same_extent}
use Rattle.ca_plan.proofs.Telling.{wholly}
use Rattle.ca_plan.proofs.kept.Kept.judged.Goals as goal

pub returns-in-Some-clause-extent : goal.returns-in-Some-clause-extent
returns-in-Some-clause-extent c =
    let kept = c.requires.extents c.in-Some.judged.value (rw c.in-Some.is at c.in_ok-found.ensures.kept) in
    same_extent (program_view c.args.program.now) c.args.roots.now kept.roots c.in_ok-extent.extent c.in-Some.judged.value.extent (rw c.in-Some.is at c.in_ok-found.ensures.extent) c.in_ok-extent.ensures kept.extent

pub returns-in-Some-clause-told : goal.returns-in-Some-clause-told
returns-in-Some-clause-told c = c.requires.extents c.in-Some.judged.value (rw c.in-Some.is at c.in_ok-found.ensures.kept)

pub returns-in-Some-clause-kept : goal.returns-in-Some-clause-kept
returns-in-Some-clause-kept c = c.requires

pub pairs_of-requires : goal.pairs_of-requires
pairs_of-requires c = c.requires.verdicts

pub returns-in_ok-keep-in-None-clause-extent : goal.returns-in_ok-keep-in-None-clause-extent
returns-in_ok-keep-in-None-clause-extent c =
    subst (λ (j : Judged). ExtentOf (program_view c.args.program.now) c.args.roots.now j.extent) (sym c.in_ok-keep-in-None.ensures.result) c.in_ok-extent.ensures

pub returns-in_ok-keep-in-None-clause-told : goal.returns-in_ok-keep-in-None-clause-told
returns-in_ok-keep-in-None-clause-told c =
    subst (λ (j : Judged). WhollyTold (program_view c.args.program.now) j) (sym c.in_ok-keep-in-None.ensures.result)
    (wholly (program_view c.args.program.now) c.args.roots.now c.in_ok-extent.extent _ c.in_ok-extent.ensures c.in_ok-pairs-in-None.ensures.told)

pub returns-in_ok-keep-in-None-clause-kept : goal.returns-in_ok-keep-in-None-clause-kept
returns-in_ok-keep-in-None-clause-kept c =
    c.in_ok-keep-in-None.ensures.kept (program_view c.args.program.now) (record { extents = c.requires.extents; verdicts = c.in_ok-pairs-in-None.ensures.known })
    (wholly (program_view c.args.program.now) c.args.roots.now c.in_ok-extent.extent _ c.in_ok-extent.ensures c.in_ok-pairs-in-None.ensures.told)
