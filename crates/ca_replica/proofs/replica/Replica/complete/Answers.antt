use Rattle.std.proofs.Common.{[], ◌∷◌, sym, ap, subst, ◌∙◌}
use Rattle.ca_program.specs.View.{program_view}
use Rattle.ca_parallel.specs.Calls.{RunsTo, invocation_of}
use Rattle.ca_sum_laws.proofs.Calls.{well_typed_there}
use Rattle.ca_sections.specs.InOrder.{CallEnds}
use Rattle.ca_undo.specs.Puts.{restored}
use Rattle.ca_sections.proofs.InOrder.{never_runs, none_ran, one_alone, one_stopped, runs_to}
use Rattle.ca_replica.specs.Applied.{sums}
use Rattle.ca_replica.specs.InPlace.{AllHave, AllWritten}
use Rattle.ca_replica.specs.Zeroed.{zeroed_heap}
use Rattle.ca_replica.proofs.Arrays.{arrays_first}
use Rattle.ca_replica.proofs.InPlace.{classes_first, constants_first}
use Rattle.ca_replica.proofs.replica.Replica.complete.Goals as goal

pub run_whole-requires-clause-program : goal.run_whole-requires-clause-program
run_whole-requires-clause-program g c = c.requires.round.program

pub run_whole-requires-clause-heap : goal.run_whole-requires-clause-heap
run_whole-requires-clause-heap g c = let stands = c.requires.sums in stands.heap

pub run_whole-requires-clause-typed : goal.run_whole-requires-clause-typed
run_whole-requires-clause-typed g c =
    (well_typed_there (program_view c.args.program.now) c.args.extent.now c.args.frozen.now (sums c.args.extent.now.written c.args.frozen.now c.args.self.now.copies) c.requires.sums (invocation_of c.args.op.now ∷ []) (c.requires.typed, tt)).0

pub run_whole-requires-clause-keeps : goal.run_whole-requires-clause-keeps
run_whole-requires-clause-keeps g c =
    let x = c.args.extent.now in
    record {
      marked = c.requires.marks;
      constants = constants_first (program_view c.args.program.now) x c.args.frozen.now (sums x.written c.args.frozen.now c.args.self.now.copies) c.requires.sums;
      classes = classes_first (program_view c.args.program.now) x c.args.frozen.now (sums x.written c.args.frozen.now c.args.self.now.copies) c.requires.sums;
      arrays = arrays_first (program_view c.args.program.now) x c.args.frozen.now c.requires.round;
      there = subst (λ os. AllHave os c.args.self.now.copies) (sym c.forget.ensures) tt;
      puts = subst (AllWritten x.written c.args.frozen.now) (sym c.forget.ensures) tt;
    }

pub put_all_back-requires : goal.put_all_back-requires
put_all_back-requires g c = c.run_whole.ensures.there

pub put_all_back-requires-in-Err : goal.put_all_back-requires-in-Err
put_all_back-requires-in-Err g c = c.run_whole.ensures.there

pub returns-in-Ok-Some : goal.returns-in-Ok-Some
returns-in-Ok-Some g c =
    let p = program_view c.args.program.now in
    let ws = c.args.extent.now.written in
    let frozen = c.args.frozen.now in
    let h = sums ws frozen c.args.self.now.copies in
    let after = sums ws frozen c.run_whole.new.copies in
    let i = invocation_of c.args.op.now in
    let ran = subst (λ o. CallEnds p h i c.args.left after o) c.in-Ok-Some.field-0-is c.in-Ok-Some.ensures.ran in
    record {
      completed = subst (λ n. RunsTo p h (i ∷ []) c.args.left after n) (sym c.saturating_sub-steps.ensures) (runs_to p h after (i ∷ []) c.args.left c.in-Ok-Some.still (one_alone p h after i c.args.left c.in-Ok-Some.still ran));
      once = c.know_apart.ensures;
      kept = tt;
    }

pub returns-in-Ok-None : goal.returns-in-Ok-None
returns-in-Ok-None g c =
    let p = program_view c.args.program.now in
    let x = c.args.extent.now in
    let frozen = c.args.frozen.now in
    let h = sums x.written frozen c.args.self.now.copies in
    let after = sums x.written frozen c.run_whole.new.copies in
    let i = invocation_of c.args.op.now in
    let stands = c.requires.sums in
    let well = well_typed_there p x frozen h stands (i ∷ []) (c.requires.typed, tt) in
    let never = subst (λ o. CallEnds p h i c.args.left after o) c.in-Ok-None.field-0-is c.in-Ok-None.ensures.ran in
    let same = c.put_all_back.ensures (zeroed_heap x.written frozen) ∙ (c.run_whole.ensures.before ∙ ap (λ os. restored os h) c.forget.ensures) in
    record {
      completed = (never_runs p h after (i ∷ []) c.args.left (one_stopped p h h after after i [] (i ∷ []) c.args.left c.args.left (none_ran p h (i ∷ []) c.args.left stands.heap well) never), same);
      once = c.know_apart-in-Ok-None.ensures;
      kept = tt;
    }

pub returns-in-Err : goal.returns-in-Err
returns-in-Err g c =
    let ws = c.args.extent.now.written in
    let frozen = c.args.frozen.now in
    let h = sums ws frozen c.args.self.now.copies in
    record {
      completed = tt;
      once = c.know_apart-in-Err.ensures;
      kept = c.put_all_back-in-Err.ensures (zeroed_heap ws frozen) ∙ (c.run_whole.ensures.before ∙ ap (λ os. restored os h) c.forget.ensures);
    }
