use Rattle.std.proofs.Common.{◌≡◌, map, sym, subst}
use Rattle.ca_program.specs.View.{program_view}
use Rattle.ca_logs.specs.declared.log.Task.{Task}
use Rattle.ca_logs.specs.Entries.{task_after}
use Rattle.ca_deques.specs.Settings.{Setting, Fits, AllFit}
use Rattle.ca_sum_pool.specs.declared.performing.Turn.TheVariants as turns
use Rattle.ca_sum_pool.specs.Parts.{Performed, StoppedOne, WentSo, next_task, setting_of}
use Rattle.ca_sum_pool.proofs.Did.{same_task, stuck_of, kept_performed, ran_performed, told_performed}
use Rattle.ca_sum_pool.proofs.performing.perform_section.Goals as goal

pub returns-then-after : goal.returns-then-after
returns-then-after g c = kept_performed g.N.Round.setting c.args.extent.now c.args.left (next_task c.args.next) c.args.owner.now c.args.replica.now.copies c.args.share.now.items c.kept.new.share.items c.kept.result c.kept.ensures c.requires.fits c.requires.share

pub run_task-requires-clause-fits : goal.run_task-requires-clause-fits
run_task-requires-clause-fits g c =
    let same : task_after c.behind-after.result c.call-op.result.now ≡ next_task c.args.next = same_task (next_task c.args.next) c.behind-after.result c.call-op.result.now c.behind-after.ensures c.call-op.ensures in
    subst (λ (s : Setting). Fits s (task_after c.behind-after.result c.call-op.result.now)) c.requires.setting (subst (Fits g.N.Round.setting) (sym same) c.requires.fits)

pub push_ops-requires-clause-fits : goal.push_ops-requires-clause-fits
push_ops-requires-clause-fits g c =
    let task = task_after c.behind-after.result c.call-op.result.now in
    let went = subst (WentSo (program_view c.args.program.now) c.args.extent.now c.args.frozen.now c.args.left task c.args.replica.now.copies c.run_task.new.replica.copies) c.in-Ok-Ran.field-0-is c.in-Ok-Ran.ensures in
    let fit = subst (λ k. AllFit (setting_of (program_view c.args.program.now) c.args.extent.now c.args.frozen.now) (map (task_after k) c.in-Ok-Ran.ops.items)) (sym went.0) went.1.fits in
    subst (λ (s : Setting). AllFit s (map (task_after c.in-Ok-Ran.clock) c.in-Ok-Ran.ops.items)) (sym c.requires.setting) fit

pub returns-then-push_ops : goal.returns-then-push_ops
returns-then-push_ops g c =
    let s = setting_of (program_view c.args.program.now) c.args.extent.now c.args.frozen.now in
    let task = task_after c.behind-after.result c.call-op.result.now in
    let same : task ≡ next_task c.args.next = same_task (next_task c.args.next) c.behind-after.result c.call-op.result.now c.behind-after.ensures c.call-op.ensures in
    let went = subst (WentSo (program_view c.args.program.now) c.args.extent.now c.args.frozen.now c.args.left task c.args.replica.now.copies c.run_task.new.replica.copies) c.in-Ok-Ran.field-0-is c.in-Ok-Ran.ensures in
    subst (λ (t : Task). Performed g.N.Round.setting c.args.extent.now c.args.left t c.args.owner.now c.push_ops.new.owner c.args.replica.now.copies c.run_task.new.replica.copies c.args.share.now.items c.push_ops.new.share.items (turns.Ran c.in-Ok-Ran.steps)) same
    (subst (λ (s : Setting). Performed s c.args.extent.now c.args.left task c.args.owner.now c.push_ops.new.owner c.args.replica.now.copies c.run_task.new.replica.copies c.args.share.now.items c.push_ops.new.share.items (turns.Ran c.in-Ok-Ran.steps)) (sym c.requires.setting)
    (ran_performed s c.args.extent.now c.args.left task c.args.owner.now c.push_ops.new.owner c.args.replica.now.copies c.run_task.new.replica.copies c.args.share.now.items c.push_ops.new.share.items c.in-Ok-Ran.ops.items c.in-Ok-Ran.clock c.in-Ok-Ran.steps went.0 went.1 c.push_ops.ensures.same c.push_ops.ensures.taken (subst (λ (s : Setting). AllFit s c.push_ops.new.share.items) c.requires.setting c.push_ops.ensures.share) (c.push_ops.ensures.pushed c.if-push_ops.true)))

pub returns-in-Ok-Stopped : goal.returns-in-Ok-Stopped
returns-in-Ok-Stopped g c =
    let s = setting_of (program_view c.args.program.now) c.args.extent.now c.args.frozen.now in
    let task = task_after c.behind-after.result c.call-op.result.now in
    let same : task ≡ next_task c.args.next = same_task (next_task c.args.next) c.behind-after.result c.call-op.result.now c.behind-after.ensures c.call-op.ensures in
    let went = subst (WentSo (program_view c.args.program.now) c.args.extent.now c.args.frozen.now c.args.left task c.args.replica.now.copies c.run_task.new.replica.copies) c.in-Ok-Stopped.field-0-is c.in-Ok-Stopped.ensures in
    subst (λ (s : Setting). Performed s c.args.extent.now c.args.left (next_task c.args.next) c.args.owner.now c.args.owner.now c.args.replica.now.copies c.run_task.new.replica.copies c.args.share.now.items c.args.share.now.items c.stopped.result) (sym c.requires.setting)
    (told_performed s c.args.extent.now c.args.left (next_task c.args.next) c.args.owner.now c.args.replica.now.copies c.run_task.new.replica.copies c.args.share.now.items c.in-Ok-Stopped.why c.stopped.result c.stopped.ensures
    (subst (λ (t : Task). StoppedOne (program_view c.args.program.now) c.args.extent.now c.args.frozen.now c.args.left t c.args.replica.now.copies c.run_task.new.replica.copies (stuck_of t c.in-Ok-Stopped.why)) same went)
    (subst (λ (s : Setting). AllFit s c.args.share.now.items) c.requires.setting c.requires.share))
