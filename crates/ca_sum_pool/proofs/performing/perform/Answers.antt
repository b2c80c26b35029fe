use Rattle.std.proofs.Common.{◌≡◌, sym, subst}
use Rattle.ca_program.specs.View.{program_view}
use Rattle.ca_order_laws.specs.Order.{StandsFor}
use Rattle.ca_logs.specs.declared.log.Task.{Task}
use Rattle.ca_logs.specs.Entries.{task_after}
use Rattle.ca_deques.specs.Settings.{Setting, Fits, AllFit}
use Rattle.ca_sum_pool.specs.declared.performing.Turn.TheVariants as turns
use Rattle.ca_sum_pool.specs.Parts.{Performed, SameSums, WentWhole, next_task, setting_of}
use Rattle.ca_sum_pool.proofs.Did.{same_task, whole_performed, performed_on}
use Rattle.ca_sum_pool.proofs.performing.perform.Goals as goal

pub run_whole-requires-clause-fits : goal.run_whole-requires-clause-fits
run_whole-requires-clause-fits g c =
    let same : task_after c.behind-after.result c.call-op.result.now ≡ next_task c.args.next = same_task (next_task c.args.next) c.behind-after.result c.call-op.result.now c.behind-after.ensures c.call-op.ensures in
    subst (λ (s : Setting). Fits s (task_after c.behind-after.result c.call-op.result.now)) c.requires.setting (subst (Fits g.N.Round.setting) (sym same) c.requires.fits)

pub returns-in-Some : goal.returns-in-Some
returns-in-Some g c =
    let p = program_view c.args.program.now in
    let x = c.args.extent.now in
    let frozen = c.args.frozen.now in
    let s = setting_of p x frozen in
    let task = task_after c.behind-after.result c.call-op.result.now in
    let before = c.args.replica.now.copies in
    let after = c.run_whole.new.replica.copies in
    let share = c.args.share.now.items in
    let same : task ≡ next_task c.args.next = same_task (next_task c.args.next) c.behind-after.result c.call-op.result.now c.behind-after.ensures c.call-op.ensures in
    let ran = subst (WentWhole p x frozen task before after) c.in-Some.is c.run_whole.ensures in
    subst (λ (t : Task). Performed g.N.Round.setting x c.args.left t c.args.owner.now c.args.owner.now before after share share (turns.Ran c.in-Some.steps)) same
    (subst (λ (z : Setting). Performed z x c.args.left task c.args.owner.now c.args.owner.now before after share share (turns.Ran c.in-Some.steps)) (sym c.requires.setting)
    (whole_performed s x c.args.left task c.args.owner.now before after share c.in-Some.steps ran (subst (λ (z : Setting). AllFit z share) c.requires.setting c.requires.share)))

pub perform_section-requires-clause-stands : goal.perform_section-requires-clause-stands
perform_section-requires-clause-stands g c =
    let p = program_view c.args.program.now in
    let x = c.args.extent.now in
    let frozen = c.args.frozen.now in
    let task = task_after c.behind-after.result c.call-op.result.now in
    let same : SameSums p x frozen c.args.replica.now.copies c.run_whole.new.replica.copies = subst (WentWhole p x frozen task c.args.replica.now.copies c.run_whole.new.replica.copies) c.in-None.is c.run_whole.ensures in
    subst (StandsFor p x frozen) (sym same.same) c.requires.stands

pub returns-in-None : goal.returns-in-None
returns-in-None g c =
    let p = program_view c.args.program.now in
    let x = c.args.extent.now in
    let frozen = c.args.frozen.now in
    let s = setting_of p x frozen in
    let task = task_after c.behind-after.result c.call-op.result.now in
    let before = c.args.replica.now.copies in
    let mid = c.run_whole.new.replica.copies in
    let after = c.perform_section.new.replica.copies in
    let share = c.args.share.now.items in
    let rest = c.perform_section.new.share.items in
    let turn = c.perform_section.result in
    let same : SameSums p x frozen before mid = subst (WentWhole p x frozen task before mid) c.in-None.is c.run_whole.ensures in
    subst (λ (z : Setting). Performed z x c.args.left (next_task c.args.next) c.args.owner.now c.perform_section.new.owner before after share rest turn) (sym c.requires.setting)
    (performed_on s x c.args.left (next_task c.args.next) c.args.owner.now c.perform_section.new.owner before mid after share rest turn same
    (subst (λ (z : Setting). Performed z x c.args.left (next_task c.args.next) c.args.owner.now c.perform_section.new.owner mid after share rest turn) c.requires.setting c.perform_section.ensures))
