use Rattle.std.proofs.Common.{◌≤◌, All, Some, length, refl, sym, ap, subst, ◌∙◌, arith}
use Rattle.ca_meaning.specs.Multisets.{weight}
use Rattle.ca_logs.specs.Entries.{HasReceiver}
use Rattle.ca_cells.specs.Seats.{cells_key}
use Rattle.ca_deques.specs.Settings.{AllFit}
use Rattle.ca_pool.specs.Parts.{Did}
use Rattle.ca_pool.proofs.Does.{did_all, fits_may_run}
use Rattle.ca_pool.proofs.Performs.{performed, performed_short, same_self, some_of}
use Rattle.ca_pool.proofs.performing.perform_run.Goals as goal

pub returns-then-not-take_run-clause-room : goal.returns-then-not-take_run-clause-room
returns-then-not-take_run-clause-room g c = c.take_run.ensures.lost c.if-not-take_run.true

pub returns-then-not-take_run-clause-performed : goal.returns-then-not-take_run-clause-performed
returns-then-not-take_run-clause-performed g c = performed_short g.N.Round.setting c.args.cells.now c.args.left c.args.most c.args.task _ _ c.args.seat.now _ _ _ _ c.requires.place (same_self c.args.seat.now) refl refl refl c.take_run.ensures.share refl

pub apply_all-requires-clause-tasks : goal.apply_all-requires-clause-tasks
apply_all-requires-clause-tasks g c = let e = ap (λ v. length v.items) c.replace-tasks.ensures.value in let some = c.take_run.ensures.some c.if-not-take_run.false in let few = c.take_run.ensures.few.0 in (omega (arith, e, some), omega (arith, e, few))

pub apply_all-requires-clause-one : goal.apply_all-requires-clause-one
apply_all-requires-clause-one g c = (c.args.task.op.receiver, subst (λ v. All (HasReceiver c.args.task.op.receiver) v.items) (sym c.replace-tasks.ensures.value) c.take_run.ensures.one)

pub apply_all-requires-clause-may_run : goal.apply_all-requires-clause-may_run
apply_all-requires-clause-may_run g c = fits_may_run g.N.Round.setting (cells_key c.args.cells.now) c.replace-tasks.result.items c.requires.work.setting (subst (λ v. AllFit g.N.Round.setting v.items) (sym c.replace-tasks.ensures.value) c.take_run.ensures.fits)

pub hand_all-requires-clause-room : goal.hand_all-requires-clause-room
hand_all-requires-clause-room g c = ap (λ v. v.items) c.replace-tasks.ensures.after ∙ c.new.ensures.items

pub hand_all-requires-clause-made : goal.hand_all-requires-clause-made
hand_all-requires-clause-made g c = let d : Did g.N.Round.setting (Some c.args.cells.now) c.args.left c.replace-tasks.result.items c.args.seat.now c.apply_all.new.worker c.in-Ok.applied.made.items c.in-Ok.applied.kept.items =
    did_all g.N.Round.setting c.args.cells.now c.args.left c.args.seat.now c.apply_all.new.worker c.replace-tasks.result.items c.in-Ok.applied.made.items c.in-Ok.applied.stop c.in-Ok.applied.kept.items c.requires.work.setting (subst (λ v. AllFit g.N.Round.setting v.items) (sym c.replace-tasks.ensures.value) c.take_run.ensures.fits) c.requires.place c.apply_all.ensures.same c.apply_all.ensures.loose c.in-Ok.ensures.applied in d.made_fit

pub hand_all-requires-clause-kept : goal.hand_all-requires-clause-kept
hand_all-requires-clause-kept g c = let d : Did g.N.Round.setting (Some c.args.cells.now) c.args.left c.replace-tasks.result.items c.args.seat.now c.apply_all.new.worker c.in-Ok.applied.made.items c.in-Ok.applied.kept.items =
    did_all g.N.Round.setting c.args.cells.now c.args.left c.args.seat.now c.apply_all.new.worker c.replace-tasks.result.items c.in-Ok.applied.made.items c.in-Ok.applied.stop c.in-Ok.applied.kept.items c.requires.work.setting (subst (λ v. AllFit g.N.Round.setting v.items) (sym c.replace-tasks.ensures.value) c.take_run.ensures.fits) c.requires.place c.apply_all.ensures.same c.apply_all.ensures.loose c.in-Ok.ensures.applied in d.kept_fit

pub hand_all-requires-clause-some : goal.hand_all-requires-clause-some
hand_all-requires-clause-some g c = let e = ap (λ v. length v.items) c.replace-tasks.ensures.value in let some = c.take_run.ensures.some c.if-not-take_run.false in let n = c.len-count.ensures in omega (arith, e, some, n)

pub returns-in-Ok-clause-performed : goal.returns-in-Ok-clause-performed
returns-in-Ok-clause-performed g c = let d : Did g.N.Round.setting (Some c.args.cells.now) c.args.left c.replace-tasks.result.items c.args.seat.now c.apply_all.new.worker c.in-Ok.applied.made.items c.in-Ok.applied.kept.items =
    did_all g.N.Round.setting c.args.cells.now c.args.left c.args.seat.now c.apply_all.new.worker c.replace-tasks.result.items c.in-Ok.applied.made.items c.in-Ok.applied.stop c.in-Ok.applied.kept.items c.requires.work.setting (subst (λ v. AllFit g.N.Round.setting v.items) (sym c.replace-tasks.ensures.value) c.take_run.ensures.fits) c.requires.place c.apply_all.ensures.same c.apply_all.ensures.loose c.in-Ok.ensures.applied in
    let few : c.len-count.result ≤ c.args.most = let e = ap (λ v. length v.items) c.replace-tasks.ensures.value in let f = c.take_run.ensures.few.1 in let n = c.len-count.ensures in omega (arith, e, f, n) in
    performed g.N.Round.setting c.args.cells.now c.args.left c.args.most c.args.task c.args.owner.now c.hand_all.new.owner c.args.seat.now c.apply_all.new.worker c.args.share.now.items c.hand_all.new.share.items c.hand_all.result c.replace-tasks.result.items c.take_run.new.share.items c.in-Ok.applied.made.items c.in-Ok.applied.kept.items
    d c.hand_all.ensures.same c.hand_all.ensures.taken c.hand_all.ensures.share (some_of c.len-count.result c.args.most c.hand_all.result few c.hand_all.ensures.some)
    (λ h. omega (arith, c.take_run.ensures.moved c.if-not-take_run.false h, ap (λ v. weight h v.items) c.replace-tasks.ensures.value)) c.hand_all.ensures.pushed

pub returns-clause-room : goal.returns-clause-room
returns-clause-room g c = ap (λ v. v.items) c.replace-tasks.ensures.after ∙ c.new.ensures.items

pub returns-clause-performed : goal.returns-clause-performed
returns-clause-performed g c = performed_short g.N.Round.setting c.args.cells.now c.args.left c.args.most c.args.task _ _ c.args.seat.now c.apply_all.new.worker _ _ _ c.requires.place c.apply_all.ensures.same c.in-Err.ensures.refused.1 c.apply_all.ensures.loose refl c.take_run.ensures.share refl
