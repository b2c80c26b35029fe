use Rattle.std.proofs.Common.{◌∷◌, [], Some, refl, arith}
use Rattle.ca_program.specs.View.{program_view}
use Rattle.ca_cells.specs.Seats.{cells_key}
use Rattle.ca_pool.specs.Parts.{Did, kept_in, made_in}
use Rattle.ca_pool.proofs.Does.{did_free, may_run}
use Rattle.ca_pool.proofs.Performs.{performed, performed_short, puts_nothing, some_of}
use Rattle.ca_pool.proofs.performing.perform_free.Goals as goal

pub apply_free-requires-clause-may_run : goal.apply_free-requires-clause-may_run
apply_free-requires-clause-may_run g c = may_run g.N.Round.setting (cells_key c.args.cells.now) c.args.task c.requires.work.setting c.requires.fits

pub apply_free-requires-clause-free : goal.apply_free-requires-clause-free
apply_free-requires-clause-free g c = puts_nothing (cells_key c.args.cells.now) (program_view c.args.program.now) c.args.task.op.op c.requires.work.program (c.requires.work.locks.free c.args.task.op.op c.requires.free).0

pub hand_one-requires-clause-made : goal.hand_one-requires-clause-made
hand_one-requires-clause-made g c = let s = c.apply_free.ensures.same in let free = (c.requires.work.locks.free c.args.task.op.op c.requires.free).1 in
    let d : Did g.N.Round.setting (Some c.args.cells.now) c.args.left (c.args.task ∷ []) c.args.seat.now c.apply_free.new.worker (made_in c.in-Ok.applied) (kept_in c.in-Ok.applied) =
    did_free g.N.Round.setting c.args.cells.now c.args.left c.args.seat.now c.apply_free.new.worker c.args.task c.requires.work.setting c.requires.fits c.requires.place s.0 c.in-Ok.applied s.1 c.in-Ok.ensures.applied (c.in-Ok.ensures.legal free) in d.made_fit

pub hand_one-requires-clause-kept : goal.hand_one-requires-clause-kept
hand_one-requires-clause-kept g c = let s = c.apply_free.ensures.same in let free = (c.requires.work.locks.free c.args.task.op.op c.requires.free).1 in
    let d : Did g.N.Round.setting (Some c.args.cells.now) c.args.left (c.args.task ∷ []) c.args.seat.now c.apply_free.new.worker (made_in c.in-Ok.applied) (kept_in c.in-Ok.applied) =
    did_free g.N.Round.setting c.args.cells.now c.args.left c.args.seat.now c.apply_free.new.worker c.args.task c.requires.work.setting c.requires.fits c.requires.place s.0 c.in-Ok.applied s.1 c.in-Ok.ensures.applied (c.in-Ok.ensures.legal free) in d.kept_fit

pub returns-in-Ok : goal.returns-in-Ok
returns-in-Ok g c = let s = c.apply_free.ensures.same in let free = (c.requires.work.locks.free c.args.task.op.op c.requires.free).1 in let more = c.requires.most in
    let d : Did g.N.Round.setting (Some c.args.cells.now) c.args.left (c.args.task ∷ []) c.args.seat.now c.apply_free.new.worker (made_in c.in-Ok.applied) (kept_in c.in-Ok.applied) =
    did_free g.N.Round.setting c.args.cells.now c.args.left c.args.seat.now c.apply_free.new.worker c.args.task c.requires.work.setting c.requires.fits c.requires.place s.0 c.in-Ok.applied s.1 c.in-Ok.ensures.applied (c.in-Ok.ensures.legal free) in
    performed g.N.Round.setting c.args.cells.now c.args.left c.args._most c.args.task c.args.owner.now c.hand_one.new.owner c.args.seat.now c.apply_free.new.worker c.args.share.now.items c.hand_one.new.share.items c.hand_one.result _ c.args.share.now.items (made_in c.in-Ok.applied) (kept_in c.in-Ok.applied)
    d c.hand_one.ensures.same c.hand_one.ensures.taken c.hand_one.ensures.share (some_of 1 c.args._most c.hand_one.result (omega (arith, more)) c.hand_one.ensures.some) (λ h. omega arith) c.hand_one.ensures.pushed

pub returns : goal.returns
returns g c = let s = c.apply_free.ensures.same in
    performed_short g.N.Round.setting c.args.cells.now c.args.left c.args._most c.args.task c.args.owner.now c.args.owner.now c.args.seat.now c.apply_free.new.worker c.args.share.now.items c.args.share.now.items _ c.requires.place s.0 s.1 c.in-Err.ensures.refused.1 refl c.requires.share refl
