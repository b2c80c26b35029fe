use Rattle.std.proofs.Common.{None, refl, ap, ◌∙◌, subst, arith}
use Rattle.ca_program.specs.View.{program_view}
use Rattle.ca_meaning.specs.Serial.{in_heap}
use Rattle.ca_code.specs.Codes.{code_seen}
use Rattle.ca_code_laws.specs.Runs.{run_access}
use Rattle.ca_steps.specs.declared.running.Event.TheVariants as event
use Rattle.ca_steps.specs.Stands.{state_of}
use Rattle.ca_steps.specs.Ways.{stays, comes}
use Rattle.ca_steps.specs.Events.{Happens, Turned}
use Rattle.ca_steps.proofs.Turning.{ends_there, happens_after, traps_so, turned_after}
use Rattle.ca_steps.proofs.Ways.{arrives, way_then}
use Rattle.ca_steps.proofs.inside.run_past.Goals as goal

pub loop-init : goal.loop-init
loop-init g c = (refl, stays)

pub returns-in-Traps : goal.returns-in-Traps
returns-in-Traps g c =
    let code = c.args.laid.now.code in
    let p = program_view c.args.run.now.run.program.now in
    let inv = c.loop.invariant in
    let m = c.run_inside.new.frames in
    let h = rw inv.0 at c.in-Traps.ensures.halted in
    record {
      event = arrives p (code_seen code) c.args.frames.now c.args.run.now.run.heap _ _ inv.1 h _ _ (λ w. traps_so (run_access p) code (state_of h.frames (in_heap w h.heap)) m.at c.in-Traps.kind m (in_heap w c.run_inside.new.run.run.heap) c.trapped.result (rw c.as_slice.ensures.value at c.trapped.ensures) (h.halted w));
    }

pub returns-in-Spends : goal.returns-in-Spends
returns-in-Spends g c =
    let code = c.args.laid.now.code in
    let p = program_view c.args.run.now.run.program.now in
    let inv = c.loop.invariant in
    let h = rw inv.0 at c.in-Spends.ensures.halted in
    record {
      event = arrives p (code_seen code) c.args.frames.now c.args.run.now.run.heap _ _ inv.1 h _ _ h.halted;
    }

pub returns-in-Ends : goal.returns-in-Ends
returns-in-Ends g c =
    let code = c.args.laid.now.code in
    let p = program_view c.args.run.now.run.program.now in
    let inv = c.loop.invariant in
    let m = c.run_inside.new.frames in
    let h = rw inv.0 at c.in-Ends.ensures.halted in
    record {
      event = arrives p (code_seen code) c.args.frames.now c.args.run.now.run.heap _ _ inv.1 h _ _ (λ w. ends_there (run_access p) (code_seen code) (state_of h.frames (in_heap w h.heap)) m (in_heap w c.run_inside.new.run.run.heap) (h.halted w));
    }

pub returns-in-Fails : goal.returns-in-Fails
returns-in-Fails g c =
    let inv = c.loop.invariant in
    record { event = record { frames = c.loop.frames; heap = c.loop.run.run.heap; way = inv.1; happens = λ w. tt } }

pub returns-in-Memory : goal.returns-in-Memory
returns-in-Memory g c =
    let inv = c.loop.invariant in
    record { event = record { frames = c.loop.frames; heap = c.loop.run.run.heap; way = inv.1; happens = λ w. tt } }

pub act_slowly-requires : goal.act_slowly-requires
act_slowly-requires g c = record { few = omega (arith, c.requires.laid.many, c.requires.laid.few); elsewhere = c.in-Leaves.ensures.elsewhere }

pub loop-preserved : goal.loop-preserved
loop-preserved g c =
    let code = c.args.laid.now.code in
    let p = program_view c.args.run.now.run.program.now in
    let inv = c.loop.invariant in
    let mid = c.run_inside.new.frames in
    let h = rw inv.0 at c.in-Leaves.ensures.halted in
    let t = c.in_default.ensures in
    let same = c.in-Leaves.ensures.program ∙ inv.0 in
    let m = c.act_slowly.new.frames in
    let way = way_then p (code_seen code) c.args.frames.now c.args.run.now.run.heap inv.1 h.frames h.heap h.way in (
      ap (λ r. r.now) t.program ∙ same,
      comes way (λ w.
          turned_after (run_access p) code (state_of h.frames (in_heap w h.heap)) (state_of mid (in_heap w c.run_inside.new.run.run.heap)) m (in_heap w c.act_slowly.new.run.heap) None (h.halted w)
          (rw same at (t.turned w))),
    )

pub returns-in-Some-act_slowly : goal.returns-in-Some-act_slowly
returns-in-Some-act_slowly g c =
    let code = c.args.laid.now.code in
    let p = program_view c.args.run.now.run.program.now in
    let inv = c.loop.invariant in
    let mid = c.run_inside.new.frames in
    let h = rw inv.0 at c.in-Leaves.ensures.halted in
    let t = c.in-Some-act_slowly.ensures in
    let same = c.in-Leaves.ensures.program ∙ inv.0 in
    let m = c.act_slowly.new.frames in
    record {
      event = arrives p (code_seen code) c.args.frames.now c.args.run.now.run.heap _ _ inv.1 h _ _ (λ w.
          happens_after (run_access p) code (state_of h.frames (in_heap w h.heap)) (state_of mid (in_heap w c.run_inside.new.run.run.heap)) m (in_heap w c.act_slowly.new.run.heap) c.in-Some-act_slowly.event (h.halted w)
          (rw same at (t.turned w)));
    }

pub returns : goal.returns
returns g c =
    let inv = c.loop.invariant in
    record { event = record { frames = c.loop.frames; heap = c.loop.run.run.heap; way = inv.1; happens = λ w. tt } }
