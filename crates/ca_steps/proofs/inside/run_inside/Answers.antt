use Rattle.std.proofs.Common.{None, refl, ◌∙◌}
use Rattle.std.specs.Prelude.{slice_get}
use Rattle.ca_program.specs.View.{program_view}
use Rattle.ca_code.specs.Codes.{code_seen}
use Rattle.ca_steps.specs.Ways.{stays}
use Rattle.ca_steps.specs.declared.frames.Frames.{Frames}
use Rattle.ca_steps.specs.Wide.{IsElsewhere}
use Rattle.ca_steps.proofs.Ways.{still_elsewhere, stopped_there, went_in}
use Rattle.ca_steps.proofs.inside.run_inside.Goals as goal

pub marks-init : goal.marks-init
marks-init g c = (refl, stays)

pub run_here-halt-requires : goal.run_here-halt-requires
run_here-halt-requires g c = record { laid = c.requires.laid; fits = tt }

pub returns-in_default : goal.returns-in_default
returns-in_default g c =
    let inv = c.marks.invariant in
    let b = c.run_here-halt.ensures in
    record {
      halted = record { frames = c.marks.frames; heap = c.marks.run.run.heap; way = inv.1; halted = rw inv.0 at b.halted };
      elsewhere = b.elsewhere;
      program = b.fixed ∙ inv.0;
    }

pub returns-in-Some : goal.returns-in-Some
returns-in-Some g c =
    let inv = c.marks.invariant in
    let b = c.in-Leaves.ensures in
    let p = program_view c.args.run.now.run.program.now in
    record {
      halted = stopped_there p (code_seen c.args.laid.now.code) c.args.frames.now c.args.run.now.run.heap _ inv.1 (rw inv.0 at b.halted) c.go_in.result c.in-Some.halt c.in-Some.is c.go_in.ensures;
      elsewhere = still_elsewhere _ (code_seen c.args.laid.now.code) _ _ (λ (m : Frames). IsElsewhere (slice_get (code_seen c.args.laid.now.code).items m.at)) b.elsewhere c.go_in.result c.in-Some.halt c.in-Some.is c.go_in.ensures;
      program = b.fixed ∙ inv.0;
    }

pub marks-preserved : goal.marks-preserved
marks-preserved g c =
    let inv = c.marks.invariant in
    let b = c.in-Leaves.ensures in
    let p = program_view c.args.run.now.run.program.now in
    (b.fixed ∙ inv.0, went_in p (code_seen c.args.laid.now.code) c.args.frames.now c.args.run.now.run.heap _ inv.1 (rw inv.0 at b.halted) c.go_in.result c.in_default-go_in.is c.go_in.ensures)

pub returns : goal.returns
returns g c =
    let inv = c.marks.invariant in
    record { halted = record { frames = c.marks.frames; heap = c.marks.run.run.heap; way = inv.1; halted = λ w. tt }; elsewhere = tt; program = inv.0 }
