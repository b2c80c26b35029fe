use Rattle.std.proofs.Common.{Err}
use Rattle.ca_program.specs.View.{program_view}
use Rattle.ca_serial.specs.declared.running.RunError.TheVariants.{Memory}
use Rattle.ca_serial.specs.clauses.Driving.{Drives}
use Rattle.ca_serial.proofs.Driving.{gave_up}
use Rattle.ca_serial.proofs.running.drive.Goals as goal

pub returns-in_default : goal.returns-in_default
returns-in_default g c =
    let n : Drives g.E.Extents.Accounts (program_view c.args.program.now) c.args.marks.now c.args.budget (Err Memory) (g.E.Extents.account c.args.engine.now) (g.E.Extents.account c.args.engine.now) (g.K.Sink.written c.args.sink.now) (g.K.Sink.written c.args.sink.now) (g.K.Sink.faults c.args.sink.now) (g.K.Sink.faults c.args.sink.now) = gave_up in
    record { outcome = n.outcome; prints = n.prints; write = n.write; later = n.later; account = n.account }

pub made_of-requires : goal.made_of-requires
made_of-requires g c = record { program = c.requires.program; sound = c.requires.sound }

pub run_made-requires-clause-may : goal.run_made-requires-clause-may
run_made-requires-clause-may g c = λ κs o. record { ready = c.requires.ready; program = c.requires.program; sound = c.requires.sound; served = c.requires.served }

pub run_made-requires-clause-made : goal.run_made-requires-clause-made
run_made-requires-clause-made g c = λ κs o. rw c.as_slice.ensures.value c.in-Ok.ensures

pub returns : goal.returns
returns g c = let e = c.run_made.ensures in record { outcome = e.outcome; prints = e.prints; write = e.write; later = e.later; account = e.account }
