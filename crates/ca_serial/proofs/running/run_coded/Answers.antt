use Rattle.ca_program.specs.View.{program_view}
use Rattle.ca_serial.proofs.Handings.{all_good}
use Rattle.ca_serial.proofs.Driving.{gave_up}
use Rattle.ca_serial.proofs.running.run_coded.Goals as goal

pub returns-in_default : goal.returns-in_default
returns-in_default g c = gave_up

pub returns-in_default-new : goal.returns-in_default-new
returns-in_default-new g c = gave_up

pub run_all-requires-clause-ready : goal.run_all-requires-clause-ready
run_all-requires-clause-ready g c = λ κs o. c.requires.may.ready

pub run_all-requires-clause-program : goal.run_all-requires-clause-program
run_all-requires-clause-program g c = λ κs o. c.requires.may.program

pub run_all-requires-clause-sound : goal.run_all-requires-clause-sound
run_all-requires-clause-sound g c = λ κs o. c.requires.may.sound

pub run_all-requires-clause-good : goal.run_all-requires-clause-good
run_all-requires-clause-good g c = λ κs o.
    let may = c.requires.may in
    all_good (program_view c.args.program.now) may.program c.args.marks.now may.sound c.args.budget g.E.Extents.serves may.served

pub run_all-requires-clause-made : goal.run_all-requires-clause-made
run_all-requires-clause-made g c = λ κs o. c.requires.made

pub run_all-requires-clause-coded : goal.run_all-requires-clause-coded
run_all-requires-clause-coded g c = λ κs o. c.requires.coded

pub run_all-requires-clause-begins : goal.run_all-requires-clause-begins
run_all-requires-clause-begins g c = λ κs o. rw c.new-2.ensures c.in-Ok.ensures

pub returns : goal.returns
returns g c = c.run_all.ensures
