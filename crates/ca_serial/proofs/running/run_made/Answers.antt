use Rattle.ca_serial.proofs.Driving.{gave_up}
use Rattle.ca_serial.proofs.running.run_made.Goals as goal

pub of-requires : goal.of-requires
of-requires g c = record { typed = c.requires.may.program; laid = c.requires.made.run.laid; runs = c.requires.made.ops }

pub returns-in_default : goal.returns-in_default
returns-in_default g c = gave_up

pub run_coded-requires-clause-may : goal.run_coded-requires-clause-may
run_coded-requires-clause-may g c = λ κs o. c.requires.may

pub run_coded-requires-clause-made : goal.run_coded-requires-clause-made
run_coded-requires-clause-made g c = λ κs o. c.requires.made

pub run_coded-requires-clause-coded : goal.run_coded-requires-clause-coded
run_coded-requires-clause-coded g c = λ κs o. c.in-Ok.ensures

pub returns : goal.returns
returns g c = c.run_coded.ensures
