use Rattle.ca_serial.proofs.lending.go_on.Goals as goal

pub returns : goal.returns
returns g c = record { event = c.run_on.ensures.event; program = c.run_on.ensures.program }
