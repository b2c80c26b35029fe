use Rattle.ca_serial.proofs.lending.LentDoor.lets.Goals as goal

pub returns : goal.returns
returns g c = c.in_order.ensures.any
