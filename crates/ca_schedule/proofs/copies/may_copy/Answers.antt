use Rattle.ca_schedule.proofs.Shares.{each_part}
use Rattle.ca_schedule.proofs.copies.may_copy.Goals as goal

pub returns : goal.returns
returns c = rw (c.from.ensures, c.from-2.ensures) (each_part c.args.workers c.args.values 16000000 c.requires)
