use Rattle.ca_program.specs.View.{program_view}
use Rattle.ca_plan.proofs.offences.Offences.first.Goals as goal

pub returns-in-Some-Some : goal.returns-in-Some-Some
returns-in-Some-Some c =
    let told = (rw c.as_slice.ensures.value at c.line_of_both.ensures) (program_view c.args.program.now) c.args.extent.now.written c.requires.offences.seen in
    record { told = rw c.in-Some-Some.field-0-is (rw (c.in-Some-Some.is, c.in-Some-Some.field-0-is) at told); can = tt }

pub returns-in-Some-None : goal.returns-in-Some-None
returns-in-Some-None c =
    let told = (rw c.as_slice.ensures.value at c.line_of_both.ensures) (program_view c.args.program.now) c.args.extent.now.written c.requires.offences.seen in
    let both = rw (c.in-Some-None.is, c.in-Some-None.field-0-is) at told in
    record { told = tt; can = record { separable = both.0; loops = both.1 } }

pub offence-requires : goal.offence-requires
offence-requires c = record { readers = c.requires.offences.knows; first = c.requires.first; second = c.requires.second }

pub returns-in-None : goal.returns-in-None
returns-in-None c = record { told = c.offence.ensures.told; can = c.offence.ensures.can }
