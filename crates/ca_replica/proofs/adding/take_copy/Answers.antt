use Rattle.std.proofs.Common.{arith}
use Rattle.ca_replica.proofs.Putting.{none_there}
use Rattle.ca_replica.proofs.adding.take_copy.Goals as goal

pub returns-then-number-len : goal.returns-then-number-len
returns-then-number-len c =
    none_there c.args.written.now c.args.copy.number c.args.copy.object c.args.heap.now c.args.beside.now (omega (arith, c.if-number-len.true, c.len.ensures.value))

pub take_over-requires-clause-inside : goal.take_over-requires-clause-inside
take_over-requires-clause-inside c = omega (arith, c.if-number-len.false, c.len.ensures.value)

pub take_over-requires-clause-absent : goal.take_over-requires-clause-absent
take_over-requires-clause-absent c = c.in-None.ensures

pub take_over-requires-clause-whole : goal.take_over-requires-clause-whole
take_over-requires-clause-whole c = c.requires.whole

pub returns-in-Some : goal.returns-in-Some
returns-in-Some c = c.add_and_keep.ensures

pub returns-in-None : goal.returns-in-None
returns-in-None c = c.take_over.ensures
