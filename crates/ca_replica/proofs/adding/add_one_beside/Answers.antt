use Rattle.std.proofs.Common.{◌<◌, length, arith}
use Rattle.ca_replica.proofs.Putting.{none_there, altered_added, one_there}
use Rattle.ca_replica.proofs.adding.add_one_beside.Goals as goal

pub returns-then-number-len : goal.returns-then-number-len
returns-then-number-len c =
    none_there c.args.written.now c.args.copy.now.number c.args.copy.now.object c.args.heap.now c.args.beside.now (omega (arith, c.if-number-len.true, c.len.ensures.value))

pub alter-requires : goal.alter-requires
alter-requires c = omega (arith, c.if-number-len.false, c.len.ensures.value)

pub returns : goal.returns
returns c =
    let h = c.args.heap.now in
    let n = c.args.copy.now.number in
    let lt : n < length h = omega (arith, c.if-number-len.false, c.len.ensures.value) in
    let one = one_there h c.args.beside.now n lt in
    altered_added c.alter.result c.args.written.now n c.args.copy.now.object h c.args.beside.now c.alter.new.self one.0 one.1 c.alter.ensures.altered
