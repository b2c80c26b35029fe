use Rattle.std.proofs.Common.{arith}
use Rattle.ca_beside.specs.Beside.{present}
use Rattle.ca_beside.proofs.Present.{present_length}
use Rattle.ca_pool.proofs.Spread.{one_fresh, all_are_fresh}
use Rattle.ca_pool.proofs.spreading.all_fresh.Goals as goal

pub loop-number-init : goal.loop-number-init
loop-number-init c = (c.in_ok-logs.ensures.items, omega arith)

pub loop-number-preserved : goal.loop-number-preserved
loop-number-preserved c =
    let i = c.loop-number.invariant in
    let t = c.loop-number-test.true in
    (one_fresh (present c.args.frozen.now c.args.beside.now) c.loop-number.number c.get.result.now c.loop-number.logs.items c.push.new.self.items c.in_ok-log.log c.get.ensures c.in_ok-log.ensures c.in_ok-push.ensures.items i.0, omega arith)

pub returns : goal.returns
returns c =
    let now = present c.args.frozen.now c.args.beside.now in
    let many = present_length c.args.frozen.now c.args.beside.now in
    let t = c.loop-number-test.false in
    let n = c.len-objects.ensures.value in
    all_are_fresh now c.loop-number.number c.loop-number.logs.items (omega (arith, many, t, n)) c.loop-number.invariant.0
