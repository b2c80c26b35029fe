use Rattle.std.proofs.Common.{◌++◌, drop, arith}
use Rattle.ca_program.specs.View.{program_view}
use Rattle.ca_parallel.specs.Calls.{invocations_of}
use Rattle.ca_beside.specs.Beside.{present}
use Rattle.ca_run.proofs.Going.{no_turns, one_more, stuck_turn, all_turns, at_end}
use Rattle.ca_run.proofs.turns.run_some.Goals as goal

pub turns-init : goal.turns-init
turns-init g c =
    let ws = invocations_of (drop c.args.next.now c.args.ops.now) ++ invocations_of c.args.waiting.now.items in
    (no_turns (program_view c.args.program.now) c.args.heap.now (present c.args.heap.now c.args.beside.now) ws c.args.left, omega arith)

pub returns-in-Stuck : goal.returns-in-Stuck
returns-in-Stuck g c =
    let after = present c.args.heap.now c.run_next.new.beside in
    let more = invocations_of (drop c.run_next.new.next c.args.ops.now) ++ invocations_of c.run_next.new.waiting.items in
    stuck_turn c.turns.invariant.0 after more c.in-Stuck.is c.in_ok-steps.ensures c.args.limit (omega (arith, c.turns-test.true))

pub turns-preserved : goal.turns-preserved
turns-preserved g c =
    let after = present c.args.heap.now c.run_next.new.beside in
    let more = invocations_of (drop c.run_next.new.next c.args.ops.now) ++ invocations_of c.run_next.new.waiting.items in
    (one_more c.turns.invariant.0 after more c.in-Ran.is c.in_ok-steps.ensures, omega (arith, c.turns-test.true))

pub overflow_sub-result : goal.overflow_sub-result
overflow_sub-result g c = omega (arith, c.turns.invariant.0.going.sum)

pub overflow_sub-result-2 : goal.overflow_sub-result-2
overflow_sub-result-2 g c = omega (arith, c.turns.invariant.0.going.sum)

pub returns-in-Ended : goal.returns-in-Ended
returns-in-Ended g c =
    let after = present c.args.heap.now c.run_next.new.beside in
    let more = invocations_of (drop c.run_next.new.next c.args.ops.now) ++ invocations_of c.run_next.new.waiting.items in
    at_end c.turns.invariant.0 after more c.in-Ended.is c.in_ok-steps.ensures c.args.limit c.turns.invariant.1

pub returns : goal.returns
returns g c = all_turns c.turns.invariant.0 c.args.limit c.turns.invariant.1 (omega (arith, c.turns-test.false))
