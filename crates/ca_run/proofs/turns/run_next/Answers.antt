use Rattle.std.proofs.Common.{◌+◌, ◌∷◌, ◌++◌, drop, refl, arith}
use Rattle.ca_program.specs.View.{program_view}
use Rattle.ca_parallel.specs.Calls.{invocation_of, invocations_of}
use Rattle.ca_beside.specs.Beside.{present}
use Rattle.ca_run.proofs.Answering.{none_left, some_items}
use Rattle.ca_run.proofs.Handed.{no_more}
use Rattle.ca_run.proofs.Turning.{turned_beside, given_beside, next_handed}
use Rattle.ca_run.proofs.turns.run_next.Goals as goal

pub returns-then-len-gt0 : goal.returns-then-len-gt0
returns-then-len-gt0 g c =
    let frozen = c.args.heap.now in
    let ws = c.args.waiting.now.items in
    let extra = invocations_of (drop c.args.next.now c.args.ops.now) in
    turned_beside (program_view c.args.program.now) frozen (present frozen c.args.beside.now) (invocations_of ws) c.args.left (present frozen c.run_one.new.beside) (invocations_of c.run_one.new.waiting.items) c.in_ok-turn.turn
    (λ e. some_items ws (omega (arith, c.if-len-gt0.true, c.len.ensures)) (none_left ws e)) extra (extra ++ invocations_of ws) (record { weighed = λ f. refl }) c.in_ok-turn.ensures

pub returns-then-at-ops : goal.returns-then-at-ops
returns-then-at-ops g c =
    let none = no_more c.args.ops.now c.args.next.now c.args.waiting.now.items (omega (arith, c.if-at-ops.true)) (omega (arith, c.if-len-gt0.false, c.len.ensures)) in
    (none, refl, none)

pub returns : goal.returns
returns g c =
    let frozen = c.args.heap.now in
    let ops = c.args.ops.now in
    let n = c.args.next.now in
    let op = c.index-ops-at.result in
    let ws = invocations_of c.args.waiting.now.items in
    given_beside (program_view c.args.program.now) frozen (present frozen c.args.beside.now) (invocation_of op ∷ ws) c.args.left (invocation_of op) (present frozen c.run_given.new.beside) (invocations_of c.run_given.new.waiting.items) c.in_ok-ran.ran c.turn_of.result c.turn_of.ensures
    (invocations_of (drop (n + 1) ops)) (invocations_of (drop n ops) ++ ws) (next_handed ops n op ws (omega (arith, c.if-at-ops.false)) c.index-ops-at.is) c.in_ok-ran.ensures
