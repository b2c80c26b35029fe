use Rattle.std.proofs.Common.{◌+◌, ◌<◌, ◌∙◌, ℕ, length, drop, refl, ap, sym, subst, arith}
use Rattle.std.proofs.lemmas.Result.{err_from_is_err_and}
use Rattle.ca_program.specs.View.{program_view}
use Rattle.ca_parallel.specs.Calls.{invocation_of, invocations_of}
use Rattle.ca_sections.specs.InOrder.{CallEnds, Continues}
use Rattle.ca_sections.proofs.InOrder.{next_call, none_ran, one_ran, one_stopped}
use Rattle.ca_workers.proofs.ahead.run_front.Goals as goal

pub front-init : goal.front-init
front-init g c =
    let r = c.requires in
    let h = c.args.heap.now in
    (none_ran (program_view c.args.program.now) h (invocations_of c.args.calls.now) c.args.left r.heap r.typed, refl, c.begin.ensures h)

pub run_more-requires : goal.run_more-requires
run_more-requires g c =
    let p = program_view c.args.program.now in
    let h = c.args.heap.now in
    let ops = c.args.calls.now in
    let all = invocations_of ops in
    let i = c.front.op-index in
    let lt : i < length ops = omega arith in
    let here = subst (λ (n : ℕ). Continues p h all c.args.left c.front.heap (invocations_of (drop n ops)) c.front.still) c.front.invariant.1 c.front.invariant.0 in
    let going = subst (λ is. Continues p h all c.args.left c.front.heap is c.front.still) (next_call ops i c.op-item.result lt c.op-item.is) here in
    record { program = c.requires.program; heap = going.heap; typed = going.typed.0 }

pub front-preserved : goal.front-preserved
front-preserved g c =
    let p = program_view c.args.program.now in
    let h = c.args.heap.now in
    let ops = c.args.calls.now in
    let all = invocations_of ops in
    let i = c.front.op-index in
    let op = c.op-item.result in
    let lt : i < length ops = omega arith in
    let now = c.front.heap in
    let after = c.run_more.new.heap in
    let k = c.front.still in
    let here = subst (λ (n : ℕ). Continues p h all c.args.left now (invocations_of (drop n ops)) k) c.front.invariant.1 c.front.invariant.0 in
    let going = subst (λ is. Continues p h all c.args.left now is k) (next_call ops i op lt c.op-item.is) here in
    let ran = subst (λ o. CallEnds p now (invocation_of op) k after o) c.in-Some.is c.in_ok-ran.ensures.ran in
    let next = ap (λ (n : ℕ). n + 1) c.front.invariant.1 in (
      subst (λ (n : ℕ). Continues p h all c.args.left after (invocations_of (drop n ops)) c.in-Some.less) (sym next)
          (one_ran p c.requires.program h now after (invocation_of op) (invocations_of (drop (i + 1) ops)) all c.args.left k c.in-Some.less going ran),
      next,
      c.run_more.ensures.before ∙ c.front.invariant.2,
    )

pub returns-in-None : goal.returns-in-None
returns-in-None g c =
    let p = program_view c.args.program.now in
    let h = c.args.heap.now in
    let ops = c.args.calls.now in
    let all = invocations_of ops in
    let i = c.front.op-index in
    let op = c.op-item.result in
    let lt : i < length ops = omega arith in
    let now = c.front.heap in
    let after = c.run_more.new.heap in
    let k = c.front.still in
    let here = subst (λ (n : ℕ). Continues p h all c.args.left now (invocations_of (drop n ops)) k) c.front.invariant.1 c.front.invariant.0 in
    let going = subst (λ is. Continues p h all c.args.left now is k) (next_call ops i op lt c.op-item.is) here in
    let never = subst (λ o. CallEnds p now (invocation_of op) k after o) c.in-None.is c.in_ok-ran.ensures.ran in
    record {
      ran = one_stopped p h now after after (invocation_of op) (invocations_of (drop (i + 1) ops)) all c.args.left k going never;
      before = c.run_more.ensures.before ∙ c.front.invariant.2;
    }

pub returns-in_err-ran : goal.returns-in_err-ran
returns-in_err-ran g c =
    let p = err_from_is_err_and c.from_residual.result c.from_residual.ensures.1 in
    record { ran = rw p.1 tt; before = c.run_more.ensures.before ∙ c.front.invariant.2 }

pub returns-after-front : goal.returns-after-front
returns-after-front g c = record { ran = c.front.invariant.0; before = c.front.invariant.2 }

pub returns-then-stays : goal.returns-then-stays
returns-then-stays g c = record { ran = c.front.invariant.0; before = c.front.invariant.2 }
