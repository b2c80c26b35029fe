use Rattle.std.proofs.Common.{◌+◌, ◌<◌, ◌≤◌, length, drop, refl, ap, ◌∙◌, subst, arith}
use Rattle.std.proofs.lemmas.List.{drop_all}
use Rattle.std.proofs.lemmas.Result.{err_from_is_err_and}
use Rattle.ca_program.specs.View.{program_view}
use Rattle.ca_parallel.specs.Calls.{invocation_of, invocations_of}
use Rattle.ca_sections.specs.InOrder.{CallEnds, Continues}
use Rattle.ca_sections.proofs.InOrder.{all_ran, next_call, none_ran, one_ran, one_stopped}
use Rattle.ca_run.proofs.in_place.run_calls.Goals as goal

pub calls-init : goal.calls-init
calls-init g c =
    let r = c.requires in
    (none_ran (program_view c.args.program.now) c.args.access.now.heap.now (invocations_of c.args.first.now) c.args.left r.heap r.typed, refl, refl, refl, refl)

pub run_call-requires : goal.run_call-requires
run_call-requires g c =
    let p = program_view c.args.program.now in
    let ops = c.args.first.now in
    let i = c.calls.op-index in
    let lt : i < length ops = omega arith in
    let now = c.calls.access.heap.now in
    let going = subst (λ is. Continues p c.args.access.now.heap.now (invocations_of ops) c.args.left now is c.calls.still) (next_call ops i c.op-item.result lt c.op-item.is) c.calls.invariant.0 in
    record { program = c.requires.program; same = c.calls.invariant.4 ∙ c.requires.same; heap = going.heap; typed = going.typed.0 }

pub calls-preserved : goal.calls-preserved
calls-preserved g c =
    let p = program_view c.args.program.now in
    let h = c.args.access.now.heap.now in
    let ops = c.args.first.now in
    let all = invocations_of ops in
    let i = c.calls.op-index in
    let op = c.op-item.result in
    let lt : i < length ops = omega arith in
    let now = c.calls.access.heap.now in
    let after = c.run_call.new.access.heap.now in
    let k = c.calls.still in
    let going = subst (λ is. Continues p h all c.args.left now is k) (next_call ops i op lt c.op-item.is) c.calls.invariant.0 in
    let run = c.run_call.ensures in
    let ran = subst (λ o. CallEnds p now (invocation_of op) k after o) c.in-Some.is c.in_ok-ran.ensures.ran in (
      one_ran p c.requires.program h now after (invocation_of op) (invocations_of (drop (i + 1) ops)) all c.args.left k c.in-Some.left going ran,
      run.before ∙ c.calls.invariant.1,
      run.same_heap ∙ c.calls.invariant.2,
      run.same_kept ∙ c.calls.invariant.3,
      run.same_program ∙ c.calls.invariant.4,
    )

pub returns-in-None : goal.returns-in-None
returns-in-None g c =
    let p = program_view c.args.program.now in
    let h = c.args.access.now.heap.now in
    let ops = c.args.first.now in
    let all = invocations_of ops in
    let i = c.calls.op-index in
    let op = c.op-item.result in
    let lt : i < length ops = omega arith in
    let now = c.calls.access.heap.now in
    let after = c.run_call.new.access.heap.now in
    let k = c.calls.still in
    let going = subst (λ is. Continues p h all c.args.left now is k) (next_call ops i op lt c.op-item.is) c.calls.invariant.0 in
    let run = c.run_call.ensures in
    let never = subst (λ o. CallEnds p now (invocation_of op) k after o) c.in-None.is c.in_ok-ran.ensures.ran in
    record {
      ran = one_stopped p h now after after (invocation_of op) (invocations_of (drop (i + 1) ops)) all c.args.left k going never;
      before = run.before ∙ c.calls.invariant.1;
      same_heap = run.same_heap ∙ c.calls.invariant.2;
      same_kept = run.same_kept ∙ c.calls.invariant.3;
      same_program = run.same_program ∙ c.calls.invariant.4;
    }

pub returns-in_err-ran : goal.returns-in_err-ran
returns-in_err-ran g c =
    let p = err_from_is_err_and c.from_residual.result c.from_residual.ensures.1 in
    let run = c.run_call.ensures in
    record {
      ran = rw p.1 tt;
      before = run.before ∙ c.calls.invariant.1;
      same_heap = run.same_heap ∙ c.calls.invariant.2;
      same_kept = run.same_kept ∙ c.calls.invariant.3;
      same_program = run.same_program ∙ c.calls.invariant.4;
    }

pub returns : goal.returns
returns g c =
    let p = program_view c.args.program.now in
    let ops = c.args.first.now in
    let le : length ops ≤ c.calls.op-index = omega arith in
    let inv = c.calls.invariant in
    record {
      ran = all_ran p c.args.access.now.heap.now c.calls.access.heap.now (invocations_of ops) (invocations_of (drop c.calls.op-index ops)) c.args.left c.calls.still inv.0 (ap invocations_of (drop_all c.calls.op-index ops le));
      before = inv.1;
      same_heap = inv.2;
      same_kept = inv.3;
      same_program = inv.4;
    }
