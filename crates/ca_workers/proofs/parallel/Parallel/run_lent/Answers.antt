use Rattle.std.proofs.Common.{◌≡◌, ◌++◌, List, IfOk, MatchOption, drop, map, sym, subst}
use Rattle.ca_program.specs.View.{program_view}
use Rattle.ca_meaning.specs.Expressions.{Invocation}
use Rattle.ca_parallel.specs.Calls.{invocations_of, operation_of}
use Rattle.ca_sections.specs.InOrder.{Continues}
use Rattle.ca_undo.specs.Puts.{before}
use Rattle.ca_workers.specs.clauses.Ahead.{RanFront, WaitFrom}
use Rattle.ca_workers.specs.clauses.Runs.{Placed}
use Rattle.ca_workers.proofs.InHeap.{ahead_kept, ahead_placed, fewer_inside, later, lent_behind, never_within, undone}
use Rattle.ca_workers.proofs.parallel.Parallel.run_lent.Goals as goal

pub begin_ahead-requires-clause-program : goal.begin_ahead-requires-clause-program
begin_ahead-requires-clause-program g c κs o = c.requires.waits.setting.program

pub begin_ahead-requires-clause-heap : goal.begin_ahead-requires-clause-heap
begin_ahead-requires-clause-heap g c κs o = c.requires.waits.setting.heap

pub begin_ahead-requires-clause-typed : goal.begin_ahead-requires-clause-typed
begin_ahead-requires-clause-typed g c κs o = c.requires.waits.waits.typed

-- one of the first ones isn't done
pub returns-in-None : goal.returns-in-None
returns-in-None g c =
    let p = program_view c.args.program.now in
    let h = c.args.heap.now in
    let ops = c.args.calls.now in
    let here = c.begin_ahead.new.heap in
    let w = c.requires.waits in
    let never = subst (λ o. RanFront p h ops c.args.left here o) c.in-None.is c.in_ok-begun.ensures.ran in
    let same = subst (λ o. MatchOption o (here ≡ h) (λ _. before c.begin_ahead.new.self.one.kept here ≡ h)) c.in-None.is c.in_ok-begun.ensures.before in
    record { placed = (never_within p w.extent h w.setting (invocations_of ops) w.waits c.args.left here never, same); kept = tt }

pub run_alone_first-ended-requires-clause-waits : goal.run_alone_first-ended-requires-clause-waits
run_alone_first-ended-requires-clause-waits g c κs o =
    let p = program_view c.args.program.now in
    let h = c.args.heap.now in
    let ops = c.args.calls.now in
    let here = c.begin_ahead.new.heap in
    let n = c.in-Some.front.count in
    let go : Continues p h (invocations_of ops) c.args.left here (invocations_of (drop n ops)) c.in-Some.front.left =
    subst (λ o. RanFront p h ops c.args.left here o) c.in-Some.is c.in_ok-begun.ensures.ran in
    subst (λ (is : List Invocation). WaitFrom p here (map operation_of ops) is) (sym (lent_behind ops c.behind-rest.result.now c.new-none.result.items n c.behind-rest.ensures c.new-none.ensures.items))
    (later p h (map operation_of ops) ops n c.requires.waits c.args.left c.in-Some.front.left here go)

pub returns : goal.returns
returns g c =
    let p = program_view c.args.program.now in
    let h = c.args.heap.now in
    let ops = c.args.calls.now in
    let here = c.begin_ahead.new.heap in
    let n = c.in-Some.front.count in
    let left = c.in-Some.front.left in
    let w = c.requires.waits in
    let ran = c.run_alone_first-ended in
    let last = ran.new.heap in
    let kept = ran.new.self.one.kept in
    let rest = invocations_of (drop n ops) in
    let go : Continues p h (invocations_of ops) c.args.left here rest left = subst (λ o. RanFront p h ops c.args.left here o) c.in-Some.is c.in_ok-begun.ensures.ran in
    let back : before c.begin_ahead.new.self.one.kept here ≡ h = subst (λ o. MatchOption o (here ≡ h) (λ _. before c.begin_ahead.new.self.one.kept here ≡ h)) c.in-Some.is c.in_ok-begun.ensures.before in
    let told = subst (λ (is : List Invocation). IfOk ran.result (Placed p here here is left last)) (lent_behind ops c.behind-rest.result.now c.new-none.result.items n c.behind-rest.ensures c.new-none.ensures.items) ran.ensures.placed in
    let inside = fewer_inside w.extent ops n w.waits.inside in
    let whole = before kept last in
    record {
      placed = ahead_placed p w.extent h w.setting (invocations_of ops) w.waits c.args.left here rest left go inside last whole (λ e. undone kept c.begin_ahead.new.self.one.kept last here h ran.ensures.one e back) c.end_ahead.new.heap ran.result c.end_ahead.result told c.end_ahead.ensures;
      kept = ahead_kept p w.extent h w.setting (invocations_of ops) w.waits c.args.left here rest left go inside last whole (λ e. undone kept c.begin_ahead.new.self.one.kept last here h ran.ensures.one e back) c.end_ahead.new.heap ran.result c.end_ahead.result ran.ensures.kept c.end_ahead.ensures;
    }
