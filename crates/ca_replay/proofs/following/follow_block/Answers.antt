use Rattle.std.proofs.Common.{◌≡◌, rules, true, false, true≢false, sym, ◌∙◌, subst, arith, MatchOption}
use Rattle.ca_program.specs.View.{program_view}
use Rattle.ca_parallel.specs.Calls.{invocation_of, invocations_of}
use Rattle.ca_beside.specs.Beside.{present}
use Rattle.ca_trace.specs.Laws.{RunsNow}
use Rattle.ca_run.specs.Turns.{RanThis}
use Rattle.ca_replay.proofs.Blocks.{at_start, some_lines, one_on, at_the_end, by_step, by_end, by_other, whole}
use Rattle.ca_replay.proofs.following.follow_block.Goals as goal

pub lines-init : goal.lines-init
lines-init c = (at_start (program_view c.args.program.now) c.args.heap.now (present c.args.heap.now c.args.machine.now.beside) (invocations_of c.args.machine.now.waiting.items) c.args.left c.args.lines.now c.requires.begun, some_lines c.args.lines.now c.requires.begun, c.requires.stands)

pub lines-preserved : goal.lines-preserved
lines-preserved c =
    let p = program_view c.args.program.now in
    let frozen = c.args.heap.now in
    let h = present frozen c.args.machine.now.beside in
    let mid = present frozen c.lines.machine.beside in
    let rest = invocations_of c.lines.machine.waiting.items in
    let after = present frozen c.steps_by.new.machine.beside in
    let more = invocations_of c.steps_by.new.machine.waiting.items in
    let ran = subst (λ r. MatchOption r (¬ RunsNow p frozen mid rest c.lines.still (invocation_of c.in-Step.op)) (λ steps. RanThis p frozen mid rest c.lines.still (invocation_of c.in-Step.op) after more steps)) c.in-Some.is c.in_ok-steps-in-Step.ensures.ran in
    (one_on p frozen h (invocations_of c.args.machine.now.waiting.items) c.args.left c.args.lines.now mid rest c.lines.still c.lines.at c.lines.invariant.0 c.in-Step.op after more c.in-Some.steps _ c.in-Step.is c.lines-test.true c.index-lines-at.is ran, omega (arith, c.lines-test.true), c.steps_by.ensures.stands)

pub returns-in-None : goal.returns-in-None
returns-in-None c =
    let p = program_view c.args.program.now in
    let frozen = c.args.heap.now in
    let h = present frozen c.args.machine.now.beside in
    let mid = present frozen c.lines.machine.beside in
    let rest = invocations_of c.lines.machine.waiting.items in
    let after = present frozen c.steps_by.new.machine.beside in
    let more = invocations_of c.steps_by.new.machine.waiting.items in
    let none = subst (λ r. MatchOption r (¬ RunsNow p frozen mid rest c.lines.still (invocation_of c.in-Step.op)) (λ steps. RanThis p frozen mid rest c.lines.still (invocation_of c.in-Step.op) after more steps)) c.in-None.is c.in_ok-steps-in-Step.ensures.ran in
    by_step p frozen h (invocations_of c.args.machine.now.waiting.items) c.args.left c.args.lines.now mid rest c.lines.still c.lines.at c.lines.invariant.0 _ c.lines-test.true c.index-lines-at.is c.in-Step.op c.in-Step.is none

pub returns-then-not-is_complete : goal.returns-then-not-is_complete
returns-then-not-is_complete c =
    let frozen = c.args.heap.now in
    let no : c.is_complete.result ≡ false = search rules in
    by_end (program_view c.args.program.now) frozen (present frozen c.args.machine.now.beside) (invocations_of c.args.machine.now.waiting.items) c.args.left c.args.lines.now (present frozen c.lines.machine.beside) (invocations_of c.lines.machine.waiting.items) c.lines.still c.lines.at c.lines.invariant.0
    _ c.lines-test.true c.index-lines-at.is c.in-End.is (λ e. true≢false (sym (c.is_complete.ensures.1 e) ∙ no))

pub returns-in-End : goal.returns-in-End
returns-in-End c =
    let frozen = c.args.heap.now in
    let yes_it : c.is_complete.result ≡ true = search rules in
    whole (program_view c.args.program.now) frozen (present frozen c.args.machine.now.beside) (invocations_of c.args.machine.now.waiting.items) c.args.left c.args.lines.now (present frozen c.lines.machine.beside) (invocations_of c.lines.machine.waiting.items) c.lines.still c.lines.at c.lines.invariant.0
    _ c.lines-test.true c.index-lines-at.is c.in-End.is (c.is_complete.ensures.0 yes_it)

pub returns-in_default : goal.returns-in_default
returns-in_default c =
    let frozen = c.args.heap.now in
    by_other (program_view c.args.program.now) frozen (present frozen c.args.machine.now.beside) (invocations_of c.args.machine.now.waiting.items) c.args.left c.args.lines.now (present frozen c.lines.machine.beside) (invocations_of c.lines.machine.waiting.items) c.lines.still c.lines.at c.lines.invariant.0
    _ c.lines-test.true c.index-lines-at.is c.in_default.not-Step c.in_default.not-End

pub returns : goal.returns
returns c =
    let frozen = c.args.heap.now in
    at_the_end (program_view c.args.program.now) frozen (present frozen c.args.machine.now.beside) (invocations_of c.args.machine.now.waiting.items) c.args.left c.args.lines.now (present frozen c.lines.machine.beside) (invocations_of c.lines.machine.waiting.items) c.lines.still c.lines.at c.lines.invariant.0
    (omega (arith, c.lines-test.false))

pub steps_by-requires : goal.steps_by-requires
steps_by-requires c = record { program = c.requires.program; stands = c.lines.invariant.2 }
