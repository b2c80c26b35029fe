use Rattle.std.proofs.Common.{ap, ◌∙◌, refl}
use Rattle.ca_program.specs.View.{program_view, statement_view}
use Rattle.ca_meaning.specs.Sections.{loop_section}
use Rattle.ca_sections.proofs.Looping.{locals_left, locals_taken}
use Rattle.ca_sections.proofs.loops.section_of_loop.Goals as goal

pub run_loop-requires : goal.run_loop-requires
run_loop-requires c = record { runs = c.requires.runs }

pub returns-in-Done : goal.returns-in-Done
returns-in-Done c =
    let p = program_view c.args.program.now in
    let s = statement_view c.args.s.now in
    let ls = c.args.locals.now.items in
    let is = loop_section p c.args.frozen.now c.args.this ls c.args.line s c.args.left in
    let told = rw c.as_slice.ensures.value at c.in_ok-answer.ensures.answer in
    let left = rw c.as_slice.ensures.value at c.in_ok-answer.ensures.locals in
    let answer = told refl p c.args.line s c.fitting-fitting.ensures c.requires.laid c.requires.there in
    let locals = left refl p c.args.line s c.fitting-fitting.ensures c.requires.laid c.requires.there in
    record {
      answer = answer;
      locals = λ none. ap (λ v. v.items) c.swap.ensures.y_after ∙ locals_taken c.in_ok-answer.answer c.in-Done.steps is c.args.out.now.items c.run_loop.new.out.items _ ls c.in-Done.is (answer none) (locals none);
      kept = tt;
    }

pub returns-in_default : goal.returns-in_default
returns-in_default c =
    let p = program_view c.args.program.now in
    let s = statement_view c.args.s.now in
    let ls = c.args.locals.now.items in
    let is = loop_section p c.args.frozen.now c.args.this ls c.args.line s c.args.left in
    let told = rw c.as_slice.ensures.value at c.in_ok-answer.ensures.answer in
    let answer = told refl p c.args.line s c.fitting-fitting.ensures c.requires.laid c.requires.there in
    record {
      answer = answer;
      locals = λ none. locals_left c.in_ok-answer.answer is c.args.out.now.items c.run_loop.new.out.items ls c.in_default.not-Done (answer none);
      kept = tt;
    }
