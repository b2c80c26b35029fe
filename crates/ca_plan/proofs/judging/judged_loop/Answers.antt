use Rattle.std.proofs.Common.{◌≡◌, ◌++◌, List, sym, ap, ◌∙◌, subst}
use Rattle.std.proofs.lemmas.Bool.{both_ways}
use Rattle.ca_program.specs.declared.program.OpId.{OpId}
use Rattle.ca_program.specs.View.{program_view, statement_view}
use Rattle.ca_parallel.specs.Bodies.{calls_of}
use Rattle.ca_parallel.specs.ExtentsOf.{ExtentOf}
use Rattle.ca_section.proofs.HeldCalls.{line_is}
use Rattle.ca_plan.proofs.Made.{judged}
use Rattle.ca_plan.proofs.judging.judged_loop.Goals as goal

pub unreachable-unreachable : goal.unreachable-unreachable
unreachable-unreachable c = both_ways _ c.in_default.ensures.none c.requires.form

pub returns-clause-judged : goal.returns-clause-judged
returns-clause-judged c =
    let roots : c.deref.result.now ≡ calls_of (statement_view c.args.s.now) = c.deref.ensures.value ∙ c.in_ok-add_calls.ensures ∙ ap (λ z. z ++ calls_of (statement_view c.args.s.now)) c.new-roots.ensures.items in
    record {
      site = c.in-Some.ensures.some;
      line = sym (line_is c.args.s.now);
      judged = judged (program_view c.args.program.now) (calls_of (statement_view c.args.s.now)) c.in_ok-judged.judged.value
          (subst (λ (z : List OpId). ExtentOf (program_view c.args.program.now) z c.in_ok-judged.judged.value.extent) roots c.in_ok-judged.ensures.extent) c.in_ok-judged.ensures.told;
    }
