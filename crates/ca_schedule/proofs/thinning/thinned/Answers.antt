use Rattle.std.proofs.Common.{◌≡◌, ◌∙◌, List, ap, subst}
use Rattle.std.specs.Prelude.{Contains}
use Rattle.ca_program.specs.declared.program.OpId.{OpId}
use Rattle.ca_parallel.specs.Lists.{PlainMarks}
use Rattle.ca_schedule.proofs.thinning.thinned.Goals as goal

pub returns : goal.returns
returns c =
    let same : c.as_slice-2.result.now ≡ c.args.marks.now.ops = c.as_slice-2.ensures.value ∙ ap (λ (m : PlainMarks). m.ops) c.marks.view_is in
    record {
      ops = λ op there. subst (λ (xs : List OpId). Contains xs op) same (c.in_ok-ops.ensures op there);
      loops = c.in_ok-loops.ensures ∙ (c.as_slice-3.ensures.value ∙ ap (λ (m : PlainMarks). m.loops) c.marks.view_is);
    }
