use Rattle.std.proofs.Common.{◌≡◌, ◌+◌, suc, ap, ◌∙◌, arith, List}
use Rattle.ca_program.specs.Plain.{PlainProgram}
use Rattle.ca_model.specs.declared.value.Object.{Object}
use Rattle.ca_model.specs.Heaps.{created}
use Rattle.ca_counters.specs.Counters.{counter, counters, starts}
use Rattle.ca_counters.proofs.Counting.{one_more}
use Rattle.ca_counters.proofs.counters.heap.Goals as goal

pub loop-made-preserved : goal.loop-made-preserved
loop-made-preserved c = let i = c.loop-made.invariant in let n = c.loop-made.made in let more : suc n ≡ n + 1 = omega arith in (
  c.in-Ok.ensures.made.1 ∙ (ap (λ (p : PlainProgram). created p counter c.loop-made.heap) c.requires ∙ (ap (λ (h : List Object). created counters counter h) i.0 ∙ (one_more n ∙ ap starts more))),
  (let t = c.loop-made-test.true in omega arith),
)
