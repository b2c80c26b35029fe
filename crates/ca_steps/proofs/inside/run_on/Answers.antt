use Rattle.std.proofs.Common.{refl, sym}
use Rattle.ca_steps.proofs.inside.run_on.Goals as goal

pub returns : goal.returns
returns g c = record {
  event = rw (c.of-gated.ensures.program, c.of-gated.ensures.heap, c.replace-heap.ensures.value, sym c.swap.ensures.x_after) at c.run_past-event.ensures.event;
  program = refl;
}
