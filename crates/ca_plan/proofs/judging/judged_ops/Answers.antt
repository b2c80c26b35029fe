use Rattle.std.proofs.Common.{[], ◌∷◌, length, arith, ap, length-append}
use Rattle.ca_program.specs.View.{program_view}
use Rattle.ca_plan.proofs.Judgements.{more_ops, none_shared}
use Rattle.ca_plan.proofs.judging.judged_ops.Goals as goal

pub loop-n-init : goal.loop-n-init
loop-n-init c = record {
  as_many = ap length c.new-ops.ensures.items;
  each = λ n j e. absurd (none_shared _ c.new-ops.ensures.items n j e);
  kept = c.requires;
}

pub loop-n-preserved : goal.loop-n-preserved
loop-n-preserved c = record {
  as_many = omega (arith, ap length c.in_ok-push.ensures.items, length-append c.loop-n.ops.items (c.in_ok-judged.judged ∷ []), c.loop-n.invariant.as_many);
  each = more_ops (program_view c.args.program.now) c.loop-n.ops.items _ c.in_ok-judged.judged c.loop-n.n c.in_ok-push.ensures.items c.loop-n.invariant.as_many c.loop-n.invariant.each
      (record { extent = c.in_ok-judged.ensures.extent; told = c.in_ok-judged.ensures.told });
  kept = c.in_ok-judged.ensures.kept;
}
