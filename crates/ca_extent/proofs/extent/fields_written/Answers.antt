use Rattle.std.proofs.Common.{refl, arith, map}
use Rattle.std.specs.Prelude.{flat_map}
use Rattle.ca_program.specs.View.{method_view}
use Rattle.ca_extent.specs.clauses.Targets.{written_at}
use Rattle.ca_extent.proofs.Walks.{one_more_at, none_left}
use Rattle.ca_extent.proofs.extent.fields_written.Goals as goal

pub loop-n-preserved : goal.loop-n-preserved
loop-n-preserved c = one_more_at (written_at (map method_view c.args.methods.now)) (flat_map (written_at (map method_view c.args.methods.now))) (λ x xs. refl) c.args.ops.now c.loop-n.n-index _ (omega arith) _ _ _ c.loop-n.invariant (rw c.body_at.ensures at c.in_ok-add_all_targets.ensures)

pub returns : goal.returns
returns c = none_left (flat_map (written_at (map method_view c.args.methods.now))) refl c.args.ops.now c.loop-n.n-index (omega arith) _ _ c.loop-n.invariant
