use Rattle.std.proofs.Common.{◌++◌, ◌∷◌, [], refl, ap, arith}
use Rattle.ca_program.specs.View.{program_view}
use Rattle.ca_parallel.specs.Extents.{operation_body}
use Rattle.ca_section.specs.TakesLock.{takes_lock}
use Rattle.ca_extent.proofs.Walks.{one_more_at, none_left}
use Rattle.ca_emit.specs.Annotations.{locked_of, ops_if}
use Rattle.ca_emit.proofs.parallel.add_all_locked.Goals as goal

pub loop-op-init : goal.loop-op-init
loop-op-init c = ap (λ ops. c.args.out.now.items ++ locked_of (program_view c.args.program.now) c.args.extent.now.written ops) c.ops-ops.ensures

pub loop-op-preserved : goal.loop-op-preserved
loop-op-preserved c =
    let p = program_view c.args.program.now in
    let written = c.args.extent.now.written in
    one_more_at (λ op. ops_if (takes_lock written (operation_body p op)) (op ∷ [])) (locked_of p written) (λ x xs. refl) c.ops-ops.result.now c.loop-op.op-index _ (omega arith) _ _ _ c.loop-op.invariant
    (rw c.locks.ensures.exact at c.in_ok-add_op.ensures)

pub returns : goal.returns
returns c = none_left (locked_of (program_view c.args.program.now) c.args.extent.now.written) refl c.ops-ops.result.now c.loop-op.op-index (omega arith) _ _ c.loop-op.invariant
