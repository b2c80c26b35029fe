use Rattle.std.proofs.Common.{◌++◌, refl, sym, ap, ◌∙◌, arith, append-nil}
use Rattle.std.specs.Borrow.{Bor}
use Rattle.ca_tree.specs.declared.tree.MethodNode.{MethodNode}
use Rattle.ca_tree.specs.Plain.{MethodTree}
use Rattle.ca_tree.specs.View.{method_view}
use Rattle.ca_parallel.specs.Lists.{op_in}
use Rattle.ca_plan.specs.Plans.{op_at}
use Rattle.ca_emit.specs.Annotations.{bodies_from, place_if}
use Rattle.ca_emit.specs.clauses.Seen.{methods_seen}
use Rattle.ca_emit.proofs.Picking.{one_at, method_at, none_behind}
use Rattle.ca_emit.proofs.emitting.bodies.Goals as goal

pub loop-n-init : goal.loop-n-init
loop-n-init c = rw c.new-places.ensures.items refl

pub loop-n-preserved : goal.loop-n-preserved
loop-n-preserved c =
    let ops = c.args.ops.now in
    let m = c.index-methods-n.result in
    one_at (bodies_from ops) (λ n (x : MethodTree). place_if (op_in ops (op_at n)) x.at) (λ n x xs. refl) (methods_seen c.args.methods.now) c.loop-n.n (method_view m.now)
    (method_at c.args.methods.now c.loop-n.n m (omega arith) c.index-methods-n.is) _ _ _ c.loop-n.invariant
    ((rw c.is_op_in.ensures at c.in_ok-add_body.ensures) ∙ ap (λ (x : Bor MethodNode). c.loop-n.places.items ++ place_if (op_in ops (op_at c.loop-n.n)) x.now.at) (sym c.index-methods-n.is))

pub returns : goal.returns
returns c =
    sym (append-nil _) ∙ (ap (λ z. c.loop-n.places.items ++ z) (sym (none_behind (bodies_from c.args.ops.now) (λ n. refl) c.args.methods.now c.loop-n.n (omega arith))) ∙ c.loop-n.invariant)
