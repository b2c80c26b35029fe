use Rattle.std.proofs.Common.{◌≡◌, true, false, sym, ◌∙◌, append-nil}
use Rattle.ca_parallel.specs.Lists.{op_in}
use Rattle.ca_plan.specs.Plans.{op_at}
use Rattle.ca_emit.proofs.emitting.add_sites_in.Goals as goal

pub returns-in_ok-add_parallel : goal.returns-in_ok-add_parallel
returns-in_ok-add_parallel c =
    let free : op_in c.args.parallel.now (op_at c.args.n) ≡ false = sym c.is_op_in.ensures ∙ c.if-not-is_op_in.true in
    rw free (rw (c.body_at.ensures, c.deref.ensures.value, c.deref-then-not-is_op_in.ensures.value) at c.in_ok-add_parallel.ensures)

pub returns-else-not-is_op_in : goal.returns-else-not-is_op_in
returns-else-not-is_op_in c =
    let held : op_in c.args.parallel.now (op_at c.args.n) ≡ true = sym c.is_op_in.ensures ∙ c.if-not-is_op_in.false in
    rw held (sym (append-nil c.args.out.now.items))
