use Rattle.std.proofs.Common.{◌≡◌, sym, ap, subst, ◌∙◌}
use Rattle.ca_program.specs.View.{form_view}
use Rattle.ca_symbolic.specs.OtherLoops.{other_loop}
use Rattle.ca_symbolic.proofs.Told.{other_for}
use Rattle.ca_symbolic.proofs.loops.+other.Goals as goal
use Rattle.ca_sweep.proofs.Blocks.{block_view}

pub other_loop-returns-in-Block : goal.other_loop-returns-in-Block
other_loop-returns-in-Block t c =
    subst (λ x. c.other_loop_in.result ≡ other_loop c.args.params c.args.written.now x) (sym (block_view c.args.s.now c.in-Block.stmts c.in-Block.is)) (rw c.deref.ensures.value at c.other_loop_in.ensures)

pub other_loop-returns-in-For : goal.other_loop-returns-in-For
other_loop-returns-in-For t c =
    c.line_of_loop.ensures ∙ other_for c.args.params c.args.written.now _ _ _ _ _ _ _ _ (ap (λ k. form_view k c.args.s.now.line) c.in-For.is)
