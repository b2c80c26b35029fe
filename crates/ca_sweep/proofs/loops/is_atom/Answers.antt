use Rattle.std.proofs.Common.{sym, ap, ◌∙◌}
use Rattle.ca_program.specs.View.{expression_view}
use Rattle.ca_sweep.specs.Sweeps.{is_atom}
use Rattle.ca_sweep.specs.Found.{known}
use Rattle.ca_sweep.proofs.loops.is_atom.Goals as goal

pub returns-in-Local : goal.returns-in-Local
returns-in-Local c =
    c.may_name.ensures c.args.written.now ∙ sym (ap (λ e. is_atom (known c.args.counter.0 c.args.below c.args.written.now) (expression_view e)) c.in-Local.is)

pub returns-in-Own : goal.returns-in-Own
returns-in-Own c =
    c.may_read.ensures c.args.counter.0 c.args.below ∙ sym (ap (λ e. is_atom (known c.args.counter.0 c.args.below c.args.written.now) (expression_view e)) c.in-Own.is)
