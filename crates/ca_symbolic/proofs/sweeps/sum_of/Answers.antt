use Rattle.std.proofs.Common.{ap, ◌∙◌}
use Rattle.ca_symbolic.specs.Demanded.{with_demands}
use Rattle.ca_forms.proofs.Told.{on_ok}
use Rattle.ca_symbolic.proofs.Sweeping.{nothing_more}
use Rattle.ca_symbolic.proofs.sweeps.sum_of.Goals as goal

pub returns-clause-demands : goal.returns-clause-demands
returns-clause-demands c =
    on_ok c.value_of.result _ _ (λ e. e ∙ (ap (with_demands c.args.out.now) (c.requires.sum c.args.state.now c.args.out.now.guard) ∙ nothing_more c.args.out.now)) c.value_of.ensures.demands
