use Rattle.std.proofs.Common.{sym, ap, ◌∙◌}
use Rattle.std.proofs.lemmas.Bool.{eqb-true}
use Rattle.ca_program.specs.declared.program.OpId.{OpId}
use Rattle.ca_plan.proofs.Knowing.{on_two}
use Rattle.ca_plan.proofs.known.is_on.Goals as goal

pub returns : goal.returns
returns c = λ t.
    on_two c.args.a c.args.b c.args.pair.now (ap (λ (o : OpId). o.0) (sym c.first.ensures) ∙ c.if-first-a.false) (ap (λ (o : OpId). o.0) (sym c.second.ensures) ∙ eqb-true c.second.result.0 c.args.b.0 t)
