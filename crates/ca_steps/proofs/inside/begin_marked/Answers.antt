use Rattle.std.proofs.Common.{refl, arith}
use Rattle.ca_steps.specs.Ways.{into_loop}
use Rattle.ca_steps.proofs.inside.begin_marked.Goals as goal

pub returns-in_default : goal.returns-in_default
returns-in_default g c = λ code n line loop tys begins. refl

pub returns-then-frames : goal.returns-then-frames
returns-then-frames g c = λ code n line loop tys begins. refl

pub returns-then-not-lets : goal.returns-then-not-lets
returns-then-not-lets g c = λ code n line loop tys begins. refl

pub returns : goal.returns
returns g c = λ code n line loop tys begins. (c.lets-lets.ensures c.if-not-lets.false, into_loop n line loop tys begins refl)
