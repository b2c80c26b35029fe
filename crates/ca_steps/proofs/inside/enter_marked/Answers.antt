use Rattle.std.proofs.Common.{refl}
use Rattle.ca_steps.specs.Ways.{into_call}
use Rattle.ca_steps.proofs.inside.enter_marked.Goals as goal

pub returns-then-frames-eq0 : goal.returns-then-frames-eq0
returns-then-frames-eq0 g c = refl

pub returns-then-not-lets : goal.returns-then-not-lets
returns-then-not-lets g c = refl

pub returns-in-On : goal.returns-in-On
returns-in-On g c =
    (c.lets-lets.ensures c.if-not-lets.false, into_call c.args.op c.args.first c.args.receiver c.requires.hands (λ w x. rw (c.as_slice.ensures.value, c.in-On.is) at (c.in-Ok.ensures 0 w x)))

pub returns-in_default : goal.returns-in_default
returns-in_default g c = tt

pub returns-in-Err : goal.returns-in-Err
returns-in-Err g c = tt
