use Rattle.std.proofs.Common.{refl}
use Rattle.ca_symbolic.specs.States.{parameters}
use Rattle.ca_symbolic.proofs.Joining.{all_made}
use Rattle.ca_symbolic.proofs.state.parameters.Goals as goal

pub returns : goal.returns
returns c =
    let i = c.loop-ty.ty-index in
    all_made c.args.types.now i (parameters c.args.group i) refl c.loop-ty-test.false c.loop-ty.terms.items (parameters c.args.group 0 c.args.types.now) c.loop-ty.invariant.1
