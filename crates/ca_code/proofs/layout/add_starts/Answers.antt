use Rattle.std.proofs.Common.{◌≡◌, ◌+◌, subst, arith}
use Rattle.ca_program.specs.declared.program.ValueType.TheVariants.{Long}
use Rattle.ca_program.specs.Layout.{starts_code}
use Rattle.ca_code.proofs.Laying.{Leaves, all_left, none_left}
use Rattle.ca_code.proofs.Places.{local_begun, no_local_left}
use Rattle.ca_code.proofs.layout.add_starts.Goals as goal

pub locals-init : goal.locals-init
locals-init c =
    let same : c.args.first ≡ c.args.first + 0 = omega arith in
    subst (λ n. Leaves c.args.rows.now (starts_code c.args.first c.args.tys.now) c.args.rows.now (starts_code n c.args.tys.now)) same (all_left c.args.rows.now (starts_code c.args.first c.args.tys.now))

pub locals-preserved : goal.locals-preserved
locals-preserved c = local_begun c.args.tys.now c.args.first c.locals.i Long (omega arith) c.locals.invariant c.push.ensures

pub returns : goal.returns
returns c = none_left c.locals.invariant (no_local_left c.args.tys.now c.args.first c.locals.i (omega arith))
