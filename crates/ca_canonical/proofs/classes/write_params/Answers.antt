use Rattle.std.proofs.Common.{arith}
use Rattle.ca_canonical.specs.Spell.{spell_params}
use Rattle.ca_canonical.specs.Marks.{tokens}
use Rattle.ca_canonical.specs.clauses.Pens.{Writes}
use Rattle.ca_canonical.proofs.Writing.{nothing, then, all_left, no_token_left}
use Rattle.ca_canonical.proofs.Lists.{comma, param_written, no_param_left}
use Rattle.ca_canonical.proofs.classes.write_params.Goals as goal
use Rattle.ca_canonical.proofs.classes.write_params.Goals.{then-begun, else-begun}

pub params-init : goal.params-init
params-init c = all_left c.sign.new.self (tokens (spell_params c.args.params.now))

pub params-preserved : goal.params-preserved
params-preserved c =
    let before : Writes c.params.pen c.if-begun.pen (comma c.params.begun) = elim c.if-begun.branch [
      | then-begun w ↦ rw (w.pen-is, w.if-begun.true) w.sign-then-begun.ensures
      | else-begun w ↦ rw (w.pen-is, w.if-begun.false) (nothing c.params.pen)
    ] in
    param_written c.params.begun c.args.params.now c.params.param-index c.param-item.result (omega arith) c.param-item.is c.params.invariant before (then c.write_type.ensures c.name.ensures)

pub returns : goal.returns
returns c = then c.sign.ensures (then (no_token_left c.params.invariant (no_param_left c.params.begun c.args.params.now c.params.param-index (omega arith))) c.sign-2.ensures)
