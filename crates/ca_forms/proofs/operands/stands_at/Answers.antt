use Rattle.std.proofs.Common.{sym, ◌∙◌, arith}
use Rattle.ca_forms.specs.Compare.{scalar_cmp}
use Rattle.ca_forms.proofs.Among.{none_there, one_there, other_there}
use Rattle.ca_forms.proofs.operands.stands_at.Goals as goal

pub returns-then-place-items : goal.returns-then-place-items
returns-then-place-items c = none_there scalar_cmp c.args.items.now c.args.place c.args.operand.now (omega (arith, c.if-place-items.true))

pub returns-in-Equal : goal.returns-in-Equal
returns-in-Equal c =
    one_there scalar_cmp c.args.items.now c.args.place c.index-items-place.result c.args.operand.now (omega (arith, c.if-place-items.false)) c.index-items-place.is (sym c.compare.ensures ∙ c.in-Equal.is)

pub returns-in_default : goal.returns-in_default
returns-in_default c =
    other_there scalar_cmp c.args.items.now c.args.place c.index-items-place.result c.args.operand.now (omega (arith, c.if-place-items.false)) c.index-items-place.is (λ e. c.in_default.not-Equal (c.compare.ensures ∙ e))
