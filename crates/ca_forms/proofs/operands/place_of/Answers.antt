use Rattle.std.proofs.Common.{◌≡◌, ◌<◌, ◌+◌, ◌-◌, ◌/◌, ℕ, length, drop, sym, ◌∙◌, arith, subst}
use Rattle.ca_forms.specs.Compare.{scalar_cmp}
use Rattle.ca_forms.specs.clauses.Among.{NotBefore}
use Rattle.ca_forms.proofs.Exact.{scalars_exact}
use Rattle.ca_forms.proofs.Among.{before_half, behind_half, behind_end}
use Rattle.ca_forms.proofs.operands.place_of.Goals as goal

pub halving-init : goal.halving-init
halving-init c = (omega arith, omega arith, tt, behind_end scalar_cmp c.args.items.now (length c.args.items.now) c.args.operand.now (omega arith))

pub halving-preserved-in-Less : goal.halving-preserved-in-Less
halving-preserved-in-Less c =
    let middle : ℕ = c.halving.low + (c.halving.high - c.halving.low) / 2 in
    let inside : middle < length c.args.items.now = omega (arith, c.halving-test.true, c.halving.invariant.0, c.halving.invariant.1) in
    (omega (arith, c.halving-test.true), c.halving.invariant.1, before_half scalar_cmp scalars_exact c.args.items.now middle c.index-items-middle.result c.args.operand.now c.requires inside c.index-items-middle.is (sym c.compare.ensures ∙ c.in-Less.is), c.halving.invariant.3)

pub halving-preserved : goal.halving-preserved
halving-preserved c =
    let middle : ℕ = c.halving.low + (c.halving.high - c.halving.low) / 2 in
    let inside : middle < length c.args.items.now = omega (arith, c.halving-test.true, c.halving.invariant.0, c.halving.invariant.1) in
    (omega (arith, c.halving-test.true), omega (arith, inside), c.halving.invariant.2, behind_half scalar_cmp c.args.items.now middle c.index-items-middle.result c.args.operand.now inside c.index-items-middle.is (λ e. c.in_default.not-Less (c.compare.ensures ∙ e)))

pub halving-smaller-in-Less : goal.halving-smaller-in-Less
halving-smaller-in-Less c = omega (arith, c.halving-test.true)

pub halving-smaller : goal.halving-smaller
halving-smaller c = omega (arith, c.halving-test.true)

pub returns : goal.returns
returns c =
    let same : c.halving.high ≡ c.halving.low = omega (arith, c.halving-test.false, c.halving.invariant.0) in
    (omega (arith, c.halving.invariant.0, c.halving.invariant.1), c.halving.invariant.2, subst (λ n. NotBefore scalar_cmp c.args.operand.now (drop n c.args.items.now)) same c.halving.invariant.3)
