use Rattle.std.proofs.Common.{◌<◌, length, sym, ap, ◌∙◌, arith, true≢false}
use Rattle.ca_forms.specs.Lists.{products_of}
use Rattle.ca_forms.specs.Rules.{gathered}
use Rattle.ca_norm.specs.Forms.{expand}
use Rattle.ca_symbolic.specs.declared.demand.Group.{Group}
use Rattle.ca_verdicts.proofs.SeenMarks.{group_products}
use Rattle.ca_verdicts.proofs.sums.seen.is_one.Goals as goal

pub returns-then-place-first : goal.returns-then-place-first
returns-then-place-first c = λ e. absurd (true≢false (sym e))

pub returns-then-there-second : goal.returns-then-there-second
returns-then-there-second c = λ e. absurd (true≢false (sym e))

pub returns : goal.returns
returns c =
    let g : Group = c.index-first-place.result in
    let h : Group = c.index-second-there.result in
    let in_first : c.args.number < length c.args.first.now = omega (arith, c.if-place-first.false) in
    let in_second : c.args.other < length c.args.second.now = omega (arith, c.if-there-second.false) in
    λ same.
    group_products c.args.first.now c.args.number g in_first c.index-first-place.is
    ∙ (ap (λ t. products_of (gathered (expand t))) (c.is_same.ensures same) ∙ sym (group_products c.args.second.now c.args.other h in_second c.index-second-there.is))
