use Rattle.std.proofs.Common.{rules, ◌≡◌, ℕ, ◌+◌, ◌*◌, ◌%◌, ◌^◌, drop, drop-cons, sym, subst, ◌∷◌, List}
use Rattle.ca_sums.specs.Sums.{Adds, AddsSum}
use Rattle.ca_sums.specs.Products.{row}
use Rattle.ca_forms.specs.Plain.{PlainMonomial}
use Rattle.ca_forms.specs.Products.{times}
use Rattle.ca_forms.proofs.Rowing.{adds_row_step}
use Rattle.ca_forms.proofs.sums.add_row.Goals as goal

pub loop-other-preserved : goal.loop-other-preserved
loop-other-preserved c =
    let i : ℕ = c.loop-other.other-index in
    let x : PlainMonomial × ℕ = c.other-item.result in
    let one : PlainMonomial × ℕ = c.args.one.now in
    let rest : List (PlainMonomial × ℕ) = drop (i + 1) c.args.others.now in
    let step : drop i c.args.others.now ≡ x ∷ rest = search (rules, drop-cons) in
    let adds : Adds c.loop-other.form.entries c.add_product.new.form.entries (times one.0 x.0) ((((c.args.factor * one.1) % (2 ^ 64)) * x.1) % (2 ^ 64)) = rw (← c.one.view_is, ← c.other.view_is, ← c.in_ok-monomial.ensures) c.in_ok-add_product.ensures.added in
    (c.in_ok-add_product.ensures.nonzero, λ end t. c.loop-other.invariant.1 end (subst (λ z. AddsSum c.loop-other.form.entries end c.args.factor (row times one z)) (sym step) (adds_row_step times c.loop-other.form.entries c.add_product.new.form.entries end c.args.factor one x rest adds t)))
