use Rattle.std.proofs.Common.{rules, ◌≡◌, ℕ, ◌+◌, drop, drop-cons, sym, subst, ◌∷◌, List}
use Rattle.ca_sums.specs.Sums.{AddsSum}
use Rattle.ca_sums.specs.Products.{row, product}
use Rattle.ca_sums.proofs.Additions.{adds_both}
use Rattle.ca_forms.specs.Plain.{PlainMonomial}
use Rattle.ca_forms.specs.Products.{times}
use Rattle.ca_forms.proofs.sums.add_products.Goals as goal

pub loop-one-preserved : goal.loop-one-preserved
loop-one-preserved c =
    let i : ℕ = c.loop-one.one-index in
    let x : PlainMonomial × ℕ = c.one-item.result in
    let rest : List (PlainMonomial × ℕ) = drop (i + 1) c.args.a.now in
    let step : drop i c.args.a.now ≡ x ∷ rest = search (rules, drop-cons) in
    let adds : AddsSum c.loop-one.form.entries c.add_row.new.form.entries c.args.factor (row times x c.args.b.now) = c.in_ok-add_row.ensures.added in
    (c.in_ok-add_row.ensures.nonzero, λ end t. c.loop-one.invariant.1 end (subst (λ z. AddsSum c.loop-one.form.entries end c.args.factor (product times z c.args.b.now)) (sym step) (adds_both c.loop-one.form.entries c.add_row.new.form.entries end c.args.factor (row times x c.args.b.now) (product times rest c.args.b.now) adds t)))
