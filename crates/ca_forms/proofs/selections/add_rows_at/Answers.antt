use Rattle.std.proofs.Common.{rules, ◌≡◌, ℕ, ◌+◌, drop, drop-cons, sym, subst, ◌∷◌}
use Rattle.ca_sums.specs.Sums.{AddsSum}
use Rattle.ca_sums.specs.Products.{product}
use Rattle.ca_sums.proofs.Additions.{adds_both}
use Rattle.ca_forms.specs.Plain.{PlainPolynomial}
use Rattle.ca_forms.specs.Lists.{products_of}
use Rattle.ca_forms.specs.Products.{times}
use Rattle.ca_forms.specs.Arrays.{PlainSpan, PlainRows}
use Rattle.ca_forms.specs.ArrayRules.{lies_in, rows_at}
use Rattle.ca_forms.proofs.selections.add_rows_at.Goals as goal

pub loop-row-preserved : goal.loop-row-preserved
loop-row-preserved c =
    let i : ℕ = c.loop-row.row-index in
    let j : PlainPolynomial = c.args.index.now in
    let x : PlainSpan × PlainPolynomial = c.row-item.result in
    let rest : PlainRows = drop (i + 1) c.args.rows.now in
    let step : drop i c.args.rows.now ≡ x ∷ rest = search (rules, drop-cons) in
    let adds : AddsSum c.loop-row.form.entries c.add_row_at.new.form.entries c.args.factor (product times (lies_in x.0 j) (products_of x.1)) = c.in_ok-add_row_at.ensures.added in
    (c.in_ok-add_row_at.ensures.nonzero, λ end t. c.loop-row.invariant.1 end (subst (λ z. AddsSum c.loop-row.form.entries end c.args.factor (rows_at j z)) (sym step) (adds_both c.loop-row.form.entries c.add_row_at.new.form.entries end c.args.factor (product times (lies_in x.0 j) (products_of x.1)) (rows_at j rest) adds t)))
