use Rattle.std.proofs.Common.{rules, ◌≡◌, ℕ, ◌+◌, ◌∷◌, drop, drop-cons, sym, ap, ◌∙◌, nat_cmp}
use Rattle.ca_sums.specs.Sums.{Sum}
use Rattle.ca_forms.specs.Plain.{PlainMonomial}
use Rattle.ca_forms.proofs.Opposites.{turned, against, against_tied, against_told}
use Rattle.ca_forms.proofs.sums.against_opposite.Goals as goal

pub returns-in_default : goal.returns-in_default
returns-in_default c =
    let i : ℕ = c.loop-product.product-index in
    let x : PlainMonomial × ℕ = c.product-item.result in
    let rest : Sum PlainMonomial = drop (i + 1) c.args.products.now in
    let step : drop i c.args.products.now ≡ x ∷ rest = search (rules, drop-cons) in
    let told : c.cmp.result ≡ nat_cmp x.1 (turned x).1 = c.cmp.ensures ∙ ap (λ (z : PlainMonomial × ℕ). nat_cmp z.1 (turned z).1) c.product.view_is in
    against_told x rest c.cmp.result told c.in_default.not-Equal ∙ ap against (sym step) ∙ c.loop-product.invariant

pub loop-product-preserved : goal.loop-product-preserved
loop-product-preserved c =
    let i : ℕ = c.loop-product.product-index in
    let x : PlainMonomial × ℕ = c.product-item.result in
    let rest : Sum PlainMonomial = drop (i + 1) c.args.products.now in
    let step : drop i c.args.products.now ≡ x ∷ rest = search (rules, drop-cons) in
    let told : c.cmp.result ≡ nat_cmp x.1 (turned x).1 = c.cmp.ensures ∙ ap (λ (z : PlainMonomial × ℕ). nat_cmp z.1 (turned z).1) c.product.view_is in
    sym (against_tied x rest (sym told ∙ c.in-Equal.is)) ∙ ap against (sym step) ∙ c.loop-product.invariant
