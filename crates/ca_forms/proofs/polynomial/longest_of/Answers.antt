use Rattle.std.proofs.Common.{rules, ◌≡◌, ℕ, ◌+◌, ◌∷◌, List, drop, drop-cons, max, length, sym, ap, ◌∙◌, arith}
use Rattle.ca_forms.specs.Plain.{PlainMonomial}
use Rattle.ca_forms.specs.Lists.{longest, polynomial_of, powers_of}
use Rattle.ca_forms.proofs.polynomial.longest_of.Goals as goal

pub loop-product-preserved : goal.loop-product-preserved
loop-product-preserved c =
    let i : ℕ = c.loop-product.product-index in
    let x : PlainMonomial × ℕ = c.product-item.result in
    let rest : List (PlainMonomial × ℕ) = drop (i + 1) c.args.products.now in
    let step : drop i c.args.products.now ≡ x ∷ rest = search (rules, drop-cons) in
    let here : longest (polynomial_of (drop i c.args.products.now)) ≡ max (length (powers_of x.0)) (longest (polynomial_of rest)) = ap (λ ps. longest (polynomial_of ps)) step in
    let count : c.count.result ≡ length (powers_of x.0) = c.count.ensures ∙ ap (λ (p : PlainMonomial × ℕ). length (powers_of p.0)) c.product.view_is in
    let before : max c.loop-product.most (max (length (powers_of x.0)) (longest (polynomial_of rest))) ≡ longest (polynomial_of c.args.products.now) = ap (λ n. max c.loop-product.most n) (sym here) ∙ c.loop-product.invariant in
    let now : c.max-most.result ≡ max c.loop-product.most c.count.result = search rules in
    let after : max c.max-most.result (longest (polynomial_of rest)) ≡ longest (polynomial_of c.args.products.now) = omega (arith, before, count, now) in
    after
