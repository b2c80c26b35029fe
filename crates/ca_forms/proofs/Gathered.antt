-- Polynomials in place of the sums that they are gathered from: what they add to a map is the same.
use Rattle.std.proofs.Common.{◌≡◌, ℕ, ◌+◌, ◌-◌, ◌*◌, ◌%◌, ◌^◌, [], ◌∷◌, ◌++◌, map, refl, sym, ap, ◌∙◌, arith, mul_assoc, true}
use Rattle.ca_sums.specs.Sums.{Sum, total, scale, collect, Adds, AddsSum}
use Rattle.ca_sums.specs.Products.{product}
use Rattle.ca_sums.proofs.Algebra.{alike_refl, alike_eq, alike_trans, alike_add, alike_mul, alike_mod, total_append, total_scale}
use Rattle.ca_sums.proofs.Collect.{total_collect, collect_same, SameCoefficients}
use Rattle.ca_sums.proofs.Products.{SameTotals, same_totals_refl, product_same}
use Rattle.ca_sums.proofs.Additions.{adds_one, adds_both}
use Rattle.ca_forms.specs.Plain.{PlainMonomial}
use Rattle.ca_forms.specs.Lists.{polynomial_of, products_of}
use Rattle.ca_forms.specs.Compare.{monomial_cmp}
use Rattle.ca_forms.specs.Products.{times}
use Rattle.ca_forms.specs.Rules.{gathered, minus, chosen, either, truth_sum, zero_sum, same_numbers, same_truths}
use Rattle.ca_forms.proofs.Exact.{monomials_exact}

pub products_polynomial : (ps : Sum PlainMonomial) → products_of (polynomial_of ps) ≡ ps
products_polynomial [] = refl
products_polynomial (p ∷ ps) = ap (λ z. p ∷ z) (products_polynomial ps)

pub pairs_same : (ps : Sum PlainMonomial) → map (λ e. (e.0, e.1)) ps ≡ ps
pairs_same [] = refl
pairs_same (p ∷ ps) = ap (λ z. p ∷ z) (pairs_same ps)

pub gathered_same_totals : (ps : Sum PlainMonomial) → SameTotals (products_of (gathered ps)) ps
gathered_same_totals ps = record { same = λ f. alike_trans (alike_eq (ap (total f) (products_polynomial (collect monomial_cmp ps)))) (total_collect monomial_cmp monomials_exact f ps) }

adds_same : (a b : Sum PlainMonomial) (k : ℕ) (ps qs : Sum PlainMonomial) → SameTotals ps qs → AddsSum a b k ps → AddsSum a b k qs
adds_same a b k ps qs h g = record { added = λ f. alike_trans (g.added f) (alike_add (alike_refl (total f a)) (alike_mul (alike_refl k) (h.same f))) }

-- the product of two gathered sums is as good as that of the sums
pub adds_gathered : (a b : Sum PlainMonomial) (k : ℕ) (ps qs : Sum PlainMonomial) → AddsSum a b k (product times (products_of (gathered ps)) (products_of (gathered qs))) → AddsSum a b k (product times ps qs)
adds_gathered a b k ps qs h = adds_same a b k _ _ (product_same times _ _ _ _ (gathered_same_totals ps) (gathered_same_totals qs)) h

-- sums of the same totals have one form
pub gathered_same : (ps qs : Sum PlainMonomial) → SameTotals ps qs → gathered ps ≡ gathered qs
unfolding SameCoefficients
gathered_same ps qs h = ap polynomial_of (collect_same monomial_cmp monomials_exact ps qs (λ m. h.same _))

pub append_same : (ps qs rs ss : Sum PlainMonomial) → SameTotals ps qs → SameTotals rs ss → SameTotals (ps ++ rs) (qs ++ ss)
append_same ps qs rs ss h k = record { same = λ f. alike_trans (alike_eq (total_append f ps rs)) (alike_trans (alike_add (h.same f) (k.same f)) (alike_eq (sym (total_append f qs ss)))) }

scaled_same : (d : ℕ) (ps qs : Sum PlainMonomial) → SameTotals ps qs → SameTotals (scale d ps) (scale d qs)
scaled_same d ps qs h = record { same = λ f. alike_trans (alike_eq (total_scale f d ps)) (alike_trans (alike_mul (alike_refl d) (h.same f)) (alike_eq (sym (total_scale f d qs)))) }

pub minus_same : (ps qs : Sum PlainMonomial) → SameTotals ps qs → SameTotals (minus ps) (minus qs)
minus_same ps qs h = scaled_same (2 ^ 64 - 1) ps qs h

-- the difference of two polynomials is that of the sums
pub difference_is : (ps qs : Sum PlainMonomial) → gathered (products_of (gathered ps) ++ minus (products_of (gathered qs))) ≡ gathered (ps ++ minus qs)
difference_is ps qs = gathered_same _ _ (append_same _ _ _ _ (gathered_same_totals ps) (minus_same _ _ (gathered_same_totals qs)))

-- the product with a gathered sum is as good as that with the sum
pub adds_by_gathered : (a b : Sum PlainMonomial) (k : ℕ) (ps qs : Sum PlainMonomial) → AddsSum a b k (product times ps (products_of (gathered qs))) → AddsSum a b k (product times ps qs)
adds_by_gathered a b k ps qs h = adds_same a b k _ _ (product_same times _ _ _ _ (same_totals_refl ps) (gathered_same_totals qs)) h

-- a choice of sums is as good as that of sums of the same totals
adds_choice : (a b : Sum PlainMonomial) (k : ℕ) (cs ds ps rs qs ss : Sum PlainMonomial) → SameTotals cs ds → SameTotals ps rs → SameTotals qs ss → AddsSum a b k (chosen cs ps qs) → AddsSum a b k (chosen ds rs ss)
adds_choice a b k cs ds ps rs qs ss e f g h =
    adds_same a b k _ _ (append_same _ _ _ _ g (product_same times _ _ _ _ e (append_same _ _ _ _ f (minus_same _ _ g)))) h

pub adds_chosen : (a b : Sum PlainMonomial) (k : ℕ) (cs ps qs : Sum PlainMonomial) → AddsSum a b k (chosen (products_of (gathered cs)) (products_of (gathered ps)) (products_of (gathered qs))) → AddsSum a b k (chosen cs ps qs)
adds_chosen a b k cs ps qs h = adds_choice a b k _ _ _ _ _ _ (gathered_same_totals cs) (gathered_same_totals ps) (gathered_same_totals qs) h

-- where the first side stands as it is
pub adds_put : (a b : Sum PlainMonomial) (k : ℕ) (cs ps qs : Sum PlainMonomial) → AddsSum a b k (chosen (products_of (gathered cs)) ps (products_of (gathered qs))) → AddsSum a b k (chosen cs ps qs)
adds_put a b k cs ps qs h = adds_choice a b k _ _ _ _ _ _ (gathered_same_totals cs) (same_totals_refl ps) (gathered_same_totals qs) h

-- where the condition stands as it is
pub adds_sides : (a b : Sum PlainMonomial) (k : ℕ) (cs ps qs : Sum PlainMonomial) → AddsSum a b k (chosen cs (products_of (gathered ps)) (products_of (gathered qs))) → AddsSum a b k (chosen cs ps qs)
adds_sides a b k cs ps qs h = adds_choice a b k _ _ _ _ _ _ (same_totals_refl cs) (gathered_same_totals ps) (gathered_same_totals qs) h

-- the product of a gathered sum with another
pub adds_of_gathered : (a b : Sum PlainMonomial) (k : ℕ) (ps qs : Sum PlainMonomial) → AddsSum a b k (product times (products_of (gathered ps)) qs) → AddsSum a b k (product times ps qs)
adds_of_gathered a b k ps qs h = adds_same a b k _ _ (product_same times _ _ _ _ (gathered_same_totals ps) (same_totals_refl qs)) h

-- so are the tests whether one of two truth values holds and whether two are equal
pub adds_either : (a b : Sum PlainMonomial) (k : ℕ) (ps qs : Sum PlainMonomial) → AddsSum a b k (either (products_of (gathered ps)) (products_of (gathered qs))) → AddsSum a b k (either ps qs)
adds_either a b k ps qs h =
    let p = gathered_same_totals ps in
    let q = gathered_same_totals qs in
    adds_same a b k _ _ (append_same _ _ _ _ p (append_same _ _ _ _ q (minus_same _ _ (product_same times _ _ _ _ p q)))) h

pub adds_same_truths : (a b : Sum PlainMonomial) (k : ℕ) (ps qs : Sum PlainMonomial) → AddsSum a b k (same_truths (products_of (gathered ps)) (products_of (gathered qs))) → AddsSum a b k (same_truths ps qs)
adds_same_truths a b k ps qs h =
    let p = gathered_same_totals ps in
    let q = gathered_same_totals qs in
    adds_same a b k _ _ (append_same _ _ _ _ (same_totals_refl (truth_sum true)) (append_same _ _ _ _ (minus_same _ _ p) (append_same _ _ _ _ (minus_same _ _ q) (scaled_same 2 _ _ (product_same times _ _ _ _ p q))))) h

pub same_numbers_gathered : (ps qs : Sum PlainMonomial) → same_numbers (products_of (gathered ps)) (products_of (gathered qs)) ≡ same_numbers ps qs
same_numbers_gathered ps qs = ap zero_sum (difference_is ps qs)

one_times : (t k g : ℕ) → t + k * g ≡ t + 1 * (k * g)
one_times t k g = omega arith

-- a sum that is added k times
pub adds_factor : (a b : Sum PlainMonomial) (k : ℕ) (ps : Sum PlainMonomial) → AddsSum a b k ps → AddsSum a b 1 (scale k ps)
adds_factor a b k ps h = record { added = λ f. alike_trans (h.added f) (alike_eq (one_times (total f a) k (total f ps) ∙ ap (λ z. total f a + 1 * z) (sym (total_scale f k ps)))) }

pub adds_minus_sum : (a b : Sum PlainMonomial) (ps : Sum PlainMonomial) → AddsSum a b (2 ^ 64 - 1) ps → AddsSum a b 1 (minus ps)
adds_minus_sum a b ps h = adds_factor a b (2 ^ 64 - 1) ps h

pub adds_scaled : (a b : Sum PlainMonomial) (k d : ℕ) (ps : Sum PlainMonomial) → AddsSum a b ((k * d) % (2 ^ 64)) ps → AddsSum a b k (scale d ps)
adds_scaled a b k d ps h = record {
  added = λ f. alike_trans (h.added f) (alike_add (alike_refl (total f a)) (alike_trans (alike_mul (alike_mod (k * d)) (alike_refl (total f ps))) (alike_eq (mul_assoc k d (total f ps) ∙ ap (λ z. k * z) (sym (total_scale f d ps))))));
}

pub adds_more : (a b end : Sum PlainMonomial) (k : ℕ) (x : PlainMonomial × ℕ) (xs : Sum PlainMonomial) → Adds a b x.0 ((k * x.1) % (2 ^ 64)) → AddsSum b end k xs → AddsSum a end k (x ∷ xs)
adds_more a b end k x xs h t = adds_both a b end k (x ∷ []) xs (adds_one a b k x.1 x.0 h) t

pub add_flip : (m n : ℕ) → m + n ≡ n + m
add_flip m n = omega arith

-- with one product more at the end
pub adds_last : (a b end : Sum PlainMonomial) (k : ℕ) (x : PlainMonomial × ℕ) (xs : Sum PlainMonomial) → Adds a b x.0 ((k * x.1) % (2 ^ 64)) → AddsSum b end k xs → AddsSum a end k (xs ++ x ∷ [])
adds_last a b end k x xs h t =
    adds_same a end k ((x ∷ []) ++ xs) (xs ++ x ∷ []) (record { same = λ f. alike_eq (total_append f (x ∷ []) xs ∙ add_flip (total f (x ∷ [])) (total f xs) ∙ sym (total_append f xs (x ∷ []))) }) (adds_both a b end k (x ∷ []) xs (adds_one a b k x.1 x.0 h) t)

once : (n : ℕ) → 1 * n ≡ n
once n = omega arith

-- what is added once
pub gathered_once : (ps qs : Sum PlainMonomial) → gathered (ps ++ scale 1 qs) ≡ gathered (ps ++ qs)
gathered_once ps qs = gathered_same _ _ (append_same ps ps (scale 1 qs) qs (same_totals_refl ps) (record { same = λ f. alike_eq (total_scale f 1 qs ∙ once (total f qs)) }))
