-- The total of a product of sums, and that it is the same for sums of the same totals.
use Rattle.std.proofs.Common.{◌≡◌, ℕ, ◌+◌, ◌*◌, [], ◌∷◌, refl, sym, ap, ap₂, ◌∙◌, arith, mul-zero}
use Rattle.ca_sums.specs.Sums.{Sum, total, Alike}
use Rattle.ca_sums.specs.Products.{row, product}
use Rattle.ca_sums.proofs.Algebra.{alike_refl, alike_eq, alike_sym, alike_trans, alike_add, alike_mul, total_append}

-- the two sums come to the same, whatever the monomials stand for
pub record SameTotals {M : Type 0} (ps qs : Sum M) : Type 0 where
  pub same : (f : M → ℕ) → Alike (total f ps) (total f qs)

pub same_totals_refl : {M : Type 0} (ps : Sum M) → SameTotals ps ps
same_totals_refl ps = record { same = λ f. alike_refl (total f ps) }

pub same_totals_sym : {M : Type 0} (ps qs : Sum M) → SameTotals ps qs → SameTotals qs ps
same_totals_sym ps qs h = record { same = λ f. alike_sym (h.same f) }

module _ {M : Type 0} (mul : M → M → M) where
  row_step : (c d g t : ℕ) → (c * d) * g + c * t ≡ c * (d * g + t)
  row_step c d g t = grind arith

  pub total_row : (f : M → ℕ) (p : M × ℕ) (qs : Sum M) → total f (row mul p qs) ≡ p.1 * total (λ n. f (mul p.0 n)) qs
  total_row f p [] = sym (mul-zero p.1)
  total_row f p (q ∷ qs) = ap (λ k. (p.1 * q.1) * f (mul p.0 q.0) + k) (total_row f p qs) ∙ row_step p.1 q.1 (f (mul p.0 q.0)) (total (λ n. f (mul p.0 n)) qs)

  -- the total of a product, one sum inside the other
  pub total_product : (f : M → ℕ) (ps qs : Sum M) → total f (product mul ps qs) ≡ total (λ m. total (λ n. f (mul m n)) qs) ps
  total_product f [] qs = refl
  total_product f (p ∷ ps) qs = total_append f (row mul p qs) (product mul ps qs) ∙ ap₂ (λ a b. a + b) (total_row f p qs) (total_product f ps qs)

  total_alike : (f g : M → ℕ) → ((m : M) → Alike (f m) (g m)) → (ps : Sum M) → Alike (total f ps) (total g ps)
  total_alike f g h [] = alike_refl 0
  total_alike f g h (p ∷ ps) = alike_add (alike_mul (alike_refl p.1) (h p.0)) (total_alike f g h ps)

  -- products of sums of the same totals have the same totals
  pub product_same : (ps qs rs ss : Sum M) → SameTotals ps qs → SameTotals rs ss → SameTotals (product mul ps rs) (product mul qs ss)
  product_same ps qs rs ss h k = record {
    same = λ f. alike_trans (alike_eq (total_product f ps rs))
        (alike_trans (h.same (λ m. total (λ n. f (mul m n)) rs))
        (alike_trans (total_alike _ _ (λ m. k.same (λ n. f (mul m n))) qs) (alike_eq (sym (total_product f qs ss)))));
  }

  -- where a product is worth the product, so is a product of sums
  total_factor : (v : M → ℕ) (c : ℕ) (qs : Sum M) → total (λ n. c * v n) qs ≡ c * total v qs
  total_factor v c [] = sym (mul-zero c)
  total_factor v c (q ∷ qs) = ap (λ k. q.1 * (c * v q.0) + k) (total_factor v c qs) ∙ factor_step q.1 c (v q.0) (total v qs)
    where
      factor_step : (d c g t : ℕ) → d * (c * g) + c * t ≡ c * (d * g + t)
      factor_step d c g t = grind arith

  total_times : (v : M → ℕ) (k : ℕ) (ps : Sum M) → total (λ m. v m * k) ps ≡ total v ps * k
  total_times v k [] = no_times k
    where
      no_times : (k : ℕ) → 0 ≡ 0 * k
      no_times k = omega arith
  total_times v k (p ∷ ps) = ap (λ z. p.1 * (v p.0 * k) + z) (total_times v k ps) ∙ times_step p.1 (v p.0) k (total v ps)
    where
      times_step : (d g k t : ℕ) → d * (g * k) + t * k ≡ (d * g + t) * k
      times_step d g k t = grind arith

  pub product_means : (v : M → ℕ) → ((m n : M) → Alike (v (mul m n)) (v m * v n)) → (ps qs : Sum M) → Alike (total v (product mul ps qs)) (total v ps * total v qs)
  product_means v h ps qs = alike_trans (alike_eq (total_product v ps qs)) (alike_trans (total_alike _ _ (λ m. alike_trans (total_alike _ _ (λ n. h m n) qs) (alike_eq (total_factor v (v m) qs))) ps) (alike_eq (total_times v (total v qs) ps)))
