-- Numbers that are found by halving.
use Rattle.std.proofs.Common.{◌≡◌, ◌<◌, ◌≤◌, ◌⊎◌, inl, inr, ℕ, Bool, true, false, List, length, get_or, Result, Ok, Err, refl, sym, arith}
use Rattle.std.specs.Prelude.{nat_eq, is_ok, MatchResult}
use Rattle.std.proofs.lemmas.Bool.{eq-eqb, eqb-true, cases_lt}
use Rattle.std.proofs.lemmas.List.Folds.{list_any_at, list_any_none}
use Rattle.std.proofs.lemmas.List.{get_or_default}
use Rattle.ca_emit.specs.Annotations.{number_in}

different : (a b : ℕ) → ((a ≡ b) → ⊥) → nat_eq a b ≡ false
different a b n = at (nat_eq a b) refl
  where
    at : (t : Bool) → nat_eq a b ≡ t → t ≡ false
    at true e = absurd (n (eqb-true a b e))
    at false e = refl

apart : (xs : List ℕ) (n i : ℕ) → ((k : ℕ) → k < i → get_or xs k 0 < n) → ((k : ℕ) → i ≤ k → k < length xs → n < get_or xs k 0) → (k d : ℕ) → k < length xs → get_or xs k d ≡ n → ⊥
apart xs n i below above k d l e = at (cases_lt k i)
  where
    at : (k < i) ⊎ (i ≤ k) → ⊥
    at (inl h) = let less : get_or xs k 0 < n = below k h in let same : get_or xs k d ≡ get_or xs k 0 = get_or_default xs k d 0 l in omega (arith, less, same, e)
    at (inr h) = let more : n < get_or xs k 0 = above k h l in let same : get_or xs k d ≡ get_or xs k 0 = get_or_default xs k d 0 l in omega (arith, more, same, e)

pub decided : (xs : List ℕ) (n : ℕ) (r : Result ℕ ℕ) → MatchResult r (λ i. (i < length xs) × (get_or xs i 0 ≡ n)) (λ i. (i ≤ length xs) × ((k : ℕ) → k < i → get_or xs k 0 < n) × ((k : ℕ) → i ≤ k → k < length xs → n < get_or xs k 0)) → is_ok r ≡ number_in xs n
decided xs n (Ok i) m = sym (list_any_at (λ m. nat_eq m n) xs i 0 m.0 (eq-eqb (get_or xs i 0) n m.1))
decided xs n (Err i) m = sym (list_any_none (λ m. nat_eq m n) xs (λ k d l. different (get_or xs k d) n (λ e. apart xs n i m.1 m.2 k d l e)))
