-- Where the first `*/` ends.
use Rattle.std.proofs.Common.{◌≡◌, ℕ, zero, suc, ◌+◌, ◌<◌, ◌≤◌, List, [], ◌∷◌, length, get_or, drop, Bool, true, false, refl, ap, ◌∙◌, subst, arith}
use Rattle.std.specs.Prelude.{Option, Some, None, IfSome, option_map, if◌then◌else◌}
use Rattle.ca_lex.specs.Pieces.{closes, close_len}

-- the first two bytes close, or the others do
pub close_len-drop : (s : List ℕ) (n : ℕ) → n + 1 < length s → close_len (drop n s) ≡ if closes (get_or s n 0) (get_or s (n + 1) 0) then Some 2 else option_map (λ k. k + 1) (close_len (drop (n + 1) s))
close_len-drop [] n h = absurd (omega arith)
close_len-drop (b ∷ []) zero h = absurd (omega arith)
close_len-drop (b ∷ c ∷ s) zero h = refl
close_len-drop (b ∷ s) (suc n) h =
    let e : suc n + 1 ≡ suc (n + 1) = omega arith in
    rw e (close_len-drop s n (omega arith))

-- one byte closes nothing
pub close_len-short : (s : List ℕ) → length s ≤ 1 → close_len s ≡ None
close_len-short [] h = refl
close_len-short (b ∷ []) h = refl
close_len-short (b ∷ c ∷ s) h = absurd (omega arith)

pub close_len-end : (s : List ℕ) (n : ℕ) → length s ≤ n + 1 → close_len (drop n s) ≡ None
close_len-end [] zero h = refl
close_len-end [] (suc n) h = refl
close_len-end (b ∷ s) zero h = close_len-short (b ∷ s) h
close_len-end (b ∷ s) (suc n) h = close_len-end s n (omega arith)

-- one byte further
pub shifted : (o : Option ℕ) (n : ℕ) → option_map (λ k. k + n) (option_map (λ k. k + 1) o) ≡ option_map (λ k. k + (n + 1)) o
shifted None n = refl
shifted (Some k) n = ap Some (omega arith)

-- where the two bytes at n do not close, the first close is behind them
pub close_len-step : (s : List ℕ) (n : ℕ) → n + 1 < length s → closes (get_or s n 0) (get_or s (n + 1) 0) ≡ false → close_len s ≡ option_map (λ k. k + n) (close_len (drop n s)) → close_len s ≡ option_map (λ k. k + (n + 1)) (close_len (drop (n + 1) s))
close_len-step s n h apart same =
    let o = close_len (drop (n + 1) s) in
    same ∙ ap (option_map (λ k. k + n)) (close_len-drop s n h ∙ ap (λ b. if b then Some 2 else option_map (λ k. k + 1) o) apart) ∙ shifted o n

-- where no two bytes are left, none close
pub close_len-none : (s : List ℕ) (n : ℕ) → length s ≤ n + 1 → close_len s ≡ option_map (λ k. k + n) (close_len (drop n s)) → close_len s ≡ None
close_len-none s n h same = same ∙ ap (option_map (λ k. k + n)) (close_len-end s n h)

closed_within : (t : Bool) (o : Option ℕ) (m : ℕ) → 1 ≤ m → IfSome o (λ n. n ≤ m) → IfSome (if t then Some 2 else option_map (λ n. n + 1) o) (λ n. n ≤ m + 1)
closed_within true o m h i = omega arith
closed_within false None m h i = tt
closed_within false (Some n) m h i = omega arith

-- a close lies within the bytes
pub close_len-le : (s : List ℕ) → IfSome (close_len s) (λ n. n ≤ length s)
close_len-le [] = tt
close_len-le (b ∷ []) = tt
close_len-le (b ∷ c ∷ s) =
    let e : length (c ∷ s) + 1 ≡ length (b ∷ c ∷ s) = omega arith in
    subst (λ m. IfSome (close_len (b ∷ c ∷ s)) (λ n. n ≤ m)) e (closed_within (closes b c) (close_len (c ∷ s)) (length (c ∷ s)) (omega arith) (close_len-le (c ∷ s)))
