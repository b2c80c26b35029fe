-- A small grammar, digits with commas between up to a closing sign, read by the lemmas as a parser would.
use Rattle.std.proofs.Common.{◌≡◌, ℕ, ◌≤◌, List, [], ◌∷◌, ◌++◌, length, length-append, Option, Some, None, ◌⊎◌, inl, inr, refl, ap, arith}
use Rattle.ca_descent.specs.Exact.{Unlimited, Wrong, TooDeep, Got, Failed, Exact, Sees, sees, head_of, prefixed, image, Separated, Before, Short}
use Rattle.ca_descent.specs.Whole.{FirstWrong}
use Rattle.ca_descent.proofs.Exact.{sees_ok, exact_map}
use Rattle.ca_descent.proofs.Separated.{Punctuated, separated_more, following_more, following_stop, following_missing}
use Rattle.ca_descent.proofs.Short.{short_got, past_got}
use Rattle.ca_descent.proofs.OneAnswer.{one_wrong}
use Rattle.ca_descent.proofs.Whole.{All, whole_got, whole_wrong, wrong_derives_none, deep_derives_none}

data Token : Type 0 where
  Comma Close : Token
  Digit : ℕ → Token

abbrev comma : Token → Option ℕ
comma Comma = Some 0
comma Close = None
comma (Digit n) = None

abbrev close : Token → Option ℕ
close Comma = None
close Close = Some 0
close (Digit n) = None

abbrev digit : Token → Option ℕ
digit Comma = None
digit Close = None
digit (Digit n) = Some n

abbrev Digits : ℕ → List Token → List ℕ → List Token → Type 0
Digits = Separated (Unlimited (Sees digit)) comma close

first_token : head_of digit (Digit 3 ∷ Comma ∷ []) ≡ Some 3
first_token = refl

in_front : prefixed {T = Token} {A = ℕ} (1 ∷ []) (Got (2 ∷ []) (Close ∷ [])) ≡ Got (1 ∷ 2 ∷ []) (Close ∷ [])
in_front = refl

changed : image (λ n. Digit n) (Got 2 (Close ∷ [])) ≡ Got (Digit 2) (Close ∷ [])
changed = refl

not_both : (t : Token) (n : ℕ) → comma t ≡ Some n → close t ≡ None
not_both Comma n e = refl
not_both Close n e = absurd cc
not_both (Digit k) n e = refl

no_digit_closes : (s r : List Token) (n : ℕ) → Sees digit s n r → head_of close s ≡ None
no_digit_closes s r n (sees {t = Comma} e) = refl
no_digit_closes s r n (sees {t = Close} e) = absurd cc
no_digit_closes s r n (sees {t = Digit k} e) = refl

digits : Punctuated (Unlimited (Sees digit)) (Unlimited (Sees digit)) comma close
digits = record {
  before_comma = λ free s q n e d h. d;
  before_close = λ free s q n e d h. d;
  begins = λ free s r n d. no_digit_closes s r n d;
  apart = not_both;
  token = Close;
  carried = 0;
  closes = refl;
}

-- `2 , 3 )` is read whole
two_read : Exact Digits Digits (Digit 2 ∷ Comma ∷ Digit 3 ∷ Close ∷ []) (Got (2 ∷ 3 ∷ []) [])
two_read = separated_more digits refl (sees_ok digit refl refl)
    (following_more digits refl refl (sees_ok digit refl refl) (following_stop digits refl refl))

-- and derives that list alone
two_alone : Digits 0 (Digit 2 ∷ Comma ∷ Digit 3 ∷ Close ∷ []) (2 ∷ 3 ∷ []) []
    × ((free : ℕ) (ns : List ℕ) → Digits free (Digit 2 ∷ Comma ∷ Digit 3 ∷ Close ∷ []) ns [] → ns ≡ 2 ∷ 3 ∷ [])
two_alone = whole_got two_read refl (λ free s ns d. d)

-- An answer that is not this one is not exact: no token is wrong or past a limit, and no other list is read.
two_not_wrong : (q : List Token) → Exact Digits Digits (Digit 2 ∷ Comma ∷ Digit 3 ∷ Close ∷ []) (Failed (Wrong q)) → ⊥
two_not_wrong q d = wrong_derives_none d (λ free s ns d. d) 0 (2 ∷ 3 ∷ []) two_alone.0

two_not_deep : (q : List Token) → Exact Digits Digits (Digit 2 ∷ Comma ∷ Digit 3 ∷ Close ∷ []) (Failed (TooDeep q)) → ⊥
two_not_deep q d = deep_derives_none d (λ free s ns d. d) (2 ∷ 3 ∷ []) two_alone.0

two_not_one : Exact Digits Digits (Digit 2 ∷ Comma ∷ Digit 3 ∷ Close ∷ []) (Got (2 ∷ []) []) → ⊥
two_not_one d = omega (arith, ap length ((whole_got d refl (λ free s ns d. d)).1 0 (2 ∷ 3 ∷ []) two_alone.0))

-- in `2 3` the second token is the first wrong one
second_wrong : FirstWrong (All Digits) (Digit 2 ∷ Digit 3 ∷ []) 1
second_wrong = whole_wrong (separated_more digits refl (sees_ok digit refl refl) (following_missing digits refl refl))
    (λ free s ns d. d)

-- and the third is not
third_not_wrong : FirstWrong (All Digits) (Digit 2 ∷ Digit 3 ∷ []) 2 → ⊥
third_not_wrong w = let same = one_wrong _ 2 1 w second_wrong in absurd cc

-- where a digit may have no token, the token of one passes the limit
digit_passes : Exact (Short 0 (Sees digit)) (Before comma (Short 0 (Sees digit))) (Digit 3 ∷ Close ∷ [])
    (Failed (TooDeep (Digit 3 ∷ Close ∷ [])))
digit_passes = past_got {q = []} (exact_map (λ free s r n d. d) (λ free s r n c. c.it) (sees_ok digit refl refl)) (omega arith)

-- and is not read
digit_not_read : Exact (Short 0 (Sees digit)) (Before comma (Short 0 (Sees digit))) (Digit 3 ∷ Close ∷ []) (Got 3 (Close ∷ [])) → ⊥
digit_not_read d = let r = d.meets.reads 0 [] in at r.within
  where
    at : (length (d.meets.reads 0 []).front ≤ 0) ⊎ (length (d.meets.front ++ []) ≤ 0) → ⊥
    at (inl h) = omega (arith, h, ap length d.meets.cut, ap length (d.meets.reads 0 []).cut, length-append d.meets.front (Close ∷ []), length-append d.meets.front [], length-append (d.meets.reads 0 []).front [])
    at (inr h) = omega (arith, h, ap length d.meets.cut, length-append d.meets.front (Close ∷ []), length-append d.meets.front [])

-- where it may have one, it is read
digit_read : Exact (Short 1 (Sees digit)) (Before comma (Short 1 (Sees digit))) (Digit 3 ∷ Close ∷ []) (Got 3 (Close ∷ []))
digit_read = short_got {q = Close ∷ []} (exact_map (λ free s r n d. d) (λ free s r n c. c.it) (sees_ok digit refl refl)) (omega arith)
