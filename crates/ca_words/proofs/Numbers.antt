-- The words that are numbers, by how they begin, and what `parse` reads of them.
use Rattle.std.proofs.Common.{◌≡◌, ℕ, zero, suc, ◌^◌, ◌<◌, ◌≤◌, ◌⊎◌, List, decimal, codes, get_or, length, arith, sym, ap, ◌∙◌, Result, Ok, inl, inr}
use Rattle.std.proofs.lemmas.Fmt.{decimal-digits_value, decimal_digit, decimal_is_IsNumeral, first_decimal}
use Rattle.std.proofs.lemmas.Result.{OkIff-at_ok}
use Rattle.std.proofs.lemmas.Str.Parse.{digit_at, numerals_by_value, parse_plain, tells_digits}
use Rattle.std.specs.Int.{IsInRange}
use Rattle.std.specs.Str.Parse.{ParsesUnsigned}

-- a number begins with one of the digits 1 to 9, or is the digit 0
pub begins_as_number : (word : List ℕ) (n : ℕ) → n < 2 ^ 64 → word ≡ decimal n → ((0 < length word) × (49 ≤ get_or word 0 0) × (get_or word 0 0 ≤ 57)) ⊎ (word ≡ codes "0")
begins_as_number word zero small is = inr (is ∙ decimal_digit 0 (omega arith))
begins_as_number word (suc n) small is =
    let digits = (decimal_is_IsNumeral (suc n) small).0 in
    let first = digit_at (decimal (suc n)) 0 digits.1 digits.0 in
    inl (rw is (digits.0, omega (arith, first_decimal (suc n) (omega arith) small), first.1))

-- what `parse` gave of a word that begins with one of the digits 1 to 9 is the number of the word
pub decimal_of_parsed : {E : Type 0} (word : List ℕ) (r : Result ℕ E) (n : ℕ) → IsInRange 49 57 (get_or word 0 0) → ParsesUnsigned 64 10 word r → r ≡ Ok n → word ≡ decimal n
decimal_of_parsed word r n first parsed is =
    let own = numerals_by_value _ tells_digits in
    let got = OkIff-at_ok r _ _ n (parse_plain own 64 word r parsed (λ e. omega arith)) is in
    sym (decimal-digits_value own word got.0.0 got.0.1 (λ e. absurd (omega arith)) (omega (arith, got.0.2))) ∙ ap decimal (sym got.1)
