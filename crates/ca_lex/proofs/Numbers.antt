-- A number is read back where neither a digit nor a letter stands behind it.
use Prim.Native.Char.{code}
use Rattle.std.proofs.Common.{◌≡◌, ℕ, zero, suc, ◌+◌, ◌-◌, ◌*◌, ◌<◌, ◌≤◌, ◌^◌, ◌%◌, List, [], ◌∷◌, ◌++◌, length, take, drop, get_or, Bool, true, false, refl, ap, ◌∙◌, arith}
use Rattle.std.specs.Prelude.{◌==◌, ◌&&◌, nat_lt, nat_le, cond, pos, if◌then◌else◌}
use Rattle.std.specs.Char.{is_ascii_digit}
use Rattle.std.specs.List.{prefix_len, take_while}
use Rattle.std.specs.Fmt.{decimal}
use Rattle.std.proofs.Math.Dec.{eqb, leb}
use Rattle.std.proofs.Math.Seq.{take-append_seam, drop-append_seam}
use Rattle.std.proofs.lemmas.Bool.{eqb-true, lt-leb, le-leb, leb-true, ne_eqb}
use Rattle.std.proofs.lemmas.Fmt.{decimal_by_steps, decimal_digit, first_decimal}
use Rattle.std.proofs.lemmas.List.{length-append}
use Rattle.std.proofs.lemmas.List.Sums.{fold-append}
use Rattle.ca_tree.specs.declared.token.Kind.{Kind}
use Rattle.ca_tree.specs.declared.token.Kind.TheVariants.{Number}
use Rattle.ca_lex.specs.Bytes.{is_blank, is_letter, value_of}
use Rattle.ca_lex.specs.Pieces.{Piece, token_of, refused, too_great, letter_behind, piece_of, begins, digits_piece}

-- every byte passes
abbrev pub Passes : (ℕ → Bool) → List ℕ → Type 0
Passes p [] = Unit {0}
Passes p (b ∷ w) = (p b ≡ true) × Passes p w

pub passes_len : (p : ℕ → Bool) (w : List ℕ) (g : ℕ) (rest : List ℕ) → Passes p w → p g ≡ false → prefix_len p (w ++ g ∷ rest) ≡ length w
passes_len p [] g rest a e = ap (λ t. cond t (1 + prefix_len p rest) 0) e
passes_len p (b ∷ w) g rest a e = omega (arith, ap (λ t. cond t (1 + prefix_len p (w ++ g ∷ rest)) 0) a.0, passes_len p w g rest a.1 e)

pub passes_front : (p : ℕ → Bool) (w : List ℕ) (g : ℕ) (rest : List ℕ) → Passes p w → p g ≡ false → take_while p (w ++ g ∷ rest) ≡ w
passes_front p w g rest a e = ap (λ n. take n (w ++ g ∷ rest)) (passes_len p w g rest a e) ∙ take-append_seam w (g ∷ rest)

pub record IsNumber (n : ℕ) (ds : List ℕ) : Type 0 where
  some : 0 < length ds
  pub digits : Passes is_ascii_digit ds
  value : value_of ds ≡ n

one_digit : (d : ℕ) → d < 10 → is_ascii_digit (48 + d) ≡ true
one_digit d h = rw (le-leb 48 (48 + d) (omega arith), le-leb (48 + d) 57 (omega arith)) refl

passes_last : (p : ℕ → Bool) (w : List ℕ) (b : ℕ) → Passes p w → p b ≡ true → Passes p (w ++ b ∷ [])
passes_last p [] b a e = (e, tt)
passes_last p (c ∷ w) b a e = (a.0, passes_last p w b a.1 e)

pub decimal_number : (n : ℕ) → n < 2 ^ 64 → IsNumber n (decimal n)
decimal_number = decimal_by_steps IsNumber
    (λ n h. record { some = omega arith; digits = (one_digit n h, tt); value = omega arith })
    (λ n ds h i.
    let d : n % 10 < 10 = omega arith in
    let l = length-append ds ((48 + n % 10) ∷ []) in
    let f : value_of (ds ++ (48 + n % 10) ∷ []) ≡ value_of ds * 10 + (48 + n % 10 - 48) = fold-append (λ m b. m * 10 + (b - code "0")) 0 ds ((48 + n % 10) ∷ []) in
    record { some = omega (arith, l); digits = passes_last is_ascii_digit ds (48 + n % 10) i.digits (one_digit (n % 10) d); value = omega (arith, f, i.value) })

-- no needless 0 in front
lead : (n : ℕ) → n < 2 ^ 64 → nat_lt 1 (length (decimal n)) && begins (λ b. b == code "0") (decimal n) ≡ false
lead n h = at n h
  where
    above : (ds : List ℕ) → 48 < get_or ds 0 0 → nat_lt 1 (length ds) && begins (λ b. b == code "0") ds ≡ false
    above [] l = absurd (omega (arith, l))
    above (b ∷ ds) l = first (nat_lt 1 (length (b ∷ ds))) (eqb b 48) refl
      where
        first : (t u : Bool) → eqb b 48 ≡ u → t && u ≡ false
        first false u e = refl
        first true false e = refl
        first true true e = absurd (omega (arith, l, eqb-true b 48 e))

    at : (n : ℕ) → n < 2 ^ 64 → nat_lt 1 (length (decimal n)) && begins (λ b. b == code "0") (decimal n) ≡ false
    at zero h = rw (decimal_digit 0 (omega arith)) refl
    at (suc n) h = above (decimal (suc n)) (first_decimal (suc n) (omega arith) h)

if_digit : (t u v : Bool) (p q r s : Piece) → t ≡ false → u ≡ false → v ≡ true → (if t then p else if u then q else if v then r else s) ≡ r
if_digit false false true p q r s e f g = refl
if_digit true u v p q r s e f g = cc
if_digit false true v p q r s e f g = cc
if_digit false false false p q r s e f g = cc

no_refusal : (t u v : Bool) (n : ℕ) (x : Kind) → t ≡ false → u ≡ false → v ≡ false → (if t then refused else if u then too_great else if v then letter_behind n else token_of n x) ≡ token_of n x
no_refusal false false false n x e f g = refl
no_refusal true u v n x e f g = cc
no_refusal false true v n x e f g = cc
no_refusal false false true n x e f g = cc

digit_no_blank : (b : ℕ) → is_ascii_digit b ≡ true → is_blank b ≡ false
digit_no_blank b h = rw (digit_other b 32 h refl, digit_other b 9 h refl, digit_other b 13 h refl, digit_other b 10 h refl) refl
  where
    digit_other : (b c : ℕ) → is_ascii_digit b ≡ true → is_ascii_digit c ≡ false → eqb b c ≡ false
    digit_other b c h n = at (eqb b c) refl
      where
        at : (t : Bool) → eqb b c ≡ t → t ≡ false
        at false e = refl
        at true e = let same : is_ascii_digit b ≡ is_ascii_digit c = ap is_ascii_digit (eqb-true b c e) in cc

digit_no_letter : (b : ℕ) → is_ascii_digit b ≡ true → is_letter b ≡ false
digit_no_letter b h =
    let low : b ≤ 57 = leb-true b 57 (second (nat_le 48 b) (nat_le b 57) h) in
    rw (lt-leb 65 b (omega (arith, low)), lt-leb 97 b (omega (arith, low)), ne_eqb b 95 (λ e. omega (arith, low, e))) refl
  where
    second : (t u : Bool) → t && u ≡ true → u ≡ true
    second true u e = e
    second false u e = cc

digits_back : (ds : List ℕ) (m g : ℕ) (rest : List ℕ) → IsNumber m ds → m < 2 ^ 63 → nat_lt 1 (length ds) && begins (λ b. b == code "0") ds ≡ false
    → is_ascii_digit g ≡ false → is_letter g ≡ false → piece_of (ds ++ g ∷ rest) ≡ token_of (length ds) (Number (pos m))
unfolding piece_of
digits_back [] m g rest i small l no_digit no_letter = absurd (omega (arith, i.some))
digits_back (b ∷ ds) m g rest i small l no_digit no_letter =
    let all : List ℕ = b ∷ ds in
    let s : List ℕ = all ++ g ∷ rest in
    let front = passes_front is_ascii_digit all g rest i.digits no_digit in
    let behind : drop (prefix_len is_ascii_digit s) s ≡ g ∷ rest = ap (λ n. drop n s) (passes_len is_ascii_digit all g rest i.digits no_digit) ∙ drop-append_seam all (g ∷ rest) in
    let d = i.digits.0 in
    if_digit (is_blank b) (is_letter b) (is_ascii_digit b) _ _ _ _ (digit_no_blank b d) (digit_no_letter b d) d
    ∙ ap (λ w. digits_piece w (drop (prefix_len is_ascii_digit s) s)) front
    ∙ ap (λ r. digits_piece all r) behind
    ∙ no_refusal (nat_lt 1 (length all) && begins (λ b. b == code "0") all) (nat_le (2 ^ 63) (value_of all)) (begins is_letter (g ∷ rest)) (length all) (Number (pos (value_of all))) l (lt-leb (2 ^ 63) (value_of all) (omega (arith, small, i.value))) no_letter
    ∙ ap (λ n. token_of (length all) (Number (pos n))) i.value

-- the digits of a number, where the byte g stands behind them
pub number_back : (m g : ℕ) (rest : List ℕ) → m < 2 ^ 63 → is_ascii_digit g ≡ false → is_letter g ≡ false
    → piece_of (decimal m ++ g ∷ rest) ≡ token_of (length (decimal m)) (Number (pos m))
number_back m g rest small no_digit no_letter = digits_back (decimal m) m g rest (decimal_number m (omega (arith, small))) small (lead m (omega (arith, small))) no_digit no_letter
