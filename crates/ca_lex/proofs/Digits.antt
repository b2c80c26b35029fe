-- What the front of some digits says of the number that all of them spell.
use Prim.Native.Char.{code}
use Rattle.std.proofs.Common.{◌≡◌, ℕ, suc, true, length-take-le, ◌+◌, ◌-◌, ◌*◌, ◌<◌, ◌≤◌, List, [], ◌∷◌, length, get_or, take, drop, get_or-take, sym, ap, ◌∙◌, arith}
use Rattle.std.specs.Char.{is_ascii_digit}
use Rattle.std.specs.List.{fold, prefix_len}
use Rattle.std.proofs.Math.Seq.{drop-cons}
use Rattle.std.proofs.lemmas.List.{take-append-drop}
use Rattle.std.proofs.lemmas.List.Sums.{fold-append, prefix_len-le-length, prefix_len_passes}
use Rattle.ca_lex.specs.Bytes.{value_of}

abbrev more : ℕ → ℕ → ℕ
more n b = n * 10 + (b - code "0")

-- further digits make no number smaller
grows : (s : List ℕ) (n : ℕ) → n ≤ fold more n s
grows [] n = omega arith
grows (b ∷ s) n = omega (arith, grows s (more n b))

-- the number that the digits through one of them spell is at most that of all
pub front-le-value : (s : List ℕ) (i n : ℕ) → i < length s → n ≡ value_of (take i s) → n * 10 + (get_or s i 0 - 48) ≤ value_of s
front-le-value s i n h e =
    let cut : value_of s ≡ fold more n (drop i s) = ap value_of (sym (take-append-drop i s)) ∙ fold-append more 0 (take i s) (drop i s) ∙ ap (λ m. fold more m (drop i s)) (sym e) in
    let one : fold more n (drop i s) ≡ fold more (more n (get_or s i 0)) (drop (suc i) s) = ap (λ l. fold more n l) (drop-cons s i 0 h) in
    omega (arith, cut, one, grows (drop (suc i) s) (more n (get_or s i 0)))

-- each byte of the digits in front is a digit
pub each_digit : (s digits : List ℕ) (n i : ℕ) → n ≡ prefix_len is_ascii_digit s → digits ≡ take n s → i < length digits → is_ascii_digit (get_or digits i 0) ≡ true
each_digit s digits n i e front h =
    let l : length digits ≡ n = ap length front ∙ length-take-le n s (omega (arith, prefix_len-le-length is_ascii_digit s)) in
    ap is_ascii_digit (ap (λ z. get_or z i 0) front ∙ get_or-take n s i 0 (omega arith)) ∙ prefix_len_passes is_ascii_digit s i 0 (omega arith)
