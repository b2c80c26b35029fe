-- The lines of links from the first on, and how long they are.
use Rattle.std.proofs.Common.{◌≡◌, ℕ, zero, suc, ◌+◌, ◌*◌, ◌/◌, ◌<◌, ◌≤◌, List, [], ◌++◌, length, refl, sym, ap, ◌∙◌, append_assoc, append-nil, arith}
use Rattle.std.specs.Prelude.{codes, decimal}
use Rattle.std.proofs.lemmas.Fmt.{length-decimal-le}
use Rattle.std.proofs.lemmas.List.{length-append}
use Rattle.std.proofs.lemmas.Nat.{mod_below}
use Rattle.ca_gen.specs.Generated.{drawn, left_of, right_of, link_line, link_lines}

-- n lines, from that of node i on
abbrev pub lines_from : (ℕ → List ℕ) → ℕ → ℕ → List ℕ
lines_from line i zero = []
lines_from line i (suc n) = line i ++ lines_from line (suc i) n

abbrev pub line_of : ℕ → ℕ → ℕ → List ℕ
line_of seed size i = link_line i (left_of seed size i) (right_of seed size i)

lines_last : (line : ℕ → List ℕ) (i n : ℕ) → lines_from line i n ++ line (i + n) ≡ lines_from line i (suc n)
lines_last line i zero = let e : i + 0 ≡ i = omega arith in ap line e ∙ sym (append-nil (line i))
lines_last line i (suc n) =
    let e : i + suc n ≡ suc i + n = omega arith in
    append_assoc (line i) (lines_from line (suc i) n) (line (i + suc n))
    ∙ ap (λ j. line i ++ (lines_from line (suc i) n ++ line j)) e
    ∙ ap (λ z. line i ++ z) (lines_last line (suc i) n)

pub same_lines : (seed size n : ℕ) → link_lines seed size n ≡ lines_from (line_of seed size) 0 n
unfolding link_lines
same_lines seed size zero = refl
same_lines seed size (suc n) =
    let line = line_of seed size in
    let e : n ≡ 0 + n = omega arith in
    ap (λ z. z ++ line n) (same_lines seed size n) ∙ ap (λ j. lines_from line 0 n ++ line j) e ∙ lines_last line 0 n

-- a line has at most 32 bytes

few_digits : (n : ℕ) → n ≤ 20000 → length (decimal n) ≤ 5
few_digits n most = length-decimal-le 5 n (omega arith) (omega (arith, most)) (omega (arith, most))

add : (a b : List ℕ) (m n : ℕ) → length a ≤ m → length b ≤ n → length (a ++ b) ≤ m + n
add a b m n p q = omega (arith, length-append a b, p, q)

short_line : (i l r : ℕ) → i ≤ 20000 → l ≤ 20000 → r ≤ 20000 → length (link_line i l r) ≤ 32
short_line i l r a b c =
    let t4 = decimal r ++ codes ");\n" in
    let t3 = codes ", " ++ t4 in
    let t2 = decimal l ++ t3 in
    let t1 = codes ", " ++ t2 in
    let four = add (decimal r) (codes ");\n") 5 3 (few_digits r c) (omega arith) in
    let three = add (codes ", ") t4 2 8 (omega arith) four in
    let two = add (decimal l) t3 5 10 (few_digits l b) three in
    let one = add (codes ", ") t2 2 15 (omega arith) two in
    let first = add (decimal i) t1 5 17 (few_digits i a) one in
    omega (arith, add (codes "  t->link(") (decimal i ++ t1) 10 22 (omega arith) first)

pub short_lines : (line : ℕ → List ℕ) (i n : ℕ) → ((j : ℕ) → j < i + n → length (line j) ≤ 32) → length (lines_from line i n) ≤ 32 * n
short_lines line i zero each = omega arith
short_lines line i (suc n) each =
    let first = each i (omega arith) in
    let rest = short_lines line (suc i) n (λ j h. each j (omega (arith, h))) in
    omega (arith, length-append (line i) (lines_from line (suc i) n), first, rest)

pub left_below : (seed size i : ℕ) → 1 ≤ size → left_of seed size i < size
left_below seed size i some = mod_below (drawn seed (2 * i + 1) / 65536) size some

pub right_below : (seed size i : ℕ) → 1 ≤ size → right_of seed size i < size
right_below seed size i some = mod_below (drawn seed (2 * i + 2) / 65536) size some

pub short_link : (seed size i : ℕ) → 1 ≤ size → size ≤ 20000 → i < size → length (line_of seed size i) ≤ 32
short_link seed size i some most here =
    short_line i (left_of seed size i) (right_of seed size i) (omega (arith, most, here)) (omega (arith, most, left_below seed size i some)) (omega (arith, most, right_below seed size i some))
