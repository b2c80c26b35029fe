-- No front of some bytes is a longer token than the one that stands in front of them.
use Prim.Native.Char.{code}
use Rattle.std.proofs.Common.{◌≡◌, ℕ, zero, suc, ◌+◌, ◌≤◌, ◌^◌, List, [], ◌∷◌, length, take, drop, Bool, true, false, subst, arith}
use Rattle.std.specs.Prelude.{Option, Some, None, ◌==◌, ◌&&◌, cond, nat_lt, nat_le, pos, if◌then◌else◌}
use Rattle.std.specs.Char.{is_ascii_digit}
use Rattle.std.specs.List.{prefix_len, take_while}
use Rattle.std.proofs.lemmas.List.Folds.{length-prefix_len}
use Rattle.ca_tree.specs.declared.token.Kind.{Kind}
use Rattle.ca_tree.specs.declared.token.Kind.TheVariants.{Number}
use Rattle.ca_tree.specs.declared.token.Sign.{Sign}
use Rattle.ca_lex.specs.Bytes.{is_blank, is_letter, is_name_byte, value_of}
use Rattle.ca_tree.specs.Spellings.{double_sign, single_sign}
use Rattle.ca_lex.specs.Pieces.{Piece, blank_of, comment_of, token_of, too_great, letter_behind, refused, piece_of, begins, number_piece, slash_piece, sign_piece, longer_sign, closed_comment, close_len}

-- where both are tokens, the second takes no more bytes than the first
data NoLonger : Piece → Piece → Type 0 where
  both_tokens : {n k : ℕ} {x y : Kind} → k ≤ n → NoLonger (token_of n x) (token_of k y)
  behind_blank : {n : ℕ} {q : Piece} → NoLonger (blank_of n) q
  behind_comment : {n : ℕ} {q : Piece} → NoLonger (comment_of n) q
  behind_refused : {q : Piece} → NoLonger refused q
  behind_too_great : {q : Piece} → NoLonger too_great q
  behind_letter : {n : ℕ} {q : Piece} → NoLonger (letter_behind n) q
  then_refused : {p : Piece} → NoLonger p refused
  then_too_great : {p : Piece} → NoLonger p too_great
  then_letter : {p : Piece} {n : ℕ} → NoLonger p (letter_behind n)

both : (t : Bool) (p p' q q' : Piece) → NoLonger p p' → NoLonger q q' → NoLonger (if t then p else q) (if t then p' else q')
both true p p' q q' f g = f
both false p p' q q' f g = g

either : (t : Bool) (p q r : Piece) → NoLonger p r → NoLonger q r → NoLonger (if t then p else q) r
either true p q r f g = f
either false p q r f g = g

counts : (t : Bool) (m n : ℕ) → m ≤ n → cond t (1 + m) 0 ≤ cond t (1 + n) 0
counts true m n h = omega arith
counts false m n h = omega arith

prefix_len-take : (p : ℕ → Bool) (s : List ℕ) (m : ℕ) → prefix_len p (take m s) ≤ prefix_len p s
prefix_len-take p [] zero = omega arith
prefix_len-take p [] (suc m) = omega arith
prefix_len-take p (b ∷ s) zero = omega arith
prefix_len-take p (b ∷ s) (suc m) = counts (p b) _ _ (prefix_len-take p s m)

digits : (t u v t' u' v' : Bool) (n k : ℕ) (x y : Kind) → k ≤ n → NoLonger (if t then refused else if u then too_great else if v then letter_behind n else token_of n x) (if t' then refused else if u' then too_great else if v' then letter_behind k else token_of k y)
digits true u v t' u' v' n k x y h = behind_refused
digits false true v t' u' v' n k x y h = behind_too_great
digits false false true t' u' v' n k x y h = behind_letter
digits false false false true u' v' n k x y h = then_refused
digits false false false false true v' n k x y h = then_too_great
digits false false false false false true n k x y h = then_letter
digits false false false false false false n k x y h = both_tokens h

number : (s : List ℕ) (m : ℕ) → NoLonger (number_piece s) (number_piece (take m s))
number s m =
    let all = take_while is_ascii_digit s in
    let some = take_while is_ascii_digit (take m s) in
    let a = length-prefix_len is_ascii_digit s in
    let b = length-prefix_len is_ascii_digit (take m s) in
    let h = prefix_len-take is_ascii_digit s m in
    digits (nat_lt 1 (length all) && begins (λ c. c == code "0") all) (nat_le (2 ^ 63) (value_of all)) (begins is_letter (drop (prefix_len is_ascii_digit s) s))
    (nat_lt 1 (length some) && begins (λ c. c == code "0") some) (nat_le (2 ^ 63) (value_of some)) (begins is_letter (drop (prefix_len is_ascii_digit (take m s)) (take m s)))
    (length all) (length some) (Number (pos (value_of all))) (Number (pos (value_of some))) (omega (arith, a, b, h))

single_in_front : (double single : Option Sign) → NoLonger (longer_sign double single) (longer_sign None single)
single_in_front None None = then_refused
single_in_front None (Some x) = both_tokens (omega arith)
single_in_front (Some d) None = then_refused
single_in_front (Some d) (Some x) = both_tokens (omega arith)

same_sign : (double single : Option Sign) → NoLonger (longer_sign double single) (longer_sign double single)
same_sign None None = then_refused
same_sign None (Some x) = both_tokens (omega arith)
same_sign (Some d) single = both_tokens (omega arith)

sign : (b : ℕ) (s : List ℕ) (m : ℕ) → NoLonger (sign_piece b s) (sign_piece b (take m s))
sign b [] zero = same_sign None (single_sign b)
sign b [] (suc m) = same_sign None (single_sign b)
sign b (c ∷ s) zero = single_in_front (double_sign b c) (single_sign b)
sign b (c ∷ s) (suc m) = same_sign (double_sign b c) (single_sign b)

behind_closed : (o : Option ℕ) (q : Piece) → NoLonger (closed_comment o) q
behind_closed None q = behind_refused
behind_closed (Some n) q = behind_comment

slash : (s : List ℕ) (m : ℕ) → NoLonger (slash_piece s) (slash_piece (take m s))
slash [] zero = sign (code "/") [] zero
slash [] (suc m) = sign (code "/") [] zero
slash (c ∷ s) zero =
    either (c == code "/") _ _ _ behind_comment (either (c == code "*") _ _ _ (behind_closed (close_len s) _) (sign (code "/") (c ∷ s) zero))
slash (c ∷ s) (suc m) =
    both (c == code "/") _ _ _ _ behind_comment (both (c == code "*") _ _ _ _ (behind_closed (close_len s) _) (sign (code "/") (c ∷ s) (suc m)))

front : (s : List ℕ) (m : ℕ) → NoLonger (piece_of s) (piece_of (take m s))
unfolding piece_of
front [] zero = behind_refused
front [] (suc m) = behind_refused
front (b ∷ s) zero = then_refused
front (b ∷ s) (suc m) =
    both (is_blank b) _ _ _ _ behind_blank
    (both (is_letter b) _ _ _ _ (both_tokens (prefix_len-take is_name_byte (b ∷ s) (suc m)))
    (both (is_ascii_digit b) _ _ _ _ (number (b ∷ s) (suc m))
    (both (b == code "/") _ _ _ _ (slash s m) (sign b s m))))

of_tokens : {n k : ℕ} {x y : Kind} → NoLonger (token_of n x) (token_of k y) → k ≤ n
of_tokens (both_tokens h) = h

pub longest : (s : List ℕ) (n m k : ℕ) (x y : Kind) → piece_of s ≡ token_of n x → piece_of (take m s) ≡ token_of k y → k ≤ n
longest s n m k x y e f =
    of_tokens (subst (λ q. NoLonger (token_of n x) q) f (subst (λ p. NoLonger p (piece_of (take m s))) e (front s m)))
