-- The bytes of a token are that token by themselves.
use Prim.Native.Char.{code}
use Rattle.std.proofs.Common.{◌≡◌, ℕ, zero, suc, ◌+◌, ◌^◌, List, [], ◌∷◌, length, take, drop, Bool, true, false, refl, sym, ap, ◌∙◌, arith}
use Rattle.std.specs.Prelude.{Option, Some, None, ◌==◌, ◌&&◌, cond, nat_lt, nat_le, pos, if◌then◌else◌}
use Rattle.std.specs.Char.{is_ascii_digit}
use Rattle.std.specs.List.{prefix_len, take_while}
use Rattle.std.proofs.lemmas.List.Folds.{length-prefix_len}
use Rattle.std.proofs.lemmas.List.Sums.{take_while-cons}
use Rattle.std.proofs.lemmas.List.{take_all, drop_all}
use Rattle.ca_tree.specs.declared.token.Kind.{Kind}
use Rattle.ca_tree.specs.declared.token.Kind.TheVariants.{Number}
use Rattle.ca_tree.specs.declared.token.Sign.{Sign}
use Rattle.ca_lex.specs.Bytes.{is_blank, is_letter, is_name_byte, value_of}
use Rattle.ca_tree.specs.Spellings.{keyword_of, double_sign, single_sign}
use Rattle.ca_lex.specs.Pieces.{Piece, blank_of, comment_of, token_of, too_great, letter_behind, refused, piece_of, begins, kind_of_word, word_piece, digits_piece, number_piece, slash_piece, sign_piece, longer_sign, closed_comment, close_len}
use Rattle.ca_lex.proofs.Sizes.{token_size}

-- where the first is the piece r, so is the second
abbrev Keeps : Piece → Piece → Piece → Type 0
Keeps r p q = p ≡ r → q ≡ r

both : (r : Piece) (t : Bool) (p p' q q' : Piece) → Keeps r p p' → Keeps r q q' → Keeps r (if t then p else q) (if t then p' else q')
both r true p p' q q' f g = f
both r false p p' q q' f g = g

either : (r : Piece) (t : Bool) (p q r' : Piece) → Keeps r p r' → Keeps r q r' → Keeps r (if t then p else q) r'
either r true p q r' f g = f
either r false p q r' f g = g

blank_is_no_token : (n k : ℕ) (x : Kind) (q : Piece) → Keeps (token_of n x) (blank_of k) q
blank_is_no_token n k x q e = cc

comment_is_no_token : (n k : ℕ) (x : Kind) (q : Piece) → Keeps (token_of n x) (comment_of k) q
comment_is_no_token n k x q e = cc

closed_is_no_token : (n : ℕ) (x : Kind) (o : Option ℕ) (q : Piece) → Keeps (token_of n x) (closed_comment o) q
closed_is_no_token n x None q e = cc
closed_is_no_token n x (Some k) q e = cc

-- what passes in front passes again by itself
again_at : (p : ℕ → Bool) (t : Bool) (b : ℕ) (s : List ℕ) → p b ≡ t → prefix_len p (take_while p s) ≡ prefix_len p s → prefix_len p (cond t (b ∷ take_while p s) []) ≡ cond t (1 + prefix_len p s) 0
again_at p true b s e same = ap (λ t. cond t (1 + prefix_len p (take_while p s)) 0) e ∙ ap (λ n. 1 + n) same
again_at p false b s e same = refl

len_again : (p : ℕ → Bool) (s : List ℕ) → prefix_len p (take_while p s) ≡ prefix_len p s
len_again p [] = refl
len_again p (b ∷ s) = ap (prefix_len p) (take_while-cons p b s) ∙ again_at p (p b) b s refl (len_again p s)

front_again : (p : ℕ → Bool) (s : List ℕ) → take_while p (take_while p s) ≡ take_while p s
front_again p s = take_all (prefix_len p (take_while p s)) (take_while p s) (let a = len_again p s in let b = length-prefix_len p s in omega arith)

nothing_behind : (p : ℕ → Bool) (s : List ℕ) → drop (prefix_len p (take_while p s)) (take_while p s) ≡ []
nothing_behind p s = drop_all (prefix_len p (take_while p s)) (take_while p s) (let a = len_again p s in let b = length-prefix_len p s in omega arith)

word : (b m : ℕ) (s : List ℕ) (x : Kind) → Keeps (token_of (suc m) x) (word_piece (b ∷ s)) (word_piece (b ∷ take m s))
word b m s x e =
    let l = b ∷ s in
    let size : prefix_len is_name_byte l ≡ suc m = cc in
    let cut : take_while is_name_byte l ≡ b ∷ take m s = ap (λ n. take n l) size in
    let same : word_piece (take_while is_name_byte l) ≡ word_piece l =
    ap (λ n. token_of n (kind_of_word (take_while is_name_byte (take_while is_name_byte l)) (keyword_of (take_while is_name_byte (take_while is_name_byte l))))) (len_again is_name_byte l)
    ∙ ap (λ w. token_of (prefix_len is_name_byte l) (kind_of_word w (keyword_of w))) (front_again is_name_byte l) in
    ap word_piece (sym cut) ∙ same ∙ e

of_digits : (t u v : Bool) (n k : ℕ) (x y : Kind) → (if t then refused else if u then too_great else if v then letter_behind k else token_of k y) ≡ token_of n x → ((if t then refused else if u then too_great else token_of k y) ≡ token_of n x) × (k ≡ n)
of_digits true u v n k x y e = (cc, cc)
of_digits false true v n k x y e = (cc, cc)
of_digits false false true n k x y e = (cc, cc)
of_digits false false false n k x y e = (e, cc)

number : (b m : ℕ) (s : List ℕ) (x : Kind) → Keeps (token_of (suc m) x) (number_piece (b ∷ s)) (number_piece (b ∷ take m s))
number b m s x e =
    let l = b ∷ s in
    let digits = take_while is_ascii_digit l in
    let found = of_digits (nat_lt 1 (length digits) && begins (λ c. c == code "0") digits) (nat_le (2 ^ 63) (value_of digits)) (begins is_letter (drop (prefix_len is_ascii_digit l) l)) (suc m) (length digits) x (Number (pos (value_of digits))) e in
    let size : prefix_len is_ascii_digit l ≡ suc m = sym (length-prefix_len is_ascii_digit l) ∙ found.1 in
    let cut : digits ≡ b ∷ take m s = ap (λ n. take n l) size in
    let same : number_piece digits ≡ digits_piece digits [] =
    ap (λ d. digits_piece d (drop (prefix_len is_ascii_digit digits) digits)) (front_again is_ascii_digit l)
    ∙ ap (digits_piece digits) (nothing_behind is_ascii_digit l) in
    ap number_piece (sym cut) ∙ same ∙ found.0

same_size : {n k : ℕ} {x y : Kind} → token_of n x ≡ token_of k y → n ≡ k
same_size e = cc

one_byte : (double single : Option Sign) (x : Kind) → Keeps (token_of 1 x) (longer_sign double single) (longer_sign None single)
one_byte None single x e = e
one_byte (Some d) single x e = absurd (omega (arith, same_size e))

sign : (b m : ℕ) (s : List ℕ) (x : Kind) → Keeps (token_of (suc m) x) (sign_piece b s) (sign_piece b (take m s))
sign b zero [] x e = e
sign b (suc m) [] x e = e
sign b zero (c ∷ s) x e = one_byte (double_sign b c) (single_sign b) x e
sign b (suc m) (c ∷ s) x e = e

slash : (m : ℕ) (s : List ℕ) (x : Kind) → Keeps (token_of (suc m) x) (slash_piece s) (slash_piece (take m s))
slash zero [] x = sign (code "/") zero [] x
slash (suc m) [] x = sign (code "/") (suc m) [] x
slash zero (c ∷ s) x =
    either _ (c == code "/") _ _ _ (comment_is_no_token 1 _ x _) (either _ (c == code "*") _ _ _ (closed_is_no_token 1 x (close_len s) _) (sign (code "/") zero (c ∷ s) x))
slash (suc m) (c ∷ s) x =
    both _ (c == code "/") _ _ _ _ (comment_is_no_token _ _ x _) (both _ (c == code "*") _ _ _ _ (closed_is_no_token _ x (close_len s) _) (sign (code "/") (suc m) (c ∷ s) x))

pub alone : (s : List ℕ) (n : ℕ) (x : Kind) → piece_of s ≡ token_of n x → piece_of (take n s) ≡ token_of n x
unfolding piece_of
alone [] n x e = cc
alone (b ∷ s) zero x e = let size = token_size (b ∷ s) e in absurd (omega (arith, size.0))
alone (b ∷ s) (suc m) x e =
    both (token_of (suc m) x) (is_blank b) _ _ _ _ (blank_is_no_token (suc m) 1 x _)
    (both (token_of (suc m) x) (is_letter b) _ _ _ _ (word b m s x)
    (both (token_of (suc m) x) (is_ascii_digit b) _ _ _ _ (number b m s x)
    (both (token_of (suc m) x) (b == code "/") _ _ _ _ (slash m s x) (sign b m s x)))) e
