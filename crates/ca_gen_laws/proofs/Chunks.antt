-- Chunks of a text: the kinds of the tokens in front, whatever their places are.
use Rattle.std.proofs.Common.{◌≡◌, ℕ, zero, suc, ◌+◌, ◌<◌, ◌≤◌, List, [], ◌∷◌, ◌++◌, length, take, drop, false, refl, sym, ap, subst, arith}
use Rattle.std.specs.Prelude.{Option, Some, None, pos, decimal}
use Rattle.std.specs.Char.{is_ascii_digit}
use Rattle.std.proofs.Math.Seq.{drop-append_seam}
use Rattle.std.proofs.lemmas.Fmt.{decimal_nonempty}
use Rattle.std.proofs.lemmas.List.{length-append}
use Rattle.ca_tree.specs.declared.name.Place.{Place}
use Rattle.ca_tree.specs.declared.token.Kind.{Kind}
use Rattle.ca_tree.specs.declared.token.Kind.TheVariants.{Number}
use Rattle.ca_tree.specs.declared.token.Token.{Token}
use Rattle.ca_lex.specs.Bytes.{is_letter}
use Rattle.ca_lex.specs.Places.{advance}
use Rattle.ca_lex.specs.Pieces.{Piece, blank_of, comment_of, token_of, too_great, letter_behind, refused, piece_of}
use Rattle.ca_lex.specs.Tokens.{TokensFrom, blank, token}
use Rattle.ca_lex.proofs.Numbers.{number_back}

-- what some pieces are: the kinds of the tokens among them, and what stands behind
abbrev pub Scan : Type 0
Scan = Option (List Kind × List ℕ)

abbrev with_kind : Kind → Scan → Scan
with_kind x None = None
with_kind x (Some r) = Some (x ∷ r.0, r.1)

abbrev scan_behind : (List ℕ → Scan) → List ℕ → Piece → Scan
scan_behind go s (blank_of k) = go (drop k s)
scan_behind go s (comment_of k) = None
scan_behind go s (token_of k x) = with_kind x (go (drop k s))
scan_behind go s too_great = None
scan_behind go s (letter_behind k) = None
scan_behind go s refused = None

-- the first n pieces, where each is a blank or a token
abbrev pub scan : ℕ → List ℕ → Scan
scan zero s = Some ([], s)
scan (suc n) s = scan_behind (scan n) s (piece_of s)

-- a token of the kind, at the place of another
abbrev pub mark : Kind → Token → Token
mark k t = record { kind = k; at = t.at; start = t.start; len = t.len }

-- tokens of these kinds, at the places of others, in front of some
abbrev pub spread : (ℕ → Token) → List Kind → List Token → List Token
spread f [] ts = ts
spread f (k ∷ ks) ts = mark k (f 0) ∷ spread (λ i. f (suc i)) ks ts

-- n of these tokens, from that of number i on
abbrev pub tokens_at : (ℕ → Token) → List Kind → ℕ → ℕ → List Token
tokens_at f ks i n = spread (λ j. f (i + j)) (take n (drop i ks)) []

abbrev pub behind : Token → (ℕ → Token) → ℕ → Token
behind t f zero = t
behind t f (suc i) = f i

-- The text s is tokens of these kinds and then the text r, where it begins at a place and a number.
pub record Chunk (s : List ℕ) (ks : List Kind) (r : List ℕ) (p : Place) (n : ℕ) : Type 0 where
  pub f : ℕ → Token
  pub q : Place
  pub m : ℕ
  pub on : (ts : List Token) → TokensFrom q m r ts → TokensFrom p n s (spread f ks ts)

some_same : {A : Type 0} {x y : A} → ◌≡◌ {A = Option A} (Some x) (Some y) → x ≡ y
some_same e = cc

module _ (n : ℕ) (s : List ℕ) (p : Place) (m : ℕ)
    (go : (k : ℕ) (ks : List Kind) (r : List ℕ) → scan n (drop k s) ≡ Some (ks, r) → Chunk (drop k s) ks r (advance p (take k s)) (m + k)) where
  behind_token : (k : ℕ) (x : Kind) → piece_of s ≡ token_of k x → (o : Scan) (ks : List Kind) (r : List ℕ) → scan n (drop k s) ≡ o → with_kind x o ≡ Some (ks, r) → Chunk s ks r p m
  behind_token k x is None ks r h e = absurd cc
  behind_token k x is (Some z) ks r h e =
      let c = go k z.0 z.1 h in
      let P : List Kind × List ℕ → Type 0 = λ y. Chunk s y.0 y.1 p m in
      let one : Chunk s (x ∷ z.0) z.1 p m = record {
        f = behind (record { kind = x; at = p; start = m; len = k }) c.f;
        q = c.q;
        m = c.m;
        on = λ ts t. token is (c.on ts t);
      } in
      subst P (some_same e) one

  behind_piece : (x : Piece) (ks : List Kind) (r : List ℕ) → piece_of s ≡ x → scan_behind (scan n) s x ≡ Some (ks, r) → Chunk s ks r p m
  behind_piece (blank_of k) ks r is e = let c = go k ks r e in record { f = c.f; q = c.q; m = c.m; on = λ ts t. blank is (c.on ts t) }
  behind_piece (comment_of k) ks r is e = absurd cc
  behind_piece (token_of k x) ks r is e = behind_token k x is (scan n (drop k s)) ks r refl e
  behind_piece too_great ks r is e = absurd cc
  behind_piece (letter_behind k) ks r is e = absurd cc
  behind_piece refused ks r is e = absurd cc

pub chunk_of : (n : ℕ) (s : List ℕ) (ks : List Kind) (r : List ℕ) (p : Place) (m : ℕ) → scan n s ≡ Some (ks, r) → Chunk s ks r p m
chunk_of zero s ks r p m e =
    let P : List Kind × List ℕ → Type 0 = λ y. Chunk s y.0 y.1 p m in
    let none : Chunk s [] s p m = record { f = λ i. record { kind = Number (pos 0); at = p; start = m; len = 0 }; q = p; m = m; on = λ ts t. t } in
    subst P (some_same e) none
chunk_of (suc n) s ks r p m e = behind_piece n s p m (λ k ks r. chunk_of n (drop k s) ks r (advance p (take k s)) (m + k)) (piece_of s) ks r refl e

-- the same in front of a text that isn't empty
pub chunk_before : (n : ℕ) (text : List ℕ) (ks : List Kind) (rest : List ℕ) (p : Place) (m : ℕ) → 0 < length rest
    → ((d : ℕ) (more : List ℕ) → scan n (text ++ (d ∷ more)) ≡ Some (ks, d ∷ more)) → Chunk (text ++ rest) ks rest p m
chunk_before n text ks [] p m some scans = absurd (omega (arith, some))
chunk_before n text ks (d ∷ more) p m some scans = chunk_of n (text ++ (d ∷ more)) ks (d ∷ more) p m (scans d more)

pub digits_first : (v : ℕ) (rest : List ℕ) → v ≤ 20000 → 0 < length (decimal v ++ rest)
digits_first v rest small = omega (arith, length-append (decimal v) rest, decimal_nonempty v (omega (arith, small)))

-- a number, where the byte g stands behind it
pub number_chunk : (v g : ℕ) (rest : List ℕ) (p : Place) (m : ℕ) → v ≤ 20000 → is_ascii_digit g ≡ false → is_letter g ≡ false
    → Chunk (decimal v ++ (g ∷ rest)) (Number (pos v) ∷ []) (g ∷ rest) p m
number_chunk v g rest p m small no_digit no_letter =
    let k = length (decimal v) in
    let all : List ℕ = decimal v ++ (g ∷ rest) in
    let q = advance p (take k all) in
    record {
      f = λ i. record { kind = Number (pos v); at = p; start = m; len = k };
      q = q;
      m = m + k;
      on = λ ts t. token (number_back v g rest (omega (arith, small)) no_digit no_letter) (subst (λ z. TokensFrom q (m + k) z ts) (sym (drop-append_seam (decimal v) (g ∷ rest))) t);
    }

-- the places of two chunks
abbrev pub glue : List Kind → (ℕ → Token) → (ℕ → Token) → ℕ → Token
glue [] f g = g
glue (k ∷ ks) f g = behind (f 0) (glue ks (λ i. f (suc i)) g)

spread_glue : (ks ls : List Kind) (f g : ℕ → Token) (ts : List Token) → spread f ks (spread g ls ts) ≡ spread (glue ks f g) (ks ++ ls) ts
spread_glue [] ls f g ts = refl
spread_glue (k ∷ ks) ls f g ts = ap (λ z. mark k (f 0) ∷ z) (spread_glue ks ls (λ i. f (suc i)) g ts)

-- a chunk and the one behind it
pub joined : {s r u : List ℕ} {ks ls : List Kind} {p : Place} {n : ℕ} (c : Chunk s ks r p n) → Chunk r ls u c.q c.m → Chunk s (ks ++ ls) u p n
joined {s} {ks = ks} {ls = ls} {p = p} {n = n} c d = record {
  f = glue ks c.f d.f;
  q = d.q;
  m = d.m;
  on = λ ts t. subst (TokensFrom p n s) (spread_glue ks ls c.f d.f ts) (c.on (spread d.f ls ts) (d.on ts t));
}

pub length_spread : (ks : List Kind) (f : ℕ → Token) (ts : List Token) → length (spread f ks ts) ≡ length ks + length ts
length_spread [] f ts = omega arith
length_spread (k ∷ ks) f ts = omega (arith, length_spread ks (λ i. f (suc i)) ts)
