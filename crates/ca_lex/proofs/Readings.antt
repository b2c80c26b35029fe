-- How far the tokens of a text have been read.
use Rattle.std.proofs.Common.{◌≡◌, ℕ, ◌+◌, ◌<◌, ◌≤◌, List, [], ◌∷◌, ◌++◌, length, take, drop, refl, sym, ap, subst, arith, append_assoc, length-append}
use Rattle.ca_tree.specs.declared.name.Place.{Place}
use Rattle.ca_tree.specs.declared.token.Kind.{Kind}
use Rattle.ca_tree.specs.declared.token.Token.{Token}
use Rattle.ca_lex.specs.Places.{advance}
use Rattle.ca_lex.specs.Pieces.{piece_of, blank_of, comment_of, token_of, refused}
use Rattle.ca_lex.specs.Tokens.{Tokens, TokensFrom, at_end, blank, comment, token}
use Rattle.ca_lex.specs.Faults as fault
use Rattle.ca_lex.specs.declared.TheConstants.{MOST_TOKENS}
use Rattle.ca_lex.specs.Faults.{LexFault, FaultFrom, Refusal, bad_byte, wide_number, token_limit}
use Rattle.ca_lex.proofs.Sizes.{blank_size, comment_size, token_size}

-- The tokens of the text are those that are out and then those of the bytes s, which begin at the place p and the number
-- n. What is refused first in these bytes is refused first in the text.
pub record Reading (text : List ℕ) (out : List Token) (p : Place) (n : ℕ) (s : List ℕ) : Type 0 where
  pub reads : (us : List Token) → TokensFrom p n s us → Tokens text (out ++ us)
  pub refuses : (q : Place) (f : Refusal) → FaultFrom p (length out) s q f → LexFault text q f

pub past_blank : {text s : List ℕ} {out : List Token} {p : Place} {n : ℕ} (k : ℕ) → Reading text out p n s → piece_of s ≡ blank_of k → Reading text out (advance p (take k s)) (n + k) (drop k s)
past_blank k r e = record { reads = λ us d. r.reads us (blank e d); refuses = λ q f d. r.refuses q f (fault.blank e d) }

pub past_comment : {text s : List ℕ} {out : List Token} {p : Place} {n : ℕ} (k : ℕ) → Reading text out p n s → piece_of s ≡ comment_of k → Reading text out (advance p (take k s)) (n + k) (drop k s)
past_comment k r e = record { reads = λ us d. r.reads us (comment e d); refuses = λ q f d. r.refuses q f (fault.comment e d) }

pub past_token : {text s : List ℕ} {out : List Token} {p : Place} {n : ℕ} (k : ℕ) (x : Kind) → Reading text out p n s → piece_of s ≡ token_of k x → length out < MOST_TOKENS → Reading text (out ++ record { kind = x; at = p; start = n; len = k } ∷ []) (advance p (take k s)) (n + k) (drop k s)
past_token {text = text} {s = s} {out = out} {p = p} {n = n} k x r e few =
    let t : Token = record { kind = x; at = p; start = n; len = k } in
    record {
      reads = λ us d. subst (Tokens text) (sym (append_assoc out (t ∷ []) us)) (r.reads (t ∷ us) (token e d));
      refuses = λ q f d. r.refuses q f (fault.token e few (subst (λ m. FaultFrom (advance p (take k s)) m (drop k s) q f) (length-append out (t ∷ [])) d));
    }

-- a piece of k bytes has been read, and so many tokens are out
pub record Passed (text : List ℕ) (out : List Token) (p : Place) (n : ℕ) (s : List ℕ) (k : ℕ) : Type 0 where
  pub some : 0 < k
  pub fits : k ≤ length s
  pub few : length out ≤ MOST_TOKENS
  pub reading : Reading text out (advance p (take k s)) (n + k) (drop k s)

pub passed_blank : {text s : List ℕ} {out : List Token} {p : Place} {n : ℕ} (k : ℕ) → Reading text out p n s → piece_of s ≡ blank_of k → length out ≤ MOST_TOKENS → Passed text out p n s k
passed_blank {s = s} k r e few = let size = blank_size s e in record { some = size.0; fits = size.1; few = few; reading = past_blank k r e }

pub passed_comment : {text s : List ℕ} {out : List Token} {p : Place} {n : ℕ} (k : ℕ) → Reading text out p n s → piece_of s ≡ comment_of k → length out ≤ MOST_TOKENS → Passed text out p n s k
passed_comment {s = s} k r e few = let size = comment_size s e in record { some = size.0; fits = size.1; few = few; reading = past_comment k r e }

pub passed_token : {text s : List ℕ} {out : List Token} {p : Place} {n : ℕ} (k : ℕ) (x : Kind) → Reading text out p n s → piece_of s ≡ token_of k x → length out < MOST_TOKENS → Passed text (out ++ record { kind = x; at = p; start = n; len = k } ∷ []) p n s k
passed_token {s = s} {out = out} {p = p} {n = n} k x r e few =
    let size = token_size s e in
    let more = length-append out (record { kind = x; at = p; start = n; len = k } ∷ []) in
    record { some = size.0; fits = size.1; few = omega (arith, more, few); reading = past_token k x r e few }

-- at what the code calls the place and the bytes behind the piece
pub passed_to : {text s : List ℕ} {out : List Token} {p : Place} {n k : ℕ} (p' : Place) (s' : List ℕ) → Passed text out p n s k → p' ≡ advance p (take k s) → s' ≡ drop k s → Reading text out p' (n + k) s'
passed_to {text = text} {s = s} {out = out} {p = p} {n = n} {k = k} p' s' r q e =
    subst (λ z. Reading text out p' (n + k) z) (sym e) (subst (λ z. Reading text out z (n + k) (drop k s)) (sym q) r.reading)

no_more : (out : List Token) → out ++ [] ≡ out
no_more [] = refl
no_more (t ∷ out) = ap (λ z. t ∷ z) (no_more out)

pub complete : {text s : List ℕ} {out : List Token} {p : Place} {n : ℕ} → Reading text out p n s → length s ≡ 0 → Tokens text out
complete {text = text} {s = []} {out = out} r e = subst (Tokens text) (no_more out) (r.reads [] at_end)
complete {s = b ∷ s} r e = absurd (omega arith)

pub refused_byte : {text s : List ℕ} {out : List Token} {p : Place} {n : ℕ} → Reading text out p n s → piece_of s ≡ refused → 0 < length s → LexFault text p bad_byte
refused_byte {s = []} r e some = absurd (omega arith)
refused_byte {s = b ∷ s} {p = p} r e some = r.refuses p bad_byte (fault.bad e)
