-- The tokens of the text of some tokens are these.
use Prim.Native.Char.{code}
use Rattle.std.proofs.Common.{◌≡◌, ℕ, ◌+◌, List, [], ◌∷◌, ◌++◌, map, length, take, drop, Bool, true, false, refl, sym, ap, subst}
use Rattle.std.specs.Prelude.{◌==◌, if◌then◌else◌, Some}
use Rattle.std.proofs.Math.Seq.{drop-append_seam}
use Rattle.ca_tree.specs.declared.name.Place.{Place}
use Rattle.ca_tree.specs.declared.token.Kind.{Kind}
use Rattle.ca_tree.specs.declared.token.Kind.TheVariants.{Word, Number, Key, Sign}
use Rattle.ca_tree.specs.declared.token.Sign.{Sign as TheSign}
use Rattle.ca_tree.specs.declared.token.Sign.TheVariants as sign
use Rattle.ca_tree.specs.declared.token.Token.{Token}
use Rattle.ca_lex.specs.Places.{advance, start}
use Rattle.ca_lex.specs.Pieces.{piece_of, blank_of}
use Rattle.ca_lex.specs.Tokens.{TokensFrom, at_end, blank, token}
use Rattle.ca_canonical.specs.Marks.{Piece}
use Rattle.ca_canonical.specs.Marks as piece
use Rattle.ca_canonical.specs.Texts.{kind_text, behind, behind_brace, gap_behind, gap_before, depth_behind, semicolon_first, pieces_from, text_of}
use Rattle.ca_canonical.proofs.ReadBack.{Writable, gap, read_back}

abbrev pub kinds : List Token → List Kind
kinds ts = map (λ t. t.kind) ts

abbrev pub AllWritable : List Kind → Type 0
AllWritable [] = Unit {0}
AllWritable (k ∷ ks) = Writable k × AllWritable ks

-- whether a line feed stands behind the token
abbrev line_behind_brace : Bool → Bool
line_behind_brace true = false
line_behind_brace false = true

brace_gap : (t : Bool) → behind_brace t ≡ gap (line_behind_brace t)
brace_gap true = refl
brace_gap false = refl

pub record IsGap (b : ℕ) : Type 0 where
  pub line : Bool
  pub is : b ≡ gap line

semicolon_gap : (t : Bool) (next : List Piece) → IsGap (gap_before (if t then Some (code "\n") else Some (code " ")) next)
semicolon_gap true next = record { line = true; is = refl }
semicolon_gap false next = record { line = false; is = refl }

sign_gap : (depth : ℕ) (s : TheSign) (next : List Piece) → IsGap (gap_before (gap_behind depth s) next)
sign_gap depth sign.OpenBrace next = record { line = true; is = refl }
sign_gap depth sign.Colon next = record { line = true; is = refl }
sign_gap depth sign.Semicolon next = semicolon_gap (depth == 0) next
sign_gap depth sign.CloseBrace next = record { line = line_behind_brace (semicolon_first next); is = brace_gap (semicolon_first next) }
sign_gap depth other next = record { line = false; is = refl }

pub kind_gap : (depth : ℕ) (k : Kind) (next : List Piece) → IsGap (behind depth k next)
kind_gap depth (Sign s) next = sign_gap depth s next
kind_gap depth (Word w) next = record { line = false; is = refl }
kind_gap depth (Number n) next = record { line = false; is = refl }
kind_gap depth (Key k) next = record { line = false; is = refl }

gap_blank : (line : Bool) (rest : List ℕ) → piece_of (gap line ∷ rest) ≡ blank_of 1
unfolding piece_of
gap_blank true rest = refl
gap_blank false rest = refl

-- some tokens of these kinds
pub record Lexed (p : Place) (n : ℕ) (s : List ℕ) (ks : List Kind) : Type 0 where
  pub tokens : List Token
  pub are : TokensFrom p n s tokens
  pub same : kinds tokens ≡ ks

one_token : (p : Place) (n : ℕ) (k : Kind) (line : Bool) (rest : List ℕ) (ks : List Kind) → Writable k
    → ((q : Place) (m : ℕ) → Lexed q m rest ks) → Lexed p n (kind_text k ++ gap line ∷ rest) (k ∷ ks)
one_token p n k line rest ks w more =
    let text = kind_text k in
    let s : List ℕ = text ++ gap line ∷ rest in
    let len = length text in
    let q : Place = advance p (take len s) in
    let others : Lexed (advance q (gap line ∷ [])) (n + len + 1) rest ks = more (advance q (gap line ∷ [])) (n + len + 1) in
    let gone : TokensFrom q (n + len) (gap line ∷ rest) others.tokens = blank (gap_blank line rest) others.are in
    let behind : TokensFrom q (n + len) (drop len s) others.tokens = subst (λ z. TokensFrom q (n + len) z others.tokens) (sym (drop-append_seam text (gap line ∷ rest))) gone in
    record { tokens = record { kind = k; at = p; start = n; len = len } ∷ others.tokens; are = token (read_back k line rest w) behind; same = ap (λ z. k ∷ z) others.same }

lexed : (depth : ℕ) (ks : List Kind) (p : Place) (n : ℕ) → AllWritable ks → Lexed p n (pieces_from depth (piece.tokens ks)) ks
lexed depth [] p n a = record { tokens = []; are = at_end; same = refl }
lexed depth (k ∷ ks) p n a =
    let g = kind_gap depth k (piece.tokens ks) in
    subst (λ b. Lexed p n (kind_text k ++ b ∷ pieces_from (depth_behind depth k) (piece.tokens ks)) (k ∷ ks)) (sym g.is)
    (one_token p n k g.line (pieces_from (depth_behind depth k) (piece.tokens ks)) ks a.0 (λ q m. lexed (depth_behind depth k) ks q m a.1))

pub canonical_tokens : (ks : List Kind) → AllWritable ks → Lexed start 0 (text_of ks) ks
canonical_tokens ks a = lexed 0 ks start 0 a
