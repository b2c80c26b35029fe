-- Where no mark stands between a `}` and a `;`, the text of pieces without its marks is the text of their tokens.
use Prim.Native.Char.{code}
use Rattle.std.proofs.Common.{◌≡◌, ℕ, List, [], ◌∷◌, ◌++◌, Bool, true, false, refl, sym, ap, subst, ◌∙◌, arith}
use Rattle.std.specs.Prelude.{◌==◌, ◌&&◌, not, if◌then◌else◌, ◌^◌, ◌<◌, Option, Some, None}
use Rattle.std.specs.Char.{is_ascii_digit}
use Rattle.std.specs.Fmt.{decimal, signed_decimal}
use Rattle.std.proofs.Math.Dec.{eqb}
use Rattle.std.proofs.lemmas.Bool.{eqb-true, and_parts}
use Rattle.ca_tree.specs.declared.token.Kind.{Kind}
use Rattle.ca_tree.specs.declared.token.Kind.TheVariants.{Word, Number, Key, Sign}
use Rattle.ca_tree.specs.declared.token.Keyword.{Keyword}
use Rattle.ca_tree.specs.declared.token.Keyword.TheVariants as key
use Rattle.ca_tree.specs.declared.token.Sign.{Sign as TheSign}
use Rattle.ca_tree.specs.declared.token.Sign.TheVariants as sign
use Rattle.ca_tree.specs.Spellings.{keyword_text, sign_text}
use Rattle.ca_lex.specs.Bytes.{is_name_byte}
use Rattle.ca_canonical.specs.Marks.{Piece, token, mark, tokens, unmarked}
use Rattle.ca_canonical.specs.Texts.{kind_text, behind, behind_brace, gap_behind, gap_before, depth_behind, semicolon_first, pieces_from}
use Rattle.ca_canonical.specs.Erased.{Erased, at_end, a_mark, a_byte, comment_behind}
use Rattle.ca_lex.proofs.Numbers.{Passes, decimal_number}
use Rattle.ca_canonical.proofs.ReadBack.{Writable, gap}
use Rattle.ca_canonical.proofs.Texts.{AllWritable, kind_gap}

-- bytes before which no comment begins

abbrev quiet : List ℕ → Bool
quiet [] = true
quiet (b ∷ w) = not (b == code "/") && quiet w

no_comment : (t : Bool) (n : Option ℕ) → not t ≡ true → (if t then n else None) ≡ None
no_comment true n h = absurd (cc)
no_comment false n h = refl

quiet_erased : (w s t : List ℕ) → quiet w ≡ true → Erased s t → Erased (w ++ s) (w ++ t)
quiet_erased [] s t h e = e
quiet_erased (b ∷ w) s t h e =
    let q = and_parts (not (b == code "/")) (quiet w) h in
    a_byte (no_comment (b == code "/") (comment_behind (w ++ s)) q.0) (quiet_erased w s t q.1 e)

no_slash : (p : ℕ → Bool) (b : ℕ) → p b ≡ true → p 47 ≡ false → eqb b 47 ≡ false
no_slash p b h n = at (eqb b 47) refl
  where
    at : (t : Bool) → eqb b 47 ≡ t → t ≡ false
    at false e = refl
    at true e = let same : p b ≡ p 47 = ap p (eqb-true b 47 e) in cc

passes_quiet : (p : ℕ → Bool) (w : List ℕ) → p 47 ≡ false → Passes p w → quiet w ≡ true
passes_quiet p [] n h = refl
passes_quiet p (b ∷ w) n h = ap (λ t. not t && quiet w) (no_slash p b h.0 n) ∙ passes_quiet p w n h.1

key_quiet : (k : Keyword) → quiet (keyword_text k) ≡ true
key_quiet key.Class = refl
key_quiet other = refl

gap_erased : (line : Bool) (s t : List ℕ) → Erased s t → Erased (gap line ∷ s) (gap line ∷ t)
gap_erased true s t e = a_byte refl e
gap_erased false s t e = a_byte refl e

-- tokens with a space or a line feed behind them

sign_erased : (k : TheSign) (line : Bool) (s t : List ℕ) → Erased s t → Erased (sign_text k ++ gap line ∷ s) (sign_text k ++ gap line ∷ t)
sign_erased sign.Divide true s t e = a_byte refl (gap_erased true s t e)
sign_erased sign.Divide false s t e = a_byte refl (gap_erased false s t e)
sign_erased other line s t e = quiet_erased (sign_text other) (gap line ∷ s) (gap line ∷ t) refl (gap_erased line s t e)

number_erased : (m : ℕ) (line : Bool) (s t : List ℕ) → m < 2 ^ 63 → Erased s t → Erased (decimal m ++ gap line ∷ s) (decimal m ++ gap line ∷ t)
number_erased m line s t h e =
    let i = decimal_number m (omega (arith, h)) in
    quiet_erased (decimal m) (gap line ∷ s) (gap line ∷ t) (passes_quiet is_ascii_digit (decimal m) refl i.digits) (gap_erased line s t e)

kind_erased : (k : Kind) (line : Bool) (s t : List ℕ) → Writable k → Erased s t → Erased (kind_text k ++ gap line ∷ s) (kind_text k ++ gap line ∷ t)
kind_erased (Word w) line s t h e = quiet_erased w (gap line ∷ s) (gap line ∷ t) (passes_quiet is_name_byte w refl h.bytes) (gap_erased line s t e)
kind_erased (Number n) line s t h e = subst (λ z. Erased (signed_decimal z ++ gap line ∷ s) (signed_decimal z ++ gap line ∷ t)) (sym h.1) (number_erased h.0 line s t h.2 e)
kind_erased (Key k) line s t h e = quiet_erased (keyword_text k) (gap line ∷ s) (gap line ∷ t) (key_quiet k) (gap_erased line s t e)
kind_erased (Sign k) line s t h e = sign_erased k line s t e

token_erased : (depth : ℕ) (k : Kind) (ps qs : List Piece) (s t : List ℕ) → Writable k → behind depth k ps ≡ behind depth k qs → Erased s t
    → Erased (kind_text k ++ behind depth k ps ∷ s) (kind_text k ++ behind depth k qs ∷ t)
token_erased depth k ps qs s t w same e =
    let g = kind_gap depth k qs in
    subst (λ b. Erased (kind_text k ++ b ∷ s) (kind_text k ++ behind depth k qs ∷ t)) (sym same)
    (subst (λ b. Erased (kind_text k ++ b ∷ s) (kind_text k ++ b ∷ t)) (sym g.is) (kind_erased k g.line s t w e))

-- pieces

-- what decides on the byte behind a `}` is as it is without marks
abbrev pub Same : List Piece → Type 0
Same ps = semicolon_first ps ≡ semicolon_first (tokens (unmarked ps))

abbrev pub closes : Kind → Bool
closes (Sign sign.CloseBrace) = true
closes other = false

-- it is so behind each `}`
abbrev pub Clear : List Piece → Type 0
Clear [] = Unit {0}
Clear (token k ∷ ps) = (closes k ≡ true → Same ps) × Clear ps
Clear (mark m ∷ ps) = Clear ps

semicolon_gap : (t : Bool) (ps qs : List Piece) → gap_before (if t then Some (code "\n") else Some (code " ")) ps ≡ gap_before (if t then Some (code "\n") else Some (code " ")) qs
semicolon_gap true ps qs = refl
semicolon_gap false ps qs = refl

same_gap : (depth : ℕ) (s : TheSign) (ps : List Piece) → (closes (Sign s) ≡ true → Same ps) → gap_before (gap_behind depth s) ps ≡ gap_before (gap_behind depth s) (tokens (unmarked ps))
same_gap depth sign.CloseBrace ps h = ap behind_brace (h refl)
same_gap depth sign.Semicolon ps h = semicolon_gap (depth == 0) ps (tokens (unmarked ps))
same_gap depth other ps h = refl

same_behind : (depth : ℕ) (k : Kind) (ps : List Piece) → (closes k ≡ true → Same ps) → behind depth k ps ≡ behind depth k (tokens (unmarked ps))
same_behind depth (Sign s) ps h = same_gap depth s ps h
same_behind depth (Word w) ps h = refl
same_behind depth (Number n) ps h = refl
same_behind depth (Key k) ps h = refl

pub pieces_erased : (depth : ℕ) (ps : List Piece) → AllWritable (unmarked ps) → Clear ps → Erased (pieces_from depth ps) (pieces_from depth (tokens (unmarked ps)))
pieces_erased depth [] w c = at_end
pieces_erased depth (token k ∷ ps) w c =
    let inner = depth_behind depth k in
    token_erased depth k ps (tokens (unmarked ps)) (pieces_from inner ps) (pieces_from inner (tokens (unmarked ps))) w.0 (same_behind depth k ps c.0) (pieces_erased inner ps w.1 c.1)
pieces_erased depth (mark m ∷ ps) w c = a_mark m (code " " ∷ pieces_from depth ps) (pieces_erased depth ps w c)
