-- A text has one text without its marks, and then none of its comments is a bad mark; and one first bad mark at most.
use Prim.Native.Char.{code}
use Rattle.std.proofs.Common.{◌≡◌, ℕ, ◌+◌, List, [], ◌∷◌, ◌++◌, take, drop, get_or, Bool, true, false, ◌&&◌, Option, Some, None, refl, sym, ap, ap₂, ◌∙◌, arith}
use Rattle.std.specs.Prelude.{◌==◌, if◌then◌else◌}
use Rattle.std.specs.List.{prefix_len}
use Rattle.std.proofs.lemmas.Option.{same_Some}
use Rattle.ca_tree.specs.declared.name.Place.{Place}
use Rattle.ca_lex.specs.Bytes.{is_no_line_feed}
use Rattle.ca_lex.specs.Pieces.{close_len}
use Rattle.ca_lex.specs.Places.{advance, step}
use Rattle.ca_canonical.specs.declared.marks.Mark.{Mark}
use Rattle.ca_canonical.specs.declared.marks.Mark.TheVariants.{Lock, Unlock, Spawn, Parallel}
use Rattle.ca_canonical.specs.Marks.{mark_text}
use Rattle.ca_canonical.specs.Erased.{block_len, comment_len, opens_mark, behind_space, Erased, at_end, a_mark, a_comment, a_byte}
use Rattle.ca_erase.specs.BadMarks.{space_of, BadMarkFrom, here, behind_mark, behind_comment, behind_byte}

-- What stands in front

opens : (m : Mark) (s : List ℕ) → opens_mark (mark_text m ++ s) ≡ true
opens Lock s = refl
opens other s = refl

first_two : (slash star at line : Bool) (m n : ℕ) → slash && star && at ≡ true → (k : ℕ) × ((if slash then (if line then Some m else if star then Some n else None) else None) ≡ Some k)
first_two true true at true m n h = (m, refl)
first_two true true at false m n h = (n, refl)
first_two true false at line m n h = absurd (cc)
first_two false star at line m n h = absurd (cc)

-- what begins as a mark is a comment
opened : (s : List ℕ) → opens_mark s ≡ true → (n : ℕ) × (comment_len s ≡ Some n)
opened [] h = absurd (cc)
opened (a ∷ []) h = absurd (cc)
opened (a ∷ b ∷ []) h = absurd (cc)
opened (a ∷ b ∷ c ∷ s) h =
    first_two (a == code "/") (b == code "*") (c == code "@") (b == code "/") (prefix_len is_no_line_feed (b ∷ c ∷ s) + 1) (block_len (close_len (c ∷ s)) (c ∷ s)) h

-- a mark is told by its fourth letter
abbrev letter : Mark → ℕ
letter Lock = code "l"
letter Unlock = code "u"
letter Spawn = code "s"
letter Parallel = code "p"

letter_is : (m : Mark) (s : List ℕ) → get_or (mark_text m ++ s) 3 0 ≡ letter m
letter_is Lock s = refl
letter_is other s = refl

by_letter : (m k : Mark) → letter m ≡ letter k → m ≡ k
by_letter Lock Lock e = refl
by_letter Unlock Unlock e = refl
by_letter Spawn Spawn e = refl
by_letter Parallel Parallel e = refl
by_letter Lock Unlock e = absurd (omega (arith, e))
by_letter Lock Spawn e = absurd (omega (arith, e))
by_letter Lock Parallel e = absurd (omega (arith, e))
by_letter Unlock Lock e = absurd (omega (arith, e))
by_letter Unlock Spawn e = absurd (omega (arith, e))
by_letter Unlock Parallel e = absurd (omega (arith, e))
by_letter Spawn Lock e = absurd (omega (arith, e))
by_letter Spawn Unlock e = absurd (omega (arith, e))
by_letter Spawn Parallel e = absurd (omega (arith, e))
by_letter Parallel Lock e = absurd (omega (arith, e))
by_letter Parallel Unlock e = absurd (omega (arith, e))
by_letter Parallel Spawn e = absurd (omega (arith, e))

behind : (m : Mark) (s r : List ℕ) → mark_text m ++ s ≡ mark_text m ++ r → s ≡ r
behind Lock s r e = ap (drop 9) e
behind Unlock s r e = ap (drop 11) e
behind Spawn s r e = ap (drop 10) e
behind Parallel s r e = ap (drop 13) e

same_mark : (m k : Mark) (s r : List ℕ) → mark_text m ++ s ≡ mark_text k ++ r → m ≡ k
same_mark m k s r e = by_letter m k (sym (letter_is m s) ∙ ap (λ z. get_or z 3 0) e ∙ letter_is k r)

same_rest : (m k : Mark) (s r : List ℕ) → mark_text m ++ s ≡ mark_text k ++ r → s ≡ r
same_rest m k s r e = behind m s r (e ∙ ap (λ x. mark_text x ++ r) (sym (same_mark m k s r e)))

-- with the space behind it
same_front : (m k : Mark) (s r : List ℕ) → mark_text m ++ s ≡ mark_text k ++ r → mark_text m ++ space_of s ≡ mark_text k ++ space_of r
same_front m k s r e = ap₂ (λ x z. mark_text x ++ space_of z) (same_mark m k s r e) (same_rest m k s r e)

-- Two of the ways on don't begin with the same bytes

no_end_opens : (m : Mark) (s : List ℕ) → [] ≡ mark_text m ++ s → ⊥
no_end_opens m s e = let h : false ≡ true = ap opens_mark e ∙ opens m s in cc

no_comment_ends : (s : List ℕ) (n : ℕ) → comment_len s ≡ Some n → [] ≡ s → ⊥
no_comment_ends s n c e = let h : None ≡ Some n = ap comment_len e ∙ c in cc

no_mark_is_copied : (m : Mark) (s r : List ℕ) → opens_mark r ≡ false → mark_text m ++ s ≡ r → ⊥
no_mark_is_copied m s r o e = let h : true ≡ false = sym (opens m s) ∙ (ap opens_mark e ∙ o) in cc

not_both : (s : List ℕ) (n : ℕ) → comment_len s ≡ Some n → comment_len s ≡ None → ⊥
not_both s n c d = let h : Some n ≡ None = sym c ∙ d in cc

no_byte_opens : (s r : List ℕ) → opens_mark s ≡ true → comment_len r ≡ None → s ≡ r → ⊥
no_byte_opens s r o c e = let (n, d) = opened s o in not_both s n d (ap comment_len e ∙ c)

-- One text

pub one_text : {s t r u : List ℕ} → Erased s t → Erased r u → s ≡ r → t ≡ u
one_text at_end at_end e = refl
one_text at_end (a_mark m x f) e = absurd (no_end_opens m x e)
one_text at_end (a_comment {s = r} {n = k} c o f) e = absurd (no_comment_ends r k c e)
one_text at_end (a_byte c f) e = absurd (cc)
one_text (a_mark m x d) at_end e = absurd (no_end_opens m x (sym e))
one_text (a_mark m x d) (a_mark k y f) e = one_text d f (ap behind_space (same_rest m k x y e))
one_text (a_mark m x d) (a_comment {s = r} c o f) e = absurd (no_mark_is_copied m x r o e)
one_text (a_mark m x d) (a_byte {b = b} {s = y} c f) e = absurd (no_byte_opens (mark_text m ++ x) (b ∷ y) (opens m x) c e)
one_text (a_comment {s = s} {n = n} c o d) at_end e = absurd (no_comment_ends s n c (sym e))
one_text (a_comment {s = s} c o d) (a_mark k y f) e = absurd (no_mark_is_copied k y s o (sym e))
one_text (a_comment {s = s} {n = n} c o d) (a_comment {s = r} {n = k} i j f) e =
    let same : n ≡ k = same_Some n k (sym c ∙ (ap comment_len e ∙ i)) in
    ap₂ (λ a b. a ++ b) (ap₂ (λ l z. take l z) same e) (one_text d f (ap₂ (λ l z. drop l z) same e))
one_text (a_comment {s = s} {n = n} c o d) (a_byte i f) e = absurd (not_both s n c (ap comment_len e ∙ i))
one_text (a_byte c d) at_end e = absurd (cc)
one_text (a_byte {b = b} {s = x} c d) (a_mark k y f) e = absurd (no_byte_opens (mark_text k ++ y) (b ∷ x) (opens k y) c (sym e))
one_text (a_byte c d) (a_comment {s = r} {n = k} i j f) e = absurd (not_both r k i (ap comment_len (sym e) ∙ c))
one_text (a_byte c d) (a_byte i f) e = ap₂ (λ a z. a ∷ z) (ap (λ z. get_or z 0 0) e) (one_text d f (ap (drop 1) e))

-- No bad mark

pub no_bad_mark : {s t r : List ℕ} {p q : Place} → Erased s t → BadMarkFrom p r q → s ≡ r → ⊥
no_bad_mark at_end (here o n) e = let h : false ≡ true = ap opens_mark e ∙ o in cc
no_bad_mark at_end (behind_mark m x f) e = no_end_opens m x e
no_bad_mark at_end (behind_comment {n = k} {s = r} c o f) e = no_comment_ends r k c e
no_bad_mark at_end (behind_byte c f) e = cc
no_bad_mark (a_mark m x d) (here o n) e = n m x (sym e)
no_bad_mark (a_mark m x d) (behind_mark k y f) e = no_bad_mark d f (ap behind_space (same_rest m k x y e))
no_bad_mark (a_mark m x d) (behind_comment {s = r} c o f) e = no_mark_is_copied m x r o e
no_bad_mark (a_mark m x d) (behind_byte {b = b} {s = y} c f) e = no_byte_opens (mark_text m ++ x) (b ∷ y) (opens m x) c e
no_bad_mark (a_comment c o d) (here i n) e = let h : false ≡ true = sym o ∙ (ap opens_mark e ∙ i) in cc
no_bad_mark (a_comment {s = s} c o d) (behind_mark k y f) e = no_mark_is_copied k y s o (sym e)
no_bad_mark (a_comment {s = s} {n = n} c o d) (behind_comment {n = k} {s = r} i j f) e =
    let same : n ≡ k = same_Some n k (sym c ∙ (ap comment_len e ∙ i)) in
    no_bad_mark d f (ap₂ (λ l z. drop l z) same e)
no_bad_mark (a_comment {s = s} {n = n} c o d) (behind_byte i f) e = not_both s n c (ap comment_len e ∙ i)
no_bad_mark (a_byte {b = b} {s = x} c d) (here {s = r} o n) e = no_byte_opens r (b ∷ x) o c (sym e)
no_bad_mark (a_byte {b = b} {s = x} c d) (behind_mark k y f) e = no_byte_opens (mark_text k ++ y) (b ∷ x) (opens k y) c (sym e)
no_bad_mark (a_byte c d) (behind_comment {n = k} {s = r} i j f) e = not_both r k i (ap comment_len (sym e) ∙ c)
no_bad_mark (a_byte c d) (behind_byte i f) e = no_bad_mark d f (ap (drop 1) e)

-- One first bad mark

pub one_place : {s r : List ℕ} {p q x y : Place} → BadMarkFrom p s x → BadMarkFrom q r y → s ≡ r → p ≡ q → x ≡ y
one_place (here o n) (here i m) e same = same
one_place (here o n) (behind_mark k z f) e same = absurd (n k z e)
one_place (here o n) (behind_comment c i f) e same = absurd (let h : true ≡ false = sym o ∙ (ap opens_mark e ∙ i) in cc)
one_place (here {s = s} o n) (behind_byte {b = b} {s = z} c f) e same = absurd (no_byte_opens s (b ∷ z) o c e)
one_place (behind_mark m z d) (here o n) e same = absurd (n m z (sym e))
one_place (behind_mark m z d) (behind_mark k w f) e same = one_place d f (ap behind_space (same_rest m k z w e)) (ap₂ (λ p u. advance p u) same (same_front m k z w e))
one_place (behind_mark m z d) (behind_comment {s = r} c i f) e same = absurd (no_mark_is_copied m z r i e)
one_place (behind_mark m z d) (behind_byte {b = b} {s = w} c f) e same = absurd (no_byte_opens (mark_text m ++ z) (b ∷ w) (opens m z) c e)
one_place (behind_comment c o d) (here i n) e same = absurd (let h : false ≡ true = sym o ∙ (ap opens_mark e ∙ i) in cc)
one_place (behind_comment {s = s} c o d) (behind_mark k w f) e same = absurd (no_mark_is_copied k w s o (sym e))
one_place (behind_comment {n = n} {s = s} c o d) (behind_comment {n = k} {s = r} i j f) e same =
    let long : n ≡ k = same_Some n k (sym c ∙ (ap comment_len e ∙ i)) in
    one_place d f (ap₂ (λ l z. drop l z) long e) (ap₂ (λ p u. advance p u) same (ap₂ (λ l z. take l z) long e))
one_place (behind_comment {n = n} {s = s} c o d) (behind_byte i f) e same = absurd (not_both s n c (ap comment_len e ∙ i))
one_place (behind_byte {b = b} {s = z} c d) (here {s = r} o n) e same = absurd (no_byte_opens r (b ∷ z) o c (sym e))
one_place (behind_byte {b = b} {s = z} c d) (behind_mark k w f) e same = absurd (no_byte_opens (mark_text k ++ w) (b ∷ z) (opens k w) c (sym e))
one_place (behind_byte c d) (behind_comment {n = k} {s = r} i j f) e same = absurd (not_both r k i (ap comment_len (sym e) ∙ c))
one_place (behind_byte c d) (behind_byte i f) e same = one_place d f (ap (drop 1) e) (ap₂ (λ p b. step p b) same (ap (λ z. get_or z 0 0) e))
