-- Steps on the way to the text without its marks, and how far one has come.
use Prim.Native.Char.{code}
use Rattle.std.proofs.Common.{◌≡◌, ℕ, ◌+◌, ◌<◌, ◌≤◌, List, [], ◌∷◌, ◌++◌, length, take, drop, Bool, true, false, Option, Some, None, refl, sym, ap, ap₂, ◌∙◌, subst, arith, append_assoc, append-nil, length-append}
use Rattle.std.specs.Prelude.{◌==◌, if◌then◌else◌}
use Rattle.std.proofs.Math.Seq.{take-append-add, drop-append-add, take-add}
use Rattle.std.proofs.lemmas.List.{drop-drop, drop_all}
use Rattle.std.proofs.lemmas.List.Sums.{fold-append}
use Rattle.ca_tree.specs.declared.name.Place.{Place}
use Rattle.ca_lex.specs.Places.{start, step, advance}
use Rattle.ca_canonical.specs.declared.marks.Mark.{Mark}
use Rattle.ca_canonical.specs.declared.marks.Mark.TheVariants.{Lock, Unlock, Spawn, Parallel}
use Rattle.ca_canonical.specs.Marks.{mark_text}
use Rattle.ca_canonical.specs.Erased.{comment_len, opens_mark, behind_space, Erased, at_end, a_mark, a_comment, a_byte}
use Rattle.ca_erase.specs.BadMarks.{space_of, BadMarkFrom, FirstBadMark, here, behind_mark, behind_comment, behind_byte}
use Rattle.ca_erase.specs.clauses.Fronts.{Step, IsBadMark}

-- A mark and the space behind it

space_at : (t : Bool) (b : ℕ) (s : List ℕ) → (if t then b ∷ [] else []) ++ (if t then s else b ∷ s) ≡ b ∷ s
space_at true b s = refl
space_at false b s = refl

with_space : (r : List ℕ) → space_of r ++ behind_space r ≡ r
with_space [] = refl
with_space (b ∷ s) = space_at (b == code " ") b s

take_space : (r : List ℕ) → take (length (space_of r)) r ≡ space_of r
take_space [] = refl
take_space (b ∷ s) = at (b == code " ")
  where
    at : (t : Bool) → take (length (if t then b ∷ [] else [])) (b ∷ s) ≡ (if t then b ∷ [] else [])
    at true = refl
    at false = refl

drop_space : (r : List ℕ) → drop (length (space_of r)) r ≡ behind_space r
drop_space [] = refl
drop_space (b ∷ s) = at (b == code " ")
  where
    at : (t : Bool) → drop (length (if t then b ∷ [] else [])) (b ∷ s) ≡ (if t then s else b ∷ s)
    at true = refl
    at false = refl

short_space : (r : List ℕ) → length (space_of r) ≤ length r
short_space r = omega (arith, ap length (with_space r), length-append (space_of r) (behind_space r))

long_mark : (m : Mark) → 0 < length (mark_text m)
long_mark Lock = let e : length (mark_text Lock) ≡ 9 = refl in omega (arith, e)
long_mark Unlock = let e : length (mark_text Unlock) ≡ 11 = refl in omega (arith, e)
long_mark Spawn = let e : length (mark_text Spawn) ≡ 10 = refl in omega (arith, e)
long_mark Parallel = let e : length (mark_text Parallel) ≡ 13 = refl in omega (arith, e)

pub mark_step : (m : Mark) (s r : List ℕ) → s ≡ mark_text m ++ r → Step s (length (mark_text m) + length (space_of r)) []
mark_step m s r e =
    let n : ℕ = length (mark_text m) + length (space_of r) in
    let taken : take n (mark_text m ++ r) ≡ mark_text m ++ space_of r = take-append-add (mark_text m) r (length (space_of r)) ∙ ap (λ z. mark_text m ++ z) (take_space r) in
    let left : drop n (mark_text m ++ r) ≡ behind_space r = drop-append-add (mark_text m) r (length (space_of r)) ∙ drop_space r in
    subst (λ z. Step z n []) (sym e)
    (record {
      some = omega (arith, long_mark m);
      fits = omega (arith, short_space r, length-append (mark_text m) r);
      erased = λ t d. a_mark m r (subst (λ z. Erased z t) left d);
      places = λ p q d. behind_mark m r (subst (λ z. BadMarkFrom (advance p z) (behind_space r) q) taken (subst (λ z. BadMarkFrom (advance p (take n (mark_text m ++ r))) z q) left d));
    })

pub comment_step : (s : List ℕ) (n : ℕ) → comment_len s ≡ Some n → opens_mark s ≡ false → 0 < n → n ≤ length s → Step s n (take n s)
comment_step s n c o some fits = record {
  some = some;
  fits = fits;
  erased = λ t d. a_comment c o d;
  places = λ p q d. behind_comment c o d;
}

pub byte_step : (s : List ℕ) → 0 < length s → comment_len s ≡ None → Step s 1 (take 1 s)
byte_step [] l c = absurd (omega (arith, l))
byte_step (b ∷ s) l c = record {
  some = omega arith;
  fits = omega (arith, l);
  erased = λ t d. a_byte c d;
  places = λ p q d. behind_byte c d;
}

-- Behind the first k bytes of a text, which are out without marks.
pub record Sofar (text : List ℕ) (k : ℕ) (out : List ℕ) : Type 0 where
  pub erased : (t : List ℕ) → Erased (drop k text) t → Erased text (out ++ t)
  pub places : (q : Place) → BadMarkFrom (advance start (take k text)) (drop k text) q → FirstBadMark text q

pub nothing_yet : (text : List ℕ) → Sofar text 0 []
nothing_yet text = record { erased = λ t d. d; places = λ q d. d }

pub one_further : (text : List ℕ) (k n : ℕ) (out u : List ℕ) → Sofar text k out → Step (drop k text) n u → Sofar text (k + n) (out ++ u)
one_further text k n out u s w = record {
  erased = λ t d. subst (Erased text) (sym (append_assoc out u t)) (s.erased (u ++ t) (w.erased t (subst (λ z. Erased z t) (sym (drop-drop n k text)) d)));
  places = λ q d.
      let moved : advance start (take (k + n) text) ≡ advance (advance start (take k text)) (take n (drop k text)) = ap (advance start) (take-add k n text) ∙ fold-append step start (take k text) (take n (drop k text)) in
      s.places q (w.places (advance start (take k text)) q (subst (λ z. BadMarkFrom z (drop n (drop k text)) q) moved (subst (λ z. BadMarkFrom (advance start (take (k + n) text)) z q) (sym (drop-drop n k text)) d)));
}

-- through the whole text
pub all_erased : (text : List ℕ) (k : ℕ) (out : List ℕ) → length text ≤ k → Sofar text k out → Erased text out
all_erased text k out l s = subst (Erased text) (append-nil out) (s.erased [] (subst (λ z. Erased z []) (sym (drop_all k text l)) at_end))

pub refused_here : (text : List ℕ) (k : ℕ) (out : List ℕ) → Sofar text k out → IsBadMark (drop k text) → FirstBadMark text (advance start (take k text))
refused_here text k out s b = s.places (advance start (take k text)) (here b.opens b.no_mark)
