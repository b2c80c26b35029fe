-- Powers of two monomials, merged one by one.
use Rattle.std.proofs.Common.{◌≡◌, ℕ, ◌+◌, ◌≤◌, ◌⊎◌, inl, inr, List, [], ◌∷◌, ◌++◌, Result, Ok, Err, length, drop, refl, sym, ap, ◌∙◌, Less, Equal, Greater}
use Rattle.std.proofs.lemmas.List.{append_assoc, append-nil, drop_all}
use Rattle.std.specs.Prelude.{IfOk, IsOkAnd}
use Rattle.ca_forms.specs.Plain.{PlainPart}
use Rattle.ca_forms.specs.Compare.{part_cmp}
use Rattle.ca_forms.specs.Products.{joined, merge}

-- one item is taken from what is left
pub took : {X : Type 0} (old new rest whole all : List X) (z : X) → new ≡ old ++ z ∷ [] → whole ≡ z ∷ rest → old ++ whole ≡ all → new ++ rest ≡ all
took old new rest whole all z n w h = ap (λ l. l ++ rest) n ∙ append_assoc old (z ∷ []) rest ∙ ap (λ l. old ++ l) (sym w) ∙ h

pub nothing_left : {X : Type 0} (ps xs all : List X) (i : ℕ) → length xs ≤ i → ps ++ drop i xs ≡ all → ps ≡ all
nothing_left ps xs all i h e = sym (append-nil ps) ∙ ap (λ l. ps ++ l) (sym (drop_all i xs h)) ∙ e

pub left_first : (xs ys us vs : List (PlainPart × ℕ)) (x y : PlainPart × ℕ) → xs ≡ x ∷ us → ys ≡ y ∷ vs → part_cmp x.0 y.0 ≡ Less → merge xs ys ≡ x ∷ merge us ys
left_first xs ys us vs x y e f h = rw (e, f, h) refl

pub both_first : (xs ys us vs : List (PlainPart × ℕ)) (x y : PlainPart × ℕ) → xs ≡ x ∷ us → ys ≡ y ∷ vs → part_cmp x.0 y.0 ≡ Equal → merge xs ys ≡ joined x y ∷ merge us vs
both_first xs ys us vs x y e f h = rw (e, f, h) refl

pub right_first : (xs ys us vs : List (PlainPart × ℕ)) (x y : PlainPart × ℕ) → xs ≡ x ∷ us → ys ≡ y ∷ vs → part_cmp x.0 y.0 ≡ Greater → merge xs ys ≡ y ∷ merge xs vs
right_first xs ys us vs x y e f h = rw (e, f, h) refl

alone : (us : List (PlainPart × ℕ)) → merge us [] ≡ us ++ []
alone [] = refl
alone (a ∷ us) = ap (λ l. a ∷ l) (alone us)

pub merge_end : (xs ys ps mid end all : List (PlainPart × ℕ)) (i j : ℕ) → (length xs ≤ i) ⊎ (length ys ≤ j) → mid ≡ ps ++ drop i xs → end ≡ mid ++ drop j ys → ps ++ merge (drop i xs) (drop j ys) ≡ all → end ≡ all
merge_end xs ys ps mid end all i j (inl h) e f g = f ∙ ap (λ l. l ++ drop j ys) (e ∙ ap (λ l. ps ++ l) (drop_all i xs h) ∙ append-nil ps) ∙ ap (λ l. ps ++ merge l (drop j ys)) (sym (drop_all i xs h)) ∙ g
merge_end xs ys ps mid end all i j (inr h) e f g = f ∙ ap (λ l. mid ++ l) (drop_all j ys h) ∙ append-nil mid ∙ e ∙ ap (λ l. ps ++ l) (sym (append-nil (drop i xs)) ∙ sym (alone (drop i xs)) ∙ ap (merge (drop i xs)) (sym (drop_all j ys h))) ∙ g

-- the next power, where it is known
pub next_is : {X E : Type 0} (r : Result X E) (z : X) (whole rest : List X) → whole ≡ z ∷ rest → IfOk r (λ p. p ≡ z) → IfOk r (λ p. whole ≡ p ∷ rest)
next_is (Ok p) z whole rest w e = w ∙ ap (λ q. q ∷ rest) (sym e)
next_is (Err e) z whole rest w h = tt

pub next_took : {X E : Type 0} (r : Result X E) (old new rest whole all : List X) → IfOk r (λ p. whole ≡ p ∷ rest) → IsOkAnd r (λ p. new ≡ old ++ p ∷ []) → old ++ whole ≡ all → new ++ rest ≡ all
next_took (Ok p) old new rest whole all w n h = took old new rest whole all p n w h
next_took (Err e) old new rest whole all w n h = absurd n
