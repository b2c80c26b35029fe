-- Verdicts that are added pair by pair.
use Rattle.std.proofs.Common.{◌≡◌, ◌<◌, ◌≤◌, ◌+◌, ℕ, Bool, true, false, if◌then◌else◌, List, [], ◌∷◌, ◌++◌, length, drop, get_or, map, refl, sym, ap, ◌∙◌, subst, append_assoc, append-nil}
use Rattle.std.specs.Prelude.{Contains}
use Rattle.std.proofs.lemmas.List.{drop_all, map-append, drop_more}
use Rattle.std.proofs.lemmas.List.Elements.{Contains-append_cases}
use Rattle.ca_lists.proofs.Members.{has_nothing, has_only}
use Rattle.ca_program.specs.declared.program.OpId.{OpId}
use Rattle.ca_program.specs.Plain.{PlainProgram}
use Rattle.ca_parallel.specs.Extents.{Extent}
use Rattle.ca_parallel.specs.ExtentsOf.{ExtentOf}
use Rattle.ca_section.proofs.Members.{pick}
use Rattle.ca_plan.specs.clauses.Keeping.{IsOn}
use Rattle.ca_plan.specs.Pairs.{Pair, of_one_class, pairs_with, pairs_in}
use Rattle.ca_plan.specs.Plans.{PairVerdict, pair_of}
use Rattle.ca_plan.specs.Told.{PairTold, Told, WhollyTold}

pub told_none : (p : PlainProgram) (x : Extent) (old : List PairVerdict) → Told p x old old []
told_none p x old = record { added = []; all = sym (append-nil old); on = refl; each = λ v c. absurd (has_nothing v c) }

pub told_after : (p : PlainProgram) (x : Extent) (old mid new : List PairVerdict) (ps qs : List Pair) → Told p x old mid ps → Told p x mid new qs → Told p x old new (ps ++ qs)
told_after p x old mid new ps qs t u = record {
  added = t.added ++ u.added;
  all = u.all ∙ ap (λ z. z ++ u.added) t.all ∙ append_assoc old t.added u.added;
  on = map-append pair_of t.added u.added ∙ ap (λ z. z ++ map pair_of u.added) t.on ∙ ap (λ z. ps ++ z) u.on;
  each = λ v c. pick (Contains-append_cases t.added u.added v c) (λ z. t.each v z) (λ z. u.each v z);
}

-- one pair

pub told_one : (p : PlainProgram) (x : Extent) (old new : List PairVerdict) (a b : OpId) (v : PairVerdict) → IsOn a b v → of_one_class p a b ≡ true → new ≡ old ++ v ∷ [] → PairTold p x v → Told p x old new (pairs_with p a (b ∷ []))
told_one p x old new a b v these t is told = record {
  added = v ∷ [];
  all = is;
  on = rw t (ap (λ (q : Pair). q ∷ []) these);
  each = λ w c. subst (λ z. PairTold p x z) (has_only v w c) told;
}

pub told_no_pair : (p : PlainProgram) (x : Extent) (old : List PairVerdict) (a b : OpId) → of_one_class p a b ≡ false → Told p x old old (pairs_with p a (b ∷ []))
told_no_pair p x old a b t = rw t (told_none p x old)

-- the pairs of an operation with others

by_class : (t : Bool) (q : Pair) (qs : List Pair) → (if t then q ∷ qs else qs) ≡ (if t then q ∷ [] else []) ++ qs
by_class true q qs = refl
by_class false q qs = refl

pub record TellingWith (p : PlainProgram) (x : Extent) (old new : List PairVerdict) (a : OpId) (others : List OpId) (i : ℕ) : Type 0 where
  pub done : List Pair
  pub told : Told p x old new done
  pub left : pairs_with p a others ≡ done ++ pairs_with p a (drop i others)

pub starts_with : (p : PlainProgram) (x : Extent) (old : List PairVerdict) (a : OpId) (others : List OpId) → TellingWith p x old old a others 0
starts_with p x old a others = record { done = []; told = told_none p x old; left = refl }

pub next_with : (p : PlainProgram) (x : Extent) (old mid new : List PairVerdict) (a : OpId) (others : List OpId) (i : ℕ) (d : OpId) → i < length others
    → TellingWith p x old mid a others i → Told p x mid new (pairs_with p a (get_or others i d ∷ [])) → TellingWith p x old new a others (i + 1)
next_with p x old mid new a others i d h t told =
    let b = get_or others i d in
    let one = pairs_with p a (b ∷ []) in
    let more = pairs_with p a (drop (i + 1) others) in
    let front : pairs_with p a (drop i others) ≡ one ++ more = ap (pairs_with p a) (drop_more others i d h) ∙ by_class (of_one_class p a b) (record { a = a; b = b }) more in
    record {
      done = t.done ++ one;
      told = told_after p x old mid new t.done one t.told told;
      left = t.left ∙ ap (λ z. t.done ++ z) front ∙ sym (append_assoc t.done one more);
    }

pub ends_with : (p : PlainProgram) (x : Extent) (old new : List PairVerdict) (a : OpId) (others : List OpId) (i : ℕ) → length others ≤ i → TellingWith p x old new a others i → Told p x old new (pairs_with p a others)
ends_with p x old new a others i h t =
    let all : pairs_with p a others ≡ t.done = t.left ∙ ap (λ z. t.done ++ pairs_with p a z) (drop_all i others h) ∙ append-nil t.done in
    subst (λ z. Told p x old new z) (sym all) t.told

-- the pairs of an extent

pub record TellingIn (p : PlainProgram) (x : Extent) (old new : List PairVerdict) (ops : List OpId) (i : ℕ) : Type 0 where
  pub done : List Pair
  pub told : Told p x old new done
  pub left : pairs_in p ops ≡ done ++ pairs_in p (drop i ops)

pub starts_in : (p : PlainProgram) (x : Extent) (old : List PairVerdict) (ops : List OpId) → TellingIn p x old old ops 0
starts_in p x old ops = record { done = []; told = told_none p x old; left = refl }

pub next_in : (p : PlainProgram) (x : Extent) (old mid new : List PairVerdict) (ops : List OpId) (i : ℕ) (d : OpId) → i < length ops
    → TellingIn p x old mid ops i → Told p x mid new (pairs_with p (get_or ops i d) (drop i ops)) → TellingIn p x old new ops (i + 1)
next_in p x old mid new ops i d h t told =
    let a = get_or ops i d in
    let one = pairs_with p a (drop i ops) in
    let more = pairs_in p (drop (i + 1) ops) in
    let rest : drop i ops ≡ a ∷ drop (i + 1) ops = drop_more ops i d h in
    let front : pairs_in p (drop i ops) ≡ one ++ more = ap (pairs_in p) rest ∙ ap (λ z. pairs_with p a z ++ more) (sym rest) in
    record {
      done = t.done ++ one;
      told = told_after p x old mid new t.done one t.told told;
      left = t.left ∙ ap (λ z. t.done ++ z) front ∙ sym (append_assoc t.done one more);
    }

pub ends_in : (p : PlainProgram) (x : Extent) (old new : List PairVerdict) (ops : List OpId) (i : ℕ) → length ops ≤ i → TellingIn p x old new ops i → Told p x old new (pairs_in p ops)
ends_in p x old new ops i h t =
    let all : pairs_in p ops ≡ t.done = t.left ∙ ap (λ z. t.done ++ pairs_in p z) (drop_all i ops h) ∙ append-nil t.done in
    subst (λ z. Told p x old new z) (sym all) t.told

-- a whole extent

pub wholly : (p : PlainProgram) (roots : List OpId) (x : Extent) (vs : List PairVerdict) → ExtentOf p roots x → Told p x [] vs (pairs_in p x.ops) → WhollyTold p (record { extent = x; pairs = vs })
wholly p roots x vs is t = record {
  roots = roots;
  extent = is;
  on = ap (map pair_of) t.all ∙ t.on;
  each = λ v c. t.each v (subst (λ z. Contains z v) t.all c);
}
