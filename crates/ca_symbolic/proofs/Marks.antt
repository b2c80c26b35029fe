-- The places that lists of numbers mark.
use Rattle.std.proofs.Common.{◌≡◌, ℕ, suc, ◌+◌, ◌<◌, ◌≤◌, min, Bool, true, false, ◌||◌, List, [], ◌∷◌, ◌++◌, length, map, slice_set, replicate, Result, Ok, Err, IfOk, refl, sym, ap, ap₂, ◌∙◌, arith}
use Rattle.std.specs.Prelude.{nat_eq}
use Rattle.std.specs.List.{list_any}
use Rattle.std.proofs.Math.Bool.{or-false}
use Rattle.std.proofs.lemmas.Bool.{eqb-true, eqb-false}
use Rattle.std.proofs.lemmas.List.{map-append, get_or-set_same, get_or-set_other, length-set, get_or-replicate, length-replicate}
use Rattle.ca_program.specs.declared.program.FieldId.{FieldId}
use Rattle.ca_norm.specs.Terms.{PlainTerm}
use Rattle.ca_symbolic.specs.Execution.{choose_if, choices}
use Rattle.ca_norm.specs.Terms as term
use Rattle.ca_symbolic.specs.Made.{targets}
use Rattle.ca_symbolic.specs.clauses.Places.{is_among, is_marked, marked}
use Rattle.ca_shared_terms.specs.Heavy.{is_heavy}

pub marked_append : (ms : List Bool) (ns ks : List ℕ) → marked ms (ns ++ ks) ≡ marked (marked ms ns) ks
marked_append ms [] ks = refl
marked_append ms (n ∷ ns) ks = marked_append (slice_set ms n true) ns ks

-- marks by one list and then by another
pub marked_two : (ms m1 m2 : List Bool) (xs ys : List ℕ) → m1 ≡ marked ms xs → m2 ≡ marked m1 ys → m2 ≡ marked ms (xs ++ ys)
marked_two ms m1 m2 xs ys p q = q ∙ (ap (λ m. marked m ys) p ∙ sym (marked_append ms xs ys))

pub fields_two : (ms m1 m2 : List Bool) (xs ys : List FieldId) → m1 ≡ marked ms (map (λ (f : FieldId). f.field) xs) → m2 ≡ marked m1 (map (λ (f : FieldId). f.field) ys) →
    m2 ≡ marked ms (map (λ (f : FieldId). f.field) (xs ++ ys))
fields_two ms m1 m2 xs ys p q =
    marked_two ms m1 m2 (map (λ (f : FieldId). f.field) xs) (map (λ (f : FieldId). f.field) ys) p q ∙ ap (λ ns. marked ms ns) (sym (map-append (λ (f : FieldId). f.field) xs ys))

-- one list done, and what is left
pub marked_step : (ms m1 all : List Bool) (xs ys : List ℕ) → m1 ≡ marked ms xs → marked ms (xs ++ ys) ≡ all → marked m1 ys ≡ all
marked_step ms m1 all xs ys p q = ap (λ m. marked m ys) p ∙ (sym (marked_append ms xs ys) ∙ q)

as_long : (ms : List Bool) (ns : List ℕ) → length (marked ms ns) ≡ length ms
as_long ms [] = refl
as_long ms (n ∷ ns) = as_long (slice_set ms n true) ns ∙ length-set ms n true

or_true : (b : Bool) → true ≡ (b || true)
or_true true = refl
or_true false = refl

or_assoc : (a b c : Bool) → ((a || b) || c) ≡ (a || (b || c))
or_assoc true b c = refl
or_assoc false b c = refl

one_more : (ms : List Bool) (k n : ℕ) → n < length ms → is_marked (slice_set ms k true) n ≡ (is_marked ms n || nat_eq k n)
one_more ms k n h = at (nat_eq k n) refl
  where
    at : (b : Bool) → nat_eq k n ≡ b → is_marked (slice_set ms k true) n ≡ (is_marked ms n || b)
    at true e =
        let same : k ≡ n = eqb-true k n e in
        ap (λ m. is_marked (slice_set ms m true) n) same ∙ (get_or-set_same ms n true false h ∙ or_true (is_marked ms n))
    at false e = get_or-set_other ms k n true false (λ same. eqb-false k n e (sym same)) ∙ sym (or-false (is_marked ms n))

marked_too : (ms : List Bool) (ns : List ℕ) (n : ℕ) → n < length ms → is_marked (marked ms ns) n ≡ (is_marked ms n || is_among ns n)
marked_too ms [] n h = sym (or-false (is_marked ms n))
marked_too ms (k ∷ ks) n h =
    marked_too (slice_set ms k true) ks n (let long : n < length (slice_set ms k true) = omega (arith, h, length-set ms k true) in long)
    ∙ (ap (λ b. b || is_among ks n) (one_more ms k n h) ∙ or_assoc (is_marked ms n) (nat_eq k n) (is_among ks n))

-- where nothing is marked before
pub among : (count : ℕ) (ns : List ℕ) (n : ℕ) → n < count → is_marked (marked (replicate count false) ns) n ≡ is_among ns n
among count ns n h =
    marked_too (replicate count false) ns n (omega (arith, h, length-replicate count false))
    ∙ ap (λ b. b || is_among ns n) (get_or-replicate count n false false h)

pub so_long : (count : ℕ) (ns : List ℕ) → length (marked (replicate count false) ns) ≡ count
so_long count ns = as_long (replicate count false) ns ∙ length-replicate count false

-- What two tests that agree at the places of two rows of terms choose

abbrev Agree : (ℕ → Bool) → (ℕ → Bool) → ℕ → List PlainTerm → List PlainTerm → Type 0
Agree f g i ts us = (n : ℕ) → i ≤ n → n < i + min (length ts) (length us) → f n ≡ g n

module _ (f g : ℕ → Bool) (c : PlainTerm) where
  fewer : (i : ℕ) (t u : PlainTerm) (ts us : List PlainTerm) → Agree f g i (t ∷ ts) (u ∷ us) → Agree f g (suc i) ts us
  fewer i t u ts us same = λ n p q. same n (omega (arith, p)) (omega (arith, q))

  first : (i : ℕ) (t u : PlainTerm) (ts us : List PlainTerm) → Agree f g i (t ∷ ts) (u ∷ us) → f i ≡ g i
  first i t u ts us same = same i (omega arith) (omega arith)

  choices_too : (i : ℕ) (ts us : List PlainTerm) → Agree f g i ts us → choices f i c ts us ≡ choices g i c ts us
  choices_too i [] [] same = refl
  choices_too i [] (u ∷ us) same = refl
  choices_too i (t ∷ ts) [] same = refl
  choices_too i (t ∷ ts) (u ∷ us) same =
      ap₂ (λ (b : Bool) (rest : List PlainTerm). choose_if b c t u ∷ rest) (first i t u ts us same) (choices_too (suc i) ts us (fewer i t u ts us same))

  targets_too : (i : ℕ) (ts us : List PlainTerm) → Agree f g i ts us → targets f i (choices f i c ts us) ≡ targets g i (choices g i c ts us)
  targets_too i [] [] same = refl
  targets_too i [] (u ∷ us) same = refl
  targets_too i (t ∷ ts) [] same = refl
  targets_too i (t ∷ ts) (u ∷ us) same = at (targets_too (suc i) ts us (fewer i t u ts us same)) (g i) refl
    where
      at : targets f (suc i) (choices f (suc i) c ts us) ≡ targets g (suc i) (choices g (suc i) c ts us) → (b : Bool) → g i ≡ b →
          targets f i (choices f i c (t ∷ ts) (u ∷ us)) ≡ targets g i (choices g i c (t ∷ ts) (u ∷ us))
      at rest true e = rw (first i t u ts us same ∙ e, e) (ap (λ (r : List PlainTerm). term.choose c t u ∷ r) rest)
      at rest false e = rw (first i t u ts us same ∙ e, e) rest

-- marks that agree with a test at the places of two rows
module _ (ms : List Bool) (g : ℕ → Bool) (c : PlainTerm) (ts us : List PlainTerm) (same : (n : ℕ) → n < min (length ts) (length us) → is_marked ms n ≡ g n) where
  agree : Agree (is_marked ms) g 0 ts us
  agree = λ n p q. same n (omega (arith, q))

  pub made_too : choices (is_marked ms) 0 c ts us ≡ choices g 0 c ts us
  made_too = choices_too (is_marked ms) g c 0 ts us agree

  pub heavy_too : list_any is_heavy (targets (is_marked ms) 0 (choices (is_marked ms) 0 c ts us)) ≡ list_any is_heavy (targets g 0 (choices g 0 c ts us))
  heavy_too = ap (list_any is_heavy) (targets_too (is_marked ms) g c 0 ts us agree)

  pub light_too : {T E : Type 0} (r : Result T E) (items : T → List PlainTerm) → IfOk r (λ v. items v ≡ choices (is_marked ms) 0 c ts us) →
      IfOk r (λ v. list_any is_heavy (targets (is_marked ms) 0 (items v)) ≡ false) → IfOk r (λ v. list_any is_heavy (targets g 0 (items v)) ≡ false)
  light_too (Ok v) items made light =
      ap (λ (l : List PlainTerm). list_any is_heavy (targets g 0 l)) (made ∙ made_too)
      ∙ (sym heavy_too ∙ (ap (λ (l : List PlainTerm). list_any is_heavy (targets (is_marked ms) 0 l)) (sym made) ∙ light))
  light_too (Err e) items made light = tt
