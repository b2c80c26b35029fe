-- Tokens have one first wrong token, or one first token past a limit, or derive a tree within the limits: no two of these.
use Rattle.std.proofs.Common.{◌≡◌, ℕ, ◌+◌, ◌-◌, ◌<◌, ◌≤◌, List, [], ◌++◌, length, inl, inr, ◌⊎◌, take, drop, sym, subst, append_assoc, length-append, arith}
use Rattle.std.proofs.lemmas.List.{append-nil, take-append-drop}
use Rattle.std.proofs.Math.Seq.{take-add}
use Rattle.std.proofs.lemmas.Bool.{cases_order}
use Rattle.ca_descent.specs.Whole.{Begins, BeginsWithin, FirstWrong, FirstDeep}

same_place : (k j : ℕ) → (k < j → ⊥) → (j < k → ⊥) → (k ≡ j) ⊎ ((k < j) ⊎ (j < k)) → k ≡ j
same_place k j f g (inl e) = e
same_place k j f g (inr (inl h)) = absurd (f h)
same_place k j f g (inr (inr h)) = absurd (g h)

module _ {T A : Type 0} {Derives : ℕ → List T → A → Type 0} where
  -- a front of what begins something within the limits does so too
  front_within : (a b : List T) → BeginsWithin Derives (a ++ b) → BeginsWithin Derives a
  front_within a b w = record {
    more = b ++ w.more;
    tree = w.tree;
    free = w.free;
    few = omega (arith, w.few, length-append b w.more);
    derives = subst (λ z. Derives w.free z w.tree) (append_assoc a b w.more) w.derives;
  }

  shorter_within : (i j : ℕ) (ts : List T) → i ≤ j → BeginsWithin Derives (take j ts) → BeginsWithin Derives (take i ts)
  shorter_within i j ts h w =
      let parts : take j ts ≡ take i ts ++ take (j - i) (drop i ts) =
      subst (λ n. take n ts ≡ take i ts ++ take (j - i) (drop i ts)) (let e : i + (j - i) ≡ j = omega arith in e) (take-add i (j - i) ts) in
      front_within (take i ts) (take (j - i) (drop i ts)) (subst (λ z. BeginsWithin Derives z) parts w)

  derived_within : (k : ℕ) (ts : List T) (x : A) → Derives 0 ts x → BeginsWithin Derives (take k ts)
  derived_within k ts x d = front_within (take k ts) (drop k ts) (subst (λ z. BeginsWithin Derives z) (sym (take-append-drop k ts))
      (record { more = []; tree = x; free = 0; few = omega arith; derives = subst (λ z. Derives 0 z x) (sym (append-nil ts)) d }))

  begins : (ts : List T) → BeginsWithin Derives ts → Begins Derives ts
  begins ts w = record { more = w.more; tree = w.tree; free = w.free; derives = w.derives }

  not_before : (ts : List T) (k j : ℕ) → FirstWrong Derives ts k → BeginsWithin Derives (take j ts) → j ≤ length ts → k < j → ⊥
  not_before ts k j f w h l = f.through (omega (arith, l, h)) (begins (take (k + 1) ts) (shorter_within (k + 1) j ts (omega (arith, l)) w))

  deep_not_before : (ts : List T) (k j : ℕ) → FirstDeep Derives ts k → BeginsWithin Derives (take j ts) → k < j → ⊥
  deep_not_before ts k j f w l = f.past (shorter_within (k + 1) j ts (omega (arith, l)) w)

  pub one_wrong : (ts : List T) (k j : ℕ) → FirstWrong Derives ts k → FirstWrong Derives ts j → k ≡ j
  one_wrong ts k j f g = same_place k j (not_before ts k j f g.before g.here) (not_before ts j k g f.before f.here) (cases_order k j)

  pub one_deep : (ts : List T) (k j : ℕ) → FirstDeep Derives ts k → FirstDeep Derives ts j → k ≡ j
  one_deep ts k j f g = same_place k j (deep_not_before ts k j f g.before) (deep_not_before ts j k g f.before) (cases_order k j)

  pub wrong_or_deep : (ts : List T) (k j : ℕ) → FirstWrong Derives ts k → FirstDeep Derives ts j → ⊥
  wrong_or_deep ts k j f g = at (cases_order k j)
    where
      at : (k ≡ j) ⊎ ((k < j) ⊎ (j < k)) → ⊥
      at (inl e) = f.through (omega (arith, e, g.here)) (subst (λ n. Begins Derives (take (n + 1) ts)) (sym e) g.through)
      at (inr (inl h)) = not_before ts k j f g.before (omega (arith, g.here)) h
      at (inr (inr h)) = deep_not_before ts j k g f.before h

  pub wrong_or_derived : (ts : List T) (k : ℕ) (x : A) → FirstWrong Derives ts k → Derives 0 ts x → ⊥
  wrong_or_derived ts k x f d = at (cases_order k (length ts))
    where
      at : (k ≡ length ts) ⊎ ((k < length ts) ⊎ (length ts < k)) → ⊥
      at (inl e) = f.whole e 0 x d
      at (inr (inl h)) = f.through h (begins (take (k + 1) ts) (derived_within (k + 1) ts x d))
      at (inr (inr h)) = omega (arith, h, f.here)

  pub deep_or_derived : (ts : List T) (k : ℕ) (x : A) → FirstDeep Derives ts k → Derives 0 ts x → ⊥
  deep_or_derived ts k x f d = f.past (derived_within (k + 1) ts x d)
