-- Lists of items with a separator between, up to and with a closing token: `[ item { comma item } ] close`.
-- The parser takes `close`, or reads an item and then one more behind each `comma`, and then takes `close`.
use Rattle.std.proofs.Common.{◌≡◌, ℕ, List, [], ◌∷◌, Option, Some, None, refl, sym, ◌∙◌, ap, subst}
use Rattle.ca_descent.specs.Exact.{Grammar, Failure, Wrong, Answer, Got, Failed, Exact, sees, head_of, Unseen, Past, prefixed, Following, following_end, following, Separated, separated_none, separated}
use Rattle.ca_descent.proofs.Exact.{Default, Rule, head_same, then_failed, unseen, past, got_nothing, wrong_at, sees_head}
use Rattle.ca_descent.proofs.Many.{Consed, then_consed}

-- what a list of items D asks of its items and tokens, where C is D with what may follow
pub record Punctuated {T A E F : Type 0} (D C : Grammar T A)
    (comma : T → Option E) (close : T → Option F) : Type 0 where
  -- an item before a separator or the closing token is one of C
  pub before_comma : (free : ℕ) (s q : List T) (x : A) (e : E) → D free s x q → head_of comma q ≡ Some e → C free s x q
  pub before_close : (free : ℕ) (s q : List T) (x : A) (c : F) → D free s x q → head_of close q ≡ Some c → C free s x q
  -- no item begins with the closing token, and no separator is one
  pub begins : (free : ℕ) (s r : List T) (x : A) → D free s x r → head_of close s ≡ None
  pub apart : (t : T) (e : E) → comma t ≡ Some e → close t ≡ None
  -- some token closes
  pub token : T
  pub carried : F
  pub closes : close token ≡ Some carried

module _ {T A E F : Type 0} {D C : Grammar T A} {comma : T → Option E}
    {close : T → Option F} (p : Punctuated D C comma close) where
  -- an item of a list is one of C, whether a separator or the closing token follows
  item_ends : (free : ℕ) (s q r : List T) (x : A) (xs : List A) → D free s x q → Following D comma close free q xs r → C free s x q
  item_ends free s q r x xs d (following_end {c = c} h) = p.before_close free s q x c d (sees_head close h)
  item_ends free s q r x xs d (following {e = e} h i f) = p.before_comma free s q x e d (sees_head comma h)

  -- behind an item the list can close
  following_default : (x : A) → Default (Consed (Following D comma close) x)
  following_default x = record {
    more = p.token ∷ [];
    tree = x ∷ [];
    reads = λ free r k. record { tail = []; split = refl; it = following_end (sees p.closes) };
  }

  -- a separator, an item and what follows it
  following_join : (t : T) (e : E) → comma t ≡ Some e → (free : ℕ) (s q r : List T) (x : A) (xs : List A) → D free s x q
      → Consed (Following D comma close) x free q xs r → Following D comma close free (t ∷ s) xs r
  following_join t e h free s q r x xs d f = subst (λ z. Following D comma close free (t ∷ s) z r) (sym f.split) (following (sees h) d f.it)

  -- behind a separator stands an item
  following_split : (t : T) (e : E) → comma t ≡ Some e → (free : ℕ) (s r : List T) (xs : List A) → Following D comma close free (t ∷ s) xs r
      → (x : A) × (q : List T) × C free s x q × Consed (Following D comma close) x free q xs r
  following_split t e h free s r xs f = at (t ∷ s) r xs refl f
    where
      at : (s' r : List T) (xs : List A) → s' ≡ t ∷ s → Following D comma close free s' xs r
          → (x : A) × (q : List T) × C free s x q × Consed (Following D comma close) x free q xs r
      at s' r xs k (following_end (sees g)) = let n = p.apart t e h in absurd cc
      at s' r xs k (following {mid = mid} {q = q} {x = x} {xs = ys} (sees g) d f) =
          let m : mid ≡ s = cc in
          (x, q, item_ends free s q r x ys (subst (λ z. D free z x q) m d) f, record { tail = ys; split = refl; it = f })

  -- behind a separator, an item and the list that follows it
  following_rule : (t : T) (e : E) → comma t ≡ Some e
      → Rule D C (Consed (Following D comma close)) (Consed (Following D comma close))
      (Past t (Following D comma close)) (Past t (Following D comma close))
  following_rule t e h = record { join = following_join t e h; split = following_split t e h; rest = following_default }

  -- a separator stands there and an item is read behind it: the answer is that of the rest with the item in front
  pub following_more : {s m q : List T} {t : T} {e : E} {x : A} {o : Answer T (List A)} → s ≡ t ∷ m → comma t ≡ Some e
      → Exact D C m (Got x q) → Exact (Following D comma close) (Following D comma close) q o
      → Exact (Following D comma close) (Following D comma close) s (prefixed (x ∷ []) o)
  following_more {t = t} {e = e} k h d f = past k (then_consed (following_rule t e h) d f)

  -- a separator stands there and the item behind it is not read
  pub following_failed : {s m : List T} {t : T} {e : E} (f : Failure T) → s ≡ t ∷ m → comma t ≡ Some e → Exact D C m (Failed f)
      → Exact (Following D comma close) (Following D comma close) s (Failed f)
  following_failed {t = t} {e = e} f k h d = past k (then_failed (following_rule t e h) f d)

  -- the closing token stands there
  pub following_stop : {s r : List T} {t : T} {c : F} → s ≡ t ∷ r → close t ≡ Some c
      → Exact (Following D comma close) (Following D comma close) s (Got [] r)
  following_stop {t = t} {c = c} k h = past k (got_nothing (λ free r. following_end (sees h))
      (λ free s' r xs f. at free (t ∷ s') s' r xs refl f))
    where
      at : (free : ℕ) (s s' r : List T) (xs : List A) → s ≡ t ∷ s' → Following D comma close free s xs r → (xs ≡ []) × (r ≡ s')
      at free s s' r xs k (following_end (sees g)) = (refl, cc)
      at free s s' r xs k (following {e = e} (sees {t = u} g) d f) = let n = p.apart u e g in absurd cc

  -- neither a separator nor the closing token stands there
  pub following_missing : {s : List T} → head_of comma s ≡ None → head_of close s ≡ None
      → Exact (Following D comma close) (Following D comma close) s (Failed (Wrong s))
  following_missing {s} h k = wrong_at (record { more = p.token ∷ []; tree = []; reads = λ free r n. following_end (sees p.closes) })
      (λ free s' r xs same f. at free s' r xs (sym (head_same comma s s' same) ∙ h) (sym (head_same close s s' same) ∙ k) f)
    where
      at : (free : ℕ) (s' r : List T) (xs : List A) → head_of comma s' ≡ None → head_of close s' ≡ None → Following D comma close free s' xs r → ⊥
      at free s' r xs h k (following_end g) = let n = sees_head close g in absurd cc
      at free s' r xs h k (following g d f) = let n = sees_head comma g in absurd cc

  -- a list that does not close at once has a first item
  separated_split : (free : ℕ) (s r : List T) (xs : List A) → Unseen close (Separated D comma close) free s xs r
      → (x : A) × (q : List T) × C free s x q × Consed (Following D comma close) x free q xs r
  separated_split free s r xs f = at s r xs f.unseen f.it
    where
      at : (s r : List T) (xs : List A) → head_of close s ≡ None → Separated D comma close free s xs r
          → (x : A) × (q : List T) × C free s x q × Consed (Following D comma close) x free q xs r
      at s r xs k (separated_none g) = let n = sees_head close g in absurd cc
      at s r xs k (separated {q = q} {x = x} {xs = ys} d f) =
          (x, q, item_ends free s q r x ys d f, record { tail = ys; split = refl; it = f })

  -- an item and the list that follows it
  separated_rule : Rule D C (Consed (Following D comma close)) (Consed (Following D comma close)) (Separated D comma close)
      (Unseen close (Separated D comma close))
  separated_rule = record {
    join = λ free s q r x xs d f. subst (λ z. Separated D comma close free s z r) (sym f.split) (separated d f.it);
    split = separated_split;
    rest = following_default;
  }

  -- the closing token stands there, and there are no items
  pub separated_stop : {s r : List T} {t : T} {c : F} → s ≡ t ∷ r → close t ≡ Some c
      → Exact (Separated D comma close) (Separated D comma close) s (Got [] r)
  separated_stop {t = t} {c = c} k h = past k (got_nothing (λ free r. separated_none (sees h))
      (λ free s' r xs f. at free (t ∷ s') s' r xs refl f))
    where
      at : (free : ℕ) (s s' r : List T) (xs : List A) → s ≡ t ∷ s' → Separated D comma close free s xs r → (xs ≡ []) × (r ≡ s')
      at free s s' r xs k (separated_none (sees g)) = (refl, cc)
      at free s s' r xs k (separated {q = q} {x = x} d f) =
          let n = p.begins free s q x d in let m : head_of close s ≡ Some c = ap (head_of close) k ∙ h in absurd cc

  -- the first item is read: the answer is that of the rest with the item in front
  pub separated_more : {s q : List T} {x : A} {o : Answer T (List A)} → head_of close s ≡ None → Exact D C s (Got x q)
      → Exact (Following D comma close) (Following D comma close) q o
      → Exact (Separated D comma close) (Separated D comma close) s (prefixed (x ∷ []) o)
  separated_more h d f = unseen h (then_consed separated_rule d f)

  -- the first item is not read
  pub separated_failed : {s : List T} (f : Failure T) → head_of close s ≡ None → Exact D C s (Failed f)
      → Exact (Separated D comma close) (Separated D comma close) s (Failed f)
  separated_failed f h d = unseen h (then_failed separated_rule f d)
