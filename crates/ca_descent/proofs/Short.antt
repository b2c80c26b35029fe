-- A part of at most n tokens: it is read from the first n + 1 tokens alone, without a limit, and the answer there says
-- what the answer is on all tokens.
use Rattle.std.proofs.Common.{◌≡◌, ℕ, ◌+◌, ◌-◌, ◌<◌, ◌≤◌, List, [], ◌∷◌, ◌++◌, length, take, drop, Bool, true, false, cond, nat_le, Option, None, refl, sym, ◌∙◌, ap, subst, append_assoc, length-append, length-take, length-drop, drop_of_length-le, arith, ◌⊎◌, inl, inr}
use Rattle.std.proofs.lemmas.List.{append_cancel_right, append-nil, length-take-le, take-append-drop, take-append-le, drop-append-le}
use Rattle.std.proofs.Math.Seq.{take-append_seam, drop-append_seam, take-append-add}
use Rattle.std.proofs.lemmas.Bool.{cases_lt, leb-true, leb-false}
use Rattle.ca_descent.specs.Exact.{Grammar, Unlimited, Wrong, TooDeep, Answer, Got, Failed, NoMemory, SameHead, Viable, Exact, head_of, Before, Short, count_read, widened}
use Rattle.ca_descent.proofs.Exact.{Default, no_memory}

-- what q begins with, q gone on with does too
same_less : {T : Type 0} (q e q' : List T) → (0 < length q) ⊎ (e ≡ []) → SameHead (q ++ e) q' → SameHead q q'
same_less [] e q' (inl h) k = absurd (omega (arith, h))
same_less [] e q' (inr h) k = subst (λ z. SameHead z q') h k
same_less (t ∷ q) e [] h k = absurd k
same_less (t ∷ q) e (u ∷ q') h k = k

-- a list that is not empty begins with its first token, whatever it goes on with
same_gone_on : {T : Type 0} (q e m : List T) → 0 < length q → SameHead q m → SameHead (q ++ e) m
same_gone_on [] e m h k = absurd (omega (arith, h))
same_gone_on (t ∷ q) e [] h k = absurd k
same_gone_on (t ∷ q) e (u ∷ m) h k = k

head_gone_on : {T A : Type 0} (want : T → Option A) (v : List T) (t : T) (e : List T)
    → head_of want (v ++ (t ∷ e)) ≡ None → head_of want (v ++ (t ∷ [])) ≡ None
head_gone_on want [] t e h = h
head_gone_on want (u ∷ v) t e h = h

not_empty : {T : Type 0} (v : List T) (t : T) → v ++ (t ∷ []) ≡ [] → ⊥
not_empty [] t e = cc
not_empty (u ∷ v) t e = cc

module _ {T A B : Type 0} (n : ℕ) (G : List T → A → List T → Type 0) (want : T → Option B) where
  abbrev pub Free : Grammar T A
  Free = Unlimited G

  abbrev pub FreeClosed : Grammar T A
  FreeClosed = Before want (Unlimited G)

  -- a short derivation is one without a limit
  let_go : (free : ℕ) (s r : List T) (y : A) → Before want (Short n G) free s y r → FreeClosed 0 s y r
  let_go free s r y c = record { it = subst (λ z. G z y r) (sym c.it.cut) (c.it.derives r); stop = c.stop }

  -- the tokens in front of q are at most n, and e stands behind all that was looked at
  module _ (h e : List T) where
    gone_on : (f q : List T) → h ≡ f ++ q → h ++ e ≡ f ++ (q ++ e)
    gone_on f q k = ap (λ z. z ++ e) k ∙ append_assoc f q e

    front_is : (w q : List T) → h ++ e ≡ w ++ (q ++ e) → h ≡ w ++ q
    front_is w q k = append_cancel_right h (w ++ q) e (k ∙ sym (append_assoc w q e))

    viable_short : (q : List T) (m : Viable Free h q) → length m.front ≤ n → Viable (Short n G) (h ++ e) (q ++ e)
    viable_short q m k = record {
      front = m.front;
      more = m.more;
      tree = m.tree;
      cut = gone_on m.front q m.cut;
      reads = λ free r i. record {
        front = m.front ++ m.more;
        cut = sym (append_assoc m.front m.more r);
        derives = λ r. subst (λ z. G z m.tree r) (sym (append_assoc m.front m.more r)) (m.reads (length (m.more ++ r)) r (omega arith));
        within = inr (omega (arith, k, i, length-append m.front (m.more ++ r)));
      };
    }

    got_short : (x : A) (q : List T) → (0 < length q) ⊎ (e ≡ []) → (d : Exact Free FreeClosed h (Got x q)) → length d.meets.front ≤ n
        → Exact (Short n G) (Before want (Short n G)) (h ++ e) (Got x (q ++ e))
    got_short x q some d k = let m = d.meets in record {
      meets = record {
        front = m.front;
        cut = gone_on m.front q m.cut;
        reads = λ free r. record { front = m.front; cut = refl; derives = λ r. m.reads 0 r; within = inl k };
      };
      along = λ free w s' q' r y e1 e2 same c.
          d.along 0 w s' q' r y (front_is w q e1) e2 (same_less q e q' some same) (let_go free s' r y c);
    }

    wrong_short : (q : List T) → (0 < length q) ⊎ (e ≡ []) → (d : Exact Free FreeClosed h (Failed (Wrong q))) → length d.meets.front ≤ n
        → Exact (Short n G) (Before want (Short n G)) (h ++ e) (Failed (Wrong (q ++ e)))
    wrong_short q some d k = record {
      meets = viable_short q d.meets k;
      along = λ free w s' q' r y e1 e2 same c.
          d.along 0 w s' q' r y (front_is w q e1) e2 (same_less q e q' some same) (let_go free s' r y c);
    }

    deep_short : (q : List T) → (d : Exact Free FreeClosed h (Failed (TooDeep q))) → length d.meets.begun.front ≤ n
        → Exact (Short n G) (Before want (Short n G)) (h ++ e) (Failed (TooDeep (q ++ e)))
    unfolding viable_short
    deep_short q d k = let p = d.meets in record {
      meets = record {
        begun = viable_short q p.begun k;
        here = omega (arith, p.here, length-append q e);
        same = same_gone_on q e p.begun.more p.here p.same;
      };
      along = λ free w s' q' r y e1 e2 same i c.
          d.along 0 w s' q' r y (front_is w q e1) e2 (same_less q e q' (inl p.here) same) (omega (arith, i)) (let_go free s' r y c);
    }

  -- all of w and t were looked at, where w has n tokens: t passes the limit
  module _ (w : List T) (t : T) (e : List T) (full : length w ≡ n) where
    -- derivations of at most n tokens end before t, and are then derivations of w and t alone
    inner : (free : ℕ) (q' r : List T) (y : A) → SameHead (t ∷ e) q' → free < length q' → Before want (Short n G) free (w ++ q') y r
        → (v : List T) × FreeClosed 0 (w ++ (t ∷ [])) y (v ++ (t ∷ []))
    inner free [] r y same k c = absurd same
    inner free (u ∷ q') r y same k c = at c.it.within
      where
        at : (length c.it.front ≤ n) ⊎ (length (w ++ (u ∷ q')) ≤ n + free) → (v : List T) × FreeClosed 0 (w ++ (t ∷ [])) y (v ++ (t ∷ []))
        at (inr i) = absurd (omega (arith, i, k, full, length-append w (u ∷ q')))
        at (inl i) =
            let f = c.it.front in
            let short : length f ≤ length w = omega (arith, i, full) in
            let v = drop (length f) w in
            let e1 : f ≡ take (length f) w =
            sym (take-append_seam f r) ∙ (ap (λ z. take (length f) z) (sym c.it.cut) ∙ take-append-le (length f) w (u ∷ q') short) in
            let e2 : r ≡ v ++ (u ∷ q') =
            sym (drop-append_seam f r) ∙ (ap (λ z. drop (length f) z) (sym c.it.cut) ∙ drop-append-le (length f) w (u ∷ q') short) in
            let e3 : f ++ v ≡ w = ap (λ z. z ++ v) e1 ∙ take-append-drop (length f) w in
            let e4 : f ++ (v ++ (t ∷ [])) ≡ w ++ (t ∷ []) = sym (append_assoc f v (t ∷ [])) ∙ ap (λ z. z ++ (t ∷ [])) e3 in
            let e5 : r ≡ v ++ (t ∷ q') = e2 ∙ ap (λ z. v ++ (z ∷ q')) (sym same) in (
              v,
              record {
                it = subst (λ z. G z y (v ++ (t ∷ []))) e4 (c.it.derives (v ++ (t ∷ [])));
                stop = head_gone_on want v t q' (subst (λ z. head_of want z ≡ None) e5 c.stop);
              },
            )

    -- so there are none, if w and t alone have none but those that read t
    past_short : (more : List T) (tree : A) → ((r : List T) → G ((w ++ (t ∷ [])) ++ (more ++ r)) tree r)
        → ((y : A) (v : List T) → FreeClosed 0 (w ++ (t ∷ [])) y (v ++ (t ∷ [])) → ⊥)
        → Exact (Short n G) (Before want (Short n G)) (w ++ (t ∷ e)) (Failed (TooDeep (t ∷ e)))
    past_short more tree m none = record {
      meets = record {
        begun = record {
          front = w;
          more = t ∷ more;
          tree = tree;
          cut = refl;
          reads = λ free r i. record {
            front = w ++ (t ∷ more);
            cut = sym (append_assoc w (t ∷ more) r);
            derives = λ r. subst (λ z. G z tree r) (append_assoc w (t ∷ []) (more ++ r) ∙ sym (append_assoc w (t ∷ more) r)) (m r);
            within = inr (omega (arith, i, full, length-append w ((t ∷ more) ++ r)));
          };
        };
        here = omega arith;
        same = refl;
      };
      along = λ free w' s' q' r y e1 e2 same i c.
          let front : w' ≡ w = append_cancel_right w' w (t ∷ e) (sym e1) in
          let k = inner free q' r y same i (subst (λ z. Before want (Short n G) free z y r) (e2 ∙ ap (λ z. z ++ q') front) c) in
          none y k.0 k.1;
    }

    got_past : (x : A) → Exact Free FreeClosed (w ++ (t ∷ [])) (Got x [])
        → Exact (Short n G) (Before want (Short n G)) (w ++ (t ∷ e)) (Failed (TooDeep (t ∷ e)))
    got_past x d = let m = d.meets in let k = m.cut ∙ append-nil m.front in
        past_short [] x (λ r. subst (λ z. G (z ++ r) x r) (sym k) (m.reads 0 r))
        (λ y v c. not_empty v t (d.along 0 (w ++ (t ∷ [])) (w ++ (t ∷ [])) [] (v ++ (t ∷ [])) y
        (sym (append-nil (w ++ (t ∷ [])))) (sym (append-nil (w ++ (t ∷ [])))) tt c).1)

    wrong_past : Exact Free FreeClosed (w ++ (t ∷ [])) (Failed (Wrong []))
        → Exact (Short n G) (Before want (Short n G)) (w ++ (t ∷ e)) (Failed (TooDeep (t ∷ e)))
    wrong_past d = let m = d.meets in let k = m.cut ∙ append-nil m.front in
        past_short m.more m.tree
        (λ r. subst (λ z. G (z ++ (m.more ++ r)) m.tree r) (sym k) (m.reads (length (m.more ++ r)) r (omega arith)))
        (λ y v c. d.along 0 (w ++ (t ∷ [])) (w ++ (t ∷ [])) [] (v ++ (t ∷ [])) y
        (sym (append-nil (w ++ (t ∷ [])))) (sym (append-nil (w ++ (t ∷ [])))) tt c)

-- either some of the first n + 1 tokens is left, or they are all
some_left : {T : Type 0} (n : ℕ) (s q : List T) → length (take (n + 1) s) ≤ n + length q → (0 < length q) ⊎ (drop (n + 1) s ≡ [])
some_left n s q k = at (cases_lt (length s) (n + 1))
  where
    at : (length s < n + 1) ⊎ (n + 1 ≤ length s) → (0 < length q) ⊎ (drop (n + 1) s ≡ [])
    at (inl h) = inr (drop_of_length-le s (omega (arith, h)))
    at (inr h) = inl (omega (arith, h, k, length-take-le (n + 1) s h))

-- the same rest, seen from all tokens
left_is : {T : Type 0} (n : ℕ) (s f q : List T) → take (n + 1) s ≡ f ++ q → q ++ drop (n + 1) s ≡ drop (count_read n s q) s
left_is n s f q k =
    let all : s ≡ f ++ (q ++ drop (n + 1) s) =
    sym (take-append-drop (n + 1) s) ∙ (ap (λ z. z ++ drop (n + 1) s) k ∙ append_assoc f q (drop (n + 1) s)) in
    let m : length (take (n + 1) s) - length q ≡ length f = omega (arith, ap length k, length-append f q) in
    sym (ap (λ z. drop z s) m ∙ (ap (λ z. drop (length f) z) all ∙ drop-append_seam f (q ++ drop (n + 1) s)))

-- where all n + 1 tokens are read, none of them is left
none_left : {T : Type 0} (n : ℕ) (s q : List T) → n + length q < length (take (n + 1) s) → q ≡ []
none_left n s [] k = refl
none_left n s (t ∷ q) k = absurd (omega (arith, k, length-take (n + 1) s))

-- and there are more than n
more_than : {T : Type 0} (n : ℕ) (s q : List T) → n + length q < length (take (n + 1) s) → n < length s
more_than n s q k = omega (arith, k, length-take (n + 1) s)

-- the token behind the first n
token_at : {T : Type 0} (n : ℕ) (s : List T) → n < length s → (t : T) × (e : List T) × (drop n s ≡ t ∷ e)
token_at {T} n s k = first (drop n s) (omega (arith, k, length-drop n s))
  where
    first : (q : List T) → 0 < length q → (t : T) × (e : List T) × (q ≡ t ∷ e)
    first [] k = absurd (omega (arith, k))
    first (t ∷ e) k = (t, e, refl)

-- all tokens and the first n + 1 of them, cut there
cut_at : {T : Type 0} (n : ℕ) (s : List T) (t : T) (e : List T) → n < length s → drop n s ≡ t ∷ e
    → (s ≡ take n s ++ (t ∷ e)) × (take (n + 1) s ≡ take n s ++ (t ∷ []))
cut_at n s t e h k =
    let cut : s ≡ take n s ++ (t ∷ e) = sym (take-append-drop n s) ∙ ap (λ z. take n s ++ z) k in
    let m : length (take n s) ≡ n = length-take-le n s (omega (arith, h)) in
    (cut, ap (λ z. take (n + 1) z) cut ∙ (ap (λ z. take (z + 1) (take n s ++ (t ∷ e))) (sym m) ∙ take-append-add (take n s) (t ∷ e) 1))

module _ {T A B : Type 0} {n : ℕ} {G : List T → A → List T → Type 0} {want : T → Option B} {s : List T} where
  to_all : (o : List T → Answer T A) (f q : List T) → take (n + 1) s ≡ f ++ q
      → Exact (Short n G) (Before want (Short n G)) (take (n + 1) s ++ drop (n + 1) s) (o (q ++ drop (n + 1) s))
      → Exact (Short n G) (Before want (Short n G)) s (o (drop (count_read n s q) s))
  to_all o f q k d = subst (λ z. Exact (Short n G) (Before want (Short n G)) s (o z)) (left_is n s f q k)
      (subst (λ z. Exact (Short n G) (Before want (Short n G)) z (o (q ++ drop (n + 1) s))) (take-append-drop (n + 1) s) d)

  -- it is read, and has at most n tokens
  pub short_got : {x : A} {q : List T} → Exact (Unlimited G) (Before want (Unlimited G)) (take (n + 1) s) (Got x q)
      → length (take (n + 1) s) ≤ n + length q → Exact (Short n G) (Before want (Short n G)) s (Got x (drop (count_read n s q) s))
  short_got {x} {q} d k = let m = d.meets in to_all (λ z. Got x z) m.front q m.cut
      (got_short n G want (take (n + 1) s) (drop (n + 1) s) x q (some_left n s q k) d (omega (arith, k, ap length m.cut, length-append m.front q)))

  -- a token is wrong, and at most n stand in front of it
  pub short_wrong : {q : List T} → Exact (Unlimited G) (Before want (Unlimited G)) (take (n + 1) s) (Failed (Wrong q))
      → length (take (n + 1) s) ≤ n + length q → Exact (Short n G) (Before want (Short n G)) s (Failed (Wrong (drop (count_read n s q) s)))
  short_wrong {q} d k = let m = d.meets in to_all (λ z. Failed (Wrong z)) m.front q m.cut
      (wrong_short n G want (take (n + 1) s) (drop (n + 1) s) q (some_left n s q k) d (omega (arith, k, ap length m.cut, length-append m.front q)))

  -- a token passes another limit
  pub short_deep : {q : List T} → Exact (Unlimited G) (Before want (Unlimited G)) (take (n + 1) s) (Failed (TooDeep q))
      → Exact (Short n G) (Before want (Short n G)) s (Failed (TooDeep (drop (count_read n s q) s)))
  short_deep {q} d = let m = d.meets.begun in to_all (λ z. Failed (TooDeep z)) m.front q m.cut
      (deep_short n G want (take (n + 1) s) (drop (n + 1) s) q d
      (omega (arith, d.meets.here, length-take (n + 1) s, ap length m.cut, length-append m.front q)))

  -- all n + 1 tokens are read, so the last of them passes the limit
  passed : (o : List T → Answer T A) {q : List T} → n + length q < length (take (n + 1) s)
      → ((t : T) (e : List T) → Exact (Unlimited G) (Before want (Unlimited G)) (take n s ++ (t ∷ [])) (o [])
      → Exact (Short n G) (Before want (Short n G)) (take n s ++ (t ∷ e)) (Failed (TooDeep (t ∷ e))))
      → Exact (Unlimited G) (Before want (Unlimited G)) (take (n + 1) s) (o q)
      → Exact (Short n G) (Before want (Short n G)) s (Failed (TooDeep (drop n s)))
  passed o {q} all f d =
      let h = more_than n s q all in
      let p = token_at n s h in
      let k = cut_at n s p.0 p.1 h p.2 in
      subst (λ z. Exact (Short n G) (Before want (Short n G)) s (Failed (TooDeep z))) (sym p.2)
      (subst (λ z. Exact (Short n G) (Before want (Short n G)) z (Failed (TooDeep (p.0 ∷ p.1)))) (sym k.0)
      (f p.0 p.1 (subst (λ z. Exact (Unlimited G) (Before want (Unlimited G)) z (o [])) k.1
      (subst (λ z. Exact (Unlimited G) (Before want (Unlimited G)) (take (n + 1) s) (o z)) (none_left n s q all) d))))

  pub past_got : {x : A} {q : List T} → Exact (Unlimited G) (Before want (Unlimited G)) (take (n + 1) s) (Got x q)
      → n + length q < length (take (n + 1) s) → Exact (Short n G) (Before want (Short n G)) s (Failed (TooDeep (drop n s)))
  past_got {x} {q} d all = passed (λ z. Got x z) {q = q} all
      (λ t e. got_past n G want (take n s) t e (length-take-le n s (omega (arith, more_than n s q all))) x) d

  pub past_wrong : {q : List T} → Exact (Unlimited G) (Before want (Unlimited G)) (take (n + 1) s) (Failed (Wrong q))
      → n + length q < length (take (n + 1) s) → Exact (Short n G) (Before want (Short n G)) s (Failed (TooDeep (drop n s)))
  past_wrong {q} d all = passed (λ z. Failed (Wrong z)) {q = q} all
      (λ t e. wrong_past n G want (take n s) t e (length-take-le n s (omega (arith, more_than n s q all)))) d

-- the answer on the first n + 1 tokens, without a limit, says the answer on all
pub exact_short : {T A B : Type 0} {n : ℕ} {G : List T → A → List T → Type 0} {want : T → Option B} {s : List T} (o : Answer T A)
    → Exact (Unlimited G) (Before want (Unlimited G)) (take (n + 1) s) o
    → Exact (Short n G) (Before want (Short n G)) s (widened n s o)
exact_short {T} {A} {n = n} {G = G} {want = want} {s = s} (Got x q) d = at (nat_le (count_read n s q) n) refl
  where
    at : (b : Bool) → nat_le (count_read n s q) n ≡ b
        → Exact (Short n G) (Before want (Short n G)) s (cond b (Got x (drop (count_read n s q) s)) (Failed (TooDeep (drop n s))))
    at true e = let h = leb-true (count_read n s q) n e in short_got d (omega (arith, h))
    at false e = let h = leb-false (count_read n s q) n e in past_got d (omega (arith, h))
exact_short (Failed NoMemory) d = no_memory
exact_short {T} {A} {n = n} {G = G} {want = want} {s = s} (Failed (Wrong q)) d = at (nat_le (count_read n s q) n) refl
  where
    at : (b : Bool) → nat_le (count_read n s q) n ≡ b
        → Exact (Short n G) (Before want (Short n G)) s (cond {A = Answer T A} b (Failed (Wrong (drop (count_read n s q) s))) (Failed (TooDeep (drop n s))))
    at true e = let h = leb-true (count_read n s q) n e in short_wrong d (omega (arith, h))
    at false e = let h = leb-false (count_read n s q) n e in past_wrong d (omega (arith, h))
exact_short (Failed (TooDeep q)) d = short_deep d

-- what derives something within no limit derives something short, where its tokens are free
pub short_default : {T A : Type 0} (n : ℕ) {G : List T → A → List T → Type 0} → Default (Unlimited G) → Default (Short n G)
short_default n d = record {
  more = d.more;
  tree = d.tree;
  reads = λ free r h. record {
    front = d.more;
    cut = refl;
    derives = λ r. d.reads (length (d.more ++ r)) r (omega arith);
    within = inr (omega (arith, h));
  };
}
