-- One lemma for each kind of step that a parsing function takes: its answer is exact if those of its parts are.
use Rattle.std.proofs.Common.{◌≡◌, ℕ, ◌<◌, ◌≤◌, List, [], ◌∷◌, ◌++◌, length, Option, Some, None, refl, sym, ◌∙◌, ap, subst, append_assoc, length-append, arith, inl, inr}
use Rattle.std.proofs.lemmas.List.{append_cancel_right}
use Rattle.ca_descent.specs.Exact.{Grammar, Unlimited, Failure, NoMemory, Wrong, TooDeep, Answer, Got, Failed, SameHead, Reads, Viable, Meets, Along, Exact, Sees, sees, head_of, Seen, Unseen, Asked, Limited, image, Past}

-- some tokens derive something, whatever follows, if no limit is asked of them
pub record Default {T A : Type 0} (D : Grammar T A) : Type 0 where
  pub more : List T
  pub tree : A
  pub reads : (free : ℕ) (r : List T) → length (more ++ r) ≤ free → D free (more ++ r) tree r

-- the same of tokens that begin with t
pub record DefaultFrom {T A : Type 0} (t : T) (D : Grammar T A) : Type 0 where
  pub more : List T
  pub tree : A
  pub reads : (free : ℕ) (r : List T) → length (t ∷ (more ++ r)) ≤ free → D free (t ∷ (more ++ r)) tree r

-- a rule of the grammar as a first part and the rest, which may name what the first part read
pub record Rule {T A B : Type 0} (Part PartClosed : Grammar T A) (E F : A → Grammar T B) (D C : Grammar T B) : Type 0 where
  pub join : (free : ℕ) (s q r : List T) (x : A) (y : B) → Part free s x q → E x free q y r → D free s y r
  pub split : (free : ℕ) (s r : List T) (y : B) → C free s y r → (x : A) × (q : List T) × PartClosed free s x q × F x free q y r
  pub rest : (x : A) → Default (E x)

-- a list begins as itself
pub same_self : {T : Type 0} (q : List T) → SameHead q q
same_self [] = tt
same_self (t ∷ q) = refl

-- lists with a common front go on to begin alike
pub same_head : {T : Type 0} (w q q' : List T) → SameHead q q' → SameHead (w ++ q) (w ++ q')
same_head [] q q' h = h
same_head (t ∷ w) q q' h = refl

-- lists that begin alike give a test the same token
pub head_same : {T A : Type 0} (want : T → Option A) (s s' : List T) → SameHead s s' → head_of want s ≡ head_of want s'
head_same want [] [] h = refl
head_same want [] (u ∷ s') h = absurd h
head_same want (t ∷ s) [] h = absurd h
head_same want (t ∷ s) (u ∷ s') h = ap want h

-- the head of a list that is not empty is that of the list gone on with
pub same_more : {T : Type 0} (q m e : List T) → 0 < length q → SameHead q m → SameHead q (m ++ e)
same_more [] m e h k = absurd (omega (arith, h))
same_more (t ∷ q) [] e h k = absurd k
same_more (t ∷ q) (u ∷ m) e h k = k

-- tokens with which an answer compares these begin alike
same_first : {T : Type 0} (w s s' q q' : List T) → s ≡ w ++ q → s' ≡ w ++ q' → SameHead q q' → SameHead s s'
same_first w s s' q q' e e' h =
    subst (λ z. SameHead z s') (sym e) (subst (λ z. SameHead (w ++ q) z) (sym e') (same_head w q q' h))

-- fewer derivations, of tokens that begin alike, are easier to stand against
along_fewer : {T A : Type 0} (PartClosed C : Grammar T A) (s : List T)
    → ((free : ℕ) (s' r : List T) (y : A) → SameHead s s' → C free s' y r → PartClosed free s' y r)
    → (o : Answer T A) → Along PartClosed s o → Along C s o
along_fewer PartClosed C s f (Got x q) a =
    λ free w s' q' r y e e' h c. a free w s' q' r y e e' h (f free s' r y (same_first w s s' q q' e e' h) c)
along_fewer PartClosed C s f (Failed NoMemory) a = tt
along_fewer PartClosed C s f (Failed (Wrong q)) a =
    λ free w s' q' r y e e' h c. a free w s' q' r y e e' h (f free s' r y (same_first w s s' q q' e e' h) c)
along_fewer PartClosed C s f (Failed (TooDeep q)) a =
    λ free w s' q' r y e e' h k c. a free w s' q' r y e e' h k (f free s' r y (same_first w s s' q q' e e' h) c)

-- more derivations are easier to meet
viable_more : {T A B : Type 0} (g : A → B) (Part : Grammar T A) (D : Grammar T B)
    → ((free : ℕ) (s r : List T) (x : A) → Part free s x r → D free s (g x) r) → (s q : List T) → Viable Part s q → Viable D s q
viable_more g Part D f s q d =
    record { front = d.front; more = d.more; tree = g d.tree; cut = d.cut; reads = λ free r h. f free _ _ _ (d.reads free r h) }

meets_image : {T A B : Type 0} (g : A → B) (Part : Grammar T A) (D : Grammar T B)
    → ((free : ℕ) (s r : List T) (x : A) → Part free s x r → D free s (g x) r)
    → (s : List T) (o : Answer T A) → Meets Part s o → Meets D s (image g o)
unfolding viable_more
meets_image g Part D f s (Got x q) d = record { front = d.front; cut = d.cut; reads = λ free r. f free _ _ _ (d.reads free r) }
meets_image g Part D f s (Failed NoMemory) d = tt
meets_image g Part D f s (Failed (Wrong q)) d = viable_more g Part D f s q d
meets_image g Part D f s (Failed (TooDeep q)) d =
    record { begun = viable_more g Part D f s q d.begun; here = d.here; same = d.same }

image_same : {T A : Type 0} (o : Answer T A) → image (λ x. x) o ≡ o
image_same (Got x q) = refl
image_same (Failed f) = refl

meets_more : {T A : Type 0} (Part D : Grammar T A) → ((free : ℕ) (s r : List T) (x : A) → Part free s x r → D free s x r)
    → (s : List T) (o : Answer T A) → Meets Part s o → Meets D s o
meets_more Part D f s o d = subst (λ z. Meets D s z) (image_same o) (meets_image (λ x. x) Part D f s o d)

module _ {T A B : Type 0} {Part PartClosed : Grammar T A} {E F : A → Grammar T B} {D C : Grammar T B}
    (rule : Rule Part PartClosed E F D C) where
  -- the tokens of the first part and those of the rest
  cut_then : (s q p : List T) (d e : List T) → s ≡ d ++ q → q ≡ e ++ p → s ≡ (d ++ e) ++ p
  cut_then s q p d e h k = h ∙ (ap (λ z. d ++ z) k ∙ sym (append_assoc d e p))

  viable_then : (s q p : List T) (x : A) → Reads Part s x q → Viable (E x) q p → Viable D s p
  viable_then s q p x d e = record {
    front = d.front ++ e.front;
    more = e.more;
    tree = e.tree;
    cut = cut_then s q p d.front e.front d.cut e.cut;
    reads = λ free r h. rw append_assoc (rule.join free _ _ _ _ _ (d.reads free (e.front ++ (e.more ++ r))) (e.reads free r h));
  }

  -- what the rest reads, the rule reads behind the first part
  meets_then : (s q : List T) (x : A) (o : Answer T B) → Reads Part s x q → Meets (E x) q o → Meets D s o
  unfolding viable_then
  meets_then s q x (Got y p) d e = record {
    front = d.front ++ e.front;
    cut = cut_then s q p d.front e.front d.cut e.cut;
    reads = λ free r. rw append_assoc (rule.join free _ _ _ _ _ (d.reads free (e.front ++ r)) (e.reads free r));
  }
  meets_then s q x (Failed NoMemory) d e = tt
  meets_then s q x (Failed (Wrong p)) d e = viable_then s q p x d e
  meets_then s q x (Failed (TooDeep p)) d e = record { begun = viable_then s q p x d e.begun; here = e.here; same = e.same }

  -- other tokens that agree through the first part derive only with the same first part
  first_part : (s q : List T) (x : A) → Exact Part PartClosed s (Got x q) → (free : ℕ) (f p w s' p' r : List T) (y : B) → q ≡ f ++ p
      → s ≡ w ++ p → s' ≡ w ++ p' → SameHead p p' → C free s' y r → F x free (f ++ p') y r
  first_part s q x d free f p w s' p' r y cut e e' h c =
      let m = d.meets in
      let k = rule.split free s' r y c in
      let front : w ≡ m.front ++ f = append_cancel_right w (m.front ++ f) p
      (sym e ∙ (m.cut ∙ (ap (λ z. m.front ++ z) cut ∙ sym (append_assoc m.front f p)))) in
      let g = d.along free m.front s' (f ++ p') k.1 k.0 m.cut (e' ∙ (ap (λ z. z ++ p') front ∙ append_assoc m.front f p'))
      (subst (λ z. SameHead z (f ++ p')) (sym cut) (same_head f p p' h)) k.2 in
      subst (λ z. F x free z y r) g.1 (subst (λ z. F z free k.1 y r) g.0 k.3)

  -- so they derive with the rest's tree alone, or not at all
  along_then : (s q : List T) (x : A) → Exact Part PartClosed s (Got x q) → (o : Answer T B) → Meets (E x) q o → Along (F x) q o
      → Along C s o
  along_then s q x d (Got z p) m a = λ free w s' p' r y e e' h c.
      a free m.front (m.front ++ p') p' r y m.cut refl h (first_part s q x d free m.front p w s' p' r y m.cut e e' h c)
  along_then s q x d (Failed NoMemory) m a = tt
  along_then s q x d (Failed (Wrong p)) m a = λ free w s' p' r y e e' h c.
      a free m.front (m.front ++ p') p' r y m.cut refl h (first_part s q x d free m.front p w s' p' r y m.cut e e' h c)
  along_then s q x d (Failed (TooDeep p)) m a = λ free w s' p' r y e e' h k c.
      let b = m.begun in
      a free b.front (b.front ++ p') p' r y b.cut refl h k (first_part s q x d free b.front p w s' p' r y b.cut e e' h c)

  -- the first part is read, so the answer is that of the rest
  pub then_ok : {s q : List T} {x : A} {o : Answer T B} → Exact Part PartClosed s (Got x q) → Exact (E x) (F x) q o → Exact D C s o
  then_ok {s} {q} {x} {o} d e = record {
    meets = meets_then s q x o d.meets e.meets;
    along = along_then s q x d o e.meets e.along;
  }

  -- the first part can still be read, and the rest behind it
  viable_first : (s q : List T) → (m : Viable Part s q) → Viable D s q
  viable_first s q m = let e = rule.rest m.tree in record {
    front = m.front;
    more = m.more ++ e.more;
    tree = e.tree;
    cut = m.cut;
    reads = λ free r h.
        let g : length (m.more ++ (e.more ++ r)) ≤ free = subst (λ z. length z ≤ free) (append_assoc m.more e.more r) h in
        let k : length (e.more ++ r) ≤ free = omega (arith, g, length-append m.more (e.more ++ r)) in
        subst (λ z. D free (m.front ++ z) e.tree r) (sym (append_assoc m.more e.more r))
        (rule.join free _ _ _ _ _ (m.reads free (e.more ++ r) g) (e.reads free r k));
  }

  -- the first part is not read, so the whole is not
  pub then_failed : {s : List T} (f : Failure T) → Exact Part PartClosed s (Failed f) → Exact D C s (Failed f)
  unfolding viable_first
  then_failed NoMemory d = record { meets = tt; along = tt }
  then_failed {s} (Wrong q) d = record {
    meets = viable_first s q d.meets;
    along = λ free w s' q' r y e e' h c. let k = rule.split free s' r y c in d.along free w s' q' k.1 k.0 e e' h k.2;
  }
  then_failed {s} (TooDeep q) d = let m = d.meets in record {
    meets = record {
      begun = viable_first s q m.begun;
      here = m.here;
      same = same_more q m.begun.more (rule.rest m.begun.tree).more m.here m.same;
    };
    along = λ free w s' q' r y e e' h n c. let k = rule.split free s' r y c in d.along free w s' q' k.1 k.0 e e' h n k.2;
  }

-- out of memory claims nothing
pub no_memory : {T A : Type 0} {D C : Grammar T A} {s : List T} → Exact D C s (Failed NoMemory)
no_memory = record { meets = tt; along = tt }

-- nothing is read: tokens that begin as these do derive no other tree here
pub got_nothing_here : {T A : Type 0} {D C : Grammar T A} {s : List T} {x : A} → ((free : ℕ) (r : List T) → D free r x r)
    → ((free : ℕ) (s' r : List T) (y : A) → SameHead s s' → C free s' y r → (y ≡ x) × (r ≡ s')) → Exact D C s (Got x s)
got_nothing_here {s = s} d f = record {
  meets = record { front = []; cut = refl; reads = d };
  along = λ free w s' q' r y e e' h c.
      let none : w ≡ [] = append_cancel_right w [] s (sym e) in
      let g = f free s' r y (same_first w s s' s q' e e' h) c in
      (g.0, g.1 ∙ (e' ∙ ap (λ z. z ++ q') none));
}

-- nothing is read, as no tokens derive another tree
pub got_nothing : {T A : Type 0} {D C : Grammar T A} {s : List T} {x : A} → ((free : ℕ) (r : List T) → D free r x r)
    → ((free : ℕ) (s' r : List T) (y : A) → C free s' y r → (y ≡ x) × (r ≡ s')) → Exact D C s (Got x s)
got_nothing d f = got_nothing_here d (λ free s' r y h c. f free s' r y c)

-- the first token is wrong: tokens that begin as these do derive nothing
pub wrong_at : {T A : Type 0} {D C : Grammar T A} {s : List T} → Default D
    → ((free : ℕ) (s' r : List T) (y : A) → SameHead s s' → C free s' y r → ⊥) → Exact D C s (Failed (Wrong s))
wrong_at {s = s} d f = record {
  meets = record { front = []; more = d.more; tree = d.tree; cut = refl; reads = d.reads };
  along = λ free w s' q' r y e e' h c. f free s' r y (same_first w s s' s q' e e' h) c;
}

-- the first token would do, and passes a limit: tokens that begin as these do derive nothing unless it is free
pub too_deep_at : {T A : Type 0} {D C : Grammar T A} {s q : List T} {t : T} → s ≡ t ∷ q → DefaultFrom t D
    → ((free : ℕ) (s' r : List T) (y : A) → SameHead s s' → free < length s' → C free s' y r → ⊥)
    → Exact D C s (Failed (TooDeep s))
too_deep_at {s = s} {q = q} {t = t} e d f = record {
  meets = record {
    begun = record { front = []; more = t ∷ d.more; tree = d.tree; cut = refl; reads = d.reads };
    here = omega (arith, ap length e);
    same = subst (λ z. SameHead z (t ∷ d.more)) (sym e) refl;
  };
  along = λ free w s' q' r y e1 e2 h k c.
      f free s' r y (same_first w s s' s q' e1 e2 h) (omega (arith, k, ap length e2, length-append w q')) c;
}

-- the first token meets the limit
pub limited_ok : {T A P : Type 0} {D C : Grammar T A} {s : List T} {o : Answer T A} → P → Exact D C s o
    → Exact (Limited P D) (Limited P C) s o
limited_ok {P = P} {D = D} {C = C} {s = s} {o = o} p d = record {
  meets = meets_more D (Limited P D) (λ free s r x m. record { it = m; asked = inl p }) s o d.meets;
  along = along_fewer C (Limited P C) s (λ free s' r y h c. c.it) o d.along;
}

-- the first token would do, and does not meet the limit
pub limited_deep : {T A P : Type 0} {D C : Grammar T A} {s q : List T} {t : T} → (P → ⊥) → s ≡ t ∷ q → DefaultFrom t D
    → Exact (Limited P D) (Limited P C) s (Failed (TooDeep s))
limited_deep {T} {A} {P} {D} {C} {s} {q} {t} n e d = too_deep_at e
    (record { more = d.more; tree = d.tree; reads = λ free r h. record { it = d.reads free r h; asked = inr h } })
    (λ free s' r y h k c. at free s' k c.asked)
  where
    at : (free : ℕ) (s' : List T) → free < length s' → Asked P free s' → ⊥
    at free s' k (inl p) = n p
    at free s' k (inr m) = omega (arith, k, m)

-- the terminal stands there
pub sees_ok : {T A : Type 0} (want : T → Option A) {s r : List T} {t : T} {a : A} → s ≡ t ∷ r → want t ≡ Some a
    → Exact (Unlimited (Sees want)) (Unlimited (Sees want)) s (Got a r)
sees_ok {T} {A} want {s} {r} {t} {a} e h = record {
  meets = record { front = t ∷ []; cut = e; reads = λ free p. sees h };
  along = λ free w s' q' p y e1 e2 k c.
      let front : w ≡ t ∷ [] = append_cancel_right w (t ∷ []) r (sym e1 ∙ e) in
      at s' p q' y (e2 ∙ ap (λ z. z ++ q') front) c;
}
  where
    at : (s' p q' : List T) (y : A) → s' ≡ t ∷ q' → Sees want s' y p → (y ≡ a) × (p ≡ q')
    at s' p q' y e (sees k) = (cc, cc)

-- some token is the terminal
pub sees_default : {T A : Type 0} (want : T → Option A) {t : T} {a : A} → want t ≡ Some a → Default (Unlimited (Sees want))
sees_default want {t} {a} h = record { more = t ∷ []; tree = a; reads = λ free r k. sees h }

-- what a terminal read began with a wanted token
pub sees_head : {T A : Type 0} (want : T → Option A) {s r : List T} {a : A} → Sees want s a r → head_of want s ≡ Some a
sees_head want (sees h) = h

-- a terminal that was read stands there
pub sees_got : {T A : Type 0} {want : T → Option A} {s r : List T} {a : A} → Sees want s a r
    → Exact (Unlimited (Sees want)) (Unlimited (Sees want)) s (Got a r)
sees_got {want = want} (sees h) = sees_ok want refl h

-- the token of a terminal, as its test finds it
pub sees_parts : {T A : Type 0} {want : T → Option A} {s r : List T} {a : A} → Sees want s a r
    → (t : T) × (s ≡ t ∷ r) × (want t ≡ Some a)
sees_parts (sees {t = t} h) = (t, refl, h)

-- what stands behind a terminal is shorter
pub sees_shorter : {T A : Type 0} {want : T → Option A} {s r : List T} {a : A} → Sees want s a r → length r < length s
sees_shorter (sees h) = omega arith

-- what stands behind an answer is no longer
pub no_longer : {T A : Type 0} {D C : Grammar T A} {s q : List T} {x : A} → Exact D C s (Got x q) → length q ≤ length s
no_longer {q = q} d = let m = d.meets in omega (arith, ap length m.cut, length-append m.front q)

-- it is shorter, if nothing is derived from no tokens
pub shrinks : {T A : Type 0} {D C : Grammar T A} → ((free : ℕ) (r : List T) (x : A) → D free [] x r → ⊥)
    → {s q : List T} {x : A} → Exact D C s (Got x q) → length q < length s
shrinks {T} {A} {D} {C} none {s} {q} {x} d = at d.meets.front d.meets.cut (d.meets.reads 0 [])
  where
    at : (f : List T) → s ≡ f ++ q → D 0 (f ++ []) x [] → length q < length s
    at [] e g = absurd (none 0 [] x g)
    at (t ∷ f) e g = omega (arith, ap length e, length-append f q)

-- another token stands there than the terminal
pub sees_wrong : {T A : Type 0} (want : T → Option A) {t : T} {a : A} → want t ≡ Some a → {s : List T} → head_of want s ≡ None
    → Exact (Unlimited (Sees want)) (Unlimited (Sees want)) s (Failed (Wrong s))
sees_wrong want h {s} e = wrong_at (sees_default want h) (λ free s' r y k c.
    let g = head_same want s s' k in let f = sees_head want c in absurd cc)

-- the tokens begin with a wanted token, so only such derivations count
pub seen : {T A B : Type 0} {D C : Grammar T A} {want : T → Option B} {a : B} {s : List T} {o : Answer T A}
    → head_of want s ≡ Some a → Exact D (Seen want a C) s o → Exact D C s o
seen {D = D} {C = C} {want = want} {a = a} {s = s} {o = o} e d = record {
  meets = d.meets;
  along = along_fewer (Seen want a C) C s (λ free s' r y h c. record { it = c; seen = sym (head_same want s s' h) ∙ e }) o d.along;
}

-- the tokens begin with another token, so only derivations of such count
pub unseen : {T A B : Type 0} {D C : Grammar T A} {want : T → Option B} {s : List T} {o : Answer T A}
    → head_of want s ≡ None → Exact D (Unseen want C) s o → Exact D C s o
unseen {D = D} {C = C} {want = want} {s = s} {o = o} e d = record {
  meets = d.meets;
  along = along_fewer (Unseen want C) C s (λ free s' r y h c. record { it = c; unseen = sym (head_same want s s' h) ∙ e }) o d.along;
}

-- a grammar with the same derivations
pub exact_map : {T A : Type 0} {Part PartClosed D C : Grammar T A} → ((free : ℕ) (s r : List T) (x : A) → Part free s x r → D free s x r)
    → ((free : ℕ) (s r : List T) (x : A) → C free s x r → PartClosed free s x r) → {s : List T} {o : Answer T A} → Exact Part PartClosed s o
    → Exact D C s o
exact_map {Part = Part} {PartClosed = PartClosed} {D = D} {C = C} f g {s} {o} d = record {
  meets = meets_more Part D f s o d.meets;
  along = along_fewer PartClosed C s (λ free s' r y h c. g free s' r y c) o d.along;
}

-- each derivation of a changed tree is one of the tree
along_image : {T A B : Type 0} (g : A → B) (PartClosed : Grammar T A) (C : Grammar T B)
    → ((free : ℕ) (s r : List T) (y : B) → C free s y r → (x : A) × (y ≡ g x) × PartClosed free s x r)
    → (s : List T) (o : Answer T A) → Along PartClosed s o → Along C s (image g o)
along_image g PartClosed C f s (Got x q) a = λ free w s' q' r y e e' h c.
    let k = f free s' r y c in let b = a free w s' q' r k.0 e e' h k.2 in (k.1 ∙ ap g b.0, b.1)
along_image g PartClosed C f s (Failed NoMemory) a = tt
along_image g PartClosed C f s (Failed (Wrong q)) a = λ free w s' q' r y e e' h c.
    let k = f free s' r y c in a free w s' q' r k.0 e e' h k.2
along_image g PartClosed C f s (Failed (TooDeep q)) a = λ free w s' q' r y e e' h n c.
    let k = f free s' r y c in a free w s' q' r k.0 e e' h n k.2

-- a grammar with the same derivations, of trees that g changes
pub exact_image : {T A B : Type 0} (g : A → B) {Part PartClosed : Grammar T A} {D C : Grammar T B}
    → ((free : ℕ) (s r : List T) (x : A) → Part free s x r → D free s (g x) r)
    → ((free : ℕ) (s r : List T) (y : B) → C free s y r → (x : A) × (y ≡ g x) × PartClosed free s x r)
    → {s : List T} {o : Answer T A} → Exact Part PartClosed s o → Exact D C s (image g o)
exact_image g {Part} {PartClosed} {D} {C} f k {s} {o} d = record {
  meets = meets_image g Part D f s o d.meets;
  along = along_image g PartClosed C k s o d.along;
}

-- the first token is taken, so the answer is that of what the grammar derives behind it
pub past : {T A : Type 0} {D C : Grammar T A} {s q : List T} {t : T} {o : Answer T A} → s ≡ t ∷ q
    → Exact (Past t D) (Past t C) q o → Exact D C s o
past {T} {A} {D} {C} {s} {q} {t} {o} e d = record { meets = m o d.meets; along = a o d.meets d.along }
  where
    begun : (p : List T) → Viable (Past t D) q p → Viable D s p
    begun p d = record { front = t ∷ d.front; more = d.more; tree = d.tree; cut = e ∙ ap (λ z. t ∷ z) d.cut; reads = d.reads }

    m : (o : Answer T A) → Meets (Past t D) q o → Meets D s o
    m (Got x p) d = record { front = t ∷ d.front; cut = e ∙ ap (λ z. t ∷ z) d.cut; reads = d.reads }
    m (Failed NoMemory) d = tt
    m (Failed (Wrong p)) d = begun p d
    m (Failed (TooDeep p)) d = record { begun = begun p d.begun; here = d.here; same = d.same }

    behind : (free : ℕ) (f w s' p p' r : List T) (y : A) → q ≡ f ++ p → s ≡ w ++ p → s' ≡ w ++ p' → C free s' y r
        → C free (t ∷ (f ++ p')) y r
    behind free f w s' p p' r y cut e1 e2 c =
        let front : w ≡ t ∷ f = append_cancel_right w (t ∷ f) p (sym e1 ∙ (e ∙ ap (λ z. t ∷ z) cut)) in
        subst (λ z. C free z y r) (e2 ∙ ap (λ z. z ++ p') front) c

    a : (o : Answer T A) → Meets (Past t D) q o → Along (Past t C) q o → Along C s o
    a (Got x p) d f = λ free w s' p' r y e1 e2 h c.
        f free d.front (d.front ++ p') p' r y d.cut refl h (behind free d.front w s' p p' r y d.cut e1 e2 c)
    a (Failed NoMemory) d f = tt
    a (Failed (Wrong p)) d f = λ free w s' p' r y e1 e2 h c.
        f free d.front (d.front ++ p') p' r y d.cut refl h (behind free d.front w s' p p' r y d.cut e1 e2 c)
    a (Failed (TooDeep p)) d f = λ free w s' p' r y e1 e2 h n c.
        let b = d.begun in
        f free b.front (b.front ++ p') p' r y b.cut refl h n (behind free b.front w s' p p' r y b.cut e1 e2 c)
