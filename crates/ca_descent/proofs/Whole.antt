-- From an exact answer to what it says of the whole text.
use Rattle.std.proofs.Common.{◌≡◌, ℕ, ◌+◌, ◌-◌, ◌<◌, List, [], ◌∷◌, ◌++◌, length, take, refl, sym, ◌∙◌, ap, subst, append_assoc, length-append, arith}
use Rattle.std.proofs.lemmas.List.{append-nil}
use Rattle.std.proofs.Math.Seq.{take-append_seam, take-append-add}
use Rattle.ca_descent.specs.Exact.{Grammar, Wrong, TooDeep, Got, Failed, SameHead, Viable, Exact}
use Rattle.ca_descent.specs.Whole.{Begins, BeginsWithin, FirstWrong, FirstDeep}
use Rattle.ca_descent.proofs.Exact.{same_self}

-- the whole of a list derives the tree
abbrev pub All : {T A : Type 0} → Grammar T A → ℕ → List T → A → Type 0
All D free ts x = D free ts x []

-- a grammar of whole texts, as it is and with what may follow
abbrev pub Ends : {T A : Type 0} → Grammar T A → Grammar T A → Type 0
Ends {T} {A} D C = (free : ℕ) (s : List T) (y : A) → D free s y [] → C free s y []

-- no tokens that agree with these through the token behind w derive a tree, so nothing begins through it
dead : {T A : Type 0} (Derives : ℕ → List T → A → Type 0) (w q : List T)
    → ((free : ℕ) (q' : List T) → SameHead q q' → (y : A) → Derives free (w ++ q') y → ⊥)
    → 0 < length q → Begins Derives (take (length w + 1) (w ++ q)) → ⊥
dead Derives w [] f h b = absurd (omega arith)
dead Derives w (t ∷ q) f h b =
    let e : take (length w + 1) (w ++ t ∷ q) ≡ w ++ t ∷ [] = take-append-add w (t ∷ q) 1 in
    let k : take (length w + 1) (w ++ t ∷ q) ++ b.more ≡ w ++ t ∷ b.more =
    ap (λ z. z ++ b.more) e ∙ append_assoc w (t ∷ []) b.more in
    f b.free (t ∷ b.more) refl b.tree (subst (λ z. Derives b.free z b.tree) k b.derives)

-- what can still be read begins a text within the limits
begun : {T A : Type 0} {D : Grammar T A} {s q : List T} → (m : Viable D s q) → BeginsWithin (All D) m.front
begun {D = D} m = record {
  more = m.more;
  tree = m.tree;
  free = length m.more;
  few = omega arith;
  derives = subst (λ z. D (length m.more) (m.front ++ z) m.tree []) (append-nil m.more)
      (m.reads (length m.more) [] (omega (arith, length-append m.more [])));
}

-- w begins something, and no tokens that agree with w and the token behind it derive a tree
wrong_behind : {T A : Type 0} (Derives : ℕ → List T → A → Type 0) (w q : List T)
    → ((free : ℕ) (q' : List T) → SameHead q q' → (y : A) → Derives free (w ++ q') y → ⊥) → BeginsWithin Derives w
    → FirstWrong Derives (w ++ q) (length w)
wrong_behind Derives w q f b = record {
  here = omega (arith, length-append w q);
  before = subst (λ z. BeginsWithin Derives z) (sym (take-append_seam w q)) b;
  through = λ h. dead Derives w q f (omega (arith, length-append w q));
  whole = λ h free x d. f free q (same_self q) x d;
}

-- the same at tokens that are cut there, with the place as their number less the rest's
wrong_cut : {T A : Type 0} (D : Grammar T A) (w ts q : List T) → ts ≡ w ++ q
    → ((free : ℕ) (s' q' : List T) → s' ≡ w ++ q' → SameHead q q' → (y : A) → D free s' y [] → ⊥) → BeginsWithin (All D) w
    → FirstWrong (All D) ts (length ts - length q)
wrong_cut D w ts q cut f b =
    let k : length ts - length q ≡ length w = omega (arith, ap length cut, length-append w q) in
    subst (λ z. FirstWrong (All D) z (length ts - length q)) (sym cut)
    (subst (λ z. FirstWrong (All D) (w ++ q) z) (sym k)
    (wrong_behind (All D) w q (λ free q' h y d. f free (w ++ q') q' refl h y d) b))

-- all tokens are read: they derive this tree and no other
pub whole_got : {T A : Type 0} {D C : Grammar T A} {ts q : List T} {x : A} → Exact D C ts (Got x q) → q ≡ [] → Ends D C
    → D 0 ts x [] × ((free : ℕ) (y : A) → D free ts y [] → y ≡ x)
whole_got {D = D} {ts = ts} {q = q} {x = x} d e ends =
    let m = d.meets in
    let cut : ts ≡ m.front ++ [] = m.cut ∙ ap (λ z. m.front ++ z) e in (
      subst (λ z. D 0 z x []) (sym cut) (m.reads 0 []),
      λ free y g. (d.along free m.front ts [] [] y m.cut cut (subst (λ z. SameHead z []) (sym e) tt) (ends free ts y g)).0,
    )

-- a tree is read and tokens are left: the first of those is wrong
pub whole_rest : {T A : Type 0} {D C : Grammar T A} {ts q : List T} {x : A} → Exact D C ts (Got x q) → 0 < length q → Ends D C
    → FirstWrong (All D) ts (length ts - length q)
whole_rest {T} {A} {D} {C} {ts} {q} {x} d some ends =
    let m = d.meets in
    wrong_cut D m.front ts q m.cut
    (λ free s' q' e h y g. left q q' some h (d.along free m.front s' q' [] y m.cut e h (ends free s' y g)).1)
    (record { more = []; tree = x; free = 0; few = omega arith; derives = m.reads 0 [] })
  where
    left : (q q' : List T) → 0 < length q → SameHead q q' → [] ≡ q' → ⊥
    left [] q' some h e = omega arith
    left (t ∷ q) [] some h e = h
    left (t ∷ q) (u ∷ q') some h e = cc

-- a token is wrong: it is the first wrong one
pub whole_wrong : {T A : Type 0} {D C : Grammar T A} {ts q : List T} → Exact D C ts (Failed (Wrong q)) → Ends D C
    → FirstWrong (All D) ts (length ts - length q)
whole_wrong {D = D} {ts = ts} {q = q} d ends =
    wrong_cut D d.meets.front ts q d.meets.cut
    (λ free s' q' e h y g. d.along free d.meets.front s' q' [] y d.meets.cut e h (ends free s' y g))
    (begun d.meets)

-- the first of q would go on with what w begins, and derives nothing where a limit is asked of it
deep_behind : {T A : Type 0} (Derives : ℕ → List T → A → Type 0) (w q more : List T) (tree : A) → 0 < length q → SameHead q more
    → Derives (length more) (w ++ more) tree → Derives (length (w ++ more)) (w ++ more) tree
    → ((free : ℕ) (q' : List T) → SameHead q q' → free < length q' → (y : A) → Derives free (w ++ q') y → ⊥)
    → FirstDeep Derives (w ++ q) (length w)
deep_behind Derives w [] more tree h k d e f = absurd (omega (arith, h))
deep_behind Derives w (t ∷ q) [] tree h k d e f = absurd k
deep_behind Derives w (t ∷ q) (u ∷ more) tree h k d e f =
    let cut : take (length w + 1) (w ++ t ∷ q) ≡ w ++ t ∷ [] = take-append-add w (t ∷ q) 1 in
    let all : take (length w + 1) (w ++ t ∷ q) ++ more ≡ w ++ u ∷ more =
    ap (λ z. z ++ more) cut ∙ (append_assoc w (t ∷ []) more ∙ ap (λ z. w ++ z ∷ more) k) in
    record {
      here = omega (arith, length-append w (t ∷ q));
      before = subst (λ z. BeginsWithin Derives z) (sym (take-append_seam w (t ∷ q)))
          (record { more = u ∷ more; tree = tree; free = length (u ∷ more); few = omega arith; derives = d });
      through = record {
        more = more;
        tree = tree;
        free = length (w ++ u ∷ more);
        derives = subst (λ z. Derives (length (w ++ u ∷ more)) z tree) (sym all) e;
      };
      past = λ b. let g : take (length w + 1) (w ++ t ∷ q) ++ b.more ≡ w ++ t ∷ b.more =
          ap (λ z. z ++ b.more) cut ∙ append_assoc w (t ∷ []) b.more in
          f b.free (t ∷ b.more) refl (omega (arith, b.few)) b.tree (subst (λ z. Derives b.free z b.tree) g b.derives);
    }

-- a token passes a limit: it is the first past one
pub whole_deep : {T A : Type 0} {D C : Grammar T A} {ts q : List T} → Exact D C ts (Failed (TooDeep q)) → Ends D C
    → FirstDeep (All D) ts (length ts - length q)
whole_deep {D = D} {ts = ts} {q = q} d ends =
    let p = d.meets in
    let m = p.begun in
    let k : length ts - length q ≡ length m.front = omega (arith, ap length m.cut, length-append m.front q) in
    let none : m.more ++ [] ≡ m.more = append-nil m.more in
    subst (λ z. FirstDeep (All D) z (length ts - length q)) (sym m.cut)
    (subst (λ z. FirstDeep (All D) (m.front ++ q) z) (sym k)
    (deep_behind (All D) m.front q m.more m.tree p.here p.same
    (subst (λ z. D (length m.more) (m.front ++ z) m.tree []) none (m.reads (length m.more) [] (omega (arith, ap length none))))
    (subst (λ z. D (length (m.front ++ m.more)) (m.front ++ z) m.tree []) none
    (m.reads (length (m.front ++ m.more)) [] (omega (arith, ap length none, length-append m.front m.more))))
    (λ free q' h n y g. d.along free m.front (m.front ++ q') q' [] y m.cut refl h n (ends free (m.front ++ q') y g))))

-- tokens of which one is wrong derive no tree, even past the limits
pub wrong_derives_none : {T A : Type 0} {D C : Grammar T A} {ts q : List T} → Exact D C ts (Failed (Wrong q)) → Ends D C
    → (free : ℕ) (y : A) → D free ts y [] → ⊥
wrong_derives_none {ts = ts} {q = q} d ends = λ free y g.
    d.along free d.meets.front ts q [] y d.meets.cut d.meets.cut (same_self q) (ends free ts y g)

-- tokens of which one passes a limit derive no tree within the limits
pub deep_derives_none : {T A : Type 0} {D C : Grammar T A} {ts q : List T} → Exact D C ts (Failed (TooDeep q)) → Ends D C
    → (y : A) → D 0 ts y [] → ⊥
deep_derives_none {ts = ts} {q = q} d ends = λ y g.
    let m = d.meets.begun in
    d.along 0 m.front ts q [] y m.cut m.cut (same_self q) d.meets.here (ends 0 ts y g)
