-- Tokens of some kinds, and what stands behind them.
use Rattle.std.proofs.Common.{◌≡◌, ℕ, ◌≤◌, List, [], ◌∷◌, ◌++◌, length, refl, arith, sym, ap, ◌∙◌, subst}
use Rattle.std.specs.Prelude.{Option, Some}
use Rattle.std.proofs.Math.Logic.{inr}
use Rattle.ca_descent.specs.Exact.{Grammar, Unlimited, Sees, sees, Short}
use Rattle.ca_tree.specs.declared.token.Kind.{Kind}
use Rattle.ca_tree.specs.declared.token.Token.{Token}
use Rattle.ca_canonical.proofs.Texts.{kinds}

-- the tokens f stand in front of r, and s are all of them
pub data Front : List Token → List Token → List Token → Type 0 where
  front_end : {r : List Token} → Front [] r r
  front_and : {t : Token} {f s r : List Token} → Front f s r → Front (t ∷ f) (t ∷ s) r

pub front_of : (f r : List Token) → Front f (f ++ r) r
front_of [] r = front_end
front_of (t ∷ f) r = front_and (front_of f r)

pub front_is : {f s r : List Token} → Front f s r → s ≡ f ++ r
front_is front_end = refl
front_is (front_and {t = t} p) = ap (λ z. t ∷ z) (front_is p)

pub record Mid (f g s r : List Token) : Type 0 where
  pub mid : List Token
  pub first : Front f s mid
  pub second : Front g mid r

pub cut : (f g : List Token) {s r : List Token} → Front (f ++ g) s r → Mid f g s r
cut [] g {s = s} p = record { mid = s; first = front_end; second = p }
cut (t ∷ f) g (front_and p) = let m = cut f g p in record { mid = m.mid; first = front_and m.first; second = m.second }

-- The tokens of these kinds derive a tree that is what is wanted, whatever follows them.
pub record Tree {A : Type 0} (D : List Token → A → List Token → Type 0) (Want : A → Type 0) (f : List Token) : Type 0 where
  pub tree : A
  pub want : Want tree
  pub derives : (s r : List Token) → Front f s r → D s tree r

pub record Spelled {A : Type 0} (D : List Token → A → List Token → Type 0) (Want : A → Type 0) (ks : List Kind) : Type 0 where
  pub at : (f : List Token) → kinds f ≡ ks → Tree D Want f

-- tokens of kinds ks and then of kinds ls
pub record Parts (ks ls : List Kind) (f : List Token) : Type 0 where
  pub first : List Token
  pub second : List Token
  pub is : f ≡ first ++ second
  pub first_kinds : kinds first ≡ ks
  pub second_kinds : kinds second ≡ ls

head_kind : {k l : Kind} {ks ls : List Kind} → k ∷ ks ≡ l ∷ ls → k ≡ l
head_kind e = cc

tail_kinds : {k l : Kind} {ks ls : List Kind} → k ∷ ks ≡ l ∷ ls → ks ≡ ls
tail_kinds e = cc

pub parts : (ks ls : List Kind) (f : List Token) → kinds f ≡ ks ++ ls → Parts ks ls f
parts [] ls f e = record { first = []; second = f; is = refl; first_kinds = refl; second_kinds = e }
parts (k ∷ ks) ls [] e = cc
parts (k ∷ ks) ls (t ∷ f) e =
    let p = parts ks ls f (tail_kinds e) in
    record { first = t ∷ p.first; second = p.second; is = ap (λ z. t ∷ z) p.is; first_kinds = ap (λ z. t.kind ∷ z) p.first_kinds ∙ ap (λ k. k ∷ ks) (head_kind e); second_kinds = p.second_kinds }

-- one part and then another: both trees make one
pub both : {A B C : Type 0} {D : List Token → A → List Token → Type 0} {E : List Token → B → List Token → Type 0} {G : List Token → C → List Token → Type 0}
    {P : A → Type 0} {Q : B → Type 0} {R : C → Type 0} {ks ls : List Kind} (make : A → B → C)
    → ((a : A) (b : B) (s m r : List Token) → D s a m → E m b r → G s (make a b) r)
    → ((a : A) (b : B) → P a → Q b → R (make a b))
    → Spelled D P ks → Spelled E Q ls → Spelled G R (ks ++ ls)
both {D = D} {E = E} {G = G} {P = P} {Q = Q} {R = R} {ks = ks} {ls = ls} make rule wanted x y = record { at = λ f e. at f (parts ks ls f e) }
  where
    at : (f : List Token) → Parts ks ls f → Tree G R f
    at f p =
        let a = x.at p.first p.first_kinds in
        let b = y.at p.second p.second_kinds in
        let t : Tree G R (p.first ++ p.second) = record {
          tree = make a.tree b.tree;
          want = wanted a.tree b.tree a.want b.want;
          derives = λ s r q. let m = cut p.first p.second q in rule a.tree b.tree s m.mid r (a.derives s m.mid m.first) (b.derives m.mid r m.second);
        } in
        subst (Tree G R) (sym p.is) t

-- the same tokens under another rule
pub under : {A C : Type 0} {D : List Token → A → List Token → Type 0} {G : List Token → C → List Token → Type 0} {P : A → Type 0} {R : C → Type 0} {ks : List Kind}
    (make : A → C) → ((a : A) (s r : List Token) → P a → D s a r → G s (make a) r) → ((a : A) → P a → R (make a)) → Spelled D P ks → Spelled G R ks
under {D = D} {G = G} {P = P} {R = R} {ks = ks} make rule wanted x = record { at = λ f e. at (x.at f e) }
  where
    at : {f : List Token} → Tree D P f → Tree G R f
    at t = record { tree = make t.tree; want = wanted t.tree t.want; derives = λ s r q. rule t.tree s r t.want (t.derives s r q) }

-- one token
pub one : {A : Type 0} (want : Token → Option A) (P : A → Type 0) (k : Kind) → ((t : Token) → t.kind ≡ k → (a : A) × P a × (want t ≡ Some a)) → Spelled (Sees want) P (k ∷ [])
one {A = A} want P k seen = record { at = at }
  where
    at : (f : List Token) → kinds f ≡ k ∷ [] → Tree (Sees want) P f
    at [] e = cc
    at (t ∷ u ∷ f) e = cc
    at (t ∷ []) e =
        let a = seen t (head_kind e) in
        record { tree = a.0; want = a.1; derives = λ s r q. here s r q a }
      where
        here : (s r : List Token) → Front (t ∷ []) s r → (a : (a : A) × P a × (want t ≡ Some a)) → Sees want s a.0 r
        here s r (front_and front_end) a = sees a.2

-- one and then the other
pub record Seq {A B : Type 0} (D : List Token → A → List Token → Type 0) (E : List Token → B → List Token → Type 0)
    (s : List Token) (x : A × B) (r : List Token) : Type 0 where
  pub mid : List Token
  pub first : D s x.0 mid
  pub second : E mid x.1 r

pub seq : {A B : Type 0} {D : List Token → A → List Token → Type 0} {E : List Token → B → List Token → Type 0} {P : A → Type 0} {Q : B → Type 0} {ks ls : List Kind}
    → Spelled D P ks → Spelled E Q ls → Spelled (Seq D E) (λ x. P x.0 × Q x.1) (ks ++ ls)
seq x y = both (λ a b. (a, b)) (λ a b s m r d e. record { mid = m; first = d; second = e }) (λ a b p q. (p, q)) x y

-- What asks limits: every token is free.
abbrev pub Free : {A : Type 0} → Grammar Token A → List Token → A → List Token → Type 0
Free D s x r = (free : ℕ) → length s ≤ free → D free s x r

pub lift : {A : Type 0} {D : List Token → A → List Token → Type 0} {P : A → Type 0} {ks : List Kind} → Spelled D P ks → Spelled (Free (Unlimited D)) P ks
lift x = under (λ a. a) (λ a s r p d. λ free h. d) (λ a p. p) x

shorter : {f s r : List Token} → Front f s r → length r ≤ length s
shorter front_end = omega arith
shorter (front_and p) = omega (arith, shorter p)

pub outer : {A : Type 0} {D : List Token → A → List Token → Type 0} {P : A → Type 0} {ks : List Kind} → Spelled D P ks → Spelled (Free (Short 1000 D)) P ks
outer {D = D} {P = P} {ks = ks} x = record { at = λ f e. at f (x.at f e) }
  where
    at : (f : List Token) → Tree D P f → Tree (Free (Short 1000 D)) P f
    at f t = record {
      tree = t.tree;
      want = t.want;
      derives = λ s r q. λ free h. record { front = f; cut = front_is q; derives = λ z. t.derives (f ++ z) z (front_of f z); within = inr (omega (arith, h)) };
    }

-- the derivation that a short one is
pub of_short : {A : Type 0} {D : List Token → A → List Token → Type 0} {n free : ℕ} {s r : List Token} {x : A} → Short n D free s x r → D s x r
of_short {D = D} {r = r} {x = x} d = subst (λ z. D z x r) (sym d.cut) (d.derives r)

pub record Both {A B : Type 0} (D : Grammar Token A) (E : Grammar Token B) (free : ℕ) (s : List Token) (x : A × B) (r : List Token) : Type 0 where
  pub mid : List Token
  pub first : D free s x.0 mid
  pub second : E free mid x.1 r

pub pair : {A B : Type 0} {D : Grammar Token A} {E : Grammar Token B} {P : A → Type 0} {Q : B → Type 0} {ks ls : List Kind}
    → Spelled (Free D) P ks → Spelled (Free E) Q ls → Spelled (Free (Both D E)) (λ x. P x.0 × Q x.1) (ks ++ ls)
pair {D = D} {E = E} {P = P} {Q = Q} {ks = ks} {ls = ls} x y = record { at = λ f e. at f (parts ks ls f e) }
  where
    at : (f : List Token) → Parts ks ls f → Tree (Free (Both D E)) (λ x. P x.0 × Q x.1) f
    at f p =
        let a = x.at p.first p.first_kinds in
        let b = y.at p.second p.second_kinds in
        let t : Tree (Free (Both D E)) (λ x. P x.0 × Q x.1) (p.first ++ p.second) = record {
          tree = (a.tree, b.tree);
          want = (a.want, b.want);
          derives = λ s r q. λ free h.
              let m = cut p.first p.second q in
              record { mid = m.mid; first = a.derives s m.mid m.first free h; second = b.derives m.mid r m.second free (omega (arith, h, shorter m.first)) };
        } in
        subst (Tree (Free (Both D E)) (λ x. P x.0 × Q x.1)) (sym p.is) t

pub by : {A C : Type 0} {D : Grammar Token A} {G : Grammar Token C} {P : A → Type 0} {R : C → Type 0} {ks : List Kind}
    (make : A → C) → ((a : A) (free : ℕ) (s r : List Token) → length s ≤ free → P a → D free s a r → G free s (make a) r) → ((a : A) → P a → R (make a)) → Spelled (Free D) P ks → Spelled (Free G) R ks
by make rule wanted x = under make (λ a s r p d. λ free h. rule a free s r h p (d free h)) wanted x
