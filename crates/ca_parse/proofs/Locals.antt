-- A local, or something else that begins with no type: two tokens tell.
use Rattle.std.proofs.Common.{◌≡◌, ℕ, ◌≤◌, List, [], ◌∷◌, ◌++◌, true, false, ◌&&◌, ◌||◌, Option, Some, None, is_some, refl, sym, ap, subst, length, arith}
use Rattle.ca_descent.specs.Exact.{NoMemory, Wrong, TooDeep, Answer, Got, Failed, SameHead, Viable, Meets, Along, Exact, Sees, sees, head_of, Past}
use Rattle.ca_descent.proofs.Exact.{seen, unseen, exact_map, past, sees_head}
use Rattle.ca_tree.specs.declared.token.Token.{Token}
use Rattle.ca_tree.specs.declared.token.Kind.TheVariants.{Word}
use Rattle.ca_tree.specs.declared.token.Kind.TheVariants.{Sign as SignKind}
use Rattle.ca_tree.specs.declared.token.Keyword.{Keyword}
use Rattle.ca_tree.specs.declared.token.Keyword.TheVariants.{Long as LongKey, Bool as BoolKey}
use Rattle.ca_tree.specs.declared.token.Sign.TheVariants.{Semicolon, Times}
use Rattle.ca_tree.specs.declared.name.Place.{Place}
use Rattle.ca_tree.specs.declared.tree.TypeNode.{TypeNode}
use Rattle.ca_tree.specs.Plain.{Statement}
use Rattle.ca_expressions.specs.Terminals.{key, sign, name, name_of}
use Rattle.ca_expressions.proofs.Terminals.{token, key_gives}
use Rattle.ca_parse.specs.Grammar.{Deriving, TypeName, long, bool, pointer, Local, declares, begins}
use Rattle.ca_parse.specs.clauses.Closed.{is_local}

-- a grammar behind its first token: some tokens derive something from that token on, and nothing is derived from no tokens
pub record From {A : Type 0} (t : Token) (D C : Deriving A) : Type 0 where
  pub more : List Token
  pub rest : List Token
  pub tree : A
  pub it : C 0 (t ∷ more) tree rest
  pub not_empty : (x : A) → D 0 [] x [] → ⊥

-- an answer on tokens that begin with t stands behind t
pub behind_first : {A : Type 0} {D C : Deriving A} {t : Token} {q : List Token} {o : Answer Token A} → From t D C
    → Exact D C (t ∷ q) o → Exact (Past t D) (Past t C) q o
behind_first {A} {D} {C} {t} {q} {o} from d = record { meets = meets o d.meets d.along; along = along o d.along }
  where
    tail : (u v : Token) (a b : List Token) → u ∷ a ≡ v ∷ b → (u ≡ v) × (a ≡ b)
    tail u v a b e = (cc, cc)

    begins_so : (p : List Token) → t ∷ q ≡ p → SameHead p (t ∷ from.more)
    begins_so p e = subst (λ z. SameHead z (t ∷ from.more)) e refl

    viable : (p : List Token) (v : Viable D (t ∷ q) p) → (t ∷ q ≡ p → ⊥) → (g : Viable (Past t D) q p) × (v.more ≡ g.more)
    viable p v no_way = at v.front v.cut v.reads
      where
        at : (f : List Token) → t ∷ q ≡ f ++ p → ((free : ℕ) (r : List Token) → length (v.more ++ r) ≤ free → D free (f ++ (v.more ++ r)) v.tree r)
            → (g : Viable (Past t D) q p) × (v.more ≡ g.more)
        at [] e g = absurd (no_way e)
        at (u ∷ f) e g = let k = tail t u q (f ++ p) e in (
          record {
            front = f;
            more = v.more;
            tree = v.tree;
            cut = k.1;
            reads = λ free r h. subst (λ z. D free (z ∷ (f ++ (v.more ++ r))) v.tree r) (sym k.0) (g free r h);
          },
          refl,
        )

    not_here : (p : List Token) → Along C (t ∷ q) (Failed (Wrong p)) → t ∷ q ≡ p → ⊥
    not_here p a e = a 0 [] (t ∷ from.more) (t ∷ from.more) from.rest from.tree e refl (begins_so p e) from.it

    not_deep_here : (p : List Token) → Along C (t ∷ q) (Failed (TooDeep p)) → t ∷ q ≡ p → ⊥
    not_deep_here p a e = a 0 [] (t ∷ from.more) (t ∷ from.more) from.rest from.tree e refl (begins_so p e) (omega arith) from.it

    meets : (o : Answer Token A) → Meets D (t ∷ q) o → Along C (t ∷ q) o → Meets (Past t D) q o
    meets (Got x p) m a = at m.front m.cut m.reads
      where
        at : (f : List Token) → t ∷ q ≡ f ++ p → ((free : ℕ) (r : List Token) → D free (f ++ r) x r) → Meets (Past t D) q (Got x p)
        at [] e g = absurd (from.not_empty x (g 0 []))
        at (u ∷ f) e g = let k = tail t u q (f ++ p) e in record {
          front = f;
          cut = k.1;
          reads = λ free r. subst (λ z. D free (z ∷ (f ++ r)) x r) (sym k.0) (g free r);
        }
    meets (Failed NoMemory) m a = tt
    meets (Failed (Wrong p)) m a = (viable p m (not_here p a)).0
    meets (Failed (TooDeep p)) m a =
        let g = viable p m.begun (not_deep_here p a) in
        record { begun = g.0; here = m.here; same = subst (λ z. SameHead p z) g.1 m.same }

    along : (o : Answer Token A) → Along C (t ∷ q) o → Along (Past t C) q o
    along (Got x p) a = λ free w s' q' r y e e' h c. a free (t ∷ w) (t ∷ s') q' r y (ap (λ z. t ∷ z) e) (ap (λ z. t ∷ z) e') h c
    along (Failed NoMemory) a = tt
    along (Failed (Wrong p)) a = λ free w s' q' r y e e' h c.
        a free (t ∷ w) (t ∷ s') q' r y (ap (λ z. t ∷ z) e) (ap (λ z. t ∷ z) e') h c
    along (Failed (TooDeep p)) a = λ free w s' q' r y e e' h n c.
        a free (t ∷ w) (t ∷ s') q' r y (ap (λ z. t ∷ z) e) (ap (λ z. t ∷ z) e') h n c

-- a local, or what D derives
pub data LocalOr (D : Deriving Statement) : ℕ → List Token → Statement → List Token → Type 0 where
  a_local : {free : ℕ} {s r : List Token} {x : Statement} → Local free s x r → LocalOr D free s x r
  another : {free : ℕ} {s r : List Token} {x : Statement} → D free s x r → LocalOr D free s x r

-- what a type begins with
pub data TypeFront (s : List Token) : Type 0 where
  front_long : {r : List Token} {p : Place} → Sees (key LongKey) s p r → TypeFront s
  front_bool : {r : List Token} {p : Place} → Sees (key BoolKey) s p r → TypeFront s
  front_name : {r q : List Token} {n : List ℕ × Place} {p : Place} → Sees name s n r → Sees (sign Times) r p q → TypeFront s

type_front : (free : ℕ) (s r : List Token) (ty : TypeNode × Place) → TypeName free s ty r → TypeFront s
type_front free s r ty (long d) = front_long d
type_front free s r ty (bool d) = front_bool d
type_front free s r ty (pointer n t) = front_name n t

pub local_front : (free : ℕ) (s r : List Token) (x : Statement) → Local free s x r → TypeFront s
local_front free s r x (declares t n e) = type_front _ _ _ _ t
local_front free s r x (begins t n a v e) = type_front _ _ _ _ t

-- something else than a local: it begins with no type
pub record Other (D C : Deriving Statement) : Type 0 where
  pub not_long : (free : ℕ) (s r : List Token) (x : Statement) → C free s x r → head_of (key LongKey) s ≡ None
  pub not_bool : (free : ℕ) (s r : List Token) (x : Statement) → C free s x r → head_of (key BoolKey) s ≡ None
  pub not_star : (free : ℕ) (t : Token) (s r : List Token) (n : List ℕ × Place) (x : Statement) → name t ≡ Some n → C free (t ∷ s) x r
      → head_of (sign Times) s ≡ None
  pub from_name : (t : Token) (n : List ℕ × Place) → name t ≡ Some n → From t D C

-- some local begins with the name
local_from : (t : Token) (n : List ℕ × Place) → name t ≡ Some n → From t Local Local
local_from t n h = record {
  more = token (SignKind Times) ∷ token (Word []) ∷ token (SignKind Semicolon) ∷ [];
  rest = [];
  tree = _;
  it = declares (pointer (sees h) (sees refl)) (sees refl) (sees refl);
  not_empty = none;
}
  where
    none : (x : Statement) → Local 0 [] x [] → ⊥
    none x d = at (local_front _ _ _ _ d)
      where
        at : TypeFront [] → ⊥
        at (front_long d) = elim d [ ]
        at (front_bool d) = elim d [ ]
        at (front_name d e) = elim d [ ]

module _ {D C : Deriving Statement} (other : Other D C) where
  -- no local begins with another token, or with a name and no star
  named_otherwise : (t : Token) (n : List ℕ × Place) → name t ≡ Some n → (s : List Token) → head_of (sign Times) s ≡ None → TypeFront (t ∷ s) → ⊥
  named_otherwise t n h s k (front_long d) = let e = key_gives name_of LongKey d in absurd cc
  named_otherwise t n h s k (front_bool d) = let e = key_gives name_of BoolKey d in absurd cc
  named_otherwise t n h s k (front_name {r = r} {n = m} d e) = at (t ∷ s) refl d
    where
      at : (z : List Token) → z ≡ t ∷ s → Sees name z m r → ⊥
      at z i (sees j) = let f : s ≡ r = cc in let g = sees_head (sign Times) e in let l : head_of (sign Times) r ≡ None = subst (λ z. head_of (sign Times) z ≡ None) f k in absurd cc

  -- what the tokens begin with is no type, so only the other counts
  pub other_answer : {s : List Token} {o : Answer Token Statement} → is_local s ≡ false → Exact D C s o
      → Exact (LocalOr D) (LocalOr C) s o
  other_answer {s} {o} h d = by_name s h d
    where
      plain : (s : List Token) → head_of (key LongKey) s ≡ None → head_of (key BoolKey) s ≡ None → head_of name s ≡ None
          → Exact D C s o → Exact (LocalOr D) (LocalOr C) s o
      plain s a b c d = unseen a (unseen b (unseen c (exact_map (λ free s r x d. another d)
          (λ free s r x u. at free s r x u.it.it.it u.it.it.unseen u.it.unseen u.unseen) d)))
        where
          at : (free : ℕ) (s r : List Token) (x : Statement) → LocalOr C free s x r → head_of (key LongKey) s ≡ None
              → head_of (key BoolKey) s ≡ None → head_of name s ≡ None → C free s x r
          at free s r x (another c) e f g = c
          at free s r x (a_local l) e f g = absurd (no_front (local_front _ _ _ _ l))
            where
              no_front : TypeFront s → ⊥
              no_front (front_long d) = let i = sees_head (key LongKey) d in absurd cc
              no_front (front_bool d) = let i = sees_head (key BoolKey) d in absurd cc
              no_front (front_name d k) = let i = sees_head name d in absurd cc

      starred : (t : Token) (n : List ℕ × Place) → name t ≡ Some n → (q : List Token) → head_of (sign Times) q ≡ None → Exact D C (t ∷ q) o
          → Exact (LocalOr D) (LocalOr C) (t ∷ q) o
      starred t n e q k d = past refl (unseen {want = sign Times} k (exact_map (λ free s r x d. another d)
          (λ free s r x u. at free s r x u.it u.unseen) (behind_first (other.from_name t n e) d)))
        where
          at : (free : ℕ) (s r : List Token) (x : Statement) → LocalOr C free (t ∷ s) x r → head_of (sign Times) s ≡ None → C free (t ∷ s) x r
          at free s r x (another c) f = c
          at free s r x (a_local l) f = absurd (named_otherwise t n e s f (local_front _ _ _ _ l))

      by_name : (s : List Token) → is_local s ≡ false → Exact D C s o → Exact (LocalOr D) (LocalOr C) s o
      by_name [] h d = plain [] refl refl refl d
      by_name (t ∷ q) h d = at (key LongKey t) (key BoolKey t) (name t) (head_of (sign Times) q) refl refl refl refl h
        where
          at : (a b : Option Place) (n : Option (List ℕ × Place)) (p : Option Place) → key LongKey t ≡ a → key BoolKey t ≡ b → name t ≡ n → head_of (sign Times) q ≡ p
              → (is_some a || (is_some b || (is_some n && is_some p))) ≡ false → Exact (LocalOr D) (LocalOr C) (t ∷ q) o
          at (Some a) b n p ea eb en ep h = absurd cc
          at None (Some b) n p ea eb en ep h = absurd cc
          at None None (Some n) (Some p) ea eb en ep h = absurd cc
          at None None (Some n) None ea eb en ep h = starred t n en q ep d
          at None None None p ea eb en ep h = plain (t ∷ q) ea eb en d

  -- the tokens begin with a type, so only a local counts
  pub local_answer : {s : List Token} {o : Answer Token Statement} → is_local s ≡ true → Exact Local Local s o
      → Exact (LocalOr D) (LocalOr C) s o
  local_answer {s} {o} h d = by_front s h d
    where
      by_front : (s : List Token) → is_local s ≡ true → Exact Local Local s o → Exact (LocalOr D) (LocalOr C) s o
      by_front [] h d = absurd cc
      by_front (t ∷ q) h d = at (key LongKey t) (key BoolKey t) (name t) (head_of (sign Times) q) refl refl refl refl h
        where
          keyed : (k : Keyword) → ((free : ℕ) (s r : List Token) (x : Statement) → C free s x r → head_of (key k) s ≡ None)
              → (a : Place) → key k t ≡ Some a → Exact (LocalOr D) (LocalOr C) (t ∷ q) o
          keyed k not_keyed a e = seen {want = key k} e (exact_map (λ free s r x d. a_local d) (λ free s r x c. go free s r x c.it c.seen) d)
            where
              go : (free : ℕ) (s r : List Token) (x : Statement) → LocalOr C free s x r → head_of (key k) s ≡ Some a → Local free s x r
              go free s r x (a_local l) f = l
              go free s r x (another c) f = let g = not_keyed free s r x c in absurd cc

          starred : (n : List ℕ × Place) (p : Place) → name t ≡ Some n → head_of (sign Times) q ≡ Some p → Exact (LocalOr D) (LocalOr C) (t ∷ q) o
          starred n p e k = past refl (seen {want = sign Times} k (exact_map (λ free s r x d. a_local d)
              (λ free s r x c. go free s r x c.it c.seen) (behind_first (local_from t n e) d)))
            where
              go : (free : ℕ) (s r : List Token) (x : Statement) → LocalOr C free (t ∷ s) x r → head_of (sign Times) s ≡ Some p
                  → Local free (t ∷ s) x r
              go free s r x (a_local l) f = l
              go free s r x (another c) f = let g = other.not_star free t s r n x e c in absurd cc

          at : (a b : Option Place) (n : Option (List ℕ × Place)) (p : Option Place) → key LongKey t ≡ a → key BoolKey t ≡ b → name t ≡ n → head_of (sign Times) q ≡ p
              → (is_some a || (is_some b || (is_some n && is_some p))) ≡ true → Exact (LocalOr D) (LocalOr C) (t ∷ q) o
          at (Some a) b n p ea eb en ep h = keyed LongKey other.not_long a ea
          at None (Some b) n p ea eb en ep h = keyed BoolKey other.not_bool b eb
          at None None (Some n) (Some p) ea eb en ep h = starred n p en ep
          at None None (Some n) None ea eb en ep h = absurd cc
          at None None None p ea eb en ep h = absurd cc
