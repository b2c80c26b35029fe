-- What a parsing function answers, and when its answer is exact.
-- `T` is the type of tokens. A grammar `D free tokens tree rest` says that the tokens in front of the rest derive the
-- tree. A limit on nesting is asked of all tokens but the last `free` ones: with no free token the limits hold, and
-- with as many as there are tokens none is asked.
use Rattle.std.specs.Prelude.{◌≡◌, ℕ, ◌+◌, ◌-◌, ◌<◌, ◌≤◌, List, [], ◌∷◌, ◌++◌, length, take, drop, cond, nat_le, Option, Some, None, ◌⊎◌}

abbrev pub Grammar : Type 0 → Type 0 → Type 1
Grammar T A = ℕ → List T → A → List T → Type 0

-- a grammar that asks no limit
abbrev pub Unlimited : {T A : Type 0} → (List T → A → List T → Type 0) → Grammar T A
Unlimited G free = G

-- why nothing is read
pub data Failure (T : Type 0) : Type 0 where
  NoMemory : Failure T
  -- the first wrong token and those behind it
  Wrong : List T → Failure T
  -- the first token past a limit and those behind it
  TooDeep : List T → Failure T

pub data Answer (T A : Type 0) : Type 0 where
  -- what was read, and the tokens behind it
  Got : A → List T → Answer T A
  Failed : Failure T → Answer T A

-- both begin with one token, or both are empty
abbrev pub SameHead : {T : Type 0} → List T → List T → Type 0
SameHead [] [] = Unit {0}
SameHead [] (u ∷ r) = ⊥
SameHead (t ∷ s) [] = ⊥
SameHead (t ∷ s) (u ∷ r) = t ≡ u

-- the tokens in front of q derive x, whatever follows, and pass no limit
pub record Reads {T A : Type 0} (D : Grammar T A) (s : List T) (x : A) (q : List T) : Type 0 where
  pub front : List T
  pub cut : s ≡ front ++ q
  pub reads : (free : ℕ) (r : List T) → D free (front ++ r) x r

-- the tokens in front of q begin something that the grammar derives, and pass no limit
pub record Viable {T A : Type 0} (D : Grammar T A) (s : List T) (q : List T) : Type 0 where
  pub front : List T
  pub more : List T
  pub tree : A
  pub cut : s ≡ front ++ q
  pub reads : (free : ℕ) (r : List T) → length (more ++ r) ≤ free → D free (front ++ (more ++ r)) tree r

-- the first token of q would go on with what those in front of it begin, were no limit asked of it
pub record Passing {T A : Type 0} (D : Grammar T A) (s : List T) (q : List T) : Type 0 where
  pub begun : Viable D s q
  pub here : 0 < length q
  pub same : SameHead q begun.more

abbrev pub Fails : {T A : Type 0} → Grammar T A → List T → Failure T → Type 0
Fails D s NoMemory = Unit {0}
Fails D s (Wrong q) = Viable D s q
Fails D s (TooDeep q) = Passing D s q

abbrev pub Meets : {T A : Type 0} → Grammar T A → List T → Answer T A → Type 0
Meets D s (Got x q) = Reads D s x q
Meets D s (Failed f) = Fails D s f

-- Tokens s' that agree with s up to the answer, and in the token that stands there, are derived no other way,
-- whatever number of them is free of limits; past a limit they are derived only where that token is free.
-- C is the grammar, with what may follow a tree.
abbrev pub Along : {T A : Type 0} → Grammar T A → List T → Answer T A → Type 0
Along {T} {A} C s (Got x q) =
    (free : ℕ) (w s' q' r : List T) (y : A) → s ≡ w ++ q → s' ≡ w ++ q' → SameHead q q' → C free s' y r → (y ≡ x) × (r ≡ q')
Along C s (Failed NoMemory) = Unit {0}
Along {T} {A} C s (Failed (Wrong q)) =
    (free : ℕ) (w s' q' r : List T) (y : A) → s ≡ w ++ q → s' ≡ w ++ q' → SameHead q q' → C free s' y r → ⊥
Along {T} {A} C s (Failed (TooDeep q)) =
    (free : ℕ) (w s' q' r : List T) (y : A) → s ≡ w ++ q → s' ≡ w ++ q' → SameHead q q' → free < length q' → C free s' y r → ⊥

-- The answer on s is exact for the grammar D, where C is D with what may follow.
pub record Exact {T A : Type 0} (D C : Grammar T A) (s : List T) (o : Answer T A) : Type 0 where
  pub meets : Meets D s o
  pub along : Along C s o

-- A terminal: a test of one token, which gives what the token carries.
pub data Sees {T A : Type 0} (want : T → Option A) : List T → A → List T → Type 0 where
  sees : {t : T} {a : A} {r : List T} → want t ≡ Some a → Sees want (t ∷ r) a r

-- what the first token carries, if it is one that is wanted
abbrev pub head_of : {T A : Type 0} → (T → Option A) → List T → Option A
head_of want [] = None
head_of want (t ∷ s) = want t

-- derivations of tokens that begin with a wanted token, which carries a
pub record Seen {T A B : Type 0} (want : T → Option A) (a : A) (C : Grammar T B)
    (free : ℕ) (s : List T) (x : B) (r : List T) : Type 0 where
  pub it : C free s x r
  pub seen : head_of want s ≡ Some a

-- derivations of tokens that do not
pub record Unseen {T A B : Type 0} (want : T → Option A) (C : Grammar T B)
    (free : ℕ) (s : List T) (x : B) (r : List T) : Type 0 where
  pub it : C free s x r
  pub unseen : head_of want s ≡ None

-- derivations behind which no such token stands
pub record Before {T A B : Type 0} (want : T → Option A) (C : Grammar T B)
    (free : ℕ) (s : List T) (x : B) (r : List T) : Type 0 where
  pub it : C free s x r
  pub stop : head_of want r ≡ None

-- a limit is asked of the first token: P holds, or the token is among the last free ones
abbrev pub Asked : {T : Type 0} → Type 0 → ℕ → List T → Type 0
Asked P free s = P ⊎ (length s ≤ free)

-- derivations whose first token meets the limit P
pub record Limited {T A : Type 0} (P : Type 0) (D : Grammar T A)
    (free : ℕ) (s : List T) (x : A) (r : List T) : Type 0 where
  pub it : D free s x r
  pub asked : Asked P free s

-- Derivations of at most n tokens, whatever follows: each token behind the first n of them passes a limit.
pub record Short {T A : Type 0} (n : ℕ) (G : List T → A → List T → Type 0)
    (free : ℕ) (s : List T) (x : A) (r : List T) : Type 0 where
  pub front : List T
  pub cut : s ≡ front ++ r
  pub derives : (r : List T) → G (front ++ r) x r
  pub within : (length front ≤ n) ⊎ (length s ≤ n + free)

-- how many of the first n + 1 tokens were read, where q is left of them
abbrev pub count_read : {T : Type 0} → ℕ → List T → List T → ℕ
count_read n s q = length (take (n + 1) s) - length q

-- The answer on all tokens for a part of at most n, from the answer without a limit on the first n + 1 of them:
-- where these are all read, the last of them passes the limit.
abbrev pub widened : {T A : Type 0} → ℕ → List T → Answer T A → Answer T A
widened n s (Got x q) = cond (nat_le (count_read n s q) n) (Got x (drop (count_read n s q) s)) (Failed (TooDeep (drop n s)))
widened n s (Failed NoMemory) = Failed NoMemory
widened n s (Failed (Wrong q)) =
    cond (nat_le (count_read n s q) n) (Failed (Wrong (drop (count_read n s q) s))) (Failed (TooDeep (drop n s)))
widened n s (Failed (TooDeep q)) = Failed (TooDeep (drop (count_read n s q) s))

-- any number of them, one behind the other
pub data Many {T A : Type 0} (D : Grammar T A) : ℕ → List T → List A → List T → Type 0 where
  many_end : {free : ℕ} {s : List T} → Many D free s [] s
  many_and : {free : ℕ} {s mid r : List T} {x : A} {xs : List A} → D free s x mid → Many D free mid xs r → Many D free s (x ∷ xs) r

-- the answer, with what was read before
abbrev pub prefixed : {T A : Type 0} → List A → Answer T (List A) → Answer T (List A)
prefixed xs (Got ys q) = Got (xs ++ ys) q
prefixed xs (Failed f) = Failed f

-- the answer, with the tree changed by g
abbrev pub image : {T A B : Type 0} → (A → B) → Answer T A → Answer T B
image g (Got x q) = Got (g x) q
image g (Failed f) = Failed f

-- what a grammar derives behind the token t
abbrev pub Past : {T A : Type 0} → T → Grammar T A → Grammar T A
Past t D free s x r = D free (t ∷ s) x r

-- A loop has read xs, and the rest is left of all the tokens:
-- an exact answer of Rest on the rest, with xs in front, is an exact answer of D on all.
pub record Gathers {T A : Type 0} (D C Rest RestClosed : Grammar T (List A))
    (all : List T) (xs : List A) (rest : List T) : Type 0 where
  pub go : (o : Answer T (List A)) → Exact Rest RestClosed rest o → Exact D C all (prefixed xs o)

-- { comma item } close
pub data Following {T A E F : Type 0} (D : Grammar T A) (comma : T → Option E) (close : T → Option F)
    : ℕ → List T → List A → List T → Type 0 where
  following_end : {free : ℕ} {s r : List T} {c : F} → Sees close s c r → Following D comma close free s [] r
  following : {free : ℕ} {s mid q r : List T} {e : E} {x : A} {xs : List A} → Sees comma s e mid → D free mid x q
      → Following D comma close free q xs r → Following D comma close free s (x ∷ xs) r

-- [ item { comma item } ] close
pub data Separated {T A E F : Type 0} (D : Grammar T A) (comma : T → Option E) (close : T → Option F)
    : ℕ → List T → List A → List T → Type 0 where
  separated_none : {free : ℕ} {s r : List T} {c : F} → Sees close s c r → Separated D comma close free s [] r
  separated : {free : ℕ} {s q r : List T} {x : A} {xs : List A} → D free s x q → Following D comma close free q xs r
      → Separated D comma close free s (x ∷ xs) r
