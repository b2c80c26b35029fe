-- Tokens that derive one tree alone, with one rest: from the parts of a rule to the rule.
use Rattle.std.proofs.Common.{◌≡◌, ℕ, List, [], ◌∷◌, ◌++◌, Option, Some, None, refl, sym, ◌∙◌, ap, subst}
use Rattle.ca_descent.specs.Exact.{Unlimited, Got, Exact, Sees, head_of}
use Rattle.ca_descent.proofs.Exact.{same_self, sees_got, sees_head}
use Rattle.ca_descent.proofs.Parts.{Upto, upto, Done, done}
use Rattle.ca_tree.specs.declared.token.Token.{Token}
use Rattle.ca_parse.specs.Grammar.{Deriving, Lines, lines_end, lines_and, One, one}
use Rattle.ca_parse.specs.clauses.Closed.{Picked}
use Rattle.ca_parse.proofs.Lines.{Closing}

-- whatever the limits, C derives x from these tokens and leaves r, and nothing else
pub record Alone {A : Type 0} (C : Deriving A) (s : List Token) (x : A) (r : List Token) : Type 0 where
  pub only : (free : ℕ) (q : List Token) (y : A) → C free s y q → (y ≡ x) × (q ≡ r)

-- an exact answer is the only one
pub exact_alone : {A : Type 0} {D C : Deriving A} {s r : List Token} {x : A} → Exact D C s (Got x r) → Alone C s x r
exact_alone {s = s} {r = r} d = record { only = λ free q y c. let m = d.meets in d.along free m.front s r q y m.cut m.cut (same_self r) c }

pub sees_alone : {A : Type 0} {want : Token → Option A} {s r : List Token} {a : A} → Sees want s a r → Alone (Unlimited (Sees want)) s a r
sees_alone d = exact_alone (sees_got d)

-- a part and those behind it
pub then_alone : {A B : Type 0} {C : Deriving A} {F : A → Deriving B} {s q r : List Token} {x : A} {y : B} → Alone C s x q → Alone (F x) q y r
    → Alone (Upto C F) s y r
then_alone {A} {B} {C} {F} {s} {q} {r} {x} {y} p f = record { only = λ free r' z c. at free r' z c }
  where
    at : (free : ℕ) (r' : List Token) (z : B) → Upto C F free s z r' → (z ≡ y) × (r' ≡ r)
    at free r' z (upto {q = q'} {x = x'} c d) =
        let k = p.only free q' x' c in f.only free r' z (subst (λ w. F w free q z r') k.0 (subst (λ w. F x' free w z r') k.1 d))

pub done_alone : {B : Type 0} {y : B} {s : List Token} → Alone (Done y) s y s
done_alone {B} {y} {s} = record { only = λ free q z c. at free s q z c }
  where
    at : (free : ℕ) (s q : List Token) (z : B) → Done y free s z q → (z ≡ y) × (q ≡ s)
    at free s q z done = (refl, refl)

-- fewer derivations
pub fewer_alone : {A : Type 0} {C C' : Deriving A} {s r : List Token} {x : A} → ((free : ℕ) (q : List Token) (y : A) → C free s y q → C' free s y q)
    → Alone C' s x r → Alone C s x r
fewer_alone f a = record { only = λ free q y c. a.only free q y (f free q y c) }

-- what is picked from a tree that is alone
pub picked_alone : {A B : Type 0} {pick : A → Option B} {C : Deriving A} {s r : List Token} {x : A} {b : B} → pick x ≡ Some b → Alone C s x r
    → Alone (Picked pick C) s b r
picked_alone {A} {B} {pick} {C} {s} {r} {x} {b} h a = record { only = λ free q y c. let k = a.only free q c.tree c.it in (same y c.tree c.picked k.0, k.1) }
  where
    same : (y : B) (z : A) → pick z ≡ Some y → z ≡ x → y ≡ b
    same y z k e = let f : Some y ≡ Some b = sym k ∙ (ap pick e ∙ h) in cc

-- lines up to the closing token
module _ {A B : Type 0} {D C : Deriving (List A)} {close : Token → Option B} (p : Closing D C close)
    (tells : (free : ℕ) (s r : List Token) (xs : List A) → C free s xs r → Alone C s xs r) where
  lines_none : (free : ℕ) (s q r : List Token) (ys : List A) {b : B} → head_of close s ≡ Some b → Alone (Unlimited (Sees close)) s b r
      → Lines D close free s ys q → (ys ≡ []) × (q ≡ r)
  lines_none free s q r ys h a (lines_end d) = (refl, (a.only free q _ d).1)
  lines_none free s q r ys h a (lines_and d m) = let n = p.begins free s _ _ d in absurd cc

  lines_some : (free : ℕ) (s m q r : List Token) (us vs ys : List A) → head_of close s ≡ None → Alone C s us m → Alone (Lines D close) m vs r
      → Lines D close free s ys q → (ys ≡ us ++ vs) × (q ≡ r)
  lines_some free s m q r us vs ys h a b (lines_end d) = let n = sees_head close d in absurd cc
  lines_some free s m q r us vs ys h a b (lines_and {q = m'} {xs = us'} {ys = vs'} d k) =
      let g = a.only free m' us' (p.before free s m' q us' vs' d k) in
      let i = b.only free q vs' (subst (λ z. Lines D close free z vs' q) g.1 k) in
      (ap (λ z. z ++ vs') g.0 ∙ ap (λ z. us ++ z) i.0, i.1)

  pub lines_alone : (free : ℕ) (s r : List Token) (xs : List A) → Lines D close free s xs r → Alone (Lines D close) s xs r
  lines_alone free s r xs (lines_end c) = record { only = λ free' q ys d. lines_none free' s q r ys (sees_head close c) (sees_alone c) d }
  lines_alone free s r xs (lines_and {q = m} {xs = us} {ys = vs} c l) =
      let k = lines_alone free m r vs l in
      record {
        only = λ free' q ys d. lines_some free' s m q r us vs ys (p.begins free s m us c) (tells free s m us (p.before free s m r us vs c l)) k d;
      }

-- a line that is one item
pub one_alone : {A : Type 0} {C : Deriving A} {s r : List Token} {x : A} → Alone C s x r → Alone (One C) s (x ∷ []) r
one_alone {A} {C} {s} {r} {x} a = record { only = λ free q ys d. at free s q ys a d }
  where
    at : (free : ℕ) (s' q : List Token) (ys : List A) → Alone C s' x r → One C free s' ys q → (ys ≡ x ∷ []) × (q ≡ r)
    at free s' q ys a (one {x = y} d) = let k = a.only free q y d in (ap (λ z. z ∷ []) k.0, k.1)
