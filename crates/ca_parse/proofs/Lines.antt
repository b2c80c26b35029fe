-- Lines up to and with a closing token, each of which gives some items, as a loop reads them.
use Rattle.std.proofs.Common.{◌≡◌, ℕ, List, [], ◌∷◌, ◌++◌, Option, Some, None, refl, sym, subst}
use Rattle.std.proofs.lemmas.List.{append-nil}
use Rattle.ca_descent.specs.Exact.{Unlimited, Failure, Answer, Got, Failed, Exact, Sees, sees, head_of, Seen, Unseen, prefixed, image, Gathers}
use Rattle.ca_descent.proofs.Exact.{Rule, then_ok, then_failed, seen, unseen, sees_head, exact_image}
use Rattle.ca_descent.proofs.Many.{prefixed_append}
use Rattle.ca_tree.specs.declared.token.Token.{Token}
use Rattle.ca_parse.specs.Grammar.{Deriving, Lines, lines_end, lines_and, One, one}

-- lists that begin with xs and go on by D
record Appended {A : Type 0} (D : Deriving (List A)) (xs : List A) (free : ℕ) (s : List Token) (zs : List A) (r : List Token) : Type 0 where
  tail : List A
  split : zs ≡ xs ++ tail
  it : D free s tail r

in_front : {A : Type 0} (xs : List A) (o : Answer Token (List A)) → image (λ ys. xs ++ ys) o ≡ prefixed xs o
in_front xs (Got ys q) = refl
in_front xs (Failed f) = refl

-- what lines ask of each line and of the closing token
pub record Closing {A B : Type 0} (D C : Deriving (List A)) (close : Token → Option B) : Type 0 where
  -- a line before a line or the closing token is one of C
  pub before : (free : ℕ) (s q r : List Token) (xs ys : List A) → D free s xs q → Lines D close free q ys r → C free s xs q
  -- no line begins with the closing token
  pub begins : (free : ℕ) (s r : List Token) (xs : List A) → D free s xs r → head_of close s ≡ None
  -- some token closes
  pub token : Token
  pub carried : B
  pub closes : close token ≡ Some carried

module _ {A B : Type 0} {D C : Deriving (List A)} {close : Token → Option B} (p : Closing D C close) where
  lines_join : (free : ℕ) (s q r : List Token) (xs zs : List A) → D free s xs q → Appended (Lines D close) xs free q zs r
      → Lines D close free s zs r
  lines_join free s q r xs zs d f = subst (λ z. Lines D close free s z r) (sym f.split) (lines_and d f.it)

  -- lines that do not close at once have a first line
  lines_split : (free : ℕ) (s r : List Token) (zs : List A) → Unseen close (Lines D close) free s zs r
      → (xs : List A) × (q : List Token) × C free s xs q × Appended (Lines D close) xs free q zs r
  lines_split free s r zs f = at s r zs f.unseen f.it
    where
      at : (s r : List Token) (zs : List A) → head_of close s ≡ None → Lines D close free s zs r
          → (xs : List A) × (q : List Token) × C free s xs q × Appended (Lines D close) xs free q zs r
      at s r zs k (lines_end g) = let n = sees_head close g in absurd cc
      at s r zs k (lines_and {q = q} {xs = xs} {ys = ys} d f) =
          (xs, q, p.before free s q r xs ys d f, record { tail = ys; split = refl; it = f })

  lines_rule : Rule D C (Appended (Lines D close)) (Appended (Lines D close)) (Lines D close) (Unseen close (Lines D close))
  lines_rule = record {
    join = lines_join;
    split = lines_split;
    rest = λ xs. record {
      more = p.token ∷ [];
      tree = xs ++ [];
      reads = λ free r h. record { tail = []; split = refl; it = lines_end (sees p.closes) };
    };
  }

  -- a line is read: the answer is that of the rest with its items in front
  pub lines_more : {s q : List Token} {xs : List A} {o : Answer Token (List A)} → head_of close s ≡ None → Exact D C s (Got xs q)
      → Exact (Lines D close) (Lines D close) q o → Exact (Lines D close) (Lines D close) s (prefixed xs o)
  lines_more {q = q} {xs = xs} {o = o} h d f = unseen h (then_ok lines_rule d
      (subst (λ z. Exact (Appended (Lines D close) xs) (Appended (Lines D close) xs) q z) (in_front xs o)
      (exact_image (λ ys. xs ++ ys) (λ free s r ys c. record { tail = ys; split = refl; it = c }) (λ free s r zs c. (c.tail, c.split, c.it)) f)))

  pub lines_failed : {s : List Token} (f : Failure Token) → head_of close s ≡ None → Exact D C s (Failed f)
      → Exact (Lines D close) (Lines D close) s (Failed f)
  lines_failed f h d = unseen h (then_failed lines_rule f d)

  -- the closing token stands there
  close_split : (b : B) (free : ℕ) (s r : List Token) (zs : List A) → Seen close b (Lines D close) free s zs r
      → (c : B) × (zs ≡ []) × Sees close s c r
  close_split b free s r zs c = at s r zs c.it c.seen
    where
      at : (s r : List Token) (zs : List A) → Lines D close free s zs r → head_of close s ≡ Some b → (c : B) × (zs ≡ []) × Sees close s c r
      at s r zs (lines_end {c = c} g) k = (c, refl, g)
      at s r zs (lines_and {q = q} {xs = xs} d f) k = let n = p.begins free s q xs d in absurd cc

  pub lines_close : {s : List Token} {b : B} {o : Answer Token B} → head_of close s ≡ Some b
      → Exact (Unlimited (Sees close)) (Unlimited (Sees close)) s o → Exact (Lines D close) (Lines D close) s (image (λ c. []) o)
  lines_close {b = b} h d = seen h (exact_image (λ c. []) (λ free s r c g. lines_end g) (close_split b) d)

  -- a loop that has read xs
  abbrev pub Loop : List Token → List A → List Token → Type 0
  Loop all xs rest = Gathers (Lines D close) (Lines D close) (Lines D close) (Lines D close) all xs rest

  pub loop_more : {all rest q : List Token} {xs ys : List A} → Loop all xs rest → head_of close rest ≡ None
      → Exact D C rest (Got ys q) → Loop all (xs ++ ys) q
  loop_more {all = all} {xs = xs} {ys = ys} g h d = record {
    go = λ o f. subst (λ z. Exact (Lines D close) (Lines D close) all z) (prefixed_append xs ys o) (g.go (prefixed ys o) (lines_more h d f));
  }

  pub loop_failed : {all rest : List Token} {xs : List A} (f : Failure Token) → Loop all xs rest → head_of close rest ≡ None
      → Exact D C rest (Failed f) → Exact (Lines D close) (Lines D close) all (Failed f)
  loop_failed f g h d = g.go (Failed f) (lines_failed f h d)

  pub loop_end : {all rest r : List Token} {xs : List A} {b c : B} → Loop all xs rest → head_of close rest ≡ Some b
      → Exact (Unlimited (Sees close)) (Unlimited (Sees close)) rest (Got c r) → Exact (Lines D close) (Lines D close) all (Got xs r)
  loop_end {all = all} {r = r} {xs = xs} g h d =
      subst (λ z. Exact (Lines D close) (Lines D close) all (Got z r)) (append-nil xs) (g.go _ (lines_close h d))

  pub loop_unclosed : {all rest : List Token} {xs : List A} {b : B} (f : Failure Token) → Loop all xs rest → head_of close rest ≡ Some b
      → Exact (Unlimited (Sees close)) (Unlimited (Sees close)) rest (Failed f) → Exact (Lines D close) (Lines D close) all (Failed f)
  loop_unclosed f g h d = g.go _ (lines_close h d)

-- a line that is one item
one_split : {A : Type 0} {D : Deriving A} (free : ℕ) (s r : List Token) (xs : List A) → One D free s xs r
    → (x : A) × (xs ≡ x ∷ []) × D free s x r
one_split free s r xs (one {x = x} d) = (x, refl, d)

pub one_answer : {A : Type 0} {D C : Deriving A} {s : List Token} {o : Answer Token A} → Exact D C s o
    → Exact (One D) (One C) s (image (λ x. x ∷ []) o)
one_answer d = exact_image (λ x. x ∷ []) (λ free s r x d. one d) one_split d
