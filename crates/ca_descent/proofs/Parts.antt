-- A rule as its parts, one behind the other: from exact answers of the parts to one of the rule.
use Rattle.std.proofs.Common.{◌≡◌, ℕ, ◌≤◌, List, [], ◌++◌, length, Option, Some, refl, subst, sym, append_assoc, length-append, arith}
use Rattle.ca_descent.specs.Exact.{Grammar, Unlimited, Failure, Answer, Got, Failed, Exact, Sees, sees}
use Rattle.ca_descent.proofs.Exact.{Default, DefaultFrom, Rule, then_ok, then_failed, got_nothing}

-- a part and what stands behind it, which may name what the part read, and which derives something
pub data Then {T A B : Type 0} (D : Grammar T A) (E : A → Grammar T B) (some : (x : A) → Default (E x))
    : ℕ → List T → B → List T → Type 0 where
  then : {free : ℕ} {s q r : List T} {x : A} {y : B} → D free s x q → E x free q y r → Then D E some free s y r

-- the same with what may follow
pub data Upto {T A B : Type 0} (C : Grammar T A) (F : A → Grammar T B) : ℕ → List T → B → List T → Type 0 where
  upto : {free : ℕ} {s q r : List T} {x : A} {y : B} → C free s x q → F x free q y r → Upto C F free s y r

-- nothing more stands behind, and the rule's tree is y
pub data Done {T B : Type 0} (y : B) : ℕ → List T → B → List T → Type 0 where
  done : {free : ℕ} {s : List T} → Done y free s y s

-- a grammar, the same with what may follow, and something that it derives
pub record Part (T A : Type 0) : Type 1 where
  pub D : Grammar T A
  pub C : Grammar T A
  pub some : Default D

pub then_default : {T A B : Type 0} {D : Grammar T A} {E : A → Grammar T B} → Default D → (some : (x : A) → Default (E x))
    → Default (Then D E some)
then_default {D = D} {E = E} d some = let f = some d.tree in record {
  more = d.more ++ f.more;
  tree = f.tree;
  reads = λ free r h.
      let g : length (d.more ++ (f.more ++ r)) ≤ free = subst (λ z. length z ≤ free) (append_assoc d.more f.more r) h in
      let k : length (f.more ++ r) ≤ free = omega (arith, g, length-append d.more (f.more ++ r)) in
      subst (λ z. Then D E some free z f.tree r) (sym (append_assoc d.more f.more r)) (then (d.reads free (f.more ++ r) g) (f.reads free r k));
}

infixr 9 ◌⨾◌
abbrev pub ◌⨾◌ : {T A B : Type 0} → Part T A → (A → Part T B) → Part T B
p ⨾ q = record { D = Then p.D (λ x. (q x).D) (λ x. (q x).some); C = Upto p.C (λ x. (q x).C); some = then_default p.some (λ x. (q x).some) }

abbrev pub finish : {T B : Type 0} → B → Part T B
finish y = record { D = Done y; C = Done y; some = record { more = []; tree = y; reads = λ free r h. done } }

then_split : {T A B : Type 0} {C : Grammar T A} {F : A → Grammar T B} (free : ℕ) (s r : List T) (y : B) → Upto C F free s y r
    → (x : A) × (q : List T) × C free s x q × F x free q y r
then_split free s r y (upto {q = q} {x = x} c f) = (x, q, c, f)

then_rule : {T A B : Type 0} (D C : Grammar T A) (E F : A → Grammar T B) (some : (x : A) → Default (E x))
    → Rule D C E F (Then D E some) (Upto C F)
then_rule D C E F some = record { join = λ free s q r x y d e. then d e; split = then_split; rest = some }

-- the part is read, and the answer is that of those behind it
pub and_ok : {T A B : Type 0} {D C : Grammar T A} {E F : A → Grammar T B} {some : (x : A) → Default (E x)}
    {s m : List T} {x : A} {o : Answer T B} → Exact D C s (Got x m) → Exact (E x) (F x) m o → Exact (Then D E some) (Upto C F) s o
and_ok {D = D} {C = C} {E = E} {F = F} {some = some} d e = then_ok (then_rule D C E F some) d e

-- the part isn't read
pub and_failed : {T A B : Type 0} {D C : Grammar T A} {E F : A → Grammar T B} {some : (x : A) → Default (E x)}
    {s : List T} (f : Failure T) → Exact D C s (Failed f) → Exact (Then D E some) (Upto C F) s (Failed f)
and_failed {D = D} {C = C} {E = E} {F = F} {some = some} f d = then_failed (then_rule D C E F some) f d

-- all parts are read
pub and_done : {T B : Type 0} {y : B} {s : List T} → Exact (Done y) (Done y) s (Got y s)
and_done {T} {B} {y} {s} = got_nothing (λ free r. done) over
  where
    over : (free : ℕ) (s' r : List T) (z : B) → Done y free s' z r → (z ≡ y) × (r ≡ s')
    over free s' r z done = (refl, refl)

-- a grammar's default is that of a rule's parts
pub default_of : {T A : Type 0} (Inner D : Grammar T A) → ((free : ℕ) (s r : List T) (x : A) → Inner free s x r → D free s x r)
    → Default Inner → Default D
default_of Inner D f d = record { more = d.more; tree = d.tree; reads = λ free r h. f free _ _ _ (d.reads free r h) }

-- a rule that begins with a terminal derives something from the token that stands there
pub default_from : {T A B : Type 0} {want : T → Option A} {t : T} {a : A} {E : A → Grammar T B} {some : (x : A) → Default (E x)}
    (D : Grammar T B) → want t ≡ Some a → ((free : ℕ) (s r : List T) (y : B) → Then (Unlimited (Sees want)) E some free s y r → D free s y r)
    → DefaultFrom t D
default_from {a = a} {some = some} D h join = let d = some a in record {
  more = d.more;
  tree = d.tree;
  reads = λ free r k. join free _ _ _ (then (sees h) (d.reads free r (omega (arith, k))));
}
