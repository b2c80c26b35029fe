-- Costs one after the other.
use Rattle.std.proofs.Common.{◌≡◌, ℕ, ◌+◌, ◌-◌, ◌≤◌, Bool, true, false, Option, Some, None, refl, sym, ap, ap₂, ◌∙◌, arith, leb-true}
use Rattle.std.specs.Prelude.{nat_le}
use Rattle.std.proofs.lemmas.Bool.Decides.{nat_tests}
use Rattle.ca_meaning.specs.Expressions.{Out, gives, traps, over, ◌>>=◌}
use Rattle.ca_symbolic_laws.specs.Costs.{plus, left_if, left, value_of, with_left}
use Rattle.ca_symbolic_laws.proofs.Bounded.{le_of as le_true}

abbrev pub and_then : {A B : Type 0} → Option A → (A → Option B) → Option B
and_then None f = None
and_then (Some x) f = f x

pub value_bind : {A B : Type 0} (o : Out A) (f : A → ℕ → Out B) → value_of (o >>= f) ≡ and_then (value_of o) (λ r. value_of (f r.0 r.1))
value_bind (gives v k) f = refl
value_bind (traps t) f = refl
value_bind over f = refl

pub nothing_left : (k : ℕ) → left (Some 0) k ≡ Some k
nothing_left k = let e : nat_le 0 k ≡ true = grind (arith, nat_tests) in rw e (ap Some (let z : k - 0 ≡ k = omega arith in z))

-- what takes nothing leaves all
pub free : {A : Type 0} (v : A) (k : ℕ) → Some (v, k) ≡ with_left v (left (Some 0) k)
free v k = ap (with_left v) (sym (nothing_left k))

pub plus_none : (c : Option ℕ) → plus c (Some 0) ≡ c
plus_none None = refl
plus_none (Some n) = ap Some (let z : n + 0 ≡ n = omega arith in z)

pub none_plus : (c : Option ℕ) → plus (Some 0) c ≡ c
none_plus None = refl
none_plus (Some n) = ap Some (let z : 0 + n ≡ n = omega arith in z)

pub plus_assoc : (a b c : Option ℕ) → plus (plus a b) c ≡ plus a (plus b c)
plus_assoc None b c = refl
plus_assoc (Some a) None c = refl
plus_assoc (Some a) (Some b) None = refl
plus_assoc (Some a) (Some b) (Some c) = ap Some (let z : a + b + c ≡ a + (b + c) = omega arith in z)

more_true : (m n k : ℕ) → m ≤ k → nat_le (m + n) k ≡ nat_le n (k - m)
more_true m n k h = grind (arith, nat_tests)

pub more_false : (m n k : ℕ) → nat_le m k ≡ false → nat_le (m + n) k ≡ false
more_false m n k e = grind (arith, nat_tests)

minus_twice : (m n k : ℕ) → k - m - n ≡ k - (m + n)
minus_twice m n k = omega arith

some_then : {A B : Type 0} (v : A) (w : B) (m n k : ℕ) (F : A → ℕ → Option (B × ℕ)) (b : Bool) → nat_le m k ≡ b → ((j : ℕ) → j ≤ k → F v j ≡ with_left w (left (Some n) j)) → and_then (with_left v (left_if b (k - m))) (λ r. F r.0 r.1) ≡ with_left w (left (Some (m + n)) k)
some_then v w m n k F true e h =
    h (k - m) (omega arith) ∙ ap₂ (λ b j. with_left w (left_if b j)) (sym (more_true m n k (leb-true m k e))) (minus_twice m n k)
some_then v w m n k F false e h = ap (λ b. with_left w (left_if b (k - (m + n)))) (sym (more_false m n k e))

none_then : {A B : Type 0} (v : A) (w : B) (k j : ℕ) (F : A → ℕ → Option (B × ℕ)) (b : Bool) → F v j ≡ None → and_then (with_left v (left_if b j)) (λ r. F r.0 r.1) ≡ None
none_then v w k j F true h = h
none_then v w k j F false h = refl

-- an evaluation and then another
pub then_left : {A B : Type 0} (v : A) (w : B) (c d : Option ℕ) (k : ℕ) (F : A → ℕ → Option (B × ℕ)) → ((j : ℕ) → j ≤ k → F v j ≡ with_left w (left d j)) → and_then (with_left v (left c k)) (λ r. F r.0 r.1) ≡ with_left w (left (plus c d) k)
then_left v w None d k F h = refl
then_left v w (Some m) None k F h = none_then v w k (k - m) F (nat_le m k) (h (k - m) (omega arith))
then_left v w (Some m) (Some n) k F h = some_then v w m n k F (nat_le m k) refl h

-- the same for an evaluation that is bound
pub then_value : {A B : Type 0} (o : Out A) (f : A → ℕ → Out B) (v : A) (w : B) (c d : Option ℕ) (k : ℕ) → value_of o ≡ with_left v (left c k) → ((j : ℕ) → j ≤ k → value_of (f v j) ≡ with_left w (left d j)) → value_of (o >>= f) ≡ with_left w (left (plus c d) k)
then_value o f v w c d k e h = value_bind o f ∙ ap (λ z. and_then z (λ r. value_of (f r.0 r.1))) e ∙ then_left v w c d k (λ x j. value_of (f x j)) h
