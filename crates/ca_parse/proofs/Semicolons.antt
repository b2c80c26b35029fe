-- What `;` ends, as the answer of a call.
use Rattle.std.specs.Prelude.{Result, Ok, Err, ◌≡◌, ℕ, List}
use Rattle.std.specs.Borrow.{Bor}
use Rattle.std.proofs.Common.{refl}
use Rattle.ca_descent.specs.Exact.{Exact}
use Rattle.ca_descent.proofs.Exact.{exact_image, exact_map}
use Rattle.ca_descent.proofs.Parts.{then, upto, done, Part, ◌⨾◌, finish}
use Rattle.ca_tree.specs.declared.token.Token.{Token}
use Rattle.ca_tree.specs.declared.token.Sign.TheVariants.{Semicolon}
use Rattle.ca_expressions.proofs.Terminals.{mark}
use Rattle.ca_expressions.specs.Readers.{answer}
use Rattle.ca_expressions.specs.declared.tokens.Fault.{Fault}
use Rattle.ca_parse.specs.clauses.Closed.{Ended, semicolon}

-- the parts of a rule that only has its `;` left, where x is its tree
abbrev pub last : {A : Type 0} → A → Part Token A
last x = mark Semicolon ⨾ λ e. finish x

ended_split : {A : Type 0} {x : A} (free : ℕ) (s r : List Token) (y : A) → Ended x free s y r → (last x).C free s y r
ended_split free s r y (semicolon e) = upto e done

viewed_split : {X A : Type 0} (view : X → A) {x : X} (free : ℕ) (s r : List Token) (y : A) → (last (view x)).C free s y r
    → (z : X) × (y ≡ view z) × Ended x free s z r
viewed_split view {x} free s r y (upto e done) = (x, refl, semicolon e)

-- the `;` is read
pub ended_join : {A : Type 0} {x : A} {s : List Token} {o : _} → Exact (last x).D (last x).C s o → Exact (Ended x) (Ended x) s o
ended_join {x = x} d = exact_map join ended_split d
  where
    join : (free : ℕ) (s r : List Token) (y : _) → (last x).D free s y r → Ended x free s y r
    join free s r y (then e done) = semicolon e

-- what was ended is seen by view
pub ended_answer : {X A : Type 0} (view : X → A) {x : X} {s : List Token} (o : Result (X × Bor (List Token)) Fault)
    → Exact (Ended x) (Ended x) s (answer (λ v. v) o) → Exact (last (view x)).D (last (view x)).C s (answer view o)
ended_answer view {x} (Ok p) d = exact_image view (λ free s r z c. viewed_join free s r z c) (viewed_split view) d
  where
    viewed_join : (free : ℕ) (s r : List Token) (z : _) → Ended x free s z r → (last (view x)).D free s (view z) r
    viewed_join free s r z (semicolon e) = then e done
ended_answer view {x} (Err f) d = exact_image view (λ free s r z c. viewed_join free s r z c) (viewed_split view) d
  where
    viewed_join : (free : ℕ) (s r : List Token) (z : _) → Ended x free s z r → (last (view x)).D free s (view z) r
    viewed_join free s r z (semicolon e) = then e done

-- the same of any answer
pub ended_exact : {A : Type 0} {x : A} {s : List Token} {o : _} → Exact (Ended x) (Ended x) s o → Exact (last x).D (last x).C s o
ended_exact {x = x} d = exact_map join split d
  where
    join : (free : ℕ) (s r : List Token) (y : _) → Ended x free s y r → (last x).D free s y r
    join free s r y (semicolon e) = then e done

    split : (free : ℕ) (s r : List Token) (y : _) → (last x).C free s y r → Ended x free s y r
    split free s r y (upto e done) = semicolon e
