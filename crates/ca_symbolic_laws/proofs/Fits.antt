-- What the law asks of a statement within a body, and of the statements that it holds.
use Rattle.std.proofs.Common.{◌≡◌, ℕ, Bool, true, false, List, Option, Some, None, refl}
use Rattle.std.specs.Prelude.{◌||◌, Contains}
use Rattle.std.specs.Option.{option_or}
use Rattle.std.proofs.lemmas.List.Elements.{Contains-append_left, Contains-append_right}
use Rattle.std.proofs.lemmas.Bool.{or_parts}
use Rattle.ca_program.specs.declared.program.FieldId.{FieldId}
use Rattle.ca_program.specs.Plain.{PlainMethod, Expression, Statement, Statements, block, if_else, statement_and}
use Rattle.ca_meaning.specs.ProgramTyped.{StatementTyped, StatementsTyped, scope_of}
use Rattle.ca_parallel.specs.Bodies.{targets_of, targets_of_all, fors_in, fors_in_all}
use Rattle.ca_parallel.specs.Scoped.{names, counts, any_counts, names_outside, any_names_outside}
use Rattle.ca_parallel.specs.Separable.{holds_call, IsSeparated, AreSeparated}
use Rattle.ca_norm.specs.Environments.{Environment}
use Rattle.ca_symbolic.specs.OtherLoops.{other_loop, other_loop_in}
use Rattle.ca_symbolic_laws.proofs.Expressions.{Unnamed}

first_none : {A : Type 0} (a b : Option A) → option_or a b ≡ None → a ≡ None
first_none None b e = refl
first_none (Some x) b e = cc

second_none : {A : Type 0} (a b : Option A) → option_or a b ≡ None → b ≡ None
second_none None b e = e
second_none (Some x) b e = cc

pub or_first : (a b : Bool) → a ≡ true → a || b ≡ true
or_first a b e = rw e refl

pub or_second : (a b : Bool) → b ≡ true → a || b ≡ true
or_second true b e = refl
or_second false b e = e

module _ (s : Environment) (m : PlainMethod) (written : List FieldId) (is_counter : ℕ → Bool) (all : List Statement) where
  -- a statement before which a call may have come, whose loops are among these
  pub record Fits (called : Bool) (x : Statement) : Type 0 where
    pub typed : StatementTyped s.program (scope_of m) x
    pub separated : IsSeparated s.program written called x
    pub known : other_loop m.params written x ≡ None
    pub puts : (f : FieldId) → Contains (targets_of x) f → Contains written f
    pub inside : (y : Statement) → Contains (fors_in x) y → Contains all y
    pub counted : (n : ℕ) → counts x n ≡ true → is_counter n ≡ true
    pub apart : Unnamed is_counter (names_outside x)

  pub record FitAll (called : Bool) (xs : Statements) : Type 0 where
    pub typed : StatementsTyped s.program (scope_of m) xs
    pub separated : AreSeparated s.program written called xs
    pub known : other_loop_in m.params written xs ≡ None
    pub puts : (f : FieldId) → Contains (targets_of_all xs) f → Contains written f
    pub inside : (y : Statement) → Contains (fors_in_all xs) y → Contains all y
    pub counted : (n : ℕ) → any_counts xs n ≡ true → is_counter n ≡ true
    pub apart : Unnamed is_counter (any_names_outside xs)

  pub in_block : (called : Bool) (line : ℕ) (xs : Statements) → Fits called (block line xs) → FitAll called xs
  in_block called line xs f = record { typed = f.typed; separated = f.separated; known = f.known; puts = f.puts; inside = f.inside; counted = f.counted; apart = f.apart }

  pub at_head : (called : Bool) (x : Statement) (xs : Statements) → FitAll called (statement_and x xs) → Fits called x
  at_head called x xs f = record {
    typed = f.typed.0;
    separated = f.separated.0;
    known = first_none (other_loop m.params written x) (other_loop_in m.params written xs) f.known;
    puts = λ g c. f.puts g (Contains-append_left (targets_of x) (targets_of_all xs) g c);
    inside = λ y c. f.inside y (Contains-append_left (fors_in x) (fors_in_all xs) y c);
    counted = λ n e. f.counted n (or_first (counts x n) (any_counts xs n) e);
    apart = λ n e. (or_parts (names_outside x n) (any_names_outside xs n) (f.apart n e)).0;
  }

  pub in_tail : (called : Bool) (x : Statement) (xs : Statements) → FitAll called (statement_and x xs) → FitAll (called || holds_call x) xs
  in_tail called x xs f = record {
    typed = f.typed.1;
    separated = f.separated.1;
    known = second_none (other_loop m.params written x) (other_loop_in m.params written xs) f.known;
    puts = λ g c. f.puts g (Contains-append_right (targets_of x) (targets_of_all xs) g c);
    inside = λ y c. f.inside y (Contains-append_right (fors_in x) (fors_in_all xs) y c);
    counted = λ n e. f.counted n (or_second (counts x n) (any_counts xs n) e);
    apart = λ n e. (or_parts (names_outside x n) (any_names_outside xs n) (f.apart n e)).1;
  }

  outside_branches : (c : Expression) (a b : Statement) → Unnamed is_counter (λ n. names c n || (names_outside a n || names_outside b n)) → Unnamed is_counter (λ n. names_outside a n || names_outside b n)
  outside_branches c a b h = λ n e. (or_parts (names c n) (names_outside a n || names_outside b n) (h n e)).1

  pub in_then : (called : Bool) (line : ℕ) (c : Expression) (a b : Statement) → Fits called (if_else line c a b) → Fits called a
  in_then called line c a b f = record {
    typed = f.typed.1;
    separated = f.separated.1;
    known = first_none (other_loop m.params written a) (other_loop m.params written b) f.known;
    puts = λ g k. f.puts g (Contains-append_left (targets_of a) (targets_of b) g k);
    inside = λ y k. f.inside y (Contains-append_left (fors_in a) (fors_in b) y k);
    counted = λ n e. f.counted n (or_first (counts a n) (counts b n) e);
    apart = λ n e. (or_parts (names_outside a n) (names_outside b n) (outside_branches c a b f.apart n e)).0;
  }

  pub in_else : (called : Bool) (line : ℕ) (c : Expression) (a b : Statement) → Fits called (if_else line c a b) → Fits called b
  in_else called line c a b f = record {
    typed = f.typed.2;
    separated = f.separated.2;
    known = second_none (other_loop m.params written a) (other_loop m.params written b) f.known;
    puts = λ g k. f.puts g (Contains-append_right (targets_of a) (targets_of b) g k);
    inside = λ y k. f.inside y (Contains-append_right (fors_in a) (fors_in b) y k);
    counted = λ n e. f.counted n (or_second (counts a n) (counts b n) e);
    apart = λ n e. (or_parts (names_outside a n) (names_outside b n) (outside_branches c a b f.apart n e)).1;
  }
