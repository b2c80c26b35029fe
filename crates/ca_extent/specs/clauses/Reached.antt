-- What is reached from some numbers, where each number leads to others.
use Rattle.std.specs.Prelude.{ℕ, ◌≡◌, ◌<◌, ◌↔◌, ◌++◌, Bool, true, false, List, length, slice_index, slice_index_or, slice_set, slice_get, Contains}
use Rattle.std.specs.List.Sorted.{IsStrictlyIncreasing}
use Rattle.ca_program.specs.Plain.{PlainMethod}
use Rattle.ca_meaning.specs.Functions.{body_of}
use Rattle.ca_extent.specs.declared.numbers.Callees.{Callees}
use Rattle.ca_extent.specs.clauses.Numbers.{numbers_of_all}

pub data Reached (next : ℕ → List ℕ) (roots : List ℕ) : ℕ → Type 0 where
  from_root : {n : ℕ} → Contains roots n → Reached next roots n
  onward : {n m : ℕ} → Reached next roots n → Contains (next n) m → Reached next roots m

-- the numbers that the body of a method calls
abbrev pub calls_at : Callees → List PlainMethod → ℕ → List ℕ
calls_at callees methods n = numbers_of_all callees (body_of (slice_get methods n))

-- all that is reached, each number once, and they rise
pub record IsReached (next : ℕ → List ℕ) (roots xs : List ℕ) : Type 0 where
  pub all : (n : ℕ) → Contains xs n ↔ Reached next roots n
  pub rises : IsStrictlyIncreasing xs

-- One turn of the work list: what has been met, and which numbers have a mark, where the number at a place is looked at.
-- A number without a mark gets one and what it leads to is met; one with a mark, or too great for one, is passed by.
pub data Turn (next : ℕ → List ℕ) (place : ℕ) (marks : List Bool) (met : List ℕ) (marks2 : List Bool) (met2 : List ℕ) : Type 0 where
  read : (n : ℕ) → n ≡ slice_index met place → n < length marks → slice_index_or marks n false ≡ false
      → marks2 ≡ slice_set marks n true → met2 ≡ met ++ next n → Turn next place marks met marks2 met2
  passed : (slice_index met place < length marks → slice_index_or marks (slice_index met place) false ≡ true) → marks2 ≡ marks → met2 ≡ met → Turn next place marks met marks2 met2
