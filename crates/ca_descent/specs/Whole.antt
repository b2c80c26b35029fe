-- What a parser of whole texts promises. `Derives free tokens tree` asks no limit of the last `free` tokens.
use Rattle.std.specs.Prelude.{◌≡◌, ℕ, ◌+◌, ◌<◌, ◌≤◌, List, ◌++◌, length, take}

-- some further tokens continue these to a list that derives a tree, whether or not a limit is asked
pub record Begins {T A : Type 0} (Derives : ℕ → List T → A → Type 0) (ts : List T) : Type 0 where
  pub more : List T
  pub tree : A
  pub free : ℕ
  pub derives : Derives free (ts ++ more) tree

-- the same, and none of these tokens passes a limit: at most the further ones are free
pub record BeginsWithin {T A : Type 0} (Derives : ℕ → List T → A → Type 0) (ts : List T) : Type 0 where
  pub more : List T
  pub tree : A
  pub free : ℕ
  pub few : free ≤ length more
  pub derives : Derives free (ts ++ more) tree

-- the tokens before k begin something within the limits, and those through k begin nothing even past them, or k is
-- their number and they derive no tree
pub record FirstWrong {T A : Type 0} (Derives : ℕ → List T → A → Type 0) (ts : List T) (k : ℕ) : Type 0 where
  pub here : k ≤ length ts
  pub before : BeginsWithin Derives (take k ts)
  pub through : k < length ts → Begins Derives (take (k + 1) ts) → ⊥
  pub whole : k ≡ length ts → (free : ℕ) (x : A) → Derives free ts x → ⊥

-- the tokens before k begin something within the limits, and those through k begin something only past them
pub record FirstDeep {T A : Type 0} (Derives : ℕ → List T → A → Type 0) (ts : List T) (k : ℕ) : Type 0 where
  pub here : k < length ts
  pub before : BeginsWithin Derives (take k ts)
  pub through : Begins Derives (take (k + 1) ts)
  pub past : BeginsWithin Derives (take (k + 1) ts) → ⊥
