-- What is put together before it is written: bytes are added to those that are pending, and go out in pieces.
use Rattle.std.specs.Prelude.{ℕ, ◌≡◌, List, ◌++◌, Option, Result, IfOk, OnErr}
use Rattle.std.specs.List.{flat_map}
use Rattle.std.specs.Borrow.{Bor}
use Rattle.ca_base.specs.Devices.{grown, Began}

-- the first bytes of the text went out, and the others are left
pub record Went (old now : Option (List ℕ)) (text left : List ℕ) : Type 0 where
  pub out : List ℕ
  pub told : now ≡ grown old out
  pub all : text ≡ out ++ left

-- The text was added to the pending bytes: together they went out, but for those that are left.
-- After an error a beginning of them went out.
pub record Adds {T E : Type 0} (old now : Option (List ℕ)) (pending left : List ℕ) (result : Result T E) (text : List ℕ) : Type 0 where
  pub whole : IfOk result (λ _. Went old now (pending ++ text) left)
  pub part : OnErr result (Began old now (pending ++ text))

-- texts, one behind the other
abbrev pub in_a_row : List (List ℕ) → List ℕ
in_a_row texts = flat_map (λ text. text) texts

-- parts in memory, one behind the other
abbrev pub joined : List (Bor (List ℕ)) → List ℕ
joined parts = flat_map (λ part. part.now) parts
