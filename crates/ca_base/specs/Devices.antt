-- What the calls of sources and sinks do. The bytes of a device are an option, None where it tells none.
use Rattle.std.specs.Prelude.{ℕ, ◌≡◌, ◌+◌, ◌-◌, ◌^◌, ◌<◌, ◌≤◌, min, List, [], ◌++◌, length, take, drop, Option, Some, None, IfSome, Result, Ok, Err, OnErr, IfOk}

-- one more, in a count that stands still at the top of its type
abbrev pub one_more : ℕ → ℕ
one_more n = min (n + 1) (2 ^ 64 - 1)

-- the count rose, or stands at the top of its type
abbrev pub Rose : ℕ → ℕ → Type 0
Rose before now = one_more before ≤ now

-- the count of faults never falls, and an error comes only where it rose
pub record HasCause {T E : Type 0} (before now : ℕ) (result : Result T E) : Type 0 where
  pub later : before ≤ now
  pub failed : OnErr result (Rose before now)

-- Sources

-- these bytes, and then what is left
abbrev pub with_front : List ℕ → Option (List ℕ) → Option (List ℕ)
with_front front None = None
with_front front (Some rest) = Some (front ++ rest)

-- nothing is left
abbrev pub at_end : Option (List ℕ) → Option (List ℕ)
at_end None = None
at_end (Some bytes) = Some []

-- the first bytes of the buffer are those that were next, the rest of it stays, and the count is 0
-- only where nothing is left
pub record Took (old now : Option (List ℕ)) (count : ℕ) (before after : List ℕ) : Type 0 where
  pub bytes : old ≡ with_front (take count after) now
  pub rest : IfSome old (λ _. drop count after ≡ drop count before)
  pub end : count ≡ 0 → now ≡ at_end old

-- what a read of some bytes, or a failed one, does to what is left and to the buffer
abbrev pub Reads : {E : Type 0} → Option (List ℕ) → Option (List ℕ) → Result ℕ E → List ℕ → List ℕ → Type 0
Reads old now (Ok count) before after = Took old now count before after
Reads old now (Err e) before after = now ≡ old

-- Sinks

-- at least one byte of the piece, and no more than it has
pub record TakesSome (count : ℕ) (piece : List ℕ) : Type 0 where
  pub some : 0 < count
  pub within : count ≤ length piece

-- what was written, and then this piece
abbrev pub grown : Option (List ℕ) → List ℕ → Option (List ℕ)
grown None piece = None
grown (Some old) piece = Some (old ++ piece)

-- the first bytes of the piece were written, or nothing
abbrev pub Wrote : {E : Type 0} → Option (List ℕ) → Option (List ℕ) → Result ℕ E → List ℕ → Type 0
Wrote old now (Ok count) piece = now ≡ grown old (take count piece)
Wrote old now (Err e) piece = now ≡ old

-- a beginning of the text was written
pub record Began (old now : Option (List ℕ)) (text : List ℕ) : Type 0 where
  pub done : List ℕ
  pub rest : List ℕ
  pub whole : text ≡ done ++ rest
  pub told : now ≡ grown old done

-- the whole text was written, or a beginning of it and then an error came
pub record Writes {T E : Type 0} (old now : Option (List ℕ)) (result : Result T E) (text : List ℕ) : Type 0 where
  pub whole : IfOk result (λ _. now ≡ grown old text)
  pub part : OnErr result (Began old now text)
