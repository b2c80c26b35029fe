-- How a call ends. `old` and `now` are the bytes that the sink tells before and after it.
use Rattle.std.specs.Prelude.{ℕ, ◌≡◌, ◌≤◌, ◌⊎◌, List, Option, Result, Ok, Err}
use Rattle.ca_base.specs.Devices.{Rose, grown, Began}
use Rattle.ca_meaning.specs.Output.{Reply}
use Rattle.ca_app.specs.declared.serving.TheConstants.{DONE, REFUSED, TRAPPED, SPENT, NO_MEMORY, READ_FAULT, WRITE_FAULT, GOES_WRONG}

-- The reply was given whole; or memory ran out, a read failed or a write failed, and the status says which.
pub data Ends (reply : Reply) (status : ℕ) (old now : Option (List ℕ)) : Type 0 where
  whole : status ≡ reply.status → now ≡ grown old reply.bytes → Ends reply status old now
  no_memory : status ≡ NO_MEMORY → Began old now reply.bytes → Ends reply status old now
  read_fault : status ≡ READ_FAULT → now ≡ old → Ends reply status old now
  write_fault : status ≡ WRITE_FAULT → Began old now reply.bytes → Ends reply status old now

-- Memory ran out or a read failed before there was a reply, and nothing was written.
pub record Unreplied (status : ℕ) (old now : Option (List ℕ)) : Type 0 where
  pub cause : (status ≡ NO_MEMORY) ⊎ (status ≡ READ_FAULT)
  pub same : now ≡ old

-- There is a reply of this kind, or nothing was written before there was one; and the call ended with any that there is.
pub record EndsWith (replies : Reply → Type 0) (status : ℕ) (old now : Option (List ℕ)) : Type 0 where
  pub some : Unreplied status old now ⊎ ((reply : Reply) × replies reply)
  pub each : (reply : Reply) → replies reply → Ends reply status old now

-- One of several replies of this kind was given, or nothing was written before there was one.
pub data EndsWithOne (replies : Reply → Type 0) (status : ℕ) (old now : Option (List ℕ)) : Type 0 where
  unreplied : Unreplied status old now → EndsWithOne replies status old now
  replied : {reply : Reply} → replies reply → Ends reply status old now → EndsWithOne replies status old now

-- a failed write is told only where the count of the sink's faults rose, and the count never falls
pub record SinkCause (status faults faults' : ℕ) : Type 0 where
  pub later : faults ≤ faults'
  pub rose : status ≡ WRITE_FAULT → Rose faults faults'

-- the reply was given whole, or memory ran out
abbrev pub Complete : Reply → ℕ → Option (List ℕ) → Option (List ℕ) → Type 0
Complete reply status old now = (status ≡ NO_MEMORY) ⊎ ((status ≡ reply.status) × (now ≡ grown old reply.bytes))

-- one of several replies of this kind was given whole, or memory ran out
abbrev pub CompleteWithOne : (Reply → Type 0) → ℕ → Option (List ℕ) → Option (List ℕ) → Type 0
CompleteWithOne replies status old now = (status ≡ NO_MEMORY) ⊎ ((reply : Reply) × replies reply × (status ≡ reply.status) × (now ≡ grown old reply.bytes))

-- the status of a reply that was to be written
abbrev pub status_after : {T E : Type 0} → Result T E → ℕ → ℕ
status_after (Ok x) status = status
status_after (Err e) status = WRITE_FAULT

-- the statuses behind which the source is read to its end
abbrev pub IsReadToEnd : ℕ → Type 0
IsReadToEnd status = ((status ≡ DONE) ⊎ (status ≡ REFUSED)) ⊎ ((status ≡ TRAPPED) ⊎ ((status ≡ SPENT) ⊎ (status ≡ GOES_WRONG)))
