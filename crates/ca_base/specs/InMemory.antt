-- Devices in memory: what a source has left, what a sink holds, and which of their calls are to fail.
use Rattle.std.specs.Prelude.{ℕ, ◌-◌, List, length}
use Rattle.std.specs.List.{Contains}
use Rattle.ca_base.specs.Devices.{one_more}

-- the numbers of the calls that fail, how many calls were made, and how many of them failed
pub record Calls : Type 0 where
  pub failing : List ℕ
  pub made : ℕ
  pub faults : ℕ

-- no call was made yet, and the calls with these numbers are to fail
abbrev pub no_calls_yet : List ℕ → Calls
no_calls_yet failing = record { failing = failing; made = 0; faults = 0 }

-- the number of the next call is one of those that fail
abbrev pub FailsNext : Calls → Type 0
FailsNext calls = Contains calls.failing (one_more calls.made)

-- one more call was made
abbrev pub with_call : Calls → Calls
with_call calls = record calls { made = one_more calls.made }

-- one more call failed
abbrev pub with_fault : Calls → Calls
with_fault calls = record calls { faults = one_more calls.faults }

-- a source in memory: the bytes that are left, and its calls
pub record SourceState : Type 0 where
  pub left : List ℕ
  pub calls : Calls

-- a sink in memory: what was written, the bytes that it has room for in all, and its calls
pub record SinkState : Type 0 where
  pub written : List ℕ
  pub room : ℕ
  pub calls : Calls

-- how many bytes still fit
abbrev pub free_room : SinkState → ℕ
free_room sink = sink.room - length sink.written

-- a source in memory that gives at most so many bytes a read
pub record SourcePieces : Type 0 where
  pub source : SourceState
  pub piece : ℕ

-- a sink in memory that takes at most so many bytes a write
pub record SinkPieces : Type 0 where
  pub sink : SinkState
  pub piece : ℕ
