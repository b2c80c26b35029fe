-- Entries as they are told to contracts, and what stands in memory beside a list of them.
use Rattle.std.specs.Prelude.{◌≡◌, ◌<◌, ℕ, cond, List, [], ◌∷◌, ◌++◌, map, Option, Some, None, is_some, length, Vec}
use Rattle.std.specs.Global.{Global}
use Rattle.std.specs.declared.boxed.Box.{Box}
use Rattle.ca_meaning.specs.Multisets.{weight}
use Rattle.ca_parallel.specs.declared.op.Op.{Op}
use Rattle.ca_logs.specs.Lasts.{last_of}
use Rattle.ca_logs.specs.declared.log.Task.{Task}
use Rattle.ca_logs.specs.declared.log.Stop.{Stop}
use Rattle.ca_logs.specs.declared.log.Entry.{Entry}
use Rattle.ca_logs.specs.declared.entries.Told.{Told}
use Rattle.ca_logs.specs.declared.entries.Past.{Past, Nothing, More', Same'}
use Rattle.ca_logs.specs.declared.entries.Mark.{Mark}

abbrev pub entry_with : Task → ℕ → ℕ → List Op → Option Stop → Entry
entry_with task clock steps invoked stop = record { task = task; clock = clock; steps = steps; invoked = invoked; stop = stop }

-- of a section that ran
abbrev pub ran_entry : Task → ℕ → ℕ → List Op → Entry
ran_entry task clock steps invoked = entry_with task clock steps invoked None

-- of one that stopped: it took no steps and listed nothing
abbrev pub stuck_entry : Task → ℕ → Stop → Entry
stuck_entry task clock stop = entry_with task clock 0 [] (Some stop)

abbrev pub operation_in : Task → Op
operation_in t = t.op

abbrev pub told_entry : Told → Entry
told_entry t = entry_with t.task.value t.clock.value t.steps.value (map operation_in t.listed.value.items) t.stop.value

-- all that are told
abbrev pub told_in : Past → List Entry
told_in Nothing = []
told_in (More' m past told) = told_in past ++ told_entry told ∷ []
told_in (Same' m n past) = told_in past

-- those in memory are these, where they are kept
abbrev pub AreKept : Option (Vec Entry Global) → List Entry → Type 0
AreKept None es = Unit {0}
AreKept (Some kept) es = kept.items ≡ es

-- a last entry's clock, and 0 where there is none
abbrev pub clock_of : Option Entry → ℕ
clock_of None = 0
clock_of (Some e) = e.clock

-- a last entry, where it has a stop
abbrev pub stopped_in : Option Entry → Option Entry
stopped_in None = None
stopped_in (Some e) = cond (is_some e.stop) (Some e) None

-- in memory of its own
abbrev pub unboxed : Option (Box Entry Global) → Option Entry
unboxed None = None
unboxed (Some b) = Some b.value

abbrev pub steps_of : List Entry → ℕ
steps_of es = weight (λ (e : Entry). e.steps) es

-- so many, or more than a number tells
abbrev pub StepsAre : Option ℕ → ℕ → Type 0
StepsAre None total = 18446744073709551615 < total
StepsAre (Some sum) total = sum ≡ total

-- those that are kept, how many there are, the last clock, the steps of all, and the last entry where it has a stop
pub record Tallies (es : List Entry) (kept : Option (Vec Entry Global)) (count : ℕ) (clock : ℕ) (steps : Option ℕ) (stuck : Option Entry) : Type 0 where
  pub in_memory : AreKept kept es
  pub many : count ≡ length es
  pub last : clock ≡ clock_of (last_of es)
  pub all_steps : StepsAre steps (steps_of es)
  pub stopped : stuck ≡ stopped_in (last_of es)

-- so many entries, of which the last one has no stop
pub record IsMark (es : List Entry) (mark : Mark) : Type 0 where
  pub count : mark.count ≡ length es
  pub told : told_in mark.told.value.value ≡ es
  pub last : mark.clock ≡ clock_of (last_of es)
  pub all_steps : StepsAre mark.steps (steps_of es)
  pub no_stop : stopped_in (last_of es) ≡ None
