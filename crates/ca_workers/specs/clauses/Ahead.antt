-- Calls that run in the heap itself ahead of rounds, as the serial run of the first ones of a list.
use Rattle.std.specs.Prelude.{ℕ, ◌-◌, ◌≡◌, drop, List, Option, Some, None, Result, Ok, Err}
use Rattle.ca_base.specs.declared.faults.Memory.{Memory}
use Rattle.ca_program.specs.declared.program.OpId.{OpId}
use Rattle.ca_program.specs.Plain.{PlainProgram}
use Rattle.ca_model.specs.declared.value.Object.{Object}
use Rattle.ca_meaning.specs.Expressions.{Invocation}
use Rattle.ca_parallel.specs.declared.op.Op.{Op}
use Rattle.ca_parallel.specs.Calls.{invocations_of}
use Rattle.ca_parallel.specs.Extents.{Extent}
use Rattle.ca_parallel.specs.ExtentsOf.{ExtentOf}
use Rattle.ca_sections.specs.InOrder.{CallsEnd, Continues}
use Rattle.ca_workers.specs.clauses.Runs.{IsSetting, MayWait}
use Rattle.ca_workers.specs.declared.ahead.Front.{Front}

-- Calls that may wait, with a heap that nothing is changed beside: in an extent that is known, and in that of roots.
pub record WaitFrom (p : PlainProgram) (h : List Object) (roots : List OpId) (is : List Invocation) : Type 0 where
  pub extent : Extent
  pub setting : IsSetting p extent h
  pub waits : MayWait p extent h h is
  pub own : (x : Extent) → ExtentOf p roots x → IsSetting p x h × MayWait p x h h is

-- The first ones of some calls ran to this heap, and the others go on from there; or the calls aren't done within the budget.
abbrev pub RanFront : PlainProgram → List Object → List Op → ℕ → List Object → Option Front → Type 0
RanFront p h calls budget now None = CallsEnd p h (invocations_of calls) budget now None
RanFront p h calls budget now (Some f) = Continues p h (invocations_of calls) budget now (invocations_of (drop f.count calls)) f.left

-- The steps of all calls, where those of the last ones are told, and what was left for these.
abbrev pub with_steps : ℕ → ℕ → Option ℕ → Option ℕ
with_steps budget left None = None
with_steps budget left (Some more) = Some (budget - (left - more))

-- What is told of all calls where the last ones ended so, in this heap, and the heap is then: as it was before all where they aren't done.
abbrev pub EndsAhead : ℕ → ℕ → Result (Option ℕ) Memory → Result (Option ℕ) Memory → List Object → List Object → List Object → Type 0
EndsAhead budget left (Ok (Some more)) told now after whole = (told ≡ Ok (with_steps budget left (Some more))) × (after ≡ now)
EndsAhead budget left (Ok None) told now after whole = (told ≡ Ok None) × (after ≡ whole)
EndsAhead budget left (Err wanting) told now after whole = (told ≡ Err wanting) × (after ≡ whole)
