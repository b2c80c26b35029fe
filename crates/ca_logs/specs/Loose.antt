-- Loose entries: sections of free operations, which stand in no history. Each ran on its receiver's object in the frozen heap,
-- and its clock is the one next to its task's.
use Rattle.std.specs.Prelude.{◌≡◌, ℕ, suc, List, [], Option, Some, None, Contains, slice_get, option_to_list}
use Rattle.ca_program.specs.Plain.{PlainProgram}
use Rattle.ca_model.specs.declared.value.Object.{Object}
use Rattle.ca_meaning.specs.Expressions.{Invocation}
use Rattle.ca_meaning.specs.Sections.{Sectioned, done, stopped, over, section}
use Rattle.ca_parallel.specs.Calls.{invocations_of}
use Rattle.ca_parallel.specs.Extents.{Extent}
use Rattle.ca_parallel.specs.Free.{IsFree}
use Rattle.ca_logs.specs.Lasts.{last_of}
use Rattle.ca_logs.specs.Telling.{stopped_in}
use Rattle.ca_logs.specs.Entries.{loose_entries, stuck_in}
use Rattle.ca_logs.specs.declared.log.Stop.{Stop}
use Rattle.ca_logs.specs.declared.log.Task.{Task}
use Rattle.ca_logs.specs.declared.log.Entry.{Entry}

-- the section of the task on this object, if it is there
abbrev pub section_at : PlainProgram → List Object → Task → ℕ → Option Object → Sectioned
section_at p frozen t left None = over
section_at p frozen t left (Some o) = section p frozen t.op.receiver o t.op.op t.op.args left

-- on its receiver's object in the frozen heap, within so many steps
abbrev pub frozen_section : PlainProgram → List Object → Task → ℕ → Sectioned
frozen_section p frozen t left = section_at p frozen t left (slice_get frozen t.op.receiver)

-- it is done, lists these calls and takes so many steps
abbrev pub IsDone : Sectioned → List Invocation → ℕ → Type 0
IsDone (done m) listed steps = (m.listed ≡ listed) × (m.steps ≡ steps)
IsDone (stopped t) listed steps = ⊥
IsDone over listed steps = ⊥

pub record LegalLoose (p : PlainProgram) (x : Extent) (frozen : List Object) (e : Entry) : Type 0 where
  pub free : IsFree p x.written e.task.op.op
  pub clock : e.clock ≡ suc e.task.after
  pub ran : e.stop ≡ None → IsDone (frozen_section p frozen e.task e.steps) (invocations_of e.invoked) e.steps
  pub steps : (why : Stop) → e.stop ≡ Some why → e.steps ≡ 0
  pub invoked : (why : Stop) → e.stop ≡ Some why → e.invoked ≡ []

-- each of these is legal
pub record AllLoose (p : PlainProgram) (x : Extent) (frozen : List Object) (loose : List (List Entry)) : Type 0 where
  pub each : (e : Entry) → Contains (loose_entries loose) e → LegalLoose p x frozen e

-- no entry but the last one has a stop
abbrev pub StopsLast : List Entry → Type 0
StopsLast es = stuck_in es ≡ option_to_list (stopped_in (last_of es))
