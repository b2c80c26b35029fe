-- A loop that begins where the machine stands: its locals, its section, what is handed on, and where the machine goes.
use Rattle.std.specs.Prelude.{ℕ, ◌-◌, false, List, [], ◌∷◌, length, map, Result, IfOk}
use Rattle.ca_program.specs.declared.program.ValueType.{ValueType}
use Rattle.ca_program.specs.Plain.{PlainProgram, Statement}
use Rattle.ca_program.specs.Kinds.{kind_type}
use Rattle.ca_program.specs.Instructions.{Code}
use Rattle.ca_code.specs.Codes.{code_seen}
use Rattle.ca_model.specs.declared.value.Value.{Value as Datum}
use Rattle.ca_model.specs.declared.value.Object.{Object}
use Rattle.ca_meaning.specs.Expressions.{Invocation}
use Rattle.ca_meaning.specs.Sections.{LoopSectioned, loop_done, loop_stopped, loop_over, loop_section}
use Rattle.ca_meaning.specs.Serial.{Note, World, in_heap}
use Rattle.ca_parallel.specs.Accounts.{HandedOn}
use Rattle.ca_parallel.specs.Lists.{note, either}
use Rattle.ca_note_laws.specs.Listing.{puts_nothing}
use Rattle.ca_sections.specs.declared.loop_code.LoopPlace.{LoopPlace}
use Rattle.ca_sections.specs.Extending.{AllStand}
use Rattle.ca_code_laws.specs.Machine.{row, Comes}
use Rattle.ca_code_laws.specs.Runs.{Into, run_into}
use Rattle.ca_code_laws.specs.Told.{IsLaidOut}
use Rattle.ca_steps.specs.declared.frames.Frames.{Frames}
use Rattle.ca_steps.specs.declared.running.Laid.{Laid}
use Rattle.ca_selection.specs.Ops.{Runs}
use Rattle.ca_steps.specs.Stands.{state_of}
use Rattle.ca_steps.specs.Ways.{BeginsAt}
use Rattle.ca_serial.specs.clauses.Handing.{Chose, with_notes}

-- The program is laid out in a code that is run, and so is each loop that is handed on, once more on its own.
pub record HasLoops (p : PlainProgram) (on : Laid) (places : List LoopPlace) : Type 0 where
  pub laid : IsLaidOut p (code_seen on.code)
  pub runs : Runs (code_seen on.code) on.code.rows.items on.ops.items
  pub alone : AllStand p (code_seen on.code) places

abbrev pub locals_at : Frames → List ValueType → List Datum
locals_at m tys = row (state_of m (tt {0})).slots m.base (map kind_type tys)

abbrev pub section_at : PlainProgram → List Object → Frames → List ValueType → ℕ → Statement → LoopSectioned
section_at p h m tys line loop = loop_section p h m.this (locals_at m tys) line loop m.left

-- what a section in a heap lists within so many steps, if it is done
abbrev pub notes_of : List Object → ℕ → LoopSectioned → List Note
notes_of h k (loop_done o) = note h o.listed (k - o.steps) ∷ []
notes_of h k (loop_stopped t) = []
notes_of h k loop_over = []

-- what the loop hands on, if it puts nothing into fields
abbrev pub begun_notes : PlainProgram → List Object → Frames → List ValueType → ℕ → Statement → List Note
begun_notes p h m tys line loop = either (puts_nothing loop) (notes_of h m.left (section_at p h m tys line loop)) []

-- With these notes it goes past the loop, or into it, whatever world there is; and an engine was handed them, or before an error a
-- beginning of them.
pub record GoesPast {A T E : Type 0} (Step : A → PlainProgram → List Object → List Invocation → ℕ → A → Type 0) (p : PlainProgram) (ns : List Note) (m : Frames) (h : List Object) (n line : ℕ) (loop : Statement) (tys : List ValueType) (result : Result T E) (before after : A) (now : Frames) (g : List Object) : Type 0 where
  pub means : IfOk result (λ _. (c : Code) (w : World) (into : Into) → Chose into (length w.notes) false ns → BeginsAt c m n line loop tys → Comes (run_into into p) c (state_of m (in_heap w h)) (state_of now (in_heap (with_notes w ns) g)))
  pub account : HandedOn Step p before after result ns
