-- What is asked of a run with an engine, and what is told of its program, laid out with marks, and of the run.
use Rattle.std.specs.Prelude.{◌≡◌, ◌≤◌, ℕ, Bool, false, List, Option, Result, IfOk}
use Rattle.ca_base.specs.Devices.{Rose, Writes}
use Rattle.ca_program.specs.Plain.{PlainProgram}
use Rattle.ca_model.specs.declared.value.Object.{Object}
use Rattle.ca_meaning.specs.Expressions.{Invocation}
use Rattle.ca_meaning.specs.ProgramTyped.{ProgramTyped}
use Rattle.ca_meaning.specs.Serial.{serial}
use Rattle.ca_meaning.specs.Output.{prints_text}
use Rattle.ca_parallel.specs.Accounts.{HandedOn}
use Rattle.ca_parallel.specs.Lists.{PlainMarks, lists, no_marks}
use Rattle.ca_parallel.specs.Marks.{SoundMarks}
use Rattle.ca_code.specs.Codes.{code_seen}
use Rattle.ca_sections.specs.declared.loop_code.LoopPlace.{LoopPlace}
use Rattle.ca_sections.specs.Extending.{AllStand}
use Rattle.ca_steps.specs.declared.running.Laid.{Laid}
use Rattle.ca_selection.specs.Ops.{Runs}
use Rattle.ca_serial.specs.declared.running.Outcome.{Outcome}
use Rattle.ca_serial.specs.declared.running.RunError.{RunError}
use Rattle.ca_serial.specs.Codes.{IsRun}
use Rattle.ca_serial.specs.Runs.{run_with, prints_of, OnWrite}

-- What the engine rests on holds, the program is typed, the marks are sound, and there are none where the engine doesn't serve.
pub record MayDrive (Ready : Type 0) (serves : Bool) (p : PlainProgram) (marks : PlainMarks) : Type 0 where
  pub ready : Ready
  pub program : ProgramTyped p
  pub sound : SoundMarks p marks
  pub served : serves ≡ false → marks ≡ no_marks

-- The code is that of the program with its marks, what is run of it does what its rows do, and each loop that is handed on stands once
-- more at one of these places.
pub record IsMade (marks : PlainMarks) (p : PlainProgram) (laid : Laid) (places : List LoopPlace) : Type 0 where
  pub run : IsRun marks p (code_seen laid.code) laid.code.main
  pub ops : Runs (code_seen laid.code) laid.code.rows.items laid.ops.items
  pub loops : AllStand p (code_seen laid.code) places

-- A run within a budget, with what an engine's account was and is, what was written before and now, and how many faults came: what
-- `drive` tells of it, clause by clause.
pub record Drives {A : Type 0} (Step : A → PlainProgram → List Object → List Invocation → ℕ → A → Type 0) (p : PlainProgram) (marks : PlainMarks) (budget : ℕ) (result : Result Outcome RunError) (before after : A) (old now : Option (List ℕ)) (faults risen : ℕ) : Type 0 where
  pub outcome : IfOk result (λ outcome. serial p budget ≡ run_with (prints_of (serial p budget)) outcome)
  pub prints : Writes old now result (prints_text (prints_of (serial p budget)))
  pub write : OnWrite result (Rose faults risen)
  pub later : faults ≤ risen
  pub account : HandedOn Step p before after result (lists p marks budget)
