-- What a run with marks hands off, as statements.
use Rattle.std.specs.Prelude.{◌≡◌, ℕ, [], Contains}
use Rattle.ca_program.specs.Plain.{PlainProgram}
use Rattle.ca_meaning.specs.Flows.{Flow, goes_on, gives_back, stops, runs_out}
use Rattle.ca_meaning.specs.Serial.{Note, World, main_run}
use Rattle.ca_meaning.specs.ProgramTyped.{ProgramTyped}
use Rattle.ca_parallel.specs.Lists.{PlainMarks, noted_run, lists}
use Rattle.ca_parallel.specs.Marks.{SoundMarks}
use Rattle.ca_parallel.specs.Notes.{NoteGood}

-- Each note that a run of a typed program with sound marks takes is one that an engine can be handed.
abbrev pub ListsAreGood : Type 0
ListsAreGood = (p : PlainProgram) → ProgramTyped p → (marks : PlainMarks) → SoundMarks p marks → (budget : ℕ) → (n : Note) → Contains (lists p marks budget) n → NoteGood p n

-- the run without its notes
abbrev pub without_notes : Flow World → Flow World
without_notes (goes_on ls w k) = goes_on ls (record { heap = w.heap; prints = w.prints; notes = [] }) k
without_notes (gives_back v w k) = gives_back v (record { heap = w.heap; prints = w.prints; notes = [] }) k
without_notes (stops t w) = stops t (record { heap = w.heap; prints = w.prints; notes = [] })
without_notes (runs_out w) = runs_out (record { heap = w.heap; prints = w.prints; notes = [] })

-- But for its notes a run with marks is the serial run, with its heap, its prints, its locals and its steps.
abbrev pub NotesAside : Type 0
NotesAside = (p : PlainProgram) (marks : PlainMarks) (budget : ℕ) → without_notes (noted_run p marks budget) ≡ main_run p budget
