-- A code whose `main` does what the run with marks does, from each budget on, however its bodies are laid out, and whatever of what is
-- handed on is gone into.
use Rattle.std.specs.Prelude.{ℕ}
use Rattle.ca_program.specs.Plain.{PlainProgram}
use Rattle.ca_program.specs.Instructions.{Code}
use Rattle.ca_parallel.specs.Lists.{PlainMarks, noted_run}
use Rattle.ca_code_laws.specs.Machine.{Ends}
use Rattle.ca_code_laws.specs.Runs.{Into, run_into, beginning, outcome_of}

-- `main` begins at the place
abbrev pub EndsNoted : PlainProgram → PlainMarks → Code → ℕ → Type 0
EndsNoted p marks code at = (into : Into) (k : ℕ) → Ends (run_into into p) code (beginning at k) (outcome_of (noted_run p marks k))
