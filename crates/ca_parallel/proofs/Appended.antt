-- Prints are only added behind those that are there, so a run of operations does the same behind any prints.
use Rattle.std.proofs.Common.{◌≡◌, ℕ, List, [], ◌∷◌, ◌++◌, refl, sym, ◌∙◌}
use Rattle.std.proofs.lemmas.List.{append_assoc}
use Rattle.ca_program.specs.Plain.{PlainProgram}
use Rattle.ca_model.specs.declared.value.Value.{Value as Datum}
use Rattle.ca_meaning.specs.Expressions.{Invocation}
use Rattle.ca_meaning.specs.Flows.{Flow, goes_on, gives_back, stops, runs_out}
use Rattle.ca_meaning.specs.Serial.{World, serial_ops}
use Rattle.ca_parallel.specs.Calls.{behind_prints, run_behind_prints}
use Rattle.ca_parallel.proofs.Moved.{Prints, Notes, moved, serial_ops_moved}

abbrev in_front : List Datum → Prints
in_front ps qs = ps ++ qs

abbrev as_they_are : Notes
as_they_are ns = ns

run_moved : (ps : List Datum) (x : Flow World) → moved (in_front ps) as_they_are x ≡ run_behind_prints ps x
run_moved ps (goes_on ls w k) = refl
run_moved ps (gives_back v w k) = refl
run_moved ps (stops t w) = refl
run_moved ps (runs_out w) = refl

pub prints_appended : (p : PlainProgram) (ps : List Datum) (is : List Invocation) (w : World) (k : ℕ) → serial_ops p is (behind_prints ps w) k ≡ run_behind_prints ps (serial_ops p is w k)
prints_appended p ps is w k =
    sym (serial_ops_moved (in_front ps) as_they_are (λ qs v. sym (append_assoc ps qs (v ∷ []))) p is w k) ∙ run_moved ps (serial_ops p is w k)
