-- What an engine answers, as the machine asks for it: operations whose run is done stand behind their note, and those whose run
-- isn't done run here.
use Rattle.std.proofs.Common.{◌≡◌, ◌≤◌, ℕ, ◌-◌, List, [], ◌∷◌, ◌++◌, map, refl, ap, sym, ◌∙◌, arith, append-nil, append_assoc}
use Rattle.ca_program.specs.Plain.{PlainProgram}
use Rattle.ca_model.specs.declared.value.Value.{Value as Datum}
use Rattle.ca_model.specs.declared.value.Object.{Object}
use Rattle.ca_meaning.specs.Expressions.{Invocation}
use Rattle.ca_meaning.specs.Flows.{Flow, goes_on, gives_back, stops, runs_out}
use Rattle.ca_meaning.specs.Serial.{Note, World, fresh, in_heap, serial_ops}
use Rattle.ca_meaning.proofs.Near.{left_of_flow}
use Rattle.ca_parallel.specs.Calls.{RunsTo, invocations_of, operation_of}
use Rattle.ca_parallel.specs.declared.op.Op.{Op}
use Rattle.ca_parallel.specs.Lists.{note, world_after}
use Rattle.ca_parallel.specs.Notes.{op_of}
use Rattle.ca_parallel.specs.Parallel.{ParallelFrom}
use Rattle.ca_parallel.proofs.Moved.{moved, serial_ops_moved}
use Rattle.ca_note_laws.proofs.Listing.{list_self}
use Rattle.ca_code_laws.specs.Machine.{behind, plainly}
use Rattle.ca_code_laws.specs.Runs.{behind_or}
use Rattle.ca_serial.specs.Extents.{IsNotDone}
use Rattle.ca_serial.proofs.Quiet.{run_is}
use Rattle.ca_serial.specs.clauses.Handing.{with_note, given}
use Rattle.ca_order_laws.proofs.Runs.{list_locals}

pub ops_are : (os : List Op) → map op_of (invocations_of os) ≡ map operation_of os
ops_are [] = refl
ops_are (o ∷ os) = ap (λ l. o.op ∷ l) (ops_are os)

bare_notes : (p : PlainProgram) (is : List Invocation) (h : List Object) (k : ℕ) (ls : List Datum) (v : World) (j : ℕ) → serial_ops p is (fresh h) k ≡ goes_on ls v j → v.notes ≡ []
bare_notes p is h k ls v j e = sym (ap (λ o. (world_after o).notes) (ap (λ o. moved (λ ps. ps) (λ ns. []) o) (sym e) ∙ serial_ops_moved (λ ps. ps) (λ ns. []) (λ ps v. refl) p is (fresh h) k ∙ e))

runs_to : (p : PlainProgram) (is : List Invocation) (h : List Object) (k : ℕ) (ls : List Datum) (v : World) (j : ℕ) → serial_ops p is (fresh h) k ≡ goes_on ls v j → RunsTo p h is k v.heap (k - j)
runs_to p is h k ls v j e =
    let le : j ≤ k = left_of_flow (list_self p is (fresh h) k) e in
    record {
      prints = v.prints;
      left = j;
      run = e ∙ ap (λ xs. goes_on xs v j) (list_locals p is (fresh h) k ls v j e) ∙ ap (λ ns. goes_on [] (record { heap = v.heap; prints = v.prints; notes = ns }) j) (bare_notes p is h k ls v j e);
      taken = omega (arith, le);
    }

module _ (p : PlainProgram) (is : List Invocation) (h : List Object) (k : ℕ) (w : World) where
  -- the world that it is noted in
  abbrev here : World
  here = with_note (in_heap w h) is k

  abbrev before : List Datum → List Datum
  before qs = w.prints ++ qs

  abbrev noted_before : List Note → List Note
  noted_before ms = (w.notes ++ note h is k ∷ []) ++ ms

  -- what was printed and noted before changes nothing
  moved_here : moved before noted_before (serial_ops p is (fresh h) k) ≡ serial_ops p is here k
  moved_here =
      serial_ops_moved before noted_before (λ qs v. sym (append_assoc w.prints qs (v ∷ []))) p is (fresh h) k
      ∙ (ap (λ (ps : List Datum). serial_ops p is (record { heap = h; prints = ps; notes = (w.notes ++ note h is k ∷ []) ++ [] }) k) (append-nil w.prints)
      ∙ ap (λ (ns : List Note). serial_ops p is (record { heap = h; prints = w.prints; notes = ns }) k) (append-nil (w.notes ++ note h is k ∷ [])))

  pub given_done : ParallelFrom p (map op_of is) → (after : List Object) (steps left : ℕ) → RunsTo p h is k after steps → left ≡ k - steps → (ls : List Datum) → given p (in_heap w h) is k ls ≡ behind ls (in_heap here after) left
  given_done parallel after steps left run is_left ls =
      let taken = run.taken in
      let j : run.left ≡ left = omega (arith, is_left, taken) in
      let there : World = record { heap = after; prints = w.prints ++ []; notes = (w.notes ++ note h is k ∷ []) ++ [] } in
      let whole : serial_ops p is here k ≡ goes_on [] there run.left = sym moved_here ∙ ap (moved before noted_before) (run_is p is parallel h after k steps run) in
      let same : there ≡ in_heap here after =
      ap (λ (ps : List Datum). record { heap = after; prints = ps; notes = (w.notes ++ note h is k ∷ []) ++ [] }) (append-nil w.prints)
      ∙ ap (λ (ns : List Note). record { heap = after; prints = w.prints; notes = ns }) (append-nil (w.notes ++ note h is k ∷ [])) in
      ap (behind_or ls here) whole ∙ (ap (λ v. behind ls v run.left) same ∙ ap (behind ls (in_heap here after)) j)

  pub given_alone : IsNotDone p h is k → (ls : List Datum) → given p (in_heap w h) is k ls ≡ plainly here
  given_alone not ls = from (serial_ops p is (fresh h) k) refl
    where
      by : (g : Flow World) → serial_ops p is (fresh h) k ≡ g → serial_ops p is here k ≡ moved before noted_before g
      by g e = sym moved_here ∙ ap (moved before noted_before) e

      from : (g : Flow World) → serial_ops p is (fresh h) k ≡ g → given p (in_heap w h) is k ls ≡ plainly here
      from (goes_on xs v j) e = absurd (not v.heap (k - j) (runs_to p is h k xs v j e))
      from (gives_back x v j) e = ap (behind_or ls here) (by (gives_back x v j) e)
      from (stops t v) e = ap (behind_or ls here) (by (stops t v) e)
      from (runs_out v) e = ap (behind_or ls here) (by (runs_out v) e)
