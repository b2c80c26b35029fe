-- The whole run, from where the machine stands: what was printed and noted stands at its front, and an end is its end.
use Rattle.std.proofs.Common.{◌≡◌, ℕ, List, [], ◌∷◌, ◌++◌, Option, refl, ap, sym, ◌∙◌, append-nil}
use Rattle.ca_base.specs.Devices.{grown, Began}
use Rattle.ca_base.proofs.Writing.{began_after, began_more, began_whole}
use Rattle.ca_program.specs.Plain.{PlainProgram}
use Rattle.ca_program.specs.Instructions.{Code}
use Rattle.ca_model.specs.declared.value.Value.{Value as Datum}
use Rattle.ca_meaning.specs.Flows.{Flow, goes_on, gives_back, stops, runs_out}
use Rattle.ca_meaning.specs.ProgramTyped.{ProgramTyped}
use Rattle.ca_meaning.specs.Serial.{World, printed, serial}
use Rattle.ca_meaning.specs.Output.{print_text, prints_text}
use Rattle.ca_parallel.specs.Lists.{PlainMarks, noted_run, lists, world_after}
use Rattle.ca_parallel.specs.Marks.{SoundMarks}
use Rattle.ca_parallel.proofs.Noted.{notes_change_nothing}
use Rattle.ca_code_laws.specs.Machine.{State, Outcome, Finished, Trapped, Spent, Comes, Ends}
use Rattle.ca_code_laws.specs.Runs.{Into, run_into, beginning, outcome_of, ended_as}
use Rattle.ca_code_laws.specs.Told.{Front}
use Rattle.ca_code_laws.proofs.Grown.{stands_in_front, ends_noted, ends_serially}
use Rattle.ca_serial.specs.Runs.{prints_of}
use Rattle.ca_serial.proofs.Endings.{texts_append, ended_prints}
use Rattle.ca_serial.proofs.Handings.{Split}
use Rattle.ca_serial.specs.Codes.{IsRun}

-- the notes of an end
abbrev pub world_in : Outcome World → World → World
world_in (Finished w k) x = w
world_in (Trapped t w) x = w
world_in (Spent w) x = w
world_in other x = x

after_is : (x : World) (flow : Flow World) → world_in (outcome_of flow) x ≡ world_after flow
after_is x (goes_on ls w k) = refl
after_is x (gives_back v w k) = refl
after_is x (stops t w) = refl
after_is x (runs_out w) = refl

module _ (p : PlainProgram) (typed : ProgramTyped p) (marks : PlainMarks) (sound : SoundMarks p marks) (code : Code) (at budget : ℕ) (laid : IsRun marks p code at) (into : Into) where
  front : (s : State World) → Comes (run_into into p) code (beginning at budget) s → Front s.world (world_after (noted_run p marks budget))
  front s comes = stands_in_front p marks code at budget laid.ends into s comes

  -- ---- what is printed

  prints_are : (s : State World) (comes : Comes (run_into into p) code (beginning at budget) s) → prints_of (serial p budget) ≡ s.world.prints ++ (front s comes).prints
  prints_are s comes = sym (ap prints_of (notes_change_nothing p marks budget)) ∙ (ended_prints budget (noted_run p marks budget) ∙ (front s comes).printed)

  -- a beginning of it was written
  pub began_here : (s : State World) → Comes (run_into into p) code (beginning at budget) s → (old now : Option (List ℕ)) → now ≡ grown old (prints_text s.world.prints) → Began old now (prints_text (prints_of (serial p budget)))
  began_here s comes old now told =
      let more = (front s comes).prints in
      rw (prints_are s comes, texts_append s.world.prints more) (began_whole old now (prints_text s.world.prints) (prints_text more) told)

  -- and a value behind it not whole
  pub began_print : (s : State World) (w : World) (v : Datum) → s.world ≡ printed w v → Comes (run_into into p) code (beginning at budget) s → (old mid now : Option (List ℕ)) → mid ≡ grown old (prints_text w.prints) → Began mid now (print_text v) → Began old now (prints_text (prints_of (serial p budget)))
  began_print s w v is comes old mid now told part =
      let more = (front s comes).prints in
      let whole : prints_of (serial p budget) ≡ (w.prints ++ v ∷ []) ++ more = prints_are s comes ∙ ap (λ (x : World). x.prints ++ more) is in
      let text : prints_text (v ∷ []) ≡ print_text v = append-nil (print_text v) in
      rw (whole, texts_append (w.prints ++ v ∷ []) more, texts_append w.prints (v ∷ []), text)
      (began_more old now (prints_text w.prints ++ print_text v) (prints_text more) (began_after old mid now (prints_text w.prints) (print_text v) told part))

  -- ---- what is noted

  pub notes_here : (s : State World) → Comes (run_into into p) code (beginning at budget) s → Split (lists p marks budget) s.world.notes
  notes_here s comes = let f = front s comes in record { rest = f.notes; whole = f.noted }

  -- ---- how it ends

  pub ends_so : (s : State World) (o : Outcome World) → Comes (run_into into p) code (beginning at budget) s → Ends (run_into into p) code s o → serial p budget ≡ ended_as budget o
  ends_so s o comes ends = ends_serially p marks code at budget laid.ends into s o comes ends

  -- with all notes
  pub notes_whole : (s : State World) (o : Outcome World) (w : World) → world_in o s.world ≡ w → Comes (run_into into p) code (beginning at budget) s → Ends (run_into into p) code s o → w.notes ≡ lists p marks budget
  notes_whole s o w is comes ends =
      ap (λ (w : World). w.notes) (sym is ∙ (ap (λ o. world_in o s.world) (ends_noted p marks code at budget laid.ends into s o comes ends) ∙ after_is s.world (noted_run p marks budget)))
