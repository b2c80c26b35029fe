-- Where an event leaves a run: behind a print, at a call or a loop that is handed on, or at its end.
use Rattle.std.proofs.Common.{◌≡◌, ◌∙◌, ◌⊎◌, ⊎_elim, ℕ, ◌-◌, List, [], ◌∷◌, ◌++◌, length, Bool, true, false, Option, Contains, refl, ap, sym, subst}
use Rattle.std.proofs.lemmas.List.Elements.{Contains-push}
use Rattle.ca_base.specs.Devices.{grown, Began}
use Rattle.ca_program.specs.declared.program.OpId.{OpId}
use Rattle.ca_program.specs.declared.program.ValueType.{ValueType}
use Rattle.ca_program.specs.Plain.{PlainProgram, Statement}
use Rattle.ca_program.specs.Instructions.{Code}
use Rattle.ca_program.specs.View.{statement_view}
use Rattle.ca_model.specs.declared.value.Value.{Value as Datum}
use Rattle.ca_model.specs.declared.value.Object.{Object}
use Rattle.ca_model.specs.declared.value.Trap.{Trap}
use Rattle.ca_meaning.specs.Expressions.{Invocation}
use Rattle.ca_meaning.specs.ProgramTyped.{ProgramTyped}
use Rattle.ca_meaning.specs.Serial.{Note, World, in_heap, serial}
use Rattle.ca_meaning.specs.Output.{print_text, prints_text}
use Rattle.ca_parallel.specs.Accounts.{Reached, ReachedPart, at_first, by_one}
use Rattle.ca_parallel.specs.Lists.{PlainMarks, lists, note}
use Rattle.ca_parallel.specs.Marks.{SoundMarks}
use Rattle.ca_parallel.specs.Notes.{NoteGood}
use Rattle.ca_code_laws.specs.Machine.{Finished, Trapped, Spent, Comes}
use Rattle.ca_code_laws.specs.Runs.{Into, run_into, ended_as}
use Rattle.ca_steps.specs.declared.frames.Frames.{Frames}
use Rattle.ca_steps.specs.declared.running.Event.{Event}
use Rattle.ca_steps.specs.declared.running.Event.TheVariants.{Prints, Hands, Begins, Traps, Spends, Ends as Finishes}
use Rattle.ca_steps.specs.Passing.{Arrives}
use Rattle.ca_steps.specs.Stands.{state_of}
use Rattle.ca_steps.specs.Ways.{BeginsAt, HandsAt}
use Rattle.ca_serial.specs.declared.running.Outcome.TheVariants.{Done, Trapped as Stopped, Spent as Exhausted}
use Rattle.ca_serial.specs.Codes.{IsRun}
use Rattle.ca_serial.specs.Runs.{prints_of, run_with}
use Rattle.ca_serial.specs.clauses.Handing.{Chose, Leads, with_note, with_notes, due_at}
use Rattle.ca_serial.specs.clauses.Loops.{begun_notes}
use Rattle.ca_serial.proofs.Going.{Going, Ending, Same, on, prints_on, notes_on, hands_on, way_on, part_handed, print_begun, notes_handed, call_next, loop_next, spends_by, ends}
use Rattle.ca_serial.proofs.Handings.{Split, stands_in}
use Rattle.ca_serial.proofs.Hands.{leads_so}

-- at a call that is handed on, with its note
pub record AtCall {A : Type 0} (S : A → PlainProgram → List Object → List Invocation → ℕ → A → Type 0) (p : PlainProgram) (marks : PlainMarks) (code : Code) (at budget : ℕ) (a : A) (old : Option (List ℕ)) (op : OpId) (first r : ℕ) (m : Frames) (h : List Object) (b : A) (now : Option (List ℕ)) : Type 0 where
  pub next : Going S p code at budget a old m h b now
  pub due : HandsAt code m op first r
  pub split : Split (lists p marks budget) (next.world.notes ++ note h (due_at code m op first r ∷ []) m.left ∷ [])

-- at a loop that is, with what it lists
pub record AtLoop {A : Type 0} (S : A → PlainProgram → List Object → List Invocation → ℕ → A → Type 0) (p : PlainProgram) (marks : PlainMarks) (code : Code) (at budget : ℕ) (a : A) (old : Option (List ℕ)) (n line : ℕ) (loop : Statement) (tys : List ValueType) (m : Frames) (h : List Object) (b : A) (now : Option (List ℕ)) : Type 0 where
  pub next : Going S p code at budget a old m h b now
  pub begun : BeginsAt code m n line loop tys
  pub split : Split (lists p marks budget) (next.world.notes ++ begun_notes p h m tys line loop)

module _ {A : Type 0} {S : A → PlainProgram → List Object → List Invocation → ℕ → A → Type 0} {p : PlainProgram} {code : Code} {at budget : ℕ} {a : A} {old : Option (List ℕ)} {m : Frames} {h : List Object} {b : A} {now : Option (List ℕ)} (i : Going S p code at budget a old m h b now) {m2 : Frames} {h2 : List Object} where
  -- behind its way
  led : {e : Event} (r : Arrives (Same S b) p code m h e m2 h2) → Going S p code at budget a old r.frames r.heap b now
  led r = way_on i r.frames r.heap r.way

  -- a value was printed, and written
  pub at_print : {v : Datum} → Arrives (Same S b) p code m h (Prints v) m2 h2 → (now2 : Option (List ℕ)) → now2 ≡ grown now (print_text v) → Going S p code at budget a old m2 h2 b now2
  at_print {v} r now2 more = let j = led r in prints_on j m2 h2 v now2 (r.happens j.world) more

  module _ {marks : PlainMarks} (typed : ProgramTyped p) (sound : SoundMarks p marks) (laid : IsRun marks p code at) where
    -- or not whole
    pub print_part : {v : Datum} → Arrives (Same S b) p code m h (Prints v) m2 h2 → (now2 : Option (List ℕ)) → Began now now2 (print_text v) → Began old now2 (prints_text (prints_of (serial p budget)))
    print_part {v} r now2 part = let j = led r in print_begun typed sound laid j m2 h2 v now2 (r.happens j.world) part

    pub at_call : {op : OpId} {first n : ℕ} → Arrives (Same S b) p code m h (Hands op first n) m2 h2 → AtCall S p marks code at budget a old op first n m2 h2 b now
    at_call {op} {first} {n} r =
        let j = led r in
        let e = r.happens j.world in
        let next = on j m2 h2 e.0 in
        let due : HandsAt code m2 op first n = record { stands = e.1; names = e.2 } in
        record { next = next; due = due; split = call_next typed sound laid next op first n due }

    pub at_loop : {n line : ℕ} {s : _} {types : _} → Arrives (Same S b) p code m h (Begins n line s types) m2 h2 → AtLoop S p marks code at budget a old n line (statement_view s.now) types.now m2 h2 b now
    at_loop {n} {line} {s} {types} r =
        let j = led r in
        let e = r.happens j.world in
        let next = on j m2 h2 e.0 in
        let begun : BeginsAt code m2 n line (statement_view s.now) types.now = record { stands = e.1; on_line = e.2; is = e.3 } in
        record { next = next; begun = begun; split = loop_next typed sound laid next n line (statement_view s.now) types.now begun }

    pub at_trap : {t : Trap} → Arrives (Same S b) p code m h (Traps t) m2 h2 → Ending S p marks budget a b old now (Stopped t)
    at_trap {t} r =
        let j = led r in
        let x = in_heap j.world h2 in
        ends typed sound laid j (Trapped t x) x (Stopped t) (r.happens j.world) refl refl refl refl refl

    pub at_spent : Arrives (Same S b) p code m h Spends m2 h2 → Ending S p marks budget a b old now Exhausted
    at_spent r =
        let j = led r in
        let x = in_heap j.world h2 in
        ends typed sound laid j (Spent x) x Exhausted (r.happens j.world) refl refl refl refl refl

    pub at_end : Arrives (Same S b) p code m h Finishes m2 h2 → (g : List Object) (steps : ℕ) → g ≡ h2 → steps ≡ budget - m2.left → Ending S p marks budget a b old now (Done g steps)
    at_end r g steps heap taken =
        let j = led r in
        let x = in_heap j.world h2 in
        let shows : ended_as budget (Finished x m2.left) ≡ run_with j.world.prints (Done g steps) =
        ap (λ k. run_with j.world.prints (Done h2 k)) (sym taken) ∙ ap (λ (o : List Object). run_with j.world.prints (Done o steps)) (sym heap) in
        ends typed sound laid j (Finished x m2.left) x (Done g steps) (r.happens j.world) refl refl refl refl shows

-- ---- what an engine made of the call

module _ {A : Type 0} {S : A → PlainProgram → List Object → List Invocation → ℕ → A → Type 0} {p : PlainProgram} {marks : PlainMarks} {code : Code} {at budget : ℕ} {a : A} {old : Option (List ℕ)} {op : OpId} {first n : ℕ} {m : Frames} {h : List Object} {b : A} {now : Option (List ℕ)} (x : AtCall S p marks code at budget a old op first n m h b now) where
  abbrev its_note : Note
  its_note = note h (due_at code m op first n ∷ []) m.left

  -- the world behind it, with its note
  abbrev noted : World → List Object → World
  noted w g = in_heap (with_note (in_heap w h) (due_at code m op first n ∷ []) m.left) g

  pub call_good : {T : Type 0} → ((k : Note) → Contains (lists p marks budget) k → NoteGood p k × T) → NoteGood p its_note × T
  call_good good = good its_note (stands_in (lists p marks budget) x.next.world.notes (its_note ∷ []) x.split its_note (Contains-push [] its_note))

  -- it gave up, with the call or without it
  pub call_part : ProgramTyped p → SoundMarks p marks → IsRun marks p code at → (c : A) → (c ≡ b) ⊎ S b p h (due_at code m op first n ∷ []) m.left c → ReachedPart S p a (lists p marks budget) c
  call_part typed sound laid c kept =
      ⊎_elim (λ same. subst (λ d. ReachedPart S p a (lists p marks budget) d) (sym same) (part_handed typed sound laid x.next))
      (λ step. notes_handed typed sound laid x.next (its_note ∷ []) c x.split (record { done = its_note ∷ []; rest = []; whole = refl; reached = by_one its_note at_first step })) kept

  module _ {q : PlainProgram} (same : q ≡ p) (m3 : Frames) (g : List Object) (c : A) (step : S b p h (due_at code m op first n ∷ []) m.left c) where
    -- it goes on from there
    pub call_over : {goes : Bool} → goes ≡ true → ((w : World) (into : Into) → into (length w.notes) ≡ false → Leads (run_into into q) code (state_of m (in_heap w h)) goes m3 (noted w g)) → Going S p code at budget a old m3 g c now
    call_over {goes} is leads =
        hands_on x.next m3 g (due_at code m op first n ∷ []) m.left c
        (λ into out. leads_so into p q code (state_of m (in_heap x.next.world h)) goes true m3 (noted x.next.world g) same is (leads x.next.world into out)) step

    -- or a step too many is due
    pub call_spent : ProgramTyped p → SoundMarks p marks → IsRun marks p code at → {goes : Bool} → goes ≡ false → ((w : World) (into : Into) → into (length w.notes) ≡ false → Leads (run_into into q) code (state_of m (in_heap w h)) goes m3 (noted w g)) → Ending S p marks budget a c old now Exhausted
    call_spent typed sound laid {goes} is leads =
        spends_by typed sound laid x.next (due_at code m op first n ∷ []) m.left g c
        (λ into out. leads_so into p q code (state_of m (in_heap x.next.world h)) goes false m3 (noted x.next.world g) same is (leads x.next.world into out)) step

-- ---- and of the loop

module _ {A : Type 0} {S : A → PlainProgram → List Object → List Invocation → ℕ → A → Type 0} {p : PlainProgram} {marks : PlainMarks} {code : Code} {at budget : ℕ} {a : A} {old : Option (List ℕ)} {n line : ℕ} {loop : Statement} {tys : List ValueType} {m : Frames} {h : List Object} {b : A} {now : Option (List ℕ)} (x : AtLoop S p marks code at budget a old n line loop tys m h b now) where
  abbrev its_notes : List Note
  its_notes = begun_notes p h m tys line loop

  pub loop_good : {T : Type 0} → ((k : Note) → Contains (lists p marks budget) k → NoteGood p k × T) → (k : Note) → Contains its_notes k → NoteGood p k × T
  loop_good good k there = good k (stands_in (lists p marks budget) x.next.world.notes its_notes x.split k there)

  pub loop_part : ProgramTyped p → SoundMarks p marks → IsRun marks p code at → (c : A) → ReachedPart S p b its_notes c → ReachedPart S p a (lists p marks budget) c
  loop_part typed sound laid c part = notes_handed typed sound laid x.next its_notes c x.split part

  pub loop_over : (m3 : Frames) (g : List Object) (c : A) → ((k : Code) (w : World) (into : Into) → Chose into (length w.notes) false its_notes → BeginsAt k m n line loop tys → Comes (run_into into p) k (state_of m (in_heap w h)) (state_of m3 (in_heap (with_notes w its_notes) g)))
      → Reached S p b its_notes c → Going S p code at budget a old m3 g c now
  loop_over m3 g c comes reached = notes_on x.next m3 g false its_notes c (λ into chose. comes code x.next.world into chose x.begun) reached
