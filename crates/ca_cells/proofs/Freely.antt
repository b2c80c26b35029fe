-- What a task of a free operation adds, by its answer.
use Rattle.std.proofs.Common.{◌≡◌, ℕ, zero, suc, ◌+◌, Bool, true, false, List, [], ◌∷◌, ◌++◌, All, map, Option, Some, None, Result, IfOk, sym, refl, ap, ◌∙◌, subst, arith}
use Rattle.std.specs.Prelude.{slice_get}
use Rattle.std.proofs.lemmas.List.Elements.{All-append}
use Rattle.ca_lists.proofs.Places.{item_there}
use Rattle.ca_program.specs.Plain.{PlainProgram}
use Rattle.ca_model.specs.declared.value.Object.{Object}
use Rattle.ca_model.specs.declared.value.Trap.{Trap}
use Rattle.ca_model.specs.Typed.{IsOfClass, ObjectTyped, TypedHeap}
use Rattle.ca_meaning.specs.Expressions.{Invocation, slots_in}
use Rattle.ca_meaning.specs.ProgramTyped.{ProgramTyped}
use Rattle.ca_meaning.specs.Sections.{Sectioned, done, stopped, over, section, Outcome}
use Rattle.ca_meaning.specs.WellTyped.{WellTyped, AllWellTyped}
use Rattle.ca_meaning_laws.proofs.Heaps.{object_typed}
use Rattle.ca_parallel.specs.declared.op.Op.{Op}
use Rattle.ca_parallel.specs.Bodies.{targets_of_all}
use Rattle.ca_parallel.specs.Calls.{invocations_of}
use Rattle.ca_parallel.specs.Extents.{Extent, operation_body}
use Rattle.ca_parallel.specs.Free.{IsFree}
use Rattle.ca_order_laws.specs.Order.{AllInside}
use Rattle.ca_order_laws.proofs.Sections.{leaves_by, at_all}
use Rattle.ca_logs.specs.declared.log.Task.{Task}
use Rattle.ca_logs.specs.declared.log.Stop.{Stop}
use Rattle.ca_logs.specs.declared.log.Stop.TheVariants.{Trapped, Spent}
use Rattle.ca_logs.specs.declared.log.Entry.{Entry}
use Rattle.ca_logs.specs.declared.log.CellLog.{CellLog}
use Rattle.ca_logs.specs.Entries.{call_of, task_after, task_calls, remembered}
use Rattle.ca_logs.specs.Legal.{RanOn, TypedAt, LegalCell, none, all_ran}
use Rattle.ca_logs.specs.Laws.{Grown}
use Rattle.ca_logs.specs.Loose.{section_at, frozen_section, IsDone, LegalLoose}
use Rattle.ca_logs.proofs.Growing.{histories_grow}
use Rattle.ca_sections.specs.Answers.{FrozenIs}
use Rattle.ca_sections.specs.declared.operations.SectionAnswer.{SectionAnswer}
use Rattle.ca_sections.specs.declared.operations.SectionAnswer.TheVariants as answer
use Rattle.ca_cells.specs.Adds.{IsRan}
use Rattle.ca_cells.specs.Free.{AddsFree, AddsFreeBy, is_closed_free, free_ran, free_stuck, free_made, RanFree, StuckFree, KeptFree}
use Rattle.ca_cells.specs.Histories.{next_clock, ran_entry, stuck_entry, op_of}
use Rattle.ca_cells.specs.Rounds.{IsRound, MayRun, program_of, frozen_of}
use Rattle.ca_cells.specs.Seats.{IsStop}
use Rattle.ca_cells.specs.declared.adding.Added.{Added}
use Rattle.ca_cells.specs.declared.adding.Added.TheVariants.{Stuck, Kept}
use Rattle.ca_cells.specs.declared.rule.Given.{Given}
use Rattle.ca_cells.proofs.Applies.{Making, all_may_run, receiver_in, NotStuck, ran_not_stuck, same_stop, NotKept, ran_not_kept}
use Rattle.ca_cells.proofs.Courses.{on_ok}
use Rattle.ca_cells.proofs.Histories.{same_ops, same_calls, same_ran}

-- the receiver's object is there
found_at : (p : PlainProgram) (h : List Object) (t : Task) → WellTyped p h (call_of t) → (o : Object) × (slice_get h t.op.receiver ≡ Some o)
found_at p h t typed = item_there h t.op.receiver (receiver_in p h (call_of t) typed)

-- ---- by its definition

module _ (p : PlainProgram) (frozen : List Object) (t : Task) (left : ℕ) (old new : List Entry) (made : Added) (a : SectionAnswer) (start listed : List Op)
    (typed : WellTyped p frozen (call_of t)) (nothing : targets_of_all (operation_body p t.op.op) ≡ []) (open_one : is_closed_free old t.after ≡ false) (empty : start ≡ [])
    (told : targets_of_all (operation_body p t.op.op) ≡ [] → (o : Object) → slice_get frozen t.op.receiver ≡ Some o → FrozenIs a (section p frozen t.op.receiver o t.op.op t.op.args left) start listed) where
  abbrev object : Object
  object = (found_at p frozen t typed).0

  -- what the call told of the section
  ended : (b : SectionAnswer) → a ≡ b → FrozenIs b (section p frozen t.op.receiver object t.op.op t.op.args left) [] listed
  ended b e =
      subst (λ (x : SectionAnswer). FrozenIs x (section p frozen t.op.receiver object t.op.op t.op.args left) [] listed) e
      (subst (λ (os : List Op). FrozenIs a (section p frozen t.op.receiver object t.op.op t.op.args left) os listed) empty (told nothing object (found_at p frozen t typed).1))

  so_added : AddsFreeBy false (section p frozen t.op.receiver object t.op.op t.op.args left) t old new made → AddsFree p frozen t left old new made
  so_added h = subst (λ (b : Bool). AddsFreeBy b (frozen_section p frozen t left) t old new made) (sym open_one)
      (subst (λ (q : Option Object). AddsFreeBy false (section_at p frozen t left q) t old new made) (sym (found_at p frozen t typed).1) h)

  pub done_free : (clock steps : ℕ) → clock ≡ suc t.after → a ≡ answer.Done steps → new ≡ old ++ ran_entry t clock steps listed ∷ [] → IsRan made (map (task_after clock) listed) steps → AddsFree p frozen t left old new made
  done_free clock steps c e added ran = so_added (from (section p frozen t.op.receiver object t.op.op t.op.args left) (ended (answer.Done steps) e))
    where
      from : (s : Sectioned) → FrozenIs (answer.Done steps) s [] listed → AddsFreeBy false s t old new made
      from (done m) f = let these : listed ≡ map op_of m.listed = sym (same_ops listed) ∙ ap (map op_of) f.1 in (
        added ∙ (ap (λ (k : ℕ). old ++ ran_entry t k steps listed ∷ []) c ∙ (ap (λ (k : ℕ). old ++ ran_entry t (suc t.after) k listed ∷ []) f.0 ∙ ap (λ (os : List Op). old ++ ran_entry t (suc t.after) m.steps os ∷ []) these)),
        subst (λ (os : List Op). IsRan made (map (task_after (suc t.after)) os) m.steps) these
            (subst (λ (k : ℕ). IsRan made (map (task_after (suc t.after)) listed) k) f.0 (subst (λ (k : ℕ). IsRan made (map (task_after k) listed) steps) c ran)),
      )
      from (stopped u) f = absurd f
      from over f = absurd f

  pub trapped_free : (clock : ℕ) (u : Trap) → clock ≡ suc t.after → a ≡ answer.Trapped u → new ≡ old ++ stuck_entry t clock (Trapped u) ∷ [] → made ≡ Stuck (Trapped u) → AddsFree p frozen t left old new made
  trapped_free clock u c e added is = so_added (from (section p frozen t.op.receiver object t.op.op t.op.args left) (ended (answer.Trapped u) e))
    where
      from : (s : Sectioned) → FrozenIs (answer.Trapped u) s [] listed → AddsFreeBy false s t old new made
      from (stopped w) f = (
        is ∙ ap (λ (z : Trap). Stuck (Trapped z)) f.0,
        added ∙ (ap (λ (k : ℕ). old ++ stuck_entry t k (Trapped u) ∷ []) c ∙ ap (λ (z : Trap). old ++ stuck_entry t (suc t.after) (Trapped z) ∷ []) f.0),
      )
      from (done m) f = absurd f
      from over f = absurd f

  pub spent_free : (clock : ℕ) → clock ≡ suc t.after → a ≡ answer.Spent → new ≡ old ++ stuck_entry t clock Spent ∷ [] → made ≡ Stuck Spent → AddsFree p frozen t left old new made
  spent_free clock c e added is = so_added (from (section p frozen t.op.receiver object t.op.op t.op.args left) (ended answer.Spent e))
    where
      from : (s : Sectioned) → FrozenIs answer.Spent s [] listed → AddsFreeBy false s t old new made
      from over f = (is, added ∙ ap (λ (k : ℕ). old ++ stuck_entry t k Spent ∷ []) c)
      from (done m) f = absurd f
      from (stopped w) f = absurd f

module _ {E : Type 0} (r : Result Added E) (p : PlainProgram) (frozen : List Object) (t : Task) (left : ℕ) (old new : List Entry) (a : SectionAnswer) (start listed : List Op)
    (typed : WellTyped p frozen (call_of t)) (nothing : targets_of_all (operation_body p t.op.op) ≡ []) (open_one : is_closed_free old t.after ≡ false) (empty : start ≡ [])
    (told : targets_of_all (operation_body p t.op.op) ≡ [] → (o : Object) → slice_get frozen t.op.receiver ≡ Some o → FrozenIs a (section p frozen t.op.receiver o t.op.op t.op.args left) start listed) where
  pub trapped_exit : (clock : ℕ) (u : Trap) → clock ≡ suc t.after → a ≡ answer.Trapped u → IfOk r (λ made. (made ≡ Stuck (Trapped u)) × (new ≡ old ++ stuck_entry t clock (Trapped u) ∷ [])) → IfOk r (λ made. AddsFree p frozen t left old new made)
  trapped_exit clock u c e h = on_ok r (λ made. (made ≡ Stuck (Trapped u)) × (new ≡ old ++ stuck_entry t clock (Trapped u) ∷ [])) (λ made. AddsFree p frozen t left old new made) h
      (λ made g. trapped_free p frozen t left old new made a start listed typed nothing open_one empty told clock u c e g.1 g.0)

  pub spent_exit : (clock : ℕ) → clock ≡ suc t.after → a ≡ answer.Spent → IfOk r (λ made. (made ≡ Stuck Spent) × (new ≡ old ++ stuck_entry t clock Spent ∷ [])) → IfOk r (λ made. AddsFree p frozen t left old new made)
  spent_exit clock c e h = on_ok r (λ made. (made ≡ Stuck Spent) × (new ≡ old ++ stuck_entry t clock Spent ∷ [])) (λ made. AddsFree p frozen t left old new made) h
      (λ made g. spent_free p frozen t left old new made a start listed typed nothing open_one empty told clock c e g.1 g.0)

-- ---- loose entries stay legal

only_entry : (P : Entry → Type 0) (e : Entry) → P e → All P (e ∷ [])
only_entry P e h zero d l = h
only_entry P e h (suc k) d l = absurd (omega arith)

module _ (p : PlainProgram) (x : Extent) (frozen : List Object) (t : Task) (free : IsFree p x.written t.op.op) where
  stuck_legal : (why : Stop) → LegalLoose p x frozen (free_stuck t why)
  stuck_legal why = record { free = free; clock = refl; ran = λ e. absurd (never why e); steps = λ w e. refl; invoked = λ w e. refl }
    where
      never : (w : Stop) → Some w ≡ None → ⊥
      never w e = cc

  done_legal : (left : ℕ) (o : Object) (m : Outcome) → slice_get frozen t.op.receiver ≡ Some o → section p frozen t.op.receiver o t.op.op t.op.args left ≡ done m → LegalLoose p x frozen (free_ran t m)
  done_legal left o m at s =
      let within : section p frozen t.op.receiver o t.op.op t.op.args m.steps ≡ done m =
      subst (λ (k : ℕ). section p frozen t.op.receiver o t.op.op t.op.args k ≡ done m) (let z : m.steps + 0 ≡ m.steps = omega arith in z) (at_all p frozen (call_of t) o m (leaves_by p frozen (call_of t) o m (left, s)) 0) in record {
        free = free;
        clock = refl;
        ran = λ e. subst (λ (q : Option Object). IsDone (section_at p frozen t m.steps q) (invocations_of (map op_of m.listed)) m.steps) (sym at)
            (subst (λ (z : Sectioned). IsDone z (invocations_of (map op_of m.listed)) m.steps) (sym within) (sym (same_calls m.listed), refl));
        steps = λ w q. absurd (never w q);
        invoked = λ w q. absurd (never w q);
      }
    where
      never : (w : Stop) → None ≡ Some w → ⊥
      never w q = cc

  pub stay_legal : (left : ℕ) (old new : List Entry) (made : Added) → AddsFree p frozen t left old new made → All (LegalLoose p x frozen) old → All (LegalLoose p x frozen) new
  stay_legal left old new made a h = from (is_closed_free old t.after) (slice_get frozen t.op.receiver) refl a
    where
      more : (e : Entry) → new ≡ old ++ e ∷ [] → LegalLoose p x frozen e → All (LegalLoose p x frozen) new
      more e is l = subst (All (LegalLoose p x frozen)) (sym is) (All-append (LegalLoose p x frozen) old (e ∷ []) h (only_entry (LegalLoose p x frozen) e l))

      on : (o : Object) → slice_get frozen t.op.receiver ≡ Some o → (s : Sectioned) → section p frozen t.op.receiver o t.op.op t.op.args left ≡ s → AddsFreeBy false s t old new made → All (LegalLoose p x frozen) new
      on o at (done m) s b = more (free_ran t m) b.0 (done_legal left o m at s)
      on o at (stopped u) s b = more (free_stuck t (Trapped u)) b.1 (stuck_legal (Trapped u))
      on o at over s b = more (free_stuck t Spent) b.1 (stuck_legal Spent)

      from : (closed : Bool) (q : Option Object) → slice_get frozen t.op.receiver ≡ q → AddsFreeBy closed (section_at p frozen t left q) t old new made → All (LegalLoose p x frozen) new
      from true q at b = subst (All (LegalLoose p x frozen)) (sym b.1) h
      from false None at b = more (free_stuck t Spent) b.1 (stuck_legal Spent)
      from false (Some o) at b = on o at (section p frozen t.op.receiver o t.op.op t.op.args left) refl b

-- ---- what is listed may run

-- an object of a typed heap is typed at its place
typed_there : (p : PlainProgram) (h : List Object) (n : ℕ) (o : Object) → TypedHeap p h → slice_get h n ≡ Some o → TypedAt p h n o
typed_there p h n o typed e = let here : IsOfClass (slice_get h n) o.class = subst (λ z. IsOfClass z o.class) (sym e) refl in
    let slots : ObjectTyped h (slice_get p.classes o.class.0) o.slots = subst (λ z. ObjectTyped h (slice_get p.classes o.class.0) (slots_in z)) e (object_typed p h h n o.class typed here) in
    record { class = here; typed = record { class = refl; slots = slots } }

calls_alike : (c d : ℕ) (os : List Op) → task_calls (map (task_after c) os) ≡ task_calls (map (task_after d) os)
calls_alike c d [] = refl
calls_alike c d (o ∷ os) = ap (λ is. call_of (task_after d o) ∷ is) (calls_alike c d os)

-- a section on an object of the frozen heap is the first one of a history that begins there
free_lists : (p : PlainProgram) (frozen : List Object) (t : Task) (left : ℕ) (o : Object) (m : Outcome) → ProgramTyped p → TypedHeap p frozen → WellTyped p frozen (call_of t) → slice_get frozen t.op.receiver ≡ Some o
    → section p frozen t.op.receiver o t.op.op t.op.args left ≡ done m → Making p frozen t (free_made t m)
free_lists p frozen t left o m program heap well at ran =
    let log : CellLog = record { opened = remembered o; object = o; entries = [] } in
    let typed : TypedAt p frozen t.op.receiver o = typed_there p frozen t.op.receiver o heap at in
    let legal : LegalCell p frozen t.op.receiver log = record { opened = typed; object = typed; ran = []; clock = 0; sections = none o 0; ends = all_ran refl } in
    let e : Entry = ran_entry t (next_clock log t.after) m.steps (map op_of m.listed) in
    let on : RanOn p frozen t.op.receiver o 0 e m.object = record {
      receiver = refl;
      clock = refl;
      stop = refl;
      section = (left, ran ∙ ap (λ (is : List Invocation). done (record { object = m.object; listed = is; steps = m.steps })) (sym (same_calls m.listed)));
    } in
    let g : Grown p frozen t.op.receiver log e m.object = histories_grow p program frozen heap t.op.receiver log legal refl e m.object well on in
    let alike = calls_alike (next_clock log t.after) (suc t.after) (map op_of m.listed) in
    (subst (AllWellTyped p frozen) alike g.typed, λ x s. subst (AllInside x) alike (g.extent s.roots x s.extent s.inside s.separable).inside)

-- ---- by its answer, in the round that is given

pub typed_of : (key : Given) (p : PlainProgram) (frozen : List Object) (task : Task) → program_of key ≡ p → frozen_of key ≡ frozen → MayRun key task → WellTyped p frozen (call_of task)
typed_of key p frozen task a b m = subst (λ (x : PlainProgram). WellTyped x frozen (call_of task)) a (subst (λ (x : List Object). WellTyped (program_of key) x (call_of task)) b m.typed)

-- the same of the round that is given
pub free_of : (key : Given) (p : PlainProgram) (frozen : List Object) (task : Task) (left : ℕ) (old new : List Entry) (answer : Added) → program_of key ≡ p → frozen_of key ≡ frozen
    → AddsFree p frozen task left old new answer → AddsFree (program_of key) (frozen_of key) task left old new answer
free_of key p frozen task left old new answer a b h = subst (λ (x : PlainProgram). AddsFree x (frozen_of key) task left old new answer) (sym a) (subst (λ (x : List Object). AddsFree p x task left old new answer) (sym b) h)

module _ (key : Given) (task : Task) (left : ℕ) (old new : List Entry) (answer : Added) where
  abbrev ended_so : Sectioned
  ended_so = frozen_section (program_of key) (frozen_of key) task left

  all_may : IsRound key → MayRun key task → (m : Outcome) → ended_so ≡ done m → All (MayRun key) (free_made task m)
  all_may r may m e = from (slice_get (frozen_of key) task.op.receiver) refl e
    where
      never : over ≡ done m → ⊥
      never q = cc

      from : (q : Option Object) → slice_get (frozen_of key) task.op.receiver ≡ q → section_at (program_of key) (frozen_of key) task left q ≡ done m → All (MayRun key) (free_made task m)
      from None at s = absurd (never s)
      from (Some o) at s = all_may_run key (program_of key) (frozen_of key) task (free_made task m) refl refl may r (free_lists (program_of key) (frozen_of key) task left o m r.program r.frozen may.typed at s)

  pub ran_free : AddsFree (program_of key) (frozen_of key) task left old new answer → IsRound key → MayRun key task → (made : List Task) (n : ℕ) → IsRan answer made n → RanFree key task left old new made n
  ran_free a round may made n ran = from (is_closed_free old task.after) refl ended_so refl a
    where
      from : (closed : Bool) → is_closed_free old task.after ≡ closed → (s : Sectioned) → ended_so ≡ s → AddsFreeBy closed s task old new answer → RanFree key task left old new made n
      from true c s e b = absurd (subst (λ (x : Added). IsRan x made n) b.0 ran)
      from false c (done m) e b = let same = same_ran answer made (free_made task m) n m.steps ran b.1 in
          record { outcome = m; takes_one = c; section = e; tasks = same.0; steps = same.1; loose = b.0; may_run = subst (All (MayRun key)) (sym same.0) (all_may round may m e) }
      from false c (stopped u) e b = absurd (subst (λ (x : Added). IsRan x made n) b.0 ran)
      from false c over e b = absurd (subst (λ (x : Added). IsRan x made n) b.0 ran)

  pub stuck_free : AddsFree (program_of key) (frozen_of key) task left old new answer → (why : Stop) → answer ≡ Stuck why → StuckFree key task left old new why
  stuck_free a why is = from (is_closed_free old task.after) refl ended_so refl a
    where
      from : (closed : Bool) → is_closed_free old task.after ≡ closed → (s : Sectioned) → ended_so ≡ s → AddsFreeBy closed s task old new answer → StuckFree key task left old new why
      from true c s e b = absurd (subst NotStuck (sym b.0 ∙ is) tt)
      from false c (done m) e b = absurd (subst NotStuck is (ran_not_stuck answer (free_made task m) m.steps b.1))
      from false c (stopped u) e b = let w = same_stop (Trapped u) why (sym b.0 ∙ is) in
          record { takes_one = c; section = subst (λ (s : Sectioned). IsStop s why) (sym e) (sym w); loose = b.1 ∙ ap (λ (z : Stop). old ++ free_stuck task z ∷ []) w }
      from false c over e b = let w = same_stop Spent why (sym b.0 ∙ is) in
          record { takes_one = c; section = subst (λ (s : Sectioned). IsStop s why) (sym e) (sym w); loose = b.1 ∙ ap (λ (z : Stop). old ++ free_stuck task z ∷ []) w }

  pub kept_free : AddsFree (program_of key) (frozen_of key) task left old new answer → answer ≡ Kept → KeptFree key task left old new task
  kept_free a is = from (is_closed_free old task.after) refl ended_so a
    where
      from : (closed : Bool) → is_closed_free old task.after ≡ closed → (s : Sectioned) → AddsFreeBy closed s task old new answer → KeptFree key task left old new task
      from true c s b = record { same = refl; closed = c; loose = b.1 }
      from false c (done m) b = absurd (subst NotKept is (ran_not_kept answer (free_made task m) m.steps b.1))
      from false c (stopped u) b = absurd (subst NotKept (sym b.0 ∙ is) tt)
      from false c over b = absurd (subst NotKept (sym b.0 ∙ is) tt)
