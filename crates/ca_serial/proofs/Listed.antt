-- A loop that is handed on: one instruction of the machine.
use Rattle.std.proofs.Common.{◌≡◌, ◌<◌, ℕ, zero, suc, ◌+◌, ◌-◌, List, [], ◌∷◌, ◌++◌, length, map, get_or, Option, Some, None, refl, ap, sym, subst, ◌∙◌, arith, append-nil}
use Rattle.std.specs.Prelude.{Bool, true, false, cond, slice_get, Contains, Result, Ok, Err, IfOk}
use Rattle.std.proofs.lemmas.List.Elements.{Contains-push}
use Rattle.std.proofs.lemmas.Option.{same_Some}
use Rattle.ca_program.specs.Plain.{PlainProgram, Statement}
use Rattle.ca_program.specs.declared.program.ValueType.{ValueType}
use Rattle.ca_program.specs.Kinds.{Kind, kind_type}
use Rattle.ca_program.specs.View.{statement_view}
use Rattle.ca_program.specs.Instructions.{Begin, Code, Handed}
use Rattle.ca_model.specs.declared.value.Value.{Value as Datum}
use Rattle.ca_model.specs.declared.value.Object.{Object}
use Rattle.ca_model.specs.declared.value.Trap.{Trap}
use Rattle.ca_meaning.specs.Expressions.{Invocation}
use Rattle.ca_meaning.specs.Sections.{LoopOutcome, LoopSectioned, loop_done, loop_stopped, loop_over, loop_section}
use Rattle.ca_meaning.specs.Serial.{Note, World, in_heap}
use Rattle.ca_parallel.specs.Accounts.{Reached, ReachedPart, HandedOn, at_first, by_one}
use Rattle.ca_parallel.specs.Calls.{invocations_of}
use Rattle.ca_parallel.specs.declared.op.Op.{Op}
use Rattle.ca_parallel.specs.Lists.{note, either}
use Rattle.ca_note_laws.specs.Listing.{puts_nothing, with_list}
use Rattle.ca_sections.specs.Answers.{LoopIs, locals_after}
use Rattle.ca_sections.specs.Extending.{AllStand, StandsAlone}
use Rattle.ca_sections.specs.declared.loop_code.LoopPlace.{LoopPlace}
use Rattle.ca_sections.specs.declared.operations.SectionAnswer.{SectionAnswer}
use Rattle.ca_sections.specs.declared.operations.SectionAnswer.TheVariants.{Done, Trapped, Spent}
use Rattle.ca_code_laws.specs.Words.{all_have}
use Rattle.ca_code_laws.specs.Machine.{Store, State, Wanting, Next, Begun, moved, row, loaded, behind, plainly, beginning_by, handing, act, line_in, Comes}
use Rattle.ca_code_laws.specs.Runs.{Into, run_into, begun_with, begun_by}
use Rattle.ca_steps.specs.declared.frames.Frames.{Frames}
use Rattle.ca_steps.specs.Stands.{back_seen, seen, state_of}
use Rattle.ca_steps.specs.Handed.{PutLocals}
use Rattle.ca_steps.specs.Ways.{BeginsAt}
use Rattle.ca_serial.specs.clauses.Handing.{Chose, with_note, with_notes, given, Given}
use Rattle.ca_serial.specs.clauses.Loops.{GoesPast, locals_at, section_at, notes_of, begun_notes}
use Rattle.ca_serial.proofs.Hands.{one_comes}

-- ---- sections

-- one that isn't done
pub data Stopped : LoopSectioned → Type 0 where
  by_trap : (t : Trap) → Stopped (loop_stopped t)
  by_spent : Stopped loop_over

pub trapped : (o : LoopSectioned) (t : Trap) (answer : SectionAnswer) (now : List Op) → answer ≡ Trapped t → LoopIs answer o [] now → Stopped o
trapped o t answer now e h = by o (subst (λ (a : SectionAnswer). LoopIs a o [] now) e h)
  where
    by : (o : LoopSectioned) → LoopIs (Trapped t) o [] now → Stopped o
    by (loop_done x) h = absurd h
    by (loop_stopped u) h = by_trap u
    by loop_over h = absurd h

pub spent : (o : LoopSectioned) (answer : SectionAnswer) (now : List Op) → answer ≡ Spent → LoopIs answer o [] now → Stopped o
spent o answer now e h = by o (subst (λ (a : SectionAnswer). LoopIs a o [] now) e h)
  where
    by : (o : LoopSectioned) → LoopIs Spent o [] now → Stopped o
    by (loop_done x) h = absurd h
    by (loop_stopped u) h = absurd h
    by loop_over h = by_spent

-- one that is done, in so many steps, with this list
pub record IsDone (o : LoopSectioned) (steps : ℕ) (listed : List Invocation) : Type 0 where
  pub outcome : LoopOutcome
  pub is : o ≡ loop_done outcome
  pub steps_are : outcome.steps ≡ steps
  pub listed_are : outcome.listed ≡ listed

pub is_done : (o : LoopSectioned) (steps : ℕ) (now : List Op) → LoopIs (Done steps) o [] now → IsDone o steps (invocations_of now)
is_done (loop_done x) steps now h = record { outcome = x; is = refl; steps_are = sym h.0; listed_are = sym h.1 }
is_done (loop_stopped u) steps now h = absurd h
is_done loop_over steps now h = absurd h

pub done_locals : (o : LoopSectioned) (steps : ℕ) (listed : List Invocation) (d : IsDone o steps listed) (ls : List Datum) → locals_after o ls ≡ d.outcome.locals
done_locals o steps listed d ls = ap (λ o. locals_after o ls) d.is

-- ---- the loop that stands on its own

pub stands_here : (p : PlainProgram) (c : Code) (ls : List LoopPlace) (i : ℕ) (l : LoopPlace) → i < length ls → l ≡ get_or ls i l → AllStand p c ls → StandsAlone p c l
stands_here p c [] i l lt is all = absurd (omega (arith, lt))
stands_here p c (x ∷ ls) zero l lt is all = subst (λ (y : LoopPlace). StandsAlone p c y) (sym is) all.0
stands_here p c (x ∷ ls) (suc i) l lt is all = stands_here p c ls i l (omega (arith, lt)) is all.1

-- a loop that stands on its own is this one, on its line, in a body with such locals
pub record IsThat (l : LoopPlace) (line : ℕ) (loop : Statement) (tys : List ValueType) : Type 0 where
  pub line_is : l.line ≡ line
  pub loop_is : statement_view l.s.now ≡ loop
  pub kinds_are : map kind_type l.types.now ≡ map kind_type tys

-- the one that begins where the machine stands
pub that_loop : (p : PlainProgram) (c : Code) (m : Frames) (n line : ℕ) (loop : Statement) (tys : List ValueType) (l : LoopPlace) → BeginsAt c m n line loop tys → l.at ≡ m.at → StandsAlone p c l → IsThat l line loop tys
that_loop p c m n line loop tys l b at alone =
    let lines : l.line ≡ line = same_Some _ _ (sym (subst (λ (i : ℕ). slice_get c.lines i ≡ Some l.line) at alone.line) ∙ b.on_line) in
    let own : Handed = record { loop = statement_view l.s.now; locals = map kind_type l.types.now } in
    let its : Handed = record { loop = loop; locals = map kind_type tys } in
    let same : own ≡ its = same_Some _ _ (same_Some _ _ (sym (subst (λ (i : ℕ). slice_get c.loops i ≡ Some (Some own)) at alone.loop) ∙ b.is)) in
    record { line_is = lines; loop_is = ap (λ (h : Handed). h.loop) same; kinds_are = ap (λ (h : Handed). h.locals) same }

-- the section that was run is that of the loop where the machine stands
module _ (p : PlainProgram) (h : List Object) (m : Frames) (tys : List ValueType) (line : ℕ) (loop : Statement) (l : LoopPlace) (is : IsThat l line loop tys) where
  pub filled : (answer : SectionAnswer) (this : Datum) (ls : List Datum) (left : ℕ) (out now : List Op) → this ≡ m.this → ls ≡ row (seen m.slots.items) m.base (map kind_type l.types.now) → left ≡ m.left → out ≡ [] → LoopIs answer (loop_section p h this ls l.line (statement_view l.s.now) left) out now → LoopIs answer (section_at p h m tys line loop) [] now
  filled answer this ls left out now a b c d s =
      subst (λ (out : List Op). LoopIs answer (section_at p h m tys line loop) out now) d
      (subst (λ (x : Statement). LoopIs answer (loop_section p h m.this (locals_at m tys) line x m.left) out now) is.loop_is
      (subst (λ (n : ℕ). LoopIs answer (loop_section p h m.this (locals_at m tys) n (statement_view l.s.now) m.left) out now) is.line_is
      (subst (λ (k : ℕ). LoopIs answer (loop_section p h m.this (locals_at m tys) l.line (statement_view l.s.now) k) out now) c
      (subst (λ (ls : List Datum). LoopIs answer (loop_section p h m.this ls l.line (statement_view l.s.now) left) out now) (b ∙ ap (row (seen m.slots.items) m.base) is.kinds_are)
      (subst (λ (this : Datum). LoopIs answer (loop_section p h this ls l.line (statement_view l.s.now) left) out now) a s)))))

  pub filled_locals : (now : List Datum) (this : Datum) (ls : List Datum) (left : ℕ) → this ≡ m.this → ls ≡ row (seen m.slots.items) m.base (map kind_type l.types.now) → left ≡ m.left → now ≡ locals_after (loop_section p h this ls l.line (statement_view l.s.now) left) ls → now ≡ locals_after (section_at p h m tys line loop) (locals_at m tys)
  filled_locals now this ls left a b c s =
      subst (λ (x : Statement). now ≡ locals_after (loop_section p h m.this (locals_at m tys) line x m.left) (locals_at m tys)) is.loop_is
      (subst (λ (n : ℕ). now ≡ locals_after (loop_section p h m.this (locals_at m tys) n (statement_view l.s.now) m.left) (locals_at m tys)) is.line_is
      (subst (λ (k : ℕ). now ≡ locals_after (loop_section p h m.this (locals_at m tys) l.line (statement_view l.s.now) k) (locals_at m tys)) c
      (subst (λ (ls : List Datum). now ≡ locals_after (loop_section p h m.this ls l.line (statement_view l.s.now) left) ls) (b ∙ ap (row (seen m.slots.items) m.base) is.kinds_are)
      (subst (λ (this : Datum). now ≡ locals_after (loop_section p h this ls l.line (statement_view l.s.now) left) ls) a s))))

-- ---- notes

pub none_noted : (h : List Object) (k : ℕ) (o : LoopSectioned) → Stopped o → notes_of h k o ≡ []
none_noted h k o (by_trap t) = refl
none_noted h k o by_spent = refl

pub note_is : (h : List Object) (k : ℕ) (o : LoopSectioned) (steps : ℕ) (listed : List Invocation) → IsDone o steps listed → notes_of h k o ≡ note h listed (k - steps) ∷ []
note_is h k o steps listed d = ap (notes_of h k) d.is ∙ (ap (λ l. note h l (k - d.outcome.steps) ∷ []) d.listed_are ∙ ap (λ n. note h listed (k - n) ∷ []) d.steps_are)

pub noted_in : (h : List Object) (k : ℕ) (o : LoopSectioned) (steps : ℕ) (listed : List Invocation) → IsDone o steps listed → Contains (notes_of h k o) (note h listed (k - steps))
noted_in h k o steps listed d = subst (λ l. Contains l (note h listed (k - steps))) (sym (note_is h k o steps listed d)) (Contains-push [] (note h listed (k - steps)))

-- ---- accounts

module _ {A : Type 0} {S : A → PlainProgram → List Object → List Invocation → ℕ → A → Type 0} (p : PlainProgram) where
  pub accounted : (a b : A) (h : List Object) (k : ℕ) (o : LoopSectioned) (steps : ℕ) (listed : List Invocation) → IsDone o steps listed → S a p h listed (k - steps) b → Reached S p a (notes_of h k o) b
  accounted a b h k o steps listed d step = subst (λ l. Reached S p a l b) (sym (note_is h k o steps listed d)) (by_one (note h listed (k - steps)) at_first step)

  pub unaccounted : (a : A) (ns : List Note) → ns ≡ [] → Reached S p a ns a
  unaccounted a ns e = subst (λ l. Reached S p a l a) (sym e) at_first

  pub none_yet : (a : A) (ns : List Note) → ReachedPart S p a ns a
  none_yet a ns = record { done = []; rest = ns; whole = refl; reached = at_first }

  pub whole_part : (a b : A) (ns : List Note) → Reached S p a ns b → ReachedPart S p a ns b
  whole_part a b ns reached = record { done = ns; rest = []; whole = sym (append-nil ns); reached = reached }

  pub handed_all : {T E : Type 0} (a b : A) (r : Result T E) (ns : List Note) → Reached S p a ns b → HandedOn S p a b r ns
  handed_all a b (Ok x) ns reached = record { all = reached; part = tt }
  handed_all a b (Err y) ns reached = record { all = tt; part = whole_part a b ns reached }

  pub part_told : {T E : Type 0} (a b : A) (r : Result T E) (e : E) (ns : List Note) → r ≡ Err e → ReachedPart S p a ns b → HandedOn S p a b r ns
  part_told a b (Ok x) e ns is part = cc
  part_told a b (Err y) e ns is part = record { all = tt; part = part }

-- frames that go on by one instruction
pub passes_so : {T E : Type 0} (r : Result T E) (old new : Frames) (left same : ℕ) → left ≡ same → IfOk r (λ _. new ≡ record old { at = old.at + 1; left = left }) → IfOk r (λ _. new ≡ record old { at = old.at + 1; left = same })
passes_so (Ok x) old new left same e h = h ∙ ap (λ (k : ℕ). record old { at = old.at + 1; left = k }) e
passes_so (Err x) old new left same e h = tt

-- what a call in tail position tells
pub so_told : {T E : Type 0} (r : Result T E) (A B : Type 0) → IfOk r (λ _. A) → (A → B) → IfOk r (λ _. B)
so_told (Ok x) A B h f = f h
so_told (Err x) A B h f = tt

-- what holds of what is left of steps, and of what is listed
pub said_of : (P : List Invocation → ℕ → Type 0) (ops listed : List Op) (rest left taken : ℕ) → ops ≡ listed → rest ≡ left - taken → P (invocations_of ops) rest → P (invocations_of listed) (left - taken)
said_of P ops listed rest left taken a b h = subst (λ (k : ℕ). P (invocations_of listed) k) b (subst (λ (l : List Op). P (invocations_of l) rest) a h)

pub asked_of : (P : List Invocation → ℕ → Type 0) (ops listed : List Op) (rest left taken : ℕ) → ops ≡ listed → rest ≡ left - taken → P (invocations_of listed) (left - taken) → P (invocations_of ops) rest
asked_of P ops listed rest left taken a b h = subst (λ (k : ℕ). P (invocations_of ops) k) (sym b) (subst (λ (l : List Op). P (invocations_of l) (left - taken)) (sym a) h)

module _ {ops asked : List Op} {rest : ℕ} (left taken : ℕ) (items : asked ≡ ops) (steps : rest ≡ left - taken) where
  pub account_of : {A : Type 0} (S : A → PlainProgram → List Object → List Invocation → ℕ → A → Type 0) (p : PlainProgram) (h : List Object) (o : LoopSectioned) → IsDone o taken (invocations_of ops) → {a b : A} → S a p h (invocations_of asked) rest b → Reached S p a (notes_of h left o) b
  account_of S p h o d {a} {b} step = accounted p a b h left o taken (invocations_of ops) d (said_of (λ l k. S a p h l k b) asked ops rest left taken items steps step)

  pub given_of : (p : PlainProgram) (h after : List Object) {answer x : Option ℕ} → answer ≡ x → ((w : World) → Given p (in_heap w h) (invocations_of asked) rest after answer) → (w : World) → Given p (in_heap w h) (invocations_of ops) (left - taken) after x
  given_of p h after {answer} {x} is told w =
      subst (λ (y : Option ℕ). Given p (in_heap w h) (invocations_of ops) (left - taken) after y) is (said_of (λ l k. Given p (in_heap w h) l k after answer) asked ops rest left taken items steps (told w))

-- ---- the instruction

module _ (p : PlainProgram) (c : Code) (s : State World) (n line : ℕ) (loop : Statement) (κs : List Kind) (stands : slice_get c.items s.at ≡ Some (Begin n)) (on_line : slice_get c.lines s.at ≡ Some line) (is : slice_get c.loops s.at ≡ Some (Some (record { loop = loop; locals = κs }))) (into : Into) where
  -- its locals, and its section
  abbrev pub locals : List Datum
  locals = row s.slots s.base κs

  abbrev pub section : LoopSectioned
  section = loop_section p s.world.heap s.this locals line loop s.left

  begin_acts : (next : Next World) → act (run_into into p) c (line_in (slice_get c.lines s.at)) (slice_get c.items s.at) next s ≡ beginning_by κs s next n (begun_by into p s.this line locals s.world loop s.left)
  begin_acts next =
      ap (λ l. act (run_into into p) c (line_in l) (slice_get c.items s.at) next s) on_line
      ∙ (ap (λ i. act (run_into into p) c line i next s) stands ∙ ap (λ h. handing (run_into into p) line s next n h) is)

  -- one that puts something, or whose section isn't done: the machine stands at its first instruction
  goes_in : (b : Bool) (o : LoopSectioned) → puts_nothing loop ≡ b → section ≡ o → either b (begun_with into p s.world s.left o) (plainly s.world) ≡ plainly s.world → Comes (run_into into p) c s (moved s (s.at + 1) s.left s.slots s.world)
  goes_in b o put sec e =
      let same : begun_by into p s.this line locals s.world loop s.left ≡ plainly s.world =
      ap (λ b. either b (begun_with into p s.world s.left section) (plainly s.world)) put ∙ (ap (λ o. either b (begun_with into p s.world s.left o) (plainly s.world)) sec ∙ e) in
      one_comes (run_into into p) c s (moved s (s.at + 1) s.left s.slots s.world) (λ next. begin_acts next ∙ ap (beginning_by κs s next n) same)

  pub putting_goes_in : puts_nothing loop ≡ false → Comes (run_into into p) c s (moved s (s.at + 1) s.left s.slots s.world)
  putting_goes_in put = goes_in false section put refl refl

  pub stopped_goes_in : puts_nothing loop ≡ true → Stopped section → Comes (run_into into p) c s (moved s (s.at + 1) s.left s.slots s.world)
  stopped_goes_in put stop = goes_in true section put refl (by section stop)
    where
      by : (o : LoopSectioned) → Stopped o → begun_with into p s.world s.left o ≡ plainly s.world
      by o (by_trap t) = refl
      by o by_spent = refl

  -- one whose section is done is gone into, or asks for what it lists
  abbrev asked : LoopOutcome → Bool → Begun World
  asked o b = either b (plainly (with_list s.world s.left o)) (given p s.world o.listed (s.left - o.steps) o.locals)

  done_asks : puts_nothing loop ≡ true → (o : LoopOutcome) → section ≡ loop_done o → (b : Bool) → into (length s.world.notes) ≡ b → begun_by into p s.this line locals s.world loop s.left ≡ asked o b
  done_asks put o e b is =
      ap (λ b. either b (begun_with into p s.world s.left section) (plainly s.world)) put ∙ (ap (begun_with into p s.world s.left) e ∙ ap (asked o) is)

  -- it is gone into: the machine stands at its first instruction
  pub done_goes_in : puts_nothing loop ≡ true → (o : LoopOutcome) → section ≡ loop_done o → into (length s.world.notes) ≡ true → Comes (run_into into p) c s (moved s (s.at + 1) s.left s.slots (with_list s.world s.left o))
  done_goes_in put o e within =
      one_comes (run_into into p) c s (moved s (s.at + 1) s.left s.slots (with_list s.world s.left o))
      (λ next. begin_acts next ∙ ap (beginning_by κs s next n) (done_asks put o e true within))

  module _ (put : puts_nothing loop ≡ true) (out : into (length s.world.notes) ≡ false) (taken : ℕ) (listed : List Invocation) (d : IsDone section taken listed) where
    done_begun : begun_by into p s.this line locals s.world loop s.left ≡ given p s.world listed (s.left - taken) d.outcome.locals
    done_begun =
        done_asks put d.outcome d.is false out
        ∙ (ap (λ l. given p s.world l (s.left - d.outcome.steps) d.outcome.locals) d.listed_are
        ∙ ap (λ k. given p s.world listed (s.left - k) d.outcome.locals) d.steps_are)

    -- that is done too: the machine stands behind the loop, with its locals
    pub done_passes : (x : World) (left : ℕ) → given p s.world listed (s.left - taken) d.outcome.locals ≡ behind d.outcome.locals x left → all_have κs d.outcome.locals ≡ true → Comes (run_into into p) c s (moved s (s.at + 1 + n) left (loaded s.slots s.base d.outcome.locals) x)
    done_passes x left e have =
        let t = moved s (s.at + 1 + n) left (loaded s.slots s.base d.outcome.locals) x in
        one_comes (run_into into p) c s t (λ next. begin_acts next ∙ (ap (beginning_by κs s next n) (done_begun ∙ e) ∙ ap (λ b. cond b (next t) Wanting) have))

    -- or not: the machine stands at its first instruction
    pub alone_goes_in : (x : World) → given p s.world listed (s.left - taken) d.outcome.locals ≡ plainly x → Comes (run_into into p) c s (moved s (s.at + 1) s.left s.slots x)
    alone_goes_in x e = one_comes (run_into into p) c s (moved s (s.at + 1) s.left s.slots x) (λ next. begin_acts next ∙ ap (beginning_by κs s next n) (done_begun ∙ e))

-- ---- the same of frames in memory, with a world of this heap

-- a world in which nothing was noted
in_silence : (w : World) (heap : List Object) (ns : List Note) → ns ≡ [] → in_heap (with_notes w ns) heap ≡ in_heap w heap
in_silence w heap ns e = ap (λ (ms : List Note). record { heap = heap; prints = w.prints; notes = ms }) (ap (λ (ms : List Note). w.notes ++ ms) e ∙ append-nil w.notes)

module _ (p : PlainProgram) (c : Code) (m : Frames) (n line : ℕ) (loop : Statement) (tys : List ValueType) (b : BeginsAt c m n line loop tys) (heap : List Object) (w : World) (into : Into) where
  abbrev pub here : State World
  here = state_of m (in_heap w heap)

  abbrev pub its_section : LoopSectioned
  its_section = section_at p heap m tys line loop

  -- the world with its notes
  abbrev with_its : List Note → List Object → World
  with_its ns after = in_heap (with_notes w ns) after

  -- into the loop, with nothing noted
  enters_so : (new : Frames) (ns : List Note) → new ≡ record m { at = m.at + 1; left = m.left } → ns ≡ [] → Comes (run_into into p) c here (moved here (here.at + 1) here.left here.slots here.world) → Comes (run_into into p) c here (state_of new (with_its ns heap))
  enters_so new ns is none comes =
      subst (λ (x : World). Comes (run_into into p) c here (state_of new x)) (sym (in_silence w heap ns none))
      (subst (λ (f : Frames). Comes (run_into into p) c here (state_of f (in_heap w heap))) (sym is) comes)

  pub putting_enters : (new : Frames) → new ≡ record m { at = m.at + 1; left = m.left } → puts_nothing loop ≡ false → Comes (run_into into p) c here (state_of new (with_its (begun_notes p heap m tys line loop) heap))
  putting_enters new is put =
      enters_so new (begun_notes p heap m tys line loop) is (ap (λ b. either b (notes_of heap m.left its_section) []) put)
      (putting_goes_in p c here n line loop (map kind_type tys) b.stands b.on_line b.is into put)

  pub stopped_enters : (new : Frames) → new ≡ record m { at = m.at + 1; left = m.left } → puts_nothing loop ≡ true → Stopped its_section → Comes (run_into into p) c here (state_of new (with_its (begun_notes p heap m tys line loop) heap))
  stopped_enters new is put stop =
      enters_so new (begun_notes p heap m tys line loop) is (ap (λ b. either b (notes_of heap m.left its_section) []) put ∙ none_noted heap m.left its_section stop)
      (stopped_goes_in p c here n line loop (map kind_type tys) b.stands b.on_line b.is into put stop)

  -- it is gone into
  pub loop_inside : (new : Frames) → new ≡ record m { at = m.at + 1; left = m.left } → Chose into (length w.notes) true (begun_notes p heap m tys line loop) → Comes (run_into into p) c here (state_of new (with_its (begun_notes p heap m tys line loop) heap))
  loop_inside new is chose = by (puts_nothing loop) refl its_section refl
    where
      by : (q : Bool) → puts_nothing loop ≡ q → (o : LoopSectioned) → its_section ≡ o → Comes (run_into into p) c here (state_of new (with_its (begun_notes p heap m tys line loop) heap))
      by false put o e = putting_enters new is put
      by true put (loop_stopped t) e = stopped_enters new is put (subst Stopped (sym e) (by_trap t))
      by true put loop_over e = stopped_enters new is put (subst Stopped (sym e) by_spent)
      by true put (loop_done o) e =
          let one : begun_notes p heap m tys line loop ≡ note heap o.listed (m.left - o.steps) ∷ [] = ap (λ b. either b (notes_of heap m.left its_section) []) put ∙ ap (notes_of heap m.left) e in
          let within : into (length w.notes) ≡ true = subst (λ (ns : List Note). Chose into (length w.notes) true ns) one chose in
          subst (λ (ns : List Note). Comes (run_into into p) c here (state_of new (with_its ns heap))) (sym one)
          (subst (λ (f : Frames). Comes (run_into into p) c here (state_of f (with_its (note heap o.listed (m.left - o.steps) ∷ []) heap))) (sym is)
          (done_goes_in p c here n line loop (map kind_type tys) b.stands b.on_line b.is into put o e within))

  module _ (put : puts_nothing loop ≡ true) (taken : ℕ) (listed : List Invocation) (d : IsDone its_section taken listed) where
    -- that nothing of it is gone into
    not_into : Chose into (length w.notes) false (notes_of heap m.left its_section) → into (length w.notes) ≡ false
    not_into chose = subst (λ (ns : List Note). Chose into (length w.notes) false ns) (note_is heap m.left its_section taken listed d) chose

    -- the world with its note is that with its notes
    noted_so : (after : List Object) → in_heap (with_note (in_heap w heap) listed (m.left - taken)) after ≡ with_its (notes_of heap m.left its_section) after
    noted_so after = ap (λ (ns : List Note). record { heap = after; prints = w.prints; notes = w.notes ++ ns }) (sym (note_is heap m.left its_section taken listed d))

    pub listed_passes : Chose into (length w.notes) false (notes_of heap m.left its_section) → (after : List Object) (left : ℕ) (mid new : Frames) → Given p (in_heap w heap) listed (m.left - taken) after (Some left) → PutLocals m (map kind_type tys) d.outcome.locals mid → new ≡ record mid { at = mid.at + 1 + n; left = left } → Comes (run_into into p) c here (state_of new (with_its (notes_of heap m.left its_section) after))
    listed_passes chose after left mid new g laid is =
        let x = in_heap (with_note (in_heap w heap) listed (m.left - taken)) after in
        let stands : state_of new x ≡ moved here (here.at + 1 + n) left (loaded here.slots here.base d.outcome.locals) x =
        ap (λ (f : Frames). state_of f x) is
        ∙ (ap (λ (f : Frames). record { at = f.at + 1 + n; base = f.base; left = left; this = f.this; below = map back_seen f.below; slots = seen mid.slots.items; world = x }) laid.same
        ∙ ap (λ (f : Store). moved here (here.at + 1 + n) left f x) laid.slots) in
        subst (λ (x : World). Comes (run_into into p) c here (state_of new x)) (noted_so after)
        (subst (λ (t : State World). Comes (run_into into p) c here t) (sym stands)
        (done_passes p c here n line loop (map kind_type tys) b.stands b.on_line b.is into put (not_into chose) taken listed d x left (g d.outcome.locals) laid.have))

    pub declined_enters : Chose into (length w.notes) false (notes_of heap m.left its_section) → (after : List Object) (new : Frames) → Given p (in_heap w heap) listed (m.left - taken) after None → new ≡ record m { at = m.at + 1; left = m.left } → Comes (run_into into p) c here (state_of new (with_its (notes_of heap m.left its_section) after))
    declined_enters chose after new g is =
        let x = with_note (in_heap w heap) listed (m.left - taken) in
        subst (λ (h : List Object). Comes (run_into into p) c here (state_of new (with_its (notes_of heap m.left its_section) h))) (sym g.0)
        (subst (λ (x : World). Comes (run_into into p) c here (state_of new x)) (noted_so heap)
        (subst (λ (f : Frames). Comes (run_into into p) c here (state_of f x)) (sym is)
        (alone_goes_in p c here n line loop (map kind_type tys) b.stands b.on_line b.is into put (not_into chose) taken listed d x (g.1 d.outcome.locals))))

-- what is told of a loop that is gone into, since it puts something or can't be listed to its end
module _ {A T E : Type 0} {S : A → PlainProgram → List Object → List Invocation → ℕ → A → Type 0} (p : PlainProgram) (m : Frames) (h : List Object) (n line : ℕ) (loop : Statement) (tys : List ValueType) (r : Result T E) (new : Frames) (go : IfOk r (λ _. new ≡ record m { at = m.at + 1; left = m.left })) {a : A} where
  pub past_putting : puts_nothing loop ≡ false → GoesPast S p (begun_notes p h m tys line loop) m h n line loop tys r a a new h
  past_putting put = record {
    means = so_told r _ _ go (λ is c w into chose b. putting_enters p c m n line loop tys b h w into new is put);
    account = handed_all p a a r (begun_notes p h m tys line loop) (unaccounted p a (begun_notes p h m tys line loop) (ap (λ b. either b (notes_of h m.left (section_at p h m tys line loop)) []) put));
  }

  pub past_stopped : puts_nothing loop ≡ true → Stopped (section_at p h m tys line loop) → GoesPast S p (begun_notes p h m tys line loop) m h n line loop tys r a a new h
  past_stopped put stop = record {
    means = so_told r _ _ go (λ is c w into chose b. stopped_enters p c m n line loop tys b h w into new is put stop);
    account =
        handed_all p a a r (begun_notes p h m tys line loop)
        (unaccounted p a (begun_notes p h m tys line loop) (ap (λ b. either b (notes_of h m.left (section_at p h m tys line loop)) []) put ∙ none_noted h m.left (section_at p h m tys line loop) stop));
  }
