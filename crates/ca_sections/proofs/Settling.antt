-- A section that ran is settled, and what its answer says.
use Rattle.std.proofs.Common.{◌≡◌, ℕ, suc, ◌-◌, List, [], map, Result, Ok, Err, Some, length, refl, sym, ap, ◌∙◌, subst}
use Rattle.std.proofs.lemmas.List.{map-append, take-append-drop}
use Rattle.ca_program.specs.declared.program.ClassId.{ClassId}
use Rattle.ca_program.specs.Instructions.{Code}
use Rattle.ca_program.specs.Plain.{PlainProgram}
use Rattle.ca_program.specs.Kinds.{param_kind}
use Rattle.ca_model.specs.declared.value.Value.TheVariants.{Ref}
use Rattle.ca_model.specs.declared.value.Slot.{Slot}
use Rattle.ca_model.specs.declared.value.Object.{Object}
use Rattle.ca_meaning.specs.Sections.{Section, section, section_start}
use Rattle.ca_parallel.specs.declared.op.Op.{Op}
use Rattle.ca_parallel.specs.Calls.{invocation_of, invocations_of}
use Rattle.std.specs.Prelude.{IfOk, OnErr, pos}
use Rattle.ca_base.specs.declared.faults.Memory.{Memory as NoMemory}
use Rattle.ca_undo.specs.declared.olds.Old.{Old}
use Rattle.ca_undo.specs.Olds.{put_back, AllThere}
use Rattle.ca_code_laws.specs.Known.{IsKnown}
use Rattle.ca_code_laws.specs.Machine.{State, Outcome, Ends}
use Rattle.ca_code_laws.specs.Machine as Stopped
use Rattle.ca_code_laws.specs.Runs.{section_access, sectioned_as}
use Rattle.ca_code_laws.specs.Told.{Holds}
use Rattle.ca_code_laws.specs.Words.{pointer_of}
use Rattle.ca_code_laws.proofs.FitEnd.{comes_to_end, knows_section}
use Rattle.ca_code.specs.Codes.{code_seen}
use Rattle.ca_steps.specs.declared.frames.Frames.{Frames}
use Rattle.ca_steps.specs.declared.running.Laid.{Laid}
use Rattle.ca_steps.specs.Stands.{back_seen, here_state, seen}
use Rattle.ca_sections.specs.declared.access.InSection.{InSection}
use Rattle.ca_sections.specs.declared.access.Own.TheVariants.{Handed}
use Rattle.ca_sections.specs.declared.operations.SectionAnswer.{SectionAnswer}
use Rattle.ca_sections.specs.declared.operations.SectionAnswer.TheVariants.{Done}
use Rattle.ca_sections.specs.declared.operations.SectionAnswer.TheVariants as answer
use Rattle.ca_sections.specs.declared.running.Ran.{Ran}
use Rattle.ca_sections.specs.declared.stop.Stop.{Stop}
use Rattle.ca_sections.specs.declared.stop.Stop.TheVariants.{Memory, Trapped, Spent}
use Rattle.ca_sections.specs.declared.desk.Desk.{Desk}
use Rattle.ca_sections.specs.declared.desk.State.{State as Stays}
use Rattle.ca_sections.specs.Answers.{SectionIs, FrozenIs, CanUndo}
use Rattle.ca_sections.specs.Fitting.{Entered, Starts}
use Rattle.ca_sections.specs.Running.{Came, Lasting, Settled, Went, fore_in, lasting, listed_in, own_slots, section_at}

-- a section that came to its end
pub settled_whole : (ran : Result (Unit {0}) Stop) (u : Unit {0}) (steps budget left : ℕ) (st : InSection) (after : List Slot) (now : List Op) → ran ≡ Ok u → steps ≡ budget - left → after ≡ st.slots.now → now ≡ st.listed.now.items → Settled ran (Done steps) budget left st after (fore_in st) now
settled_whole ran u steps budget left st after now is s a same =
    rw is (s, a, same ∙ sym (take-append-drop st.first st.listed.now.items))

-- a section that stopped otherwise
pub settled_as : (ran : Result (Unit {0}) Stop) (stop : Stop) (budget left : ℕ) (st : InSection) (after : List Slot) (out now : List Op) (r : Result SectionAnswer NoMemory) → ran ≡ Err stop → IfOk r (λ answer. (budget left : ℕ) → Settled (Err stop) answer budget left st after out now) → IfOk r (λ answer. Settled ran answer budget left st after out now)
settled_as ran stop budget left st after out now (Ok a) is settled = subst (λ q. Settled q a budget left st after out now) (sym is) (settled budget left)
settled_as ran stop budget left st after out now (Err e) is settled = tt

abbrev with_slots : ClassId → List Slot → Object
with_slots c ss = record { class = c; slots = ss }

-- how the machine ended that ran so
abbrev outcome : Result (Unit {0}) Stop → ℕ → Section → Outcome Section
outcome (Ok u) k x = Stopped.Finished x k
outcome (Err Memory) k x = Stopped.Wanting
outcome (Err (Trapped t)) k x = Stopped.Trapped t x
outcome (Err Spent) k x = Stopped.Spent x

-- a section that wants no memory is told
abbrev IsTold : Result (Unit {0}) Stop → Type 0
IsTold (Err Memory) = ⊥
IsTold _ = Unit {0}

told : (ran : Result (Unit {0}) Stop) (a : SectionAnswer) (budget left : ℕ) (st : InSection) (after : List Slot) (out now : List Op) → Settled ran a budget left st after out now → IsTold ran
told (Ok u) a budget left st after out now s = tt
told (Err (Trapped t)) a budget left st after out now s = tt
told (Err Spent) a budget left st after out now s = tt
told (Err Memory) a budget left st after out now s = s

module _ (p : PlainProgram) (on : Laid) (place number : ℕ) (h : List Object) (op : Op) (k : ℕ) (object : Object) (m0 : Frames) (x0 : Section) (starts : Starts p op.op on place) (entered : Entered p op m0) (named : pointer_of (pos number) ≡ Ref op.receiver) (hand : x0 ≡ section_start object.slots) where
  abbrev code : Code
  code = code_seen on.code

  abbrev start : State Section
  start = record { at = place; base = 0; left = k; this = Ref op.receiver; below = []; slots = seen m0.slots.items; world = section_start object.slots }

  abbrev first : State Section
  first = here_state (record { at = place; base = 0; left = k }) number m0.below m0.slots.items x0

  begins : first ≡ start
  begins = λ i. record { at = place; base = 0; left = k; this = named i; below = ap (map back_seen) entered.below i; slots = seen m0.slots.items; world = hand i }

  ended : (ran : Ran) (m : Frames) (x : Section) → IsTold ran.ended → Came h code first ran m x → Ends (section_access h) code start (outcome ran.ended ran.left x)
  ended ran m x is came = subst (λ s. Ends (section_access h) code s (outcome ran.ended ran.left x)) begins (subst (λ k. Ends (section_access h) code first (outcome ran.ended k x)) came.left_is (subst (λ x. Ends (section_access h) code first (outcome ran.ended came.state.left x)) came.world_is (by ran.ended is came.went)))
    where
      by : (r : Result (Unit {0}) Stop) → IsTold r → Went h code first r came.state → Ends (section_access h) code first (outcome r came.state.left came.state.world)
      by (Ok u) is went = comes_to_end (section_access h) code first came.state went.2 went.1 went.0
      by (Err (Trapped t)) is went = went
      by (Err Spent) is went = went
      by (Err Memory) is went = absurd is

  -- the section, as the machine ended
  section_known : (ran : Ran) (m : Frames) (x : Section) → IsTold ran.ended → Came h code first ran m x → section p h op.receiver object op.op op.args (suc k) ≡ sectioned_as object.class (suc k) (outcome ran.ended ran.left x)
  section_known ran m x is came = by ran.ended is (ended ran m x is came)
    where
      args : (starts.method.params ≡ length op.args) × Holds (λ i. param_kind (Some starts.method) i) (seen m0.slots.items) 0 op.args
      args = entered.arguments starts.method starts.is starts.fits.parameters

      knows : (o : Outcome Section) → IsKnown o → Ends (section_access h) code start o → section p h op.receiver object op.op op.args (suc k) ≡ sectioned_as object.class (suc k) o
      knows = knows_section p starts.functions code starts.laid h op.op starts.method starts.is starts.fits op.receiver op.args args.0 object place 0 k (seen m0.slots.items) starts.begins args.1

      by : (r : Result (Unit {0}) Stop) → IsTold r → Ends (section_access h) code start (outcome r ran.left x) → section p h op.receiver object op.op op.args (suc k) ≡ sectioned_as object.class (suc k) (outcome r ran.left x)
      by (Ok u) is e = knows (Stopped.Finished x ran.left) tt e
      by (Err (Trapped t)) is e = knows (Stopped.Trapped t x) tt e
      by (Err Spent) is e = knows (Stopped.Spent x) tt e
      by (Err Memory) is e = absurd is

  -- what the answer says
  section_is : (ran : Ran) (m : Frames) (a1 : InSection) (a : SectionAnswer) (after : List Slot) (out now : List Op) → a1.own ≡ Handed → put_back a1.olds.now a1.slots.now ≡ object.slots → Came h code first ran m (section_at a1) → Settled ran.ended a (suc k) ran.left a1 after out now → SectionIs a (section p h op.receiver object op.op op.args (suc k)) object (record { class = object.class; slots = after }) out now
  section_is ran m a1 a after out now own back came s =
      subst (λ z. SectionIs a z object (record { class = object.class; slots = after }) out now) (sym (section_known ran m (section_at a1) (told ran.ended a (suc k) ran.left a1 after out now s) came)) (by ran.ended a s)
    where
      hands : own_slots a1.own a1.frozen.now a1.this a1.slots.now ≡ a1.slots.now
      hands = ap (λ o. own_slots o a1.frozen.now a1.this a1.slots.now) own

      by : (r : Result (Unit {0}) Stop) (a : SectionAnswer) → Settled r a (suc k) ran.left a1 after out now → SectionIs a (sectioned_as object.class (suc k) (outcome r ran.left (section_at a1))) object (record { class = object.class; slots = after }) out now
      by (Ok u) (Done steps) s = (s.0, ap (λ ss. with_slots object.class ss) (s.1 ∙ sym hands), ap invocations_of s.2 ∙ map-append invocation_of out (listed_in a1))
      by (Err (Trapped t)) (answer.Trapped u) s = (sym s.0, ap (λ ss. with_slots object.class ss) (s.1 ∙ back), s.2)
      by (Err Spent) answer.Spent s = (ap (λ ss. with_slots object.class ss) (s.0 ∙ back), s.1)
      by (Ok u) (answer.Trapped t) s = absurd s
      by (Ok u) answer.Spent s = absurd s
      by (Err (Trapped t)) (Done steps) s = absurd s
      by (Err (Trapped t)) answer.Spent s = absurd s
      by (Err Spent) (Done steps) s = absurd s
      by (Err Spent) (answer.Trapped t) s = absurd s
      by (Err Memory) a s = absurd s

  -- what it says of a section that puts nothing
  frozen_is : (ran : Ran) (m : Frames) (a1 : InSection) (a : SectionAnswer) (after : List Slot) (out now : List Op) → Came h code first ran m (section_at a1) → Settled ran.ended a (suc k) ran.left a1 after out now → FrozenIs a (section p h op.receiver object op.op op.args (suc k)) out now
  frozen_is ran m a1 a after out now came s =
      subst (λ z. FrozenIs a z out now) (sym (section_known ran m (section_at a1) (told ran.ended a (suc k) ran.left a1 after out now s) came)) (by ran.ended a s)
    where
      by : (r : Result (Unit {0}) Stop) (a : SectionAnswer) → Settled r a (suc k) ran.left a1 after out now → FrozenIs a (sectioned_as object.class (suc k) (outcome r ran.left (section_at a1))) out now
      by (Ok u) (Done steps) s = (s.0, ap invocations_of s.2 ∙ map-append invocation_of out (listed_in a1))
      by (Err (Trapped t)) (answer.Trapped u) s = (sym s.0, s.2)
      by (Err Spent) answer.Spent s = s.1
      by (Ok u) (answer.Trapped t) s = absurd s
      by (Ok u) answer.Spent s = absurd s
      by (Err (Trapped t)) (Done steps) s = absurd s
      by (Err (Trapped t)) answer.Spent s = absurd s
      by (Err Spent) (Done steps) s = absurd s
      by (Err Spent) (answer.Trapped t) s = absurd s
      by (Err Memory) a s = absurd s

  -- both within a budget of one step more
  section_told : (budget : ℕ) → budget ≡ suc k → (ran : Ran) (m : Frames) (a1 : InSection) (a : SectionAnswer) (after : List Slot) (out now : List Op) → a1.own ≡ Handed → put_back a1.olds.now a1.slots.now ≡ object.slots → Came h code first ran m (section_at a1) → Settled ran.ended a budget ran.left a1 after out now → SectionIs a (section p h op.receiver object op.op op.args budget) object (record { class = object.class; slots = after }) out now
  section_told budget e ran m a1 a after out now own back came =
      subst (λ b. Settled ran.ended a b ran.left a1 after out now → SectionIs a (section p h op.receiver object op.op op.args b) object (record { class = object.class; slots = after }) out now) (sym e) (section_is ran m a1 a after out now own back came)

  frozen_told : (budget : ℕ) → budget ≡ suc k → (ran : Ran) (m : Frames) (a1 : InSection) (a : SectionAnswer) (after : List Slot) (out now : List Op) → Came h code first ran m (section_at a1) → Settled ran.ended a budget ran.left a1 after out now → FrozenIs a (section p h op.receiver object op.op op.args budget) out now
  frozen_told budget e ran m a1 a after out now came =
      subst (λ b. Settled ran.ended a b ran.left a1 after out now → FrozenIs a (section p h op.receiver object op.op op.args b) out now) (sym e) (frozen_is ran m a1 a after out now came)

-- what holds of an answer holds of it in other words
pub ok_told : {T E : Type 0} (P Q : T → Type 0) (r : Result T E) → ((x : T) → P x → Q x) → IfOk r P → IfOk r Q
ok_told P Q (Ok x) f h = f x h
ok_told P Q (Err e) f h = tt

pub err_told : {T E : Type 0} (P Q : Type 0) (r : Result T E) → (P → Q) → OnErr r P → OnErr r Q
err_told P Q (Ok x) f h = tt
err_told P Q (Err e) f h = f h

-- the old values on the desk put the object back
pub can_undo : (ran : Result (Unit {0}) Stop) (a : SectionAnswer) (budget left : ℕ) (st : InSection) (after : List Slot) (out now : List Op) (desk : Desk) (before : Object) → Settled ran a budget left st after out now → (steps : ℕ) → a ≡ Done steps → desk.state.olds ≡ st.olds.now → AllThere st.olds.now st.slots.now → put_back st.olds.now st.slots.now ≡ before.slots → CanUndo desk (with_slots before.class after) before
can_undo (Ok u) (Done n) budget left st after out now desk before s steps is same there back = record {
  there = subst (λ os. AllThere os after) (sym same) (subst (λ ss. AllThere st.olds.now ss) (sym s.1) there);
  back = ap (λ os. put_back os after) same ∙ (ap (λ ss. put_back st.olds.now ss) s.1 ∙ back);
  class = refl;
}
can_undo (Ok u) (answer.Trapped t) budget left st after out now desk before s steps is same there back = absurd s
can_undo (Ok u) answer.Spent budget left st after out now desk before s steps is same there back = absurd s
can_undo (Err e) (Done n) budget left st after out now desk before s steps is same there back = absurd (no_done e n s)
  where
    no_done : (e : Stop) (n : ℕ) → Settled (Err e) (Done n) budget left st after out now → ⊥
    no_done Memory n s = s
    no_done (Trapped t) n s = s
    no_done Spent n s = s
can_undo (Err e) (answer.Trapped t) budget left st after out now desk before s steps is same there back = cc
can_undo (Err e) answer.Spent budget left st after out now desk before s steps is same there back = cc

-- a desk with the same old values puts it back as well
pub still_undone : (old new : Desk) (now before : Object) → new.state ≡ old.state → CanUndo old now before → CanUndo new now before
still_undone old new now before e can = record {
  there = subst (λ (s : Stays). AllThere s.olds now.slots) (sym e) can.there;
  back = ap (λ (s : Stays). put_back s.olds now.slots) e ∙ can.back;
  class = can.class;
}

-- How a section runs and is settled, with slots in hand or in the heap: what each of its clauses says.
module _ (p : PlainProgram) (on : Laid) (place number : ℕ) (h : List Object) (op : Op) (budget : ℕ) (object : Object) (m m1 : Frames) (x0 : Section) (l : Lasting) (a1 : InSection) (starts : Starts p op.op on place) (entered : Entered p op m) (named : pointer_of (pos number) ≡ Ref op.receiver) (least : budget ≡ suc (budget - 1)) (ran : Ran) (came : Came h (code_seen on.code) (here_state (record { at = place; base = 0; left = budget - 1 }) number m.below m.slots.items x0) ran m1 (section_at a1)) (lasts : lasting a1 ≡ l) (hand : x0 ≡ section_start object.slots) (r : Result SectionAnswer NoMemory) (after : List Slot) (out now : List Op) (is : IfOk r (λ answer. Settled ran.ended answer budget ran.left a1 after out now)) where
  pub handed_is : l.own ≡ Handed → l.before ≡ object.slots → IfOk r (λ answer. SectionIs answer (section p h op.receiver object op.op op.args budget) object (record { class = object.class; slots = after }) out now)
  handed_is in_hand slots =
      ok_told (λ answer. Settled ran.ended answer budget ran.left a1 after out now) (λ answer. SectionIs answer (section p h op.receiver object op.op op.args budget) object (record { class = object.class; slots = after }) out now) r
      (λ answer s. section_told p on place number h op (budget - 1) object m x0 starts entered named hand budget least ran m1 a1 answer after out now (ap (λ l. l.own) lasts ∙ in_hand) (ap (λ l. l.before) lasts ∙ slots) came s)
      is

  pub frozen_so : IfOk r (λ answer. FrozenIs answer (section p h op.receiver object op.op op.args budget) out now)
  frozen_so =
      ok_told (λ answer. Settled ran.ended answer budget ran.left a1 after out now) (λ answer. FrozenIs answer (section p h op.receiver object op.op op.args budget) out now) r
      (λ answer s. frozen_told p on place number h op (budget - 1) object m x0 starts entered named hand budget least ran m1 a1 answer after out now came s)
      is

-- without memory the slots are as before
pub kept_so : (a1 : InSection) (l : Lasting) (object : Object) (r : Result SectionAnswer NoMemory) (after : List Slot) (P : Type 0) → lasting a1 ≡ l → l.before ≡ object.slots → OnErr r ((after ≡ put_back a1.olds.now a1.slots.now) × P) → OnErr r (((record { class = object.class; slots = after }) ≡ object) × P)
kept_so a1 l object r after P lasts slots kept =
    err_told ((after ≡ put_back a1.olds.now a1.slots.now) × P) (((record { class = object.class; slots = after }) ≡ object) × P) r
    (λ k. (ap (λ ss. with_slots object.class ss) (k.0 ∙ (ap (λ l. l.before) lasts ∙ slots)), k.1))
    kept

-- what an answer says by two clauses
ok_both : {T E : Type 0} (P P' Q : T → Type 0) (r : Result T E) → ((x : T) → P x → P' x → Q x) → IfOk r P → IfOk r P' → IfOk r Q
ok_both P P' Q (Ok x) f h g = f x h g
ok_both P P' Q (Err e) f h g = tt

-- what is done can be undone
pub undo_so : (ran : Result (Unit {0}) Stop) (budget left : ℕ) (a1 : InSection) (l : Lasting) (object : Object) (r : Result SectionAnswer NoMemory) (after : List Slot) (out now : List Op) (desk : Desk) (olds : List Old) → lasting a1 ≡ l → l.before ≡ object.slots → AllThere a1.olds.now a1.slots.now → desk.state.olds ≡ olds → IfOk r (λ answer. Settled ran answer budget left a1 after out now) → IfOk r (λ answer. (steps : ℕ) → answer ≡ Done steps → olds ≡ a1.olds.now) → IfOk r (λ answer. (steps : ℕ) → answer ≡ Done steps → CanUndo desk (record { class = object.class; slots = after }) object)
undo_so ran budget left a1 l object r after out now desk olds lasts slots there desk_is is stay =
    ok_both (λ answer. Settled ran answer budget left a1 after out now) (λ answer. (steps : ℕ) → answer ≡ Done steps → olds ≡ a1.olds.now) (λ answer. (steps : ℕ) → answer ≡ Done steps → CanUndo desk (record { class = object.class; slots = after }) object) r
    (λ answer s o steps done. can_undo ran answer budget left a1 after out now desk object s steps done (desk_is ∙ o steps done) there (ap (λ l. l.before) lasts ∙ slots))
    is stay
