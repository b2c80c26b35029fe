-- The section of an operation: what its body does to the receiver alone. Own accesses are made in the
-- object that is handed to it, and each operation that the body calls is listed with its evaluated
-- receiver and arguments instead of made. Everything else, also a read through a pointer that is equal
-- to the receiver, is read in a heap that stays as it is.
use Rattle.std.specs.Prelude.{ℕ, zero, suc, ◌-◌, ◌≡◌, List, [], ◌∷◌, ◌++◌, slice_get, slice_set}
use Rattle.ca_program.specs.declared.program.ClassId.{ClassId}
use Rattle.ca_program.specs.declared.program.FieldId.{FieldId}
use Rattle.ca_program.specs.declared.program.OpId.{OpId}
use Rattle.ca_program.specs.Plain.{PlainProgram, Expression, Expressions, Statement, put_field, put_item}
use Rattle.ca_model.specs.declared.value.Value.{Value as Datum}
use Rattle.ca_model.specs.declared.value.Value.TheVariants.{Ref}
use Rattle.ca_model.specs.declared.value.Slot.{Slot}
use Rattle.ca_model.specs.declared.value.Object.{Object}
use Rattle.ca_model.specs.declared.value.Trap.{Trap}
use Rattle.ca_model.specs.Slots.{put_slot}
use Rattle.ca_meaning.specs.Operators.{assigned}
use Rattle.ca_meaning.specs.Expressions.{Out, take_step, one_in, items_in, Item, indexed, Place, eval, Invocation, invocation, due}
use Rattle.ca_meaning.specs.Flows.{Flow, goes_on, gives_back, stops, runs_out, with, Parts, exec, exec_all, turn}
use Rattle.ca_meaning.specs.Functions.{own_of, body_of, locals_of, functions_of}
use Rattle.ca_meaning.specs.Serial.{World, in_heap, serial_ops}

-- the receiver's slots, and the operations that are listed so far
pub record Section : Type 0 where
  pub own : List Slot
  pub listed : List Invocation

abbrev pub with_own : Section → List Slot → Section
with_own s own = record { own = own; listed = s.listed }

abbrev pub with_listed : Section → Invocation → Section
with_listed s i = record { own = s.own; listed = s.listed ++ i ∷ [] }

abbrev pub section_place : List Object → Datum → List Slot → ℕ → List Datum → Place
section_place h this own line ls = record { heap = h; this = this; own = own; locals = ls; line = line }

abbrev pub section_value : PlainProgram → List Object → Datum → ℕ → List Datum → Section → Expression → ℕ → Out Datum
section_value p h this line ls s e k = eval (functions_of p.functions h).call (section_place h this s.own line ls) e k

abbrev pub section_item_at : ℕ → Section → FieldId → Datum → ℕ → Out Item
section_item_at line s f v k = indexed line (items_in (slice_get s.own f.field)) v k

-- Puts are made in the receiver's slots. A section creates and prints nothing.
abbrev pub section_act : PlainProgram → List Object → Datum → ℕ → List Datum → Section → Statement → ℕ → Flow Section
section_act p h this line ls s (put_field _ f op e) k =
    with (section_value p h this line ls s e k) s (λ v k.
    goes_on ls (with_own s (put_slot s.own f.field 0 (assigned op (one_in (slice_get s.own f.field)) v))) k)
section_act p h this line ls s (put_item _ f i op e) k =
    with (section_value p h this line ls s i k) s (λ v k. with (section_item_at line s f v k) s (λ item k.
    with (section_value p h this line ls s e k) s (λ v k.
    goes_on ls (with_own s (put_slot s.own f.field item.place (assigned op item.value v))) k)))
section_act p h this line ls s other k = goes_on ls s k

-- a call is listed after its receiver is checked
abbrev pub section_call : PlainProgram → List Object → Datum → ℕ → List Datum → Section → Expression → OpId → Expressions → ℕ → Flow Section
section_call p h this line ls s e op arguments k =
    with (due (functions_of p.functions h).call (section_place h this s.own line ls) e op arguments k) s (λ i k. goes_on ls (with_listed s i) k)

-- a loop when it comes again
abbrev pub Again : Type 0
Again = ℕ → List Datum → Section → Statement → ℕ → Flow Section

abbrev pub section_parts_with : PlainProgram → List Object → Datum → Again → Parts Section
section_parts_with p h this again = record {
  value = section_value p h this;
  act = section_act p h this;
  call = section_call p h this;
  again = again;
  begin = λ line ls s loop k plain. plain;
}

-- where turns are nested at most n deep
abbrev pub loops : ℕ → PlainProgram → List Object → Datum → Again
loops zero p h this line ls s loop k = runs_out s
loops (suc n) p h this line ls s loop k = turn (section_parts_with p h this (loops n p h this)) line ls s loop k

-- each turn takes a step, so with k left no more than k are nested
abbrev pub loops_of : PlainProgram → List Object → Datum → Again
loops_of p h this line ls s loop k = loops (suc k) p h this line ls s loop k

-- what the body of the receiver `this` is made of, in a section
abbrev pub section_parts : PlainProgram → List Object → Datum → Parts Section
section_parts p h this = section_parts_with p h this (loops_of p h this)

abbrev pub section_start : List Slot → Section
section_start own = record { own = own; listed = [] }

-- the section of a call on these slots, which begins with the step of the call
abbrev pub section_run : PlainProgram → List Object → Invocation → List Slot → ℕ → Flow Section
section_run p h i own k =
    with (take_step k) (section_start own) (λ _ k.
    exec_all (section_parts p h (Ref i.receiver)) (locals_of (slice_get p.ops i.op.0) i.arguments) (section_start own) (body_of (slice_get p.ops i.op.0)) k)

-- what a complete section leaves: the object, the listed operations in order, and the steps it took
pub record Outcome : Type 0 where
  pub object : Object
  pub listed : List Invocation
  pub steps : ℕ

-- how a section ends; over is where a step past the budget is due
pub data Sectioned : Type 0 where
  done : Outcome → Sectioned
  stopped : Trap → Sectioned
  over : Sectioned

abbrev pub sectioned : ClassId → ℕ → Flow Section → Sectioned
sectioned c budget (goes_on ls s k) = done record { object = record { class = c; slots = s.own }; listed = s.listed; steps = budget - k }
sectioned c budget (gives_back v s k) = over
sectioned c budget (stops t s) = stopped t
sectioned c budget (runs_out s) = over

-- The section on object o, which stands for object r of the frozen heap, within a budget of steps.
abbrev pub section : PlainProgram → List Object → ℕ → Object → OpId → List Datum → ℕ → Sectioned
section p frozen r o op arguments budget = sectioned o.class budget (section_run p frozen (invocation r op arguments) o.slots budget)

-- The section is complete: it leaves this, if there are steps enough.
abbrev pub Completes : PlainProgram → List Object → ℕ → Object → OpId → List Datum → Outcome → Type 0
Completes p frozen r o op arguments outcome =
    (budget : ℕ) × (section p frozen r o op arguments budget ≡ done outcome)

-- how a run goes on after a section on its object r: with the object put back, and then the list
abbrev pub then_listed : PlainProgram → ℕ → World → ℕ → Sectioned → Flow World
then_listed p r w budget (done m) = serial_ops p m.listed (in_heap w (slice_set w.heap r m.object)) (budget - m.steps)
then_listed p r w budget (stopped t) = stops t w
then_listed p r w budget over = runs_out w

-- The section of a loop of serial code, whose own accesses are made in the heap as it is. It begins with
-- no step, and leaves the locals too.
abbrev pub loop_run : PlainProgram → List Object → Datum → List Datum → ℕ → Statement → ℕ → Flow Section
loop_run p h this ls line loop k = exec (section_parts p h this) line ls (section_start (own_of h this)) loop k

pub record LoopOutcome : Type 0 where
  pub locals : List Datum
  pub listed : List Invocation
  pub steps : ℕ

pub data LoopSectioned : Type 0 where
  loop_done : LoopOutcome → LoopSectioned
  loop_stopped : Trap → LoopSectioned
  loop_over : LoopSectioned

abbrev pub loop_sectioned : ℕ → Flow Section → LoopSectioned
loop_sectioned budget (goes_on ls s k) = loop_done record { locals = ls; listed = s.listed; steps = budget - k }
loop_sectioned budget (gives_back v s k) = loop_over
loop_sectioned budget (stops t s) = loop_stopped t
loop_sectioned budget (runs_out s) = loop_over

abbrev pub loop_section : PlainProgram → List Object → Datum → List Datum → ℕ → Statement → ℕ → LoopSectioned
loop_section p h this ls line loop budget = loop_sectioned budget (loop_run p h this ls line loop budget)
