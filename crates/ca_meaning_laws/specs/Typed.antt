-- What it means that evaluations and statements keep a typed heap typed.
use Rattle.std.specs.Prelude.{◌≡◌, ℕ, List, Option, Some, None, slice_get}
use Rattle.ca_program.specs.declared.program.ClassId.{ClassId}
use Rattle.ca_program.specs.declared.program.ValueType.{ValueType}
use Rattle.ca_program.specs.Plain.{PlainProgram}
use Rattle.ca_model.specs.declared.value.Value.{Value as Datum}
use Rattle.ca_model.specs.declared.value.Value.TheVariants.{Ref}
use Rattle.ca_model.specs.declared.value.Slot.{Slot}
use Rattle.ca_model.specs.declared.value.Object.{Object}
use Rattle.ca_model.specs.declared.value.Trap.{Trap}
use Rattle.ca_model.specs.Typed.{IsOfClass, HasType, ObjectTyped, TypedHeap}
use Rattle.ca_meaning.specs.Expressions.{Out, gives, traps, over, Place}
use Rattle.ca_meaning.specs.Flows.{Flow, goes_on, gives_back, stops, runs_out}
use Rattle.ca_meaning.specs.Serial.{World}
use Rattle.ca_meaning.specs.Sections.{Section, Sectioned, done, stopped}
use Rattle.ca_meaning.specs.Sections as sections
use Rattle.ca_meaning.specs.WellTyped.{IsTypedObject}
use Rattle.ca_meaning.specs.ProgramTyped.{Scope}
use Rattle.ca_meaning.specs.WellTyped.{ValuesTyped, AllWellTyped}

-- the value that an evaluation gives, if it gives one, is such a value
pub data Yields {A : Type 0} (P : A → Type 0) : Out A → Type 0 where
  yields : (v : A) (k : ℕ) → P v → Yields P (gives v k)
  yields_trap : (t : Trap) → Yields P (traps t)
  yields_over : Yields P over

-- each object of the one heap is in the other too, with its class
pub record Extends (h g : List Object) : Type 0 where
  pub keeps : (n : ℕ) (c : ClassId) → IsOfClass (slice_get h n) c → IsOfClass (slice_get g n) c

-- where there is a class, the receiver names an object of it
abbrev pub IsReceiver : List Object → Option ClassId → Datum → Type 0
IsReceiver h None this = Unit {0}
IsReceiver h (Some c) (Ref n) = IsOfClass (slice_get h n) c
IsReceiver h (Some c) _ = ⊥

-- and the own slots are those of an object of it
abbrev pub OwnTyped : PlainProgram → List Object → Option ClassId → List Slot → Type 0
OwnTyped p h None own = Unit {0}
OwnTyped p h (Some c) own = ObjectTyped h (slice_get p.classes c.0) own

-- an expression is evaluated in a typed heap, with locals, a receiver and own slots as the scope says
pub record PlaceTyped (p : PlainProgram) (s : Scope) (q : Place) : Type 0 where
  pub heap : TypedHeap p q.heap
  pub this : IsReceiver q.heap s.class q.this
  pub own : OwnTyped p q.heap s.class q.own
  pub locals : ValuesTyped q.heap q.locals s.locals

-- How a statement ends that began with heap h: the state is good, its heap has all objects of h, and the
-- locals, or the value that is given back, have the types that the scope says.
pub data FlowTyped {S : Type 0} (heap : S → List Object) (Good : S → Type 0) (s : Scope) (h : List Object) : Flow S → Type 0 where
  goes_on_typed : (ls : List Datum) (x : S) (k : ℕ) → Good x → Extends h (heap x) → ValuesTyped (heap x) ls s.locals → FlowTyped heap Good s h (goes_on ls x k)
  gives_back_typed : (v : Datum) (x : S) (k : ℕ) (ty : ValueType) → Good x → Extends h (heap x) → s.result ≡ Some ty → HasType (heap x) v ty → FlowTyped heap Good s h (gives_back v x k)
  stops_typed : (t : Trap) (x : S) → Good x → Extends h (heap x) → FlowTyped heap Good s h (stops t x)
  runs_out_typed : (x : S) → Good x → Extends h (heap x) → FlowTyped heap Good s h (runs_out x)

-- However a run that began with heap h ends, its heap is typed and has all objects of h.
pub data KeepsHeap (p : PlainProgram) (h : List Object) : Flow World → Type 0 where
  goes_on_kept : (ls : List Datum) (w : World) (k : ℕ) → TypedHeap p w.heap → Extends h w.heap → KeepsHeap p h (goes_on ls w k)
  gives_back_kept : (v : Datum) (w : World) (k : ℕ) → TypedHeap p w.heap → Extends h w.heap → KeepsHeap p h (gives_back v w k)
  stops_kept : (t : Trap) (w : World) → TypedHeap p w.heap → Extends h w.heap → KeepsHeap p h (stops t w)
  runs_out_kept : (w : World) → TypedHeap p w.heap → Extends h w.heap → KeepsHeap p h (runs_out w)

-- The heap of a serial run and its receiver are typed.
pub record WorldTyped (p : PlainProgram) (s : Scope) (this : Datum) (w : World) : Type 0 where
  pub heap : TypedHeap p w.heap
  pub receiver : IsReceiver w.heap s.class this

-- The own slots of a section are typed in the frozen heap, and the operations that it lists are well typed there.
pub record SectionTyped (p : PlainProgram) (h : List Object) (s : Scope) (x : Section) : Type 0 where
  pub own : OwnTyped p h s.class x.own
  pub listed : AllWellTyped p h x.listed

-- the heap in which the locals of a statement are typed
abbrev pub heap_of : World → List Object
heap_of w = w.heap

abbrev pub frozen_heap : {S : Type 0} → List Object → S → List Object
frozen_heap h x = h

-- what a complete section leaves: a typed object of its class, and well typed calls
abbrev pub SectionLeaves : PlainProgram → List Object → ClassId → Sectioned → Type 0
SectionLeaves p h c (done m) = IsTypedObject p h c m.object × AllWellTyped p h m.listed
SectionLeaves p h c (stopped t) = Unit {0}
SectionLeaves p h c sections.over = Unit {0}
