-- What an expression means with at most so many steps. Sides, receivers and arguments are evaluated
-- from left to right, and a trap or a step too many ends the evaluation.
use Rattle.std.specs.Prelude.{ℕ, zero, suc, true, false, pos, List, [], ◌∷◌, Option, Some, None, slice_get, Result, Ok, Err}
use Rattle.ca_tree.specs.declared.tree.BinaryOp.{BinaryOp}
use Rattle.ca_tree.specs.declared.tree.BinaryOp.TheVariants.{Or, And}
use Rattle.ca_program.specs.declared.program.FieldId.{FieldId}
use Rattle.ca_program.specs.declared.program.FunctionId.{FunctionId}
use Rattle.ca_program.specs.declared.program.OpId.{OpId}
use Rattle.ca_program.specs.Plain.{Expression, Expressions, number, truth, null, this, local, own, own_item, read, read_item, value_call, unary, binary, no_expressions, expression_and}
use Rattle.ca_model.specs.declared.value.Value.{Value as Datum}
use Rattle.ca_model.specs.declared.value.Value.TheVariants.{Long, Bool as Truth, Null, Ref}
use Rattle.ca_model.specs.declared.value.Slot.{Slot}
use Rattle.ca_model.specs.declared.value.Slot.TheVariants.{One, Many}
use Rattle.ca_model.specs.declared.value.Object.{Object}
use Rattle.ca_model.specs.declared.value.Trap.{Trap}
use Rattle.ca_model.specs.declared.value.TrapKind.{TrapKind}
use Rattle.ca_model.specs.declared.value.TrapKind.TheVariants.{NullPointer, OutOfRange}
pub use Rattle.ca_model.specs.Slots.{one_in}
use Rattle.ca_meaning.specs.Operators.{operated, signed}

-- how an evaluation ends: with a value and the steps that are left, with a trap, or with a step too many
pub data Out (A : Type 0) : Type 0 where
  gives : A → ℕ → Out A
  traps : Trap → Out A
  over : Out A

infixl 10 ◌>>=◌
abbrev pub ◌>>=◌ : {A B : Type 0} → Out A → (A → ℕ → Out B) → Out B
gives v k >>= f = f v k
traps t >>= f = traps t
over >>= f = over

abbrev pub trap_at : ℕ → TrapKind → Trap
trap_at line kind = record { line = line; kind = kind }

-- a step is taken, if one is left
abbrev pub take_step : ℕ → Out (Unit {0})
take_step zero = over
take_step (suc k) = gives tt k

-- Values in locals and slots, null where there is none

abbrev pub or_null : Option Datum → Datum
or_null None = Null
or_null (Some v) = v

abbrev pub value_at : List Datum → ℕ → Datum
value_at vs i = or_null (slice_get vs i)

-- the items of a field that is an array
abbrev pub items_in : Option Slot → List Datum
items_in None = []
items_in (Some (One v)) = []
items_in (Some (Many vs)) = vs

abbrev pub slots_in : Option Object → List Slot
slots_in None = []
slots_in (Some o) = o.slots

-- the slot of a field of object n
abbrev pub slot_of : List Object → ℕ → FieldId → Option Slot
slot_of h n f = slice_get (slots_in (slice_get h n)) f.field

-- Checks

-- the object that a pointer names
abbrev pub pointed : ℕ → Datum → ℕ → Out ℕ
pointed line (Ref n) k = gives n k
pointed line _ k = traps (trap_at line NullPointer)

-- a place in an array, and the value there
pub record Item : Type 0 where
  pub place : ℕ
  pub value : Datum

abbrev pub found : ℕ → ℕ → Option Datum → ℕ → Out Item
found line i (Some v) k = gives (record { place = i; value = v }) k
found line i None k = traps (trap_at line OutOfRange)

-- the item of an array that an index names
abbrev pub indexed : ℕ → List Datum → Datum → ℕ → Out Item
indexed line items (Long (pos i)) k = found line i (slice_get items i) k
indexed line items _ k = traps (trap_at line OutOfRange)

abbrev pub answer : ℕ → Result Datum TrapKind → ℕ → Out Datum
answer line (Ok v) k = gives v k
answer line (Err kind) k = traps (trap_at line kind)

-- Operators with two sides

-- what the left side decides alone
abbrev pub decided : BinaryOp → Datum → Option Datum
decided And (Truth false) = Some (Truth false)
decided Or (Truth true) = Some (Truth true)
decided _ v = None

-- the right side is evaluated only where the left side doesn't decide
abbrev pub unless_decided : Option Datum → ℕ → Out Datum → Out Datum
unless_decided (Some v) k o = gives v k
unless_decided None k o = o

-- Expressions

-- What is fixed while an expression is evaluated: the heap, the receiver, the slots that accesses to
-- the receiver's own fields read, the locals, and the line of the innermost statement.
pub record Place : Type 0 where
  pub heap : List Object
  pub this : Datum
  pub own : List Slot
  pub locals : List Datum
  pub line : ℕ

-- what a call of a value method means: of this method, on this object, with these arguments, with the
-- steps that are left after its own
abbrev pub Calls : Type 0
Calls = FunctionId → ℕ → List Datum → ℕ → Out Datum

abbrev mutual
  pub eval : Calls → Place → Expression → ℕ → Out Datum
  eval c p (number n) k = gives (Long n) k
  eval c p (truth b) k = gives (Truth b) k
  eval c p null k = gives Null k
  eval c p this k = gives p.this k
  eval c p (local l) k = gives (value_at p.locals l.0) k
  eval c p (own f) k = gives (one_in (slice_get p.own f.field)) k
  eval c p (own_item f i) k = eval c p i k >>= λ v k. indexed p.line (items_in (slice_get p.own f.field)) v k >>= λ item k. gives item.value k
  eval c p (read e f) k = eval c p e k >>= λ v k. pointed p.line v k >>= λ n k. gives (one_in (slot_of p.heap n f)) k
  eval c p (read_item e f i) k =
      eval c p e k >>= λ v k. pointed p.line v k >>= λ n k.
      eval c p i k >>= λ v k. indexed p.line (items_in (slot_of p.heap n f)) v k >>= λ item k. gives item.value k
  eval c p (value_call e m arguments) k =
      eval c p e k >>= λ v k. eval_all c p arguments k >>= λ vs k.
      pointed p.line v k >>= λ n k. take_step k >>= λ _ k. c m n vs k
  eval c p (unary op e) k = eval c p e k >>= λ v k. gives (signed op v) k
  eval c p (binary op a b) k =
      eval c p a k >>= λ v k. unless_decided (decided op v) k (eval c p b k >>= λ w k. answer p.line (operated op v w) k)

  pub eval_all : Calls → Place → Expressions → ℕ → Out (List Datum)
  eval_all c p no_expressions k = gives [] k
  eval_all c p (expression_and e es) k = eval c p e k >>= λ v k. eval_all c p es k >>= λ vs k. gives (v ∷ vs) k

-- Calls of operations

-- an operation that is called, with its evaluated receiver and arguments
pub record Invocation : Type 0 where
  pub receiver : ℕ
  pub op : OpId
  pub arguments : List Datum

abbrev pub invocation : ℕ → OpId → List Datum → Invocation
invocation n op vs = record { receiver = n; op = op; arguments = vs }

-- the call that is due: the receiver and the arguments are evaluated, and then the receiver is checked
abbrev pub due : Calls → Place → Expression → OpId → Expressions → ℕ → Out Invocation
due c p e op arguments k =
    eval c p e k >>= λ v k. eval_all c p arguments k >>= λ vs k. pointed p.line v k >>= λ n k. gives (invocation n op vs) k
