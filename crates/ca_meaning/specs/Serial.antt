-- What a program means, run depth first: a call of an operation runs its body at once.
use Rattle.std.specs.Prelude.{ℕ, zero, suc, ◌-◌, Bool, true, false, List, [], ◌∷◌, ◌++◌, length, map, slice_get, slice_set}
use Rattle.ca_program.specs.declared.program.ClassId.{ClassId}
use Rattle.ca_program.specs.declared.program.FieldId.{FieldId}
use Rattle.ca_program.specs.declared.program.OpId.{OpId}
use Rattle.ca_program.specs.Plain.{PlainProgram, Expression, Expressions, Statement, put_field, put_item, new_local, new_field, new_item, print_value}
use Rattle.ca_model.specs.declared.value.Value.{Value as Datum}
use Rattle.ca_model.specs.declared.value.Value.TheVariants.{Null, Ref}
use Rattle.ca_model.specs.declared.value.Object.{Object}
use Rattle.ca_model.specs.declared.value.Trap.{Trap}
use Rattle.ca_model.specs.declared.value.TrapKind.TheVariants.{HeapFull}
use Rattle.ca_model.specs.Slots.{start_of}
use Rattle.ca_model.specs.Heaps.{stored, starts_of, is_full, created}
use Rattle.ca_meaning.specs.Operators.{assigned}
use Rattle.ca_meaning.specs.Expressions.{Out, gives, traps, trap_at, take_step, one_in, items_in, Item, indexed, Invocation, due}
use Rattle.ca_meaning.specs.Flows.{Flow, goes_on, gives_back, stops, runs_out, and_on, with, Parts, exec_all, turn}
use Rattle.ca_meaning.specs.Functions.{own_of, place, body_of, locals_of, functions_of, value_in}

-- A note, of a hand-off: the heap before operations that are about to run, the operations, and the steps left.
pub record Note : Type 0 where
  pub heap : List Object
  pub first : List Invocation
  pub left : ℕ

-- The heap, the values that were printed so far, and the notes that were taken. Nothing here takes one.
pub record World : Type 0 where
  pub heap : List Object
  pub prints : List Datum
  pub notes : List Note

-- a world in which nothing was printed and no note was taken
abbrev pub fresh : List Object → World
fresh h = record { heap = h; prints = []; notes = [] }

abbrev pub in_heap : World → List Object → World
in_heap w h = record { heap = h; prints = w.prints; notes = w.notes }

abbrev pub printed : World → Datum → World
printed w v = record { heap = w.heap; prints = w.prints ++ v ∷ []; notes = w.notes }

-- the heap with the value put into an item of an own field of the receiver
abbrev pub put_own : List Object → Datum → FieldId → ℕ → Datum → List Object
put_own h (Ref n) f i v = stored h n f.field i v
put_own h _ f i v = h

abbrev pub unless_full : Bool → ℕ → ℕ → ℕ → Out ℕ
unless_full true line n k = traps (trap_at line HeapFull)
unless_full false line n k = gives n k

-- the number of a new object of the class, where there is room for it
abbrev pub room_for : PlainProgram → ℕ → List Object → ClassId → ℕ → Out ℕ
room_for p line h c k = unless_full (is_full h (starts_of p c)) line (length h) k

-- an own field before a put, and the own item that an index names
abbrev pub own_value : World → Datum → FieldId → Datum
own_value w this f = one_in (slice_get (own_of w.heap this) f.field)

abbrev pub own_item_at : ℕ → World → Datum → FieldId → Datum → ℕ → Out Item
own_item_at line w this f v k = indexed line (items_in (slice_get (own_of w.heap this) f.field)) v k

-- what a call of an operation means, and a loop in one or in `main` when it comes again
pub record Operations : Type 0 where
  pub invoke : Invocation → World → ℕ → Flow World
  pub again : Datum → ℕ → List Datum → World → Statement → ℕ → Flow World

-- Back in the caller, with its locals. An operation gives no value back, so a run that does ends there.
abbrev pub came_back : List Datum → Flow World → Flow World
came_back ls (goes_on _ w k) = goes_on ls w k
came_back ls (gives_back v w k) = runs_out w
came_back ls (stops t w) = stops t w
came_back ls (runs_out w) = runs_out w

-- a call takes a step and runs at once
abbrev pub run_call : Operations → List Datum → Invocation → World → ℕ → Flow World
run_call o ls i w k = with (take_step k) w (λ _ k. came_back ls (o.invoke i w k))

-- Puts, creations and prints. The index of a target is checked before anything else of the statement,
-- and the old value is read then.
abbrev pub operation_act : PlainProgram → Datum → ℕ → List Datum → World → Statement → ℕ → Flow World
operation_act p this line ls w (put_field _ f op e) k =
    with (value_in p.functions w.heap this line ls e k) w (λ v k.
    goes_on ls (in_heap w (put_own w.heap this f 0 (assigned op (own_value w this f) v))) k)
operation_act p this line ls w (put_item _ f i op e) k =
    with (value_in p.functions w.heap this line ls i k) w (λ v k. with (own_item_at line w this f v k) w (λ item k.
    with (value_in p.functions w.heap this line ls e k) w (λ v k.
    goes_on ls (in_heap w (put_own w.heap this f item.place (assigned op item.value v))) k)))
operation_act p this line ls w (new_local _ l c) k =
    with (room_for p line w.heap c k) w (λ n k. goes_on (slice_set ls l.0 (Ref n)) (in_heap w (created p c w.heap)) k)
operation_act p this line ls w (new_field _ f c) k =
    with (room_for p line w.heap c k) w (λ n k. goes_on ls (in_heap w (put_own (created p c w.heap) this f 0 (Ref n))) k)
operation_act p this line ls w (new_item _ f i c) k =
    with (value_in p.functions w.heap this line ls i k) w (λ v k. with (own_item_at line w this f v k) w (λ item k.
    with (room_for p line w.heap c k) w (λ n k.
    goes_on ls (in_heap w (put_own (created p c w.heap) this f item.place (Ref n))) k)))
operation_act p this line ls w (print_value _ e) k =
    with (value_in p.functions w.heap this line ls e k) w (λ v k. goes_on ls (printed w v) k)
operation_act p this line ls w other k = goes_on ls w k

abbrev pub operation_call : PlainProgram → Operations → Datum → ℕ → List Datum → World → Expression → OpId → Expressions → ℕ → Flow World
operation_call p o this line ls w e op arguments k =
    with (due (functions_of p.functions w.heap).call (place w.heap this line ls) e op arguments k) w (λ i k. run_call o ls i w k)

abbrev pub operation_parts : PlainProgram → Operations → Datum → Parts World
operation_parts p o this = record {
  value = λ line ls w e k. value_in p.functions w.heap this line ls e k;
  act = operation_act p this;
  call = operation_call p o this;
  again = o.again this;
  begin = λ line ls w loop k plain. plain;
}

-- where calls and turns are nested at most n deep
abbrev pub operations : ℕ → PlainProgram → Operations
operations zero p = record { invoke = λ i w k. runs_out w; again = λ this line ls w loop k. runs_out w }
operations (suc n) p = record {
  invoke = λ i w k.
      exec_all (operation_parts p (operations n p) (Ref i.receiver)) (locals_of (slice_get p.ops i.op.0) i.arguments) w (body_of (slice_get p.ops i.op.0)) k;
  again = λ this line ls w loop k. turn (operation_parts p (operations n p) this) line ls w loop k;
}

-- each call and each turn takes a step, so with k left no more than k are nested
abbrev pub operations_of : PlainProgram → Operations
operations_of p = record {
  invoke = λ i w k. (operations (suc k) p).invoke i w k;
  again = λ this line ls w loop k. (operations (suc k) p).again this line ls w loop k;
}

-- what the body of the receiver `this` is made of, in a serial run; `main` has the receiver null
abbrev pub serial_parts : PlainProgram → Datum → Parts World
serial_parts p this = operation_parts p (operations_of p) this

-- operations run in order
abbrev pub serial_ops : PlainProgram → List Invocation → World → ℕ → Flow World
serial_ops p [] w k = goes_on [] w k
serial_ops p (i ∷ is) w k = and_on (run_call (operations_of p) [] i w k) (λ ls w k. serial_ops p is w k)

-- `main` from the empty heap, with at most k steps
abbrev pub main_run : PlainProgram → ℕ → Flow World
main_run p k = exec_all (serial_parts p Null) (map start_of p.main.locals) (fresh []) p.main.statements k

-- how a run ends: done, with the prints, the heap and the steps that it took; by a trap; or spent
pub data Ended : Type 0 where
  done : List Datum → List Object → ℕ → Ended
  trapped : List Datum → Trap → Ended
  spent : List Datum → Ended

abbrev pub ended : ℕ → Flow World → Ended
ended budget (goes_on ls w k) = done w.prints w.heap (budget - k)
ended budget (gives_back v w k) = spent w.prints
ended budget (stops t w) = trapped w.prints t
ended budget (runs_out w) = spent w.prints

-- the depth-first serial run with this budget
abbrev pub serial : PlainProgram → ℕ → Ended
serial p budget = ended budget (main_run p budget)
