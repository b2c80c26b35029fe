-- The run with marks of whoever lists the calls of a marked loop before they run, as an engine is handed them: the
-- section of the loop, and then what that lists. Where either isn't done, the loop runs as the serial run runs it; and so does
-- one that is gone into, which `into` says by how many notes stand before its own.
use Rattle.std.specs.Prelude.{◌≡◌, ℕ, zero, suc, ◌-◌, Bool, true, false, List, [], ◌∷◌, length, map, slice_get}
use Rattle.ca_program.specs.Plain.{PlainProgram, Statement}
use Rattle.ca_model.specs.declared.value.Value.{Value as Datum}
use Rattle.ca_model.specs.declared.value.Value.TheVariants.{Null, Ref}
use Rattle.ca_model.specs.Slots.{start_of}
use Rattle.ca_meaning.specs.Expressions.{due}
use Rattle.ca_meaning.specs.Flows.{Flow, goes_on, gives_back, stops, runs_out, with, Parts, exec, exec_all, turn}
use Rattle.ca_meaning.specs.Functions.{place, body_of, locals_of, functions_of, value_in}
use Rattle.ca_meaning.specs.Serial.{World, fresh, Operations, operation_act, operations_of, serial_parts, serial_ops}
use Rattle.ca_meaning.specs.Sections.{LoopOutcome, LoopSectioned, loop_done, loop_stopped, loop_over, loop_section}
use Rattle.ca_meaning.specs.ProgramTyped.{ProgramTyped}
use Rattle.ca_parallel.specs.Bodies.{targets_of}
use Rattle.ca_parallel.specs.Loops.{IsCallLoop}
use Rattle.ca_parallel.specs.Lists.{PlainMarks, loop_in, note, noted, either, noted_call, noted_run}
use Rattle.ca_parallel.specs.Marks.{SoundMarks}

abbrev pub is_empty : {A : Type 0} → List A → Bool
is_empty [] = true
is_empty (x ∷ xs) = false

-- a loop that puts nothing into fields, so that its section changes no object
abbrev pub puts_nothing : Statement → Bool
puts_nothing s = is_empty (targets_of s)

-- behind the run of what a loop listed, with the loop's locals; where that isn't done, what else is given
abbrev pub behind_list : List Datum → Flow World → Flow World → Flow World
behind_list ls (goes_on _ w k) plain = goes_on ls w k
behind_list ls (gives_back v w k) plain = plain
behind_list ls (stops t w) plain = plain
behind_list ls (runs_out w) plain = plain

-- the world with a note of what a loop listed
abbrev pub with_list : World → ℕ → LoopOutcome → World
with_list w k m = noted w (note w.heap m.listed (k - m.steps))

-- a loop whose section ends so
abbrev pub by_section : (ℕ → Bool) → PlainProgram → Datum → ℕ → List Datum → World → Statement → ℕ → LoopSectioned → Flow World
by_section into p this line ls w loop k (loop_done m) =
    either (into (length w.notes)) (exec (serial_parts p this) line ls (with_list w k m) loop k)
    (behind_list m.locals (serial_ops p m.listed (with_list w k m) (k - m.steps)) (exec (serial_parts p this) line ls (with_list w k m) loop k))
by_section into p this line ls w loop k (loop_stopped t) = exec (serial_parts p this) line ls w loop k
by_section into p this line ls w loop k loop_over = exec (serial_parts p this) line ls w loop k

abbrev pub listing_loop : (ℕ → Bool) → PlainProgram → PlainMarks → Datum → ℕ → List Datum → World → Statement → ℕ → Flow World → Flow World
listing_loop into p ms this line ls w loop k plain =
    either (loop_in ms.loops loop) (either (puts_nothing loop) (by_section into p this line ls w loop k (loop_section p w.heap this ls line loop k)) (exec (serial_parts p this) line ls w loop k)) plain

abbrev pub listing_parts : (ℕ → Bool) → PlainProgram → PlainMarks → Operations → Datum → Parts World
listing_parts into p ms o this = record {
  value = λ line ls w e k. value_in p.functions w.heap this line ls e k;
  act = operation_act p this;
  call = λ line ls w e op arguments k.
      with (due (functions_of p.functions w.heap).call (place w.heap this line ls) e op arguments k) w (λ i k. noted_call ms (operations_of p) o ls i w k);
  again = o.again this;
  begin = listing_loop into p ms this;
}

-- where calls and turns are nested at most n deep
abbrev pub listing_operations : (ℕ → Bool) → ℕ → PlainProgram → PlainMarks → Operations
listing_operations into zero p ms = record { invoke = λ i w k. runs_out w; again = λ this line ls w loop k. runs_out w }
listing_operations into (suc n) p ms = record {
  invoke = λ i w k.
      exec_all (listing_parts into p ms (listing_operations into n p ms) (Ref i.receiver)) (locals_of (slice_get p.ops i.op.0) i.arguments) w (body_of (slice_get p.ops i.op.0)) k;
  again = λ this line ls w loop k. turn (listing_parts into p ms (listing_operations into n p ms) this) line ls w loop k;
}

abbrev pub listing_of : (ℕ → Bool) → PlainProgram → PlainMarks → Operations
listing_of into p ms = record {
  invoke = λ i w k. (listing_operations into (suc k) p ms).invoke i w k;
  again = λ this line ls w loop k. (listing_operations into (suc k) p ms).again this line ls w loop k;
}

-- `main` from the empty heap, with at most k steps
abbrev pub listing_run : (ℕ → Bool) → PlainProgram → PlainMarks → ℕ → Flow World
listing_run into p ms k = exec_all (listing_parts into p ms (listing_of into p ms) Null) (map start_of p.main.locals) (fresh []) p.main.statements k

-- a call loop puts nothing into fields
abbrev pub CallLoopsPutNothing : Type 0
CallLoopsPutNothing = (loop : Statement) → IsCallLoop loop → targets_of loop ≡ []

-- Of a typed program with sound marks it is the run with marks: whoever lists the calls of a loop first, and hands off
-- what that lists, or goes into it, runs what the serial run does.
abbrev pub ListsFirst : Type 0
ListsFirst = (p : PlainProgram) → ProgramTyped p → (marks : PlainMarks) → SoundMarks p marks → CallLoopsPutNothing → (into : ℕ → Bool) (budget : ℕ) → listing_run into p marks budget ≡ noted_run p marks budget
