-- What a call of a value method means. It changes nothing but its own locals, so its body runs over a
-- state that says nothing.
use Rattle.std.specs.Prelude.{ℕ, zero, suc, List, [], ◌++◌, map, drop, Option, Some, None, slice_get}
use Rattle.ca_program.specs.Plain.{Expression, Expressions, Statement, Statements, no_statements, PlainMethod}
use Rattle.ca_model.specs.declared.value.Value.{Value as Datum}
use Rattle.ca_model.specs.declared.value.Value.TheVariants.{Null, Ref}
use Rattle.ca_model.specs.declared.value.Slot.{Slot}
use Rattle.ca_model.specs.declared.value.Object.{Object}
use Rattle.ca_model.specs.Slots.{start_of}
use Rattle.ca_meaning.specs.Expressions.{Out, gives, traps, over, slots_in, Place, Calls, eval, eval_all}
use Rattle.ca_meaning.specs.Flows.{Flow, goes_on, gives_back, stops, runs_out, Parts, exec_all, turn}

-- the slots of the receiver
abbrev pub own_of : List Object → Datum → List Slot
own_of h (Ref n) = slots_in (slice_get h n)
own_of h _ = []

abbrev pub place : List Object → Datum → ℕ → List Datum → Place
place h this line ls = record { heap = h; this = this; own = own_of h this; locals = ls; line = line }

-- the statements of a method
abbrev pub body_of : Option PlainMethod → Statements
body_of None = no_statements
body_of (Some m) = m.body.statements

-- The locals that a call begins with: the arguments, and what the other locals start with.
abbrev pub locals_of : Option PlainMethod → List Datum → List Datum
locals_of None arguments = arguments
locals_of (Some m) arguments = arguments ++ map start_of (drop m.params m.body.locals)

-- what a body gives back, and null where it ends without a `return`
abbrev pub value_of_body : Flow (Unit {0}) → Out Datum
value_of_body (goes_on ls s k) = gives Null k
value_of_body (gives_back v s k) = gives v k
value_of_body (stops t s) = traps t
value_of_body (runs_out s) = over

-- what a call of a value method means, and a loop in one when it comes again
pub record Functions : Type 0 where
  pub call : Calls
  pub again : Datum → ℕ → List Datum → Unit {0} → Statement → ℕ → Flow (Unit {0})

abbrev pub function_parts : Functions → List Object → Datum → Parts (Unit {0})
function_parts f h this = record {
  value = λ line ls s e k. eval f.call (place h this line ls) e k;
  act = λ line ls s statement k. goes_on ls s k;
  call = λ line ls s e op arguments k. goes_on ls s k;
  again = f.again this;
  begin = λ line ls s loop k plain. plain;
}

-- where calls and turns are nested at most n deep
abbrev pub functions : ℕ → List PlainMethod → List Object → Functions
functions zero ms h = record { call = λ m r vs k. over; again = λ this line ls s loop k. runs_out s }
functions (suc n) ms h = record {
  call = λ m r vs k.
      value_of_body (exec_all (function_parts (functions n ms h) h (Ref r)) (locals_of (slice_get ms m.0) vs) tt (body_of (slice_get ms m.0)) k);
  again = λ this line ls s loop k. turn (function_parts (functions n ms h) h this) line ls s loop k;
}

-- each call and each turn takes a step, so with k left no more than k are nested
abbrev pub functions_of : List PlainMethod → List Object → Functions
functions_of ms h = record {
  call = λ m r vs k. (functions (suc k) ms h).call m r vs k;
  again = λ this line ls s loop k. (functions (suc k) ms h).again this line ls s loop k;
}

-- the meaning of an expression in the heap, with at most k steps
abbrev pub value_in : List PlainMethod → List Object → Datum → ℕ → List Datum → Expression → ℕ → Out Datum
value_in ms h this line ls e k = eval (functions_of ms h).call (place h this line ls) e k

abbrev pub values_in : List PlainMethod → List Object → Datum → ℕ → List Datum → Expressions → ℕ → Out (List Datum)
values_in ms h this line ls es k = eval_all (functions_of ms h).call (place h this line ls) es k
