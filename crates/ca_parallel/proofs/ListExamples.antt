-- Worked examples of what a run with marks hands off, and of runs of operations in order.
use Rattle.std.proofs.Common.{◌≡◌, ℕ, List, [], ◌∷◌, None, refl, codes, pos}
use Rattle.std.specs.Int.{int_wrap}
use Rattle.ca_tree.specs.declared.tree.AssignOp.TheVariants.{Put, Add}
use Rattle.ca_tree.specs.declared.tree.BinaryOp.TheVariants.{Less}
use Rattle.ca_program.specs.declared.program.ValueType.TheVariants.{Long, Pointer}
use Rattle.ca_program.specs.declared.program.ClassId.{ClassId}
use Rattle.ca_program.specs.declared.program.FieldId.{FieldId}
use Rattle.ca_program.specs.declared.program.FirstPart.TheVariants.{Declares}
use Rattle.ca_program.specs.declared.program.LoopId.{LoopId}
use Rattle.ca_program.specs.declared.program.OpId.{OpId}
use Rattle.ca_program.specs.Plain.{PlainProgram, PlainMethod, Expression, number, this, local, binary, no_expressions, expression_and, Statement, Statements, put_local, put_field, new_local, invoke, for_loop, print_value, no_statements, statement_and}
use Rattle.ca_model.specs.declared.value.Value.{Value as Datum}
use Rattle.ca_model.specs.declared.value.Value.TheVariants.{Long as Number}
use Rattle.ca_model.specs.declared.value.Slot.TheVariants.{One}
use Rattle.ca_model.specs.declared.value.Object.{Object}
use Rattle.ca_meaning.specs.Expressions.{Invocation, invocation}
use Rattle.ca_meaning.specs.Flows.{goes_on, runs_out}
use Rattle.ca_meaning.specs.Serial.{World}
use Rattle.ca_parallel.specs.Calls.{RunsTo}
use Rattle.ca_parallel.specs.Lists.{PlainMarks, no_marks, note, lists}

-- class A { public: long n; .. };
abbrev class_a : ClassId
class_a = record { 0 = 0 }

abbrev n : FieldId
n = record { class = class_a; field = 0 }

abbrev add : OpId
add = record { 0 = 0 }

abbrev twice : OpId
twice = record { 0 = 1 }

abbrev say : OpId
say = record { 0 = 2 }

abbrev method : Statements → PlainMethod
method statements = record { class = class_a; name = codes "m"; params = 1; body = record { locals = Long ∷ []; statements = statements }; result = None }

abbrev x : Expression
x = local (record { 0 = 0 })

abbrev i : Expression
i = local (record { 0 = 1 })

-- add(x);
abbrev add_x : Statement
add_x = invoke 2 this add (expression_and x no_expressions)

-- a->op(e);
abbrev call : OpId → Expression → Statement
call op e = invoke 6 (local (record { 0 = 0 })) op (expression_and e no_expressions)

-- for (long i = 0; i < 2; i += 1) a->add(i);
abbrev loop : Statement
loop = for_loop 7 (record { 0 = 0 }) Declares (put_local 7 (record { 0 = 1 }) Put (number (pos 0))) (binary Less i (number (pos 2))) (put_local 7 (record { 0 = 1 }) Add (number (pos 1))) (call add i)

-- void add(long x) { n += x; }
-- void twice(long x) { add(x); add(x); }
-- void say(long x) { print(x); }
-- and these statements of `main`, with the locals A *a and long i
abbrev program : Statements → PlainProgram
program statements = record {
  classes = record { name = codes "A"; fields = record { name = codes "n"; ty = Long; length = None } ∷ [] } ∷ [];
  ops = method (statement_and (put_field 1 n Add x) no_statements)
      ∷ method (statement_and add_x (statement_and add_x no_statements))
      ∷ method (statement_and (print_value 3 x) no_statements)
      ∷ [];
  functions = [];
  main = record { locals = Pointer class_a ∷ Long ∷ []; statements = statements };
}

-- a = new A(); a->twice(3); and then the loop
abbrev whole : PlainProgram
whole = program (statement_and (new_local 5 (record { 0 = 0 }) class_a) (statement_and (call twice (number (pos 3))) (statement_and loop no_statements)))

-- a heap of one object, whose n is this
abbrev heap : ℕ → List Object
heap m = record { class = class_a; slots = One (Number (pos m)) ∷ [] } ∷ []

abbrev of : OpId → ℕ → Invocation
of op m = invocation 0 op (Number (pos m) ∷ [])

abbrev marks : List OpId → List LoopId → PlainMarks
marks ops loops = record { ops = ops; loops = loops }

abbrev the_loop : List LoopId
the_loop = record { 0 = 0 } ∷ []

-- ---- what is handed off, with ten steps

-- a call is handed off with the heap before it and the steps before its own
one_call : lists whole (marks (twice ∷ []) []) 10 ≡ note (heap 0) (of twice 3 ∷ []) 10 ∷ []
unfolding int_wrap
one_call = refl

-- the calls in a call that isn't marked, and in a loop that isn't
each_call : lists whole (marks (add ∷ []) []) 10
    ≡ note (heap 0) (of add 3 ∷ []) 9 ∷ note (heap 3) (of add 3 ∷ []) 8 ∷ note (heap 6) (of add 0 ∷ []) 6 ∷ note (heap 6) (of add 1 ∷ []) 4 ∷ []
unfolding int_wrap
each_call = refl

-- within a marked call or loop nothing is handed off; a loop hands off all that it calls, with the steps behind its own two
outermost : lists whole (marks (add ∷ twice ∷ []) the_loop) 10 ≡ note (heap 0) (of twice 3 ∷ []) 10 ∷ note (heap 6) (of add 0 ∷ of add 1 ∷ []) 5 ∷ []
unfolding int_wrap
outermost = refl

-- with one step left behind the call the loop's two turns aren't done: it is handed off in no other way either
loop_not_done : lists whole (marks (add ∷ []) the_loop) 4 ≡ note (heap 0) (of add 3 ∷ []) 3 ∷ note (heap 3) (of add 3 ∷ []) 2 ∷ []
unfolding int_wrap
loop_not_done = refl

-- a call on null traps before it is handed off
call_on_null : lists (program (statement_and (call twice (number (pos 3))) no_statements)) (marks (twice ∷ []) []) 10 ≡ []
call_on_null = refl

nothing_marked : lists whole no_marks 10 ≡ []
unfolding int_wrap
nothing_marked = refl

-- ---- operations in order

-- say(7); add(7); is done in two steps, whatever it prints
prints : RunsTo whole (heap 1) (of say 7 ∷ of add 7 ∷ []) 5 (heap 8) 2
unfolding int_wrap
prints = record { prints = Number (pos 7) ∷ []; left = 3; run = refl; taken = refl }

not_done : (w u : World) (ls : List Datum) (k : ℕ) → ¬ (runs_out w ≡ goes_on ls u k)
not_done w u ls k e = absurd cc

-- it isn't done in one
too_few : ¬ RunsTo whole (heap 1) (of say 7 ∷ of add 7 ∷ []) 1 (heap 8) 2
too_few s = not_done _ _ _ _ s.run
