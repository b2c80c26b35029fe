-- Worked examples of layouts and of whole runs of laid-out programs.
use Rattle.std.proofs.Common.{◌≡◌, ℕ, List, [], ◌∷◌, ◌++◌, length, map, ◌+◌, Some, None, refl, codes, pos, true}
use Rattle.std.specs.Int.{int_wrap}
use Rattle.ca_tree.specs.declared.tree.AssignOp.TheVariants.{Put, Add}
use Rattle.ca_tree.specs.declared.tree.UnaryOp.TheVariants as sign
use Rattle.ca_tree.specs.declared.tree.BinaryOp.TheVariants.{And, Plus, Times, Less}
use Rattle.ca_program.specs.declared.program.ValueType.TheVariants.{Long as LongType, Pointer}
use Rattle.ca_program.specs.declared.program.ClassId.{ClassId}
use Rattle.ca_program.specs.declared.program.FieldId.{FieldId}
use Rattle.ca_program.specs.declared.program.FirstPart.TheVariants.{Declares}
use Rattle.ca_program.specs.declared.program.FunctionId.{FunctionId}
use Rattle.ca_program.specs.declared.program.LoopId.{LoopId}
use Rattle.ca_program.specs.declared.program.OpId.{OpId}
use Rattle.ca_program.specs.Plain.{PlainProgram, PlainMethod, Expression, number, truth, null, this, local, own, own_item, read, read_item, value_call, unary, binary, no_expressions, expression_and, Statement, Statements, block, put_local, put_field, put_item, new_local, new_field, new_item, invoke, if_else, while_loop, for_loop, return_value, print_value, no_statements, statement_and}
use Rattle.ca_model.specs.declared.value.Value.TheVariants.{Long, Ref}
use Rattle.ca_model.specs.declared.value.Slot.TheVariants.{One}
use Rattle.ca_model.specs.declared.value.Object.{Object}
use Rattle.ca_model.specs.declared.value.TrapKind.TheVariants.{NullPointer}
use Rattle.ca_meaning.specs.Expressions.{trap_at, invocation}
use Rattle.ca_meaning.specs.Serial.{World, fresh, serial}
use Rattle.ca_meaning.specs.Sections.{section_start}
use Rattle.ca_parallel.specs.Lists.{PlainMarks, note}
use Rattle.ca_note_laws.specs.Listing.{listing_run}
use Rattle.ca_program.specs.Kinds.{Kinds, as_long, as_truth, as_pointer, kinds_in}
use Rattle.ca_program.specs.Instructions.{Constant, Receiver, Move, Own, OwnItem, Field, Item, Unary, Binary, Update, Check, CheckItem, Decide, Jump, Unless, Turn, Call, Return, Lack, Leave, PutField, PutItem, NewLocal, NewField, NewItem, Print, Invoke, Heed, Hand, Placed, on, Code}
use Rattle.ca_program.specs.Layout.{no_acts, all_acts, no_hands, expression_code, statement_code, function_code, operation_code, main_code}
use Rattle.ca_code_laws.specs.Heeding.{begin_at, heed_acts, heed_hands, heeding_code, main_heeding}
use Rattle.ca_code_laws.specs.Machine.{Outcome, Finished, Trapped, Spent, runs}
use Rattle.ca_code_laws.specs.Runs.{never, run_access, run_into, section_access, beginning, outcome_of, ended_as}

abbrev class_a : ClassId
class_a = record { 0 = 0 }

abbrev n : FieldId
n = record { class = class_a; field = 0 }

abbrev a : FieldId
a = record { class = class_a; field = 1 }

abbrev double : FunctionId
double = record { 0 = 0 }

abbrev add : OpId
add = record { 0 = 0 }

-- two locals
abbrev p : Expression
p = local (record { 0 = 0 })

abbrev i : Expression
i = local (record { 0 = 1 })

abbrev one : Expression
one = number (pos 1)

-- long double(long x) { return x + x; }
abbrev doubles : PlainMethod
doubles = record { class = class_a; name = codes "double"; params = 1; body = record { locals = LongType ∷ []; statements = statement_and (return_value 2 (binary Plus p p)) no_statements }; result = Some LongType }

-- class A { public: long n; long a[2]; .. }; and the kinds in a body with the locals A *p and long i
abbrev kinds : Kinds
kinds = kinds_in (record { classes = record { name = codes "A"; fields = record { name = codes "n"; ty = LongType; length = None } ∷ record { name = codes "a"; ty = LongType; length = Some 2 } ∷ [] } ∷ []; ops = []; functions = doubles ∷ []; main = record { locals = []; statements = no_statements } }) (Pointer class_a ∷ LongType ∷ [])

-- ---- expressions on line 3, into slot 5 of a frame whose slots from 7 on are free

abbrev laid : Expression → List Placed
laid e = expression_code kinds 3 e 5 7

constants : laid one ++ (laid (truth true) ++ laid null) ≡ on 3 (Constant 5 (pos 1)) ∷ on 3 (Constant 5 (pos 1)) ∷ on 3 (Constant 5 (pos 0)) ∷ []
constants = refl

places : laid this ++ (laid i ++ laid (own n)) ≡ on 3 (Receiver 5) ∷ on 3 (Move 5 1) ∷ on 3 (Own 5 as_long n) ∷ []
places = refl

-- a[i] reads its index in place; a[1] puts it into the first free slot
own_items : laid (own_item a i) ++ laid (own_item a one) ≡ on 3 (OwnItem 5 as_long a 1) ∷ on 3 (Constant 7 (pos 1)) ∷ on 3 (OwnItem 5 as_long a 7) ∷ []
own_items = refl

-- p->n; p->a[1], where the pointer is checked before the index is evaluated
others : laid (read p n) ++ laid (read_item p a one) ≡ on 3 (Field 5 0 as_long n) ∷ on 3 (Check 0) ∷ on 3 (Constant 8 (pos 1)) ∷ on 3 (Item 5 0 as_long a 8) ∷ []
others = refl

-- p->double(i): receiver and argument in a row, and the value into slot 5
calls : laid (value_call p double (expression_and i no_expressions)) ≡ on 3 (Move 7 0) ∷ on 3 (Move 8 1) ∷ on 3 (Call double 7 5) ∷ []
calls = refl

-- -i; i * (1 + n)
operators : laid (unary sign.Minus i) ++ laid (binary Times i (binary Plus one (own n)))
    ≡ on 3 (Unary 5 sign.Minus 1) ∷ on 3 (Constant 8 (pos 1)) ∷ on 3 (Own 9 as_long n) ∷ on 3 (Binary 8 Plus as_long as_long 8 9) ∷ on 3 (Binary 5 Times as_long as_long 1 8) ∷ []
operators = refl

-- `!i && i`: what the left side decides passes over the operator
conjunction : laid (binary And (unary sign.Not i) i) ≡ on 3 (Unary 7 sign.Not 1) ∷ on 3 (Decide 5 And 7 1) ∷ on 3 (Binary 5 And as_truth as_long 7 1) ∷ []
conjunction = refl

-- ---- statements of an operation with two locals

abbrev stands_as : Statement → List Placed
stands_as s = statement_code kinds (all_acts kinds) no_hands 4 s 2

-- i = i + 1; and i += 1;
locals_put : stands_as (put_local 4 (record { 0 = 1 }) Put (binary Plus i one)) ++ stands_as (put_local 4 (record { 0 = 1 }) Add one)
    ≡ on 4 (Constant 3 (pos 1)) ∷ on 4 (Binary 1 Plus as_long as_long 1 3) ∷ on 4 (Constant 2 (pos 1)) ∷ on 4 (Update 1 Add as_long 2) ∷ []
locals_put = refl

-- n += i; and a[1] = i;, where the index is checked before the right side is evaluated
fields_put : stands_as (put_field 4 n Add i) ++ stands_as (put_item 4 a one Put (own n))
    ≡ on 4 (PutField n Add as_long 1) ∷ on 4 (Constant 2 (pos 1)) ∷ on 4 (CheckItem a 2) ∷ on 4 (Own 3 as_long n) ∷ on 4 (PutItem a 2 Put as_long 3) ∷ []
fields_put = refl

made : stands_as (new_local 4 (record { 0 = 0 }) class_a) ++ (stands_as (new_field 4 n class_a) ++ stands_as (new_item 4 a i class_a)) ≡ on 4 (NewLocal 0 class_a) ∷ on 4 (NewField n class_a) ∷ on 4 (NewItem a 1 class_a) ∷ []
made = refl

called : stands_as (invoke 4 p add (expression_and one no_expressions)) ++ stands_as (print_value 4 i) ≡ on 4 (Move 2 0) ∷ on 4 (Constant 3 (pos 1)) ∷ on 4 (Invoke add 2) ∷ on 4 (Print as_long 1) ∷ []
called = refl

-- if (i) n = 1; else { }, with branches on lines of their own
branches : stands_as (if_else 4 i (put_field 5 n Put one) (block 6 no_statements)) ≡ on 4 (Unless 1 3) ∷ on 5 (Constant 2 (pos 1)) ∷ on 5 (PutField n Put as_long 2) ∷ on 4 (Jump 0) ∷ []
branches = refl

-- while (i) n = 1;: its body, its condition and the turn
turns : stands_as (while_loop 4 i (put_field 5 n Put one)) ≡ on 4 (Jump 2) ∷ on 5 (Constant 2 (pos 1)) ∷ on 5 (PutField n Put as_long 2) ∷ on 4 (Turn 1 2) ∷ []
turns = refl

given_back : statement_code kinds no_acts no_hands 4 (return_value 4 (own n)) 2 ≡ on 4 (Own 2 as_long n) ∷ on 4 (Return 2) ∷ []
given_back = refl

-- ---- a program

-- for (long i = 0; i < 2; i += 1) p->add(i);
abbrev loop : Statement
loop = for_loop 7 (record { 0 = 0 }) Declares (put_local 7 (record { 0 = 1 }) Put (number (pos 0))) (binary Less i (number (pos 2))) (put_local 7 (record { 0 = 1 }) Add one) (invoke 7 p add (expression_and i no_expressions))

-- void add(long x) { n += double(x); }
abbrev adds : PlainMethod
adds = record { class = class_a; name = codes "add"; params = 1; body = record { locals = LongType ∷ []; statements = statement_and (put_field 3 n Add (value_call this double (expression_and p no_expressions))) no_statements }; result = None }

-- A *p; p = new A(); the loop; print(p->n);
abbrev program : Statements → PlainProgram
program statements = record {
  classes = record { name = codes "A"; fields = record { name = codes "n"; ty = LongType; length = None } ∷ [] } ∷ [];
  ops = adds ∷ [];
  functions = doubles ∷ [];
  main = record { locals = Pointer class_a ∷ LongType ∷ []; statements = statements };
}

abbrev whole : PlainProgram
whole = program (statement_and (new_local 6 (record { 0 = 0 }) class_a) (statement_and loop (statement_and (print_value 8 (read p n)) no_statements)))

value_method : function_code whole doubles ≡ on 2 (Binary 1 Plus as_long as_long 0 0) ∷ on 2 (Return 1) ∷ on 0 Lack ∷ []
value_method = refl

operation : operation_code whole adds ≡ on 3 (Receiver 1) ∷ on 3 (Move 2 0) ∷ on 3 (Call double 1 1) ∷ on 3 (PutField n Add as_long 1) ∷ on 0 Leave ∷ []
operation = refl

main : main_code whole
    ≡ on 0 (Constant 0 (pos 0)) ∷ on 0 (Constant 1 (pos 0)) ∷ on 6 (NewLocal 0 class_a)
    ∷ on 7 (Constant 1 (pos 0)) ∷ on 7 (Jump 5)
    ∷ on 7 (Move 2 0) ∷ on 7 (Move 3 1) ∷ on 7 (Invoke add 2)
    ∷ on 7 (Constant 2 (pos 1)) ∷ on 7 (Update 1 Add as_long 2)
    ∷ on 7 (Constant 3 (pos 2)) ∷ on 7 (Binary 2 Less as_long as_long 1 3) ∷ on 7 (Turn 2 7)
    ∷ on 8 (Field 2 0 as_long n) ∷ on 8 (Print as_long 2) ∷ on 0 Leave ∷ []
main = refl

abbrev marks : List OpId → List LoopId → PlainMarks
marks ops loops = record { ops = ops; loops = loops }

abbrev add_marked : PlainMarks
add_marked = marks (add ∷ []) []

abbrev loop_marked : PlainMarks
loop_marked = marks [] (record { 0 = 0 } ∷ [])

-- the two bodies, `main`, and where marks are heeded the operation and `main` once more
abbrev all_placed : PlainMarks → PlainProgram → List Placed
all_placed ms q = function_code q doubles ++ (operation_code q adds ++ (main_code q ++ (heeding_code ms q adds ++ main_heeding ms q)))

abbrev at_main : ℕ
at_main = 8

abbrev at_heeding : PlainProgram → ℕ
at_heeding q = length (function_code q doubles ++ (operation_code q adds ++ main_code q))

abbrev code : PlainMarks → PlainProgram → Code
code ms q = record {
  items = map (λ (i : Placed). i.instruction) (all_placed ms q);
  lines = map (λ (i : Placed). i.line) (all_placed ms q);
  loops = map (λ (i : Placed). i.loop) (all_placed ms q);
  functions = 0 ∷ [];
  ops = 3 ∷ [];
  heeding = at_heeding q ∷ [];
  params = (as_long ∷ []) ∷ [];
}

-- at most 100 instructions of `main` with a budget
abbrev ran : PlainProgram → ℕ → Outcome World
ran q budget = runs (run_access q) (code add_marked q) 100 (beginning at_main budget)

abbrev with_n : ℕ → List Object
with_n x = record { class = class_a; slots = One (Long (pos x)) ∷ [] } ∷ []

-- two turns, two calls of the operation and two of the value method take six steps
six_steps : ran whole 6 ≡ Finished (record { heap = with_n 2; prints = Long (pos 2) ∷ []; notes = [] }) 0
unfolding int_wrap
six_steps = refl

more_steps : ended_as 9 (ran whole 9) ≡ serial whole 9
unfolding int_wrap
more_steps = refl

-- with fewer, each is due once: the first turn, the first call, its value method, and the same again
first_turn : ran whole 0 ≡ Spent (fresh (with_n 0))
first_turn = refl

first_call : ran whole 1 ≡ Spent (fresh (with_n 0))
first_call = refl

first_value_method : ran whole 2 ≡ Spent (fresh (with_n 0))
first_value_method = refl

second_turn : ran whole 3 ≡ Spent (fresh (with_n 0))
unfolding int_wrap
second_turn = refl

second_call : ran whole 4 ≡ Spent (fresh (with_n 0))
unfolding int_wrap
second_call = refl

second_value_method : ran whole 5 ≡ Spent (fresh (with_n 0))
unfolding int_wrap
second_value_method = refl

-- where nothing was made the first call traps, on its line, once its turn's step is taken
no_object : ran (program (statement_and loop no_statements)) 6 ≡ Trapped (trap_at 7 NullPointer) (fresh [])
no_object = refl

-- ---- with marks

-- a marked call is handed on, and one that isn't goes on heeding
marked_call : heed_acts add_marked kinds 4 (invoke 4 p add no_expressions) 2 ++ heed_acts loop_marked kinds 4 (invoke 4 p add no_expressions) 2 ≡ on 4 (Move 2 0) ∷ on 4 (Hand add 2) ∷ on 4 (Move 2 0) ∷ on 4 (Heed add 2) ∷ []
marked_call = refl

-- a marked loop is its code behind one instruction that may pass over it
marked_loop : statement_code kinds (heed_acts loop_marked kinds) (heed_hands loop_marked kinds (as_pointer ∷ as_long ∷ [])) 7 loop 2 ≡ begin_at 7 loop (as_pointer ∷ as_long ∷ []) 10 ∷ statement_code kinds (all_acts kinds) no_hands 7 loop 2
marked_loop = refl

-- each call is noted with the heap and the steps before it
two_notes : runs (run_access whole) (code add_marked whole) 100 (beginning (at_heeding whole + length (heeding_code add_marked whole adds)) 6)
    ≡ Finished (record { heap = with_n 2; prints = Long (pos 2) ∷ []; notes = note (with_n 0) (invocation 0 add (Long (pos 0) ∷ []) ∷ []) 5 ∷ note (with_n 0) (invocation 0 add (Long (pos 1) ∷ []) ∷ []) 2 ∷ [] }) 0
unfolding int_wrap
two_notes = refl

-- a call whose run isn't done is noted too, and its body runs: with two steps, the first turn's and the first call's, its value
-- method is due
one_note_spent : runs (run_access whole) (code add_marked whole) 100 (beginning (at_heeding whole + length (heeding_code add_marked whole adds)) 2)
    ≡ Spent (record { heap = with_n 0; prints = []; notes = note (with_n 0) (invocation 0 add (Long (pos 0) ∷ []) ∷ []) 1 ∷ [] })
one_note_spent = refl

-- the loop is noted once, with both calls and the steps behind its own two, and then passed over
one_note : runs (run_access whole) (code loop_marked whole) 100 (beginning (at_heeding whole + length (heeding_code loop_marked whole adds)) 6)
    ≡ Finished (record { heap = with_n 2; prints = Long (pos 2) ∷ []; notes = note (with_n 0) (invocation 0 add (Long (pos 0) ∷ []) ∷ invocation 0 add (Long (pos 1) ∷ []) ∷ []) 4 ∷ [] }) 0
unfolding int_wrap
one_note = refl

as_it_lists_first : runs (run_access whole) (code loop_marked whole) 100 (beginning (at_heeding whole + length (heeding_code loop_marked whole adds)) 6) ≡ outcome_of (listing_run never whole loop_marked 6)
unfolding int_wrap
as_it_lists_first = refl

-- gone into it is noted all the same, and its code runs to the same end
gone_into : runs (run_into (λ n. true) whole) (code loop_marked whole) 100 (beginning (at_heeding whole + length (heeding_code loop_marked whole adds)) 6) ≡ runs (run_access whole) (code loop_marked whole) 100 (beginning (at_heeding whole + length (heeding_code loop_marked whole adds)) 6)
unfolding int_wrap
gone_into = refl

-- ---- a section

-- the section of `add(4)` on an object whose n is 1, which stands for object 0 of a heap where it is 9: the value method takes a
-- step, and nothing is listed
own_section : runs (section_access (with_n 9)) (code add_marked whole) 100 (record { at = 3; base = 0; left = 5; this = Ref 0; below = []; slots = λ j. pos 4; world = section_start (One (Long (pos 1)) ∷ []) })
    ≡ Finished (record { own = One (Long (pos 9)) ∷ []; listed = [] }) 4
unfolding int_wrap
own_section = refl

section_spent : runs (section_access (with_n 9)) (code add_marked whole) 100 (record { at = 3; base = 0; left = 0; this = Ref 0; below = []; slots = λ j. pos 4; world = section_start (One (Long (pos 1)) ∷ []) })
    ≡ Spent (section_start (One (Long (pos 1)) ∷ []))
section_spent = refl
