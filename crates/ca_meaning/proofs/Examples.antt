-- Worked examples of operators, of the order of evaluation, and of small programs.
use Rattle.std.proofs.Common.{◌≡◌, ℕ, Bool, [], ◌∷◌, None, Some, Ok, Err, refl, codes, pos, negsuc, true, false, arith}
use Rattle.std.specs.Prelude.{count_by}
use Rattle.std.specs.Int.{int_wrap}
use Rattle.std.specs.Fmt.{digits}
use Rattle.ca_tree.specs.declared.tree.AssignOp.TheVariants.{Put, Add, Sub, Mul}
use Rattle.ca_tree.specs.declared.tree.AssignOp.TheVariants as change
use Rattle.ca_tree.specs.declared.tree.UnaryOp.TheVariants as sign
use Rattle.ca_tree.specs.declared.tree.BinaryOp.TheVariants.{Or, And, Equal, NotEqual, Less, LessEqual, Plus, Minus, Times, Divide, Remainder, BitAnd, BitOr, BitXor, Max, Min}
use Rattle.ca_program.specs.declared.program.ValueType.TheVariants.{Long as LongType, Pointer}
use Rattle.ca_program.specs.declared.program.ClassId.{ClassId}
use Rattle.ca_program.specs.declared.program.FieldId.{FieldId}
use Rattle.ca_program.specs.declared.program.FirstPart.TheVariants.{Assigns}
use Rattle.ca_program.specs.Plain.{PlainProgram, PlainClass, PlainMethod, Expression, Expressions, number, truth, null, this, local, own, read, read_item, value_call, binary, no_expressions, expression_and, Statement, Statements, block, put_local, put_field, put_item, new_local, invoke, if_else, while_loop, for_loop, return_value, print_value, no_statements, statement_and}
use Rattle.ca_model.specs.declared.value.Value.TheVariants.{Long, Bool as Truth, Null, Ref}
use Rattle.ca_model.specs.declared.value.Slot.TheVariants.{One, Many}
use Rattle.ca_model.specs.declared.value.Object.{Object}
use Rattle.ca_model.specs.declared.value.TrapKind.TheVariants.{NullPointer, OutOfRange, ZeroDivisor}
use Rattle.ca_meaning.specs.Operators.{operated, signed, assigned}
use Rattle.ca_meaning.specs.Expressions.{gives, traps, over, trap_at, indexed, Invocation, invocation}
use Rattle.ca_meaning.specs.Functions.{value_in}
use Rattle.ca_meaning.specs.Serial.{done, trapped, spent, serial}
use Rattle.ca_meaning.specs.Output.{output}
use Rattle.ca_meaning.specs.Sections.{Sectioned, section, loop_section}
use Rattle.ca_meaning.specs.Sections as sections
use Rattle.ca_meaning.specs.Multisets.{SameItems}
use Rattle.ca_meaning.proofs.Weights.{counted_by_weights}

-- ---- operators

wraps_round : operated Plus (Long (pos 9223372036854775807)) (Long (pos 1)) ≡ Ok (Long (negsuc 9223372036854775807))
unfolding int_wrap
wraps_round = refl

quotient : operated Divide (Long (negsuc 6)) (Long (pos 2)) ≡ Ok (Long (negsuc 2))
quotient = refl

remainder : operated Remainder (Long (negsuc 6)) (Long (pos 2)) ≡ Ok (Long (negsuc 0))
remainder = refl

least_quotient : operated Divide (Long (negsuc 9223372036854775807)) (Long (negsuc 0)) ≡ Ok (Long (negsuc 9223372036854775807))
least_quotient = refl

least_remainder : operated Remainder (Long (negsuc 9223372036854775807)) (Long (negsuc 0)) ≡ Ok (Long (pos 0))
least_remainder = refl

no_quotient : operated Divide (Long (pos 7)) (Long (pos 0)) ≡ Err ZeroDivisor
no_quotient = refl

minus_least : signed sign.Minus (Long (negsuc 9223372036854775807)) ≡ Long (negsuc 9223372036854775807)
unfolding int_wrap
minus_least = refl

difference_wraps : operated Minus (Long (negsuc 9223372036854775807)) (Long (pos 1)) ≡ Ok (Long (pos 9223372036854775807))
unfolding int_wrap
difference_wraps = refl

product_wraps : operated Times (Long (pos 4611686018427387904)) (Long (pos 2)) ≡ Ok (Long (negsuc 9223372036854775807))
unfolding int_wrap
product_wraps = refl

-- 7 / -2 and 7 % -2: rounded toward zero, and the sign of the dividend
quotient_by_negative : operated Divide (Long (pos 7)) (Long (negsuc 1)) ≡ Ok (Long (negsuc 2))
quotient_by_negative = refl

remainder_by_negative : operated Remainder (Long (pos 7)) (Long (negsuc 1)) ≡ Ok (Long (pos 1))
remainder_by_negative = refl

no_remainder : operated Remainder (Long (pos 7)) (Long (pos 0)) ≡ Err ZeroDivisor
no_remainder = refl

not_less : operated Less (Long (pos 3)) (Long (pos 3)) ≡ Ok (Truth false)
not_less = refl

less_or_equal : operated LessEqual (Long (pos 3)) (Long (pos 3)) ≡ Ok (Truth true)
less_or_equal = refl

negative_is_less : operated Less (Long (negsuc 1)) (Long (pos 1)) ≡ Ok (Truth true)
negative_is_less = refl

-- pointers are equal where both are null or both name one object
null_is_null : operated Equal Null Null ≡ Ok (Truth true)
null_is_null = refl

first_is_not_null : operated NotEqual (Ref 0) Null ≡ Ok (Truth true)
first_is_not_null = refl

other_object : operated Equal (Ref 1) (Ref 2) ≡ Ok (Truth false)
other_object = refl

-- no typed program adds truth values
mixed : operated Plus (Truth true) (Truth true) ≡ Ok Null
mixed = refl

-- 6 & 3, 6 | 3 and 6 ^ 3
common_bits : operated BitAnd (Long (pos 6)) (Long (pos 3)) ≡ Ok (Long (pos 2))
common_bits = refl

bits_of_either : operated BitOr (Long (pos 6)) (Long (pos 3)) ≡ Ok (Long (pos 7))
bits_of_either = refl

bits_of_one : operated BitXor (Long (pos 6)) (Long (pos 3)) ≡ Ok (Long (pos 5))
bits_of_one = refl

-- -1 has all 64 bits
minus_one_and_zero : operated BitXor (Long (negsuc 0)) (Long (pos 0)) ≡ Ok (Long (negsuc 0))
minus_one_and_zero = refl

last_bit : operated BitAnd (Long (negsuc 0)) (Long (pos 9223372036854775807)) ≡ Ok (Long (pos 9223372036854775807))
last_bit = refl

first_bit : operated BitXor (Long (negsuc 9223372036854775807)) (Long (pos 9223372036854775807)) ≡ Ok (Long (negsuc 0))
first_bit = refl

-- max(-1, 2) and min(-1, 2), of signed numbers
greater : operated Max (Long (negsuc 0)) (Long (pos 2)) ≡ Ok (Long (pos 2))
greater = refl

lesser : operated Min (Long (negsuc 0)) (Long (pos 2)) ≡ Ok (Long (negsuc 0))
lesser = refl

-- and no typed program takes the bits of truth values
bits_of_truth_values : operated BitAnd (Truth true) (Truth true) ≡ Ok Null
bits_of_truth_values = refl

takes_three : assigned Sub (Long (pos 5)) (Long (pos 3)) ≡ Long (pos 2)
unfolding int_wrap
takes_three = refl

times_three : assigned Mul (Long (pos 5)) (Long (pos 3)) ≡ Long (pos 15)
unfolding int_wrap
times_three = refl

-- from 6, by &= 3, |= 3 and ^= 3
and_three : assigned change.BitAnd (Long (pos 6)) (Long (pos 3)) ≡ Long (pos 2)
and_three = refl

or_three : assigned change.BitOr (Long (pos 6)) (Long (pos 3)) ≡ Long (pos 7)
or_three = refl

exclusive_or_three : assigned change.BitXor (Long (pos 6)) (Long (pos 3)) ≡ Long (pos 5)
exclusive_or_three = refl

-- ---- the order of evaluation

-- a number divided by zero
abbrev bad : Expression
bad = binary Divide (number (pos 1)) (number (pos 0))

-- the right side of `&&` is evaluated only where the left side is true
short : (k : ℕ) → value_in [] [] Null 4 [] (binary And (truth false) (binary Equal bad (number (pos 0)))) k ≡ gives (Truth false) k
short k = refl

long : (k : ℕ) → value_in [] [] Null 4 [] (binary And (truth true) (binary Equal bad (number (pos 0)))) k ≡ traps (trap_at 4 ZeroDivisor)
long k = refl

-- `||` decides where its left side is true
or_short : (k : ℕ) → value_in [] [] Null 4 [] (binary Or (truth true) (binary Equal bad (number (pos 0)))) k ≡ gives (Truth true) k
or_short k = refl

or_long : (k : ℕ) → value_in [] [] Null 4 [] (binary Or (truth false) (binary Equal bad (number (pos 0)))) k ≡ traps (trap_at 4 ZeroDivisor)
or_long k = refl

-- null->f
abbrev behind_null : Expression
behind_null = read null (record { class = record { 0 = 0 }; field = 0 })

-- the left side is evaluated first
left_first : (k : ℕ) → value_in [] [] Null 4 [] (binary Plus behind_null bad) k ≡ traps (trap_at 4 NullPointer)
left_first k = refl

right_next : (k : ℕ) → value_in [] [] Null 4 [] (binary Plus bad behind_null) k ≡ traps (trap_at 4 ZeroDivisor)
right_next k = refl

-- 1 | 6 & 3, and max(1, 1 / 0): both sides are evaluated, without a step
bits_of_a_tree : (k : ℕ) → value_in [] [] Null 4 [] (binary BitOr (number (pos 1)) (binary BitAnd (number (pos 6)) (number (pos 3)))) k ≡ gives (Long (pos 3)) k
bits_of_a_tree k = refl

both_sides : (k : ℕ) → value_in [] [] Null 4 [] (binary Max (number (pos 1)) bad) k ≡ traps (trap_at 4 ZeroDivisor)
both_sides k = refl

first_side_first : (k : ℕ) → value_in [] [] Null 4 [] (binary Min behind_null bad) k ≡ traps (trap_at 4 NullPointer)
first_side_first k = refl

-- null->a[1 / 0]: the pointer is checked before the index is evaluated
pointer_before_index : (k : ℕ) → value_in [] [] Null 4 [] (read_item null (record { class = record { 0 = 0 }; field = 1 }) bad) k ≡ traps (trap_at 4 NullPointer)
pointer_before_index k = refl

-- null->m(1 / 0, null->f) and null->m(null->f, 1 / 0): the arguments in their order, and the pointer behind them
abbrev on_null : Expressions → Expression
on_null arguments = value_call null (record { 0 = 0 }) arguments

first_argument : (k : ℕ) → value_in [] [] Null 4 [] (on_null (expression_and bad (expression_and behind_null no_expressions))) k ≡ traps (trap_at 4 ZeroDivisor)
first_argument k = refl

second_argument : (k : ℕ) → value_in [] [] Null 4 [] (on_null (expression_and behind_null (expression_and bad no_expressions))) k ≡ traps (trap_at 4 NullPointer)
second_argument k = refl

-- a call on null traps, also where no step is left; a call on an object takes a step
null_before_step : value_in [] [] Null 4 [] (on_null no_expressions) 0 ≡ traps (trap_at 4 NullPointer)
null_before_step = refl

step_is_due : value_in [] [] (Ref 0) 4 [] (value_call this (record { 0 = 0 }) no_expressions) 0 ≡ over
step_is_due = refl

-- an index is at least 0 and below the length
last_item : (k : ℕ) → indexed 4 (Long (pos 8) ∷ Long (pos 9) ∷ []) (Long (pos 1)) k ≡ gives (record { place = 1; value = Long (pos 9) }) k
last_item k = refl

past_the_end : (k : ℕ) → indexed 4 (Long (pos 8) ∷ Long (pos 9) ∷ []) (Long (pos 2)) k ≡ traps (trap_at 4 OutOfRange)
past_the_end k = refl

below_zero : (k : ℕ) → indexed 4 (Long (pos 8) ∷ Long (pos 9) ∷ []) (Long (negsuc 0)) k ≡ traps (trap_at 4 OutOfRange)
below_zero k = refl

-- ---- programs

-- class A { public: long n; long a[3]; .. };
abbrev class_a : ClassId
class_a = record { 0 = 0 }

abbrev n : FieldId
n = record { class = class_a; field = 0 }

abbrev a : FieldId
a = record { class = class_a; field = 1 }

abbrev a_class : PlainClass
a_class = record {
  name = codes "A";
  fields = record { name = codes "n"; ty = LongType; length = None } ∷ record { name = codes "a"; ty = LongType; length = Some 3 } ∷ [];
}

-- void set(long x) { .. }
abbrev set : Statements → PlainMethod
set statements = record { class = class_a; name = codes "set"; params = 1; body = record { locals = LongType ∷ []; statements = statements }; result = None }

-- long deep() { return deep(); }
abbrev deep : PlainMethod
deep = record {
  class = class_a;
  name = codes "deep";
  params = 0;
  body = record { locals = []; statements = statement_and (return_value 3 (value_call this (record { 0 = 0 }) no_expressions)) no_statements };
  result = Some LongType;
}

-- the program of this body of `set` and these statements of `main`, with the locals A *p and long i
abbrev program : Statements → Statements → PlainProgram
program body statements = record {
  classes = a_class ∷ [];
  ops = set body ∷ [];
  functions = deep ∷ [];
  main = record { locals = Pointer class_a ∷ LongType ∷ []; statements = statements };
}

abbrev p : Expression
p = local (record { 0 = 0 })

abbrev i : Expression
i = local (record { 0 = 1 })

-- p = new A();
abbrev new_p : Statement
new_p = new_local 6 (record { 0 = 0 }) class_a

-- p->set(e);
abbrev set_p : ℕ → Expression → Statement
set_p line e = invoke line p (record { 0 = 0 }) (expression_and e no_expressions)

-- the argument is evaluated before the receiver is checked
argument_first : serial (program no_statements (statement_and (set_p 7 bad) no_statements)) 5 ≡ trapped [] (trap_at 7 ZeroDivisor)
argument_first = refl

no_receiver : serial (program no_statements (statement_and (set_p 7 (number (pos 1))) no_statements)) 5 ≡ trapped [] (trap_at 7 NullPointer)
no_receiver = refl

-- { a[3] = 1 / 0; }: the index is checked before the right side is evaluated
index_first : serial (program (statement_and (put_item 5 a (number (pos 3)) Put bad) no_statements) (statement_and new_p (statement_and (set_p 7 (number (pos 1))) no_statements))) 5 ≡ trapped [] (trap_at 5 OutOfRange)
index_first = refl

-- { a[1] += x; n -= x; }
abbrev compound : Statements
compound = statement_and (put_item 4 a (number (pos 1)) Add (local (record { 0 = 0 }))) (statement_and (put_field 5 n Sub (local (record { 0 = 0 }))) no_statements)

-- p->set(4); p->set(3); takes two steps
compound_twice : output (program compound (statement_and new_p (statement_and (set_p 7 (number (pos 4))) (statement_and (set_p 8 (number (pos 3))) no_statements)))) 2 ≡ record { status = 0; bytes = codes "#0 A n=-7 a=[0,7,0]\n" }
unfolding digits int_wrap
compound_twice = refl

-- print(1); print(p->deep()); no number of steps is enough
deep_calls : output (program no_statements (statement_and new_p (statement_and (print_value 7 (number (pos 1))) (statement_and (print_value 8 (value_call p (record { 0 = 0 }) no_expressions)) no_statements)))) 3 ≡ record { status = 4; bytes = codes "1\nspent 3\n" }
unfolding digits
deep_calls = refl

-- with one step fewer the second call is not made, and no heap is written
compound_once : output (program compound (statement_and new_p (statement_and (set_p 7 (number (pos 4))) (statement_and (set_p 8 (number (pos 3))) no_statements)))) 1 ≡ record { status = 4; bytes = codes "spent 1\n" }
unfolding digits
compound_once = refl

-- the receiver is checked before the step of the call is due
check_before_step : serial (program no_statements (statement_and (set_p 7 (number (pos 1))) no_statements)) 0 ≡ trapped [] (trap_at 7 NullPointer)
check_before_step = refl

step_before_body : serial (program (statement_and (print_value 4 bad) no_statements) (statement_and new_p (statement_and (set_p 7 (number (pos 1))) no_statements))) 0 ≡ spent []
step_before_body = refl

-- a call runs to its end before its caller goes on: p->set(1); of { n = x; if (0 < x) { set(x - 1); n += 10; } }
call_before_rest : serial (program (statement_and (put_field 4 n Put (local (record { 0 = 0 }))) (statement_and (if_else 5 (binary Less (number (pos 0)) (local (record { 0 = 0 }))) (block 5 (statement_and (invoke 5 this (record { 0 = 0 }) (expression_and (binary Minus (local (record { 0 = 0 })) (number (pos 1))) no_expressions)) (statement_and (put_field 5 n Add (number (pos 10))) no_statements))) (block 5 no_statements)) no_statements)) (statement_and new_p (statement_and (set_p 7 (number (pos 1))) no_statements))) 2
    ≡ done [] (record { class = class_a; slots = One (Long (pos 10)) ∷ Many (Long (pos 0) ∷ Long (pos 0) ∷ Long (pos 0) ∷ []) ∷ [] } ∷ []) 2
unfolding int_wrap
call_before_rest = refl

-- a call has locals of its own: i = 5; p->set(i); print(i); where `set` changes its parameter
own_locals : serial (program (statement_and (put_local 4 (record { 0 = 0 }) Put (number (pos 7))) no_statements) (statement_and (put_local 5 (record { 0 = 1 }) Put (number (pos 5))) (statement_and new_p (statement_and (set_p 7 i) (statement_and (print_value 8 i) no_statements))))) 1
    ≡ done (Long (pos 5) ∷ []) (record { class = class_a; slots = One (Long (pos 0)) ∷ Many (Long (pos 0) ∷ Long (pos 0) ∷ Long (pos 0) ∷ []) ∷ [] } ∷ []) 1
own_locals = refl

-- ---- the lines of traps

-- what a branch does counts to the branch, and the condition to the `if`
condition_line : serial (program no_statements (statement_and (if_else 5 (binary Equal bad i) (print_value 6 i) (block 7 no_statements)) no_statements)) 5 ≡ trapped [] (trap_at 5 ZeroDivisor)
condition_line = refl

branch_line : serial (program no_statements (statement_and (if_else 5 (binary Equal i i) (block 6 (statement_and (print_value 7 bad) no_statements)) (block 8 no_statements)) no_statements)) 5 ≡ trapped [] (trap_at 7 ZeroDivisor)
branch_line = refl

-- i = 1; while (0 < 6 / i) i -= 1; traps on its own line, where the condition comes again behind a body on the next line
while_line : serial (program no_statements (statement_and (put_local 8 (record { 0 = 1 }) Put (number (pos 1))) (statement_and (while_loop 9 (binary Less (number (pos 0)) (binary Divide (number (pos 6)) i)) (put_local 10 (record { 0 = 1 }) Sub (number (pos 1)))) no_statements))) 5 ≡ trapped [] (trap_at 9 ZeroDivisor)
unfolding int_wrap
while_line = refl

-- the first part of a `for` on line 9, whose own token stands on line 10
first_part : serial (program no_statements (statement_and (for_loop 9 (record { 0 = 0 }) Assigns (put_local 10 (record { 0 = 1 }) Put bad) (binary Less i (number (pos 3))) (put_local 10 (record { 0 = 1 }) Add (number (pos 1))) (block 11 no_statements)) no_statements)) 5 ≡ trapped [] (trap_at 9 ZeroDivisor)
first_part = refl

-- long inverse(long x) { return 1 / x; } on line 3, which is called on line 8
value_method_line : serial (record { classes = a_class ∷ []; ops = []; functions = record { class = class_a; name = codes "inverse"; params = 1; body = record { locals = LongType ∷ []; statements = statement_and (return_value 3 (binary Divide (number (pos 1)) (local (record { 0 = 0 })))) no_statements }; result = Some LongType } ∷ []; main = record { locals = Pointer class_a ∷ []; statements = statement_and new_p (statement_and (print_value 8 (value_call p (record { 0 = 0 }) (expression_and (number (pos 0)) no_expressions))) no_statements) } }) 5 ≡ trapped [] (trap_at 3 ZeroDivisor)
value_method_line = refl

-- the next part of a `for` on line 9 traps there, although its own token and the body stand on other lines
next_part : serial (program no_statements (statement_and (for_loop 9 (record { 0 = 0 }) Assigns (put_local 9 (record { 0 = 1 }) Put (number (pos 1))) (binary Less i (number (pos 3))) (put_local 10 (record { 0 = 1 }) Put (binary Divide i (number (pos 0)))) (block 11 no_statements)) no_statements)) 5 ≡ trapped [] (trap_at 9 ZeroDivisor)
next_part = refl

-- for (i = 0; i < 2; i += 1) print(i); takes two steps, and a third is not due
two_turns : serial (program no_statements (statement_and (for_loop 9 (record { 0 = 0 }) Assigns (put_local 9 (record { 0 = 1 }) Put (number (pos 0))) (binary Less i (number (pos 2))) (put_local 9 (record { 0 = 1 }) Add (number (pos 1))) (print_value 10 i)) no_statements)) 2 ≡ done (Long (pos 0) ∷ Long (pos 1) ∷ []) [] 2
unfolding int_wrap
two_turns = refl

-- with one step the second turn is due, and what was printed stays
one_turn : serial (program no_statements (statement_and (for_loop 9 (record { 0 = 0 }) Assigns (put_local 9 (record { 0 = 1 }) Put (number (pos 0))) (binary Less i (number (pos 2))) (put_local 9 (record { 0 = 1 }) Add (number (pos 1))) (print_value 10 i)) no_statements)) 1 ≡ spent (Long (pos 0) ∷ [])
unfolding int_wrap
one_turn = refl

-- a condition that is false takes no step
no_turn : serial (program no_statements (statement_and (while_loop 9 (binary Less i i) (print_value 10 i)) no_statements)) 0 ≡ done [] [] 0
no_turn = refl

-- a `return` in a loop leaves the value method; a body without one gives null
abbrev in_loop : PlainMethod
in_loop = record { class = class_a; name = codes "f"; params = 0; body = record { locals = []; statements = statement_and (while_loop 3 (truth true) (return_value 4 (number (pos 7)))) (statement_and (return_value 5 (number (pos 8))) no_statements) }; result = Some LongType }

abbrev without : PlainMethod
without = record { class = class_a; name = codes "f"; params = 0; body = record { locals = []; statements = no_statements }; result = Some LongType }

returned_in_loop : value_in (in_loop ∷ []) [] (Ref 0) 9 [] (value_call this (record { 0 = 0 }) no_expressions) 2 ≡ gives (Long (pos 7)) 0
returned_in_loop = refl

not_returned : value_in (without ∷ []) [] (Ref 0) 9 [] (value_call this (record { 0 = 0 }) no_expressions) 2 ≡ gives Null 1
not_returned = refl

-- ---- sections

-- a section lists its calls and takes its own step alone: { n -= x; set(n); }
own_section : section (program (statement_and (put_field 5 n Sub (local (record { 0 = 0 }))) (statement_and (invoke 6 this (record { 0 = 0 }) (expression_and (own n) no_expressions)) no_statements)) no_statements) [] 0 (record { class = class_a; slots = One (Long (pos 9)) ∷ Many [] ∷ [] }) (record { 0 = 0 }) (Long (pos 4) ∷ []) 3
    ≡ sections.done (record { object = record { class = class_a; slots = One (Long (pos 5)) ∷ Many [] ∷ [] }; listed = invocation 0 (record { 0 = 0 }) (Long (pos 5) ∷ []) ∷ []; steps = 1 })
unfolding int_wrap
own_section = refl

-- an object of class A whose field n holds this
abbrev with_n : ℕ → Object
with_n x = record { class = class_a; slots = One (Long (pos x)) ∷ Many [] ∷ [] }

-- a call on the object with n = 9, which stands for object 0 of a frozen heap that has n = 1 there
abbrev on_frozen : Statements → ℕ → Sectioned
on_frozen body budget = section (program body no_statements) (with_n 1 ∷ []) 0 (with_n 9) (record { 0 = 0 }) (Long (pos 4) ∷ []) budget

-- { n += x; n = n; } reads what it has put
reads_own : on_frozen (statement_and (put_field 5 n Add (local (record { 0 = 0 }))) (statement_and (put_field 6 n Put (own n)) no_statements)) 1 ≡ sections.done (record { object = with_n 13; listed = []; steps = 1 })
unfolding int_wrap
reads_own = refl

-- { n = 5; n = q->n; } with the pointer q to the receiver itself reads the frozen heap
reads_frozen : on_frozen (statement_and (put_field 5 n Put (number (pos 5))) (statement_and (put_field 6 n Put (read this n)) no_statements)) 1 ≡ sections.done (record { object = with_n 1; listed = []; steps = 1 })
reads_frozen = refl

-- { print(x); p = new A(); n = 2; } creates and prints nothing
silent : on_frozen (statement_and (print_value 4 (local (record { 0 = 0 }))) (statement_and (new_local 5 (record { 0 = 0 }) class_a) (statement_and (put_field 6 n Put (number (pos 2))) no_statements))) 1 ≡ sections.done (record { object = with_n 2; listed = []; steps = 1 })
silent = refl

-- the step of the call is its own; a call that is listed takes none, and its receiver is checked
no_step : on_frozen no_statements 0 ≡ sections.over
no_step = refl

listed_on_null : on_frozen (statement_and (invoke 6 null (record { 0 = 0 }) no_expressions) no_statements) 1 ≡ sections.stopped (trap_at 6 NullPointer)
listed_on_null = refl

-- for (i = 0; i < 2; i += 1) p->set(i); takes its two turns, and leaves its counter and two calls
listed_by_loop : loop_section (program no_statements no_statements) (with_n 1 ∷ []) Null (Ref 0 ∷ Long (pos 7) ∷ []) 9 (for_loop 9 (record { 0 = 0 }) Assigns (put_local 9 (record { 0 = 1 }) Put (number (pos 0))) (binary Less i (number (pos 2))) (put_local 9 (record { 0 = 1 }) Add (number (pos 1))) (set_p 10 i)) 3
    ≡ sections.loop_done (record { locals = Ref 0 ∷ Long (pos 2) ∷ []; listed = invocation 0 (record { 0 = 0 }) (Long (pos 0) ∷ []) ∷ invocation 0 (record { 0 = 0 }) (Long (pos 1) ∷ []) ∷ []; steps = 2 })
unfolding int_wrap
listed_by_loop = refl

-- ---- commuting

-- listed operations are compared up to their order, and with how often each is there
exchanged : (x y : Invocation) → SameItems (x ∷ y ∷ []) (y ∷ x ∷ [])
exchanged x y = record { weighed = λ f. omega arith }

-- as many pass a test, in either order
counted : (x y : Invocation) (test : Invocation → Bool) → count_by test (x ∷ y ∷ []) ≡ count_by test (y ∷ x ∷ [])
counted x y test = counted_by_weights (x ∷ y ∷ []) (y ∷ x ∷ []) (exchanged x y) test

once_and_twice : (x : Invocation) → ¬ SameItems (x ∷ x ∷ []) (x ∷ [])
once_and_twice x same = let e : 2 ≡ 1 = same.weighed (λ i. 1) in absurd (omega (arith, e))
