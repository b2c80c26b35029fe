-- Worked examples of call loops, and of what their own expressions may read.
use Rattle.std.proofs.Common.{◌≡◌, ◌≢◌, true, [], ◌∷◌, refl, ap, sym, ◌∙◌, arith, rules}
use Rattle.std.specs.Prelude.{pos}
use Rattle.ca_tree.specs.declared.tree.AssignOp.TheVariants.{Put, Add, Sub}
use Rattle.ca_tree.specs.declared.tree.BinaryOp.TheVariants.{Less, LessEqual, Plus, Divide}
use Rattle.ca_program.specs.declared.program.LocalId.{LocalId}
use Rattle.ca_program.specs.declared.program.FirstPart.{FirstPart}
use Rattle.ca_program.specs.declared.program.FirstPart.TheVariants.{Declares, Assigns}
use Rattle.ca_program.specs.Plain.{PlainProgram, Expression, number, local, own, read, binary, Statement, block, put_local, while_loop, for_loop, no_statements}
use Rattle.ca_parallel.specs.Bodies.{calls_of, fors_in}
use Rattle.ca_parallel.specs.Separable.{IsSeparated}
use Rattle.ca_parallel.specs.Loops.{IsCallLoop}
use Rattle.ca_parallel.proofs.Examples.{sum_field, base_field, next_field, parameter, counter, first_op, written, there, base_is_constant, next_is_constant, call_next, statements_2, add_to_sum}

-- ---- forms, around: for (long i = 0; i < 3; i += 1) next->m(i);

abbrev first : Statement
first = put_local 4 counter Put (number (pos 0))

abbrev below : Expression → Expression
below e = binary Less (local counter) e

abbrev next : Statement
next = put_local 4 counter Add (number (pos 1))

abbrev call : Statement
call = call_next (local counter)

abbrev loop : FirstPart → Statement → Expression → Statement → Statement → Statement
loop part f c n b = for_loop 4 (record { 0 = 0 }) part f c n b

abbrev three_calls : Statement
three_calls = loop Declares first (below (number (pos 3))) next call

adds_one : IsCallLoop three_calls
adds_one = record { counter = counter; begins = refl; compares = refl; counts = (refl, refl); calls = tt }

calls : calls_of three_calls ≡ first_op ∷ []
calls = refl

loops : fors_in (block 3 (statements_2 add_to_sum (while_loop 3 (below (number (pos 3))) three_calls))) ≡ three_calls ∷ []
loops = refl

-- i = i + 1, and a block of two calls
puts_one_more : IsCallLoop (loop Declares first (below (number (pos 3))) (put_local 4 counter Put (binary Plus (local counter) (number (pos 1)))) (block 4 (statements_2 call call)))
puts_one_more = record { counter = counter; begins = refl; compares = refl; counts = (refl, refl, refl); calls = (tt, (tt, tt)) }

-- a counter that lives on behind the loop
assigned_counter : ¬ IsCallLoop (loop Assigns first (below (number (pos 3))) next call)
assigned_counter s = s.begins

-- for (long i += 0; ..) is no declaration
added_first : ¬ IsCallLoop (loop Declares (put_local 4 counter Add (number (pos 0))) (below (number (pos 3))) next call)
added_first s = s.begins

-- i <= 3, and 3 < i
up_to : ¬ IsCallLoop (loop Declares first (binary LessEqual (local counter) (number (pos 3))) next call)
up_to s = s.compares

turned : ¬ IsCallLoop (loop Declares first (binary Less (number (pos 3)) (local counter)) next call)
turned s = s.compares

one_is_not_two : pos 2 ≢ pos 1
one_is_not_two = search rules

-- i += 2, i -= 1, and i = 1 + i
by_twos : ¬ IsCallLoop (loop Declares first (below (number (pos 3))) (put_local 4 counter Add (number (pos 2))) call)
by_twos s = one_is_not_two s.counts.1

downward : ¬ IsCallLoop (loop Declares first (below (number (pos 3))) (put_local 4 counter Sub (number (pos 1))) call)
downward s = s.counts

turned_sum : ¬ IsCallLoop (loop Declares first (below (number (pos 3))) (put_local 4 counter Put (binary Plus (number (pos 1)) (local counter))) call)
turned_sum s = s.counts

-- another local is compared, or counted
abbrev other : LocalId
other = record { 0 = 2 }

differ : (l : LocalId) → counter ≡ l → other ≡ l → ⊥
differ l e f = absurd (omega (arith, ap (λ (x : LocalId). x.0) (e ∙ sym f)))

compares_another : ¬ IsCallLoop (loop Declares first (binary Less (local other) (number (pos 3))) next call)
compares_another s = differ s.counter s.begins s.compares

counts_another : ¬ IsCallLoop (loop Declares first (below (number (pos 3))) (put_local 4 other Add (number (pos 1))) call)
counts_another s = differ s.counter s.begins s.counts.0

-- a body that does anything but call, or nothing
puts_in_body : ¬ IsCallLoop (loop Declares first (below (number (pos 3))) next (block 4 (statements_2 call add_to_sum)))
puts_in_body s = s.calls.1.0

empty_body : ¬ IsCallLoop (loop Declares first (below (number (pos 3))) next (block 4 no_statements))
empty_body s = s.calls

loop_in_body : ¬ IsCallLoop (loop Declares first (below (number (pos 3))) next three_calls)
loop_in_body s = s.calls

a_while : ¬ IsCallLoop (while_loop 4 (below (number (pos 3))) call)
a_while s = s

-- ---- what a loop's own expressions may read, where the extent of its calls writes `sum`

-- i < base reads a constant
constant_bound : (p : PlainProgram) → IsSeparated p written true (loop Declares first (below (own base_field)) next call)
constant_bound p = (tt, (tt, tt, base_is_constant), tt, (next_is_constant, (tt, tt)))

-- i < sum, and i < o->sum, read what the calls write
own_bound : (p : PlainProgram) → ¬ IsSeparated p written true (loop Declares first (below (own sum_field)) next call)
own_bound p s = s.1.2 (there sum_field)

foreign_bound : (p : PlainProgram) → ¬ IsSeparated p written true (loop Declares first (below (read parameter sum_field)) next call)
foreign_bound p s = s.1.2.0 (there sum_field)

-- so do long i = sum, and an argument sum
own_first : (p : PlainProgram) → ¬ IsSeparated p written true (loop Declares (put_local 4 counter Put (own sum_field)) (below (number (pos 3))) next call)
own_first p s = s.0 (there sum_field)

own_argument : (p : PlainProgram) → ¬ IsSeparated p written true (loop Declares first (below (number (pos 3))) next (call_next (own sum_field)))
own_argument p s = s.3.1.0 (there sum_field)

-- next->m(..) where the calls write `next`
written_receiver : (p : PlainProgram) → ¬ IsSeparated p (next_field ∷ []) true (loop Declares first (below (number (pos 3))) next call)
written_receiver p s = s.3.0 (there next_field)

-- i < 6 / p
divided_bound : (p : PlainProgram) → ¬ IsSeparated p written true (loop Declares first (below (binary Divide (number (pos 6)) parameter)) next call)
divided_bound p s = s.1.2.0
