-- A class with a sweep: every pair of its operations is plain. And a sweep to a truth value, which is none.
use Rattle.std.proofs.Common.{◌≡◌, ◌<◌, ℕ, pos, true, false, List, [], ◌∷◌, length, None, Some, refl, arith, codes}
use Rattle.ca_tree.specs.declared.tree.AssignOp.TheVariants.{Put, Add}
use Rattle.ca_tree.specs.declared.tree.BinaryOp.TheVariants.{Less, Plus}
use Rattle.ca_program.specs.declared.program.ClassId.{ClassId}
use Rattle.ca_program.specs.declared.program.FieldId.{FieldId}
use Rattle.ca_program.specs.declared.program.LocalId.{LocalId}
use Rattle.ca_program.specs.declared.program.OpId.{OpId}
use Rattle.ca_program.specs.declared.program.ValueType.{ValueType}
use Rattle.ca_program.specs.declared.program.ValueType.TheVariants as type
use Rattle.ca_program.specs.declared.program.FirstPart.TheVariants.{Declares}
use Rattle.ca_program.specs.Plain.{PlainProgram, PlainMethod, Expression, number, truth, this, local, own_item, binary, no_expressions, expression_and, Statement, Statements, put_local, put_item, invoke, for_loop, no_statements, statement_and}
use Rattle.ca_sweep.specs.Sweeps.{PlainSweep, adds, bare, by_one, IsSweep, a_sweep}
use Rattle.ca_sweep.specs.Found.{sweep_in, sweep_at}
use Rattle.ca_plain_laws.specs.PlainPairs.{IsWritten, IsAtom, a_literal, a_number, the_receiver, a_parameter, a_product, an_atom, IsShortSum, Kind, item_sums, puts_item_sum, adds_to_range, no_calls, call_and, calls, update_and, IsPlain, IsPlainPair}

-- class V { public: long a[10]; void add(long f, long t, long v) { for (long i = f; i < t; i++) a[i] += v; } void one(long j) { a[j] = a[j] + 1; } void two() { add(0, 10, 3); one(4); add(2, 5, 1); } };
abbrev class : ClassId
class = record { 0 = 0 }

abbrev a : FieldId
a = record { class = class; field = 0 }

abbrev at : ℕ → LocalId
at n = record { 0 = n }

abbrev op : ℕ → OpId
op n = record { 0 = n }

abbrev loop_to : Expression → Statement
loop_to e = for_loop 1 (record { 0 = 0 }) Declares (put_local 1 (at 3) Put (local (at 0))) (binary Less (local (at 3)) e) (put_local 1 (at 3) Add (number (pos 1))) (put_item 1 a (local (at 3)) Add (local (at 2)))

abbrev swept : Expression → PlainSweep
swept e = record { counter = at 3; field = a; from = local (at 0); to = e; addend = local (at 2); minus = false }

-- it is found, in the extent and by its form, and one to a truth value isn't
found : sweep_in 3 (a ∷ []) (loop_to (local (at 1))) ≡ Some (swept (local (at 1)))
found = refl

found_by_form : sweep_at (loop_to (local (at 1))) ≡ Some (swept (local (at 1)))
found_by_form = refl

not_to_truth : sweep_at (loop_to (truth true)) ≡ None
not_to_truth = refl

-- nor is one to a local that is no parameter, in an extent
not_to_local : sweep_in 3 (a ∷ []) (loop_to (local (at 4))) ≡ None
not_to_local = refl

abbrev method : ℕ → List ValueType → Statements → PlainMethod
method n locals body = record { class = class; name = codes "m"; params = n; body = record { locals = locals; statements = body }; result = None }

abbrev add : PlainMethod
add = method 3 (type.Long ∷ type.Long ∷ type.Long ∷ type.Long ∷ []) (statement_and (loop_to (local (at 1))) no_statements)

abbrev one : PlainMethod
one = method 1 (type.Long ∷ []) (statement_and (put_item 1 a (local (at 0)) Put (binary Plus (own_item a (local (at 0))) (number (pos 1)))) no_statements)

abbrev n : ℕ → Expression
n k = number (pos k)

abbrev two : PlainMethod
two = method 0 [] (statement_and (invoke 1 this (op 0) (expression_and (n 0) (expression_and (n 10) (expression_and (n 3) no_expressions))))
    (statement_and (invoke 1 this (op 1) (expression_and (n 4) no_expressions))
    (statement_and (invoke 1 this (op 0) (expression_and (n 2) (expression_and (n 5) (expression_and (n 1) no_expressions)))) no_statements)))

abbrev program : PlainProgram
program = record {
  classes = record { name = codes "V"; fields = record { name = codes "a"; ty = type.Long; length = Some 10 } ∷ [] } ∷ [];
  ops = add ∷ one ∷ two ∷ [];
  functions = [];
  main = record { locals = []; statements = no_statements };
}

abbrev written : List FieldId
written = a ∷ []

abbrev kinds : ℕ → Kind
kinds k = item_sums

a_written : IsWritten written add a
a_written = (refl, (0, omega arith, refl))

number_at : (k : ℕ) → k < 3 → IsAtom written add (local (at k))
number_at k l = a_parameter (at k) l

add_sweeps : IsSweep (swept (local (at 1))) (loop_to (local (at 1)))
add_sweeps = a_sweep 1 (record { 0 = 0 }) 1 (put_local 1 (at 3) Add (number (pos 1))) (put_item 1 a (local (at 3)) Add (local (at 2))) (by_one 1) (bare (put_item 1 a (local (at 3)) Add (local (at 2))) (adds 1))

add_plain : IsPlain written kinds add
add_plain = record {
  body = update_and a a_written (adds_to_range (swept (local (at 1))) add_sweeps refl (number_at 0 (omega arith), refl) (number_at 1 (omega arith), refl) (number_at 2 (omega arith), refl)) (calls no_calls);
  few = omega arith;
}

literal : (m : PlainMethod) (k : ℕ) → IsShortSum written m (n k)
literal m k = (a_product (an_atom (a_literal (a_number (pos k)))), omega arith)

one_plain : IsPlain written kinds one
one_plain = record {
  body = update_and a (refl, (0, omega arith, refl)) (puts_item_sum 1 (local (at 0)) (n 1) (a_product (an_atom (a_parameter (at 0) (omega arith))), omega arith) (literal one 1)) (calls no_calls);
  few = omega arith;
}

two_plain : IsPlain written kinds two
two_plain = record {
  body = calls (call_and 1 this (op 0) (expression_and (n 0) (expression_and (n 10) (expression_and (n 3) no_expressions))) the_receiver (literal two 0, (literal two 10, (literal two 3, tt)))
      (call_and 1 this (op 1) (expression_and (n 4) no_expressions) the_receiver (literal two 4, tt)
      (call_and 1 this (op 0) (expression_and (n 2) (expression_and (n 5) (expression_and (n 1) no_expressions))) the_receiver (literal two 2, (literal two 5, (literal two 1, tt))) no_calls)));
  few = omega arith;
}

add_and_add : IsPlainPair program written (op 0) (op 0)
add_and_add = record { first = add; second = add; first_is = refl; second_is = refl; one_class = refl; kinds = kinds; first_plain = add_plain; second_plain = add_plain }

add_and_one : IsPlainPair program written (op 0) (op 1)
add_and_one = record { first = add; second = one; first_is = refl; second_is = refl; one_class = refl; kinds = kinds; first_plain = add_plain; second_plain = one_plain }

two_and_add : IsPlainPair program written (op 2) (op 0)
two_and_add = record { first = two; second = add; first_is = refl; second_is = refl; one_class = refl; kinds = kinds; first_plain = two_plain; second_plain = add_plain }
