-- Worked examples: what expressions resolve to, and the violations in them.
--
--     class A {
--     public:
--       long n;
--       long a[3];
--       A *q;
--       long f(long p) { .. }
--       void o(long p) { .. }
--     };
--
-- They stand in a method of A with the locals `bool x`, inside it `long x`, and `A *p`. Each node's column is told.
use Rattle.std.proofs.Common.{◌≡◌, ℕ, ℤ, true, List, [], ◌∷◌, Option, Some, None, pos, refl}
use Rattle.ca_tree.specs.declared.name.Place.{Place}
use Rattle.ca_tree.specs.declared.tree.TypeNode.{TypeNode}
use Rattle.ca_tree.specs.declared.tree.TypeNode.TheVariants.{Long, Pointer}
use Rattle.ca_tree.specs.declared.tree.BinaryOp.TheVariants.{Equal, Plus, BitAnd, Max}
use Rattle.ca_tree.specs.Plain.{ClassTree, MemberTree, Expression, Expressions, number, truth, null, this, named, call, field, index, binary, no_expressions, expression_and, no_statements, field_member, method_member}
use Rattle.ca_program.specs.declared.program.ClassId.{ClassId}
use Rattle.ca_program.specs.declared.program.FieldId.{FieldId}
use Rattle.ca_program.specs.Plain as program
use Rattle.ca_resolve.specs.Judged.{Violation, fine, violations}
use Rattle.ca_resolve.specs.Scopes.{Ty, long, pointer, VisibleLocal, Scope, classes_of, to_item}
use Rattle.ca_resolve.specs.Scopes as scopes
use Rattle.ca_resolve.specs.Values.{judge_value, judge_target}

abbrev at : ℕ → Place
at column = record { line = 1; column = column }

abbrev told : ℕ → ℕ → List Violation
told column code = record { at = at column; code = code } ∷ []

abbrev declared : TypeNode → List ℕ → Option ℤ → MemberTree
declared ty name length = field_member (record { ty = ty; name = name; at = at 1; length = length })

abbrev takes_p : List ℕ → Option TypeNode → MemberTree
takes_p name ty = method_member (record { result = ty; name = name; at = at 1; params = record { ty = Long; name = 112 ∷ []; at = at 1 } ∷ []; body = no_statements })

abbrev class_a : ClassTree
class_a =
    record {
      name = 65 ∷ [];
      at = at 1;
      members = declared Long (110 ∷ []) None ∷ declared Long (97 ∷ []) (Some (pos 3)) ∷ declared (Pointer (65 ∷ []) (at 1)) (113 ∷ []) None ∷ takes_p (102 ∷ []) (Some Long) ∷ takes_p (111 ∷ []) None ∷ [];
    }

abbrev first_class : ClassId
first_class = record { 0 = 0 }

abbrev locals : List VisibleLocal
locals =
    record { name = 112 ∷ []; id = record { 0 = 2 }; ty = pointer first_class }
    ∷ record { name = 120 ∷ []; id = record { 0 = 1 }; ty = long }
    ∷ record { name = 120 ∷ []; id = record { 0 = 0 }; ty = scopes.truth } ∷ []

abbrev inside : Scope
inside = record { classes = classes_of (class_a ∷ []); class = Some first_class; locals = locals }

abbrev main : Scope
main = record { classes = classes_of (class_a ∷ []); class = None; locals = locals }

abbrev n : FieldId
n = record { class = first_class; field = 0 }

abbrev a : FieldId
a = record { class = first_class; field = 1 }

abbrev name : ℕ → ℕ → Expression
name column letter = named (at column) (letter ∷ [])

abbrev one : Expression → Expressions
one e = expression_and e no_expressions

-- `x`: the innermost
innermost : judge_value inside (name 1 120) ≡ fine (program.local (record { 0 = 1 }), long)
innermost = refl

-- `n`, `this->n` and `p->n`
own_field : judge_value inside (name 1 110) ≡ fine (program.own n, long)
own_field = refl

this_field : judge_value inside (field (at 5) (this (at 1)) (110 ∷ [])) ≡ fine (program.own n, long)
this_field = refl

other_field : judge_value inside (field (at 2) (name 1 112) (110 ∷ [])) ≡ fine (program.read (program.local (record { 0 = 2 })) n, long)
other_field = refl

-- `a[x]`, `a` and `x[1]`
item : judge_value inside (index (at 2) (name 1 97) (name 3 120)) ≡ fine (program.own_item a (program.local (record { 0 = 1 })), long)
item = refl

whole_array : violations (judge_value inside (name 1 97)) ≡ told 1 31
whole_array = refl

no_array : violations (judge_value inside (index (at 2) (name 1 120) (number (at 3) (pos 1)))) ≡ told 2 31
no_array = refl

-- `x[true]`: the index tells, and the node round it doesn't
wrong_index : violations (judge_value inside (index (at 2) (name 1 120) (truth (at 3) true))) ≡ told 3 25
wrong_index = refl

-- `f()`, `f(true)`, and `f(true, 1)`, whose arguments aren't compared
too_few : violations (judge_value inside (call (at 1) (102 ∷ []) no_expressions)) ≡ told 1 26
too_few = refl

wrong_argument : violations (judge_value inside (call (at 1) (102 ∷ []) (one (truth (at 3) true)))) ≡ told 3 25
wrong_argument = refl

too_many : violations (judge_value inside (call (at 1) (102 ∷ []) (expression_and (truth (at 3) true) (one (number (at 9) (pos 1)))))) ≡ told 1 26
too_many = refl

-- `o(x)` and `o()` are no values
operation_as_value : violations (judge_value inside (call (at 1) (111 ∷ []) (one (name 3 120)))) ≡ told 1 28
operation_as_value = refl

operation_too_few : violations (judge_value inside (call (at 1) (111 ∷ []) no_expressions)) ≡ told 1 26
operation_too_few = refl

-- `f(1)` and `this` in `main`
call_in_main : violations (judge_value main (call (at 1) (102 ∷ []) (one (number (at 3) (pos 1))))) ≡ told 1 24
call_in_main = refl

this_in_main : violations (judge_value main (this (at 1))) ≡ told 1 32
this_in_main = refl

-- `p == nullptr`, `x == nullptr`, and `y + true`, which tells both
pointer_and_null : judge_value inside (binary (at 3) Equal (name 1 112) (null (at 6))) ≡ fine (program.binary Equal (program.local (record { 0 = 2 })) program.null, scopes.truth)
pointer_and_null = refl

long_and_null : violations (judge_value inside (binary (at 3) Equal (name 1 120) (null (at 6)))) ≡ told 3 25
long_and_null = refl

both_told : violations (judge_value inside (binary (at 3) Plus (name 1 121) (name 5 122))) ≡ record { at = at 1; code = 24 } ∷ record { at = at 5; code = 24 } ∷ []
both_told = refl

-- `x & n`, `true & 1`, which tells at the operator, and `max(x, p)`, which tells at its word
long_and_long : judge_value inside (binary (at 3) BitAnd (name 1 120) (name 5 110)) ≡ fine (program.binary BitAnd (program.local (record { 0 = 1 })) (program.own n), long)
long_and_long = refl

truth_and_long : violations (judge_value inside (binary (at 6) BitAnd (truth (at 1) true) (number (at 8) (pos 1)))) ≡ told 6 25
truth_and_long = refl

greater_of_a_pointer : violations (judge_value inside (binary (at 1) Max (name 5 120) (name 8 112))) ≡ told 1 25
greater_of_a_pointer = refl

-- targets: `a[x]`, `a`, `x[1]`, `p->n`, `y`, `x->n` and `o`
item_target : judge_target inside (index (at 2) (name 1 97) (name 3 120)) ≡ fine (to_item a (program.local (record { 0 = 1 })), long)
item_target = refl

array_target : violations (judge_target inside (name 1 97)) ≡ told 1 27
array_target = refl

indexed_scalar : violations (judge_target inside (index (at 2) (name 1 120) (number (at 3) (pos 1)))) ≡ told 2 27
indexed_scalar = refl

foreign_target : violations (judge_target inside (field (at 2) (name 1 112) (110 ∷ []))) ≡ told 2 27
foreign_target = refl

unknown_target : violations (judge_target inside (name 1 121)) ≡ told 1 24
unknown_target = refl

no_pointer_target : violations (judge_target inside (field (at 2) (name 1 120) (110 ∷ []))) ≡ told 2 25
no_pointer_target = refl

method_target : violations (judge_target inside (name 1 111)) ≡ told 1 24
method_target = refl
