-- Worked examples of bodies: which are separable in an extent that writes `sum` alone, and which are not.
use Rattle.std.proofs.Common.{◌≡◌, ◌≢◌, ℕ, zero, true, false, List, [], ◌∷◌, refl, ap, arith, rules}
use Rattle.std.specs.Prelude.{pos, Contains}
use Rattle.ca_lists.proofs.Members.{has_only}
use Rattle.ca_tree.specs.declared.tree.AssignOp.TheVariants.{Put, Add}
use Rattle.ca_tree.specs.declared.tree.UnaryOp.TheVariants as sign
use Rattle.ca_tree.specs.declared.tree.BinaryOp.TheVariants.{NotEqual, Less, Plus, Divide, Remainder, BitXor, Max}
use Rattle.ca_program.specs.declared.program.ClassId.{ClassId}
use Rattle.ca_program.specs.declared.program.FieldId.{FieldId}
use Rattle.ca_program.specs.declared.program.LocalId.{LocalId}
use Rattle.ca_program.specs.declared.program.OpId.{OpId}
use Rattle.ca_program.specs.declared.program.FirstPart.TheVariants.{Declares}
use Rattle.ca_program.specs.Plain.{PlainProgram, Expression, number, null, local, own, own_item, read, read_item, unary, binary, no_expressions, expression_and, Statement, Statements, block, put_local, put_field, put_item, new_local, new_field, new_item, invoke, if_else, while_loop, for_loop, print_value, no_statements, statement_and}
use Rattle.ca_parallel.specs.Bodies.{targets_of_all}
use Rattle.ca_parallel.specs.Separable.{IsClean, IsSeparated, AreSeparated}

-- class Cell { public: long sum; long base; long last; Cell *next; long seen[3]; .. };
abbrev pub cell : ClassId
cell = record { 0 = 0 }

abbrev pub field : ℕ → FieldId
field n = record { class = cell; field = n }

abbrev pub sum_field : FieldId
sum_field = field 0

abbrev pub base_field : FieldId
base_field = field 1

abbrev pub last_field : FieldId
last_field = field 2

abbrev pub next_field : FieldId
next_field = field 3

abbrev pub seen_field : FieldId
seen_field = field 4

-- the parameter p, and a further local
abbrev pub parameter : Expression
parameter = local (record { 0 = 0 })

abbrev pub counter : LocalId
counter = record { 0 = 1 }

abbrev pub first_op : OpId
first_op = record { 0 = 0 }

-- ---- members of short lists

pub apart : (m n : ℕ) → m ≢ n → field m ≢ field n
apart m n differ e = differ (ap (λ f. f.field) e)

pub there : {A : Type 0} (x : A) → Contains (x ∷ []) x
there x = (zero, omega arith, refl)

pub other_fields : (m n : ℕ) → m ≢ n → ¬ Contains (field m ∷ []) (field n)
other_fields m n differ c = apart m n differ (has_only (field m) (field n) c)

-- the fields that are written
abbrev pub written : List FieldId
written = sum_field ∷ []

pub base_is_constant : ¬ Contains written base_field
base_is_constant = other_fields 0 1 (omega arith)

pub next_is_constant : ¬ Contains written next_field
next_is_constant = other_fields 0 3 (omega arith)

-- ---- statements

abbrev pub statements_2 : Statement → Statement → Statements
statements_2 s t = statement_and s (statement_and t no_statements)

-- sum = sum + p;
abbrev pub add_to_sum : Statement
add_to_sum = put_field 1 sum_field Put (binary Plus (own sum_field) parameter)

-- next->m(e);
abbrev pub call_next : Expression → Statement
call_next e = invoke 2 (own next_field) first_op (expression_and e no_expressions)

-- if (next != nullptr) next->m(e);
abbrev pub pass_on : Expression → Statement
pass_on e = if_else 2 (binary NotEqual (own next_field) null) (call_next e) (block 2 no_statements)

targets : targets_of_all (statements_2 add_to_sum (put_field 3 last_field Put (own sum_field))) ≡ sum_field ∷ last_field ∷ []
targets = refl

-- ---- accesses and calls

-- { sum = sum + p; if (next != nullptr) next->m(base); } accesses `sum` before it calls
early : (p : PlainProgram) → AreSeparated p written false (statements_2 add_to_sum (pass_on (own base_field)))
early p = ((tt, (tt, tt, tt)), (((tt, tt, tt), (tt, (tt, tt)), tt), tt))

-- { next->m(p); long x = base; } accesses a constant behind a call
constant : (p : PlainProgram) → AreSeparated p written false (statements_2 (call_next parameter) (put_local 3 counter Put (own base_field)))
constant p = ((tt, (tt, tt)), (base_is_constant, tt))

-- if (p < 3) next->m(p); else sum = sum + p; calls and accesses on two paths
two_paths : (p : PlainProgram) → IsSeparated p written false (if_else 2 (binary Less parameter (number (pos 3))) (call_next parameter) add_to_sum)
two_paths p = ((tt, tt, tt), (tt, (tt, tt)), (tt, (tt, tt, tt)))

-- next->m(sum): the argument stands before the call
argument : (p : PlainProgram) → IsSeparated p written false (call_next (own sum_field))
argument p = (tt, (tt, tt))

-- for (long i = 0; i < 3; i += 1) sum = sum + p; calls nothing, so it may access in every turn
loop_without_calls : (p : PlainProgram) → IsSeparated p written false (for_loop 2 (record { 0 = 0 }) Declares (put_local 2 counter Put (number (pos 0))) (binary Less (local counter) (number (pos 3))) (put_local 2 counter Add (number (pos 1))) add_to_sum)
loop_without_calls p = (tt, (tt, tt, tt), tt, (tt, (tt, tt, tt)))

-- { next->m(p); next->m(sum); }: the second argument stands behind the first call
second_argument : (p : PlainProgram) → ¬ AreSeparated p written false (statements_2 (call_next parameter) (call_next (own sum_field)))
second_argument p s = s.1.0.1.0 (there sum_field)

-- { if (next != nullptr) next->m(p); last = sum; }: a path with the call leads to the access
late : (p : PlainProgram) → ¬ AreSeparated p written false (statements_2 (pass_on parameter) (put_field 3 last_field Put (own sum_field)))
late p s = s.1.0.1 (there sum_field)

-- { next->m(p); sum = 1; }: a put is an access too, whatever its right side is
put_behind : (p : PlainProgram) → ¬ AreSeparated p written false (statements_2 (call_next parameter) (put_field 3 sum_field Put (number (pos 1))))
put_behind p s = s.1.0.0 (there sum_field)

-- { next->m(p); seen[0] = 1; } where `seen` is written
put_item_behind : (p : PlainProgram) → ¬ AreSeparated p (seen_field ∷ []) false (statements_2 (call_next parameter) (put_item 3 seen_field (number (pos 0)) Put (number (pos 1))))
put_item_behind p s = s.1.0.0 (there seen_field)

-- { next->m(p); long x = seen[base]; } where `seen` is written
item_behind : (p : PlainProgram) → ¬ AreSeparated p (seen_field ∷ []) false (statements_2 (call_next parameter) (put_local 3 counter Put (own_item seen_field (own base_field))))
item_behind p s = s.1.0.0 (there seen_field)

-- while (next != nullptr) { sum = sum + p; next->m(p); }: the call of one turn precedes the access of the next
while_with_call : (p : PlainProgram) → ¬ IsSeparated p written false (while_loop 2 (binary NotEqual (own next_field) null) (block 2 (statements_2 add_to_sum (call_next parameter))))
while_with_call p s = s.1.0.0 (there sum_field)

-- while (sum < 3) next->m(p); has the access in its condition
condition_with_call : (p : PlainProgram) → ¬ IsSeparated p written false (while_loop 2 (binary Less (own sum_field) (number (pos 3))) (call_next parameter))
condition_with_call p s = s.0.1 (there sum_field)

-- for (long i = sum; ..) next->m(p); is judged as if a call came before the first part
first_part_with_call : (p : PlainProgram) → ¬ IsSeparated p written false (for_loop 2 (record { 0 = 0 }) Declares (put_local 2 counter Put (own sum_field)) (binary Less (local counter) (number (pos 3))) (put_local 2 counter Add (number (pos 1))) (call_next parameter))
first_part_with_call p s = s.0 (there sum_field)

-- for (long i = 0; sum < 3; next->m(p)) {}: so is a call in the next part
next_part_with_call : (p : PlainProgram) → ¬ IsSeparated p written false (for_loop 2 (record { 0 = 0 }) Declares (put_local 2 counter Put (number (pos 0))) (binary Less (own sum_field) (number (pos 3))) (call_next parameter) (block 2 no_statements))
next_part_with_call p s = s.1.1 (there sum_field)

-- ---- reads of other objects

-- o->base is a constant
foreign_constant : (p : PlainProgram) → IsClean p written true (read parameter base_field)
foreign_constant p = (base_is_constant, tt)

-- o->sum is written, also where no call came before
foreign : (p : PlainProgram) → ¬ IsClean p written false (read parameter sum_field)
foreign p s = s.0 (there sum_field)

foreign_item : (p : PlainProgram) → ¬ IsClean p (seen_field ∷ []) false (read_item parameter seen_field (number (pos 0)))
foreign_item p s = s.0 (there seen_field)

-- this->next->sum may be the receiver's own, and is read elsewhere all the same
foreign_behind_own : (p : PlainProgram) → ¬ IsClean p written false (read (own next_field) sum_field)
foreign_behind_own p s = s.0 (there sum_field)

-- seen[o->sum] has the read in an index, m(o->sum) in an argument
foreign_index : (p : PlainProgram) → ¬ IsClean p written false (own_item seen_field (read parameter sum_field))
foreign_index p s = s.1.0 (there sum_field)

foreign_argument : (p : PlainProgram) → ¬ IsSeparated p written false (call_next (read parameter sum_field))
foreign_argument p s = s.1.0.0 (there sum_field)

-- ---- creations and prints, wherever they stand

creates_local : (p : PlainProgram) → ¬ IsSeparated p written false (new_local 2 counter cell)
creates_local p s = s

creates_field : (p : PlainProgram) → ¬ IsSeparated p written false (new_field 2 next_field cell)
creates_field p s = s

creates_item : (p : PlainProgram) → ¬ IsSeparated p written false (new_item 2 seen_field (number (pos 0)) cell)
creates_item p s = s

prints : (p : PlainProgram) → ¬ AreSeparated p written false (statements_2 add_to_sum (if_else 3 (binary Less parameter (number (pos 3))) (block 3 (statement_and (print_value 4 parameter) no_statements)) (block 5 no_statements)))
prints p s = s.1.0.1.0

-- ---- divisors

two : pos 2 ≢ pos 0
two = search rules

-- n / -2 and n % 2 divide by literals
by_two : (p : PlainProgram) → IsClean p written false (binary Divide (own sum_field) (unary sign.Minus (number (pos 2))))
by_two p = (two, tt, tt)

remainder_by_two : (p : PlainProgram) → IsClean p written false (binary Remainder (own sum_field) (number (pos 2)))
remainder_by_two p = (two, tt, tt)

-- n / p, n % p, n / 0, n / -0, n / (1 + 1) and n / base don't
by_parameter : (p : PlainProgram) → ¬ IsClean p written false (binary Divide (own sum_field) parameter)
by_parameter p s = s.0

remainder_by_parameter : (p : PlainProgram) → ¬ IsClean p written false (binary Remainder (own sum_field) parameter)
remainder_by_parameter p s = s.0

by_zero : (p : PlainProgram) → ¬ IsClean p written false (binary Divide (own sum_field) (number (pos 0)))
by_zero p s = s.0 refl

by_minus_zero : (p : PlainProgram) → ¬ IsClean p written false (binary Divide (own sum_field) (unary sign.Minus (number (pos 0))))
by_minus_zero p s = s.0 refl

by_sum : (p : PlainProgram) → ¬ IsClean p written false (binary Divide (own sum_field) (binary Plus (number (pos 1)) (number (pos 1))))
by_sum p s = s.0

by_constant : (p : PlainProgram) → ¬ IsClean p written false (binary Divide (own sum_field) (own base_field))
by_constant p s = s.0

-- n ^ p and max(n, n / p): these operators ask nothing of their right sides, but divisions in them do
by_any_bits : (p : PlainProgram) → IsClean p written false (binary BitXor (own sum_field) parameter)
by_any_bits p = (tt, tt, tt)

division_in_a_side : (p : PlainProgram) → ¬ IsClean p written false (binary Max (own sum_field) (binary Divide (own sum_field) parameter))
division_in_a_side p s = s.2.0

-- a division that stands in an index, under an operator
division_inside : (p : PlainProgram) → ¬ IsClean p written false (binary Plus (number (pos 1)) (own_item seen_field (binary Remainder (number (pos 7)) parameter)))
division_inside p s = s.2.1.0
