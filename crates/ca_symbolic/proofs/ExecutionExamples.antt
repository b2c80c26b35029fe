-- Worked examples of symbolic execution over whole bodies.
use Rattle.std.proofs.Common.{◌≡◌, ℕ, true, false, List, [], ◌∷◌, None, Some, refl, codes, pos}
use Rattle.ca_tree.specs.declared.tree.AssignOp.TheVariants.{Put, Add, Sub, BitXor}
use Rattle.ca_tree.specs.declared.tree.BinaryOp.TheVariants.{And, Less, Plus, Minus, Greater, Divide, Max}
use Rattle.ca_program.specs.declared.program.ClassId.{ClassId}
use Rattle.ca_program.specs.declared.program.FieldId.{FieldId}
use Rattle.ca_program.specs.declared.program.FieldInfo.{FieldInfo}
use Rattle.ca_program.specs.declared.program.FirstPart.TheVariants.{Declares, Assigns}
use Rattle.ca_program.specs.declared.program.FunctionId.{FunctionId}
use Rattle.ca_program.specs.declared.program.OpId.{OpId}
use Rattle.ca_program.specs.declared.program.ValueType.TheVariants as type
use Rattle.ca_program.specs.Plain.{PlainProgram, PlainMethod, Expression, Statement, local, own, own_item, value_call, binary, no_expressions, expression_and, block, put_local, put_field, put_item, invoke, if_else, while_loop, for_loop, return_value, no_statements, statement_and}
use Rattle.ca_program.specs.Plain as plain
use Rattle.ca_folds.specs.declared.operator.FoldOp.TheVariants as fold_op
use Rattle.ca_forms.specs.declared.sort.Sort.TheVariants.{Long, Bool, Pointer, LongArray}
use Rattle.ca_norm.specs.Terms.{PlainTerm, truth, atom, add, sub, less, divide, not, and, choose, result, put, add_at, select, neg, fold, sweep, no_terms}
use Rattle.ca_shared_terms.specs.Starts.{starts}
use Rattle.ca_symbolic.specs.States.{State, not_null, in_range, calls, invokes, loops, sweeps, demand, first_locals, receiver}
use Rattle.ca_symbolic.specs.Execution.{term_of, after}
use Rattle.ca_symbolic.specs.Demands.{demanded, demanded_all}
use Rattle.ca_symbolic.specs.Made.{made_by}
use Rattle.ca_symbolic.specs.OtherLoops.{is_call_loop, other_loop_in}

-- class Cell { public: long x; bool b; long a[4]; Cell *next; long f() { return 1; } void m(long p, long i) { .. } };
abbrev cell : ClassId
cell = record { 0 = 0 }

abbrev field : ℕ → FieldId
field n = record { class = cell; field = n }

abbrev fields : List FieldInfo
fields =
    record { name = codes "x"; ty = type.Long; length = None } ∷ record { name = codes "b"; ty = type.Bool; length = None } ∷
    record { name = codes "a"; ty = type.Long; length = Some 4 } ∷ record { name = codes "next"; ty = type.Pointer cell; length = None } ∷ []

abbrev value_method : PlainMethod
value_method = record {
  class = cell;
  name = codes "f";
  params = 0;
  body = record { locals = []; statements = statement_and (return_value 1 (plain.number (pos 1))) no_statements };
  result = Some type.Long;
}

abbrev operation : PlainMethod
operation = record {
  class = cell;
  name = codes "m";
  params = 2;
  body = record { locals = type.Long ∷ type.Long ∷ type.Bool ∷ []; statements = no_statements };
  result = None;
}

abbrev program : PlainProgram
program = record {
  classes = record { name = codes "Cell"; fields = fields } ∷ [];
  ops = operation ∷ [];
  functions = value_method ∷ [];
  main = record { locals = []; statements = no_statements };
}

abbrev m : OpId
m = record { 0 = 0 }

abbrev f : FunctionId
f = record { 0 = 0 }

abbrev variable : ℕ → Expression
variable n = local (record { 0 = n })

abbrev x : Expression
x = own (field 0)

abbrev b : Expression
b = own (field 1)

abbrev next : Expression
next = own (field 3)

-- the state in which the first operation begins
abbrev start : State
start = record { fields = starts 0 fields; locals = first_locals 1 (Some operation) }

the_locals : start.locals ≡ atom Long 1 0 ∷ atom Long 1 1 ∷ truth false ∷ []
the_locals = refl

abbrev x0 : PlainTerm
x0 = atom Long 3 0

abbrev b0 : PlainTerm
b0 = atom Bool 3 1

abbrev a0 : PlainTerm
a0 = atom LongArray 3 2

abbrev next0 : PlainTerm
next0 = atom Pointer 3 3

abbrev p0 : PlainTerm
p0 = atom Long 1 0

abbrev i0 : PlainTerm
i0 = atom Long 1 1

-- if (b) x = x + p; else x = x - p;
abbrev branches : Statement
branches = if_else 1 b (put_field 1 (field 0) Put (binary Plus x (variable 0))) (put_field 1 (field 0) Put (binary Minus x (variable 0)))

a_target_of_a_branch_is_a_choice : (after program start branches).fields ≡ choose b0 (add x0 p0) (sub x0 p0) ∷ b0 ∷ a0 ∷ next0 ∷ []
a_target_of_a_branch_is_a_choice = refl

both_conditions_are_made :
    made_by program start (truth true) (statement_and branches no_statements) ≡
    and (truth true) b0 ∷ add x0 p0 ∷ and (truth true) (not b0) ∷ sub x0 p0 ∷ choose b0 (add x0 p0) (sub x0 p0) ∷ []
both_conditions_are_made = refl

-- a[i] = a[i] - p; adds to the item, as a[i] -= p; does
taken_off_an_item :
    (after program start (put_item 1 (field 2) (variable 1) Put (binary Minus (own_item (field 2) (variable 1)) (variable 0)))).fields ≡
    x0 ∷ b0 ∷ add_at a0 i0 (neg p0) ∷ next0 ∷ []
taken_off_an_item = refl

-- a[i] = p + a[i]; and a[i] = a[i] + p + p; put it
not_taken_for_a_sum :
    (after program start (put_item 1 (field 2) (variable 1) Put (binary Plus (variable 0) (own_item (field 2) (variable 1))))).fields ≡
    x0 ∷ b0 ∷ put a0 i0 (add p0 (select a0 i0)) ∷ next0 ∷ []
not_taken_for_a_sum = refl

nor_is_a_longer_sum :
    (after program start (put_item 1 (field 2) (variable 1) Put (binary Plus (binary Plus (own_item (field 2) (variable 1)) (variable 0)) (variable 0)))).fields ≡
    x0 ∷ b0 ∷ put a0 i0 (add (add (select a0 i0) p0) p0) ∷ next0 ∷ []
nor_is_a_longer_sum = refl

-- x = max(x, p);
greatest_of_two : (after program start (put_field 1 (field 0) Put (binary Max x (variable 0)))).fields ≡ fold fold_op.Max x0 p0 ∷ b0 ∷ a0 ∷ next0 ∷ []
greatest_of_two = refl

-- a[i] ^= p; puts what the operator makes of the item
joined_with_an_item :
    (after program start (put_item 1 (field 2) (variable 1) BitXor (variable 0))).fields ≡ x0 ∷ b0 ∷ put a0 i0 (fold fold_op.BitXor (select a0 i0) p0) ∷ next0 ∷ []
joined_with_an_item = refl

-- the index of the item that is read again is checked again
index_checked_twice :
    demanded program start (truth true) (put_item 1 (field 2) (variable 1) Put (binary Minus (own_item (field 2) (variable 1)) (variable 0))) ≡
    demand (truth true) (in_range (field 2)) (i0 ∷ []) ∷ demand (truth true) (in_range (field 2)) (i0 ∷ []) ∷ []
index_checked_twice = refl

index_checked_once :
    demanded program start (truth true) (put_item 1 (field 2) (variable 1) Add (variable 0)) ≡ demand (truth true) (in_range (field 2)) (i0 ∷ []) ∷ []
index_checked_once = refl

-- next->m(f(), x); the receiver of f is checked too, and the null check of a call stands behind its arguments
demands_of_a_call :
    demanded program start (truth true) (invoke 1 next m (expression_and (value_call plain.this f no_expressions) (expression_and x no_expressions))) ≡
    demand (truth true) not_null (receiver ∷ []) ∷ demand (truth true) (calls f) (receiver ∷ []) ∷
    demand (truth true) not_null (next0 ∷ []) ∷ demand (truth true) (invokes m) (next0 ∷ result Long 0 receiver no_terms ∷ x0 ∷ []) ∷ []
demands_of_a_call = refl

-- b && f() > 2: the right side is evaluated only where the left is true
demand_under_a_left_side :
    demanded program start (truth true) (put_local 1 (record { 0 = 2 }) Put (binary And b (binary Greater (value_call plain.this f no_expressions) (plain.number (pos 2))))) ≡
    demand (and (truth true) b0) not_null (receiver ∷ []) ∷ demand (and (truth true) b0) (calls f) (receiver ∷ []) ∷ []
demand_under_a_left_side = refl

greater_is_less : term_of program start (binary Greater x (variable 0)) ≡ less p0 x0
greater_is_less = refl

divided_by_a_literal : term_of program start (binary Divide x (plain.number (pos 3))) ≡ divide x0 (pos 3)
divided_by_a_literal = refl

-- for (long i = p; i < q; i++) next->m(i, p); whose counter is local 2, after p = x;
abbrev loop : Statement
loop =
    for_loop 2 (record { 0 = 0 }) Declares (put_local 2 (record { 0 = 2 }) Put (variable 0)) (binary Less (variable 2) (variable 1))
    (put_local 2 (record { 0 = 2 }) Add (plain.number (pos 1))) (invoke 2 next m (expression_and (variable 2) (expression_and (variable 0) no_expressions)))

a_call_loop : is_call_loop loop ≡ true
a_call_loop = refl

-- one demand, of the values of the locals that it reads, without its counter
demand_of_a_loop :
    demanded_all program start (truth true) (statement_and (put_local 1 (record { 0 = 0 }) Put x) (statement_and loop no_statements)) ≡
    demand (truth true) (loops (record { 0 = 0 })) (x0 ∷ i0 ∷ []) ∷ []
demand_of_a_loop = refl

-- a loop whose counter is declared outside is none
no_call_loop :
    is_call_loop
    (for_loop 2 (record { 0 = 0 }) Assigns (put_local 2 (record { 0 = 2 }) Put (variable 0)) (binary Less (variable 2) (variable 1))
    (put_local 2 (record { 0 = 2 }) Add (plain.number (pos 1))) (invoke 2 next m (expression_and (variable 2) (expression_and (variable 0) no_expressions)))) ≡
    false
no_call_loop = refl

the_first_other_loop :
    other_loop_in 2 [] (statement_and loop (statement_and (while_loop 3 b (block 3 no_statements)) (statement_and (while_loop 4 b (block 4 no_statements)) no_statements))) ≡ Some 3
the_first_other_loop = refl

-- for (long i = p; i < q; i++) a[i] -= x; whose counter is local 2
abbrev sweep_loop : Statement
sweep_loop =
    for_loop 3 (record { 0 = 1 }) Declares (put_local 3 (record { 0 = 2 }) Put (variable 0)) (binary Less (variable 2) (variable 1))
    (put_local 3 (record { 0 = 2 }) Add (plain.number (pos 1))) (put_item 3 (field 2) (variable 2) Sub x)

-- it puts its field, and its counter is no target
behind_a_sweep : (after program start sweep_loop).fields ≡ x0 ∷ b0 ∷ sweep a0 p0 i0 (neg x0) ∷ next0 ∷ []
behind_a_sweep = refl

locals_behind_a_sweep : (after program start sweep_loop).locals ≡ start.locals
locals_behind_a_sweep = refl

-- one demand, of its bounds
demand_of_a_sweep : demanded program start (truth true) sweep_loop ≡ demand (truth true) (sweeps (field 2)) (p0 ∷ i0 ∷ []) ∷ []
demand_of_a_sweep = refl

-- it is no other loop where its addend isn't written, and else it is one
constant_addend : other_loop_in 2 (field 2 ∷ []) (statement_and sweep_loop no_statements) ≡ None
constant_addend = refl

written_addend : other_loop_in 2 (field 0 ∷ field 2 ∷ []) (statement_and sweep_loop no_statements) ≡ Some 3
written_addend = refl

-- a bound that is a local of the body's own is no parameter
bound_by_a_local : other_loop_in 1 (field 2 ∷ []) (statement_and sweep_loop no_statements) ≡ Some 3
bound_by_a_local = refl
