-- Symbolic execution: what a body leaves in its fields and locals, as terms over what they held before.
use Rattle.std.specs.Prelude.{ℕ, suc, ℤ, neg_ℤ, Bool, true, false, ◌&&◌, ◌||◌, nat_eq, if◌then◌else◌, List, [], ◌∷◌, Option, Some, None, slice_get, slice_set}
use Rattle.std.specs.Int.{int_wrap, w64}
use Rattle.std.specs.List.{list_any}
use Rattle.ca_tree.specs.declared.tree.AssignOp.{AssignOp}
use Rattle.ca_tree.specs.declared.tree.AssignOp.TheVariants as assign
use Rattle.ca_tree.specs.declared.tree.BinaryOp.{BinaryOp}
use Rattle.ca_tree.specs.declared.tree.BinaryOp.TheVariants.{Or, And, Equal, NotEqual, Less, Greater, LessEqual, GreaterEqual, Plus, Minus, Times, Divide, Remainder, BitAnd, BitOr, BitXor, Max, Min}
use Rattle.ca_tree.specs.declared.tree.UnaryOp.{UnaryOp}
use Rattle.ca_tree.specs.declared.tree.UnaryOp.TheVariants as sign
use Rattle.ca_program.specs.declared.program.FieldId.{FieldId}
use Rattle.ca_program.specs.declared.program.FieldInfo.{FieldInfo}
use Rattle.ca_program.specs.declared.program.ValueType.{ValueType}
use Rattle.ca_program.specs.Fields.{same_field}
use Rattle.ca_program.specs.Plain.{PlainProgram, PlainMethod, Expression, Expressions, this, local, own, own_item, read_item, value_call, unary, binary, no_expressions, expression_and, Statement, Statements, block, put_local, put_field, put_item, if_else, for_loop, no_statements, statement_and}
use Rattle.ca_program.specs.Plain as plain
use Rattle.ca_meaning.specs.ProgramTyped.{field_info}
use Rattle.ca_parallel.specs.Bodies.{targets_of}
use Rattle.ca_symbolic.specs.Same.{same_expression}
use Rattle.ca_folds.specs.declared.operator.FoldOp.TheVariants as fold_op
use Rattle.ca_sweep.specs.Sweeps.{PlainSweep}
use Rattle.ca_sweep.specs.Found.{sweep_at}
use Rattle.ca_forms.specs.declared.sort.Sort.{Sort}
use Rattle.ca_forms.specs.declared.sort.Sort.TheVariants.{Pointer}
use Rattle.ca_norm.specs.Terms.{PlainTerm, PlainTerms, number, truth, null, add, sub, neg, mul, divide, remainder, less, less_equal, same, not, and, or, choose, read, read_at, result, select, put, add_at, fold, sweep, no_terms, term_and}
use Rattle.ca_shared_terms.specs.Starts.{sort_of_type}
use Rattle.ca_symbolic.specs.States.{State, term_at, receiver}

-- Terms of expressions

-- the sort of what a field holds, or each of its items; and of what a value method gives
abbrev pub sort_in : Option FieldInfo → Sort
sort_in None = Pointer
sort_in (Some f) = sort_of_type f.ty

abbrev pub sort_of_given : Option ValueType → Sort
sort_of_given None = Pointer
sort_of_given (Some ty) = sort_of_type ty

abbrev pub sort_of_result : Option PlainMethod → Sort
sort_of_result None = Pointer
sort_of_result (Some m) = sort_of_given m.result

-- the divisor on the right side, where it is a number with or without one minus
abbrev pub divisor : Expression → Option ℤ
divisor (plain.number n) = Some n
divisor (unary sign.Minus (plain.number n)) = Some (int_wrap w64 (neg_ℤ n))
divisor _ = None

-- A division by anything else has the sum of both sides, so that each is looked at; no operation that is separable has one.
abbrev pub divided : (PlainTerm → ℤ → PlainTerm) → PlainTerm → PlainTerm → Option ℤ → PlainTerm
divided by a b (Some n) = by a n
divided by a b None = add a b

-- `a > b` is `b < a`, and `a >= b` is `b <= a`
abbrev pub operation : BinaryOp → PlainTerm → PlainTerm → Option ℤ → PlainTerm
operation Or a b n = or a b
operation And a b n = and a b
operation Equal a b n = same a b
operation NotEqual a b n = not (same a b)
operation Less a b n = less a b
operation Greater a b n = less b a
operation LessEqual a b n = less_equal a b
operation GreaterEqual a b n = less_equal b a
operation Plus a b n = add a b
operation Minus a b n = sub a b
operation Times a b n = mul a b
operation Divide a b n = divided divide a b n
operation Remainder a b n = divided remainder a b n
operation BitAnd a b n = fold fold_op.BitAnd a b
operation BitOr a b n = fold fold_op.BitOr a b
operation BitXor a b n = fold fold_op.BitXor a b
operation Max a b n = fold fold_op.Max a b
operation Min a b n = fold fold_op.Min a b

abbrev pub signed_term : UnaryOp → PlainTerm → PlainTerm
signed_term sign.Minus a = neg a
signed_term sign.Not a = not a

abbrev mutual
  pub term_of : PlainProgram → State → Expression → PlainTerm
  term_of p s (plain.number n) = number n
  term_of p s (plain.truth b) = truth b
  term_of p s plain.null = null
  term_of p s this = receiver
  term_of p s (local l) = term_at s.locals l.0
  term_of p s (own f) = term_at s.fields f.field
  term_of p s (own_item f i) = select (term_at s.fields f.field) (term_of p s i)
  term_of p s (plain.read e f) = read (sort_in (field_info p f)) (term_of p s e) f.class.0 f.field
  term_of p s (read_item e f i) = read_at (sort_in (field_info p f)) (term_of p s e) f.class.0 f.field (term_of p s i)
  term_of p s (value_call e m arguments) = result (sort_of_result (slice_get p.functions m.0)) m.0 (term_of p s e) (terms_of p s arguments)
  term_of p s (unary op e) = signed_term op (term_of p s e)
  term_of p s (binary op a b) = operation op (term_of p s a) (term_of p s b) (divisor b)

  pub terms_of : PlainProgram → State → Expressions → PlainTerms
  terms_of p s no_expressions = no_terms
  terms_of p s (expression_and e es) = term_and (term_of p s e) (terms_of p s es)

-- Puts

abbrev pub put_term : AssignOp → PlainTerm → PlainTerm → PlainTerm
put_term assign.Put old t = t
put_term assign.Add old t = add old t
put_term assign.Sub old t = sub old t
put_term assign.Mul old t = mul old t
put_term assign.BitAnd old t = fold fold_op.BitAnd old t
put_term assign.BitOr old t = fold fold_op.BitOr old t
put_term assign.BitXor old t = fold fold_op.BitXor old t

-- the expression is the item of that field at that index, written alike
abbrev pub is_item : FieldId → Expression → Expression → Bool
is_item f i (own_item g j) = same_field f g && same_expression i j
is_item f i _ = false

-- `a[i] = a[i] + e` and `a[i] = a[i] - e` add to the item, as `a[i] += e` and `a[i] -= e` do
abbrev pub put_right : PlainProgram → State → FieldId → Expression → Expression → PlainTerm
put_right p s f i (binary Plus a b) =
    if is_item f i a then add_at (term_at s.fields f.field) (term_of p s i) (term_of p s b)
    else put (term_at s.fields f.field) (term_of p s i) (term_of p s (binary Plus a b))
put_right p s f i (binary Minus a b) =
    if is_item f i a then add_at (term_at s.fields f.field) (term_of p s i) (neg (term_of p s b))
    else put (term_at s.fields f.field) (term_of p s i) (term_of p s (binary Minus a b))
put_right p s f i e = put (term_at s.fields f.field) (term_of p s i) (term_of p s e)

-- the array behind a put to one of its items
abbrev pub array_term : PlainProgram → State → FieldId → Expression → AssignOp → Expression → PlainTerm
array_term p s f i assign.Put e = put_right p s f i e
array_term p s f i assign.Add e = add_at (term_at s.fields f.field) (term_of p s i) (term_of p s e)
array_term p s f i assign.Sub e = add_at (term_at s.fields f.field) (term_of p s i) (neg (term_of p s e))
array_term p s f i assign.Mul e = put (term_at s.fields f.field) (term_of p s i) (mul (select (term_at s.fields f.field) (term_of p s i)) (term_of p s e))
array_term p s f i assign.BitAnd e = put (term_at s.fields f.field) (term_of p s i) (fold fold_op.BitAnd (select (term_at s.fields f.field) (term_of p s i)) (term_of p s e))
array_term p s f i assign.BitOr e = put (term_at s.fields f.field) (term_of p s i) (fold fold_op.BitOr (select (term_at s.fields f.field) (term_of p s i)) (term_of p s e))
array_term p s f i assign.BitXor e = put (term_at s.fields f.field) (term_of p s i) (fold fold_op.BitXor (select (term_at s.fields f.field) (term_of p s i)) (term_of p s e))

abbrev pub with_field : State → ℕ → PlainTerm → State
with_field s n t = record { fields = slice_set s.fields n t; locals = s.locals }

abbrev pub with_local : State → ℕ → PlainTerm → State
with_local s n t = record { fields = s.fields; locals = slice_set s.locals n t }

-- Branches

-- A local that the statement puts. The counter of a call loop is none: nothing behind the loop can read it.
abbrev mutual
  pub puts_local : Statement → ℕ → Bool
  puts_local (block line ss) n = any_puts_local ss n
  puts_local (put_local line l op e) n = nat_eq l.0 n
  puts_local (if_else line c a b) n = puts_local a n || puts_local b n
  puts_local other n = false

  pub any_puts_local : Statements → ℕ → Bool
  any_puts_local no_statements n = false
  any_puts_local (statement_and x xs) n = puts_local x n || any_puts_local xs n

abbrev pub puts_field : Statement → ℕ → Bool
puts_field x n = list_any (λ f. nat_eq f.field n) (targets_of x)

abbrev pub choose_if : Bool → PlainTerm → PlainTerm → PlainTerm → PlainTerm
choose_if true c a b = choose c a b
choose_if false c a b = a

-- Terms behind two branches: each target becomes a choice. The first of the lists has the number n.
abbrev pub choices : (ℕ → Bool) → ℕ → PlainTerm → List PlainTerm → List PlainTerm → List PlainTerm
choices is_target n c (t ∷ ts) (u ∷ us) = choose_if (is_target n) c t u ∷ choices is_target (suc n) c ts us
choices is_target n c _ _ = []

abbrev pub field_target : Statement → Statement → ℕ → Bool
field_target a b n = puts_field a n || puts_field b n

abbrev pub local_target : Statement → Statement → ℕ → Bool
local_target a b n = puts_local a n || puts_local b n

abbrev pub joined_state : PlainTerm → Statement → Statement → State → State → State
joined_state c a b s t = record {
  fields = choices (field_target a b) 0 c s.fields t.fields;
  locals = choices (local_target a b) 0 c s.locals t.locals;
}

-- Sweeps

abbrev pub addend_term : Bool → PlainTerm → PlainTerm
addend_term true t = neg t
addend_term false t = t

-- the array behind a sweep
abbrev pub sweep_term : PlainProgram → State → PlainSweep → PlainTerm
sweep_term p s w = sweep (term_at s.fields w.field.field) (term_of p s w.from) (term_of p s w.to) (addend_term w.minus (term_of p s w.addend))

-- a loop that sweeps puts its field, and any other passes by
abbrev pub after_loop : PlainProgram → State → Option PlainSweep → State
after_loop p s None = s
after_loop p s (Some w) = with_field s w.field.field (sweep_term p s w)

-- Statements

-- The state behind a statement. A call changes nothing of its caller's, nor does a loop of calls. What no separable
-- operation has, and every other loop, is passed over.
abbrev mutual
  pub after : PlainProgram → State → Statement → State
  after p s (block line ss) = after_all p s ss
  after p s (put_local line l op e) = with_local s l.0 (put_term op (term_at s.locals l.0) (term_of p s e))
  after p s (put_field line f op e) = with_field s f.field (put_term op (term_at s.fields f.field) (term_of p s e))
  after p s (put_item line f i op e) = with_field s f.field (array_term p s f i op e)
  after p s (if_else line c a b) = joined_state (term_of p s c) a b (after p s a) (after p s b)
  after p s (for_loop line site part first c next b) = after_loop p s (sweep_at (for_loop line site part first c next b))
  after p s other = s

  pub after_all : PlainProgram → State → Statements → State
  after_all p s no_statements = s
  after_all p s (statement_and x xs) = after_all p (after p s x) xs
