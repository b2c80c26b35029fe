-- Whether an execution is refused for a term that is too heavy, in the order in which it makes its terms.
use Rattle.std.specs.Prelude.{Bool, true, false, ◌&&◌, ◌||◌, if◌then◌else◌, Option, Some, None}
use Rattle.std.specs.List.{list_any}
use Rattle.ca_tree.specs.declared.tree.AssignOp.{AssignOp}
use Rattle.ca_tree.specs.declared.tree.AssignOp.TheVariants as assign
use Rattle.ca_tree.specs.declared.tree.BinaryOp.{BinaryOp}
use Rattle.ca_tree.specs.declared.tree.BinaryOp.TheVariants.{Or, And, Plus, Minus}
use Rattle.ca_program.specs.declared.program.FieldId.{FieldId}
use Rattle.ca_program.specs.Plain.{PlainProgram, Expression, Expressions, number, truth, null, this, local, own, own_item, read, read_item, value_call, unary, binary, no_expressions, expression_and, Statement, Statements, block, put_local, put_field, put_item, new_local, new_field, new_item, invoke, if_else, while_loop, for_loop, return_value, print_value, no_statements, statement_and}
use Rattle.ca_sweep.specs.Sweeps.{PlainSweep}
use Rattle.ca_sweep.specs.Found.{sweep_at}
use Rattle.ca_folds.specs.declared.operator.FoldOp.{FoldOp}
use Rattle.ca_folds.specs.declared.operator.FoldOp.TheVariants as fold_op
use Rattle.ca_norm.specs.Terms.{PlainTerm, neg, add_at, select, put, mul, fold}
use Rattle.ca_norm.specs.Terms as term
use Rattle.ca_symbolic.specs.States.{State, term_at}
use Rattle.ca_symbolic.specs.Execution.{term_of, signed_term, operation, divisor, put_term, is_item, sweep_term, after}
use Rattle.ca_symbolic.specs.Demands.{right_guard, then_guard, else_guard, loop_parts}
use Rattle.ca_symbolic.specs.Made.{joined_terms}
use Rattle.ca_shared_terms.specs.Heavy.{is_heavy}

-- In an expression: at a term inside it, or at its own

abbrev pub refused_guard : BinaryOp → PlainTerm → PlainTerm → Bool
refused_guard And g t = is_heavy (right_guard And g t)
refused_guard Or g t = is_heavy (term.not t) || is_heavy (right_guard Or g t)
refused_guard op g t = false

abbrev mutual
  pub refused : PlainProgram → State → PlainTerm → Expression → Bool
  refused p s g (number n) = false
  refused p s g (truth b) = false
  refused p s g null = false
  refused p s g this = false
  refused p s g (local l) = is_heavy (term_at s.locals l.0)
  refused p s g (own f) = is_heavy (term_at s.fields f.field)
  refused p s g (own_item f i) = refused p s g i || is_heavy (term_of p s (own_item f i))
  refused p s g (read e f) = refused p s g e || is_heavy (term_of p s (read e f))
  refused p s g (read_item e f i) = refused p s g e || (refused p s g i || is_heavy (term_of p s (read_item e f i)))
  refused p s g (value_call e m arguments) =
      refused p s g e || (refused_all p s g arguments || is_heavy (term_of p s (value_call e m arguments)))
  refused p s g (unary op e) = refused p s g e || is_heavy (signed_term op (term_of p s e))
  refused p s g (binary op a b) =
      refused p s g a || (refused_guard op g (term_of p s a) || (refused p s (right_guard op g (term_of p s a)) b ||
      is_heavy (operation op (term_of p s a) (term_of p s b) (divisor b))))

  pub refused_all : PlainProgram → State → PlainTerm → Expressions → Bool
  refused_all p s g no_expressions = false
  refused_all p s g (expression_and e es) = refused p s g e || refused_all p s g es

-- At a put to an item: where the right side adds to it, the item itself is looked up and not made

abbrev pub refused_item : PlainProgram → State → PlainTerm → Expression → Bool
refused_item p s g (own_item f i) = refused p s g i
refused_item p s g e = refused p s g e

abbrev pub is_own_item : Expression → Bool
is_own_item (own_item f i) = true
is_own_item e = false

-- the array with a put of a value done to its item at an index
abbrev pub with_put : AssignOp → PlainTerm → PlainTerm → PlainTerm → PlainTerm
with_put assign.Put a t x = put a t x
with_put assign.Add a t x = add_at a t x
with_put assign.Sub a t x = add_at a t (neg x)
with_put assign.Mul a t x = put a t (mul (select a t) x)
with_put assign.BitAnd a t x = put a t (fold fold_op.BitAnd (select a t) x)
with_put assign.BitOr a t x = put a t (fold fold_op.BitOr (select a t) x)
with_put assign.BitXor a t x = put a t (fold fold_op.BitXor (select a t) x)

-- the item, what the operator makes of it, and the array behind its put
abbrev pub refused_fold : FoldOp → PlainTerm → PlainTerm → PlainTerm → Bool
refused_fold o a t x = is_heavy (select a t) || (is_heavy (fold o (select a t) x) || is_heavy (put a t (fold o (select a t) x)))

abbrev pub refused_put : AssignOp → PlainTerm → PlainTerm → PlainTerm → Bool
refused_put assign.Put a t x = is_heavy (put a t x)
refused_put assign.Add a t x = is_heavy (add_at a t x)
refused_put assign.Sub a t x = is_heavy (neg x) || is_heavy (add_at a t (neg x))
refused_put assign.Mul a t x = is_heavy (select a t) || (is_heavy (mul (select a t) x) || is_heavy (put a t (mul (select a t) x)))
refused_put assign.BitAnd a t x = refused_fold fold_op.BitAnd a t x
refused_put assign.BitOr a t x = refused_fold fold_op.BitOr a t x
refused_put assign.BitXor a t x = refused_fold fold_op.BitXor a t x

-- the put of an expression, at an index with this term
abbrev pub refused_value : PlainProgram → State → PlainTerm → FieldId → AssignOp → PlainTerm → Expression → Bool
refused_value p s g f op t e = refused p s g e || refused_put op (term_at s.fields f.field) t (term_of p s e)

-- the put of `left op right`, where the whole is e
abbrev pub put_sum : PlainProgram → State → FieldId → Expression → AssignOp → PlainTerm → Expression → Expression → Expression → PlainTerm
put_sum p s f i op t left right e =
    if is_item f i left then with_put op (term_at s.fields f.field) t (term_of p s right) else put (term_at s.fields f.field) t (term_of p s e)

abbrev pub refused_sum : PlainProgram → State → PlainTerm → FieldId → Expression → AssignOp → PlainTerm → Expression → Expression → Expression → Bool
refused_sum p s g f i op t left right e =
    if is_item f i left then refused_item p s g left || refused_value p s g f op t right else refused_value p s g f assign.Put t e

abbrev pub refused_right : PlainProgram → State → PlainTerm → FieldId → Expression → Expression → Bool
refused_right p s g f i (binary Plus a b) = refused_sum p s g f i assign.Add (term_of p s i) a b (binary Plus a b)
refused_right p s g f i (binary Minus a b) = refused_sum p s g f i assign.Sub (term_of p s i) a b (binary Minus a b)
refused_right p s g f i e = refused_value p s g f assign.Put (term_of p s i) e

abbrev pub refused_array : PlainProgram → State → PlainTerm → FieldId → Expression → AssignOp → Expression → Bool
refused_array p s g f i assign.Put e = refused_right p s g f i e
refused_array p s g f i op e = refused_value p s g f op (term_of p s i) e

-- In a statement

-- what a sweep adds
abbrev pub refused_addend : PlainProgram → State → PlainTerm → Bool → Expression → Bool
refused_addend p s g minus e = refused p s g e || (minus && is_heavy (neg (term_of p s e)))

-- its bounds, what it adds, and the array behind it
abbrev pub refused_sweep : PlainProgram → State → PlainTerm → PlainSweep → Bool
refused_sweep p s g w = refused p s g w.from || (refused p s g w.to || (refused_addend p s g w.minus w.addend || is_heavy (sweep_term p s w)))

abbrev pub refused_loop : PlainProgram → State → PlainTerm → Statement → Option PlainSweep → Bool
refused_loop p s g loop None = list_any is_heavy (loop_parts s loop)
refused_loop p s g loop (Some w) = refused_sweep p s g w

abbrev mutual
  pub refused_by : PlainProgram → State → PlainTerm → Statement → Bool
  refused_by p s g (block line ss) = refused_by_all p s g ss
  refused_by p s g (put_local line l op e) = refused p s g e || is_heavy (put_term op (term_at s.locals l.0) (term_of p s e))
  refused_by p s g (put_field line f op e) = refused p s g e || is_heavy (put_term op (term_at s.fields f.field) (term_of p s e))
  refused_by p s g (put_item line f i op e) = refused p s g i || refused_array p s g f i op e
  refused_by p s g (invoke line e op arguments) = refused p s g e || refused_all p s g arguments
  refused_by p s g (if_else line c a b) =
      refused p s g c || (is_heavy (then_guard g (term_of p s c)) || (refused_by p s (then_guard g (term_of p s c)) a ||
      (is_heavy (term.not (term_of p s c)) || (is_heavy (else_guard g (term_of p s c)) || (refused_by p s (else_guard g (term_of p s c)) b ||
      list_any is_heavy (joined_terms a b (after p s (if_else line c a b))))))))
  refused_by p s g (for_loop line site part first c next b) =
      refused_loop p s g (for_loop line site part first c next b) (sweep_at (for_loop line site part first c next b))
  refused_by p s g (while_loop line c b) = false
  refused_by p s g (new_local line l c) = false
  refused_by p s g (new_field line f c) = false
  refused_by p s g (new_item line f i c) = false
  refused_by p s g (return_value line e) = false
  refused_by p s g (print_value line e) = false

  pub refused_by_all : PlainProgram → State → PlainTerm → Statements → Bool
  refused_by_all p s g no_statements = false
  refused_by_all p s g (statement_and x xs) = refused_by p s g x || refused_by_all p (after p s x) g xs
