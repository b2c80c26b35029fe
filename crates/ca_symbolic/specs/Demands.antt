-- What a body demands, each under the condition of the path to it, in the order of evaluation.
use Rattle.std.specs.Prelude.{ℕ, suc, Option, Some, None, Bool, false, ◌&&◌, nat_eq, if◌then◌else◌, List, [], ◌∷◌, ◌++◌}
use Rattle.std.specs.List.{list_any}
use Rattle.ca_tree.specs.declared.tree.BinaryOp.{BinaryOp}
use Rattle.ca_tree.specs.declared.tree.BinaryOp.TheVariants.{Or, And}
use Rattle.ca_program.specs.Plain.{PlainProgram, Expression, Expressions, number, truth, null, this, local, own, own_item, read, read_item, value_call, unary, binary, no_expressions, expression_and, Statement, Statements, block, put_local, put_field, put_item, new_local, new_field, new_item, invoke, if_else, while_loop, for_loop, return_value, print_value, no_statements, statement_and}
use Rattle.ca_meaning.specs.Operators.{not_of}
use Rattle.ca_parallel.specs.Bodies.{expressions_of}
use Rattle.ca_parallel.specs.Scoped.{names}
use Rattle.ca_program.specs.declared.program.LoopId.{LoopId}
use Rattle.ca_sweep.specs.Sweeps.{PlainSweep}
use Rattle.ca_sweep.specs.Found.{sweep_at}
use Rattle.ca_norm.specs.Terms.{PlainTerm}
use Rattle.ca_norm.specs.Terms as term
use Rattle.ca_symbolic.specs.States.{State, not_null, in_range, calls, invokes, loops, sweeps, PlainDemand, demand}
use Rattle.ca_symbolic.specs.Execution.{term_of, after}

-- the term of each expression
abbrev pub terms_in : PlainProgram → State → Expressions → List PlainTerm
terms_in p s no_expressions = []
terms_in p s (expression_and e es) = term_of p s e ∷ terms_in p s es

-- the condition under which the right side of an operator is evaluated
abbrev pub right_guard : BinaryOp → PlainTerm → PlainTerm → PlainTerm
right_guard And g t = term.and g t
right_guard Or g t = term.and g (term.not t)
right_guard op g t = g

-- the conditions of the two branches of an `if`
abbrev pub then_guard : PlainTerm → PlainTerm → PlainTerm
then_guard g c = term.and g c

abbrev pub else_guard : PlainTerm → PlainTerm → PlainTerm
else_guard g c = term.and g (term.not c)

-- In an expression

abbrev mutual
  pub demands_in : PlainProgram → State → PlainTerm → Expression → List PlainDemand
  demands_in p s g (number n) = []
  demands_in p s g (truth b) = []
  demands_in p s g null = []
  demands_in p s g this = []
  demands_in p s g (local l) = []
  demands_in p s g (own f) = []
  demands_in p s g (own_item f i) = demands_in p s g i ++ demand g (in_range f) (term_of p s i ∷ []) ∷ []
  demands_in p s g (read e f) = demands_in p s g e ++ demand g not_null (term_of p s e ∷ []) ∷ []
  demands_in p s g (read_item e f i) =
      demands_in p s g e ++ (demand g not_null (term_of p s e ∷ []) ∷ (demands_in p s g i ++ demand g (in_range f) (term_of p s i ∷ []) ∷ []))
  demands_in p s g (value_call e m arguments) =
      demands_in p s g e ++ (demands_in_all p s g arguments ++
      (demand g not_null (term_of p s e ∷ []) ∷ demand g (calls m) (term_of p s e ∷ terms_in p s arguments) ∷ []))
  demands_in p s g (unary op e) = demands_in p s g e
  demands_in p s g (binary op a b) = demands_in p s g a ++ demands_in p s (right_guard op g (term_of p s a)) b

  pub demands_in_all : PlainProgram → State → PlainTerm → Expressions → List PlainDemand
  demands_in_all p s g no_expressions = []
  demands_in_all p s g (expression_and e es) = demands_in p s g e ++ demands_in_all p s g es

-- Call loops

-- the local that the first part of a `for` puts
abbrev pub is_counter : Statement → ℕ → Bool
is_counter (put_local line l op e) n = nat_eq l.0 n
is_counter other n = false

-- a `for` reads the local, and it isn't its own counter
abbrev pub loop_reads : Statement → ℕ → Bool
loop_reads (for_loop line site part first c next b) n =
    not_of (is_counter first n) && list_any (λ e. names e n) (expressions_of (for_loop line site part first c next b))
loop_reads other n = false

-- the terms of the locals that are told to be read, in their order; the first of them has the number n
abbrev pub picked : (ℕ → Bool) → ℕ → List PlainTerm → List PlainTerm
picked is_read n [] = []
picked is_read n (t ∷ ts) = if is_read n then t ∷ picked is_read (suc n) ts else picked is_read (suc n) ts

abbrev pub loop_parts : State → Statement → List PlainTerm
loop_parts s loop = picked (loop_reads loop) 0 s.locals

-- a loop that sweeps is one demand, with its bounds
abbrev pub demanded_loop : PlainProgram → State → PlainTerm → LoopId → Statement → Option PlainSweep → List PlainDemand
demanded_loop p s g site loop None = demand g (loops site) (loop_parts s loop) ∷ []
demanded_loop p s g site loop (Some w) = demand g (sweeps w.field) (term_of p s w.from ∷ term_of p s w.to ∷ []) ∷ []

-- In a statement

abbrev mutual
  -- a null check comes behind the arguments, as in the serial run; a loop of calls is one demand
  pub demanded : PlainProgram → State → PlainTerm → Statement → List PlainDemand
  demanded p s g (block line ss) = demanded_all p s g ss
  demanded p s g (put_local line l op e) = demands_in p s g e
  demanded p s g (put_field line f op e) = demands_in p s g e
  demanded p s g (put_item line f i op e) = demands_in p s g i ++ (demand g (in_range f) (term_of p s i ∷ []) ∷ demands_in p s g e)
  demanded p s g (invoke line e op arguments) =
      demands_in p s g e ++ (demands_in_all p s g arguments ++
      (demand g not_null (term_of p s e ∷ []) ∷ demand g (invokes op) (term_of p s e ∷ terms_in p s arguments) ∷ []))
  demanded p s g (if_else line c a b) =
      demands_in p s g c ++ (demanded p s (then_guard g (term_of p s c)) a ++ demanded p s (else_guard g (term_of p s c)) b)
  demanded p s g (for_loop line site part first c next b) =
      demanded_loop p s g site (for_loop line site part first c next b) (sweep_at (for_loop line site part first c next b))
  demanded p s g (while_loop line c b) = []
  demanded p s g (new_local line l c) = []
  demanded p s g (new_field line f c) = []
  demanded p s g (new_item line f i c) = []
  demanded p s g (return_value line e) = []
  demanded p s g (print_value line e) = []

  pub demanded_all : PlainProgram → State → PlainTerm → Statements → List PlainDemand
  demanded_all p s g no_statements = []
  demanded_all p s g (statement_and x xs) = demanded p s g x ++ demanded_all p (after p s x) g xs
