-- The terms that are made on the way: each that is put into the state, each condition of a path, and each part of a
-- demand. What stands inside one of them weighs no more.
use Rattle.std.specs.Prelude.{ℕ, suc, Bool, true, false, Option, Some, None, List, [], ◌∷◌, ◌++◌, flat_map}
use Rattle.ca_tree.specs.declared.tree.BinaryOp.{BinaryOp}
use Rattle.ca_tree.specs.declared.tree.BinaryOp.TheVariants.{Or, And}
use Rattle.ca_program.specs.Plain.{PlainProgram, Expression, Expressions, number, truth, null, this, local, own, own_item, read, read_item, value_call, unary, binary, no_expressions, expression_and, Statement, Statements, block, put_local, put_field, put_item, new_local, new_field, new_item, invoke, if_else, while_loop, for_loop, return_value, print_value, no_statements, statement_and}
use Rattle.ca_sweep.specs.Sweeps.{PlainSweep}
use Rattle.ca_sweep.specs.Found.{sweep_at}
use Rattle.ca_norm.specs.Terms.{PlainTerm}
use Rattle.ca_symbolic.specs.States.{State, term_at}
use Rattle.ca_symbolic.specs.Execution.{term_of, put_term, array_term, field_target, local_target, sweep_term, after}
use Rattle.ca_symbolic.specs.Demands.{right_guard, then_guard, else_guard, demanded_all}

-- the condition of a right side that isn't always evaluated
abbrev pub new_guard : BinaryOp → PlainTerm → PlainTerm → List PlainTerm
new_guard And g t = right_guard And g t ∷ []
new_guard Or g t = right_guard Or g t ∷ []
new_guard op g t = []

-- the conditions of paths in an expression
abbrev mutual
  pub guards_in : PlainProgram → State → PlainTerm → Expression → List PlainTerm
  guards_in p s g (number n) = []
  guards_in p s g (truth b) = []
  guards_in p s g null = []
  guards_in p s g this = []
  guards_in p s g (local l) = []
  guards_in p s g (own f) = []
  guards_in p s g (own_item f i) = guards_in p s g i
  guards_in p s g (read e f) = guards_in p s g e
  guards_in p s g (read_item e f i) = guards_in p s g e ++ guards_in p s g i
  guards_in p s g (value_call e m arguments) = guards_in p s g e ++ guards_in_all p s g arguments
  guards_in p s g (unary op e) = guards_in p s g e
  guards_in p s g (binary op a b) =
      guards_in p s g a ++ (new_guard op g (term_of p s a) ++ guards_in p s (right_guard op g (term_of p s a)) b)

  pub guards_in_all : PlainProgram → State → PlainTerm → Expressions → List PlainTerm
  guards_in_all p s g no_expressions = []
  guards_in_all p s g (expression_and e es) = guards_in p s g e ++ guards_in_all p s g es

-- the terms at the places that are told to be targets; the first of the list has the number n
abbrev pub targets : (ℕ → Bool) → ℕ → List PlainTerm → List PlainTerm
targets is_target n [] = []
targets is_target n (t ∷ ts) = if_target (is_target n) t (targets is_target (suc n) ts) where
  if_target : Bool → PlainTerm → List PlainTerm → List PlainTerm
  if_target true t ts = t ∷ ts
  if_target false t ts = ts

-- the choices that two branches end in
abbrev pub joined_terms : Statement → Statement → State → List PlainTerm
joined_terms a b s = targets (field_target a b) 0 s.fields ++ targets (local_target a b) 0 s.locals

-- the array behind a sweep
abbrev pub steps_of_loop : PlainProgram → State → Option PlainSweep → List PlainTerm
steps_of_loop p s None = []
steps_of_loop p s (Some w) = sweep_term p s w ∷ []

-- the conditions of paths in a statement, and what is put into the state
abbrev mutual
  pub steps_made : PlainProgram → State → PlainTerm → Statement → List PlainTerm
  steps_made p s g (block line ss) = steps_made_all p s g ss
  steps_made p s g (put_local line l op e) = guards_in p s g e ++ put_term op (term_at s.locals l.0) (term_of p s e) ∷ []
  steps_made p s g (put_field line f op e) = guards_in p s g e ++ put_term op (term_at s.fields f.field) (term_of p s e) ∷ []
  steps_made p s g (put_item line f i op e) = guards_in p s g i ++ (guards_in p s g e ++ array_term p s f i op e ∷ [])
  steps_made p s g (invoke line e op arguments) = guards_in p s g e ++ guards_in_all p s g arguments
  steps_made p s g (if_else line c a b) =
      guards_in p s g c ++ (then_guard g (term_of p s c) ∷ (steps_made p s (then_guard g (term_of p s c)) a ++
      (else_guard g (term_of p s c) ∷ (steps_made p s (else_guard g (term_of p s c)) b ++ joined_terms a b (after p s (if_else line c a b))))))
  steps_made p s g (while_loop line c b) = []
  steps_made p s g (for_loop line site part first c next b) = steps_of_loop p s (sweep_at (for_loop line site part first c next b))
  steps_made p s g (new_local line l c) = []
  steps_made p s g (new_field line f c) = []
  steps_made p s g (new_item line f i c) = []
  steps_made p s g (return_value line e) = []
  steps_made p s g (print_value line e) = []

  pub steps_made_all : PlainProgram → State → PlainTerm → Statements → List PlainTerm
  steps_made_all p s g no_statements = []
  steps_made_all p s g (statement_and x xs) = steps_made p s g x ++ steps_made_all p (after p s x) g xs

-- all of them, and the parts of the demands
abbrev pub made_by : PlainProgram → State → PlainTerm → Statements → List PlainTerm
made_by p s g body = steps_made_all p s g body ++ flat_map (λ d. d.parts) (demanded_all p s g body)
