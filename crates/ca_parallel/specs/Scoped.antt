-- Who names the local that a `for` declares: its condition, its last part and its body, and nothing else; not the value
-- that it starts with either. Behind a loop of calls its counter is then as good as never put.
use Rattle.std.specs.Prelude.{◌≡◌, ℕ, Bool, true, false, ◌||◌, nat_eq, cond, Contains}
use Rattle.ca_tree.specs.declared.tree.AssignOp.{AssignOp}
use Rattle.ca_program.specs.declared.program.FirstPart.TheVariants.{Declares}
use Rattle.ca_program.specs.Plain.{Expression, Expressions, number, truth, null, this, local, own, own_item, read, read_item, value_call, unary, binary, no_expressions, expression_and, Statement, Statements, block, put_local, put_field, put_item, new_local, new_field, new_item, invoke, if_else, while_loop, for_loop, return_value, print_value, no_statements, statement_and, PlainMethod, PlainProgram}

-- the expression names the local
abbrev mutual
  pub names : Expression → ℕ → Bool
  names (number v) n = false
  names (truth b) n = false
  names null n = false
  names this n = false
  names (local l) n = nat_eq l.0 n
  names (own f) n = false
  names (own_item f i) n = names i n
  names (read e f) n = names e n
  names (read_item e f i) n = names e n || names i n
  names (value_call e m arguments) n = names e n || any_names arguments n
  names (unary op e) n = names e n
  names (binary op a b) n = names a n || names b n

  pub any_names : Expressions → ℕ → Bool
  any_names no_expressions n = false
  any_names (expression_and e es) n = names e n || any_names es n

-- a `for` in the statement declares it
abbrev mutual
  pub counts : Statement → ℕ → Bool
  counts (block line ss) n = any_counts ss n
  counts (if_else line c a b) n = counts a n || counts b n
  counts (while_loop line c b) n = counts b n
  counts (for_loop line site Declares (put_local at l op e) c next b) n = nat_eq l.0 n || counts b n
  counts (for_loop line site part first c next b) n = counts b n
  counts (put_local line l op e) n = false
  counts (put_field line f op e) n = false
  counts (put_item line f i op e) n = false
  counts (new_local line l c) n = false
  counts (new_field line f c) n = false
  counts (new_item line f i c) n = false
  counts (invoke line e op arguments) n = false
  counts (return_value line e) n = false
  counts (print_value line e) n = false

  pub any_counts : Statements → ℕ → Bool
  any_counts no_statements n = false
  any_counts (statement_and x xs) n = counts x n || any_counts xs n

-- the statement names it outside the loops that declare it
abbrev mutual
  pub names_outside : Statement → ℕ → Bool
  names_outside (block line ss) n = any_names_outside ss n
  names_outside (put_local line l op e) n = nat_eq l.0 n || names e n
  names_outside (put_field line f op e) n = names e n
  names_outside (put_item line f i op e) n = names i n || names e n
  names_outside (new_local line l c) n = nat_eq l.0 n
  names_outside (new_field line f c) n = false
  names_outside (new_item line f i c) n = names i n
  names_outside (invoke line e op arguments) n = names e n || any_names arguments n
  names_outside (if_else line c a b) n = names c n || (names_outside a n || names_outside b n)
  names_outside (while_loop line c b) n = names c n || names_outside b n
  names_outside (for_loop line site Declares (put_local at l op e) c next b) n =
      names e n || cond (nat_eq l.0 n) false (names c n || (names_outside next n || names_outside b n))
  names_outside (for_loop line site part first c next b) n = names_outside first n || (names c n || (names_outside next n || names_outside b n))
  names_outside (return_value line e) n = names e n
  names_outside (print_value line e) n = names e n

  pub any_names_outside : Statements → ℕ → Bool
  any_names_outside no_statements n = false
  any_names_outside (statement_and x xs) n = names_outside x n || any_names_outside xs n

abbrev pub Scoped : Statements → Type 0
Scoped xs = (n : ℕ) → any_counts xs n ≡ true → any_names_outside xs n ≡ false

-- in each operation
abbrev pub OperationsScoped : PlainProgram → Type 0
OperationsScoped p = (m : PlainMethod) → Contains p.ops m → Scoped m.body.statements
