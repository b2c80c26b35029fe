-- Which fields and locals a statement puts, and which locals it names, by their numbers.
use Rattle.std.specs.Prelude.{ℕ, Bool, true, false, ◌&&◌, nat_eq, List, [], ◌∷◌, ◌++◌, map, get_or, slice_set}
use Rattle.std.specs.List.{list_any}
use Rattle.ca_program.specs.declared.program.FieldId.{FieldId}
use Rattle.ca_program.specs.Plain.{Expression, Expressions, number, truth, null, this, local, own, own_item, read, read_item, value_call, unary, binary, no_expressions, expression_and, Statement, Statements, block, put_local, put_field, put_item, new_local, new_field, new_item, invoke, if_else, while_loop, for_loop, return_value, print_value, no_statements, statement_and}
use Rattle.ca_meaning.specs.Operators.{not_of}
use Rattle.ca_parallel.specs.Bodies.{targets_of, targets_of_all}
use Rattle.ca_norm.specs.Terms.{PlainTerm}
use Rattle.ca_symbolic.specs.Demands.{is_counter}

-- the number is among them
abbrev pub is_among : List ℕ → ℕ → Bool
is_among ms n = list_any (λ m. nat_eq m n) ms

-- the place is marked
abbrev pub is_marked : List Bool → ℕ → Bool
is_marked marks n = get_or marks n false

-- the fields that a statement puts
abbrev pub fields_put : Statement → List ℕ
fields_put s = map (λ (f : FieldId). f.field) (targets_of s)

abbrev pub fields_put_all : Statements → List ℕ
fields_put_all ss = map (λ (f : FieldId). f.field) (targets_of_all ss)

-- the locals that it puts, but for the counters of loops
abbrev mutual
  pub locals_put : Statement → List ℕ
  locals_put (block line ss) = locals_put_all ss
  locals_put (put_local line l op e) = l.0 ∷ []
  locals_put (if_else line c a b) = locals_put a ++ locals_put b
  locals_put (put_field line f op e) = []
  locals_put (put_item line f i op e) = []
  locals_put (new_local line l c) = []
  locals_put (new_field line f c) = []
  locals_put (new_item line f i c) = []
  locals_put (invoke line e op arguments) = []
  locals_put (while_loop line c b) = []
  locals_put (for_loop line site part first c next b) = []
  locals_put (return_value line e) = []
  locals_put (print_value line e) = []

  pub locals_put_all : Statements → List ℕ
  locals_put_all no_statements = []
  locals_put_all (statement_and s ss) = locals_put s ++ locals_put_all ss

abbrev mutual
  pub locals_in : Expression → List ℕ
  locals_in (number v) = []
  locals_in (truth b) = []
  locals_in null = []
  locals_in this = []
  locals_in (local l) = l.0 ∷ []
  locals_in (own f) = []
  locals_in (own_item f i) = locals_in i
  locals_in (read e f) = locals_in e
  locals_in (read_item e f i) = locals_in e ++ locals_in i
  locals_in (value_call e m arguments) = locals_in e ++ locals_in_all arguments
  locals_in (unary op e) = locals_in e
  locals_in (binary op a b) = locals_in a ++ locals_in b

  pub locals_in_all : Expressions → List ℕ
  locals_in_all no_expressions = []
  locals_in_all (expression_and e es) = locals_in e ++ locals_in_all es

abbrev mutual
  pub locals_named : Statement → List ℕ
  locals_named (block line ss) = locals_named_all ss
  locals_named (put_local line l op e) = locals_in e
  locals_named (put_field line f op e) = locals_in e
  locals_named (put_item line f i op e) = locals_in i ++ locals_in e
  locals_named (new_local line l c) = []
  locals_named (new_field line f c) = []
  locals_named (new_item line f i c) = locals_in i
  locals_named (invoke line e op arguments) = locals_in e ++ locals_in_all arguments
  locals_named (if_else line c a b) = locals_in c ++ (locals_named a ++ locals_named b)
  locals_named (while_loop line c b) = locals_in c ++ locals_named b
  locals_named (for_loop line site part first c next b) = locals_named first ++ (locals_in c ++ (locals_named next ++ locals_named b))
  locals_named (return_value line e) = locals_in e
  locals_named (print_value line e) = locals_in e

  pub locals_named_all : Statements → List ℕ
  locals_named_all no_statements = []
  locals_named_all (statement_and s ss) = locals_named s ++ locals_named_all ss

-- a loop reads the local, and its first part, which is this, doesn't put it
abbrev pub is_read : Statement → Statement → ℕ → Bool
is_read loop first n = not_of (is_counter first n) && is_among (locals_named loop) n

abbrev pub one_if : Bool → PlainTerm → List PlainTerm
one_if true t = t ∷ []
one_if false t = []

-- the marks, with the places of these numbers marked too
abbrev pub marked : List Bool → List ℕ → List Bool
marked marks [] = marks
marked marks (n ∷ ns) = marked (slice_set marks n true) ns
