-- The fields that a body writes, each as the number of its class and its place there, in the order of the text.
use Rattle.std.specs.Prelude.{ℕ, List, [], ◌∷◌, ◌++◌, slice_get}
use Rattle.ca_program.specs.declared.program.FieldId.{FieldId}
use Rattle.ca_program.specs.Plain.{PlainMethod, Statement, Statements, block, put_local, put_field, put_item, new_local, new_field, new_item, invoke, if_else, while_loop, for_loop, return_value, print_value, no_statements, statement_and}
use Rattle.ca_meaning.specs.Functions.{body_of}

abbrev pub pair_of : FieldId → List (ℕ × ℕ)
pair_of f = (f.class.0, f.field) ∷ []

abbrev mutual
  pub written_by : Statement → List (ℕ × ℕ)
  written_by (block line ss) = written_by_all ss
  written_by (put_field line f op e) = pair_of f
  written_by (put_item line f i op e) = pair_of f
  written_by (new_field line f c) = pair_of f
  written_by (new_item line f i c) = pair_of f
  written_by (if_else line c a b) = written_by a ++ written_by b
  written_by (while_loop line c b) = written_by b
  written_by (for_loop line site part first c next b) = written_by first ++ (written_by next ++ written_by b)
  written_by (put_local line l op e) = []
  written_by (new_local line l c) = []
  written_by (invoke line e op arguments) = []
  written_by (return_value line e) = []
  written_by (print_value line e) = []

  pub written_by_all : Statements → List (ℕ × ℕ)
  written_by_all no_statements = []
  written_by_all (statement_and s ss) = written_by s ++ written_by_all ss

-- by the body of a method
abbrev pub written_at : List PlainMethod → ℕ → List (ℕ × ℕ)
written_at methods n = written_by_all (body_of (slice_get methods n))
