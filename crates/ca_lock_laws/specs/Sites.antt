-- Calls and loops in the order of the text: where they stand in a tree, and on which lines in its program.
use Rattle.std.specs.Prelude.{ℕ, ◌≡◌, List, [], ◌∷◌, ◌++◌, map}
use Rattle.ca_tree.specs.declared.name.Place.{Place}
use Rattle.ca_tree.specs.Plain as tree
use Rattle.ca_tree.specs.Plain.{TextTree}
use Rattle.ca_program.specs.Plain as program
use Rattle.ca_program.specs.Plain.{PlainProgram}
use Rattle.ca_lock_laws.specs.Resolves.{AllBodies, operations_of}

abbrev mutual
  pub sites_of : tree.Statement → List Place
  sites_of (tree.block at ss) = sites_of_all ss
  sites_of (tree.call_statement at e) = at ∷ []
  sites_of (tree.if_only at c s) = sites_of s
  sites_of (tree.if_else at c s t) = sites_of s ++ sites_of t
  sites_of (tree.while_loop at c s) = sites_of s
  sites_of (tree.for_loop at first c next s) = at ∷ sites_of s
  sites_of (tree.empty at) = []
  sites_of (tree.local at ty name name_at v) = []
  sites_of (tree.assign at target o r) = []
  sites_of (tree.return_value at e) = []
  sites_of (tree.print_value at e) = []

  pub sites_of_all : tree.Statements → List Place
  sites_of_all tree.no_statements = []
  sites_of_all (tree.statement_and s ss) = sites_of s ++ sites_of_all ss

abbrev mutual
  pub lines_of : program.Statement → List ℕ
  lines_of (program.block line ss) = lines_of_all ss
  lines_of (program.invoke line e op arguments) = line ∷ []
  lines_of (program.if_else line c a b) = lines_of a ++ lines_of b
  lines_of (program.while_loop line c b) = lines_of b
  lines_of (program.for_loop line site part first c next b) = line ∷ lines_of b
  lines_of (program.put_local line l op e) = []
  lines_of (program.put_field line f op e) = []
  lines_of (program.put_item line f i op e) = []
  lines_of (program.new_local line l c) = []
  lines_of (program.new_field line f c) = []
  lines_of (program.new_item line f i c) = []
  lines_of (program.return_value line e) = []
  lines_of (program.print_value line e) = []

  pub lines_of_all : program.Statements → List ℕ
  lines_of_all program.no_statements = []
  lines_of_all (program.statement_and s ss) = lines_of s ++ lines_of_all ss

-- as many of the one as of the other, on the same lines in the same order
abbrev pub SameSites : tree.Statements → program.Statements → Type 0
SameSites ss xs = map (λ (at : Place). at.line) (sites_of_all ss) ≡ lines_of_all xs

pub record ProgramSites (t : TextTree) (p : PlainProgram) : Type 0 where
  pub operations : AllBodies SameSites (operations_of t.classes) p.ops
  pub main : SameSites t.main p.main.statements
