-- Worked examples: the pairs of an extent, and lines of `pairs` and `plan`.
use Rattle.std.proofs.Common.{◌≡◌, ℕ, List, [], ◌∷◌, None, refl, codes}
use Rattle.ca_program.specs.declared.program.OpId.{OpId}
use Rattle.ca_program.specs.Plain.{PlainProgram, PlainMethod, PlainBody, no_statements}
use Rattle.ca_verdicts.specs.declared.verdicts.Verdict.TheVariants.{Commutes, Unproved}
use Rattle.ca_verdicts.specs.declared.verdicts.Reason.TheVariants.{Large}
use Rattle.ca_plan.specs.Pairs.{Pair, pairs_in}
use Rattle.ca_plan.specs.Texts.{pair_text, extents_text, modes_text}

abbrev empty : PlainBody
empty = record { locals = []; statements = no_statements }

abbrev op : ℕ → OpId
op n = record { 0 = n }

abbrev named : ℕ → List ℕ → PlainMethod
named class name = record { class = record { 0 = class }; name = name; params = 0; body = empty; result = None }

-- two operations of the class Node, and one of the class Table between them
abbrev program : PlainProgram
program = record {
  classes = record { name = codes "Node"; fields = [] } ∷ record { name = codes "Table"; fields = [] } ∷ [];
  ops = named 0 (codes "visit") ∷ named 1 (codes "fill") ∷ named 0 (codes "mark") ∷ [];
  functions = [];
  main = empty;
}

abbrev two : ℕ → ℕ → Pair
two a b = record { a = op a; b = op b }

-- each with itself, and the two of one class; none of two classes
pairs : pairs_in program (op 0 ∷ op 1 ∷ op 2 ∷ []) ≡ two 0 0 ∷ two 0 2 ∷ two 1 1 ∷ two 2 2 ∷ []
pairs = refl

a_pair : pair_text program (record { a = op 0; b = op 2; verdict = Commutes }) ≡ codes "Node::visit Node::mark commutes\n"
a_pair = refl

unproved : pair_text program (record { a = op 2; b = op 2; verdict = Unproved Large }) ≡ codes "Node::mark Node::mark unproved Large\n"
unproved = refl

extent : extents_text program 1 (record { extent = record { ops = op 1 ∷ []; functions = []; written = [] }; pairs = record { a = op 1; b = op 1; verdict = Unproved Large } ∷ [] } ∷ []) ≡ codes "extent Table::fill\nTable::fill Table::fill unproved Large\n"
extent = refl

modes : modes_text program (op 0 ∷ []) 0 (record { extent = record { ops = []; functions = []; written = [] }; pairs = [] } ∷ record { extent = record { ops = []; functions = []; written = [] }; pairs = [] } ∷ []) ≡ codes "op Node::visit parallel\nop Table::fill serial\n"
modes = refl
