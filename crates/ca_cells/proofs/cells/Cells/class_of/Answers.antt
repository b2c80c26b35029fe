use Rattle.std.proofs.Common.{◌%◌, ap, ◌∙◌, arith}
use native.Mathlib.Nat.{mod-eq_of_lt}
use Rattle.std.proofs.lemmas.Nat.{mod_below}
use Rattle.ca_cells.proofs.cells.Cells.class_of.Goals as goal

pub returns-then-alone-clause-class : goal.returns-then-alone-clause-class
returns-then-alone-clause-class c = ap (λ n. c.args.number % n) c.args.self.now.words.0 ∙ mod-eq_of_lt (omega (arith, c.if-alone.true))

pub returns-then-alone-clause-inside : goal.returns-then-alone-clause-inside
returns-then-alone-clause-inside c = let w = c.args.self.now.words in let l = c.if-alone.true in (omega (arith, l, w.0), omega (arith, l, w.0, w.1))

pub returns-clause-class : goal.returns-clause-class
returns-clause-class c = ap (λ n. c.args.number % n) c.args.self.now.words.0

pub returns-clause-inside : goal.returns-clause-inside
returns-clause-inside c = let w = c.args.self.now.words in let l = mod_below c.args.number c.args.self.now.classes w.2 in (omega (arith, l, w.0), omega (arith, l, w.0, w.1))
