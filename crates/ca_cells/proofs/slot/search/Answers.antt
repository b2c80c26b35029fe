use Rattle.std.proofs.Common.{◌≡◌, sym, ap, subst, ◌∙◌}
use Rattle.ca_cells.specs.clauses.Rule.{Stands}
use Rattle.ca_cells.specs.declared.slot.Held.{Held}
use Rattle.ca_cells.proofs.Shelves.{at_of, removed, found_place}
use Rattle.ca_cells.proofs.slot.search.Goals as goal

pub returns-in-Some-clause-out : goal.returns-in-Some-clause-out
returns-in-Some-clause-out c = let p = c.in-Some.ensures in
    removed c.args.items.items c.remove-log.new.self.items c.in-Some.at c.args.number p.0 c.requires.once p.1 p.2 c.remove-log.ensures.by_index.2

pub returns-in-Some-clause-log : goal.returns-in-Some-clause-log
returns-in-Some-clause-log c = λ given history is stands. let p = c.in-Some.ensures in
    let one : c.remove-log.result ≡ p.0 = c.remove-log.ensures.value ∙ at_of c.args.items.items c.in-Some.at p.0 c.remove-log.result p.1 in
    let there = found_place c.args.items.items c.in-Some.at c.args.number p.0 c.requires.once p.1 p.2 in
    ap (λ (h : Held). h.log) one ∙ subst (λ k. Stands given c.args.number k history) there stands
