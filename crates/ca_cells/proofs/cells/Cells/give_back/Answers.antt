use Rattle.std.proofs.Common.{List, [], ◌++◌, sym, ap, ◌∙◌, append-nil}
use Rattle.ca_cells.specs.clauses.Plays.{giving}
use Rattle.ca_cells.specs.Items.{closing_place}
use Rattle.ca_cells.specs.declared.rule.Place.{Place}
use Rattle.ca_cells.proofs.cells.Cells.give_back.Goals as goal

pub returns-then-closed-clause-noted : goal.returns-then-closed-clause-noted
returns-then-closed-clause-noted c = λ notes chain. c.release_kept.ensures.noted notes chain ∙ ap (λ b. (giving c.args.seat.now.me.0 notes (closing_place c.args.number c.args.log b), [])) (sym c.if-closed.true)

pub returns-else-closed-clause-noted : goal.returns-else-closed-clause-noted
returns-else-closed-clause-noted c = λ notes chain.
    c.release.ensures.noted notes chain ∙ ap (λ (l : List Place). (record c.args.seat.now.me.0 { at = 0; shelf = []; noted = c.args.seat.now.me.0.noted ++ notes; kept = l }, [])) (sym (append-nil c.args.seat.now.me.0.kept))
    ∙ ap (λ b. (giving c.args.seat.now.me.0 notes (closing_place c.args.number c.args.log b), [])) (sym c.if-closed.false)
