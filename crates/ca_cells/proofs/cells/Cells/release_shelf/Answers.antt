use Rattle.std.proofs.Common.{◌≡◌, ℕ, List, [], ◌∷◌, sym, ap, ◌∙◌}
use Rattle.atomic_table.specs.Table.{rest}
use Rattle.ca_cells.specs.clauses.Plays.{Mine, let_go}
use Rattle.ca_cells.proofs.Steps.{releases_shelf_at}
use Rattle.ca_cells.proofs.Turned.{Slot}
use Rattle.ca_cells.proofs.cells.Cells.release_shelf.Goals as goal

pub exchange-requires : goal.exchange-requires
exchange-requires c = let h = c.requires.held in (c.requires.table.0, ([], h.3 ∙ ap (λ (l : List (ℕ × Slot)). (c.args.class, []) ∷ l) (sym (ap rest h.3))))

pub store-requires : goal.store-requires
store-requires c =
    let t = c.requires.table in let h = c.requires.held in let e = c.exchange.ensures in
    (e.0 ∙ t.0, t.1, releases_shelf_at _ _ _ _ c.args.seat.now.me.0 _ c.args.shelf _ e.3 h.2 t.2 h.0 h.1)

pub returns-clause-noted : goal.returns-clause-noted
returns-clause-noted c =
    let h = c.requires.held in let e = c.exchange.ensures.3 in
    let none_left : rest c.args.seat.now.me.1 ≡ [] = ap rest h.3 in
    c.store.ensures.2 ∙ (ap (λ (m : Mine). (let_go m.0, rest m.1)) e ∙ ap (λ (l : List (ℕ × Slot)). (let_go c.args.seat.now.me.0, l)) none_left)
