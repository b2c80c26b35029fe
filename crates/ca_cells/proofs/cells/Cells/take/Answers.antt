use Rattle.std.proofs.Common.{◌<◌, ◌∷◌, [], ℕ, List, sym, ap, subst, ◌∙◌}
use Rattle.ca_beside.specs.Beside.{present}
use Rattle.ca_cells.specs.clauses.Plays.{Mine, holding}
use Rattle.ca_cells.specs.clauses.Shelves.{AreOnce, Without}
use Rattle.ca_cells.specs.declared.slot.Held.{Held}
use Rattle.ca_cells.proofs.Claiming.{claimed_once, holds_taken, stands_in, taken}
use Rattle.ca_cells.proofs.cells.Cells.take.Goals as goal

-- where it is the one by itself
pub take_last-requires-clause-mine : goal.take_last-requires-clause-mine
take_last-requires-clause-mine g c = c.is_numbered.ensures c.if-is_numbered.true

pub take_last-requires-clause-once : goal.take_last-requires-clause-once
take_last-requires-clause-once g c = subst AreOnce (sym c.into_parts-others.ensures) (claimed_once _ _ _ _ _ c.claim-shelf.ensures.claimed)

pub returns-then-is_numbered-clause-class : goal.returns-then-is_numbered-clause-class
returns-then-is_numbered-clause-class g c = subst (λ (n : ℕ). n < c.args.self.now.table.shared.table_id.words) (sym c.take_last.ensures.class) c.class_of-class.ensures.inside.1

pub returns-then-is_numbered-clause-me : goal.returns-then-is_numbered-clause-me
returns-then-is_numbered-clause-me g c = (c.claim-shelf.result, c.claim-shelf.ensures.held ∙ ap (λ (n : ℕ). (holding c.args.seat.now.me.0 n c.claim-shelf.result, (n, []) ∷ [])) (sym c.take_last.ensures.class))

pub returns-then-is_numbered-clause-held : goal.returns-then-is_numbered-clause-held
returns-then-is_numbered-clause-held g c = let k = c.class_of-class.ensures in let e = c.take_last.ensures in
    let whole = c.into_parts-others.ensures in
    let now = present c.args.heap.now c.args.beside.now in
    let t = taken c.args.seat.now.me.0.given now _ _ c.claim-shelf.result c.args.seat.now.me.0.noted c.args.number c.take_last.result.0 c.requires.now c.claim-shelf.ensures.claimed c.requires.of_round k.class
    (stands_in now _ c.claim-shelf.result c.args.number c.take_last.result.0 whole (λ given history _ stands. e.log given history stands)) in
    holds_taken _ _ c.args.seat.now.me _ c.claim-shelf.result c.args.number c.take_last.result.0 c.take_last.result.1 c.requires.rests.0 c.claim-shelf.ensures.held k.class k.inside.0 e.class
    (subst (λ (s : List Held). Without s c.args.number c.take_last.result.1.others.items) whole e.out) t.stood

pub returns-then-is_numbered-clause-legal : goal.returns-then-is_numbered-clause-legal
returns-then-is_numbered-clause-legal g c = let k = c.class_of-class.ensures in let e = c.take_last.ensures in
    let now = present c.args.heap.now c.args.beside.now in
    (taken c.args.seat.now.me.0.given now _ _ c.claim-shelf.result c.args.seat.now.me.0.noted c.args.number c.take_last.result.0 c.requires.now c.claim-shelf.ensures.claimed c.requires.of_round k.class
    (stands_in now _ c.claim-shelf.result c.args.number c.take_last.result.0 c.into_parts-others.ensures (λ given history _ stands. e.log given history stands))).legal

pub returns-then-is_numbered-clause-later : goal.returns-then-is_numbered-clause-later
returns-then-is_numbered-clause-later g c = let k = c.class_of-class.ensures in let e = c.take_last.ensures in
    let now = present c.args.heap.now c.args.beside.now in
    (taken c.args.seat.now.me.0.given now _ _ c.claim-shelf.result c.args.seat.now.me.0.noted c.args.number c.take_last.result.0 c.requires.now c.claim-shelf.ensures.claimed c.requires.of_round k.class
    (stands_in now _ c.claim-shelf.result c.args.number c.take_last.result.0 c.into_parts-others.ensures (λ given history _ stands. e.log given history stands))).later

-- where it stands among others, or has not begun
pub take_any-requires-clause-held : goal.take_any-requires-clause-held
take_any-requires-clause-held g c = let h = c.claim-shelf.ensures.held in
    (ap (λ (m : Mine). m.0.live) h ∙ c.requires.rests.0, ap (λ (m : Mine). m.0.at) h, ap (λ (m : Mine). m.0.shelf) h ∙ sym (c.of-all.ensures ∙ c.into_parts-others.ensures), ap (λ (m : Mine). m.1) h)

pub take_any-requires-clause-once : goal.take_any-requires-clause-once
take_any-requires-clause-once g c = subst AreOnce (sym (c.of-all.ensures ∙ c.into_parts-others.ensures)) (claimed_once _ _ _ _ _ c.claim-shelf.ensures.claimed)

pub returns-clause-class : goal.returns-clause-class
returns-clause-class g c = subst (λ (n : ℕ). n < c.args.self.now.table.shared.table_id.words) (sym c.in_ok-taken.ensures.class) c.class_of-class.ensures.inside.1

pub returns-clause-me : goal.returns-clause-me
returns-clause-me g c = (c.claim-shelf.result, c.in_ok-taken.ensures.same ∙ (c.claim-shelf.ensures.held ∙ ap (λ (n : ℕ). (holding c.args.seat.now.me.0 n c.claim-shelf.result, (n, []) ∷ [])) (sym c.in_ok-taken.ensures.class)))

pub returns-clause-held : goal.returns-clause-held
returns-clause-held g c = let k = c.class_of-class.ensures in let e = c.in_ok-taken.ensures in let r = c.in_ok-taken.taken in
    let all = c.of-all.ensures ∙ c.into_parts-others.ensures in
    let now = present c.args.heap.now c.args.beside.now in
    let t = taken c.args.seat.now.me.0.given now _ _ c.claim-shelf.result c.args.seat.now.me.0.noted c.args.number r.0 c.requires.now c.claim-shelf.ensures.claimed c.requires.of_round k.class (stands_in now _ c.claim-shelf.result c.args.number r.0 all e.log) in
    holds_taken _ _ c.args.seat.now.me _ c.claim-shelf.result c.args.number r.0 r.1 c.requires.rests.0 (e.same ∙ c.claim-shelf.ensures.held) k.class k.inside.0 e.class
    (subst (λ (s : List Held). Without s c.args.number r.1.others.items) all e.out) t.stood

pub returns-clause-legal : goal.returns-clause-legal
returns-clause-legal g c = let k = c.class_of-class.ensures in let e = c.in_ok-taken.ensures in let r = c.in_ok-taken.taken in
    let now = present c.args.heap.now c.args.beside.now in
    (taken c.args.seat.now.me.0.given now _ _ c.claim-shelf.result c.args.seat.now.me.0.noted c.args.number r.0 c.requires.now c.claim-shelf.ensures.claimed c.requires.of_round k.class (stands_in now _ c.claim-shelf.result c.args.number r.0 (c.of-all.ensures ∙ c.into_parts-others.ensures) e.log)).legal

pub returns-clause-later : goal.returns-clause-later
returns-clause-later g c = let k = c.class_of-class.ensures in let e = c.in_ok-taken.ensures in let r = c.in_ok-taken.taken in
    let now = present c.args.heap.now c.args.beside.now in
    (taken c.args.seat.now.me.0.given now _ _ c.claim-shelf.result c.args.seat.now.me.0.noted c.args.number r.0 c.requires.now c.claim-shelf.ensures.claimed c.requires.of_round k.class (stands_in now _ c.claim-shelf.result c.args.number r.0 (c.of-all.ensures ∙ c.into_parts-others.ensures) e.log)).later
