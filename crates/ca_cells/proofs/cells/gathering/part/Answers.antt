use Rattle.std.proofs.Common.{rules, ◌≡◌, ℕ, List, [], ◌∷◌, ◌++◌, length, length-append, reverse, sym, ap, ◌∙◌, arith, append-nil}
use Rattle.ca_logs.specs.declared.log.CellLog.{CellLog}
use Rattle.ca_logs.specs.Touched.{pairs}
use Rattle.ca_cells.specs.clauses.Shelves.{all_touched}
use Rattle.ca_cells.proofs.Drains.{part_none, part_one}
use Rattle.ca_cells.proofs.Turned.{Slot}
use Rattle.ca_cells.proofs.cells.gathering.part.Goals as goal

pub loop-held-init : goal.loop-held-init
loop-held-init c = let e = c.requires.empty in let r = c.requires.room in record {
  parted = part_none c.args.numbers.items c.args.room.items (all_touched (reverse c.args.all.items)) e.0;
  alike = omega (arith, e.0, e.1);
  room = (omega (arith, e.0, r.0), omega (arith, e.1, r.1));
}

pub loop-held-preserved : goal.loop-held-preserved
loop-held-preserved c = let i = c.loop-held.invariant in let e = c.in-Some.ensures.items in let p = c.push_reserved.ensures in let q = c.push_reserved-in-Some.ensures in
    let logs : c.push_reserved-in-Some.new.self.items ≡ c.loop-held.room.items ++ c.in-Some.held.log ∷ [] = q.items ∙ ap (λ (l : CellLog). c.loop-held.room.items ++ l ∷ []) c.into_log.ensures in
    let d = ap length e in let f = length-append c.pop.new.self.items (c.in-Some.held ∷ []) in record {
      parted = ap (λ (ns : List ℕ). pairs ns c.push_reserved-in-Some.new.self.items ++ all_touched (reverse c.pop.new.self.items)) p.items
          ∙ (ap (λ (ls : List CellLog). pairs (c.loop-held.numbers.items ++ c.in-Some.held.number ∷ []) ls ++ all_touched (reverse c.pop.new.self.items)) logs
          ∙ part_one c.loop-held.numbers.items c.loop-held.room.items c.loop-held.all.items c.pop.new.self.items c.in-Some.held (all_touched (reverse c.args.all.items)) i.alike e i.parted);
      alike = let a = ap length p.items in let b = length-append c.loop-held.numbers.items (c.in-Some.held.number ∷ []) in let k = ap length logs in let l = length-append c.loop-held.room.items (c.in-Some.held.log ∷ []) in let m = i.alike in omega (arith, a, b, k, l, m);
      room = (
        let a = ap length p.items in let b = length-append c.loop-held.numbers.items (c.in-Some.held.number ∷ []) in let k = p.capacity in let r = i.room.0 in omega (arith, a, b, d, f, k, r),
        let a = ap length logs in let b = length-append c.loop-held.room.items (c.in-Some.held.log ∷ []) in let k = q.capacity in let r = i.room.1 in omega (arith, a, b, d, f, k, r),
      );
    }

pub returns-clause-parted : goal.returns-clause-parted
returns-clause-parted c = let none : c.loop-held.all.items ≡ [] = search rules in
    sym (append-nil (pairs c.loop-held.numbers.items c.loop-held.room.items)) ∙ (ap (λ (l : Slot). pairs c.loop-held.numbers.items c.loop-held.room.items ++ all_touched (reverse l)) (sym none) ∙ c.loop-held.invariant.parted)
