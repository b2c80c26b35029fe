use Rattle.std.proofs.Common.{rules, ◌≡◌, [], ◌∷◌, ◌++◌, length, length-append, option_to_list, ap, sym, subst, ◌∙◌, arith, append-nil}
use Rattle.std.specs.List.Sorted.{IsPermutation}
use Rattle.ca_cells.proofs.Drains.{pour_last, pour_one}
use Rattle.ca_cells.proofs.Turned.{Slot}
use Rattle.ca_cells.proofs.cells.gathering.pour.Goals as goal

pub pour_last-requires : goal.pour_last-requires
pour_last-requires c = let r = c.requires.room in let e = ap length c.into_parts-items.ensures in let s = length-append c.into_parts-items.result.0.items (option_to_list c.into_parts-items.result.1) in omega (arith, r, e, s)

pub loop-held-init : goal.loop-held-init
loop-held-init c =
    let items = c.into_parts-items.result.0.items in let last = c.into_parts-items.result.1 in let p = c.pour_last.ensures in record {
      poured = subst (λ (l : Slot). IsPermutation (c.args.all.now.items ++ l) (c.pour_last.new.all.items ++ items)) c.into_parts-items.ensures
          (subst (λ (l : Slot). IsPermutation (c.args.all.now.items ++ (items ++ option_to_list last)) (l ++ items)) (sym p.poured) (pour_last c.args.all.now.items items last));
      room = (let r = c.requires.room in let e = ap length c.into_parts-items.ensures in let s = length-append items (option_to_list last) in let a = ap length p.poured in let b = length-append c.args.all.now.items (option_to_list last) in let cap = p.capacity in omega (arith, r, e, s, a, b, cap), p.capacity);
    }

pub loop-held-preserved : goal.loop-held-preserved
loop-held-preserved c = let i = c.loop-held.invariant in let e = c.in-Some.ensures.items in let p = c.push_reserved.ensures in record {
  poured = pour_one _ c.loop-held.all.items c.push_reserved.new.self.items c.loop-held.items.items c.pop.new.self.items c.in-Some.held p.items e i.poured;
  room = (let a = ap length p.items in let b = length-append c.loop-held.all.items (c.in-Some.held ∷ []) in let d = ap length e in let f = length-append c.pop.new.self.items (c.in-Some.held ∷ []) in let cap = p.capacity in let r = i.room.0 in omega (arith, a, b, d, f, cap, r), p.capacity ∙ i.room.1);
}

pub returns-clause-poured : goal.returns-clause-poured
returns-clause-poured c = let i = c.loop-held.invariant in
    let none : c.loop-held.items.items ≡ [] = search rules in
    subst (IsPermutation (c.args.all.now.items ++ c.args.shelf)) (ap (λ (l : Slot). c.loop-held.all.items ++ l) none ∙ append-nil c.loop-held.all.items) i.poured
