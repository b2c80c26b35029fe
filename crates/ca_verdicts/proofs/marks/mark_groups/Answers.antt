use Rattle.std.proofs.Common.{◌≡◌, ℕ, ◌+◌, ◌++◌, [], ◌∷◌, Bool, List, drop, drop-cons, cond, rules, subst}
use Rattle.ca_sums.specs.Sums.{Sum}
use Rattle.ca_sums.proofs.Products.{SameTotals}
use Rattle.ca_symbolic.specs.declared.demand.Demand.{Demand}
use Rattle.ca_symbolic.specs.declared.demand.Group.{Group}
use Rattle.ca_verdicts.specs.clauses.Marks.{marks_of, marks_in, same_side, marks_at, found, if_side}
use Rattle.ca_verdicts.proofs.MarkSums.{same_then, side_step}
use Rattle.ca_verdicts.proofs.marks.mark_groups.Goals as goal

pub loop-place-preserved : goal.loop-place-preserved
loop-place-preserved c =
    let i : ℕ = c.loop-place.place in
    let g : Group = c.index-groups-place.result in
    let rest : List Group = drop (i + 1) c.args.groups.now in
    let step : drop i c.args.groups.now ≡ g ∷ rest = search (rules, drop-cons) in
    let number : c.in-Ok.number ≡ i = search rules in
    let items : c.as_slice.result.now ≡ g.items.items = c.as_slice.ensures.value in
    λ s k.
    let b : Bool = same_side c.args.side s in
    let x : Sum ℕ = marks_of k i g.items.items in
    let y : Sum ℕ = marks_in k (i + 1) rest in
    let h : SameTotals (marks_at s (found c.mark_all.new.table.entries k)) (marks_at s (found c.loop-place.table.entries k) ++ cond b x []) =
    subst (λ z. SameTotals (marks_at s (found c.mark_all.new.table.entries k)) (marks_at s (found c.loop-place.table.entries k) ++ cond b (marks_of k z g.items.items) [])) number
    (subst (λ (z : List Demand). SameTotals (marks_at s (found c.mark_all.new.table.entries k)) (marks_at s (found c.loop-place.table.entries k) ++ cond b (marks_of k c.in-Ok.number z) [])) items (c.in_ok-mark_all.ensures s k)) in
    let before : SameTotals (marks_at s (found c.loop-place.table.entries k) ++ cond b (x ++ y) []) (marks_at s (found c.args.table.now.entries k) ++ if_side c.args.side s (marks_in k 0 c.args.groups.now)) =
    subst (λ z. SameTotals (marks_at s (found c.loop-place.table.entries k) ++ if_side c.args.side s (marks_in k i z)) (marks_at s (found c.args.table.now.entries k) ++ if_side c.args.side s (marks_in k 0 c.args.groups.now))) step (c.loop-place.invariant s k) in
    same_then _ _ _ (side_step b (marks_at s (found c.mark_all.new.table.entries k)) (marks_at s (found c.loop-place.table.entries k)) x y h) before
