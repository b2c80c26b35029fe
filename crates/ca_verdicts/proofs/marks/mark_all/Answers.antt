use Rattle.std.proofs.Common.{◌≡◌, ℕ, ◌+◌, ◌++◌, [], ◌∷◌, Bool, List, drop, drop-cons, cond, is_eq, rules, subst}
use Rattle.ca_sums.specs.Sums.{Sum}
use Rattle.ca_sums.proofs.Products.{SameTotals}
use Rattle.ca_symbolic.specs.declared.demand.Demand.{Demand}
use Rattle.ca_verdicts.specs.Keys.{key_cmp}
use Rattle.ca_verdicts.specs.clauses.Marks.{key_at, mark_if, marks_of, same_side, marks_at, found, if_side}
use Rattle.ca_verdicts.proofs.MarkSums.{same_then, side_step}
use Rattle.ca_verdicts.proofs.marks.mark_all.Goals as goal

pub loop-demand-preserved : goal.loop-demand-preserved
loop-demand-preserved c =
    let i : ℕ = c.loop-demand.demand-index in
    let d : Demand = c.demand-item.result in
    let rest : List Demand = drop (i + 1) c.args.demands.now in
    let step : drop i c.args.demands.now ≡ d ∷ rest = search (rules, drop-cons) in
    λ s k.
    let b : Bool = same_side c.args.side s in
    let x : Sum ℕ = mark_if (is_eq (key_cmp k (key_at d))) c.args.number in
    let y : Sum ℕ = marks_of k c.args.number rest in
    let h : SameTotals (marks_at s (found c.mark_key.new.table.entries k)) (marks_at s (found c.loop-demand.table.entries k) ++ cond b x []) =
    subst (λ z. SameTotals (marks_at s (found c.mark_key.new.table.entries k)) (marks_at s (found c.loop-demand.table.entries k) ++ cond b (mark_if (is_eq (key_cmp k z)) c.args.number) [])) c.in_ok-key.ensures (c.in_ok-mark_key.ensures s k) in
    let before : SameTotals (marks_at s (found c.loop-demand.table.entries k) ++ cond b (x ++ y) []) (marks_at s (found c.args.table.now.entries k) ++ if_side c.args.side s (marks_of k c.args.number c.args.demands.now)) =
    subst (λ z. SameTotals (marks_at s (found c.loop-demand.table.entries k) ++ if_side c.args.side s (marks_of k c.args.number z)) (marks_at s (found c.args.table.now.entries k) ++ if_side c.args.side s (marks_of k c.args.number c.args.demands.now))) step (c.loop-demand.invariant s k) in
    same_then _ _ _ (side_step b (marks_at s (found c.mark_key.new.table.entries k)) (marks_at s (found c.loop-demand.table.entries k)) x y h) before
