use Rattle.std.proofs.Common.{◌≡◌, List, sym, subst, rules}
use Rattle.ca_sums.proofs.Products.{SameTotals}
use Rattle.ca_symbolic.specs.declared.running.Side.TheVariants as side
use Rattle.ca_verdicts.specs.Keys.{Key}
use Rattle.ca_verdicts.specs.declared.marks.Marks.{Marks}
use Rattle.ca_verdicts.specs.clauses.Marks.{marks_in, marks_at, found, EachMarked}
use Rattle.ca_verdicts.proofs.MarkSums.{firsts_marked, seconds_marked, found_all, each_marked}
use Rattle.ca_verdicts.proofs.compare.table_of.Goals as goal

pub returns-clause-second : goal.returns-clause-second
returns-clause-second c =
    let es : List (Key × Marks) = c.mark_groups-2.new.table.entries in
    let items : c.in_ok-entries.entries.items ≡ es = search rules in
    subst (λ z. (k : Key) → SameTotals (marks_at side.Second (found z k)) (marks_in k 0 c.args.second.now)) (sym items)
    (seconds_marked c.new-table.result.entries c.mark_groups.new.table.entries es c.args.first.now c.args.second.now c.new-table.ensures.empty c.in_ok-mark_groups.ensures c.in_ok-mark_groups-2.ensures)

pub returns-clause-each : goal.returns-clause-each
returns-clause-each c =
    let es : List (Key × Marks) = c.mark_groups-2.new.table.entries in
    let items : c.in_ok-entries.entries.items ≡ es = search rules in
    let firsts : (k : Key) → SameTotals (marks_at side.First (found es k)) (marks_in k 0 c.args.first.now) =
    firsts_marked c.new-table.result.entries c.mark_groups.new.table.entries es c.args.first.now c.args.second.now c.new-table.ensures.empty c.in_ok-mark_groups.ensures c.in_ok-mark_groups-2.ensures in
    let seconds : (k : Key) → SameTotals (marks_at side.Second (found es k)) (marks_in k 0 c.args.second.now) =
    seconds_marked c.new-table.result.entries c.mark_groups.new.table.entries es c.args.first.now c.args.second.now c.new-table.ensures.empty c.in_ok-mark_groups.ensures c.in_ok-mark_groups-2.ensures in
    subst (EachMarked c.args.first.now c.args.second.now) (sym items) (each_marked c.args.first.now c.args.second.now es es firsts seconds (found_all es c.len-count.ensures.ordered))
