use Rattle.std.proofs.Common.{◌++◌, Some, subst}
use Rattle.ca_sums.proofs.Products.{SameTotals}
use Rattle.ca_verdicts.specs.clauses.Marks.{mark_if, same_side, marks_at, found}
use Rattle.ca_verdicts.proofs.MarkSums.{key_marked}
use Rattle.ca_verdicts.proofs.marks.mark_key.Goals as goal

pub returns : goal.returns
returns c =
    key_marked (found c.args.table.now.entries) (found c.take_marks-marks.new.table.entries) (found c.insert.new.self.entries) c.args.key c.mark_side.new.marks c.args.side c.args.number
    c.take_marks-marks.ensures.others c.in_ok-insert.ensures.updates.0
    (λ s. subst (λ z. SameTotals (marks_at s (Some c.mark_side.new.marks)) (z ++ mark_if (same_side c.args.side s) c.args.number)) (c.take_marks-marks.ensures.marks s) (c.in_ok-mark_side.ensures s))
