use Rattle.std.proofs.Common.{map}
use Rattle.ca_verdicts.specs.clauses.Marks.{condition_of}
use Rattle.ca_verdicts.proofs.SeenMarks.{settled_by}
use Rattle.ca_verdicts.proofs.sums.seen.is_seen.Goals as goal

pub returns-then-are_turned : goal.returns-then-are_turned
returns-then-are_turned c =
    λ _. settled_by (map condition_of c.args.first.now) (map condition_of c.args.second.now) c.args.marks.now c.as_slice-ones.result.now c.as_slice-others.result.now
    c.as_slice-ones.ensures.value c.as_slice-others.ensures.value (c.are_turned.ensures c.if-are_turned.true)

pub returns : goal.returns
returns c =
    λ same. settled_by (map condition_of c.args.first.now) (map condition_of c.args.second.now) c.args.marks.now c.as_slice-ones.result.now c.as_slice-others.result.now
    c.as_slice-ones.ensures.value c.as_slice-others.ensures.value (c.are_turned-2.ensures same)
