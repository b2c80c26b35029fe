use Rattle.std.proofs.Common.{List, map, sym, arith, true≢false}
use Rattle.ca_forms.specs.Plain.{PlainPolynomial}
use Rattle.ca_verdicts.specs.clauses.Marks.{condition_of}
use Rattle.ca_verdicts.proofs.SeenMarks.{turned_same}
use Rattle.ca_verdicts.proofs.sums.seen.are_turned.Goals as goal

pub split_at-requires-2 : goal.split_at-requires-2
split_at-requires-2 c = omega (arith, c.if-ones-others.false, c.split_at.ensures.back_len)

pub returns-then-ones-others : goal.returns-then-ones-others
returns-then-ones-others c = λ e. absurd (true≢false (sym e))

pub returns-then-not-are_same : goal.returns-then-not-are_same
returns-then-not-are_same c = λ e. absurd (true≢false (sym e))

pub returns : goal.returns
returns c =
    let fs : List PlainPolynomial = map condition_of c.args.first.now in
    let gs : List PlainPolynomial = map condition_of c.args.second.now in
    λ same.
    turned_same fs gs c.args.ones.now c.args.others.now c.split_at-2.result.0.now c.split_at-2.result.1.now c.split_at.result.0.now c.split_at.result.1.now
    c.split_at-2.ensures.by_index.0 c.split_at.ensures.by_index.0 (c.are_same.ensures c.if-not-are_same.false) (c.are_same-2.ensures same)
