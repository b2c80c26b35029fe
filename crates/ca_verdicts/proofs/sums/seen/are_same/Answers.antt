use Rattle.std.proofs.Common.{◌≡◌, List, length, map, sym, arith, true≢false}
use Rattle.ca_forms.specs.Plain.{PlainPolynomial}
use Rattle.ca_verdicts.specs.clauses.Marks.{condition_of}
use Rattle.ca_verdicts.proofs.SeenMarks.{same_from, same_over}
use Rattle.ca_verdicts.proofs.sums.seen.are_same.Goals as goal

pub returns-then-ones-others : goal.returns-then-ones-others
returns-then-ones-others c = λ e. absurd (true≢false (sym e))

pub loop-place-init : goal.loop-place-init
loop-place-init c = λ same. same

pub loop-place-preserved : goal.loop-place-preserved
loop-place-preserved c =
    let fs : List PlainPolynomial = map condition_of c.args.first.now in
    let gs : List PlainPolynomial = map condition_of c.args.second.now in
    let long : length c.args.ones.now ≡ length c.args.others.now = omega (arith, c.if-ones-others.false) in
    λ rest.
    c.loop-place.invariant (same_from fs gs c.args.ones.now c.args.others.now c.loop-place.place c.loop-place-test.true long (c.is_same_mark.ensures c.if-not-is_same_mark.false) rest)

pub returns-then-not-is_same_mark : goal.returns-then-not-is_same_mark
returns-then-not-is_same_mark c = λ e. absurd (true≢false (sym e))

pub returns : goal.returns
returns c =
    let fs : List PlainPolynomial = map condition_of c.args.first.now in
    let gs : List PlainPolynomial = map condition_of c.args.second.now in
    let long : length c.args.ones.now ≡ length c.args.others.now = omega (arith, c.if-ones-others.false) in
    λ _. c.loop-place.invariant (same_over fs gs c.args.ones.now c.args.others.now c.loop-place.place c.loop-place-test.false long)
