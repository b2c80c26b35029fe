use Rattle.std.proofs.Common.{rules, ◌≡◌, subst}
use Rattle.std.specs.Prelude.{IfNone}
use Rattle.ca_norm.specs.Forms.{norm}
use Rattle.ca_verdicts.proofs.Differences.{differ_of, same_of}
use Rattle.ca_verdicts.proofs.compare.fields.forms_apart.Goals as goal

pub returns-clause-differ : goal.returns-clause-differ
returns-clause-differ c =
    differ_of c.unless.result c.same-alike.result c.in_ok-one.one c.in_ok-one.other c.unless.ensures.first c.unless.ensures.second c.unless.ensures.differ c.same-alike.ensures.1

pub returns-clause-same : goal.returns-clause-same
returns-clause-same c =
    let one : c.in_ok-one.one ≡ norm c.args.first.now = search rules in
    let other : c.in_ok-one.other ≡ norm c.args.second.now = search rules in
    subst (λ x. IfNone c.unless.result (x ≡ norm c.args.second.now)) one
    (subst (λ y. IfNone c.unless.result (c.in_ok-one.one ≡ y)) other (same_of c.unless.result c.same-alike.result c.in_ok-one.one c.in_ok-one.other c.unless.ensures.same c.same-alike.ensures.0))
