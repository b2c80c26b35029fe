use Rattle.std.proofs.Common.{◌≡◌, ◌≤◌, ◌<◌, length, map, sym, ap, ◌∙◌, arith, subst, OnOk}
use Rattle.ca_sums.specs.Sums.{Sum, AddsSum}
use Rattle.ca_forms.specs.Plain.{PlainMonomial}
use Rattle.ca_forms.specs.Lists.{products_of}
use Rattle.ca_verdicts.specs.clauses.Marks.{products_at, condition_of}
use Rattle.ca_verdicts.proofs.SeenMarks.{group_products, no_products, adds_nothing}
use Rattle.ca_verdicts.proofs.sums.add_condition.Goals as goal

pub returns-then-place-groups-clause-added : goal.returns-then-place-groups-clause-added
returns-then-place-groups-clause-added c =
    let past : length c.args.groups.now ≤ c.args.number = omega (arith, c.if-place-groups.true) in
    subst (λ ps. AddsSum c.args.form.now.entries c.args.form.now.entries c.args.times ps) (sym (no_products c.args.groups.now c.args.number past)) (adds_nothing c.args.form.now.entries c.args.times)

pub returns-clause-added : goal.returns-clause-added
returns-clause-added c =
    let inside : c.args.number < length c.args.groups.now = omega (arith, c.if-place-groups.false) in
    let products : products_of c.in_ok-condition.condition ≡ products_at (map condition_of c.args.groups.now) c.args.number =
    ap products_of c.in_ok-condition.ensures ∙ sym (group_products c.args.groups.now c.args.number c.index-groups-place.result inside c.index-groups-place.is) in
    subst (λ (ps : Sum PlainMonomial). OnOk c.add_polynomial.result (AddsSum c.args.form.now.entries c.add_polynomial.new.form.entries c.args.times ps)) products c.add_polynomial.ensures.added
