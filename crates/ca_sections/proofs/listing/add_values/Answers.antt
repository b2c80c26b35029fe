use Rattle.std.proofs.Common.{◌≡◌, ◌<◌, ◌+◌, ◌++◌, length, map, refl, ap, arith}
use Rattle.ca_code.specs.Seen.{kind_seen}
use Rattle.ca_code_laws.specs.Machine.{row}
use Rattle.ca_steps.specs.Stands.{seen}
use Rattle.ca_steps.proofs.Loading.{here_is}
use Rattle.ca_steps.proofs.Handing.{value_added, all_added}
use Rattle.ca_sections.proofs.listing.add_values.Goals as goal

pub values-init : goal.values-init
values-init c =
    let none : c.args.first + 0 ≡ c.args.first = omega arith in
    (refl, ap (λ n. c.args.into.now ++ row (seen c.args.slots.now) n (map kind_seen c.args.kinds.now)) none)

pub values-preserved : goal.values-preserved
values-preserved c =
    let kinds = c.args.kinds.now in
    let i = c.values.kind-index in
    let lt : i < length kinds = omega arith in
    (ap (λ n. n + 1) c.values.invariant.0, value_added kind_seen (seen c.args.slots.now) c.args.first kinds i c.values.a _ c.in-Some.value c.values.into c.push.new.self _ lt (here_is kinds i _ lt) c.in-Some.ensures c.in_ok-push.ensures.added c.values.invariant.1)

pub returns : goal.returns
returns c =
    all_added kind_seen (seen c.args.slots.now) c.args.first c.args.kinds.now c.values.kind-index c.values.a c.values.into _ (omega arith) c.values.invariant.1

pub overflow_add-a : goal.overflow_add-a
overflow_add-a c = omega (arith, c.values.invariant.0, c.values-test.true)
