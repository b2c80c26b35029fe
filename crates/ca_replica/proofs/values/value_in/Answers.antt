use Rattle.std.proofs.Common.{◌<◌, length, sym, ap, ◌∙◌, arith}
use Rattle.std.proofs.lemmas.Option.{slice_get_within}
use Rattle.std.specs.Prelude.{slice_get}
use Rattle.ca_model.specs.declared.value.Object.{Object}
use Rattle.ca_meaning.specs.Expressions.{one_in, slots_in}
use Rattle.ca_beside.proofs.Present.{changed}
use Rattle.ca_replica.proofs.InPlace.{copy_there, no_copy, none_past}
use Rattle.ca_replica.proofs.values.value_in.Goals as goal

pub returns-then-n-len : goal.returns-then-n-len
returns-then-n-len c = ap one_in (sym (none_past c.args.written.now c.args.frozen.now c.args.copies.now c.args.n c.args.f (omega (arith, c.if-n-len.true, c.len.ensures.value))))

pub object_at-requires : goal.object_at-requires
object_at-requires c = slice_get_within c.args.copies.now c.in-Some.place _ c.in-Some.ensures.there

pub returns-in-Some : goal.returns-in-Some
returns-in-Some c =
    let n = c.args.n in
    let g = c.args.f.field in
    let at = c.in-Some.ensures in
    let lt : n < length c.args.frozen.now = omega (arith, c.if-n-len.false, c.len.ensures.value) in
    c.one_of.ensures
    ∙ (ap (λ (o : Object). one_in (slice_get o.slots g)) (c.object_at.ensures (changed n at.object) at.there)
    ∙ ap (λ z. one_in (slice_get (slots_in z) g)) (sym (copy_there c.args.written.now c.args.frozen.now c.args.copies.now c.know_apart.ensures c.in-Some.place n at.object lt at.there)))

pub returns-in-None : goal.returns-in-None
returns-in-None c =
    c.zeroed_value.ensures ∙ ap (λ z. one_in (slice_get (slots_in z) c.args.f.field)) (sym (no_copy c.args.written.now c.args.frozen.now c.args.copies.now c.args.n c.get.result.now c.in-None.ensures c.get.ensures))
