use Rattle.std.proofs.Common.{◌≡◌, ◌∙◌, ◌<◌, sym, ap, arith, length, inl, inr}
use Rattle.ca_program.specs.View.{program_view}
use Rattle.ca_model.specs.Slots.{slots_len}
use Rattle.ca_model.specs.Heaps.{starts_of}
use Rattle.ca_model.proofs.Stores.{counted_push}
use Rattle.ca_model.proofs.Creation.{full_by}
use Rattle.ca_model.proofs.heap.Heap.create.Goals as goal

pub invariant_of-self-2 : goal.invariant_of-self-2
invariant_of-self-2 c =
    let few : length c.self.inside.objects.items < 1000000 = omega (arith, c.len.ensures, c.self.inside.objects.ok.0) in
    rw (c.in-Ok-push.ensures.items) (counted_push c.self.inside.objects.items c.self.inside.values c.in-Some.size _ c.self.invariant few (c.in-Some.ensures.0 ∙ ap slots_len (sym c.in-Ok.ensures)) c.in-Some.ensures.1)

pub returns-clause-made : goal.returns-clause-made
returns-clause-made c =
    let starts : c.in-Ok.slots ≡ starts_of (program_view c.args.program.now) c.args.class = c.in-Ok.ensures ∙ c.fields_of-fields.ensures in
    (rw (← c.self.view_is) (omega (arith, c.len-id.ensures, c.self.inside.objects.ok.0)), rw (c.in-Ok-push.ensures.items, starts, c.self.view_is))

pub returns-clause-always_full : goal.returns-clause-always_full
returns-clause-always_full c = λ full.
    let same : slots_len (starts_of (program_view c.args.program.now) c.args.class) ≡ c.in-Some.size = ap slots_len (sym c.fields_of-fields.ensures) ∙ sym c.in-Some.ensures.0 in
    elim (full_by c.self.inside.objects.items (starts_of (program_view c.args.program.now) c.args.class) (rw (← c.self.view_is) at full)) [
      | inl many ↦ absurd (omega (arith, many, c.len.ensures, c.self.inside.objects.ok.0))
      | inr large ↦ absurd (omega (arith, large, same, c.in-Some.ensures.1, c.self.invariant.few_values, c.self.invariant.counted))
    ]
