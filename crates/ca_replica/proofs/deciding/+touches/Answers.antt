use Rattle.std.proofs.Common.{◌≡◌, ◌||◌, Bool, false, sym, ap, ◌∙◌, subst}
use Rattle.ca_program.specs.View.{expression_view}
use Rattle.ca_section.proofs.HeldCalls.{call_view}
use Rattle.ca_replica.specs.Unsummed.{touches}
use Rattle.ca_replica.proofs.deciding.+touches.Goals as goal

second : (b r d : Bool) → b ≡ false → d ≡ r → d ≡ (b || r)
second b r d q e = e ∙ ap (λ z. z || r) (sym q)

pub touches-returns-else-touches-2 : goal.touches-returns-else-touches-2
touches-returns-else-touches-2 t c =
    let w = c.args.written.now in
    subst (λ e. c.touches_any.result ≡ touches w e) (sym (call_view c.args.e.now c.in-Value.object c.in-Value.field-1 c.in-Value.arguments c.in-Value.is))
    (second (touches w (expression_view c.in-Value.object.value)) _ c.touches_any.result
    (sym (rw c.deref-in-Value.ensures at c.touches-in-Value.ensures) ∙ c.if-touches-2.false)
    (rw c.deref-else-touches-2.ensures.value at c.touches_any.ensures))
