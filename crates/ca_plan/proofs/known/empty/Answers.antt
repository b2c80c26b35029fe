use Rattle.std.proofs.Common.{IfSome, None, sym, subst}
use Rattle.std.proofs.lemmas.List.Elements.{All-nil, All-push}
use Rattle.ca_plan.specs.clauses.Keeping.{AllFit, Fits}
use Rattle.ca_plan.proofs.known.empty.Goals as goal

pub places-init : goal.places-init
places-init c = λ p. subst (λ slots. AllFit p slots) (sym c.in_ok-slots.ensures.items) (All-nil (λ slot. IfSome slot (Fits p)))

pub places-preserved : goal.places-preserved
places-preserved c = λ p. subst (λ slots. AllFit p slots) (sym c.in_ok-push.ensures.items) (All-push (λ slot. IfSome slot (Fits p)) c.places.slots.items None (c.places.invariant p) tt)

pub returns : goal.returns
returns c = c.places.invariant
