use Rattle.ca_plan.proofs.Knowing.{none_seen, none_more}
use Rattle.ca_plan.proofs.offences.nothing.Goals as goal

pub places-init : goal.places-init
places-init c = λ p written. none_seen p written _ c.in_ok-seen.ensures.items

pub places-preserved : goal.places-preserved
places-preserved c = λ p written. none_more p written _ _ c.in_ok-push.ensures.items (c.places.invariant p written)

pub returns : goal.returns
returns c = c.places.invariant
