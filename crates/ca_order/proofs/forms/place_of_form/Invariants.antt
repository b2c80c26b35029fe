use Rattle.std.proofs.Common.{◌≡◌, drop}
use Rattle.ca_order.specs.Asked.{place_in}
use Rattle.ca_order.proofs.Shifted.{shifted}
use Rattle.ca_order.proofs.forms.place_of_form.Given as goal

abbrev pub invariant-loop-at : goal.invariant-loop-at
invariant-loop-at l = place_in l.places l.form ≡ shifted l.at (place_in (drop l.at l.places) l.form)
