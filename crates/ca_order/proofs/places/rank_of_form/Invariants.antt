use Rattle.std.proofs.Common.{◌≡◌, drop}
use Rattle.ca_order.specs.Under.{rank_of_form}
use Rattle.ca_order.proofs.places.rank_of_form.Given as goal

abbrev pub invariant-loop-place : goal.invariant-loop-place
invariant-loop-place l = rank_of_form l.places l.form ≡ rank_of_form (drop l.place-index l.places) l.form
