use Rattle.std.proofs.Common.{◌+◌, ◌-◌, ℕ, ap, arith}
use Rattle.ca_code.proofs.Copying.{one_moved, all_moved}
use Rattle.ca_code.proofs.layout.moved.Goals as goal

pub places-init : goal.places-init
places-init c = c.new-others.ensures.items

pub places-preserved : goal.places-preserved
places-preserved c = one_moved (λ (n : ℕ). n - c.args.from + c.args.to) c.args.places.now c.places.place-index _ _ _ _ (omega arith) (ap (λ (n : ℕ). n + c.args.to) c.saturating_sub.ensures) c.in_ok-push.ensures.items c.places.invariant

pub returns : goal.returns
returns c = all_moved (λ (n : ℕ). n - c.args.from + c.args.to) c.args.places.now c.places.place-index _ (omega arith) c.places.invariant
