use Rattle.std.proofs.Common.{◌≡◌, ◌+◌, ℕ, [], ◌∷◌, ◌++◌, length, sym, ap, arith, subst}
use Rattle.ca_pool.specs.Gathered.{AreAllNumbers}
use Rattle.ca_pool.proofs.Reading.{all_more, no_numbers}
use Rattle.ca_pool.proofs.spreading.all_numbers.Goals as goal

pub loop-number-init : goal.loop-number-init
loop-number-init c = (no_numbers c.in_ok-numbers.numbers.items (ap length c.in_ok-numbers.ensures.items), omega arith)

pub loop-number-preserved : goal.loop-number-preserved
loop-number-preserved c = let i = c.loop-number.invariant in let p : c.push.new.self.items ≡ c.loop-number.numbers.items ++ c.loop-number.number ∷ [] = c.in_ok-push.ensures.items in
    (subst (AreAllNumbers (c.loop-number.number + 1)) (sym p) (all_more c.loop-number.number c.loop-number.numbers.items i.0), let t = c.loop-number-test.true in omega arith)

pub returns : goal.returns
returns c = let i = c.loop-number.invariant in let n : c.loop-number.number ≡ c.args.objects = let t = c.loop-number-test.false in omega (arith, i.1) in subst (λ (k : ℕ). AreAllNumbers k c.loop-number.numbers.items) n i.0
