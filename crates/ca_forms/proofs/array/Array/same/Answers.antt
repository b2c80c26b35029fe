use Rattle.std.proofs.Common.{rules, ◌≡◌, ◌↔◌, Bool, IsTrue, subst}
use Rattle.ca_forms.proofs.Exact.{array_tells}
use Rattle.ca_forms.proofs.array.Array.same.Goals as goal

pub returns : goal.returns
returns c = subst (λ (b : Bool). IsTrue b ↔ (c.args.self.now ≡ c.args.other.now)) (search rules) (array_tells c.args.self.now c.args.other.now)
