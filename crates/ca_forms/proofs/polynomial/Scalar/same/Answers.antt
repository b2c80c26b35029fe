use Rattle.std.proofs.Common.{rules, ◌≡◌, ◌↔◌, Bool, IsTrue, subst}
use Rattle.ca_forms.proofs.Exact.{scalar_tells}
use Rattle.ca_forms.proofs.polynomial.Scalar.same.Goals as goal

pub returns : goal.returns
returns c = subst (λ (b : Bool). IsTrue b ↔ (c.args.self.now ≡ c.args.other.now)) (search rules) (scalar_tells c.args.self.now c.args.other.now)
