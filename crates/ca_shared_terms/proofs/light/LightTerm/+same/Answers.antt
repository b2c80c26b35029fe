use Rattle.std.proofs.Common.{rules, ◌≡◌, arith}
use Rattle.ca_norm.specs.Operators.{over_one, over_two, over_three}
use Rattle.ca_shared_terms.proofs.Smaller.{one_smaller, left_smaller, right_smaller, first_smaller, second_smaller, third_smaller, same_ones, same_twos, same_threes}
use Rattle.ca_shared_terms.proofs.light.LightTerm.+same.Goals as goal

pub is_same-requires : goal.is_same-requires
is_same-requires t c =
    let is : over_one c.in-One-One.f c.in-One-One.a.now ≡ c.args.self.now = rw c.in-One-One.is-0 at c.operands.ensures in
    (omega (arith, one_smaller c.in-One-One.f c.in-One-One.a.now c.args.self.now is), tt)

pub is_same-requires-then-eq-2 : goal.is_same-requires-then-eq-2
is_same-requires-then-eq-2 t c =
    let is : over_two c.in-Two-Two.f c.in-Two-Two.a.now c.in-Two-Two.b.now ≡ c.args.self.now = rw c.in-Two-Two.is-0 at c.operands.ensures in
    (omega (arith, left_smaller c.in-Two-Two.f c.in-Two-Two.a.now c.in-Two-Two.b.now c.args.self.now is), tt)

pub is_same-requires-then-is_same : goal.is_same-requires-then-is_same
is_same-requires-then-is_same t c =
    let is : over_two c.in-Two-Two.f c.in-Two-Two.a.now c.in-Two-Two.b.now ≡ c.args.self.now = rw c.in-Two-Two.is-0 at c.operands.ensures in
    (omega (arith, right_smaller c.in-Two-Two.f c.in-Two-Two.a.now c.in-Two-Two.b.now c.args.self.now is), tt)

pub is_same-requires-then-eq-3 : goal.is_same-requires-then-eq-3
is_same-requires-then-eq-3 t c =
    let is : over_three c.in-Three-Three.f c.in-Three-Three.a.now c.in-Three-Three.b.now c.in-Three-Three.c.now ≡ c.args.self.now = rw c.in-Three-Three.is-0 at c.operands.ensures in
    (omega (arith, first_smaller c.in-Three-Three.f c.in-Three-Three.a.now c.in-Three-Three.b.now c.in-Three-Three.c.now c.args.self.now is), tt)

pub is_same-requires-then-is_same-2 : goal.is_same-requires-then-is_same-2
is_same-requires-then-is_same-2 t c =
    let is : over_three c.in-Three-Three.f c.in-Three-Three.a.now c.in-Three-Three.b.now c.in-Three-Three.c.now ≡ c.args.self.now = rw c.in-Three-Three.is-0 at c.operands.ensures in
    (omega (arith, second_smaller c.in-Three-Three.f c.in-Three-Three.a.now c.in-Three-Three.b.now c.in-Three-Three.c.now c.args.self.now is), tt)

pub is_same-requires-then-is_same-3 : goal.is_same-requires-then-is_same-3
is_same-requires-then-is_same-3 t c =
    let is : over_three c.in-Three-Three.f c.in-Three-Three.a.now c.in-Three-Three.b.now c.in-Three-Three.c.now ≡ c.args.self.now = rw c.in-Three-Three.is-0 at c.operands.ensures in
    (omega (arith, third_smaller c.in-Three-Three.f c.in-Three-Three.a.now c.in-Three-Three.b.now c.in-Three-Three.c.now c.args.self.now is), tt)

pub returns-then-eq : goal.returns-then-eq
returns-then-eq t c =
    let e : c.in-One-One.f ≡ c.in-One-One.g = search rules in
    λ h. same_ones c.in-One-One.f c.in-One-One.g c.in-One-One.a.now c.in-One-One.b.now c.args.self.now c.args.other.now (rw c.in-One-One.is-0 at c.operands.ensures) (rw c.in-One-One.is-1 at c.operands-2.ensures) e (c.is_same.ensures h)

pub returns-then-is_same : goal.returns-then-is_same
returns-then-is_same t c =
    let e : c.in-Two-Two.f ≡ c.in-Two-Two.g = search rules in
    λ h. same_twos c.in-Two-Two.f c.in-Two-Two.g c.in-Two-Two.a.now c.in-Two-Two.b.now c.in-Two-Two.c.now c.in-Two-Two.d.now c.args.self.now c.args.other.now (rw c.in-Two-Two.is-0 at c.operands.ensures) (rw c.in-Two-Two.is-1 at c.operands-2.ensures) e (c.is_same-then-eq-2.ensures c.if-is_same.true) (c.is_same-then-is_same.ensures h)

pub returns-then-is_same-3 : goal.returns-then-is_same-3
returns-then-is_same-3 t c =
    let e : c.in-Three-Three.f ≡ c.in-Three-Three.g = search rules in
    λ h. same_threes c.in-Three-Three.f c.in-Three-Three.g c.in-Three-Three.a.now c.in-Three-Three.b.now c.in-Three-Three.c.now c.in-Three-Three.d.now c.in-Three-Three.e.now c.in-Three-Three.h.now c.args.self.now c.args.other.now (rw c.in-Three-Three.is-0 at c.operands.ensures) (rw c.in-Three-Three.is-1 at c.operands-2.ensures) e (c.is_same-then-eq-3.ensures c.if-is_same-2.true) (c.is_same-then-is_same-2.ensures c.if-is_same-3.true) (c.is_same-then-is_same-3.ensures h)
