use Rattle.std.proofs.Common.{rules, ◌≡◌, map, sym, ap, ap₂, ◌∙◌, arith}
use Rattle.std.specs.Prelude.{box_value}
use Rattle.ca_norm.specs.Terms.{read, read_at, result, sweep, shape, terms_of}
use Rattle.ca_norm.specs.Operators.{over_one, over_two, over_three}
use Rattle.ca_norm.proofs.Known.{over_known, over_both, pair_known, over_three_known}
use Rattle.ca_norm.proofs.Shapes.{call_is}
use Rattle.ca_shared_terms.specs.Nodes.{node_of}
use Rattle.ca_shared_terms.specs.Sizes.{term_size}
use Rattle.ca_shared_terms.proofs.Boxed.{boxed_known}
use Rattle.ca_shared_terms.proofs.Smaller.{one_smaller, left_smaller, right_smaller, first_smaller, second_smaller, third_smaller}
use Rattle.ca_shared_terms.proofs.light.+unshared.Goals as goal

pub LightTerm::unshared-boxed-requires : goal.LightTerm::unshared-boxed-requires
LightTerm::unshared-boxed-requires t c =
    let is : over_one c.in-One.f c.in-One.a.now ≡ c.args.self.now = rw c.in-One.is at c.operands.ensures in
    (omega (arith, one_smaller c.in-One.f c.in-One.a.now c.args.self.now is), tt)

pub LightTerm::unshared-boxed-requires-in-Two : goal.LightTerm::unshared-boxed-requires-in-Two
LightTerm::unshared-boxed-requires-in-Two t c =
    let is : over_two c.in-Two.f c.in-Two.a.now c.in-Two.b.now ≡ c.args.self.now = rw c.in-Two.is at c.operands.ensures in
    (omega (arith, left_smaller c.in-Two.f c.in-Two.a.now c.in-Two.b.now c.args.self.now is), tt)

pub LightTerm::unshared-boxed-requires-in-Two-2 : goal.LightTerm::unshared-boxed-requires-in-Two-2
LightTerm::unshared-boxed-requires-in-Two-2 t c =
    let is : over_two c.in-Two.f c.in-Two.a.now c.in-Two.b.now ≡ c.args.self.now = rw c.in-Two.is at c.operands.ensures in
    (omega (arith, right_smaller c.in-Two.f c.in-Two.a.now c.in-Two.b.now c.args.self.now is), tt)

pub LightTerm::unshared-boxed-requires-in-Three : goal.LightTerm::unshared-boxed-requires-in-Three
LightTerm::unshared-boxed-requires-in-Three t c =
    let is : over_three c.in-Three.f c.in-Three.a.now c.in-Three.b.now c.in-Three.c.now ≡ c.args.self.now = rw c.in-Three.is at c.operands.ensures in
    (omega (arith, second_smaller c.in-Three.f c.in-Three.a.now c.in-Three.b.now c.in-Three.c.now c.args.self.now is), tt)

pub LightTerm::unshared-boxed-requires-in-Three-2 : goal.LightTerm::unshared-boxed-requires-in-Three-2
LightTerm::unshared-boxed-requires-in-Three-2 t c =
    let is : over_three c.in-Three.f c.in-Three.a.now c.in-Three.b.now c.in-Three.c.now ≡ c.args.self.now = rw c.in-Three.is at c.operands.ensures in
    (omega (arith, third_smaller c.in-Three.f c.in-Three.a.now c.in-Three.b.now c.in-Three.c.now c.args.self.now is), tt)

pub LightTerm::unshared-boxed-requires-in-Three-3 : goal.LightTerm::unshared-boxed-requires-in-Three-3
LightTerm::unshared-boxed-requires-in-Three-3 t c =
    let is : over_three c.in-Three.f c.in-Three.a.now c.in-Three.b.now c.in-Three.c.now ≡ c.args.self.now = rw c.in-Three.is at c.operands.ensures in
    (omega (arith, first_smaller c.in-Three.f c.in-Three.a.now c.in-Three.b.now c.in-Three.c.now c.args.self.now is), tt)

pub LightTerm::unshared-returns-in-One : goal.LightTerm::unshared-returns-in-One
LightTerm::unshared-returns-in-One t c =
    over_known c.unary.result c.boxed.result shape (λ b. shape (box_value b)) (over_one c.in-One.f) c.in-One.a.now c.args.self.now (rw c.in-One.is at c.operands.ensures) c.boxed.ensures c.unary.ensures

pub LightTerm::unshared-returns-in-Two : goal.LightTerm::unshared-returns-in-Two
LightTerm::unshared-returns-in-Two t c =
    over_both c.binary.result c.both.result c.boxed-in-Two.result c.boxed-in-Two-2.result shape (λ b. shape (box_value b)) (λ b. shape (box_value b)) (over_two c.in-Two.f) c.in-Two.a.now c.in-Two.b.now c.args.self.now (rw c.in-Two.is at c.operands.ensures) c.both.ensures.first c.both.ensures.second c.boxed-in-Two.ensures c.boxed-in-Two-2.ensures c.binary.ensures

pub LightTerm::unshared-returns-in-Three : goal.LightTerm::unshared-returns-in-Three
LightTerm::unshared-returns-in-Three t c =
    over_three_known c.ternary.result c.both-in-Three.result c.boxed-in-Three-3.result c.both-sides.result shape (λ b. shape (box_value b)) (λ p. shape (box_value p.0)) (λ p. shape (box_value p.1)) (over_three c.in-Three.f) c.in-Three.a.now c.in-Three.b.now c.in-Three.c.now c.args.self.now (rw c.in-Three.is at c.operands.ensures) c.both-in-Three.ensures.first c.both-in-Three.ensures.second c.boxed-in-Three-3.ensures
    (pair_known c.both-sides.result c.boxed-in-Three.result c.boxed-in-Three-2.result (λ b. shape (box_value b)) (λ b. shape (box_value b)) c.in-Three.b.now c.in-Three.c.now c.both-sides.ensures.first c.both-sides.ensures.second c.boxed-in-Three.ensures c.boxed-in-Three-2.ensures)
    c.ternary.ensures

pub LightTerm::unshared-unshared_other-requires : goal.LightTerm::unshared-unshared_other-requires
LightTerm::unshared-unshared_other-requires t c = (omega arith, tt)

pub LightTerm::unshared-returns-in-Other : goal.LightTerm::unshared-returns-in-Other
LightTerm::unshared-returns-in-Other t c = c.unshared_other.ensures

pub LightTerm::boxed-unshared-requires : goal.LightTerm::boxed-unshared-requires
LightTerm::boxed-unshared-requires t c = (omega arith, tt)

pub LightTerm::boxed-returns : goal.LightTerm::boxed-returns
LightTerm::boxed-returns t c = boxed_known c.one_box.result c.unshared.result shape c.args.self.now c.one_box.ensures c.unshared.ensures

pub LightTerm::unshared_other-returns-in-Truth : goal.LightTerm::unshared_other-returns-in-Truth
LightTerm::unshared_other-returns-in-Truth t c = ap node_of (sym c.in-Truth.is ∙ c.deref.ensures) ∙ c.self.view_is

pub LightTerm::unshared_other-returns-in-Null : goal.LightTerm::unshared_other-returns-in-Null
LightTerm::unshared_other-returns-in-Null t c = ap node_of (sym c.in-Null.is ∙ c.deref.ensures) ∙ c.self.view_is

pub LightTerm::unshared_other-returns-in-Atom : goal.LightTerm::unshared_other-returns-in-Atom
LightTerm::unshared_other-returns-in-Atom t c = ap node_of (sym c.in-Atom.is ∙ c.deref.ensures) ∙ c.self.view_is

pub LightTerm::unshared_other-returns-in_ok-object-in-Read : goal.LightTerm::unshared_other-returns-in_ok-object-in-Read
LightTerm::unshared_other-returns-in_ok-object-in-Read t c =
    let object : shape c.in_ok-object-in-Read.object.value ≡ c.in-Read.p = search rules in
    ap (λ x. read c.in-Read.sort x c.in-Read.class c.in-Read.field) object
    ∙ (ap node_of (sym c.in-Read.is ∙ c.deref.ensures) ∙ c.self.view_is)

pub LightTerm::unshared_other-returns-in_ok-object-in-ReadAt : goal.LightTerm::unshared_other-returns-in_ok-object-in-ReadAt
LightTerm::unshared_other-returns-in_ok-object-in-ReadAt t c =
    let r = c.in_ok-object-in-ReadAt in
    let object : shape r.object.value ≡ c.in-ReadAt.p = search rules in
    let index : shape r.index.value ≡ c.in-ReadAt.i = search rules in
    ap₂ (λ x i. read_at c.in-ReadAt.sort x c.in-ReadAt.class c.in-ReadAt.field i) object index
    ∙ (ap node_of (sym c.in-ReadAt.is ∙ c.deref.ensures) ∙ c.self.view_is)

pub LightTerm::unshared_other-boxed-requires : goal.LightTerm::unshared_other-boxed-requires
LightTerm::unshared_other-boxed-requires t c =
    let is : read c.in-Read.sort c.in-Read.p c.in-Read.class c.in-Read.field ≡ c.args.self.now = ap node_of (sym c.in-Read.is ∙ c.deref.ensures) ∙ c.self.view_is in
    (omega (arith, ap term_size is), tt)

pub LightTerm::unshared_other-boxed-requires-in-ReadAt : goal.LightTerm::unshared_other-boxed-requires-in-ReadAt
LightTerm::unshared_other-boxed-requires-in-ReadAt t c =
    let is : read_at c.in-ReadAt.sort c.in-ReadAt.p c.in-ReadAt.class c.in-ReadAt.field c.in-ReadAt.i ≡ c.args.self.now = ap node_of (sym c.in-ReadAt.is ∙ c.deref.ensures) ∙ c.self.view_is in
    (omega (arith, ap term_size is), tt)

pub LightTerm::unshared_other-boxed-requires-in-ReadAt-2 : goal.LightTerm::unshared_other-boxed-requires-in-ReadAt-2
LightTerm::unshared_other-boxed-requires-in-ReadAt-2 t c =
    let is : read_at c.in-ReadAt.sort c.in-ReadAt.p c.in-ReadAt.class c.in-ReadAt.field c.in-ReadAt.i ≡ c.args.self.now = ap node_of (sym c.in-ReadAt.is ∙ c.deref.ensures) ∙ c.self.view_is in
    (omega (arith, ap term_size is), tt)

pub LightTerm::unshared_other-boxed-requires-in-Result : goal.LightTerm::unshared_other-boxed-requires-in-Result
LightTerm::unshared_other-boxed-requires-in-Result t c =
    let is : result c.in-Result.sort c.in-Result.method c.in-Result.p c.in-Result.args ≡ c.args.self.now = ap node_of (sym c.in-Result.is ∙ c.deref.ensures) ∙ c.self.view_is in
    (omega (arith, ap term_size is), tt)

pub LightTerm::unshared_other-unshared-requires : goal.LightTerm::unshared_other-unshared-requires
LightTerm::unshared_other-unshared-requires t c =
    let is : result c.in-Result.sort c.in-Result.method c.in-Result.p c.in-Result.args ≡ c.args.self.now = ap node_of (sym c.in-Result.is ∙ c.deref.ensures) ∙ c.self.view_is in
    (omega (arith, ap term_size is), tt)

pub LightTerm::unshared_other-returns-in_ok-receiver-in-Result : goal.LightTerm::unshared_other-returns-in_ok-receiver-in-Result
LightTerm::unshared_other-returns-in_ok-receiver-in-Result t c =
    let r = c.in_ok-receiver-in-Result in
    let object : shape r.receiver.value ≡ c.in-Result.p = search rules in
    let list : terms_of (map shape r.args.items) ≡ c.in-Result.args = search rules in
    call_is c.in-Result.sort c.in-Result.method r.receiver r.args
    ∙ (ap₂ (λ x xs. result c.in-Result.sort c.in-Result.method x xs) object list
    ∙ (ap node_of (sym c.in-Result.is ∙ c.deref.ensures) ∙ c.self.view_is))

pub LightTerm::unshared_other-boxed-requires-in-Sweep : goal.LightTerm::unshared_other-boxed-requires-in-Sweep
LightTerm::unshared_other-boxed-requires-in-Sweep t c =
    let is : sweep c.in-Sweep.a c.in-Sweep.f c.in-Sweep.t c.in-Sweep.x ≡ c.args.self.now = ap node_of (sym c.in-Sweep.is ∙ c.deref.ensures) ∙ c.self.view_is in
    (omega (arith, ap term_size is), tt)

pub LightTerm::unshared_other-boxed-requires-in-Sweep-2 : goal.LightTerm::unshared_other-boxed-requires-in-Sweep-2
LightTerm::unshared_other-boxed-requires-in-Sweep-2 t c =
    let is : sweep c.in-Sweep.a c.in-Sweep.f c.in-Sweep.t c.in-Sweep.x ≡ c.args.self.now = ap node_of (sym c.in-Sweep.is ∙ c.deref.ensures) ∙ c.self.view_is in
    (omega (arith, ap term_size is), tt)

pub LightTerm::unshared_other-boxed-requires-in-Sweep-3 : goal.LightTerm::unshared_other-boxed-requires-in-Sweep-3
LightTerm::unshared_other-boxed-requires-in-Sweep-3 t c =
    let is : sweep c.in-Sweep.a c.in-Sweep.f c.in-Sweep.t c.in-Sweep.x ≡ c.args.self.now = ap node_of (sym c.in-Sweep.is ∙ c.deref.ensures) ∙ c.self.view_is in
    (omega (arith, ap term_size is), tt)

pub LightTerm::unshared_other-boxed-requires-in-Sweep-4 : goal.LightTerm::unshared_other-boxed-requires-in-Sweep-4
LightTerm::unshared_other-boxed-requires-in-Sweep-4 t c =
    let is : sweep c.in-Sweep.a c.in-Sweep.f c.in-Sweep.t c.in-Sweep.x ≡ c.args.self.now = ap node_of (sym c.in-Sweep.is ∙ c.deref.ensures) ∙ c.self.view_is in
    (omega (arith, ap term_size is), tt)
