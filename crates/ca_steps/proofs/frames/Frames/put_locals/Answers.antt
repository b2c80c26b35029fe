use Rattle.std.proofs.Common.{◌≡◌, ◌+◌, ◌-◌, ◌<◌, length, refl, arith, sym, ◌∙◌, rules, w64}
use mir.Val.{SFits}
use Rattle.std.proofs.lemmas.Int.{to_z-of_z}
use Rattle.ca_program.specs.Kinds.{kind_type}
use Rattle.ca_steps.proofs.Loading.{here_is}
use Rattle.ca_steps.proofs.Handing.{putting_none, putting_one, putting_all}
use Rattle.ca_steps.proofs.frames.Frames.put_locals.Goals as goal

pub values-init : goal.values-init
values-init c =
    putting_none kind_type c.args.types.now c.args.values.now c.args.self.now (length c.args.values.now) refl (omega arith)

pub values-preserved : goal.values-preserved
values-preserved c =
    let small : SFits w64 c.word.result = search rules in
    let i = c.values.i in
    let done = c.if-not-put.false in
    let back : i ≡ (i - 1) + 1 = omega arith in
    let types = c.args.types.now in
    let values = c.args.values.now in
    let lt : i - 1 < length values = omega (arith, c.values.invariant.words.few) in
    let in_types : i - 1 < length types = omega (arith, lt) in
    putting_one kind_type types values c.args.self.now c.values.self c.put.new.self i (i - 1) _ _ c.word.result back in_types lt (here_is types (i - 1) _ in_types) (here_is values (i - 1) _ lt)
    (rw c.kind_type.ensures at (sym c.has_kind.ensures ∙ c.if-not-has_kind.false)) (c.put.ensures.put done) c.word.ensures (rw (to_z-of_z w64 c.word.result small) at (c.put.ensures.slots done)) (c.put.ensures.same done) c.values.invariant

pub returns : goal.returns
returns c =
    putting_all c.args.self.now c.values.self _ c.args.values.now c.values.i (omega arith) c.values.invariant
