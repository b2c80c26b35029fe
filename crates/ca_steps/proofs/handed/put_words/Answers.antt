use Rattle.std.proofs.Common.{◌≡◌, ◌+◌, ◌-◌, ◌<◌, length, refl, sym, ◌∙◌, arith, rules, w64}
use mir.Val.{SFits}
use Rattle.std.proofs.lemmas.Int.{to_z-of_z}
use Rattle.ca_code.specs.Seen.{kind_seen}
use Rattle.ca_steps.proofs.Loading.{here_is}
use Rattle.ca_steps.proofs.Handing.{words_none, words_one, words_all}
use Rattle.ca_steps.proofs.handed.put_words.Goals as goal

pub values-init : goal.values-init
values-init c =
    words_none kind_seen c.args.kinds.now c.args.values.now c.args.base c.args.slots.now.items (length c.args.values.now) refl c.requires.many

pub put_at-requires : goal.put_at-requires
put_at-requires c = omega (arith, c.requires.room, c.values.invariant.few, c.values.invariant.many, c.values-test.true)

pub values-preserved : goal.values-preserved
values-preserved c =
    let small : SFits w64 c.word.result = search rules in
    let i = c.values.i in
    let back : i ≡ (i - 1) + 1 = omega arith in
    let kinds = c.args.kinds.now in
    let values = c.args.values.now in
    let lt : i - 1 < length values = omega (arith, c.values.invariant.few) in
    let in_kinds : i - 1 < length kinds = omega (arith, lt, c.requires.many) in
    let within : c.args.base + (i - 1) < length c.values.slots.items = omega (arith, lt, c.requires.room, c.values.invariant.many) in
    words_one kind_seen kinds values c.args.base c.args.slots.now.items c.values.slots.items c.put_at.new.slots.items i (i - 1) _ _ c.word.result back in_kinds lt (here_is kinds (i - 1) _ in_kinds) (here_is values (i - 1) _ lt)
    (sym c.has_kind.ensures ∙ c.if-not-has_kind.false) within c.word.ensures (rw (to_z-of_z w64 c.word.result small) at c.put_at.ensures) c.values.invariant

pub returns-then-not-has_kind : goal.returns-then-not-has_kind
returns-then-not-has_kind c = λ e. cc

pub returns : goal.returns
returns c =
    λ e. words_all c.args.slots.now.items c.values.slots.items c.args.base _ c.args.values.now c.values.i (omega arith) c.values.invariant
