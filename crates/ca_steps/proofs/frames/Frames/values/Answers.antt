use Rattle.std.proofs.Common.{◌<◌, length, arith}
use Rattle.ca_code.specs.Seen.{kind_seen}
use Rattle.ca_steps.specs.Stands.{seen}
use Rattle.ca_steps.proofs.Loading.{here_is}
use Rattle.ca_steps.proofs.Handing.{value_added, all_added}
use Rattle.ca_steps.proofs.frames.Frames.values.Goals as goal

pub values-preserved : goal.values-preserved
values-preserved c =
    let m = c.args.self.now in
    let kinds = c.args.kinds.now in
    let i = c.values.kind-index in
    let lt : i < length kinds = omega arith in
    value_added kind_seen (seen m.slots.items) m.base kinds i c.values.a _ c.in-Some.value c.values.into.items c.push.new.self.items _ lt (here_is kinds i _ lt) c.in-Some.ensures.some c.in_ok-push.ensures.items c.values.invariant

pub returns : goal.returns
returns c =
    all_added kind_seen (seen c.args.self.now.slots.items) c.args.self.now.base c.args.kinds.now c.values.kind-index c.values.a c.values.into.items _ (omega arith) c.values.invariant
