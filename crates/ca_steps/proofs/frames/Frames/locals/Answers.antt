use Rattle.std.proofs.Common.{◌≡◌, ◌<◌, ◌+◌, ◌++◌, length, map, ap, arith}
use Rattle.ca_program.specs.Kinds.{kind_type}
use Rattle.ca_code_laws.specs.Machine.{row}
use Rattle.ca_steps.specs.Stands.{seen}
use Rattle.ca_steps.proofs.Loading.{here_is}
use Rattle.ca_steps.proofs.Handing.{value_added, all_added}
use Rattle.ca_steps.proofs.frames.Frames.locals.Goals as goal

pub locals-init : goal.locals-init
locals-init c =
    let e : c.args.self.now.base + 0 ≡ c.args.self.now.base = omega arith in
    ap (λ n. c.args.into.now.items ++ row (seen c.args.self.now.slots.items) n (map kind_type c.args.types.now)) e

pub locals-preserved : goal.locals-preserved
locals-preserved c =
    let m = c.args.self.now in
    let types = c.args.types.now in
    let i = c.locals.ty-index in
    let lt : i < length types = omega arith in
    value_added kind_type (seen m.slots.items) m.base types i c.locals.a _ c.in-Some.value c.locals.into.items c.push.new.self.items _ lt (here_is types i _ lt) (rw c.kind_type.ensures at c.in-Some.ensures.some) c.in_ok-push.ensures.items c.locals.invariant

pub returns : goal.returns
returns c =
    all_added kind_type (seen c.args.self.now.slots.items) c.args.self.now.base c.args.types.now c.locals.ty-index c.locals.a c.locals.into.items _ (omega arith) c.locals.invariant
