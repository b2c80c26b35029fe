use Rattle.std.proofs.Common.{◌≡◌, ◌<◌, ◌≤◌, length, arith}
use Rattle.ca_serial.proofs.Hands.{params_there, params_past}
use Rattle.ca_serial.proofs.handing.params_of.Goals as goal

pub returns-then-place-params : goal.returns-then-place-params
returns-then-place-params c =
    let xs = c.args.code.now.params.items in
    let same : c.as_slice-params.result.now ≡ xs = c.as_slice-params.ensures.value in
    let near : c.args.op.0 < length xs = omega (arith, rw same at c.if-place-params.true) in
    rw c.as_slice.ensures.value (params_there xs c.args.op.0 c.index-params-place.result near (rw same at c.index-params-place.is))

pub returns-else-place-params : goal.returns-else-place-params
returns-else-place-params c =
    let xs = c.args.code.now.params.items in
    let same : c.as_slice-params.result.now ≡ xs = c.as_slice-params.ensures.value in
    let far : length xs ≤ c.args.op.0 = omega (arith, rw same at c.if-place-params.false) in
    params_past xs c.args.op.0 far
