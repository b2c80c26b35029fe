use Rattle.std.proofs.Common.{◌<◌, length, map, subst, arith}
use Rattle.ca_code.specs.Seen.{kind_seen}
use Rattle.ca_steps.specs.Handed.{PutLocals}
use Rattle.ca_sections.proofs.Entering.{entered_so, kinds_known}
use Rattle.ca_sections.proofs.coded.Start.enter.Goals as goal

pub returns : goal.returns
returns c =
    let code = c.args.self.laid.now.code in
    let all = code.params.items in
    let i = c.args.op.now.op.0 in
    let lt : i < length all = omega arith in
    let kinds = c.as_slice.result.now in
    let known = kinds_known all _ i c.index-all-place.result kinds c.as_slice-all.ensures.value lt c.index-all-place.is c.as_slice.ensures.value in
    let put = subst (λ vs. PutLocals c.make.new.self (map kind_seen kinds) vs c.put_values.new.self) c.as_slice-2.ensures c.in_ok-put_values.ensures in
    λ p laid. entered_so p code laid c.args.op.now c.args.frames.now c.make.new.self c.put_values.new.self kinds known c.in_ok-make.ensures put
