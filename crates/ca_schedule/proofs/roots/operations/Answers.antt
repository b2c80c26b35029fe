use Rattle.std.proofs.Common.{◌≡◌, ◌<◌, ◌≤◌, ◌+◌, ◌++◌, ◌∷◌, [], List, length, map, take, sym, ap, subst, ◌∙◌, arith}
use Rattle.std.proofs.lemmas.List.{map_more, take_all}
use Rattle.ca_program.specs.declared.program.OpId.{OpId}
use Rattle.ca_parallel.specs.declared.op.Op.{Op}
use Rattle.ca_parallel.specs.Calls.{operation_of}
use Rattle.ca_schedule.proofs.Alike.{AreAlike, pushed_alike, equal_alike}
use Rattle.ca_schedule.proofs.roots.operations.Goals as goal

pub loop-op-init : goal.loop-op-init
loop-op-init c = equal_alike _ _ c.new-ids.ensures.items

pub loop-op-preserved : goal.loop-op-preserved
loop-op-preserved c =
    let ops = c.args.ops.now in
    let i = c.loop-op.op-index in
    let op : Op = c.op-item.result in
    let seen : List OpId = map operation_of (take i ops) in
    let lt : i < length ops = omega arith in
    let more : seen ++ operation_of op ∷ [] ≡ map operation_of (take (i + 1) ops) = sym (map_more operation_of ops i op lt ∙ ap (λ (z : Op). seen ++ operation_of z ∷ []) (sym c.op-item.is)) in
    subst (λ (zs : List OpId). AreAlike c.add_other.new.ids.items zs) more (pushed_alike c.loop-op.ids.items c.add_other.new.ids.items seen (operation_of op) c.in_ok-add_other.ensures c.loop-op.invariant)

pub returns : goal.returns
returns c =
    let ops = c.args.ops.now in
    let le : length ops ≤ c.loop-op.op-index = omega arith in
    subst (λ (zs : List Op). AreAlike c.loop-op.ids.items (map operation_of zs)) (take_all c.loop-op.op-index ops le) c.loop-op.invariant
