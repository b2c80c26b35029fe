use Rattle.std.proofs.Common.{List, ap, ◌∙◌, reverse}
use Rattle.std.proofs.lemmas.List.{reverse-reverse}
use Rattle.ca_model.specs.declared.value.Object.{Object}
use Rattle.ca_beside.specs.Beside.{present}
use Rattle.ca_replica.specs.Together.{added_one_by_one}
use Rattle.ca_sum_pool.specs.Rounded.{copies_in}
use Rattle.ca_workers.proofs.Moving.{none_moved, next_whole, next_moved, all_moved}
use Rattle.ca_workers.proofs.storing.store_sums.Goals as goal

pub replicas-init : goal.replicas-init
replicas-init c =
    none_moved c.args.extent.now.written c.args.frozen.now (present c.args.frozen.now c.args.beside.now) c.args.replicas.items c.reverse.new.self.items (ap reverse c.reverse.ensures.items ∙ reverse-reverse c.args.replicas.items) c.requires.whole

pub move_beside-requires-clause-whole : goal.move_beside-requires-clause-whole
move_beside-requires-clause-whole c =
    let ws = c.args.extent.now.written in
    let h = c.args.frozen.now in
    let end : List Object = added_one_by_one ws (copies_in c.args.replicas.items) (present h c.args.beside.now) in
    next_whole ws h end (present h c.replicas.beside) c.replicas.left.items c.pop.new.self.items c.in-Some.replica c.in-Some.ensures.items c.replicas.invariant

pub replicas-preserved : goal.replicas-preserved
replicas-preserved c =
    let ws = c.args.extent.now.written in
    let h = c.args.frozen.now in
    let end : List Object = added_one_by_one ws (copies_in c.args.replicas.items) (present h c.args.beside.now) in
    next_moved ws h end (present h c.replicas.beside) (present h c.move_beside.new.beside) c.replicas.left.items c.pop.new.self.items c.in-Some.replica c.in-Some.ensures.items c.in_ok-move_beside.ensures c.replicas.invariant

pub returns : goal.returns
returns c =
    let ws = c.args.extent.now.written in
    let h = c.args.frozen.now in
    let end : List Object = added_one_by_one ws (copies_in c.args.replicas.items) (present h c.args.beside.now) in
    all_moved ws h end (present h c.replicas.beside) c.replicas.left.items _ c.in_default.ensures.cases.0 c.replicas.left.ok.0 c.replicas.invariant
