use Rattle.std.proofs.Common.{List, ap, ◌∙◌, reverse}
use Rattle.std.proofs.lemmas.List.{reverse-reverse}
use Rattle.ca_model.specs.declared.value.Object.{Object}
use Rattle.ca_beside.specs.Beside.{present}
use Rattle.ca_replica.specs.Adding.{added}
use Rattle.ca_replica.proofs.Taking.{none_taken, next_whole, next_taken, all_taken}
use Rattle.ca_replica.proofs.adding.take_copies.Goals as goal

pub copies-init : goal.copies-init
copies-init c =
    none_taken c.args.written.now c.args.heap.now (present c.args.heap.now c.args.beside.now) c.args.copies.items c.reverse.new.self.items (ap reverse c.reverse.ensures.items ∙ reverse-reverse c.args.copies.items) c.requires.whole

pub take_copy-requires-clause-whole : goal.take_copy-requires-clause-whole
take_copy-requires-clause-whole c =
    let h = c.args.heap.now in
    let end : List Object = added c.args.written.now c.args.copies.items (present h c.args.beside.now) in
    next_whole c.args.written.now h end (present h c.copies.beside) c.copies.left.items c.pop.new.self.items c.in-Some.copy c.in-Some.ensures.items c.copies.invariant

pub copies-preserved : goal.copies-preserved
copies-preserved c =
    let h = c.args.heap.now in
    let end : List Object = added c.args.written.now c.args.copies.items (present h c.args.beside.now) in
    next_taken c.args.written.now h end (present h c.copies.beside) (present h c.take_copy.new.beside) c.copies.left.items c.pop.new.self.items c.in-Some.copy c.in-Some.ensures.items c.in_ok-take_copy.ensures c.copies.invariant

pub returns : goal.returns
returns c =
    let h = c.args.heap.now in
    let end : List Object = added c.args.written.now c.args.copies.items (present h c.args.beside.now) in
    all_taken c.args.written.now h end (present h c.copies.beside) c.copies.left.items _ c.in_default.ensures.cases.0 c.copies.left.ok.0 c.copies.invariant
