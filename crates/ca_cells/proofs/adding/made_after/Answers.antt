use Rattle.std.proofs.Common.{reverse, ap, ◌∙◌, arith}
use Rattle.std.proofs.lemmas.List.{reverse-reverse}
use Rattle.ca_cells.proofs.Listing.{none_made, one_made, all_made}
use Rattle.ca_cells.proofs.adding.made_after.Goals as goal

pub loop-op-init : goal.loop-op-init
loop-op-init c = record {
  made = none_made c.args.clock c.in_ok-tasks.tasks.items c.args.ops.now.items c.reverse.new.self.items c.in_ok-tasks.ensures.items (ap reverse c.reverse.ensures.items ∙ reverse-reverse c.args.ops.now.items);
  room = omega (arith, c.in_ok-tasks.ensures.len, c.in_ok-tasks.ensures.capacity, c.len-count.ensures, c.reverse.ensures.len);
}

pub loop-op-preserved : goal.loop-op-preserved
loop-op-preserved c = let i = c.loop-op.invariant in record {
  made = one_made c.args.clock c.loop-op.tasks.items c.push_reserved.new.self.items c.args.ops.now.items c.loop-op.ops.items c.pop.new.self.items c.in-Some.op c.in-Some.ensures.items c.push_reserved.ensures.items i.made;
  room = omega (arith, i.room, c.in-Some.ensures.len, c.push_reserved.ensures.len, c.push_reserved.ensures.capacity);
}

pub returns : goal.returns
returns c = all_made c.args.clock c.loop-op.tasks.items c.args.ops.now.items c.loop-op.ops.items _ c.in_default.ensures.cases.0 c.loop-op.ops.ok.0 c.loop-op.invariant.made
