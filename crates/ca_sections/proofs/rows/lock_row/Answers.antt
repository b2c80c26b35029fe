use Rattle.std.proofs.Common.{rules, length, ap, arith}
use Rattle.std.proofs.lemmas.List.{length-map}
use Rattle.ca_program.specs.View.{program_view, method_view}
use Rattle.ca_sections.proofs.Locking.{none_told, one_more_told, free_ones}
use Rattle.ca_sections.proofs.rows.lock_row.Goals as goal

pub ops-init : goal.ops-init
ops-init c = record {
  told = none_told (program_view c.args.program.now) c.args.extent.now.written c.in_ok-row.row.items c.in_ok-row.ensures.items;
  few = omega (arith, ap length c.in_ok-row.ensures.items);
}

pub ops-preserved : goal.ops-preserved
ops-preserved c = record {
  told = one_more_told (program_view c.args.program.now) c.args.extent.now.written c.ops.row.items c.push.new.self.items c.locks.result _ c.in_ok-push.ensures.items (omega arith) c.locks.ensures.exact c.ops.invariant.told;
  few = search rules;
}

pub returns-clause-exact : goal.returns-clause-exact
returns-clause-exact c = record {
  count = omega (arith, length-map c.args.program.now.ops.items method_view);
  each = c.ops.invariant.told;
}

pub returns-clause-free : goal.returns-clause-free
returns-clause-free c = free_ones (program_view c.args.program.now) c.args.extent.now.written c.ops.row.items c.ops.invariant.told
