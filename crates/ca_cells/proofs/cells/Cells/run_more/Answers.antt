use Rattle.std.proofs.Common.{ap, arith}
use Rattle.ca_cells.specs.Seats.{cells_key}
use Rattle.ca_cells.proofs.Courses.{loop_on, loop_sticks, loop_closes, with_room}
use Rattle.ca_cells.proofs.cells.Cells.run_more.Goals as goal

pub loop-done-init : goal.loop-done-init
loop-done-init c = record {
  count = let some = c.requires.tasks.2 in omega (arith, some);
  behind = c.requires.behind;
  undo = with_room c.args.desk.now c.take_room-olds.new.self c.take_room-olds.result c.args.log.now c.args.found.now.value (ap (λ s. s.olds) c.take_room-olds.ensures.state) c.take_room-olds.ensures.none c.requires.undo;
}

pub loop-done-preserved : goal.loop-done-preserved
loop-done-preserved c = let i = c.loop-done.invariant in let less = c.loop-done-test.true in record {
  count = omega arith;
  behind = loop_on (cells_key c.args.self.now) c.args.left c.args.number c.args.found.now.value c.loop-done.log c.run_behind-next.new.log c.args.tasks.now c.loop-done.made.items c.run_behind-next.new.made.items c.loop-done.done c.index-tasks-done.result c.index-tasks-done.is less i.behind
      c.in-Ok.step c.in-Ok.ensures.next c.in-Ran.is;
  undo = c.in-Ok.ensures.undo c.in-Ran.is;
}

pub returns-in-Stuck-clause-ran : goal.returns-in-Stuck-clause-ran
returns-in-Stuck-clause-ran c = let i = c.loop-done.invariant in
    loop_sticks (cells_key c.args.self.now) c.args.left c.args.number c.args.found.now.value c.loop-done.log c.run_behind-next.new.log c.args.tasks.now c.loop-done.made.items c.run_behind-next.new.made.items c.loop-done.done c.index-tasks-done.result c.index-tasks-done.is c.loop-done-test.true i.behind
    c.in-Ok.step c.in-Ok.ensures.next c.in-Stuck.stop c.in-Stuck.is

pub returns-in-Closed-clause-ran : goal.returns-in-Closed-clause-ran
returns-in-Closed-clause-ran c = let i = c.loop-done.invariant in
    loop_closes (cells_key c.args.self.now) c.args.left c.args.number c.args.found.now.value c.loop-done.log c.run_behind-next.new.log c.args.tasks.now c.loop-done.made.items c.run_behind-next.new.made.items c.loop-done.done c.index-tasks-done.result c.index-tasks-done.is c.loop-done-test.true i.behind
    c.in-Ok.step c.in-Ok.ensures.next c.in-Closed.closed c.in-Closed.is
