use Rattle.std.proofs.Common.{take, sym, subst}
use Rattle.ca_logs.specs.declared.log.CellLog.{CellLog}
use Rattle.ca_cells.specs.Seats.{cells_key}
use Rattle.ca_cells.specs.clauses.Courses.{Behind}
use Rattle.ca_logs.specs.Telling.{IsMark}
use Rattle.ca_cells.proofs.Courses.{none_behind, loop_on, loop_sticks, loop_closes, marked, ran_as}
use Rattle.ca_cells.proofs.cells.Cells.run_tasks.Goals as goal

pub run_more-requires-clause-behind : goal.run_more-requires-clause-behind
run_more-requires-clause-behind c = let key = cells_key c.args.self.now in let log = c.args.log.now in
    subst (λ (l : CellLog). Behind key c.args.left c.args.number l (take 1 c.args.tasks.now) c.run_next.new.made.items c.run_next.new.log) (sym c.of-found.ensures)
    (loop_on key c.args.left c.args.number log log c.run_next.new.log c.args.tasks.now c.args.made.now.items c.run_next.new.made.items 0 c.index-tasks-0.result c.index-tasks-0.is c.requires.tasks.2
    (none_behind key c.args.left c.args.number log c.args.made.now.items c.requires.none c.requires.legal.1) c.in_ok-next.next c.in_ok-next.ensures.next c.in-Ran.is)

pub run_more-requires-clause-mark : goal.run_more-requires-clause-mark
run_more-requires-clause-mark c = let key = cells_key c.args.self.now in let log = c.args.log.now in
    subst (λ (l : CellLog). IsMark l.entries c.mark-mark.result) (sym c.of-found.ensures)
    (marked log c.index-tasks-0.result.after c.mark-mark.result (ran_as key c.args.left c.args.number c.index-tasks-0.result log c.run_next.new.log c.args.made.now.items c.run_next.new.made.items c.in_ok-next.next c.in_ok-next.ensures.next c.in-Ran.is).takes_one c.mark-mark.ensures)

pub returns-in-Stuck-clause-ran : goal.returns-in-Stuck-clause-ran
returns-in-Stuck-clause-ran c = let key = cells_key c.args.self.now in let log = c.args.log.now in
    loop_sticks key c.args.left c.args.number log log c.run_next.new.log c.args.tasks.now c.args.made.now.items c.run_next.new.made.items 0 c.index-tasks-0.result c.index-tasks-0.is c.requires.tasks.2
    (none_behind key c.args.left c.args.number log c.args.made.now.items c.requires.none c.requires.legal.1) c.in_ok-next.next c.in_ok-next.ensures.next c.in-Stuck.stop c.in-Stuck.is

pub returns-clause-ran : goal.returns-clause-ran
returns-clause-ran c = let key = cells_key c.args.self.now in let log = c.args.log.now in
    loop_closes key c.args.left c.args.number log log c.run_next.new.log c.args.tasks.now c.args.made.now.items c.run_next.new.made.items 0 c.index-tasks-0.result c.index-tasks-0.is c.requires.tasks.2
    (none_behind key c.args.left c.args.number log c.args.made.now.items c.requires.none c.requires.legal.1) c.in_ok-next.next c.in_ok-next.ensures.next c.in-Closed.closed c.in-Closed.is
