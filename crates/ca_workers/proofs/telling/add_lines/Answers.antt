use Rattle.std.proofs.Common.{ap, ◌++◌, List, ◌∙◌}
use Rattle.ca_logs.specs.declared.log.CellLog.{CellLog}
use Rattle.ca_logs.specs.declared.log.Entry.{Entry}
use Rattle.ca_logs.specs.Entries.{task_calls, tasks_in}
use Rattle.ca_logs.specs.LogOrder.{order_of}
use Rattle.ca_trace.specs.declared.line.Line.{Line}
use Rattle.ca_workers.proofs.telling.add_lines.Goals as goal

pub returns-clause-added : goal.returns-clause-added
returns-clause-added c = record {
  ops = c.in_ok-ops.ops.items;
  calls = c.in_ok-ops.ensures
      ∙ (ap (λ (ls : List CellLog). task_calls (tasks_in (order_of ls c.as_slice-2.result.now))) c.as_slice.ensures.value
      ∙ ap (λ (ls : List (List Entry)). task_calls (tasks_in (order_of c.args.log.now.logs.items ls))) c.as_slice-2.ensures.value);
  added = c.in_ok-append.ensures.items ∙ ap (λ (l : List Line). c.args.lines.now.items ++ l) c.in_ok-more.ensures;
}
