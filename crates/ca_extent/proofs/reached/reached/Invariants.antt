use Rattle.std.proofs.Common.{◌≡◌, ◌+◌, ◌-◌, length, map}
use Rattle.ca_program.specs.View.{method_view}
use Rattle.ca_extent.specs.clauses.Reached.{calls_at}
use Rattle.ca_extent.proofs.Searching.{Searching, unread}
use Rattle.ca_extent.proofs.reached.reached.Given as goal

abbrev pub invariant-loop-done : goal.invariant-loop-done
invariant-loop-done l = record {
  searching : Searching (calls_at l.callees (map method_view l.methods)) l.fn.roots.items l.marks.items l.met.items l.done;
  known : length l.marks.items ≡ length l.methods;
}

abbrev pub decreases-loop-done : goal.decreases-loop-done
decreases-loop-done l = unread (calls_at l.callees (map method_view l.methods)) l.marks.items + (length l.met.items - l.done)
