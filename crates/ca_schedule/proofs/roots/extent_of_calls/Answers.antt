use Rattle.std.proofs.Common.{map}
use Rattle.ca_program.specs.View.{program_view}
use Rattle.ca_parallel.specs.Calls.{operation_of}
use Rattle.ca_schedule.proofs.Alike.{extents_alike}
use Rattle.ca_schedule.proofs.roots.extent_of_calls.Goals as goal

pub returns : goal.returns
returns c = extents_alike c.extent_of.result (program_view c.args.program.now) c.as_slice.result.now c.in_ok-roots.roots.items (map operation_of c.args.ops.now) (rw c.program.ensures at c.extent_of.ensures) c.as_slice.ensures.value c.in_ok-roots.ensures
