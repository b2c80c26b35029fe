use Rattle.std.proofs.Common.{List, IfOk, map, sym, subst}
use Rattle.ca_program.specs.View.{program_view}
use Rattle.ca_parallel.specs.declared.op.Op.{Op}
use Rattle.ca_parallel.specs.Calls.{invocations_of, operation_of}
use Rattle.ca_workers.specs.clauses.Ahead.{WaitFrom}
use Rattle.ca_workers.specs.clauses.Runs.{Placed}
use Rattle.ca_workers.proofs.parallel.Parallel.run_rest.Goals as goal

pub run_alone_first-requires-clause-waits : goal.run_alone_first-requires-clause-waits
run_alone_first-requires-clause-waits g c κs o =
    subst (λ (os : List Op). WaitFrom (program_view c.args.program.now) c.args.heap.now (map operation_of c.args.roots.now) (invocations_of os)) (sym c.in_ok-rest.ensures.rest) c.requires.waits

pub returns : goal.returns
returns g c =
    let h = c.args.heap.now in
    let ran = c.run_alone_first in
    record {
      placed = subst (λ (os : List Op). IfOk ran.result (Placed (program_view c.args.program.now) h h (invocations_of os) c.args.front.left ran.new.heap)) c.in_ok-rest.ensures.rest ran.ensures.placed;
      kept = ran.ensures.kept;
      one = ran.ensures.one;
    }
