use Rattle.ca_program.specs.View.{program_view}
use Rattle.ca_code_laws.proofs.TypedFit.{functions_fit}
use Rattle.ca_sections.specs.Fitting.{OpsBegin, OpsStand}
use Rattle.ca_sections.proofs.coded.Coded.of.Goals as goal

pub invariant_of-result : goal.invariant_of-result
invariant_of-result c =
    let each : OpsBegin (program_view c.args.program.now) c.args.laid.now.code.ops.items c.in_ok-places.places.items = rw c.as_slice.ensures.value at c.in_ok-places.ensures.0 in
    let all : OpsStand (program_view c.args.program.now) c.args.laid.now.code.ops.items c.in_ok-places.places.items = rw c.as_slice.ensures.value at c.in_ok-places.ensures.1 in
    record { functions = functions_fit (program_view c.args.program.now) c.requires.typed; laid = c.requires.laid; runs = c.requires.runs; each = each; all = all }
