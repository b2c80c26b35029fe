use Rattle.ca_record.proofs.tracing.TracingTracer.trace.Goals as goal

pub returns : goal.returns
returns g c =
    let r = c.requires in
    let s = (r.ready _ c.args.program _ c.args.operations c.args.budget _ record { program = r.program; heap = r.heap; typed = r.typed; parallel = r.parallel; fits = c.ranges.budget.fits }).1 _ _ _ _ c.call.ensures in
    record { traced = s.traced; heap_kept = s.heap_kept; lines_kept = s.lines_kept }
