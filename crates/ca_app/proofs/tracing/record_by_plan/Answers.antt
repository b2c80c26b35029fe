use Rattle.ca_program.specs.View.{program_view}
use Rattle.ca_app.proofs.Traces.{follow_plan}
use Rattle.ca_app.proofs.tracing.record_by_plan.Goals as goal

pub returns-then-workers-gt1-clause-follows : goal.returns-then-workers-gt1-clause-follows
returns-then-workers-gt1-clause-follows g c =
    follow_plan (program_view c.args.program.now) c.in-Ok.marks c.in-Ok.ensures.planned c.args.budget (λ x. x.items) c.record_by_many.result c.record_by_many.ensures.follows

pub returns-clause-follows : goal.returns-clause-follows
returns-clause-follows g c =
    follow_plan (program_view c.args.program.now) c.in-Ok.marks c.in-Ok.ensures.planned c.args.budget (λ x. x.items) c.record_by_one.result c.record_by_one.ensures.follows
