use Rattle.ca_tree.specs.declared.tree.AssignOp.TheVariants.{Put}
use Rattle.ca_program.specs.View.{expression_view, program_view}
use Rattle.ca_symbolic.specs.States.{term_at}
use Rattle.ca_symbolic.specs.Execution.{term_of, put_right}
use Rattle.ca_symbolic.specs.clauses.Refusals.{with_put, refused_value, refused_right}
use Rattle.ca_symbolic.proofs.Making.{makes_as}
use Rattle.ca_symbolic.proofs.Summing.{value_made, value_refused}
use Rattle.ca_symbolic.proofs.Views.{binary_is}
use Rattle.ca_symbolic.proofs.puts.put_right.Goals as goal

pub put_operation-requires : goal.put_operation-requires
put_operation-requires c =
    let v = c.in-Binary in
    record { index = c.requires.index; whole = binary_is c.args.e.now v.op v.a v.b c.deref.result.now c.deref-in-Binary.result.now v.is c.deref.ensures c.deref-in-Binary.ensures }

pub returns-in-Binary : goal.returns-in-Binary
returns-in-Binary c =
    let w = c.put_operation.ensures in
    record { made = w.made; demands = w.demands; light = w.light; large = w.large }

pub returns-in_default : goal.returns-in_default
returns-in_default c =
    let a = c.args in
    let w = makes_as c.with_value.result (with_put Put (term_at a.state.now.fields a.field.field) a.index (term_of (program_view a.program.now) a.state.now (expression_view a.e.now))) (put_right (program_view a.program.now) a.state.now a.field (expression_view a.i.now) (expression_view a.e.now))
    (refused_value (program_view a.program.now) a.state.now a.out.now.guard a.field Put a.index (expression_view a.e.now)) (refused_right (program_view a.program.now) a.state.now a.out.now.guard a.field (expression_view a.i.now) (expression_view a.e.now))
    (value_made (program_view a.program.now) a.state.now a.out.now.guard a.field (expression_view a.i.now) a.index c.requires.index a.e.now c.in_default.not-Binary) (value_refused (program_view a.program.now) a.state.now a.out.now.guard a.field (expression_view a.i.now) a.index c.requires.index a.e.now c.in_default.not-Binary) c.with_value.ensures.made c.with_value.ensures.light c.with_value.ensures.large in
    record { made = w.made; demands = c.with_value.ensures.demands; light = w.light; large = w.large }
