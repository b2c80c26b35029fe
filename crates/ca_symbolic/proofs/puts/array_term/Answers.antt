use Rattle.std.proofs.Common.{sym, ap}
use Rattle.ca_tree.specs.declared.tree.AssignOp.{AssignOp}
use Rattle.ca_program.specs.View.{expression_view, program_view}
use Rattle.ca_symbolic.specs.States.{term_at}
use Rattle.ca_symbolic.specs.Execution.{term_of, put_right, array_term}
use Rattle.ca_symbolic.specs.clauses.Refusals.{with_put, refused_value, refused_right, refused_array}
use Rattle.ca_symbolic.proofs.Making.{makes_as}
use Rattle.ca_symbolic.proofs.Summing.{array_made, array_refused}
use Rattle.ca_symbolic.proofs.puts.array_term.Goals as goal

pub put_right-requires : goal.put_right-requires
put_right-requires c = record { index = c.requires.index }

pub returns-in-Put : goal.returns-in-Put
returns-in-Put c =
    let a = c.args in
    let w = makes_as c.put_right.result (put_right (program_view a.program.now) a.state.now a.field (expression_view a.i.now) (expression_view a.e.now)) (array_term (program_view a.program.now) a.state.now a.field (expression_view a.i.now) a.op (expression_view a.e.now))
    (refused_right (program_view a.program.now) a.state.now a.out.now.guard a.field (expression_view a.i.now) (expression_view a.e.now)) (refused_array (program_view a.program.now) a.state.now a.out.now.guard a.field (expression_view a.i.now) a.op (expression_view a.e.now))
    (sym (ap (λ (k : AssignOp). array_term (program_view a.program.now) a.state.now a.field (expression_view a.i.now) k (expression_view a.e.now)) c.in-Put.is))
    (sym (ap (λ (k : AssignOp). refused_array (program_view a.program.now) a.state.now a.out.now.guard a.field (expression_view a.i.now) k (expression_view a.e.now)) c.in-Put.is)) c.put_right.ensures.made c.put_right.ensures.light c.put_right.ensures.large in
    record { made = w.made; demands = c.put_right.ensures.demands; light = w.light; large = w.large }

pub returns-in_default : goal.returns-in_default
returns-in_default c =
    let a = c.args in
    let w = makes_as c.with_value.result (with_put a.op (term_at a.state.now.fields a.field.field) a.index (term_of (program_view a.program.now) a.state.now (expression_view a.e.now))) (array_term (program_view a.program.now) a.state.now a.field (expression_view a.i.now) a.op (expression_view a.e.now))
    (refused_value (program_view a.program.now) a.state.now a.out.now.guard a.field a.op a.index (expression_view a.e.now)) (refused_array (program_view a.program.now) a.state.now a.out.now.guard a.field (expression_view a.i.now) a.op (expression_view a.e.now))
    (array_made (program_view a.program.now) a.state.now a.out.now.guard a.field (expression_view a.i.now) a.index c.requires.index a.op c.in_default.not-Put (expression_view a.e.now)) (array_refused (program_view a.program.now) a.state.now a.out.now.guard a.field (expression_view a.i.now) a.index c.requires.index a.op c.in_default.not-Put (expression_view a.e.now)) c.with_value.ensures.made c.with_value.ensures.light c.with_value.ensures.large in
    record { made = w.made; demands = c.with_value.ensures.demands; light = w.light; large = w.large }
