use Rattle.std.proofs.Common.{◌≡◌, ap, ◌∙◌}
use Rattle.ca_tree.specs.declared.tree.AssignOp.TheVariants.{Put, Add, Sub}
use Rattle.ca_tree.specs.declared.tree.BinaryOp.{BinaryOp}
use Rattle.ca_tree.specs.declared.tree.BinaryOp.TheVariants.{Plus, Minus}
use Rattle.ca_program.specs.Plain.{binary}
use Rattle.ca_program.specs.View.{expression_view, program_view}
use Rattle.ca_symbolic.specs.States.{term_at}
use Rattle.ca_symbolic.specs.Execution.{term_of, put_right}
use Rattle.ca_symbolic.specs.Demands.{demands_in}
use Rattle.ca_symbolic.specs.clauses.Refusals.{with_put, refused_value, put_sum, refused_sum, refused_right}
use Rattle.ca_symbolic.proofs.Making.{makes_as}
use Rattle.ca_symbolic.proofs.Summing.{plus_made, plus_refused, minus_made, minus_refused, operator_made, operator_refused}
use Rattle.ca_symbolic.proofs.puts.put_operation.Goals as goal

pub put_sum-requires : goal.put_sum-requires
put_sum-requires c =
    let a = c.args in
    let whole : expression_view a.e.now ≡ binary Plus (expression_view a.a.now) (expression_view a.b.now) = c.requires.whole ∙ ap (λ (o : BinaryOp). binary o (expression_view a.a.now) (expression_view a.b.now)) c.in-Plus.is in
    record { whole = λ g. ap (demands_in (program_view a.program.now) a.state.now g) whole }

pub returns-in-Plus : goal.returns-in-Plus
returns-in-Plus c =
    let a = c.args in
    let whole : expression_view a.e.now ≡ binary Plus (expression_view a.a.now) (expression_view a.b.now) = c.requires.whole ∙ ap (λ (o : BinaryOp). binary o (expression_view a.a.now) (expression_view a.b.now)) c.in-Plus.is in
    let w = makes_as c.put_sum.result (put_sum (program_view a.program.now) a.state.now a.field (expression_view a.i.now) Add a.index (expression_view a.a.now) (expression_view a.b.now) (expression_view a.e.now)) (put_right (program_view a.program.now) a.state.now a.field (expression_view a.i.now) (expression_view a.e.now))
    (refused_sum (program_view a.program.now) a.state.now a.out.now.guard a.field (expression_view a.i.now) Add a.index (expression_view a.a.now) (expression_view a.b.now) (expression_view a.e.now)) (refused_right (program_view a.program.now) a.state.now a.out.now.guard a.field (expression_view a.i.now) (expression_view a.e.now))
    (plus_made (program_view a.program.now) a.state.now a.out.now.guard a.field (expression_view a.i.now) a.index c.requires.index (expression_view a.a.now) (expression_view a.b.now) (expression_view a.e.now) whole) (plus_refused (program_view a.program.now) a.state.now a.out.now.guard a.field (expression_view a.i.now) a.index c.requires.index (expression_view a.a.now) (expression_view a.b.now) (expression_view a.e.now) whole) c.put_sum.ensures.made c.put_sum.ensures.light c.put_sum.ensures.large in
    record { made = w.made; demands = c.put_sum.ensures.demands; light = w.light; large = w.large }

pub put_sum-requires-in-Minus : goal.put_sum-requires-in-Minus
put_sum-requires-in-Minus c =
    let a = c.args in
    let whole : expression_view a.e.now ≡ binary Minus (expression_view a.a.now) (expression_view a.b.now) = c.requires.whole ∙ ap (λ (o : BinaryOp). binary o (expression_view a.a.now) (expression_view a.b.now)) c.in-Minus.is in
    record { whole = λ g. ap (demands_in (program_view a.program.now) a.state.now g) whole }

pub returns-in-Minus : goal.returns-in-Minus
returns-in-Minus c =
    let a = c.args in
    let whole : expression_view a.e.now ≡ binary Minus (expression_view a.a.now) (expression_view a.b.now) = c.requires.whole ∙ ap (λ (o : BinaryOp). binary o (expression_view a.a.now) (expression_view a.b.now)) c.in-Minus.is in
    let w = makes_as c.put_sum-in-Minus.result (put_sum (program_view a.program.now) a.state.now a.field (expression_view a.i.now) Sub a.index (expression_view a.a.now) (expression_view a.b.now) (expression_view a.e.now)) (put_right (program_view a.program.now) a.state.now a.field (expression_view a.i.now) (expression_view a.e.now))
    (refused_sum (program_view a.program.now) a.state.now a.out.now.guard a.field (expression_view a.i.now) Sub a.index (expression_view a.a.now) (expression_view a.b.now) (expression_view a.e.now)) (refused_right (program_view a.program.now) a.state.now a.out.now.guard a.field (expression_view a.i.now) (expression_view a.e.now))
    (minus_made (program_view a.program.now) a.state.now a.out.now.guard a.field (expression_view a.i.now) a.index c.requires.index (expression_view a.a.now) (expression_view a.b.now) (expression_view a.e.now) whole) (minus_refused (program_view a.program.now) a.state.now a.out.now.guard a.field (expression_view a.i.now) a.index c.requires.index (expression_view a.a.now) (expression_view a.b.now) (expression_view a.e.now) whole) c.put_sum-in-Minus.ensures.made c.put_sum-in-Minus.ensures.light c.put_sum-in-Minus.ensures.large in
    record { made = w.made; demands = c.put_sum-in-Minus.ensures.demands; light = w.light; large = w.large }

pub returns-in_default : goal.returns-in_default
returns-in_default c =
    let a = c.args in
    let w = makes_as c.with_value.result (with_put Put (term_at a.state.now.fields a.field.field) a.index (term_of (program_view a.program.now) a.state.now (expression_view a.e.now))) (put_right (program_view a.program.now) a.state.now a.field (expression_view a.i.now) (expression_view a.e.now))
    (refused_value (program_view a.program.now) a.state.now a.out.now.guard a.field Put a.index (expression_view a.e.now)) (refused_right (program_view a.program.now) a.state.now a.out.now.guard a.field (expression_view a.i.now) (expression_view a.e.now))
    (operator_made (program_view a.program.now) a.state.now a.out.now.guard a.field (expression_view a.i.now) a.index c.requires.index (expression_view a.a.now) (expression_view a.b.now) (expression_view a.e.now) a.op c.in_default.not-Plus c.in_default.not-Minus c.requires.whole)
    (operator_refused (program_view a.program.now) a.state.now a.out.now.guard a.field (expression_view a.i.now) a.index c.requires.index (expression_view a.a.now) (expression_view a.b.now) (expression_view a.e.now) a.op c.in_default.not-Plus c.in_default.not-Minus c.requires.whole) c.with_value.ensures.made c.with_value.ensures.light c.with_value.ensures.large in
    record { made = w.made; demands = c.with_value.ensures.demands; light = w.light; large = w.large }
