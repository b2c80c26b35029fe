use Rattle.std.proofs.Common.{ap, sym, subst, ◌∙◌}
use Rattle.ca_program.specs.View.{form_view, program_view}
use Rattle.ca_program.specs.Kinds.{kinds_in}
use Rattle.ca_program.specs.Instructions.{on, Hand, Heed}
use Rattle.ca_parallel.specs.Lists.{either}
use Rattle.ca_code.specs.Laying.{Adds}
use Rattle.ca_code.proofs.Laying.{then, stopped}
use Rattle.ca_code.proofs.Operands.{row_is}
use Rattle.ca_code_laws.specs.Heeding.{heed_acts}
use Rattle.ca_serial.proofs.Laid.{other_act}
use Rattle.ca_serial.proofs.heeding.HeedingBodiesBodies.act.Goals as goal

pub returns-then-top-ge-MOST_SLOTS : goal.returns-then-top-ge-MOST_SLOTS
returns-then-top-ge-MOST_SLOTS c = stopped c.fail.ensures

pub returns-then-holds : goal.returns-then-holds
returns-then-holds c =
    let ks = kinds_in (program_view c.args.scope.now.program.now) c.args.scope.now.locals.now in
    let marks = c.args.self.now.marked in
    subst (λ s. Adds c.args.rows.now c.push.new.self (heed_acts marks ks c.args.line s c.args.top)) (sym (ap (λ k. form_view k c.args.s.now.line) c.in-Invoke.is))
    (then c.expression.ensures (then (rw c.deref.ensures.value at c.expressions.ensures)
    (row_is (ap (λ b. on c.args.line (either b (Hand c.in-Invoke.op c.args.top) (Heed c.in-Invoke.op c.args.top))) (sym c.if-holds.true ∙ c.holds.ensures)) c.push.ensures)))

pub returns-else-holds : goal.returns-else-holds
returns-else-holds c =
    let ks = kinds_in (program_view c.args.scope.now.program.now) c.args.scope.now.locals.now in
    let marks = c.args.self.now.marked in
    subst (λ s. Adds c.args.rows.now c.push-else-holds.new.self (heed_acts marks ks c.args.line s c.args.top)) (sym (ap (λ k. form_view k c.args.s.now.line) c.in-Invoke.is))
    (then c.expression.ensures (then (rw c.deref.ensures.value at c.expressions.ensures)
    (row_is (ap (λ b. on c.args.line (either b (Hand c.in-Invoke.op c.args.top) (Heed c.in-Invoke.op c.args.top))) (sym c.if-holds.false ∙ c.holds.ensures)) c.push-else-holds.ensures)))

pub returns-in_default : goal.returns-in_default
returns-in_default c =
    let ks = kinds_in (program_view c.args.scope.now.program.now) c.args.scope.now.locals.now in
    subst (λ code. Adds c.args.rows.now c.act.new.rows code) (other_act c.args.self.now.marked ks c.args.line c.args.top c.args.s.now.kind c.args.s.now.line c.in_default.not-Invoke) c.act.ensures
