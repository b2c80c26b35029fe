use Rattle.std.proofs.Common.{sym, ap, subst}
use Rattle.ca_program.specs.View.{program_view, form_view}
use Rattle.ca_program.specs.Kinds.{kinds_in}
use Rattle.ca_program.specs.Instructions.{on, PutField, PutItem, CheckItem, NewItem, Print}
use Rattle.ca_program.specs.Layout.{all_acts}
use Rattle.ca_code.specs.Laying.{Adds}
use Rattle.ca_code.proofs.Laying.{then, stopped}
use Rattle.ca_code.proofs.Operands.{row_is}
use Rattle.ca_code.proofs.scope.Scope.act.Goals as goal

pub returns-then-top-ge-MOST_SLOTS : goal.returns-then-top-ge-MOST_SLOTS
returns-then-top-ge-MOST_SLOTS c = stopped c.fail.ensures

pub returns-in-PutField : goal.returns-in-PutField
returns-in-PutField c =
    let ks = kinds_in (program_view c.args.self.now.program.now) c.args.self.now.locals.now in
    subst (λ s. Adds c.args.rows.now c.push.new.self (all_acts ks c.args.line s c.args.top)) (sym (ap (λ k. form_view k c.args.s.now.line) c.in-PutField.is))
    (then c.operand.ensures (row_is (λ j. on c.args.line (PutField c.in-PutField.f c.in-PutField.op (c.kind_of.ensures j) (c.stands.ensures j))) c.push.ensures))

pub returns-in-PutItem : goal.returns-in-PutItem
returns-in-PutItem c =
    let ks = kinds_in (program_view c.args.self.now.program.now) c.args.self.now.locals.now in
    subst (λ s. Adds c.args.rows.now c.push-in-PutItem-2.new.self (all_acts ks c.args.line s c.args.top)) (sym (ap (λ k. form_view k c.args.s.now.line) c.in-PutItem.is))
    (then c.operand-in-PutItem.ensures
    (then (row_is (λ j. on c.args.line (CheckItem c.in-PutItem.f (c.stands-index.ensures j))) c.push-in-PutItem.ensures)
    (then c.operand-in-PutItem-2.ensures
    (row_is (λ j. on c.args.line (PutItem c.in-PutItem.f (c.stands-index.ensures j) c.in-PutItem.op (c.kind_of-in-PutItem.ensures j) (c.stands-right.ensures j))) c.push-in-PutItem-2.ensures))))

pub returns-in-NewItem : goal.returns-in-NewItem
returns-in-NewItem c =
    let ks = kinds_in (program_view c.args.self.now.program.now) c.args.self.now.locals.now in
    subst (λ s. Adds c.args.rows.now c.push-in-NewItem.new.self (all_acts ks c.args.line s c.args.top)) (sym (ap (λ k. form_view k c.args.s.now.line) c.in-NewItem.is))
    (then c.operand-in-NewItem.ensures (row_is (λ j. on c.args.line (NewItem c.in-NewItem.f (c.stands-in-NewItem.ensures j) c.in-NewItem.c)) c.push-in-NewItem.ensures))

pub returns-in-Print : goal.returns-in-Print
returns-in-Print c =
    let ks = kinds_in (program_view c.args.self.now.program.now) c.args.self.now.locals.now in
    subst (λ s. Adds c.args.rows.now c.push-in-Print.new.self (all_acts ks c.args.line s c.args.top)) (sym (ap (λ k. form_view k c.args.s.now.line) c.in-Print.is))
    (then c.operand-in-Print.ensures (row_is (λ j. on c.args.line (Print (c.kind_of-in-Print.ensures j) (c.stands-in-Print.ensures j))) c.push-in-Print.ensures))

pub returns-in-Invoke : goal.returns-in-Invoke
returns-in-Invoke c =
    let ks = kinds_in (program_view c.args.self.now.program.now) c.args.self.now.locals.now in
    subst (λ s. Adds c.args.rows.now c.push-in-Invoke.new.self (all_acts ks c.args.line s c.args.top)) (sym (ap (λ k. form_view k c.args.s.now.line) c.in-Invoke.is))
    (then c.expression.ensures (then (rw c.deref.ensures.value at c.expressions.ensures) c.push-in-Invoke.ensures))
