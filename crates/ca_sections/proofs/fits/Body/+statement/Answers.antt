use Rattle.std.proofs.Common.{true, refl, ap, ◌∙◌, arith}
use Rattle.ca_program.specs.Plain.{new_field, new_item, new_local, print_value, put_field, put_item, invoke}
use Rattle.ca_program.specs.View.{expression_view, expressions_view, form_view, program_view, statement_view, statements_view}
use Rattle.ca_program.proofs.Rows.{block_is}
use Rattle.ca_code.specs.Seen.{kind_seen}
use Rattle.ca_code_laws.specs.Fitting.{FitsStatement, FitStatements}
use Rattle.ca_sections.specs.Fitting.{Finds, InvokesOn}
use Rattle.ca_sections.proofs.Testing.{as_well, both_find, found_as, if_acts, never, never_acts, refuted, statement_fits, statement_in, statements_fit}
use Rattle.ca_sections.proofs.fits.Body.+statement.Goals as goal

pub statement-returns-in-Block : goal.statement-returns-in-Block
statement-returns-in-Block t c =
    let p = program_view c.args.self.now.scope.program.now in
    let tys = c.args.self.now.scope.locals.now in
    let acts = c.args.self.now.acts in
    let kind = kind_seen c.args.self.now.result in
    let line = c.args.s.now.line in
    let ss : Finds c.statements.result (FitStatements p tys acts kind (statements_view c.in-Block.ss.items)) = rw c.as_slice.ensures.value at c.statements.ensures in
    found_as (FitsStatement p tys acts kind) c.statements.result _ _ (ap (λ k. form_view k line) c.in-Block.is ∙ block_is line c.in-Block.ss) ss

pub statement-returns-in-PutLocal : goal.statement-returns-in-PutLocal
statement-returns-in-PutLocal t c =
    let p = program_view c.args.self.now.scope.program.now in
    let tys = c.args.self.now.scope.locals.now in
    let acts = c.args.self.now.acts in
    let kind = kind_seen c.args.self.now.result in
    let line = c.args.s.now.line in
    found_as (FitsStatement p tys acts kind) c.put_local.result _ _ (ap (λ k. form_view k line) c.in-PutLocal.is) c.put_local.ensures

pub statement-returns-in-If : goal.statement-returns-in-If
statement-returns-in-If t c =
    let p = program_view c.args.self.now.scope.program.now in
    let tys = c.args.self.now.scope.locals.now in
    let acts = c.args.self.now.acts in
    let kind = kind_seen c.args.self.now.result in
    let line = c.args.s.now.line in
    let yes : Finds c.statement.result (FitsStatement p tys acts kind (statement_view c.in-If.yes.value)) = rw c.deref.ensures at c.statement.ensures in
    let no : Finds c.statement-in-If.result (FitsStatement p tys acts kind (statement_view c.in-If.no.value)) = rw c.deref-in-If.ensures at c.statement-in-If.ensures in
    found_as (FitsStatement p tys acts kind) _ _ _ (ap (λ k. form_view k line) c.in-If.is)
    (as_well _ (both_find _ _ (both_find _ _ c.reads.ensures yes) no) (λ h. (h.0.0.0, h.0.0.1, h.0.1, h.1)) (λ h. (((h.0, h.1), h.2), h.3)))

pub statement-returns-in-While : goal.statement-returns-in-While
statement-returns-in-While t c =
    let p = program_view c.args.self.now.scope.program.now in
    let tys = c.args.self.now.scope.locals.now in
    let acts = c.args.self.now.acts in
    let kind = kind_seen c.args.self.now.result in
    let line = c.args.s.now.line in
    let turn : Finds c.statement-in-While.result (FitsStatement p tys acts kind (statement_view c.in-While.turn.value)) = rw c.deref-in-While.ensures at c.statement-in-While.ensures in
    found_as (FitsStatement p tys acts kind) _ _ _ (ap (λ k. form_view k line) c.in-While.is)
    (as_well _ (both_find _ _ c.reads-in-While.ensures turn) (λ h. (h.0.0, h.0.1, h.1)) (λ h. ((h.0, h.1), h.2)))

pub statement-returns-in-For : goal.statement-returns-in-For
statement-returns-in-For t c =
    let p = program_view c.args.self.now.scope.program.now in
    let tys = c.args.self.now.scope.locals.now in
    let acts = c.args.self.now.acts in
    let kind = kind_seen c.args.self.now.result in
    let line = c.args.s.now.line in
    let first : Finds c.statement-in-For.result (FitsStatement p tys acts kind (statement_view c.in-For.first.value)) = rw c.deref-in-For.ensures at c.statement-in-For.ensures in
    let next : Finds c.statement-in-For-2.result (FitsStatement p tys acts kind (statement_view c.in-For.next.value)) = rw c.deref-in-For-2.ensures at c.statement-in-For-2.ensures in
    let turn : Finds c.statement-in-For-3.result (FitsStatement p tys acts kind (statement_view c.in-For.turn.value)) = rw c.deref-in-For-3.ensures at c.statement-in-For-3.ensures in
    found_as (FitsStatement p tys acts kind) _ _ _ (ap (λ k. form_view k line) c.in-For.is)
    (as_well _ (both_find _ _ (both_find _ _ (both_find _ _ first c.reads-in-For.ensures) next) turn) (λ h. (h.0.0.0, h.0.0.1.0, h.0.0.1.1, h.0.1, h.1)) (λ h. (((h.0, (h.1, h.2)), h.3), h.4)))

pub statement-returns-in-Return : goal.statement-returns-in-Return
statement-returns-in-Return t c =
    let p = program_view c.args.self.now.scope.program.now in
    let tys = c.args.self.now.scope.locals.now in
    let acts = c.args.self.now.acts in
    let kind = kind_seen c.args.self.now.result in
    let line = c.args.s.now.line in
    found_as (FitsStatement p tys acts kind) c.reads-in-Return.result _ _ (ap (λ k. form_view k line) c.in-Return.is) c.reads-in-Return.ensures

pub statement-returns-in-PutField : goal.statement-returns-in-PutField
statement-returns-in-PutField t c =
    let p = program_view c.args.self.now.scope.program.now in
    let tys = c.args.self.now.scope.locals.now in
    let acts = c.args.self.now.acts in
    let kind = kind_seen c.args.self.now.result in
    let line = c.args.s.now.line in
    found_as (FitsStatement p tys acts kind) _ _ _ (ap (λ k. form_view k line) c.in-PutField.is)
    (if_acts acts _ (λ b. FitsStatement p tys b kind (put_field line c.in-PutField.field-0 c.in-PutField.field-1 (expression_view c.in-PutField.e))) c.expression.ensures tt)

pub statement-returns-in-PutItem : goal.statement-returns-in-PutItem
statement-returns-in-PutItem t c =
    let p = program_view c.args.self.now.scope.program.now in
    let tys = c.args.self.now.scope.locals.now in
    let acts = c.args.self.now.acts in
    let kind = kind_seen c.args.self.now.result in
    let line = c.args.s.now.line in
    found_as (FitsStatement p tys acts kind) _ _ _ (ap (λ k. form_view k line) c.in-PutItem.is)
    (if_acts acts _ (λ b. FitsStatement p tys b kind (put_item line c.in-PutItem.field-0 (expression_view c.in-PutItem.i) c.in-PutItem.field-2 (expression_view c.in-PutItem.e))) (as_well _ (both_find _ _ c.reads-in-PutItem.ensures c.expression-in-PutItem.ensures) (λ h. (h.0.0, h.0.1, h.1)) (λ h. ((h.0, h.1), h.2))) tt)

pub statement-returns-in-Invoke : goal.statement-returns-in-Invoke
statement-returns-in-Invoke t c =
    let p = program_view c.args.self.now.scope.program.now in
    let tys = c.args.self.now.scope.locals.now in
    let acts = c.args.self.now.acts in
    let kind = kind_seen c.args.self.now.result in
    let line = c.args.s.now.line in
    let call : Finds c.invokes_on.result (InvokesOn p tys (expression_view c.in-Invoke.o) c.in-Invoke.op (expressions_view c.in-Invoke.es.items)) = rw c.as_slice-in-Invoke.ensures.value at c.invokes_on.ensures in
    found_as (FitsStatement p tys acts kind) _ _ _ (ap (λ k. form_view k line) c.in-Invoke.is)
    (if_acts acts _ (λ b. FitsStatement p tys b kind (invoke line (expression_view c.in-Invoke.o) c.in-Invoke.op (expressions_view c.in-Invoke.es.items))) call tt)

pub statement-returns-in-NewLocal : goal.statement-returns-in-NewLocal
statement-returns-in-NewLocal t c =
    let p = program_view c.args.self.now.scope.program.now in
    let tys = c.args.self.now.scope.locals.now in
    let acts = c.args.self.now.acts in
    let kind = kind_seen c.args.self.now.result in
    let line = c.args.s.now.line in
    found_as (FitsStatement p tys acts kind) _ _ _ (ap (λ k. form_view k line) c.in-NewLocal.is) (never_acts acts (λ b. FitsStatement p tys b kind (new_local line c.in-NewLocal.field-0 c.in-NewLocal.field-1)) (λ h. h) tt)

pub statement-returns-in-NewField : goal.statement-returns-in-NewField
statement-returns-in-NewField t c =
    let p = program_view c.args.self.now.scope.program.now in
    let tys = c.args.self.now.scope.locals.now in
    let acts = c.args.self.now.acts in
    let kind = kind_seen c.args.self.now.result in
    let line = c.args.s.now.line in
    found_as (FitsStatement p tys acts kind) _ _ _ (ap (λ k. form_view k line) c.in-NewField.is) (never_acts acts (λ b. FitsStatement p tys b kind (new_field line c.in-NewField.field-0 c.in-NewField.field-1)) (λ h. h) tt)

pub statement-returns-in-NewItem : goal.statement-returns-in-NewItem
statement-returns-in-NewItem t c =
    let p = program_view c.args.self.now.scope.program.now in
    let tys = c.args.self.now.scope.locals.now in
    let acts = c.args.self.now.acts in
    let kind = kind_seen c.args.self.now.result in
    let line = c.args.s.now.line in
    found_as (FitsStatement p tys acts kind) _ _ _ (ap (λ k. form_view k line) c.in-NewItem.is) (never_acts acts (λ b. FitsStatement p tys b kind (new_item line c.in-NewItem.field-0 (expression_view c.in-NewItem.field-1) c.in-NewItem.field-2)) (λ h. h) tt)

pub statement-returns-in-Print : goal.statement-returns-in-Print
statement-returns-in-Print t c =
    let p = program_view c.args.self.now.scope.program.now in
    let tys = c.args.self.now.scope.locals.now in
    let acts = c.args.self.now.acts in
    let kind = kind_seen c.args.self.now.result in
    let line = c.args.s.now.line in
    found_as (FitsStatement p tys acts kind) _ _ _ (ap (λ k. form_view k line) c.in-Print.is) (never_acts acts (λ b. FitsStatement p tys b kind (print_value line (expression_view c.in-Print.field-0))) (λ h. h) tt)

pub statements-statements-init : goal.statements-statements-init
statements-statements-init t c = λ fits. fits

pub statements-statements-preserved : goal.statements-statements-preserved
statements-statements-preserved t c =
    let p = program_view c.args.self.now.scope.program.now in
    let tys = c.args.self.now.scope.locals.now in
    statement_fits p tys c.args.self.now.acts (kind_seen c.args.self.now.result) c.args.ss.now c.statements.s-index c.s-item.result (omega arith) c.s-item.is (c.statement.ensures.0 c.if-not-statement.false) c.statements.invariant

pub statements-returns-then-not-statement : goal.statements-returns-then-not-statement
statements-returns-then-not-statement t c =
    let p = program_view c.args.self.now.scope.program.now in
    let tys = c.args.self.now.scope.locals.now in
    refuted (λ h. never (c.statement.ensures.1 (statement_in p tys c.args.self.now.acts (kind_seen c.args.self.now.result) c.args.ss.now c.statements.s-index c.s-item.result (omega arith) c.s-item.is h)) c.if-not-statement.true)

pub statements-returns : goal.statements-returns
statements-returns t c =
    let p = program_view c.args.self.now.scope.program.now in
    let tys = c.args.self.now.scope.locals.now in
    (λ ok. statements_fit p tys c.args.self.now.acts (kind_seen c.args.self.now.result) c.args.ss.now c.statements.s-index (omega arith) c.statements.invariant, λ h. refl)
