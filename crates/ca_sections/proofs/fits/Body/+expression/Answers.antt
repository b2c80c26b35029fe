use Rattle.std.proofs.Common.{◌≡◌, true, refl, sym, ap, ◌∙◌, arith}
use Rattle.ca_program.specs.Kinds.{as_long, as_pointer, as_truth, kind_of, kinds_in, unary_kind}
use Rattle.ca_program.specs.Layout.{is_lazy}
use Rattle.ca_program.specs.Plain.{value_call}
use Rattle.ca_program.specs.View.{expression_view, expressions_view, program_view}
use Rattle.ca_program.proofs.Rows.{row_is_list}
use Rattle.ca_code_laws.specs.Fitting.{FitAll, Fits}
use Rattle.ca_sections.specs.Fitting.{Calls, Finds, Reads}
use Rattle.ca_sections.proofs.Testing.{as_well, both_find, expression_fits, expression_in, expressions_fit, found_as, holds, never, refuted}
use Rattle.ca_sections.proofs.fits.Body.+expression.Goals as goal

pub expression-returns-in-Number : goal.expression-returns-in-Number
expression-returns-in-Number t c =
    let p = program_view c.args.self.now.scope.program.now in
    let tys = c.args.self.now.scope.locals.now in
    found_as (λ e. Fits p tys (expression_view e)) true _ _ c.in-Number.is (holds tt)

pub expression-returns-in-Truth : goal.expression-returns-in-Truth
expression-returns-in-Truth t c =
    let p = program_view c.args.self.now.scope.program.now in
    let tys = c.args.self.now.scope.locals.now in
    found_as (λ e. Fits p tys (expression_view e)) true _ _ c.in-Truth.is (holds tt)

pub expression-returns-in-Null : goal.expression-returns-in-Null
expression-returns-in-Null t c =
    let p = program_view c.args.self.now.scope.program.now in
    let tys = c.args.self.now.scope.locals.now in
    found_as (λ e. Fits p tys (expression_view e)) true _ _ c.in-Null.is (holds tt)

pub expression-returns-in-This : goal.expression-returns-in-This
expression-returns-in-This t c =
    let p = program_view c.args.self.now.scope.program.now in
    let tys = c.args.self.now.scope.locals.now in
    found_as (λ e. Fits p tys (expression_view e)) true _ _ c.in-This.is (holds tt)

pub expression-returns-in-Own : goal.expression-returns-in-Own
expression-returns-in-Own t c =
    let p = program_view c.args.self.now.scope.program.now in
    let tys = c.args.self.now.scope.locals.now in
    found_as (λ e. Fits p tys (expression_view e)) true _ _ c.in-Own.is (holds tt)

pub expression-returns-in-Local : goal.expression-returns-in-Local
expression-returns-in-Local t c =
    let p = program_view c.args.self.now.scope.program.now in
    let tys = c.args.self.now.scope.locals.now in
    found_as (λ e. Fits p tys (expression_view e)) c.has.result _ _ c.in-Local.is c.has.ensures

pub expression-returns-in-OwnItem : goal.expression-returns-in-OwnItem
expression-returns-in-OwnItem t c =
    let p = program_view c.args.self.now.scope.program.now in
    let tys = c.args.self.now.scope.locals.now in
    let i : Finds c.reads.result (Reads p tys as_long (expression_view c.in-OwnItem.i.value)) = rw c.deref.ensures at c.reads.ensures in
    found_as (λ e. Fits p tys (expression_view e)) c.reads.result _ _ c.in-OwnItem.is i

pub expression-returns-in-Read : goal.expression-returns-in-Read
expression-returns-in-Read t c =
    let p = program_view c.args.self.now.scope.program.now in
    let tys = c.args.self.now.scope.locals.now in
    let o : Finds c.reads-in-Read.result (Reads p tys as_pointer (expression_view c.in-Read.o.value)) = rw c.deref-in-Read.ensures at c.reads-in-Read.ensures in
    found_as (λ e. Fits p tys (expression_view e)) c.reads-in-Read.result _ _ c.in-Read.is o

pub expression-returns-in-ReadItem : goal.expression-returns-in-ReadItem
expression-returns-in-ReadItem t c =
    let p = program_view c.args.self.now.scope.program.now in
    let tys = c.args.self.now.scope.locals.now in
    let o : Finds c.reads-in-ReadItem.result (Reads p tys as_pointer (expression_view c.in-ReadItem.o.value)) = rw c.deref-in-ReadItem.ensures at c.reads-in-ReadItem.ensures in
    let i : Finds c.reads-in-ReadItem-2.result (Reads p tys as_long (expression_view c.in-ReadItem.i.value)) = rw c.deref-in-ReadItem-2.ensures at c.reads-in-ReadItem-2.ensures in
    found_as (λ e. Fits p tys (expression_view e)) _ _ _ c.in-ReadItem.is
    (as_well _ (both_find _ _ o i) (λ h. (h.0.0, h.1.0, h.0.1, h.1.1)) (λ h. ((h.0, h.2), (h.1, h.3))))

pub expression-returns-in-Value : goal.expression-returns-in-Value
expression-returns-in-Value t c =
    let p = program_view c.args.self.now.scope.program.now in
    let tys = c.args.self.now.scope.locals.now in
    let v = c.in-Value in
    let object = expression_view v.o.value in
    let all = expressions_view v.es.items in
    let is : expression_view c.args.e.now ≡ value_call object v.m all = ap expression_view v.is ∙ ap (λ z. value_call object v.m z) (row_is_list v.es) in
    let m : Finds c.calls.result (Calls p tys v.m all) = rw c.as_slice.ensures.value at c.calls.ensures in
    let o : Finds c.reads-in-Value.result (Reads p tys as_pointer object) = rw c.deref-in-Value.ensures at c.reads-in-Value.ensures in
    let es : Finds c.expressions.result (FitAll p tys all) = rw c.as_slice-in-Value.ensures.value at c.expressions.ensures in
    found_as (Fits p tys) _ _ _ is
    (as_well _ (both_find _ _ (both_find _ _ m o) es) (λ h. (h.0.1.0, h.0.0.0, h.0.0.1, h.0.1.1, h.1)) (λ h. (((h.1, h.2), (h.0, h.3)), h.4)))

pub expression-returns-in-Unary : goal.expression-returns-in-Unary
expression-returns-in-Unary t c =
    let p = program_view c.args.self.now.scope.program.now in
    let tys = c.args.self.now.scope.locals.now in
    let a : Finds c.reads-in-Unary.result (Reads p tys (unary_kind c.in-Unary.op) (expression_view c.in-Unary.a.value)) = rw (c.deref-in-Unary.ensures, c.unary_kind.ensures) at c.reads-in-Unary.ensures in
    found_as (λ e. Fits p tys (expression_view e)) c.reads-in-Unary.result _ _ c.in-Unary.is a

pub expression-returns-in-Binary : goal.expression-returns-in-Binary
expression-returns-in-Binary t c =
    let p = program_view c.args.self.now.scope.program.now in
    let tys = c.args.self.now.scope.locals.now in
    let left = expression_view c.in-Binary.a.value in
    let a : Finds c.left.result ((is_lazy c.in-Binary.op ≡ true → kind_of (kinds_in p tys) left ≡ as_truth) × Fits p tys left) = rw c.deref-in-Binary.ensures at c.left.ensures in
    let b : Finds c.expression.result (Fits p tys (expression_view c.in-Binary.b.value)) = rw c.deref-in-Binary-2.ensures at c.expression.ensures in
    found_as (λ e. Fits p tys (expression_view e)) _ _ _ c.in-Binary.is (as_well _ (both_find _ _ a b) (λ h. (h.0.0, h.0.1, h.1)) (λ h. ((h.0, h.1), h.2)))

pub reads-returns : goal.reads-returns
reads-returns t c = both_find c.is_of.result c.expression.result c.is_of.ensures c.expression.ensures

pub left-returns-then-is_lazy : goal.left-returns-then-is_lazy
left-returns-then-is_lazy t c =
    as_well c.reads.result c.reads.ensures (λ h. ((λ _. h.0), h.1)) (λ h. (h.0 (sym c.is_lazy.ensures ∙ c.if-is_lazy.true), h.1))

pub left-returns : goal.left-returns
left-returns t c =
    as_well c.expression.result c.expression.ensures (λ h. ((λ lazy. never lazy (sym c.is_lazy.ensures ∙ c.if-is_lazy.false)), h)) (λ h. h.1)

pub expressions-expressions-init : goal.expressions-expressions-init
expressions-expressions-init t c = λ fits. fits

pub expressions-expressions-preserved : goal.expressions-expressions-preserved
expressions-expressions-preserved t c =
    let p = program_view c.args.self.now.scope.program.now in
    let tys = c.args.self.now.scope.locals.now in
    expression_fits p tys c.args.es.now c.expressions.e-index c.e-item.result (omega arith) c.e-item.is (c.expression.ensures.0 c.if-not-expression.false) c.expressions.invariant

pub expressions-returns-then-not-expression : goal.expressions-returns-then-not-expression
expressions-returns-then-not-expression t c =
    let p = program_view c.args.self.now.scope.program.now in
    let tys = c.args.self.now.scope.locals.now in
    refuted (λ h. never (c.expression.ensures.1 (expression_in p tys c.args.es.now c.expressions.e-index c.e-item.result (omega arith) c.e-item.is h)) c.if-not-expression.true)

pub expressions-returns : goal.expressions-returns
expressions-returns t c =
    let p = program_view c.args.self.now.scope.program.now in
    let tys = c.args.self.now.scope.locals.now in
    (λ ok. expressions_fit p tys c.args.es.now c.expressions.e-index (omega arith) c.expressions.invariant, λ h. refl)
