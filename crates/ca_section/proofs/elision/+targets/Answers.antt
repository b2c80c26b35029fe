use Rattle.std.proofs.Common.{◌≡◌, true, ◌++◌, sym, ap, ◌∙◌, subst}
use Rattle.ca_program.specs.View.{form_view, statement_view}
use Rattle.ca_parallel.specs.Bodies.{targets_of}
use Rattle.ca_section.specs.TakesLock.{holds_target}
use Rattle.ca_section.proofs.HeldCalls.{block_view, held_first, held_second}
use Rattle.ca_section.proofs.elision.+targets.Goals as goal

pub holds_target-returns-in-Block : goal.holds_target-returns-in-Block
holds_target-returns-in-Block t c = subst (λ x. c.hold_target.result ≡ holds_target x) (sym (block_view c.args.s.now c.in-Block.stmts c.in-Block.is)) (rw c.deref.ensures.value at c.hold_target.ensures)

pub holds_target-returns-then-holds_target : goal.holds_target-returns-then-holds_target
holds_target-returns-then-holds_target t c =
    c.if-holds_target.true ∙ subst (λ x. true ≡ holds_target x) (sym (ap (λ k. form_view k c.args.s.now.line) c.in-If.is))
    (held_first (targets_of (statement_view c.in-If.yes.value)) (targets_of (statement_view c.in-If.no.value)) (sym (rw c.deref-in-If.ensures at c.holds_target.ensures) ∙ c.if-holds_target.true))

pub holds_target-returns-else-holds_target : goal.holds_target-returns-else-holds_target
holds_target-returns-else-holds_target t c =
    subst (λ x. c.holds_target-else-holds_target.result ≡ holds_target x) (sym (ap (λ k. form_view k c.args.s.now.line) c.in-If.is))
    (held_second (targets_of (statement_view c.in-If.yes.value)) (targets_of (statement_view c.in-If.no.value)) _ (sym (rw c.deref-in-If.ensures at c.holds_target.ensures) ∙ c.if-holds_target.false)
    (rw c.deref-else-holds_target.ensures at c.holds_target-else-holds_target.ensures))

pub holds_target-returns-in-While : goal.holds_target-returns-in-While
holds_target-returns-in-While t c =
    subst (λ x. c.holds_target-in-While.result ≡ holds_target x) (sym (ap (λ k. form_view k c.args.s.now.line) c.in-While.is)) (rw c.deref-in-While.ensures at c.holds_target-in-While.ensures)

pub holds_target-returns-then-holds_target-2 : goal.holds_target-returns-then-holds_target-2
holds_target-returns-then-holds_target-2 t c =
    let x = targets_of (statement_view c.in-For.first.value) in
    let y = targets_of (statement_view c.in-For.next.value) in
    let z = targets_of (statement_view c.in-For.body.value) in
    c.if-holds_target-2.true ∙ subst (λ x. true ≡ holds_target x) (sym (ap (λ k. form_view k c.args.s.now.line) c.in-For.is))
    (held_first x (y ++ z) (sym (rw c.deref-in-For.ensures at c.holds_target-in-For.ensures) ∙ c.if-holds_target-2.true))

pub holds_target-returns-then-holds_target-3 : goal.holds_target-returns-then-holds_target-3
holds_target-returns-then-holds_target-3 t c =
    let x = targets_of (statement_view c.in-For.first.value) in
    let y = targets_of (statement_view c.in-For.next.value) in
    let z = targets_of (statement_view c.in-For.body.value) in
    c.if-holds_target-3.true ∙ subst (λ x. true ≡ holds_target x) (sym (ap (λ k. form_view k c.args.s.now.line) c.in-For.is))
    (held_second x (y ++ z) _ (sym (rw c.deref-in-For.ensures at c.holds_target-in-For.ensures) ∙ c.if-holds_target-2.false)
    (held_first y z (sym (rw c.deref-else-holds_target-2.ensures at c.holds_target-else-holds_target-2.ensures) ∙ c.if-holds_target-3.true)))

pub holds_target-returns-else-holds_target-3 : goal.holds_target-returns-else-holds_target-3
holds_target-returns-else-holds_target-3 t c =
    let x = targets_of (statement_view c.in-For.first.value) in
    let y = targets_of (statement_view c.in-For.next.value) in
    let z = targets_of (statement_view c.in-For.body.value) in
    subst (λ x. c.holds_target-else-holds_target-3.result ≡ holds_target x) (sym (ap (λ k. form_view k c.args.s.now.line) c.in-For.is))
    (held_second x (y ++ z) _ (sym (rw c.deref-in-For.ensures at c.holds_target-in-For.ensures) ∙ c.if-holds_target-2.false)
    (held_second y z _ (sym (rw c.deref-else-holds_target-2.ensures at c.holds_target-else-holds_target-2.ensures) ∙ c.if-holds_target-3.false)
    (rw c.deref-else-holds_target-3.ensures at c.holds_target-else-holds_target-3.ensures)))
