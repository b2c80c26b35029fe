use Rattle.std.proofs.Common.{◌≡◌, ◌-◌, ◌<◌, sym, subst, length, arith}
use Rattle.std.proofs.lemmas.Bool.{eqb-true, eqb-false}
use Rattle.ca_descent.specs.Whole.{FirstWrong, FirstDeep}
use Rattle.ca_descent.proofs.Whole.{whole_got, whole_rest, whole_wrong, whole_deep}
use Rattle.ca_parse.specs.Grammar.{DerivesFree}
use Rattle.ca_parse.proofs.TextRules.{no_tokens, whole_all}
use Rattle.ca_parse.proofs.whole.parse.Goals as goal

pub returns-then-is_empty-clause-tree : goal.returns-then-is_empty-clause-tree
returns-then-is_empty-clause-tree c =
    whole_all c.in-Ok.ensures.answer (no_tokens c.in-Ok.rest.now (eqb-true _ 0 (sym c.if-is_empty.ensures))) (length c.args.tokens.now)

pub returns-then-is_empty-clause-within : goal.returns-then-is_empty-clause-within
returns-then-is_empty-clause-within c =
    whole_all c.in-Ok.ensures.answer (no_tokens c.in-Ok.rest.now (eqb-true _ 0 (sym c.if-is_empty.ensures))) 0

pub returns-then-is_empty-clause-only : goal.returns-then-is_empty-clause-only
returns-then-is_empty-clause-only c = λ free x d.
    let e = no_tokens c.in-Ok.rest.now (eqb-true _ 0 (sym c.if-is_empty.ensures)) in
    sym ((whole_got c.in-Ok.ensures.answer e (λ free s y d. d)).1 free x d)

pub returns-else-is_empty-clause-syntax : goal.returns-else-is_empty-clause-syntax
returns-else-is_empty-clause-syntax c = λ k e.
    let n = eqb-false _ 0 (sym c.if-is_empty.ensures) in
    let h : 0 < length c.in-Ok.rest.now = omega (arith, n) in
    let f : length c.args.tokens.now - length c.in-Ok.rest.now ≡ k = cc in
    subst (λ z. FirstWrong DerivesFree c.args.tokens.now z) f (whole_rest c.in-Ok.ensures.answer h (λ free s y d. d))

pub returns-in-Err-Wrong-clause-syntax : goal.returns-in-Err-Wrong-clause-syntax
returns-in-Err-Wrong-clause-syntax c = λ k e.
    let f : length c.args.tokens.now - length c.in-Err-Wrong.rest.now ≡ k = cc in
    subst (λ z. FirstWrong DerivesFree c.args.tokens.now z) f
    (whole_wrong (rw c.in-Err-Wrong.field-0-is at c.in-Err-Wrong.ensures.answer) (λ free s y d. d))

pub returns-in-Err-TooDeep-clause-deep : goal.returns-in-Err-TooDeep-clause-deep
returns-in-Err-TooDeep-clause-deep c = λ k e.
    let f : length c.args.tokens.now - length c.in-Err-TooDeep.rest.now ≡ k = cc in
    subst (λ z. FirstDeep DerivesFree c.args.tokens.now z) f
    (whole_deep (rw c.in-Err-TooDeep.field-0-is at c.in-Err-TooDeep.ensures.answer) (λ free s y d. d))
