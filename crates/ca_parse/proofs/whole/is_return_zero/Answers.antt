use Rattle.std.proofs.Common.{◌≡◌, sym, ◌∙◌, ap}
use Rattle.ca_parse.proofs.TextRules.{not_return, zero_wanted, zero_number, end_wanted, return_read}
use Rattle.ca_parse.specs.Grammar.{is_return_zero, read}
use Rattle.ca_parse.proofs.whole.is_return_zero.Goals as goal

pub returns-in_default : goal.returns-in_default
returns-in_default c =
    let e : read c.args.tokens.now c.args.rest.now ≡ c.split_at.result.0.now = sym c.split_at.ensures.front in sym (ap is_return_zero e ∙ not_return c.split_at.result.0.now c.in_default.ensures.none)

pub returns-then-not-is_zero : goal.returns-then-not-is_zero
returns-then-not-is_zero c =
    let e : read c.args.tokens.now c.args.rest.now ≡ c.split_at.result.0.now = sym c.split_at.ensures.front in sym (ap is_return_zero e ∙ zero_wanted c.in-Some.ensures.some (sym c.is_zero.ensures ∙ c.if-not-is_zero.true))

pub returns-in_default-number_at : goal.returns-in_default-number_at
returns-in_default-number_at c =
    let f = zero_number c.in-Some.value.now c.in_default-number_at.ensures.none in let g = sym c.is_zero.ensures ∙ c.if-not-is_zero.false in absurd cc

pub returns-in_default-sign_at : goal.returns-in_default-sign_at
returns-in_default-sign_at c =
    let e : read c.args.tokens.now c.args.rest.now ≡ c.split_at.result.0.now = sym c.split_at.ensures.front in sym (ap is_return_zero e ∙ end_wanted c.in-Some.ensures.some c.in-Some-number_at.ensures.some c.in_default-sign_at.ensures.none)

pub returns : goal.returns
returns c =
    let e : read c.args.tokens.now c.args.rest.now ≡ c.split_at.result.0.now = sym c.split_at.ensures.front in c.is_empty.ensures ∙ sym (ap is_return_zero e ∙ return_read c.in-Some.ensures.some (sym c.is_zero.ensures ∙ c.if-not-is_zero.false) c.in-Some-number_at.ensures.some c.in-Some-sign_at.ensures.some)
