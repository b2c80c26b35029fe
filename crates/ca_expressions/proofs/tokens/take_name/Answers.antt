use Rattle.std.proofs.Common.{[], sym, ◌∙◌, ap, Some, arith}
use Rattle.ca_descent.proofs.Exact.{sees_got, sees_wrong}
use Rattle.ca_expressions.specs.Terminals.{name, name_of}
use Rattle.ca_tree.specs.declared.token.Kind.TheVariants.{Word}
use Rattle.ca_expressions.proofs.Terminals.{name_sees, token}
use Rattle.ca_expressions.proofs.Fronts.{front_sees, front_is, empty_is, not_word}
use Rattle.ca_expressions.proofs.tokens.take_name.Goals as goal

pub returns-in_default-clause-answer : goal.returns-in_default-clause-answer
returns-in_default-clause-answer c = (sees_wrong name {t = token (Word [])} name_sees (empty_is name c.args.tokens.now (omega (arith, c.in_default.len_below))))

pub returns-in_default-kind-clause-answer : goal.returns-in_default-kind-clause-answer
returns-in_default-kind-clause-answer c =
    let t = c.token-item.result in
    (sees_wrong name {t = token (Word [])} name_sees
    (front_is name _ t c.in-len1-up.len_at_least c.token-item.is ∙ not_word t.kind t.at c.in_default-kind.not-Word))

pub returns-clause-answer : goal.returns-clause-answer
returns-clause-answer c =
    let t = c.token-item.result in
    (sees_got
    (front_sees name _ t (c.in_ok-name.name, t.at) c.in-len1-up.len_at_least c.token-item.is
    (ap (λ z. name_of z t.at) c.in-Word.is ∙ ap (λ z. Some (z, t.at)) (sym c.in_ok-name.ensures))))
