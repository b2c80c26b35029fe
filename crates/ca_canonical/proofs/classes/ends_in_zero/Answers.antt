use Rattle.std.proofs.Common.{sym, ◌∙◌, ap}
use Rattle.std.proofs.lemmas.List.{drop_all}
use Rattle.ca_tree.specs.View.{statements_view}
use Rattle.ca_canonical.proofs.Ends.{zero_behind, all_behind}
use Rattle.ca_canonical.proofs.classes.ends_in_zero.Goals as goal

pub returns : goal.returns
returns c =
    let xs = c.args.items.now in
    let none = ap (λ z. zero_behind c.loop-s.last (statements_view z)) (drop_all c.loop-s.s-index xs c.loop-s-test.false) in
    sym (c.loop-s.invariant ∙ none) ∙ all_behind (statements_view xs)
