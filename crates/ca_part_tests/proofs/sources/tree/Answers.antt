use Rattle.std.proofs.Common.{sym, subst}
use Rattle.ca_tree.specs.declared.tree.Tree.{Tree}
use Rattle.ca_tree.specs.View.{tree_view}
use Rattle.ca_parse.specs.Grammar.{DerivesWithin}
use Rattle.ca_part_tests.proofs.sources.tree.Goals as goal

pub returns : goal.returns
returns g c =
    let tokens = c.tokens.result.now.items in
    let told : DerivesWithin tokens (tree_view c.expect.result) = rw c.deref.ensures.value at (rw c.expect.ensures at c.parse.ensures.within) in
    (c.tokens.ensures.0, tokens, c.tokens.ensures.1, subst (λ (t : Tree). DerivesWithin tokens (tree_view t)) (sym c.lent.ensures) told)
