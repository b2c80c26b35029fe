use Rattle.std.proofs.Common.{◌∷◌, [], refl, ap, ◌∙◌, arith}
use Rattle.ca_tree.specs.View.{form_view, statement_view, statements_view}
use Rattle.ca_tree.proofs.Rows.{block_is}
use Rattle.ca_extent.proofs.Walks.{one_more, none_left, both_found, found_at}
use Rattle.ca_emit.specs.Annotations.{sites_of, sites_of_all}
use Rattle.ca_emit.proofs.sites.+sites.Goals as goal

pub add_sites-returns-in-Block : goal.add_sites-returns-in-Block
add_sites-returns-in-Block t c =
    found_at sites_of _ _ _ (statement_view c.args.s.now) _ (ap (λ k. form_view k c.args.s.now.at) c.in-Block.is ∙ block_is c.args.s.now.at c.in-Block.stmts)
    (rw c.deref.ensures.value at c.add_all_sites.ensures)

pub add_sites-returns-in-For : goal.add_sites-returns-in-For
add_sites-returns-in-For t c =
    found_at sites_of _ _ _ (statement_view c.args.s.now) _ (ap (λ k. form_view k c.args.s.now.at) c.in-For.is)
    (both_found _ _ _ _ _ _ (c.args.s.now.at ∷ []) (sites_of (statement_view c.in-For.body.value))
    c.add_site-in-For.ensures (rw c.deref-in-For.ensures at c.add_sites-in-For.ensures) c.and.ensures)

pub add_all_sites-statements-preserved : goal.add_all_sites-statements-preserved
add_all_sites-statements-preserved t c = one_more (λ s. sites_of (statement_view s)) (λ ss. sites_of_all (statements_view ss)) (λ s ss. refl) c.args.stmts.now c.statements.s-index c.s-item.result (omega arith) c.s-item.is _ _ _ c.statements.invariant c.in_ok-add_sites.ensures

pub add_all_sites-returns : goal.add_all_sites-returns
add_all_sites-returns t c = none_left (λ ss. sites_of_all (statements_view ss)) refl c.args.stmts.now c.statements.s-index (omega arith) _ _ c.statements.invariant
