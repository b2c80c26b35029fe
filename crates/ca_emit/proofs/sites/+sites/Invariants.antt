use Rattle.std.proofs.Common.{◌≡◌, ◌++◌, drop}
use Rattle.ca_tree.specs.View.{statements_view}
use Rattle.ca_emit.specs.Annotations.{sites_of_all}
use Rattle.ca_emit.proofs.sites.+sites.Given as goal

abbrev pub invariant-add_all_sites-statements : goal.invariant-add_all_sites-statements
invariant-add_all_sites-statements l = l.out.items ++ sites_of_all (statements_view (drop l.s-index l.stmts)) ≡ l.initial.out.items ++ sites_of_all (statements_view l.stmts)
