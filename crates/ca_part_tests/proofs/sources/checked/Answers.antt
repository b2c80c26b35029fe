use Rattle.std.proofs.Common.{◌≡◌, sym, subst}
use Rattle.ca_tree.specs.View.{tree_view}
use Rattle.ca_program.specs.declared.program.Program.{Program}
use Rattle.ca_program.specs.View.{program_view}
use Rattle.ca_resolve.specs.Judged.{fine}
use Rattle.ca_types.specs.Classes.{judge}
use Rattle.ca_part_tests.proofs.sources.checked.Goals as goal

pub returns : goal.returns
returns g c = subst (λ (p : Program). judge (tree_view c.args.tree.now) ≡ fine (program_view p)) (sym c.lent.ensures) (rw c.expect.ensures at c.check.ensures.resolved)
