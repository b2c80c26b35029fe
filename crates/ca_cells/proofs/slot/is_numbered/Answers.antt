use Rattle.std.proofs.Common.{true≢false, sym, subst}
use Rattle.std.proofs.lemmas.Bool.{eqb-true}
use Rattle.ca_cells.specs.clauses.Shelves.{IsNumbered}
use Rattle.ca_cells.proofs.slot.is_numbered.Goals as goal

pub returns-in-Some : goal.returns-in-Some
returns-in-Some c = λ e. subst (IsNumbered c.args.number) (sym c.in-Some.is) (eqb-true _ _ e)

pub returns-in-None : goal.returns-in-None
returns-in-None c = λ e. absurd (true≢false (sym e))
