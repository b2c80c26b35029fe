use Rattle.std.proofs.Common.{◌++◌, Option, option_to_list, sym, subst}
use Rattle.ca_logs.specs.declared.log.CellLog.{CellLog}
use Rattle.ca_cells.specs.clauses.Rule.{Stands}
use Rattle.ca_cells.specs.clauses.Shelves.{AreOnce, IsNumbered, Without, found}
use Rattle.ca_cells.specs.declared.slot.Held.{Held}
use Rattle.ca_cells.proofs.Shelves.{last_out, last_found}
use Rattle.ca_cells.proofs.slot.take_last.Goals as goal

pub returns-clause-out : goal.returns-clause-out
returns-clause-out c =
    let is = c.in-Some.is in
    subst (λ (o : Option Held). Without (c.args.others.items ++ option_to_list o) c.args._number c.args.others.items) (sym is)
    (last_out c.args.others.items c.in-Some.held c.args._number (subst (IsNumbered c.args._number) is c.requires.mine) (subst (λ (o : Option Held). AreOnce (c.args.others.items ++ option_to_list o)) is c.requires.once))

pub returns-clause-log : goal.returns-clause-log
returns-clause-log c = λ given history stands.
    let is = c.in-Some.is in
    subst (λ (k : Option CellLog). Stands given c.args._number k history)
    (last_found c.args.others.items c.in-Some.held c.args._number (subst (IsNumbered c.args._number) is c.requires.mine) (subst (λ (o : Option Held). AreOnce (c.args.others.items ++ option_to_list o)) is c.requires.once))
    (subst (λ (o : Option Held). Stands given c.args._number (found (c.args.others.items ++ option_to_list o) c.args._number) history) is stands)

pub unreachable-requires : goal.unreachable-requires
unreachable-requires c = subst (IsNumbered c.args._number) c.in-None.is c.requires.mine
