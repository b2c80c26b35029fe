use Rattle.std.proofs.Common.{append-nil, refl}
use Rattle.ca_beside.specs.Beside.{present}
use Rattle.ca_cells.proofs.Begun.{one_stands}
use Rattle.ca_cells.proofs.Shelves.{none_out}
use Rattle.ca_cells.proofs.slot.begin.Goals as goal

pub returns-in-Ok-clause-out : goal.returns-in-Ok-clause-out
returns-in-Ok-clause-out c = none_out c.args.items.items c.args.items.items c.args.number refl c.requires.none c.requires.once

pub returns-in-Ok-clause-log : goal.returns-in-Ok-clause-log
returns-in-Ok-clause-log c = λ given history is stands. let h = c.in-Ok.ensures.log in one_stands given c.args.number (present c.args.heap.now c.args.beside.now) c.get.result.now c.in-Ok.log history is c.get.ensures h.0 h.1 h.2 stands

pub returns-in-Err-clause-back : goal.returns-in-Err-clause-back
returns-in-Err-clause-back c = append-nil c.args.items.items
