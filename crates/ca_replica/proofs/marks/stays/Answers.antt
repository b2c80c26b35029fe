use Rattle.std.proofs.Common.{sym, ◌∙◌}
use Rattle.ca_replica.proofs.InPlace.{else_class, unmarked}
use Rattle.ca_replica.proofs.marks.stays.Goals as goal

pub returns-in-Free : goal.returns-in-Free
returns-in-Free c = λ e m o there. unmarked c.args.extent.now.written c.args.marks.now c.args.field m (sym c.mark_of.ensures ∙ c.in-Free.is) o.class

pub returns-in-Of : goal.returns-in-Of
returns-in-Of c = λ e m o there. else_class c.args.extent.now.written c.args.marks.now c.args.field c.in-Of.class m (sym c.mark_of.ensures ∙ c.in-Of.is) o.class (c.is_else.ensures e o there)

pub returns-in-Several : goal.returns-in-Several
returns-in-Several c = λ e m o there. c.is_of_none.ensures e o there
