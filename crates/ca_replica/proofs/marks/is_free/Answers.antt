use Rattle.std.proofs.Common.{true≢false, sym, ◌∙◌}
use Rattle.ca_replica.proofs.InPlace.{else_class, unmarked}
use Rattle.ca_replica.proofs.marks.is_free.Goals as goal

pub returns-in-Free : goal.returns-in-Free
returns-in-Free c = λ e ws m. unmarked ws c.args.marks.now c.args.field m (sym c.mark_of.ensures ∙ c.in-Free.is) c.args.class

pub returns-in-Of : goal.returns-in-Of
returns-in-Of c = λ e ws m. else_class ws c.args.marks.now c.args.field c.in-Of.one m (sym c.mark_of.ensures ∙ c.in-Of.is) c.args.class (c.is_other.ensures e)

pub returns-in-Several : goal.returns-in-Several
returns-in-Several c = λ e. absurd (true≢false (sym e))
