use Rattle.std.proofs.Common.{true≢false, sym, ◌∙◌}
use Rattle.ca_replica.proofs.InPlace.{marked_so, same_class}
use Rattle.ca_replica.proofs.marks.is_put_at_once.Goals as goal

pub returns-in-Free : goal.returns-in-Free
returns-in-Free c = λ e. absurd (true≢false (sym e))

pub returns-in-Of : goal.returns-in-Of
returns-in-Of c = λ e ws m.
    let g = c.args.field in
    same_class ws g c.in-Of.one c.args.class (c.is_same.ensures e) (marked_so ws c.args.marks.now g c.in-Of.one m (sym c.mark_of.ensures ∙ c.in-Of.is))

pub returns-in-Several : goal.returns-in-Several
returns-in-Several c = λ e. absurd (true≢false (sym e))
