use Rattle.std.proofs.Common.{sym, ◌∙◌}
use Rattle.ca_norm.specs.Terms.{shape}
use Rattle.ca_order.proofs.Coming.{long_norm}
use Rattle.ca_order.proofs.shortcuts.long_form.Goals as goal

pub returns-in-Some : goal.returns-in-Some
returns-in-Some c =
    long_norm c.args.places.now (shape c.args.term.now) c.in-Some.form.now (sym c.sort.ensures ∙ c.in-Long.is) (rw c.in-Some.is at c.known_form.ensures)
