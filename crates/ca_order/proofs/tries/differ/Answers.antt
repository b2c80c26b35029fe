use Rattle.std.proofs.Common.{sym, ◌∙◌}
use Rattle.ca_order.proofs.tries.differ.Goals as goal

pub returns-in-Some : goal.returns-in-Some
returns-in-Some c =
    let first = rw c.in-Some.is at c.in_ok-forms.ensures.first in
    let second = rw c.in-Some.is at c.in_ok-forms.ensures.second in
    let apart = rw c.in-Some.is at c.in_ok-forms.ensures.differ in
    λ yes e. apart (first ∙ e ∙ sym second)
