use Rattle.std.proofs.Common.{sym, ap, ◌∙◌, subst}
use Rattle.std.specs.Prelude.{bit_or, reverse}
use Rattle.std.proofs.lemmas.List.{reverse-append}
use Rattle.ca_undo.specs.Olds.{Marks}
use Rattle.ca_undo.proofs.Marking.{marks_both}
use Rattle.ca_undo.proofs.olds.Olds.add_later.Goals as goal

pub invariant_of-self-2 : goal.invariant_of-self-2
invariant_of-self-2 c =
    let one = c.self.inside in
    let other = c.later.inside in
    subst (Marks (bit_or one.marks other.marks)) (sym (ap reverse c.in_ok-append.ensures.items ∙ reverse-append one.items.items other.items.items))
    (marks_both one.marks other.marks (reverse one.items.items) (reverse other.items.items) c.self.invariant c.later.invariant)
