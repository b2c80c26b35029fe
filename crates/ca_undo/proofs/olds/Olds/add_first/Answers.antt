use Rattle.std.proofs.Common.{[], ◌∷◌, sym, ap, ◌∙◌, subst}
use Rattle.std.specs.Prelude.{◌*◌, ◌^◌, ◌%◌, bit_or, reverse}
use Rattle.std.proofs.lemmas.List.{reverse-append}
use Rattle.ca_undo.specs.Olds.{Marks}
use Rattle.ca_undo.proofs.Marking.{marks_added}
use Rattle.ca_undo.proofs.olds.Olds.add_first.Goals as goal

pub invariant_of-self : goal.invariant_of-self
invariant_of-self c =
    let had = c.self.inside in
    let old = c.args.old in
    subst (Marks (bit_or had.marks (1 * 2 ^ old.field % 2 ^ 64))) (sym (ap reverse c.push_reserved.ensures.items ∙ reverse-append had.items.items (old ∷ [])))
    (marks_added had.marks old (reverse had.items.items) c.requires.field c.requires.first c.self.invariant)
