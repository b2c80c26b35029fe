use Rattle.std.proofs.Common.{◌<◌, true, false, sym, ap, ◌∙◌, arith, rules, w64}
use mir.Val.{SFits}
use Rattle.std.proofs.lemmas.Int.{to_z-of_z}
use Rattle.ca_model.specs.declared.value.Value.TheVariants.{Long}
use Rattle.ca_undo.specs.Olds.{item_in}
use Rattle.ca_undo.proofs.Back.{found_first, other_kept, same_kept}
use Rattle.ca_undo.proofs.olds.Olds.keep_number.Goals as goal

pub returns-then-again : goal.returns-then-again
returns-then-again c =
    let low : c.args.field < 64 = omega arith in
    let found = found_first c.args.self.now c.args.field true low (sym c.has_first-again.ensures ∙ c.if-again.true) in
    record { keeps = λ e slots is. same_kept c.args.self.now slots c.args.field 0 found; kept = λ e. cc }

pub returns : goal.returns
returns c =
    let low : c.args.field < 64 = omega arith in
    let found = found_first c.args.self.now c.args.field false low (sym c.has_first-again.ensures ∙ c.if-again.false) in
    let small : SFits w64 c.args.old = search rules in
    let added = rw (to_z-of_z w64 c.args.old small) at c.add_first.ensures.added in
    record {
      keeps = λ e slots is. added e ∙ other_kept c.args.self.now slots c.args.field 0 (Long c.args.old) found (ap (λ s. item_in s 0) is);
      kept = c.add_first.ensures.kept;
    }
