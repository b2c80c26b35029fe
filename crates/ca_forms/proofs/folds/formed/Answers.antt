use Rattle.std.proofs.Common.{◌≡◌, false, length, sym, ap, ◌∙◌, arith}
use Rattle.std.specs.Prelude.{nat_eq}
use Rattle.ca_folds.specs.Operators.{neutral}
use Rattle.ca_forms.specs.Folds.{items_of, alone_form}
use Rattle.ca_forms.proofs.Told.{if_ok}
use Rattle.ca_forms.proofs.Made.{formed_more}
use Rattle.ca_forms.proofs.folds.formed.Goals.{then-count-eq1, else-count-eq1}
use Rattle.ca_forms.proofs.folds.formed.Goals as goal

pub returns : goal.returns
returns c =
    let several : length (items_of c.args.others) ≡ 1 → nat_eq c.args.word (neutral c.args.op) ≡ false = λ e. elim c.if-count-eq1.branch [ then-count-eq1 w ↦ ap (nat_eq c.args.word) (sym w.neutral.ensures) ∙ sym w.single-is ∙ c.if-single.false | else-count-eq1 w ↦ absurd (omega (arith, e, c.count-count.ensures, w.if-count-eq1.false)) ] in
    if_ok c.alone_form.result _ _ (ap alone_form c.part.ensures ∙ formed_more c.args.op c.args.word c.args.others (λ e. omega (arith, e, c.count-count.ensures, c.if-count-eq0.false)) several) c.alone_form.ensures
