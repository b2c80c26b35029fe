use Rattle.std.proofs.Common.{sym, ap, ◌∙◌, subst}
use Rattle.ca_undo.specs.Olds.{put_back, AllThere}
use Rattle.ca_undo.proofs.Back.{back_again, there_again}
use Rattle.ca_undo.proofs.olds.Olds.put_again.Goals as goal

pub returns-then-holds_one-clause-back : goal.returns-then-holds_one-clause-back
returns-then-holds_one-clause-back c =
    let olds = c.args.self.now in
    ap (put_back olds) c.put.ensures ∙ back_again olds c.args.slots.now c.args.field 0 c.args.value (sym c.has_first.ensures ∙ c.if-has_first.true)

pub returns-then-holds_one-clause-there : goal.returns-then-holds_one-clause-there
returns-then-holds_one-clause-there c =
    let olds = c.args.self.now in
    λ there. subst (AllThere olds) (sym c.put.ensures) (there_again olds c.args.slots.now c.args.field 0 c.args.value there)
