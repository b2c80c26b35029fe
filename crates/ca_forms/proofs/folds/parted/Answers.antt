use Rattle.std.proofs.Common.{◌∷◌, ◌++◌, [], sym, ap, ap₂, subst, ◌∙◌}
use Rattle.ca_folds.specs.Operands.{parts_of}
use Rattle.ca_folds.proofs.Rising.{Rising}
use Rattle.ca_forms.specs.Plain.{number_form}
use Rattle.ca_forms.specs.Rules.{constancy}
use Rattle.ca_forms.specs.Compare.{scalar_cmp}
use Rattle.ca_forms.specs.Folds.{items_of, made_in}
use Rattle.ca_forms.proofs.Made.{items_back, opened_is, none_is}
use Rattle.ca_forms.proofs.folds.parted.Goals as goal

pub returns-in-Some : goal.returns-in-Some
returns-in-Some c =
    ap (λ xs. (c.in-Some.n, items_of xs)) c.empty.ensures ∙ ap (λ k. parts_of c.args.op k (made_in c.args.op c.args.f) (number_form c.args.f)) (sym c.in-Some.is ∙ c.constant.ensures)

pub returns-then-made : goal.returns-then-made
returns-then-made c =
    opened_is c.args.op (constancy c.args.f) (made_in c.args.op c.args.f) (c.opened.result.0, items_of c.opened.result.1) (number_form c.args.f) (sym c.constant.ensures ∙ c.in_default.is) (sym c.is_made-made.ensures ∙ c.if-made.true) (c.opened.ensures c.args.op)

pub returns : goal.returns
returns c =
    none_is c.args.op (constancy c.args.f) (made_in c.args.op c.args.f) (c.neutral.result, items_of c.rising.result) (number_form c.args.f) (sym c.constant.ensures ∙ c.in_default.is) (sym c.is_made-made.ensures ∙ c.if-made.false)
    (ap₂ (λ m xs. (m, xs)) c.neutral.ensures (ap items_of c.rising.ensures ∙ items_back c.add.new.items.items ∙ c.in_ok-add.ensures ∙ ap₂ (λ xs y. xs ++ y ∷ []) c.new-one.ensures.items c.number.ensures))

pub rising-requires : goal.rising-requires
rising-requires c = subst (Rising scalar_cmp) (sym (c.in_ok-add.ensures ∙ ap (λ xs. xs ++ c.number.result ∷ []) c.new-one.ensures.items)) (tt, tt)
