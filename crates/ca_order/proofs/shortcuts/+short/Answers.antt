use Rattle.std.proofs.Common.{◌≡◌, rules, ap, ◌∙◌, subst}
use Rattle.std.specs.Prelude.{IfSome}
use Rattle.ca_forms.specs.Rules.{gathered}
use Rattle.ca_norm.specs.Terms.{shape, truth}
use Rattle.ca_norm.specs.Forms.{expand}
use Rattle.ca_order.specs.Under.{under}
use Rattle.ca_order.proofs.Coming.{first_comes}
use Rattle.ca_order.proofs.shortcuts.+short.Goals as goal

pub known_form-returns-then-holds : goal.known_form-returns-then-holds
known_form-returns-then-holds t c =
    let r = c.args.places.now in
    let told : under r (shape c.in-Choose.c.value) ≡ truth c.in-Some.holds = search rules in
    let form : IfSome c.known_form.result (λ f. f.now ≡ gathered (expand (under r (shape c.in-Choose.a.value)))) = search rules in
    rw c.in-Choose.is (subst (λ z. IfSome c.known_form.result (λ f. f.now ≡ z)) (first_comes r (shape c.in-Choose.c.value) (shape c.in-Choose.a.value) (shape c.in-Choose.b.value) (told ∙ ap truth c.if-holds.true)) form)
