use Rattle.std.proofs.Common.{◌≡◌, ◌∷◌, [], true, false, drop, sym, ap, subst, ◌∙◌, arith}
use Rattle.ca_folds.specs.Operators.{cancels}
use Rattle.ca_folds.specs.Operands.{merge}
use Rattle.ca_forms.specs.Compare.{scalar_cmp}
use Rattle.ca_forms.specs.clauses.Among.{IsPlaceAmong, is_first}
use Rattle.ca_forms.proofs.Among.{there_is, put_gone, put_kept, put_new}
use Rattle.ca_forms.proofs.operands.put_operand.Goals as goal

pub insert-requires : goal.insert-requires
insert-requires c = omega (arith, c.place_of-place.ensures.0, c.args.items.now.ok.0)

pub remove-requires : goal.remove-requires
remove-requires c =
    let there : is_first scalar_cmp c.args.operand (drop c.place_of-place.result c.args.items.now.items) ≡ true = ap (λ z. is_first scalar_cmp c.args.operand (drop c.place_of-place.result z)) (sym c.deref-2.ensures.value) ∙ sym c.stands_at-there.ensures ∙ c.if-not-there.false in
    omega (arith, there_is scalar_cmp c.args.items.now.items c.place_of-place.result c.args.operand there, c.args.items.now.ok.0)

pub returns-then-not-there : goal.returns-then-not-there
returns-then-not-there c =
    let place : IsPlaceAmong scalar_cmp c.args.operand c.args.items.now.items c.place_of-place.result = subst (λ z. IsPlaceAmong scalar_cmp c.args.operand z c.place_of-place.result) c.deref.ensures.value c.place_of-place.ensures in
    let there : is_first scalar_cmp c.args.operand (drop c.place_of-place.result c.args.items.now.items) ≡ false = ap (λ z. is_first scalar_cmp c.args.operand (drop c.place_of-place.result z)) (sym c.deref-2.ensures.value) ∙ sym c.stands_at-there.ensures ∙ c.if-not-there.true in
    c.in_ok-insert.ensures.items ∙ sym (put_new scalar_cmp (cancels c.args.op) c.args.items.now.items c.place_of-place.result c.args.operand place.1 place.2 there)

pub returns-then-gone : goal.returns-then-gone
returns-then-gone c =
    let place : IsPlaceAmong scalar_cmp c.args.operand c.args.items.now.items c.place_of-place.result = subst (λ z. IsPlaceAmong scalar_cmp c.args.operand z c.place_of-place.result) c.deref.ensures.value c.place_of-place.ensures in
    let there : is_first scalar_cmp c.args.operand (drop c.place_of-place.result c.args.items.now.items) ≡ true = ap (λ z. is_first scalar_cmp c.args.operand (drop c.place_of-place.result z)) (sym c.deref-2.ensures.value) ∙ sym c.stands_at-there.ensures ∙ c.if-not-there.false in
    c.remove.ensures.items ∙ sym (ap (λ b. merge b scalar_cmp c.args.items.now.items (c.args.operand ∷ [])) (sym c.cancels-gone.ensures ∙ c.if-gone.true)
    ∙ put_gone scalar_cmp c.args.items.now.items c.place_of-place.result c.args.operand place.1 there)

pub returns : goal.returns
returns c =
    let place : IsPlaceAmong scalar_cmp c.args.operand c.args.items.now.items c.place_of-place.result = subst (λ z. IsPlaceAmong scalar_cmp c.args.operand z c.place_of-place.result) c.deref.ensures.value c.place_of-place.ensures in
    let there : is_first scalar_cmp c.args.operand (drop c.place_of-place.result c.args.items.now.items) ≡ true = ap (λ z. is_first scalar_cmp c.args.operand (drop c.place_of-place.result z)) (sym c.deref-2.ensures.value) ∙ sym c.stands_at-there.ensures ∙ c.if-not-there.false in
    sym (ap (λ b. merge b scalar_cmp c.args.items.now.items (c.args.operand ∷ [])) (sym c.cancels-gone.ensures ∙ c.if-gone.false)
    ∙ put_kept scalar_cmp c.args.items.now.items c.place_of-place.result c.args.operand place.1 there)
