use Rattle.std.proofs.Common.{◌≡◌, arith, sym, ap, ap₂, ◌∙◌, Equal, nat_cmp}
use Rattle.std.specs.Cmp.Lexicographic.{slice_cmp}
use Rattle.ca_forms.specs.Compare.{power_cmp, product_cmp, scalar_cmp}
use Rattle.ca_forms.proofs.Lists.{powers_cmp, products_cmp, arguments_cmp, ends}
use Rattle.ca_forms.specs.Seen.{part_of}
use Rattle.ca_forms.specs.clauses.Heads.{rank, head_cmp}
use Rattle.ca_forms.proofs.Heads.{tied, told_first, head_told, rest_told, rest_over, variables_end, other_rank, same_ranks, no_over, no_less, no_same, no_field, no_item, no_result, no_fold}
use Rattle.ca_forms.proofs.+compare.Goals as goal

pub polynomial::Polynomial::compare-returns : goal.polynomial::Polynomial::compare-returns
polynomial::Polynomial::compare-returns t c =
    rw (← c.self.view_is, ← c.other.view_is) (c.compare_products.ensures ∙ ap₂ (slice_cmp product_cmp) c.deref.ensures.value c.deref-2.ensures.value ∙ products_cmp c.self.inside.products.items c.other.inside.products.items)

pub polynomial::Monomial::compare-returns : goal.polynomial::Monomial::compare-returns
polynomial::Monomial::compare-returns t c =
    rw (← c.self.view_is, ← c.other.view_is) (c.compare_powers.ensures ∙ ap₂ (slice_cmp power_cmp) c.deref.ensures.value c.deref-2.ensures.value ∙ powers_cmp c.self.inside.powers.items c.other.inside.powers.items)

pub order::compare_powers-returns : goal.order::compare_powers-returns
order::compare_powers-returns t c =
    c.cmp.ensures ∙ ends power_cmp c.args.a.now c.args.b.now c.loop-i.i (omega (arith, c.loop-i-test.false, c.loop-i.auto.i-end, c.min-count.ensures)) ∙ c.loop-i.invariant

pub order::compare_products-returns : goal.order::compare_products-returns
order::compare_products-returns t c =
    c.cmp.ensures ∙ ends product_cmp c.args.a.now c.args.b.now c.loop-i.i (omega (arith, c.loop-i-test.false, c.loop-i.auto.i-end, c.min-count.ensures)) ∙ c.loop-i.invariant

pub polynomial::Scalars::compare-returns : goal.polynomial::Scalars::compare-returns
polynomial::Scalars::compare-returns t c =
    rw (← c.self.view_is, ← c.other.view_is) (c.compare_scalars.ensures ∙ ap₂ (slice_cmp scalar_cmp) c.deref.ensures.value c.deref-2.ensures.value ∙ arguments_cmp c.self.inside.items.items c.other.inside.items.items)

pub polynomial::Operands::compare-returns : goal.polynomial::Operands::compare-returns
polynomial::Operands::compare-returns t c =
    rw (← c.self.view_is, ← c.other.view_is) (c.compare_scalars.ensures ∙ ap₂ (slice_cmp scalar_cmp) c.deref.ensures.value c.deref-2.ensures.value ∙ arguments_cmp c.self.inside.items.items c.other.inside.items.items)

pub order::compare_scalars-returns : goal.order::compare_scalars-returns
order::compare_scalars-returns t c =
    c.cmp.ensures ∙ ends scalar_cmp c.args.a.now c.args.b.now c.loop-i.i (omega (arith, c.loop-i-test.false, c.loop-i.auto.i-end, c.min-count.ensures)) ∙ c.loop-i.invariant

pub polynomial::Part::compare-returns-in_default : goal.polynomial::Part::compare-returns-in_default
polynomial::Part::compare-returns-in_default t c =
    head_told c.args.self.now c.args.other.now c.heads.result c.heads.ensures c.in_default.not-Equal

pub polynomial::Part::compare-returns-in-Equal-compare : goal.polynomial::Part::compare-returns-in-Equal-compare
polynomial::Part::compare-returns-in-Equal-compare t c =
    rest_told c.args.self.now c.args.other.now c.heads.result c.cmp.result c.heads.ensures c.in-Equal.is (rw (← c.self.view_is, ← c.other.view_is, c.in-Over-Over.is-0, c.in-Over-Over.is-1, rest_over c.in-Over-Over.f c.in-Over-Over.a, rest_over c.in-Over-Over.g c.in-Over-Over.c) (tied _ _ _ _ c.compare.ensures c.in-Equal-compare.is (c.cmp.ensures ∙ ap₂ nat_cmp c.word.ensures c.word-in-Equal-compare.ensures)))

pub polynomial::Part::compare-returns-in_default-compare : goal.polynomial::Part::compare-returns-in_default-compare
polynomial::Part::compare-returns-in_default-compare t c =
    rest_told c.args.self.now c.args.other.now c.heads.result c.compare.result c.heads.ensures c.in-Equal.is (rw (← c.self.view_is, ← c.other.view_is, c.in-Over-Over.is-0, c.in-Over-Over.is-1, rest_over c.in-Over-Over.f c.in-Over-Over.a, rest_over c.in-Over-Over.g c.in-Over-Over.c) (told_first _ _ _ c.compare.ensures c.in_default-compare.not-Equal))

pub polynomial::Part::compare-returns-in-Equal-compare-2 : goal.polynomial::Part::compare-returns-in-Equal-compare-2
polynomial::Part::compare-returns-in-Equal-compare-2 t c =
    rest_told c.args.self.now c.args.other.now c.heads.result c.compare-in-Equal-compare-2.result c.heads.ensures c.in-Equal.is (rw (← c.self.view_is, ← c.other.view_is, c.in-Less-Less.is-0, c.in-Less-Less.is-1) (tied _ _ _ _ c.compare-in-Less-Less.ensures c.in-Equal-compare-2.is c.compare-in-Equal-compare-2.ensures))

pub polynomial::Part::compare-returns-in_default-compare-2 : goal.polynomial::Part::compare-returns-in_default-compare-2
polynomial::Part::compare-returns-in_default-compare-2 t c =
    rest_told c.args.self.now c.args.other.now c.heads.result c.compare-in-Less-Less.result c.heads.ensures c.in-Equal.is (rw (← c.self.view_is, ← c.other.view_is, c.in-Less-Less.is-0, c.in-Less-Less.is-1) (told_first _ _ _ c.compare-in-Less-Less.ensures c.in_default-compare-2.not-Equal))

pub polynomial::Part::compare-returns-in-Equal-compare-3 : goal.polynomial::Part::compare-returns-in-Equal-compare-3
polynomial::Part::compare-returns-in-Equal-compare-3 t c =
    rest_told c.args.self.now c.args.other.now c.heads.result c.compare-in-Equal-compare-3.result c.heads.ensures c.in-Equal.is (rw (← c.self.view_is, ← c.other.view_is, c.in-SamePointer-SamePointer.is-0, c.in-SamePointer-SamePointer.is-1) (tied _ _ _ _ c.compare-in-SamePointer-SamePointer.ensures c.in-Equal-compare-3.is c.compare-in-Equal-compare-3.ensures))

pub polynomial::Part::compare-returns-in_default-compare-3 : goal.polynomial::Part::compare-returns-in_default-compare-3
polynomial::Part::compare-returns-in_default-compare-3 t c =
    rest_told c.args.self.now c.args.other.now c.heads.result c.compare-in-SamePointer-SamePointer.result c.heads.ensures c.in-Equal.is (rw (← c.self.view_is, ← c.other.view_is, c.in-SamePointer-SamePointer.is-0, c.in-SamePointer-SamePointer.is-1) (told_first _ _ _ c.compare-in-SamePointer-SamePointer.ensures c.in_default-compare-3.not-Equal))

pub polynomial::Part::compare-returns-in-Equal-compare-4 : goal.polynomial::Part::compare-returns-in-Equal-compare-4
polynomial::Part::compare-returns-in-Equal-compare-4 t c =
    rest_told c.args.self.now c.args.other.now c.heads.result c.compare-in-Equal-compare-4.result c.heads.ensures c.in-Equal.is (rw (← c.self.view_is, ← c.other.view_is, c.in-Item-Item.is-0, c.in-Item-Item.is-1) (tied _ _ _ _ c.compare-in-Item-Item.ensures c.in-Equal-compare-4.is c.compare-in-Equal-compare-4.ensures))

pub polynomial::Part::compare-returns-in_default-compare-4 : goal.polynomial::Part::compare-returns-in_default-compare-4
polynomial::Part::compare-returns-in_default-compare-4 t c =
    rest_told c.args.self.now c.args.other.now c.heads.result c.compare-in-Item-Item.result c.heads.ensures c.in-Equal.is (rw (← c.self.view_is, ← c.other.view_is, c.in-Item-Item.is-0, c.in-Item-Item.is-1) (told_first _ _ _ c.compare-in-Item-Item.ensures c.in_default-compare-4.not-Equal))

pub polynomial::Part::compare-returns-in-Equal-compare-5 : goal.polynomial::Part::compare-returns-in-Equal-compare-5
polynomial::Part::compare-returns-in-Equal-compare-5 t c =
    rest_told c.args.self.now c.args.other.now c.heads.result c.compare-in-Equal-compare-5.result c.heads.ensures c.in-Equal.is (rw (← c.self.view_is, ← c.other.view_is, c.in-Result-Result.is-0, c.in-Result-Result.is-1) (tied _ _ _ _ c.compare-in-Result-Result.ensures c.in-Equal-compare-5.is c.compare-in-Equal-compare-5.ensures))

pub polynomial::Part::compare-returns-in_default-compare-5 : goal.polynomial::Part::compare-returns-in_default-compare-5
polynomial::Part::compare-returns-in_default-compare-5 t c =
    rest_told c.args.self.now c.args.other.now c.heads.result c.compare-in-Result-Result.result c.heads.ensures c.in-Equal.is (rw (← c.self.view_is, ← c.other.view_is, c.in-Result-Result.is-0, c.in-Result-Result.is-1) (told_first _ _ _ c.compare-in-Result-Result.ensures c.in_default-compare-5.not-Equal))

pub polynomial::Part::compare-returns-in-Field-Field : goal.polynomial::Part::compare-returns-in-Field-Field
polynomial::Part::compare-returns-in-Field-Field t c =
    rest_told c.args.self.now c.args.other.now c.heads.result c.compare-in-Field-Field.result c.heads.ensures c.in-Equal.is (rw (← c.self.view_is, ← c.other.view_is, c.in-Field-Field.is-0, c.in-Field-Field.is-1) (c.compare-in-Field-Field.ensures))

pub polynomial::Part::compare-returns-in_default-2 : goal.polynomial::Part::compare-returns-in_default-2
polynomial::Part::compare-returns-in_default-2 t c =
    absurd (no_over c.self.inside.node c.other.inside.node c.in_default-2.is-0 (same_ranks c.self.inside.node c.other.inside.node _ _ _ c.self.view_is c.other.view_is c.heads.ensures c.in-Equal.is) c.in_default-2.not-Over-1)

pub polynomial::Part::compare-returns-in_default-2-2 : goal.polynomial::Part::compare-returns-in_default-2-2
polynomial::Part::compare-returns-in_default-2-2 t c =
    absurd (no_less c.other.inside.node (other_rank c.self.inside.node c.other.inside.node _ _ _ _ c.self.view_is c.other.view_is c.heads.ensures c.in-Equal.is c.in_default-2.is-0) c.in_default-2.not-Less-1)

pub polynomial::Part::compare-returns-in_default-2-3 : goal.polynomial::Part::compare-returns-in_default-2-3
polynomial::Part::compare-returns-in_default-2-3 t c =
    absurd (no_same c.other.inside.node (other_rank c.self.inside.node c.other.inside.node _ _ _ _ c.self.view_is c.other.view_is c.heads.ensures c.in-Equal.is c.in_default-2.is-0) c.in_default-2.not-SamePointer-1)

pub polynomial::Part::compare-returns-in_default-2-4 : goal.polynomial::Part::compare-returns-in_default-2-4
polynomial::Part::compare-returns-in_default-2-4 t c =
    absurd (no_field c.other.inside.node (other_rank c.self.inside.node c.other.inside.node _ _ _ _ c.self.view_is c.other.view_is c.heads.ensures c.in-Equal.is c.in_default-2.is-0) c.in_default-2.not-Field-1)

pub polynomial::Part::compare-returns-in_default-2-5 : goal.polynomial::Part::compare-returns-in_default-2-5
polynomial::Part::compare-returns-in_default-2-5 t c =
    absurd (no_item c.other.inside.node (other_rank c.self.inside.node c.other.inside.node _ _ _ _ c.self.view_is c.other.view_is c.heads.ensures c.in-Equal.is c.in_default-2.is-0) c.in_default-2.not-Item-1)

pub polynomial::Part::compare-returns-in_default-2-6 : goal.polynomial::Part::compare-returns-in_default-2-6
polynomial::Part::compare-returns-in_default-2-6 t c =
    absurd (no_result c.other.inside.node (other_rank c.self.inside.node c.other.inside.node _ _ _ _ c.self.view_is c.other.view_is c.heads.ensures c.in-Equal.is c.in_default-2.is-0) c.in_default-2.not-Result-1)

pub polynomial::Part::compare-returns-in_default-2-7 : goal.polynomial::Part::compare-returns-in_default-2-7
polynomial::Part::compare-returns-in_default-2-7 t c =
    absurd (no_fold c.other.inside.node (other_rank c.self.inside.node c.other.inside.node _ _ _ _ c.self.view_is c.other.view_is c.heads.ensures c.in-Equal.is c.in_default-2.is-0) c.in_default-2.not-Fold-1)

pub polynomial::Part::compare-returns-in_default-2-8 : goal.polynomial::Part::compare-returns-in_default-2-8
polynomial::Part::compare-returns-in_default-2-8 t c =
    let none : rank c.args.self.now ≡ 0 = ap rank (sym c.self.view_is) ∙ ap (λ z. rank (part_of z)) c.in_default-2.is-0 in
    let same : head_cmp c.args.self.now c.args.other.now ≡ Equal = sym c.heads.ensures ∙ c.in-Equal.is in
    rest_told c.args.self.now c.args.other.now c.heads.result Equal c.heads.ensures c.in-Equal.is (variables_end c.args.self.now c.args.other.now none same)
