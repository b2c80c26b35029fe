use Rattle.std.proofs.Common.{◌≡◌, ◌≤◌, ℕ, ◌+◌, [], ◌∷◌, List, length, map, drop, drop-cons, add-one, get_or, sym, ap, ◌∙◌, subst}
use Rattle.std.proofs.lemmas.List.{drop_all}
use Rattle.ca_sums.specs.Sums.{Sum, AddsSum, scale, collect}
use Rattle.ca_sums.proofs.Additions.{adds_both}
use Rattle.ca_sums.proofs.Entries.{gathered_is}
use Rattle.ca_forms.specs.Plain.{PlainMonomial, number_form}
use Rattle.ca_forms.specs.Lists.{polynomial_of}
use Rattle.ca_forms.specs.Compare.{monomial_cmp}
use Rattle.ca_forms.proofs.Exact.{monomials_exact}
use Rattle.ca_verdicts.specs.clauses.Marks.{products_at, summed_up, condition_of}
use Rattle.ca_verdicts.proofs.MarkSums.{adds_none}
use Rattle.ca_forms.proofs.Gathered.{adds_factor}
use Rattle.ca_verdicts.proofs.sums.sum_of.Goals as goal

pub loop-mark-preserved : goal.loop-mark-preserved
loop-mark-preserved c =
    let i : ℕ = c.loop-mark.mark-index in
    let m : ℕ × ℕ = get_or c.args.marks.now i (0, 0) in
    let rest : List (ℕ × ℕ) = drop (i + 1) c.args.marks.now in
    let step : drop i c.args.marks.now ≡ m ∷ rest = drop-cons c.args.marks.now i (0, 0) c.loop-mark-test.true ∙ ap (λ n. m ∷ drop n c.args.marks.now) (sym (add-one i)) in (
      c.in_ok-add_condition.ensures.nonzero,
      λ end t. c.loop-mark.invariant.1 end
          (subst (λ z. AddsSum c.loop-mark.form.entries end 1 (summed_up (map condition_of c.args.groups.now) z)) (sym step)
          (adds_both c.loop-mark.form.entries c.add_condition.new.form.entries end 1 (scale m.1 (products_at (map condition_of c.args.groups.now) m.0)) (summed_up (map condition_of c.args.groups.now) rest)
          (adds_factor c.loop-mark.form.entries c.add_condition.new.form.entries m.1 (products_at (map condition_of c.args.groups.now) m.0) c.in_ok-add_condition.ensures.added) t)),
    )

pub returns : goal.returns
returns c =
    let es : Sum PlainMonomial = c.loop-mark.form.entries in
    let end : length c.args.marks.now ≤ c.loop-mark.mark-index = c.loop-mark-test.false in
    let over : drop c.loop-mark.mark-index c.args.marks.now ≡ [] = drop_all c.loop-mark.mark-index c.args.marks.now end in
    let last : AddsSum c.new-form.result.entries es 1 (summed_up (map condition_of c.args.groups.now) c.args.marks.now) =
    c.loop-mark.invariant.1 es (subst (λ z. AddsSum es es 1 (summed_up (map condition_of c.args.groups.now) z)) (sym over) (adds_none es)) in
    let begun : AddsSum [] es 1 (summed_up (map condition_of c.args.groups.now) c.args.marks.now) = subst (λ z. AddsSum z es 1 (summed_up (map condition_of c.args.groups.now) c.args.marks.now)) c.new-form.ensures.empty last in
    let e : es ≡ collect monomial_cmp (summed_up (map condition_of c.args.groups.now) c.args.marks.now) = gathered_is monomial_cmp monomials_exact es (summed_up (map condition_of c.args.groups.now) c.args.marks.now) c.in_ok-finish.ensures.ordered c.loop-mark.invariant.0 begun in
    c.number.ensures ∙ ap number_form (c.in_ok-finish.ensures.value ∙ ap polynomial_of e)
