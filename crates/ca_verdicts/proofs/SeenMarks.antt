-- Marks that name the same conditions.
use Rattle.std.proofs.Common.{◌≡◌, ◌≤◌, ◌<◌, ℕ, zero, suc, ◌+◌, List, [], ◌∷◌, ◌++◌, length, map, drop, drop-cons, add-one, get_or, mul-zero, sym, refl, ap, ap₂, ◌∙◌, arith}
use Rattle.std.proofs.lemmas.List.{drop_all}
use Rattle.ca_sums.specs.Sums.{Sum, total, scale, AddsSum}
use Rattle.ca_sums.proofs.Algebra.{alike_eq, total_append}
use Rattle.ca_sums.proofs.Products.{SameTotals}
use Rattle.ca_forms.specs.Plain.{PlainMonomial, PlainPolynomial}
use Rattle.ca_forms.specs.Lists.{products_of}
use Rattle.ca_forms.specs.Rules.{gathered}
use Rattle.ca_symbolic.specs.declared.demand.Group.{Group}
use Rattle.ca_verdicts.specs.declared.marks.Marks.{Marks}
use Rattle.ca_verdicts.specs.clauses.Marks.{products_at, summed_up, condition_of, IsSettled}
use Rattle.ca_verdicts.proofs.MarkSums.{summed_append}
use Rattle.ca_forms.proofs.Gathered.{gathered_same}

mark_front : (ms : Sum ℕ) (i : ℕ) → i < length ms → drop i ms ≡ get_or ms i (0, 0) ∷ drop (i + 1) ms
mark_front ms i l = drop-cons ms i (0, 0) l ∙ ap (λ n. get_or ms i (0, 0) ∷ drop n ms) (sym (add-one i))

-- the products of the condition of the group with a number, and none where there is no such group
pub group_products : (gs : List Group) (i : ℕ) (g : Group) → i < length gs → g ≡ get_or gs i g → products_at (map condition_of gs) i ≡ products_of (condition_of g)
group_products [] i g l e = absurd (omega arith)
group_products (x ∷ gs) zero g l e = ap (λ (z : Group). products_of (condition_of z)) (sym e)
group_products (x ∷ gs) (suc i) g l e = group_products gs i g (omega arith) e

pub no_products : (gs : List Group) (i : ℕ) → length gs ≤ i → products_at (map condition_of gs) i ≡ []
no_products [] i l = refl
no_products (x ∷ gs) zero l = absurd (omega arith)
no_products (x ∷ gs) (suc i) l = no_products gs i (omega arith)

pub adds_nothing : (a : Sum PlainMonomial) (t : ℕ) → AddsSum a a t []
adds_nothing a t = record { added = λ f. alike_eq ((let z : total f a ≡ total f a + 0 = omega arith in z) ∙ ap (λ n. total f a + n) (sym (mul-zero t))) }

module _ (fs gs : List PlainPolynomial) where
  -- marks that are the same from a place on, where the next ones are and all behind them
  pub same_from : (ms ns : Sum ℕ) (i : ℕ) → i < length ms → length ms ≡ length ns →
      scale (get_or ms i (0, 0)).1 (products_at fs (get_or ms i (0, 0)).0) ≡ scale (get_or ns i (0, 0)).1 (products_at gs (get_or ns i (0, 0)).0) →
      summed_up fs (drop (i + 1) ms) ≡ summed_up gs (drop (i + 1) ns) → summed_up fs (drop i ms) ≡ summed_up gs (drop i ns)
  same_from ms ns i l long same rest =
      ap (summed_up fs) (mark_front ms i l) ∙ (ap₂ (λ x y. x ++ y) same rest ∙ sym (ap (summed_up gs) (mark_front ns i (omega arith))))

  pub same_over : (ms ns : Sum ℕ) (i : ℕ) → length ms ≤ i → length ms ≡ length ns → summed_up fs (drop i ms) ≡ summed_up gs (drop i ns)
  same_over ms ns i l long = ap (summed_up fs) (drop_all i ms l) ∙ sym (ap (summed_up gs) (drop_all i ns (omega arith)))

  -- marks that are the same where the second ones are turned round
  pub turned_same : (ms ns begun rest front back : Sum ℕ) → ms ≡ begun ++ rest → ns ≡ front ++ back → summed_up fs begun ≡ summed_up gs back → summed_up fs rest ≡ summed_up gs front → gathered (summed_up fs ms) ≡ gathered (summed_up gs ns)
  turned_same ms ns begun rest front back i j s t =
      ap gathered (ap (summed_up fs) i ∙ (summed_append fs begun rest ∙ ap₂ (λ x y. x ++ y) s t))
      ∙ (gathered_same _ _ (turned (summed_up gs back) (summed_up gs front)) ∙ ap gathered (sym (ap (summed_up gs) j ∙ summed_append gs front back)))
    where
      turned : (ps qs : Sum PlainMonomial) → SameTotals (ps ++ qs) (qs ++ ps)
      turned ps qs = record {
        same = λ f. alike_eq (total_append f ps qs ∙ ((let z : total f ps + total f qs ≡ total f qs + total f ps = omega arith in z) ∙ sym (total_append f qs ps)));
      }

  pub settled_by : (m : Marks) (ms ns : Sum ℕ) → ms ≡ m.first.items → ns ≡ m.second.items → gathered (summed_up fs ms) ≡ gathered (summed_up gs ns) → IsSettled fs gs m
  settled_by m ms ns i j s = ap (λ z. gathered (summed_up fs z)) (sym i) ∙ (s ∙ ap (λ z. gathered (summed_up gs z)) j)
