-- Where the same is demanded at each key, the same demands are met.
use Rattle.std.proofs.Common.{◌≡◌, ℕ, ◌+◌, ◌%◌, ◌^◌, ◌<◌, Bool, true, false, List, [], ◌∷◌, length, map, refl, sym, ap, ap₂, ◌∙◌, arith}
use Rattle.std.specs.Prelude.{nat_eq, ◌&&◌}
use Rattle.std.proofs.lemmas.List.{length-map}
use Rattle.ca_model.specs.declared.value.Value.TheVariants.{Bool as Holds}
use Rattle.ca_meaning.specs.Multisets.{weight, SameItems}
use Rattle.ca_forms.specs.declared.sort.Sort.{Sort}
use Rattle.ca_forms.specs.declared.sort.Sort.TheVariants.{Long, Bool as Truth, Pointer}
use Rattle.ca_sums.specs.Sums.{Sum, total, Alike}
use Rattle.ca_sums.specs.clauses.Rows.{grouped}
use Rattle.ca_sums.proofs.Algebra.{alike_eq, alike_sym, alike_trans}
use Rattle.ca_sums.proofs.Counts.{one_if, count, sum, SameCounts, same_sums}
use Rattle.ca_sums.proofs.Demands.{small, Guards, same_counts}
use Rattle.ca_forms.specs.Plain.{PlainMonomial}
use Rattle.ca_forms.specs.Compare.{monomial_cmp}
use Rattle.ca_forms.proofs.Exact.{monomials_exact}
use Rattle.ca_norm.specs.Terms.{PlainTerm, terms_of, sort_of, IsScalar, IsOf, AreSorted}
use Rattle.ca_norm.specs.Forms.{expand, pointer_of, arguments_of, scalar_of, scalar_at, form_at}
use Rattle.ca_norm.specs.Meanings.{Valuation, mean, bit, word_of, monomial_value, scalar_mean, scalars_mean, form_mean}
use Rattle.ca_norm.proofs.Operations.{IsTruth}
use Rattle.ca_norm.proofs.Values.{typed, expand_means, means}
use Rattle.ca_symbolic.specs.States.{PlainDemand}
use Rattle.ca_verdicts.specs.Keys.{Key, key_cmp}
use Rattle.ca_verdicts.specs.Demands.{SameSums}
use Rattle.ca_verdicts.proofs.Looks.{Met, met_if, met}
use Rattle.ca_verdicts.proofs.Conditions.{keys_exact, row_of, rows_of, same_rows}

-- a demand whose condition and parts are well sorted
pub record DemandSorted (d : PlainDemand) : Type 0 where
  pub guard : IsOf Truth d.guard
  pub parts : AreSorted (terms_of d.parts)

abbrev pub DemandsSorted : List PlainDemand → Type 0
DemandsSorted [] = Unit {0}
DemandsSorted (d ∷ ds) = DemandSorted d × DemandsSorted ds

sum_is_weight : {A : Type 0} (f : A → ℕ) (xs : List A) → sum f xs ≡ weight f xs
sum_is_weight f [] = refl
sum_is_weight f (x ∷ xs) = ap (λ n. f x + n) (sum_is_weight f xs)

-- lists of which each test counts as many are the same up to order
pub same_items : {A : Type 0} (xs ys : List A) → SameCounts xs ys → SameItems xs ys
same_items xs ys h = record { weighed = λ f. sym (sum_is_weight f xs) ∙ (same_sums f xs ys h ∙ sum_is_weight f ys) }

-- a word that is the truth value that holds
abbrev is_on : ℕ → Bool
is_on n = nat_eq (n % (2 ^ 64)) 1

bit_on : (b : Bool) → is_on (bit b) ≡ b
bit_on true = refl
bit_on false = refl

bit_one : (b : Bool) → bit b ≡ one_if b
bit_one true = refl
bit_one false = refl

on_alike : (n : ℕ) (b : Bool) → Alike (bit b) n → is_on n ≡ b
on_alike n b h = ap (λ k. nat_eq k 1) (sym h.alike) ∙ bit_on b

module _ (v : Valuation) where
  -- the form of a scalar term means what the term means
  form_scalar : (s : Sort) (t : PlainTerm) → IsScalar s → form_mean v (form_at s t) ≡ scalar_mean v (scalar_at s (expand t) (pointer_of t))
  form_scalar Long t i = refl
  form_scalar Truth t i = refl
  form_scalar Pointer t i = refl
  form_scalar s t i = absurd i

  scalar_means : (t : PlainTerm) → IsScalar (sort_of t) → IsOf (sort_of t) t → scalar_mean v (scalar_of t) ≡ mean v t
  scalar_means t i o = sym (form_scalar (sort_of t) t i) ∙ means v t o

  parts_mean : (ts : List PlainTerm) → AreSorted (terms_of ts) → scalars_mean v (arguments_of (terms_of ts)) ≡ map (mean v) ts
  parts_mean [] i = refl
  parts_mean (t ∷ ts) i = ap₂ (λ x xs. x ∷ xs) (scalar_means t i.0 i.1) (parts_mean ts i.2)

  -- whether the condition of a row holds
  abbrev on : Key × Sum PlainMonomial → Bool
  on r = is_on (total (monomial_value v) r.1)

  guard_worth : (d : PlainDemand) (s : DemandSorted d) → Alike (bit (typed v Truth d.guard s.guard).truth) (total (monomial_value v) (expand d.guard))
  guard_worth d s = alike_trans (alike_eq (sym (ap word_of (typed v Truth d.guard s.guard).is))) (expand_means v Truth d.guard tt s.guard)

  guard_on : (d : PlainDemand) (s : DemandSorted d) → on (row_of d) ≡ (typed v Truth d.guard s.guard).truth
  guard_on d s = on_alike (total (monomial_value v) (expand d.guard)) (typed v Truth d.guard s.guard).truth (guard_worth d s)

  guards : (test : Key → Bool) (ds : List PlainDemand) → DemandsSorted ds → Guards key_cmp monomial_cmp keys_exact monomials_exact (monomial_value v) test on (rows_of ds)
  guards test [] s = tt
  guards test (d ∷ ds) s =
      (alike_trans (alike_sym (guard_worth d s.0)) (alike_eq (bit_one _ ∙ ap one_if (sym (guard_on d s.0)))), guards test ds s.1)

  module _ (test : Met → Bool) where
    -- a test on what is met, as one on keys
    abbrev test_at : Key → Bool
    test_at k = test (k.kind, scalars_mean v k.parts)

    at : (b : Bool) (m : Met) (ms : List Met) → count test (met_if (Holds b) m ms) ≡ one_if (test m && b) + count test ms
    at true m ms = ap (λ c. one_if c + count test ms) (and_true (test m))
      where
        and_true : (c : Bool) → c ≡ (c && true)
        and_true true = refl
        and_true false = refl
    at false m ms = (let z : count test ms ≡ 0 + count test ms = omega arith in z) ∙ ap (λ c. one_if c + count test ms) (and_false (test m))
      where
        and_false : (c : Bool) → false ≡ (c && false)
        and_false true = refl
        and_false false = refl

    met_counts : (ds : List PlainDemand) → DemandsSorted ds → count test (met v ds) ≡ count (λ r. test_at r.0 && on r) (rows_of ds)
    met_counts [] s = refl
    met_counts (d ∷ ds) s =
        let g : IsTruth (mean v d.guard) = typed v Truth d.guard s.0.guard in
        ap (λ z. count test (met_if z (d.kind, map (mean v) d.parts) (met v ds))) g.is
        ∙ (at g.truth (d.kind, map (mean v) d.parts) (met v ds)
        ∙ ap₂ (λ x y. one_if x + y) (ap₂ (λ x y. test (d.kind, x) && y) (sym (parts_mean d.parts s.0.parts)) (sym (guard_on d s.0))) (met_counts ds s.1))

  few_rows : (ds : List PlainDemand) → length ds < 2 ^ 64 → small (rows_of ds)
  few_rows ds l = omega (arith, l, length-map ds row_of)

  pub met_same : (ds es : List PlainDemand) → DemandsSorted ds → DemandsSorted es → length ds < 2 ^ 64 → length es < 2 ^ 64 → SameSums ds es → SameItems (met v ds) (met v es)
  met_same ds es s u k l h = same_items (met v ds) (met v es) (record {
    same = λ test.
        met_counts test ds s
        ∙ (same_counts key_cmp monomial_cmp keys_exact monomials_exact (monomial_value v) (test_at test) on (rows_of ds) (rows_of es) (guards (test_at test) ds s) (guards (test_at test) es u) (few_rows ds k) (few_rows es l) (ap (grouped key_cmp) (same_rows ds es h))
        ∙ sym (met_counts test es u));
  })
