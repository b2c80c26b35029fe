-- Where the same is demanded at each key, by forms or by orders, the same demands are met.
use Rattle.std.proofs.Common.{rules, inl, inr, ◌≡◌, ℕ, ◌+◌, ◌*◌, ◌^◌, ◌<◌, pos, Bool, true, false, List, [], ◌∷◌, ◌++◌, length, map, refl, sym, ap, ap₂, ◌∙◌, arith, subst, is_eq}
use Rattle.std.specs.Prelude.{if◌then◌else◌, FitsSigned}
use Rattle.std.specs.Int.{w64}
use Rattle.std.proofs.lemmas.List.{length-map}
use Rattle.ca_model.specs.declared.value.Value.{Value as Datum}
use Rattle.ca_model.specs.declared.value.Value.TheVariants as datum
use Rattle.ca_meaning.specs.Multisets.{SameItems}
use Rattle.ca_forms.specs.declared.sort.Sort.TheVariants.{Long, Bool as Truth}
use Rattle.ca_sums.specs.Sums.{total, Alike}
use Rattle.ca_sums.proofs.Algebra.{alike_refl, alike_eq, alike_sym, alike_trans, alike_add, alike_mul, total_append}
use Rattle.ca_forms.specs.Plain.{PlainMonomial, no_powers}
use Rattle.ca_forms.specs.Rules.{truth_sum}
use Rattle.ca_forms.proofs.Gathered.{gathered_same}
use Rattle.ca_order.proofs.Agreeing.{order_same_means}
use Rattle.ca_norm.specs.Terms.{PlainTerm, truth, add, IsOf}
use Rattle.ca_norm.specs.Forms.{expand}
use Rattle.ca_norm.specs.Meanings.{Valuation, mean, bit, word_of, chosen, polynomial_value, monomial_value}
use Rattle.ca_norm.proofs.Operations.{IsLong, IsTruth, sum_word}
use Rattle.ca_norm.proofs.Rules.{gathered_value}
use Rattle.ca_norm.proofs.Words.{word_pos}
use Rattle.ca_norm.proofs.Values.{typed, expand_means}
use Rattle.ca_symbolic.specs.States.{PlainDemand}
use Rattle.ca_verdicts.specs.Keys.{Key, key_of, key_cmp}
use Rattle.ca_verdicts.specs.Demands.{conditions, SameSums}
use Rattle.ca_verdicts.specs.Counts.{counted, conditions_of, counted_onto, count_of, count_at, SameDemand, SameDemands}
use Rattle.ca_verdicts.proofs.Looks.{met, met_if}
use Rattle.ca_verdicts.proofs.MetDemands.{DemandsSorted, met_same}

abbrev truth_in : Datum → Bool
truth_in (datum.Bool b) = b
truth_in d = false

-- the demand, under whether its condition holds
abbrev settled : Valuation → PlainDemand → PlainDemand
settled v d = record { kind = d.kind; parts = d.parts; guard = truth (truth_in (mean v d.guard)) }

module _ (v : Valuation) where
  met_settled : (ds : List PlainDemand) → DemandsSorted ds → met v (map (settled v) ds) ≡ met v ds
  met_settled [] s = refl
  met_settled (d ∷ ds) s =
      let g : IsTruth (mean v d.guard) = typed v Truth d.guard s.0.guard in
      ap₂ (λ z ms. met_if z (d.kind, map (mean v) d.parts) ms) (ap (λ z. datum.Bool (truth_in z)) g.is ∙ sym g.is) (met_settled ds s.1)

  settled_sorted : (ds : List PlainDemand) → DemandsSorted ds → DemandsSorted (map (settled v) ds)
  settled_sorted [] s = tt
  settled_sorted (d ∷ ds) s = (record { guard = refl; parts = s.0.parts }, settled_sorted ds s.1)

  -- how many demands with the key are met
  abbrev times_if : Bool → PlainTerm → ℕ → ℕ
  times_if true g n = bit (truth_in (mean v g)) + n
  times_if false g n = n

  abbrev times : Key → List PlainDemand → ℕ
  times k [] = 0
  times k (d ∷ ds) = times_if (is_eq (key_cmp k (key_of d))) d.guard (times k ds)

  guard_worth : (g : PlainTerm) → IsOf Truth g → Alike (bit (truth_in (mean v g))) (total (monomial_value v) (expand g))
  guard_worth g i =
      let t : IsTruth (mean v g) = typed v Truth g i in
      alike_trans (alike_eq (ap (λ z. bit (truth_in z)) t.is ∙ sym (ap word_of t.is))) (expand_means v Truth g tt i)

  worth : (k : Key) (ds : List PlainDemand) → DemandsSorted ds → Alike (times k ds) (total (monomial_value v) (conditions k ds))
  worth k [] s = alike_refl 0
  worth k (d ∷ ds) s = by (is_eq (key_cmp k (key_of d))) (worth k ds s.1)
    where
      by : (b : Bool) → Alike (times k ds) (total (monomial_value v) (conditions k ds)) → Alike (times_if b d.guard (times k ds)) (total (monomial_value v) ((if b then expand d.guard else []) ++ conditions k ds))
      by true h = alike_trans (alike_add (guard_worth d.guard s.0.guard) h) (alike_eq (sym (total_append (monomial_value v) (expand d.guard) (conditions k ds))))
      by false h = h

  fits_one : FitsSigned w64 (pos 1)
  fits_one = search rules

  fits_none : FitsSigned w64 (pos 0)
  fits_none = search rules

  counted_sorted : (g : PlainTerm) → IsOf Truth g → IsOf Long (counted g)
  counted_sorted g i = (i, (refl, fits_one), (refl, fits_none))

  abbrev AllTruths : List PlainTerm → Type 0
  AllTruths [] = Unit {0}
  AllTruths (c ∷ cs) = IsOf Truth c × AllTruths cs

  onto_sorted : (t : PlainTerm) (cs : List PlainTerm) → IsOf Long t → AllTruths cs → IsOf Long (counted_onto t cs)
  onto_sorted t [] i a = i
  onto_sorted t (c ∷ cs) i a = onto_sorted (add t (counted c)) cs (refl, i, counted_sorted c a.0) a.1

  count_sorted : (cs : List PlainTerm) → AllTruths cs → IsOf Long (count_of cs)
  count_sorted [] a = (refl, fits_none)
  count_sorted (c ∷ cs) a = onto_sorted (counted c) cs (counted_sorted c a.0) a.1

  conditions_sorted : (k : Key) (ds : List PlainDemand) → DemandsSorted ds → AllTruths (conditions_of k ds)
  conditions_sorted k [] s = tt
  conditions_sorted k (d ∷ ds) s = by (is_eq (key_cmp k (key_of d))) (conditions_sorted k ds s.1)
    where
      by : (b : Bool) → AllTruths (conditions_of k ds) → AllTruths (if b then d.guard ∷ conditions_of k ds else conditions_of k ds)
      by true a = (s.0.guard, a)
      by false a = a

  abbrev bits : List PlainTerm → ℕ
  bits [] = 0
  bits (c ∷ cs) = bit (truth_in (mean v c)) + bits cs

  times_bits : (k : Key) (ds : List PlainDemand) → times k ds ≡ bits (conditions_of k ds)
  times_bits k [] = refl
  times_bits k (d ∷ ds) = by (is_eq (key_cmp k (key_of d))) (times_bits k ds)
    where
      by : (b : Bool) → times k ds ≡ bits (conditions_of k ds) → times_if b d.guard (times k ds) ≡ bits (if b then d.guard ∷ conditions_of k ds else conditions_of k ds)
      by true e = ap (λ n. bit (truth_in (mean v d.guard)) + n) e
      by false e = e

  one_means : (b : Bool) → word_of (chosen (datum.Bool b) (datum.Long (pos 1)) (datum.Long (pos 0))) ≡ bit b
  one_means true = word_pos 1
  one_means false = word_pos 0

  counted_means : (g : PlainTerm) → IsOf Truth g → word_of (mean v (counted g)) ≡ bit (truth_in (mean v g))
  counted_means g i =
      let t : IsTruth (mean v g) = typed v Truth g i in
      ap (λ z. word_of (chosen z (datum.Long (pos 1)) (datum.Long (pos 0)))) t.is ∙ one_means t.truth ∙ sym (ap (λ z. bit (truth_in z)) t.is)

  long : (t : PlainTerm) → IsOf Long t → IsLong (mean v t)
  long t i = typed v Long t i

  grouped : (a b c : ℕ) → (a + b) + c ≡ a + (b + c)
  grouped a b c = omega arith

  onto_means : (t : PlainTerm) (cs : List PlainTerm) → IsOf Long t → AllTruths cs → Alike (word_of (mean v (counted_onto t cs))) (word_of (mean v t) + bits cs)
  onto_means t [] i a = alike_eq (let z : word_of (mean v t) ≡ word_of (mean v t) + 0 = omega arith in z)
  onto_means t (c ∷ cs) i a =
      alike_trans (onto_means (add t (counted c)) cs (refl, i, counted_sorted c a.0) a.1)
      (alike_trans (alike_add (alike_trans (sum_word (mean v t) (mean v (counted c)) (long t i) (long (counted c) (counted_sorted c a.0))) (alike_eq (ap (λ n. word_of (mean v t) + n) (counted_means c a.0)))) (alike_refl (bits cs)))
      (alike_eq (grouped (word_of (mean v t)) (bit (truth_in (mean v c))) (bits cs))))

  count_means : (cs : List PlainTerm) → AllTruths cs → Alike (word_of (mean v (count_of cs))) (bits cs)
  count_means [] a = alike_eq (word_pos 0)
  count_means (c ∷ cs) a = alike_trans (onto_means (counted c) cs (counted_sorted c a.0) a.1) (alike_eq (ap (λ n. n + bits cs) (counted_means c a.0)))

  module _ (ds es : List PlainDemand) (s : DemandsSorted ds) (u : DemandsSorted es) (h : SameDemands ds es) where
    -- as many demands with the key are met
    as_many : (k : Key) → Alike (times k ds) (times k es)
    as_many k = by (h k)
      where
        by : SameDemand k ds es → Alike (times k ds) (times k es)
        by (inl e) =
            alike_trans (worth k ds s) (alike_trans (alike_sym (gathered_value v (conditions k ds))) (alike_trans (alike_eq (ap (polynomial_value v) e)) (alike_trans (gathered_value v (conditions k es)) (alike_sym (worth k es u)))))
        by (inr o) =
            alike_trans (alike_eq (times_bits k ds)) (alike_trans (alike_sym (count_means (conditions_of k ds) (conditions_sorted k ds s)))
            (alike_trans (alike_eq (ap word_of (order_same_means v Long (count_at k ds) (count_at k es) (count_sorted _ (conditions_sorted k ds s)) (count_sorted _ (conditions_sorted k es u)) o.same)))
            (alike_trans (count_means (conditions_of k es) (conditions_sorted k es u)) (alike_eq (sym (times_bits k es))))))

    truth_total : (f : PlainMonomial → ℕ) (b : Bool) → total f (truth_sum b) ≡ bit b * f no_powers
    truth_total f true = let z : 1 * f no_powers + 0 ≡ 1 * f no_powers = omega arith in z
    truth_total f false = let z : 0 ≡ 0 * f no_powers = omega arith in z

    settled_total : (f : PlainMonomial → ℕ) (k : Key) (ks : List PlainDemand) → total f (conditions k (map (settled v) ks)) ≡ times k ks * f no_powers
    settled_total f k [] = let z : 0 ≡ 0 * f no_powers = omega arith in z
    settled_total f k (d ∷ ks) = by (is_eq (key_cmp k (key_of d))) (settled_total f k ks)
      where
        both : (a b c : ℕ) → a * c + b * c ≡ (a + b) * c
        both a b c = grind arith

        by : (b : Bool) → total f (conditions k (map (settled v) ks)) ≡ times k ks * f no_powers → total f ((if b then truth_sum (truth_in (mean v d.guard)) else []) ++ conditions k (map (settled v) ks)) ≡ times_if b d.guard (times k ks) * f no_powers
        by true e = total_append f (truth_sum (truth_in (mean v d.guard))) (conditions k (map (settled v) ks)) ∙ ap₂ (λ m n. m + n) (truth_total f (truth_in (mean v d.guard))) e ∙ both (bit (truth_in (mean v d.guard))) (times k ks) (f no_powers)
        by false e = e

    settled_same : SameSums (map (settled v) ds) (map (settled v) es)
    settled_same k = gathered_same (conditions k (map (settled v) ds)) (conditions k (map (settled v) es))
        (record { same = λ f. alike_trans (alike_eq (settled_total f k ds)) (alike_trans (alike_mul (as_many k) (alike_refl (f no_powers))) (alike_eq (sym (settled_total f k es)))) })

    pub met_alike : length ds < 2 ^ 64 → length es < 2 ^ 64 → SameItems (met v ds) (met v es)
    met_alike l m =
        subst (λ z. SameItems z (met v es)) (met_settled ds s)
        (subst (λ z. SameItems (met v (map (settled v) ds)) z) (met_settled es u)
        (met_same v (map (settled v) ds) (map (settled v) es) (settled_sorted ds s) (settled_sorted es u) (subst (λ n. n < 2 ^ 64) (sym (length-map ds (settled v))) l) (subst (λ n. n < 2 ^ 64) (sym (length-map es (settled v))) m) settled_same))
