-- Where the same is demanded at each key, the sums of all conditions by keys are the same.
use Rattle.std.proofs.Common.{◌≡◌, ℕ, ◌+◌, List, [], ◌∷◌, map, refl, sym, ap, ap₂, ◌∙◌, arith, Ordering, Less, Equal, Greater, is_eq}
use Rattle.std.specs.Prelude.{if◌then◌else◌}
use Rattle.std.specs.Ordering.{ordering_then}
use Rattle.ca_sums.specs.Sums.{Sum, total, is_tied, Alike, collect}
use Rattle.ca_sums.specs.clauses.Rows.{at_index, pair_cmp}
use Rattle.ca_sums.proofs.Algebra.{alike_eq, alike_sym, alike_trans, total_append}
use Rattle.ca_sums.proofs.Collect.{Exact, SameCoefficients, total_collect, collect_same}
use Rattle.ca_sums.proofs.Rows.{total_at, pair_exact}
use Rattle.ca_sums.proofs.Demands.{summed}
use Rattle.ca_forms.specs.Plain.{PlainMonomial}
use Rattle.ca_forms.specs.Lists.{products_of}
use Rattle.ca_forms.specs.Compare.{monomial_cmp}
use Rattle.ca_forms.specs.Trees.{tree_exact}
use Rattle.ca_forms.proofs.Exact.{monomials_exact}
use Rattle.ca_forms.proofs.Gathered.{products_polynomial}
use Rattle.ca_norm.specs.Forms.{expand}
use Rattle.ca_symbolic.specs.States.{PlainDemand}
use Rattle.ca_verdicts.specs.Keys.{Key, key_of, key_code, key_inj, key_cmp, key_total}
use Rattle.ca_verdicts.specs.Demands.{conditions, demanded_at, SameSums}

pub keys_exact : Exact key_cmp
keys_exact = record { order = key_total; same = λ k l e. key_inj k l (tree_exact (key_code k) (key_code l) e) }

-- a demand's key, with the products of its condition
abbrev pub row_of : PlainDemand → Key × Sum PlainMonomial
row_of d = (key_of d, expand d.guard)

abbrev pub rows_of : List PlainDemand → List (Key × Sum PlainMonomial)
rows_of ds = map row_of ds

-- a monomial, whatever its key
abbrev counted : PlainMonomial → PlainMonomial → ℕ
counted m n = is_tied (monomial_cmp m n)

none : (ps : Sum PlainMonomial) → total (λ n. 0) ps ≡ 0
none [] = refl
none (p ∷ ps) = let e : total (λ n. 0) ps ≡ 0 = none ps in omega (arith, e)

at_order : (o : Ordering) (m : PlainMonomial) (ps : Sum PlainMonomial) → total (λ n. is_tied (ordering_then o (monomial_cmp m n))) ps ≡ total (counted m) (if is_eq o then ps else [])
at_order Less m ps = none ps
at_order Equal m ps = refl
at_order Greater m ps = none ps

-- how often a monomial stands under a key, in all conditions and in those of the key
coefficient_at : (k : Key) (m : PlainMonomial) (ds : List PlainDemand) → total (λ q. is_tied (pair_cmp key_cmp monomial_cmp (k, m) q)) (summed (rows_of ds)) ≡ total (counted m) (conditions k ds)
coefficient_at k m [] = refl
coefficient_at k m (d ∷ ds) =
    total_append (λ q. is_tied (pair_cmp key_cmp monomial_cmp (k, m) q)) (at_index (key_of d) (expand d.guard)) (summed (rows_of ds))
    ∙ (ap₂ (λ a b. a + b) (total_at (λ q. is_tied (pair_cmp key_cmp monomial_cmp (k, m) q)) (key_of d) (expand d.guard) ∙ at_order (key_cmp k (key_of d)) m (expand d.guard)) (coefficient_at k m ds)
    ∙ sym (total_append (counted m) (if is_eq (key_cmp k (key_of d)) then expand d.guard else []) (conditions k ds)))

same_totals : (f : PlainMonomial → ℕ) (ps qs : Sum PlainMonomial) → collect monomial_cmp ps ≡ collect monomial_cmp qs → Alike (total f ps) (total f qs)
same_totals f ps qs e =
    alike_trans (alike_sym (total_collect monomial_cmp monomials_exact f ps)) (alike_trans (alike_eq (ap (total f) e)) (total_collect monomial_cmp monomials_exact f qs))

same_collected : (k : Key) (ds es : List PlainDemand) → demanded_at k ds ≡ demanded_at k es → collect monomial_cmp (conditions k ds) ≡ collect monomial_cmp (conditions k es)
same_collected k ds es e =
    sym (products_polynomial (collect monomial_cmp (conditions k ds))) ∙ (ap products_of e ∙ products_polynomial (collect monomial_cmp (conditions k es)))

pub same_rows : (ds es : List PlainDemand) → SameSums ds es → collect (pair_cmp key_cmp monomial_cmp) (summed (rows_of ds)) ≡ collect (pair_cmp key_cmp monomial_cmp) (summed (rows_of es))
unfolding SameCoefficients
same_rows ds es h =
    collect_same (pair_cmp key_cmp monomial_cmp) (pair_exact key_cmp monomial_cmp keys_exact monomials_exact) (summed (rows_of ds)) (summed (rows_of es))
    (λ q. alike_trans (alike_eq (coefficient_at q.0 q.1 ds)) (alike_trans (same_totals (counted q.1) (conditions q.0 ds) (conditions q.0 es) (same_collected q.0 ds es (h q.0))) (alike_eq (sym (coefficient_at q.0 q.1 es)))))
