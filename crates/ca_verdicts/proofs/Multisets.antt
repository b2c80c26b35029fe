-- What the same met demands take and list.
use Rattle.std.proofs.Common.{◌≡◌, ℕ, zero, suc, ◌+◌, true, false, List, [], ◌∷◌, ◌++◌, Option, Some, None, refl, sym, ap, ap₂, ◌∙◌, arith, map}
use Rattle.ca_model.specs.declared.value.Value.{Value as Datum}
use Rattle.ca_model.specs.declared.value.Value.TheVariants.{Long, Bool as Truth, Null, Ref}
use Rattle.ca_meaning.specs.Expressions.{Invocation}
use Rattle.ca_meaning.specs.Multisets.{weight, SameItems}
use Rattle.ca_norm.specs.Environments.{Environment}
use Rattle.ca_norm.specs.Meanings.{Valuation, mean}
use Rattle.ca_symbolic.specs.States.{PlainDemand}
use Rattle.ca_symbolic_laws.specs.Costs.{plus}
use Rattle.ca_symbolic_laws.specs.Demanded.{kind_cost, kind_lists, if_true, cost, lists}
use Rattle.ca_symbolic_laws.proofs.Budgets.{none_plus}
use Rattle.ca_verdicts.proofs.Looks.{Met, met_if, met}

weight_append : {A : Type 0} (f : A → ℕ) (xs ys : List A) → weight f (xs ++ ys) ≡ weight f xs + weight f ys
weight_append f [] ys = let z : weight f ys ≡ 0 + weight f ys = omega arith in z
weight_append f (x ∷ xs) ys = ap (λ n. f x + n) (weight_append f xs ys) ∙ (let z : f x + (weight f xs + weight f ys) ≡ f x + weight f xs + weight f ys = omega arith in z)

-- The cost of a list, from how many fail and what the others take

abbrev fails : Option ℕ → ℕ
fails None = 1
fails (Some n) = 0

abbrev paid : Option ℕ → ℕ
paid None = 0
paid (Some n) = n

abbrev price_at : ℕ → ℕ → Option ℕ
price_at zero n = Some n
price_at (suc k) n = None

price_step : (c : Option ℕ) (k n : ℕ) → plus c (price_at k n) ≡ price_at (fails c + k) (paid c + n)
price_step None k n = let z : 1 + k ≡ suc k = omega arith in sym (ap (λ i. price_at i (0 + n)) z)
price_step (Some x) zero n = let z : 0 + zero ≡ zero = omega arith in sym (ap (λ i. price_at i (x + n)) z)
price_step (Some x) (suc k) n = let z : 0 + suc k ≡ suc k = omega arith in sym (ap (λ i. price_at i (x + n)) z)

module _ (s : Environment) (v : Valuation) where
  abbrev taken : Met → Option ℕ
  taken m = kind_cost s m.0 m.1

  abbrev price : List Met → Option ℕ
  price [] = Some 0
  price (m ∷ ms) = plus (taken m) (price ms)

  price_is : (ms : List Met) → price ms ≡ price_at (weight (λ m. fails (taken m)) ms) (weight (λ m. paid (taken m)) ms)
  price_is [] = refl
  price_is (m ∷ ms) = ap (plus (taken m)) (price_is ms) ∙ price_step (taken m) _ _

  price_met : (g : Datum) (m : Met) (ms : List Met) (c : Option ℕ) → c ≡ price ms → plus (if_true g (taken m) (Some 0)) c ≡ price (met_if g m ms)
  price_met (Truth true) m ms c e = ap (plus (taken m)) e
  price_met (Truth false) m ms c e = none_plus _ ∙ e
  price_met (Long n) m ms c e = none_plus _ ∙ e
  price_met Null m ms c e = none_plus _ ∙ e
  price_met (Ref n) m ms c e = none_plus _ ∙ e

  cost_met : (ds : List PlainDemand) → cost s v ds ≡ price (met v ds)
  cost_met [] = refl
  cost_met (d ∷ ds) = price_met (mean v d.guard) (d.kind, map (mean v) d.parts) (met v ds) (cost s v ds) (cost_met ds)

  -- the same met demands take as much, and none of them fails where the others don't
  pub cost_same : (ds es : List PlainDemand) → SameItems (met v ds) (met v es) → cost s v ds ≡ cost s v es
  cost_same ds es h =
      cost_met ds ∙ (price_is (met v ds) ∙ (ap₂ price_at (h.weighed (λ m. fails (taken m))) (h.weighed (λ m. paid (taken m))) ∙ (sym (price_is (met v es)) ∙ sym (cost_met es))))

  abbrev listed : (Invocation → ℕ) → Met → ℕ
  listed f m = weight f (kind_lists s m.0 m.1)

  weight_met : (f : Invocation → ℕ) (g : Datum) (m : Met) (ms : List Met) (is : List Invocation) → weight f is ≡ weight (listed f) ms → weight f (if_true g (kind_lists s m.0 m.1) [] ++ is) ≡ weight (listed f) (met_if g m ms)
  weight_met f (Truth true) m ms is e = weight_append f (kind_lists s m.0 m.1) is ∙ ap (λ n. listed f m + n) e
  weight_met f (Truth false) m ms is e = e
  weight_met f (Long n) m ms is e = e
  weight_met f Null m ms is e = e
  weight_met f (Ref n) m ms is e = e

  lists_met : (f : Invocation → ℕ) (ds : List PlainDemand) → weight f (lists s v ds) ≡ weight (listed f) (met v ds)
  lists_met f [] = refl
  lists_met f (d ∷ ds) = weight_met f (mean v d.guard) (d.kind, map (mean v) d.parts) (met v ds) (lists s v ds) (lists_met f ds)

  -- and list the same operations
  pub lists_same : (ds es : List PlainDemand) → SameItems (met v ds) (met v es) → SameItems (lists s v ds) (lists s v es)
  lists_same ds es h = record { weighed = λ f. lists_met f ds ∙ (h.weighed (listed f) ∙ sym (lists_met f es)) }
