-- How often an order demands something, as a term.
use Rattle.std.specs.Prelude.{◌≡◌, ◌⊎◌, pos, false, List, [], ◌∷◌, if◌then◌else◌}
use Rattle.std.specs.Ordering.{is_eq}
use Rattle.ca_norm.specs.Terms.{PlainTerm, number, add, choose}
use Rattle.ca_shared_terms.specs.Heavy.{is_heavy}
use Rattle.ca_symbolic.specs.States.{PlainDemand}
use Rattle.ca_verdicts.specs.Keys.{Key, key_of, key_cmp}
use Rattle.ca_verdicts.specs.Demands.{demanded_at}
use Rattle.ca_order.specs.OrderSame.{OrderSame}

-- 1 where the condition holds
abbrev pub counted : PlainTerm → PlainTerm
counted c = choose c (number (pos 1)) (number (pos 0))

-- the conditions of the demands that have the key, in their order
abbrev pub conditions_of : Key → List PlainDemand → List PlainTerm
conditions_of k [] = []
conditions_of k (d ∷ ds) = if is_eq (key_cmp k (key_of d)) then d.guard ∷ conditions_of k ds else conditions_of k ds

abbrev pub counted_onto : PlainTerm → List PlainTerm → PlainTerm
counted_onto t [] = t
counted_onto t (c ∷ cs) = counted_onto (add t (counted c)) cs

-- how many of the conditions hold, summed from the left
abbrev pub count_of : List PlainTerm → PlainTerm
count_of [] = number (pos 0)
count_of (c ∷ cs) = counted_onto (counted c) cs

-- how often there is a demand with the key
abbrev pub count_at : Key → List PlainDemand → PlainTerm
count_at k ds = count_of (conditions_of k ds)

-- Both are demanded as often: by their forms, or under each order of their points.
pub record LightOrderSame (t u : PlainTerm) : Type 0 where
  pub first : is_heavy t ≡ false
  pub second : is_heavy u ≡ false
  pub same : OrderSame t u

abbrev pub SameDemand : Key → List PlainDemand → List PlainDemand → Type 0
SameDemand k ds es = (demanded_at k ds ≡ demanded_at k es) ⊎ LightOrderSame (count_at k ds) (count_at k es)

-- the same is demanded at each key
abbrev pub SameDemands : List PlainDemand → List PlainDemand → Type 0
SameDemands ds es = (k : Key) → SameDemand k ds es
