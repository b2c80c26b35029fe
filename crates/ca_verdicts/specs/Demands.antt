-- What an order demands, whatever the order in which it does: for each kind of demand and its parts as normal forms,
-- the sum of the conditions under which such demands are made. Truth is 1, so where the sum is 2 there are two of them,
-- and what is demanded under a condition and under its negation is demanded once.
use Rattle.std.specs.Prelude.{◌≡◌, if◌then◌else◌, List, [], ◌∷◌, ◌++◌}
use Rattle.std.specs.Ordering.{is_eq}
use Rattle.ca_sums.specs.Sums.{Sum}
use Rattle.ca_forms.specs.Plain.{PlainMonomial, PlainPolynomial}
use Rattle.ca_forms.specs.Rules.{gathered}
use Rattle.ca_norm.specs.Forms.{expand}
use Rattle.ca_symbolic.specs.States.{PlainDemand}
use Rattle.ca_verdicts.specs.Keys.{Key, key_of, key_cmp}

-- the conditions of all demands that have the key, summed
abbrev pub conditions : Key → List PlainDemand → Sum PlainMonomial
conditions k [] = []
conditions k (d ∷ ds) = (if is_eq (key_cmp k (key_of d)) then expand d.guard else []) ++ conditions k ds

-- the normal form of that sum
abbrev pub demanded_at : Key → List PlainDemand → PlainPolynomial
demanded_at k ds = gathered (conditions k ds)

-- the sums at each key have one form
abbrev pub SameSums : List PlainDemand → List PlainDemand → Type 0
SameSums ds es = (k : Key) → demanded_at k ds ≡ demanded_at k es
