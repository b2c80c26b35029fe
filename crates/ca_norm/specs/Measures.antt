-- What the weight of a term is made of, as it is counted in memory.
use Rattle.std.specs.Prelude.{ℕ, ◌≡◌, ◌-◌, ◌^◌, min}
use Rattle.ca_norm.specs.declared.weigh.Measure.{Measure}
use Rattle.ca_norm.specs.Terms.{PlainTerm, PlainTerms}
use Rattle.ca_norm.specs.Weights.{spread, spreads, share, nodes, all_nodes, depth, most_depth}

-- n is x, as far as the largest word
abbrev pub Counts : ℕ → ℕ → Type 0
Counts n x = n ≡ min x (2 ^ 64 - 1)

-- the measure of a term
abbrev pub Measures : Measure → PlainTerm → Type 0
Measures m t = Counts m.spread (spread t) × Counts m.nodes (nodes t) × Counts m.depth (depth t) × Counts m.share (share t)

-- the measure of terms that stand side by side
abbrev pub MeasuresAll : Measure → PlainTerms → Type 0
MeasuresAll m ts = Counts m.spread (spreads ts) × Counts m.nodes (all_nodes ts) × Counts m.depth (most_depth ts)
