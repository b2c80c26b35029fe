-- The weight of a term, which bounds what its normal form takes.
use Rattle.std.specs.Prelude.{ℕ, ◌+◌, ◌*◌, max}
use Rattle.ca_forms.specs.declared.sort.Sort.{Sort}
use Rattle.ca_forms.specs.declared.sort.Sort.TheVariants.{Bool as Truth}
use Rattle.ca_norm.specs.Terms.{PlainTerm, PlainTerms, number, truth, null, atom, add, sub, neg, mul, divide, remainder, less, less_equal, same, not, and, or, choose, read, read_at, result, select, put, add_at, fold, sweep, no_terms, term_and, sort_of}

-- what the products of the two sides of `same` come to, by their sort
abbrev pub same_spread : Sort → ℕ → ℕ → ℕ
same_spread Truth a b = 1 + a + b + a * b
same_spread sort a b = a + b

abbrev mutual
  -- how many products the term has once it is written as a sum of products
  pub spread : PlainTerm → ℕ
  spread (number n) = 1
  spread (truth b) = 1
  spread null = 1
  spread (atom sort group n) = 1
  spread (add a b) = spread a + spread b
  spread (sub a b) = spread a + spread b
  spread (neg a) = spread a
  spread (mul a b) = spread a * spread b
  spread (divide a n) = 1 + spread a
  spread (remainder a n) = 1 + spread a
  spread (less a b) = spread a + spread b
  spread (less_equal a b) = spread a + spread b
  spread (same a b) = same_spread (sort_of a) (spread a) (spread b)
  spread (not a) = 1 + spread a
  spread (and a b) = spread a * spread b
  spread (or a b) = spread a + spread b + spread a * spread b
  spread (choose c a b) = spread b + spread c * (spread a + spread b)
  spread (read sort p c f) = 1 + spread p
  spread (read_at sort p c f i) = 1 + spread p + spread i
  spread (result sort m p ts) = 1 + spread p + spreads ts
  spread (select a i) = 1 + spread i * share a
  spread (put a i v) = spread a + spread i + spread v
  spread (add_at a i v) = spread a + spread i + spread v
  spread (fold o a b) = spread a + spread b
  spread (sweep a f t v) = spread a + spread f + spread t + spread v

  pub spreads : PlainTerms → ℕ
  spreads no_terms = 0
  spreads (term_and t ts) = spread t + spreads ts

  -- how many products an item of the array has
  pub share : PlainTerm → ℕ
  share (put a i v) = 2 * share a + spread i * spread v
  share (add_at a i v) = share a + spread i * spread v
  share (sweep a f t v) = share a + spread f * spread t * spread v
  share (choose c a b) = share b + spread c * (share a + share b)
  share t = 1

abbrev mutual
  pub nodes : PlainTerm → ℕ
  nodes (number n) = 1
  nodes (truth b) = 1
  nodes null = 1
  nodes (atom sort group n) = 1
  nodes (add a b) = 1 + nodes a + nodes b
  nodes (sub a b) = 1 + nodes a + nodes b
  nodes (neg a) = 1 + nodes a
  nodes (mul a b) = 1 + nodes a + nodes b
  nodes (divide a n) = 1 + nodes a
  nodes (remainder a n) = 1 + nodes a
  nodes (less a b) = 1 + nodes a + nodes b
  nodes (less_equal a b) = 1 + nodes a + nodes b
  nodes (same a b) = 1 + nodes a + nodes b
  nodes (not a) = 1 + nodes a
  nodes (and a b) = 1 + nodes a + nodes b
  nodes (or a b) = 1 + nodes a + nodes b
  nodes (choose c a b) = 1 + nodes c + nodes a + nodes b
  nodes (read sort p c f) = 1 + nodes p
  nodes (read_at sort p c f i) = 1 + nodes p + nodes i
  nodes (result sort m p ts) = 1 + nodes p + all_nodes ts
  nodes (select a i) = 1 + nodes a + nodes i
  nodes (put a i v) = 1 + nodes a + nodes i + nodes v
  nodes (add_at a i v) = 1 + nodes a + nodes i + nodes v
  nodes (fold o a b) = 1 + nodes a + nodes b
  nodes (sweep a f t v) = 1 + nodes a + nodes f + nodes t + nodes v

  pub all_nodes : PlainTerms → ℕ
  all_nodes no_terms = 0
  all_nodes (term_and t ts) = nodes t + all_nodes ts

abbrev mutual
  -- a term of one node has depth 1
  pub depth : PlainTerm → ℕ
  depth (number n) = 1
  depth (truth b) = 1
  depth null = 1
  depth (atom sort group n) = 1
  depth (add a b) = 1 + max (depth a) (depth b)
  depth (sub a b) = 1 + max (depth a) (depth b)
  depth (neg a) = 1 + depth a
  depth (mul a b) = 1 + max (depth a) (depth b)
  depth (divide a n) = 1 + depth a
  depth (remainder a n) = 1 + depth a
  depth (less a b) = 1 + max (depth a) (depth b)
  depth (less_equal a b) = 1 + max (depth a) (depth b)
  depth (same a b) = 1 + max (depth a) (depth b)
  depth (not a) = 1 + depth a
  depth (and a b) = 1 + max (depth a) (depth b)
  depth (or a b) = 1 + max (depth a) (depth b)
  depth (choose c a b) = 1 + max (max (depth c) (depth a)) (depth b)
  depth (read sort p c f) = 1 + depth p
  depth (read_at sort p c f i) = 1 + max (depth p) (depth i)
  depth (result sort m p ts) = 1 + max (depth p) (most_depth ts)
  depth (select a i) = 1 + max (depth a) (depth i)
  depth (put a i v) = 1 + max (max (depth a) (depth i)) (depth v)
  depth (add_at a i v) = 1 + max (max (depth a) (depth i)) (depth v)
  depth (fold o a b) = 1 + max (depth a) (depth b)
  depth (sweep a f t v) = 1 + max (max (max (depth a) (depth f)) (depth t)) (depth v)

  pub most_depth : PlainTerms → ℕ
  most_depth no_terms = 0
  most_depth (term_and t ts) = max (depth t) (most_depth ts)

abbrev pub weight_of : PlainTerm → ℕ
weight_of t = max (max (spread t) (nodes t)) (16 * depth t)
