-- Under an order a term is no heavier.
use Rattle.std.proofs.Common.{◌≡◌, ℕ, ◌+◌, ◌*◌, ◌≤◌, Bool, Option, Some, None, sym, arith, subst}
use Rattle.std.specs.Prelude.{nat_lt, nat_eq}
use Rattle.std.proofs.Math.Nat.{one-le-mul}
use Rattle.std.proofs.lemmas.Nat.{mul-le}
use Rattle.ca_forms.specs.declared.sort.Sort.{Sort}
use Rattle.ca_forms.specs.declared.sort.Sort.TheVariants.{Long, Bool as Truth, Pointer, LongArray, BoolArray, PointerArray}
use Rattle.ca_norm.specs.Terms.{PlainTerm, PlainTerms, number, truth, null, atom, add, sub, neg, mul, divide, remainder, less, less_equal, same, not, and, or, choose, read, read_at, result, select, put, add_at, fold, sweep, no_terms, term_and, sort_of}
use Rattle.ca_norm.specs.Weights.{spread, spreads, share, nodes, all_nodes, depth, most_depth, same_spread, weight_of}
use Rattle.ca_order.specs.declared.point.Point.{Point}
use Rattle.ca_order.specs.declared.point.Point.TheVariants as point
use Rattle.ca_order.specs.Points.{point_term, Ranked}
use Rattle.ca_order.specs.Under.{leader, decided, rank_of_term, atom_under, not_more, same_under, under, all_under}
use Rattle.ca_order.proofs.Sorts.{sort_kept}

one_same : (s : Sort) (a b : ℕ) → 1 ≤ a → 1 ≤ same_spread s a b
one_same Truth a b f = omega (arith, f)
one_same Long a b f = omega (arith, f)
one_same Pointer a b f = omega (arith, f)
one_same LongArray a b f = omega (arith, f)
one_same BoolArray a b f = omega (arith, f)
one_same PointerArray a b f = omega (arith, f)

-- each term has a product
some : (t : PlainTerm) → 1 ≤ spread t
some (number n) = omega arith
some (truth b) = omega arith
some null = omega arith
some (atom s g n) = omega arith
some (add a b) = omega (arith, some a)
some (sub a b) = omega (arith, some a)
some (neg a) = some a
some (mul a b) = one-le-mul (some a) (some b)
some (divide a n) = omega arith
some (remainder a n) = omega arith
some (less a b) = omega (arith, some a)
some (less_equal a b) = omega (arith, some a)
some (same a b) = one_same (sort_of a) (spread a) (spread b) (some a)
some (not a) = omega arith
some (and a b) = one-le-mul (some a) (some b)
some (or a b) = omega (arith, some a)
some (choose c a b) = omega (arith, some b)
some (read s p c f) = omega arith
some (read_at s p c f i) = omega arith
some (result s m p ts) = omega arith
some (select a i) = omega arith
some (put a i x) = omega (arith, some a)
some (add_at a i x) = omega (arith, some a)
some (fold o a b) = omega (arith, some a)
some (sweep a f t x) = omega (arith, some a)

-- one is no heavier than another in any respect
record Within (t u : PlainTerm) : Type 0 where
  spread_in : spread t ≤ spread u
  share_in : share t ≤ share u
  nodes_in : nodes t ≤ nodes u
  depth_in : depth t ≤ depth u

within_itself : (t : PlainTerm) → Within t t
within_itself t = record { spread_in = omega arith; share_in = omega arith; nodes_in = omega arith; depth_in = omega arith }

point_within : (p : Point) (s : Sort) (g n : ℕ) → Within (point_term p) (atom s g n)
point_within (point.Number m) s g n = record { spread_in = omega arith; share_in = omega arith; nodes_in = omega arith; depth_in = omega arith }
point_within (point.Atom h m) s g n = record { spread_in = omega arith; share_in = omega arith; nodes_in = omega arith; depth_in = omega arith }

atom_within : (r : Ranked) (s : Sort) (g n : ℕ) → Within (atom_under r s g n) (atom s g n)
atom_within r Long g n = point_within (leader r (point.Atom g n)) Long g n
atom_within r s g n = within_itself (atom s g n)

-- a comparison that is decided
decided_within : (j k : Option ℕ) (test : ℕ → ℕ → Bool) (t u : PlainTerm) → Within t u → 1 ≤ spread u → 1 ≤ share u → 1 ≤ nodes u → 1 ≤ depth u → Within (decided j k test t) u
decided_within (Some m) (Some n) test t u w a b c d = record { spread_in = a; share_in = b; nodes_in = c; depth_in = d }
decided_within (Some m) None test t u w a b c d = w
decided_within None k test t u w a b c d = w

same_more : (s : Sort) (a b c d : ℕ) → a ≤ c → b ≤ d → same_spread s a b ≤ same_spread s c d
same_more Truth a b c d f g = omega (arith, f, g, mul-le a b c d f g)
same_more Long a b c d f g = omega (arith, f, g)
same_more Pointer a b c d f g = omega (arith, f, g)
same_more LongArray a b c d f g = omega (arith, f, g)
same_more BoolArray a b c d f g = omega (arith, f, g)
same_more PointerArray a b c d f g = omega (arith, f, g)

plain_same : (a b c d : PlainTerm) → sort_of a ≡ sort_of c → Within a c → Within b d → Within (same a b) (same c d)
plain_same a b c d e f g = record {
  spread_in = subst (λ s. same_spread s (spread a) (spread b) ≤ spread (same c d)) (sym e) (same_more (sort_of c) (spread a) (spread b) (spread c) (spread d) f.spread_in g.spread_in);
  share_in = omega arith;
  nodes_in = omega (arith, f.nodes_in, g.nodes_in);
  depth_in = omega (arith, f.depth_in, g.depth_in);
}

same_within : (r : Ranked) (s : Sort) (a b c d : PlainTerm) → sort_of a ≡ sort_of c → Within a c → Within b d → Within (same_under r s a b) (same c d)
same_within r Long a b c d e f g = decided_within (rank_of_term r a) (rank_of_term r b) nat_eq (same a b) (same c d) (plain_same a b c d e f g) (some (same c d)) (omega arith) (omega arith) (omega arith)
same_within r s a b c d e f g = plain_same a b c d e f g

choice_more : (a b c d e f : ℕ) → a ≤ d → b ≤ e → c ≤ f → c + a * (b + c) ≤ f + d * (e + f)
choice_more a b c d e f g h i = omega (arith, i, mul-le a (b + c) d (e + f) g (omega (arith, h, i)))

-- all measures of a row
record AllWithin (ts us : PlainTerms) : Type 0 where
  spread_in : spreads ts ≤ spreads us
  nodes_in : all_nodes ts ≤ all_nodes us
  depth_in : most_depth ts ≤ most_depth us

mutual
  within : (r : Ranked) (t : PlainTerm) → Within (under r t) t
  within r (number n) = within_itself (number n)
  within r (truth b) = within_itself (truth b)
  within r null = within_itself null
  within r (atom s g n) = atom_within r s g n
  within r (add a b) = let f = within r a in let g = within r b in record { spread_in = omega (arith, f.spread_in, g.spread_in); share_in = omega arith; nodes_in = omega (arith, f.nodes_in, g.nodes_in); depth_in = omega (arith, f.depth_in, g.depth_in) }
  within r (sub a b) = let f = within r a in let g = within r b in record { spread_in = omega (arith, f.spread_in, g.spread_in); share_in = omega arith; nodes_in = omega (arith, f.nodes_in, g.nodes_in); depth_in = omega (arith, f.depth_in, g.depth_in) }
  within r (neg a) = let f = within r a in record { spread_in = f.spread_in; share_in = omega arith; nodes_in = omega (arith, f.nodes_in); depth_in = omega (arith, f.depth_in) }
  within r (mul a b) = let f = within r a in let g = within r b in record { spread_in = mul-le (spread (under r a)) (spread (under r b)) (spread a) (spread b) f.spread_in g.spread_in; share_in = omega arith; nodes_in = omega (arith, f.nodes_in, g.nodes_in); depth_in = omega (arith, f.depth_in, g.depth_in) }
  within r (divide a n) = let f = within r a in record { spread_in = omega (arith, f.spread_in); share_in = omega arith; nodes_in = omega (arith, f.nodes_in); depth_in = omega (arith, f.depth_in) }
  within r (remainder a n) = let f = within r a in record { spread_in = omega (arith, f.spread_in); share_in = omega arith; nodes_in = omega (arith, f.nodes_in); depth_in = omega (arith, f.depth_in) }
  within r (less a b) =
      let f = within r a in
      let g = within r b in
      decided_within (rank_of_term r (under r a)) (rank_of_term r (under r b)) nat_lt (less (under r a) (under r b)) (less a b)
      (record { spread_in = omega (arith, f.spread_in, g.spread_in); share_in = omega arith; nodes_in = omega (arith, f.nodes_in, g.nodes_in); depth_in = omega (arith, f.depth_in, g.depth_in) }) (some (less a b)) (omega arith) (omega arith) (omega arith)
  within r (less_equal a b) =
      let f = within r a in
      let g = within r b in
      decided_within (rank_of_term r (under r a)) (rank_of_term r (under r b)) not_more (less_equal (under r a) (under r b)) (less_equal a b)
      (record { spread_in = omega (arith, f.spread_in, g.spread_in); share_in = omega arith; nodes_in = omega (arith, f.nodes_in, g.nodes_in); depth_in = omega (arith, f.depth_in, g.depth_in) }) (some (less_equal a b)) (omega arith) (omega arith) (omega arith)
  within r (same a b) = same_within r (sort_of a) (under r a) (under r b) a b (sort_kept r a) (within r a) (within r b)
  within r (not a) = let f = within r a in record { spread_in = omega (arith, f.spread_in); share_in = omega arith; nodes_in = omega (arith, f.nodes_in); depth_in = omega (arith, f.depth_in) }
  within r (and a b) = let f = within r a in let g = within r b in record { spread_in = mul-le (spread (under r a)) (spread (under r b)) (spread a) (spread b) f.spread_in g.spread_in; share_in = omega arith; nodes_in = omega (arith, f.nodes_in, g.nodes_in); depth_in = omega (arith, f.depth_in, g.depth_in) }
  within r (or a b) = let f = within r a in let g = within r b in record { spread_in = omega (arith, f.spread_in, g.spread_in, mul-le (spread (under r a)) (spread (under r b)) (spread a) (spread b) f.spread_in g.spread_in); share_in = omega arith; nodes_in = omega (arith, f.nodes_in, g.nodes_in); depth_in = omega (arith, f.depth_in, g.depth_in) }
  within r (choose c a b) =
      let e = within r c in
      let f = within r a in
      let g = within r b in
      record {
        spread_in = choice_more (spread (under r c)) (spread (under r a)) (spread (under r b)) (spread c) (spread a) (spread b) e.spread_in f.spread_in g.spread_in;
        share_in = choice_more (spread (under r c)) (share (under r a)) (share (under r b)) (spread c) (share a) (share b) e.spread_in f.share_in g.share_in;
        nodes_in = omega (arith, e.nodes_in, f.nodes_in, g.nodes_in);
        depth_in = omega (arith, e.depth_in, f.depth_in, g.depth_in);
      }
  within r (read s p c f) = let e = within r p in record { spread_in = omega (arith, e.spread_in); share_in = omega arith; nodes_in = omega (arith, e.nodes_in); depth_in = omega (arith, e.depth_in) }
  within r (read_at s p c f i) = let e = within r p in let g = within r i in record { spread_in = omega (arith, e.spread_in, g.spread_in); share_in = omega arith; nodes_in = omega (arith, e.nodes_in, g.nodes_in); depth_in = omega (arith, e.depth_in, g.depth_in) }
  within r (result s m p ts) = let e = within r p in let g = all_within r ts in record { spread_in = omega (arith, e.spread_in, g.spread_in); share_in = omega arith; nodes_in = omega (arith, e.nodes_in, g.nodes_in); depth_in = omega (arith, e.depth_in, g.depth_in) }
  within r (select a i) = let f = within r a in let g = within r i in record { spread_in = omega (arith, mul-le (spread (under r i)) (share (under r a)) (spread i) (share a) g.spread_in f.share_in); share_in = omega arith; nodes_in = omega (arith, f.nodes_in, g.nodes_in); depth_in = omega (arith, f.depth_in, g.depth_in) }
  within r (put a i x) =
      let f = within r a in
      let g = within r i in
      let h = within r x in
      record {
        spread_in = omega (arith, f.spread_in, g.spread_in, h.spread_in);
        share_in = omega (arith, f.share_in, mul-le (spread (under r i)) (spread (under r x)) (spread i) (spread x) g.spread_in h.spread_in);
        nodes_in = omega (arith, f.nodes_in, g.nodes_in, h.nodes_in);
        depth_in = omega (arith, f.depth_in, g.depth_in, h.depth_in);
      }
  within r (add_at a i x) =
      let f = within r a in
      let g = within r i in
      let h = within r x in
      record {
        spread_in = omega (arith, f.spread_in, g.spread_in, h.spread_in);
        share_in = omega (arith, f.share_in, mul-le (spread (under r i)) (spread (under r x)) (spread i) (spread x) g.spread_in h.spread_in);
        nodes_in = omega (arith, f.nodes_in, g.nodes_in, h.nodes_in);
        depth_in = omega (arith, f.depth_in, g.depth_in, h.depth_in);
      }
  within r (fold o a b) = let f = within r a in let g = within r b in record { spread_in = omega (arith, f.spread_in, g.spread_in); share_in = omega arith; nodes_in = omega (arith, f.nodes_in, g.nodes_in); depth_in = omega (arith, f.depth_in, g.depth_in) }
  within r (sweep a f t x) =
      let d = within r a in
      let e = within r f in
      let g = within r t in
      let h = within r x in
      let bounds = mul-le (spread (under r f)) (spread (under r t)) (spread f) (spread t) e.spread_in g.spread_in in
      record {
        spread_in = omega (arith, d.spread_in, e.spread_in, g.spread_in, h.spread_in);
        share_in = omega (arith, d.share_in, mul-le (spread (under r f) * spread (under r t)) (spread (under r x)) (spread f * spread t) (spread x) bounds h.spread_in);
        nodes_in = omega (arith, d.nodes_in, e.nodes_in, g.nodes_in, h.nodes_in);
        depth_in = omega (arith, d.depth_in, e.depth_in, g.depth_in, h.depth_in);
      }

  all_within : (r : Ranked) (ts : PlainTerms) → AllWithin (all_under r ts) ts
  all_within r no_terms = record { spread_in = omega arith; nodes_in = omega arith; depth_in = omega arith }
  all_within r (term_and t ts) = let f = within r t in let g = all_within r ts in record { spread_in = omega (arith, f.spread_in, g.spread_in); nodes_in = omega (arith, f.nodes_in, g.nodes_in); depth_in = omega (arith, f.depth_in, g.depth_in) }

pub no_heavier : (r : Ranked) (t : PlainTerm) → weight_of (under r t) ≤ weight_of t
no_heavier r t = let w = within r t in omega (arith, w.spread_in, w.nodes_in, w.depth_in)
