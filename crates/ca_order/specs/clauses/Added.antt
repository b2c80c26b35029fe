-- The points of a term put in order among others, the last first.
use Rattle.std.specs.Prelude.{ℕ, List}
use Rattle.ca_forms.specs.declared.sort.Sort.{Sort}
use Rattle.ca_forms.specs.declared.sort.Sort.TheVariants.{Long}
use Rattle.ca_norm.specs.Terms.{PlainTerm, PlainTerms, number, truth, null, atom, add, sub, neg, mul, divide, remainder, less, less_equal, same, not, and, or, choose, read, read_at, result, select, put, add_at, fold, sweep, no_terms, term_and}
use Rattle.ca_order.specs.declared.point.Point.{Point}
use Rattle.ca_order.specs.declared.point.Point.TheVariants as point
use Rattle.ca_order.specs.OrderSame.{with_point}

abbrev pub added_side : PlainTerm → List Point → List Point
added_side (number n) q = with_point (point.Number n) q
added_side t q = q

abbrev pub added_atom : Sort → ℕ → ℕ → List Point → List Point
added_atom Long group n q = with_point (point.Atom group n) q
added_atom sort group n q = q

abbrev mutual
  pub added : PlainTerm → List Point → List Point
  added (number n) q = q
  added (truth b) q = q
  added null q = q
  added (atom sort group n) q = added_atom sort group n q
  added (add a b) q = added a (added b q)
  added (sub a b) q = added a (added b q)
  added (neg a) q = added a q
  added (mul a b) q = added a (added b q)
  added (divide a n) q = added a q
  added (remainder a n) q = added a q
  added (less a b) q = added_side a (added_side b (added a (added b q)))
  added (less_equal a b) q = added_side a (added_side b (added a (added b q)))
  added (same a b) q = added_side a (added_side b (added a (added b q)))
  added (not a) q = added a q
  added (and a b) q = added a (added b q)
  added (or a b) q = added a (added b q)
  added (choose c a b) q = added c (added a (added b q))
  added (read sort p c f) q = added p q
  added (read_at sort p c f i) q = added p (added i q)
  added (result sort m p ts) q = added p (added_all ts q)
  added (select a i) q = added a (added i q)
  added (put a i x) q = added a (added i (added x q))
  added (add_at a i x) q = added a (added i (added x q))
  added (fold o a b) q = added a (added b q)
  added (sweep a f t x) q = added a (added f (added t (added x q)))

  pub added_all : PlainTerms → List Point → List Point
  added_all no_terms q = q
  added_all (term_and t ts) q = added t (added_all ts q)
