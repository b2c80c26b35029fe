-- Under an order a term keeps its sort.
use Rattle.std.proofs.Common.{◌≡◌, ℕ, Bool, Option, Some, None, refl, ap}
use Rattle.std.specs.Prelude.{nat_lt, nat_eq}
use Rattle.ca_forms.specs.declared.sort.Sort.{Sort}
use Rattle.ca_forms.specs.declared.sort.Sort.TheVariants.{Long, Bool as Truth}
use Rattle.ca_norm.specs.Terms.{PlainTerm, atom, less, less_equal, same, choose, select, put, add_at, sweep, sort_of, item_sort}
use Rattle.ca_order.specs.declared.point.Point.{Point}
use Rattle.ca_order.specs.declared.point.Point.TheVariants as point
use Rattle.ca_order.specs.Points.{point_term, Ranked}
use Rattle.ca_order.specs.Under.{leader, decided, rank_of_term, atom_under, not_more, same_under, under}

pub point_sort : (p : Point) → sort_of (point_term p) ≡ Long
point_sort (point.Number n) = refl
point_sort (point.Atom g n) = refl

atom_sort : (r : Ranked) (s : Sort) (g n : ℕ) → sort_of (atom_under r s g n) ≡ s
atom_sort r Long g n = point_sort (leader r (point.Atom g n))
atom_sort r s g n = refl

decided_sort : (j k : Option ℕ) (test : ℕ → ℕ → Bool) (t : PlainTerm) → sort_of t ≡ Truth → sort_of (decided j k test t) ≡ Truth
decided_sort (Some m) (Some n) test t e = refl
decided_sort (Some m) None test t e = e
decided_sort None k test t e = e

same_sort : (r : Ranked) (s : Sort) (a b : PlainTerm) → sort_of (same_under r s a b) ≡ Truth
same_sort r Long a b = decided_sort (rank_of_term r a) (rank_of_term r b) nat_eq (same a b) refl
same_sort r s a b = refl

pub sort_kept : (r : Ranked) (t : PlainTerm) → sort_of (under r t) ≡ sort_of t
sort_kept r (atom s g n) = atom_sort r s g n
sort_kept r (less a b) = decided_sort (rank_of_term r (under r a)) (rank_of_term r (under r b)) nat_lt (less (under r a) (under r b)) refl
sort_kept r (less_equal a b) = decided_sort (rank_of_term r (under r a)) (rank_of_term r (under r b)) not_more (less_equal (under r a) (under r b)) refl
sort_kept r (same a b) = same_sort r (sort_of a) (under r a) (under r b)
sort_kept r (choose c a b) = sort_kept r a
sort_kept r (select a i) = ap item_sort (sort_kept r a)
sort_kept r (put a i x) = sort_kept r a
sort_kept r (add_at a i x) = sort_kept r a
sort_kept r (sweep a f t x) = sort_kept r a
sort_kept r t = refl
