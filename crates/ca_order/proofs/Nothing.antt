-- Under an order of no points a term stays as it is.
use Rattle.std.proofs.Common.{◌≡◌, ℕ, [], refl, ap, ap₂, ◌∙◌}
use Rattle.ca_forms.specs.declared.sort.Sort.{Sort}
use Rattle.ca_forms.specs.declared.sort.Sort.TheVariants.{Long}
use Rattle.ca_norm.specs.Terms.{PlainTerm, PlainTerms, number, truth, null, atom, add, sub, neg, mul, divide, remainder, less, less_equal, same, not, and, or, choose, read, read_at, result, select, put, add_at, fold, sweep, no_terms, term_and, sort_of}
use Rattle.ca_order.specs.Under.{atom_under, same_under, under, all_under}

atom_stays : (s : Sort) (g n : ℕ) → atom_under [] s g n ≡ atom s g n
atom_stays Long g n = refl
atom_stays s g n = refl

same_stays : (s : Sort) (a b : PlainTerm) → same_under [] s a b ≡ same a b
same_stays Long a b = refl
same_stays s a b = refl

mutual
  pub stays : (t : PlainTerm) → under [] t ≡ t
  stays (atom s g n) = atom_stays s g n
  stays (add a b) = ap₂ add (stays a) (stays b)
  stays (sub a b) = ap₂ sub (stays a) (stays b)
  stays (neg a) = ap neg (stays a)
  stays (mul a b) = ap₂ mul (stays a) (stays b)
  stays (divide a n) = ap (λ z. divide z n) (stays a)
  stays (remainder a n) = ap (λ z. remainder z n) (stays a)
  stays (less a b) = ap₂ less (stays a) (stays b)
  stays (less_equal a b) = ap₂ less_equal (stays a) (stays b)
  stays (same a b) = same_stays (sort_of a) (under [] a) (under [] b) ∙ ap₂ same (stays a) (stays b)
  stays (not a) = ap not (stays a)
  stays (and a b) = ap₂ and (stays a) (stays b)
  stays (or a b) = ap₂ or (stays a) (stays b)
  stays (choose c a b) = ap (λ z. choose z (under [] a) (under [] b)) (stays c) ∙ ap₂ (choose c) (stays a) (stays b)
  stays (read s p c f) = ap (λ z. read s z c f) (stays p)
  stays (read_at s p c f i) = ap₂ (λ y z. read_at s y c f z) (stays p) (stays i)
  stays (result s m p ts) = ap₂ (result s m) (stays p) (all_stay ts)
  stays (select a i) = ap₂ select (stays a) (stays i)
  stays (put a i x) = ap (λ z. put z (under [] i) (under [] x)) (stays a) ∙ ap₂ (put a) (stays i) (stays x)
  stays (add_at a i x) = ap (λ z. add_at z (under [] i) (under [] x)) (stays a) ∙ ap₂ (add_at a) (stays i) (stays x)
  stays (fold o a b) = ap₂ (fold o) (stays a) (stays b)
  stays (sweep a f t x) = ap₂ (λ y z. sweep y z (under [] t) (under [] x)) (stays a) (stays f) ∙ ap₂ (sweep a f) (stays t) (stays x)
  stays (number n) = refl
  stays (truth b) = refl
  stays null = refl

  all_stay : (ts : PlainTerms) → all_under [] ts ≡ ts
  all_stay no_terms = refl
  all_stay (term_and t ts) = ap₂ term_and (stays t) (all_stay ts)
