-- How large a term is, by which a walk over it is seen to end.
use Rattle.std.specs.Prelude.{ℕ, ◌+◌, ◌≤◌, List, [], ◌∷◌}
use Rattle.std.proofs.Common.{arith}
use denote.Param.Weighed.{most}
use Rattle.ca_norm.specs.Terms.{PlainTerm, PlainTerms, number, truth, null, atom, add, sub, neg, mul, divide, remainder, less, less_equal, same, not, and, or, choose, read, read_at, result, select, put, add_at, fold, sweep, no_terms, term_and, terms_of}

abbrev mutual
  pub term_size : PlainTerm → ℕ
  term_size (number n) = 0
  term_size (truth b) = 0
  term_size null = 0
  term_size (atom s g n) = 0
  term_size (add a b) = term_size a + term_size b + 1
  term_size (sub a b) = term_size a + term_size b + 1
  term_size (neg a) = term_size a + 1
  term_size (mul a b) = term_size a + term_size b + 1
  term_size (divide a n) = term_size a + 1
  term_size (remainder a n) = term_size a + 1
  term_size (less a b) = term_size a + term_size b + 1
  term_size (less_equal a b) = term_size a + term_size b + 1
  term_size (same a b) = term_size a + term_size b + 1
  term_size (not a) = term_size a + 1
  term_size (and a b) = term_size a + term_size b + 1
  term_size (or a b) = term_size a + term_size b + 1
  term_size (choose c a b) = term_size c + term_size a + term_size b + 1
  term_size (read s p c f) = term_size p + 1
  term_size (read_at s p c f i) = term_size p + term_size i + 1
  term_size (result s m p ts) = term_size p + terms_size ts + 1
  term_size (select a i) = term_size a + term_size i + 1
  term_size (put a i v) = term_size a + term_size i + term_size v + 1
  term_size (add_at a i v) = term_size a + term_size i + term_size v + 1
  term_size (fold o a b) = term_size a + term_size b + 1
  term_size (sweep a f t v) = term_size a + term_size f + term_size t + term_size v + 1

  pub terms_size : PlainTerms → ℕ
  terms_size no_terms = 1
  terms_size (term_and t ts) = term_size t + 1 + terms_size ts

pub most_terms : (ts : List PlainTerm) → most (λ t. term_size t + 1) ts ≤ terms_size (terms_of ts)
most_terms [] = omega arith
most_terms (t ∷ ts) = omega (arith, most_terms ts)
