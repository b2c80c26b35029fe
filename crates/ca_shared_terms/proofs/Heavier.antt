-- A term weighs no less than what stands in it, but for an array of which an item is taken.
use Rattle.std.proofs.Common.{◌≡◌, ℕ, ℤ, ◌*◌, ◌<◌, ◌≤◌, true, arith}
use Rattle.std.proofs.Math.Nat.{mul-pos, le-mul_of_pos_right}
use Rattle.std.proofs.lemmas.Bool.{lt-ltb, ltb-true}
use Rattle.ca_folds.specs.declared.operator.FoldOp.{FoldOp}
use Rattle.ca_forms.specs.declared.sort.Sort.{Sort}
use Rattle.ca_forms.specs.declared.sort.Sort.TheVariants.{Bool as Truth}
use Rattle.ca_norm.specs.Terms.{PlainTerm, number, truth, null, atom, add, sub, neg, mul, divide, remainder, less, less_equal, same, not, and, or, choose, read, read_at, result, select, put, add_at, fold, sweep, sort_of}
use Rattle.ca_norm.specs.Weights.{same_spread, spread, nodes, depth, weight_of}
use Rattle.ca_shared_terms.specs.Heavy.{is_heavy}

some_same : (s : Sort) (a b : ℕ) → 0 < a → 0 < same_spread s a b
some_same Truth a b p = omega arith
some_same s a b p = omega (arith, p)

-- each term has a product, and so has each item of an array
mutual
  pub some_spread : (t : PlainTerm) → 0 < spread t
  some_spread (number n) = omega arith
  some_spread (truth b) = omega arith
  some_spread null = omega arith
  some_spread (atom s g n) = omega arith
  some_spread (add a b) = omega (arith, some_spread a)
  some_spread (sub a b) = omega (arith, some_spread a)
  some_spread (neg a) = some_spread a
  some_spread (mul a b) = mul-pos (some_spread a) (some_spread b)
  some_spread (divide a n) = omega arith
  some_spread (remainder a n) = omega arith
  some_spread (less a b) = omega (arith, some_spread a)
  some_spread (less_equal a b) = omega (arith, some_spread a)
  some_spread (same a b) = some_same (sort_of a) (spread a) (spread b) (some_spread a)
  some_spread (not a) = omega arith
  some_spread (and a b) = mul-pos (some_spread a) (some_spread b)
  some_spread (or a b) = omega (arith, some_spread a)
  some_spread (choose c a b) = omega (arith, some_spread b)
  some_spread (read s p c f) = omega arith
  some_spread (read_at s p c f i) = omega arith
  some_spread (result s m p ts) = omega arith
  some_spread (select a i) = omega arith
  some_spread (put a i x) = omega (arith, some_spread a)
  some_spread (add_at a i x) = omega (arith, some_spread a)
  some_spread (fold o a b) = omega (arith, some_spread a)
  some_spread (sweep a f t x) = omega (arith, some_spread a)

-- a term that is no smaller in each of the three numbers
pub heavier : (t u : PlainTerm) → spread t ≤ spread u → nodes t ≤ nodes u → depth t ≤ depth u → is_heavy t ≡ true → is_heavy u ≡ true
heavier t u p q r h =
    let more : 65536 < weight_of t = ltb-true 65536 (weight_of t) h in
    lt-ltb 65536 (weight_of u) (omega (arith, more, p, q, r))

-- the left factor, and the right one
grown : (a b : ℕ) → 0 < b → a ≤ a * b
grown a b p = le-mul_of_pos_right a p

grown_right : (a b : ℕ) → 0 < a → b ≤ a * b
grown_right a b p = omega (arith, le-mul_of_pos_right b p)

same_left : (s : Sort) (a b : ℕ) → a ≤ same_spread s a b
same_left Truth a b = omega arith
same_left s a b = omega arith

same_right : (s : Sort) (a b : ℕ) → b ≤ same_spread s a b
same_right Truth a b = omega arith
same_right s a b = omega arith

pub neg_heavier : (a : PlainTerm) → is_heavy a ≡ true → is_heavy (neg a) ≡ true
neg_heavier a = heavier a (neg a) (omega arith) (omega arith) (omega arith)

pub not_heavier : (a : PlainTerm) → is_heavy a ≡ true → is_heavy (not a) ≡ true
not_heavier a = heavier a (not a) (omega arith) (omega arith) (omega arith)

module _ (a b : PlainTerm) where
  pub add_left : is_heavy a ≡ true → is_heavy (add a b) ≡ true
  add_left = heavier a (add a b) (omega arith) (omega arith) (omega arith)

  pub add_right : is_heavy b ≡ true → is_heavy (add a b) ≡ true
  add_right = heavier b (add a b) (omega arith) (omega arith) (omega arith)

  pub sub_left : is_heavy a ≡ true → is_heavy (sub a b) ≡ true
  sub_left = heavier a (sub a b) (omega arith) (omega arith) (omega arith)

  pub sub_right : is_heavy b ≡ true → is_heavy (sub a b) ≡ true
  sub_right = heavier b (sub a b) (omega arith) (omega arith) (omega arith)

  pub mul_left : is_heavy a ≡ true → is_heavy (mul a b) ≡ true
  mul_left = heavier a (mul a b) (grown (spread a) (spread b) (some_spread b)) (omega arith) (omega arith)

  pub mul_right : is_heavy b ≡ true → is_heavy (mul a b) ≡ true
  mul_right = heavier b (mul a b) (grown_right (spread a) (spread b) (some_spread a)) (omega arith) (omega arith)

  pub and_left : is_heavy a ≡ true → is_heavy (and a b) ≡ true
  and_left = heavier a (and a b) (grown (spread a) (spread b) (some_spread b)) (omega arith) (omega arith)

  pub and_right : is_heavy b ≡ true → is_heavy (and a b) ≡ true
  and_right = heavier b (and a b) (grown_right (spread a) (spread b) (some_spread a)) (omega arith) (omega arith)

  pub or_left : is_heavy a ≡ true → is_heavy (or a b) ≡ true
  or_left = heavier a (or a b) (omega arith) (omega arith) (omega arith)

  pub or_right : is_heavy b ≡ true → is_heavy (or a b) ≡ true
  or_right = heavier b (or a b) (omega arith) (omega arith) (omega arith)

  pub less_left : is_heavy a ≡ true → is_heavy (less a b) ≡ true
  less_left = heavier a (less a b) (omega arith) (omega arith) (omega arith)

  pub less_right : is_heavy b ≡ true → is_heavy (less a b) ≡ true
  less_right = heavier b (less a b) (omega arith) (omega arith) (omega arith)

  pub less_equal_left : is_heavy a ≡ true → is_heavy (less_equal a b) ≡ true
  less_equal_left = heavier a (less_equal a b) (omega arith) (omega arith) (omega arith)

  pub less_equal_right : is_heavy b ≡ true → is_heavy (less_equal a b) ≡ true
  less_equal_right = heavier b (less_equal a b) (omega arith) (omega arith) (omega arith)

  pub same_heavier_left : is_heavy a ≡ true → is_heavy (same a b) ≡ true
  same_heavier_left = heavier a (same a b) (same_left (sort_of a) (spread a) (spread b)) (omega arith) (omega arith)

  pub same_heavier_right : is_heavy b ≡ true → is_heavy (same a b) ≡ true
  same_heavier_right = heavier b (same a b) (same_right (sort_of a) (spread a) (spread b)) (omega arith) (omega arith)

pub fold_left : (o : FoldOp) (a b : PlainTerm) → is_heavy a ≡ true → is_heavy (fold o a b) ≡ true
fold_left o a b = heavier a (fold o a b) (omega arith) (omega arith) (omega arith)

pub fold_right : (o : FoldOp) (a b : PlainTerm) → is_heavy b ≡ true → is_heavy (fold o a b) ≡ true
fold_right o a b = heavier b (fold o a b) (omega arith) (omega arith) (omega arith)

pub divide_left : (a : PlainTerm) (n : ℤ) → is_heavy a ≡ true → is_heavy (divide a n) ≡ true
divide_left a n = heavier a (divide a n) (omega arith) (omega arith) (omega arith)

pub remainder_left : (a : PlainTerm) (n : ℤ) → is_heavy a ≡ true → is_heavy (remainder a n) ≡ true
remainder_left a n = heavier a (remainder a n) (omega arith) (omega arith) (omega arith)

module _ (a i x : PlainTerm) where
  pub put_item_heavier : is_heavy x ≡ true → is_heavy (put a i x) ≡ true
  put_item_heavier = heavier x (put a i x) (omega arith) (omega arith) (omega arith)

  pub add_at_heavier : is_heavy x ≡ true → is_heavy (add_at a i x) ≡ true
  add_at_heavier = heavier x (add_at a i x) (omega arith) (omega arith) (omega arith)

module _ (a f t x : PlainTerm) where
  pub sweep_from_heavier : is_heavy f ≡ true → is_heavy (sweep a f t x) ≡ true
  sweep_from_heavier = heavier f (sweep a f t x) (omega arith) (omega arith) (omega arith)

  pub sweep_to_heavier : is_heavy t ≡ true → is_heavy (sweep a f t x) ≡ true
  sweep_to_heavier = heavier t (sweep a f t x) (omega arith) (omega arith) (omega arith)

  pub sweep_heavier : is_heavy x ≡ true → is_heavy (sweep a f t x) ≡ true
  sweep_heavier = heavier x (sweep a f t x) (omega arith) (omega arith) (omega arith)
