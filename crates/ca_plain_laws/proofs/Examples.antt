-- A plain pair with each kind of update at the limits, and bodies that are not plain.
use Rattle.std.proofs.Common.{◌≡◌, ◌<◌, ℕ, zero, suc, pos, List, [], ◌∷◌, length, Option, None, Some, refl, ap, arith, codes, subst}
use Rattle.std.specs.Prelude.{Contains, slice_index_or}
use Rattle.ca_tree.specs.declared.tree.AssignOp.{AssignOp}
use Rattle.ca_tree.specs.declared.tree.AssignOp.TheVariants.{Put, Add, Sub, Mul, BitAnd, BitOr, BitXor}
use Rattle.ca_tree.specs.declared.tree.BinaryOp.{BinaryOp}
use Rattle.ca_tree.specs.declared.tree.BinaryOp.TheVariants.{Plus, Minus, Times}
use Rattle.ca_tree.specs.declared.tree.BinaryOp.TheVariants as operator
use Rattle.ca_folds.specs.declared.operator.FoldOp.{FoldOp}
use Rattle.ca_folds.specs.declared.operator.FoldOp.TheVariants as fold_op
use Rattle.ca_program.specs.declared.program.ClassId.{ClassId}
use Rattle.ca_program.specs.declared.program.FieldId.{FieldId}
use Rattle.ca_program.specs.declared.program.LocalId.{LocalId}
use Rattle.ca_program.specs.declared.program.OpId.{OpId}
use Rattle.ca_program.specs.declared.program.ValueType.TheVariants as type
use Rattle.ca_program.specs.Plain.{PlainProgram, PlainMethod, Expression, number, this, local, own, own_item, binary, no_expressions, expression_and, Statement, Statements, put_field, put_item, invoke, no_statements, statement_and}
use Rattle.ca_norm.specs.Meanings.{binary_of}
use Rattle.ca_sweep.specs.Sweeps.{PlainSweep, IsSweep, a_sweep}
use Rattle.ca_plain_laws.specs.PlainPairs.{IsWritten, IsLiteral, a_number, a_truth, a_null, IsAtom, a_literal, the_receiver, a_parameter, a_constant, an_atom, times, IsSum, a_product, plus, nodes_of, IsShortSum, Kind, sums, products, folds, item_sums, literal, assign_of, IsUpdateOf, adds, takes_off, puts_sum, puts_difference, multiplies, puts_product, joins, puts_joined, adds_to_item, puts_item_sum, takes_off_item, puts_item_difference, adds_to_range, puts_literal, AreCalls, no_calls, call_and, AreUpdatesAndCalls, calls, update_and, count_of, IsPlain, IsPlainPair}

-- class C { public: long s; long q; long a[8]; long k; long mask; long top; long c; C *peer; void m(long v, long w) { .. } void n(long v, long w) { .. } };
abbrev class : ClassId
class = record { 0 = 0 }

abbrev field : ℕ → FieldId
field n = record { class = class; field = n }

abbrev v : LocalId
v = record { 0 = 0 }

abbrev w : LocalId
w = record { 0 = 1 }

abbrev op : ℕ → OpId
op n = record { 0 = n }

-- c * w + .. + (c * w + v * w), with k products before the last one
abbrev wide : ℕ → Expression
wide zero = binary Times (local v) (local w)
wide (suc k) = binary Plus (binary Times (own (field 6)) (local w)) (wide k)

-- a hundred products of two atoms are 399 nodes, and no atom more fits, since it is two nodes more
long_sum : nodes_of (wide 99) ≡ 399
long_sum = refl

abbrev again : ℕ → Statement → Statements → Statements
again zero x xs = xs
again (suc k) x xs = statement_and x (again k x xs)

-- this->peer->m(.., v); m(5, ..);
abbrev calls_of_m : Statements
calls_of_m =
    statement_and (invoke 1 (own (field 7)) (op 0) (expression_and (wide 99) (expression_and (local v) no_expressions)))
    (statement_and (invoke 2 this (op 0) (expression_and (number (pos 5)) (expression_and (wide 99) no_expressions))) no_statements)

-- s += ..; six times, q *= w; seven times, a[..] += ..; seven times, k = 5; six times, mask |= ..; and top = max(top, ..); twice,
-- and the calls
abbrev body_of_m : Statements
body_of_m =
    again 6 (put_field 3 (field 0) Add (wide 99)) (again 7 (put_field 4 (field 1) Mul (local w))
    (again 7 (put_item 5 (field 2) (wide 99) Add (wide 99)) (again 6 (put_field 6 (field 3) Put (number (pos 5)))
    (again 2 (put_field 7 (field 4) BitOr (wide 99)) (again 2 (put_field 8 (field 5) Put (binary operator.Max (own (field 5)) (wide 99))) calls_of_m)))))

-- s = s - ..; q = q * c; a[..] = a[..] + ..; a[..] = a[..] - ..; a[..] -= ..; k = 5; s = s + ..; s -= ..; mask = mask | ..;
-- top = max(top, ..);
abbrev body_of_n : Statements
body_of_n =
    again 9 (put_field 1 (field 0) Put (binary Minus (own (field 0)) (wide 99))) (again 9 (put_field 2 (field 1) Put (binary Times (own (field 1)) (own (field 6))))
    (again 7 (put_item 3 (field 2) (wide 99) Put (binary Plus (own_item (field 2) (wide 99)) (wide 99)))
    (again 1 (put_item 3 (field 2) (wide 99) Put (binary Minus (own_item (field 2) (wide 99)) (wide 99))) (again 1 (put_item 3 (field 2) (wide 99) Sub (wide 99)) (again 1 (put_field 4 (field 3) Put (number (pos 5)))
    (again 1 (put_field 5 (field 0) Put (binary Plus (own (field 0)) (wide 99))) (again 1 (put_field 6 (field 0) Sub (wide 99))
    (again 1 (put_field 7 (field 4) Put (binary operator.BitOr (own (field 4)) (wide 99))) (again 1 (put_field 8 (field 5) Put (binary operator.Max (own (field 5)) (wide 99))) no_statements)))))))))

abbrev method : Statements → PlainMethod
method body = record {
  class = class;
  name = codes "m";
  params = 2;
  body = record { locals = type.Long ∷ type.Long ∷ []; statements = body };
  result = None;
}

abbrev program : PlainProgram
program = record {
  classes = record {
    name = codes "C";
    fields =
        record { name = codes "s"; ty = type.Long; length = None } ∷ record { name = codes "q"; ty = type.Long; length = None } ∷
        record { name = codes "a"; ty = type.Long; length = Some 8 } ∷ record { name = codes "k"; ty = type.Long; length = None } ∷
        record { name = codes "mask"; ty = type.Long; length = None } ∷ record { name = codes "top"; ty = type.Long; length = None } ∷
        record { name = codes "c"; ty = type.Long; length = None } ∷ record { name = codes "peer"; ty = type.Pointer class; length = None } ∷ [];
  } ∷ [];
  ops = method body_of_m ∷ method body_of_n ∷ [];
  functions = [];
  main = record { locals = []; statements = no_statements };
}

abbrev written : List FieldId
written = field 0 ∷ field 1 ∷ field 2 ∷ field 3 ∷ field 4 ∷ field 5 ∷ []

abbrev kinds : ℕ → Kind
kinds zero = sums
kinds (suc zero) = products
kinds (suc (suc zero)) = item_sums
kinds (suc (suc (suc zero))) = literal (number (pos 5))
kinds (suc (suc (suc (suc zero)))) = folds fold_op.BitOr
kinds n = folds fold_op.Max

pub not_written : (n : ℕ) → 5 < n → ¬ Contains written (field n)
not_written n g h = by_place h.0 h.1 h.2
  where
    by_place : (k : ℕ) → k < length written → slice_index_or written k (field n) ≡ field n → ⊥
    by_place zero l e = let d : 0 ≡ n = ap (λ f. f.field) e in omega (arith, d, g)
    by_place (suc zero) l e = let d : 1 ≡ n = ap (λ f. f.field) e in omega (arith, d, g)
    by_place (suc (suc zero)) l e = let d : 2 ≡ n = ap (λ f. f.field) e in omega (arith, d, g)
    by_place (suc (suc (suc zero))) l e = let d : 3 ≡ n = ap (λ f. f.field) e in omega (arith, d, g)
    by_place (suc (suc (suc (suc zero)))) l e = let d : 4 ≡ n = ap (λ f. f.field) e in omega (arith, d, g)
    by_place (suc (suc (suc (suc (suc zero))))) l e = let d : 5 ≡ n = ap (λ f. f.field) e in omega (arith, d, g)
    by_place (suc (suc (suc (suc (suc (suc k)))))) l e = omega (arith, l)

module _ (body : Statements) where
  abbrev m : PlainMethod
  m = method body

  v_is_atom : IsAtom written m (local v)
  v_is_atom = a_parameter v (omega arith)

  w_is_atom : IsAtom written m (local w)
  w_is_atom = a_parameter w (omega arith)

  c_is_atom : IsAtom written m (own (field 6))
  c_is_atom = a_constant (field 6) (refl, not_written 6 (omega arith))

  peer_is_atom : IsAtom written m (own (field 7))
  peer_is_atom = a_constant (field 7) (refl, not_written 7 (omega arith))

  wide_sum : (k : ℕ) → IsSum written m (wide k)
  wide_sum zero = a_product (times (an_atom v_is_atom) (an_atom w_is_atom))
  wide_sum (suc k) = plus (a_product (times (an_atom c_is_atom) (an_atom w_is_atom))) (wide_sum k)

  short : IsShortSum written m (wide 99)
  short = (wide_sum 99, omega (arith, long_sum))

  s_written : IsWritten written m (field 0)
  s_written = (refl, (0, omega arith, refl))

  q_written : IsWritten written m (field 1)
  q_written = (refl, (1, omega arith, refl))

  a_written : IsWritten written m (field 2)
  a_written = (refl, (2, omega arith, refl))

  k_written : IsWritten written m (field 3)
  k_written = (refl, (3, omega arith, refl))

  mask_written : IsWritten written m (field 4)
  mask_written = (refl, (4, omega arith, refl))

  top_written : IsWritten written m (field 5)
  top_written = (refl, (5, omega arith, refl))

  many : (k : ℕ) {x : Statement} {xs : Statements} (f : FieldId) → IsWritten written m f → IsUpdateOf written m f (kinds f.field) x → AreUpdatesAndCalls written m kinds xs → AreUpdatesAndCalls written m kinds (again k x xs)
  many zero f g u d = d
  many (suc k) f g u d = update_and f g u (many k f g u d)

  m_calls : AreCalls written m calls_of_m
  m_calls =
      call_and 1 (own (field 7)) (op 0) (expression_and (wide 99) (expression_and (local v) no_expressions)) peer_is_atom (short, ((a_product (an_atom v_is_atom), omega arith), tt))
      (call_and 2 this (op 0) (expression_and (number (pos 5)) (expression_and (wide 99) no_expressions)) the_receiver ((a_product (an_atom (a_literal (a_number (pos 5)))), omega arith), (short, tt)) no_calls)

  m_body : AreUpdatesAndCalls written m kinds body_of_m
  m_body =
      many 6 (field 0) s_written (adds 3 (wide 99) short) (many 7 (field 1) q_written (multiplies 4 (local w) w_is_atom)
      (many 7 (field 2) a_written (adds_to_item 5 (wide 99) (wide 99) short short) (many 6 (field 3) k_written (puts_literal 6 (number (pos 5)) (a_number (pos 5)))
      (many 2 (field 4) mask_written (joins 7 fold_op.BitOr BitOr (wide 99) refl short) (many 2 (field 5) top_written (puts_joined 8 fold_op.Max (wide 99) short) (calls m_calls))))))

  n_body : AreUpdatesAndCalls written m kinds body_of_n
  n_body =
      many 9 (field 0) s_written (puts_difference 1 (wide 99) short) (many 9 (field 1) q_written (puts_product 2 (own (field 6)) c_is_atom)
      (many 7 (field 2) a_written (puts_item_sum 3 (wide 99) (wide 99) short short) (many 1 (field 2) a_written (puts_item_difference 3 (wide 99) (wide 99) short short)
      (many 1 (field 2) a_written (takes_off_item 3 (wide 99) (wide 99) short short) (many 1 (field 3) k_written (puts_literal 4 (number (pos 5)) (a_number (pos 5)))
      (many 1 (field 0) s_written (puts_sum 5 (wide 99) short) (many 1 (field 0) s_written (takes_off 6 (wide 99) short)
      (many 1 (field 4) mask_written (puts_joined 7 fold_op.BitOr (wide 99) short) (many 1 (field 5) top_written (puts_joined 8 fold_op.Max (wide 99) short) (calls no_calls))))))))))

  -- a product is none of an operator whose operands may stand in any order
  assigned_by : (o : FoldOp) (a : AssignOp) → assign_of o ≡ Some a → a ≡ Mul → ⊥
  assigned_by fold_op.Max a e h = cc
  assigned_by fold_op.Min a e h = cc
  assigned_by fold_op.BitAnd a e h = cc
  assigned_by fold_op.BitOr a e h = cc
  assigned_by fold_op.BitXor a e h = cc

  no_literal : {o : BinaryOp} {a b : Expression} → IsLiteral (binary o a b) → ⊥
  no_literal h = elim h [ ]

  no_atom : {o : BinaryOp} {a b : Expression} → IsAtom written m (binary o a b) → ⊥
  no_atom (a_literal l) = no_literal l

  -- a product by a sum is not plain, since it doesn't change places with another one by its own form
  no_product_by_sum : {k : Kind} {line : ℕ} {f g : FieldId} {a b : Expression} → IsUpdateOf written m f k (put_field line g Mul (binary Plus a b)) → ⊥
  no_product_by_sum (multiplies line e h) = no_atom h
  no_product_by_sum (joins line o _ _ i h) = assigned_by o _ i refl
  no_product_by_sum (adds_to_range s i _ _ _ _) = elim i [ ]

  -- nor is it plain that one update puts the greater and another one the lesser of two numbers
  abbrev operator_of : Statement → Option BinaryOp
  operator_of (put_field line f Put (binary o a b)) = Some o
  operator_of other = None

  abbrev Suits : Option BinaryOp → Kind → Type 0
  Suits (Some operator.Max) k = k ≡ folds fold_op.Max
  Suits (Some operator.Min) k = k ≡ folds fold_op.Min
  Suits other k = Unit {0}

  short_suits : (line : ℕ) (f : FieldId) (o : FoldOp) (a : AssignOp) (e : Expression) → assign_of o ≡ Some a → Suits (operator_of (put_field line f a e)) (folds o)
  short_suits line f fold_op.Max a e i = absurd cc
  short_suits line f fold_op.Min a e i = absurd cc
  short_suits line f fold_op.BitAnd a e i = let same : BitAnd ≡ a = cc in subst (λ z. Suits (operator_of (put_field line f z e)) (folds fold_op.BitAnd)) same tt
  short_suits line f fold_op.BitOr a e i = let same : BitOr ≡ a = cc in subst (λ z. Suits (operator_of (put_field line f z e)) (folds fold_op.BitOr)) same tt
  short_suits line f fold_op.BitXor a e i = let same : BitXor ≡ a = cc in subst (λ z. Suits (operator_of (put_field line f z e)) (folds fold_op.BitXor)) same tt

  full_suits : (o : FoldOp) → Suits (Some (binary_of o)) (folds o)
  full_suits fold_op.Max = refl
  full_suits fold_op.Min = refl
  full_suits fold_op.BitAnd = tt
  full_suits fold_op.BitOr = tt
  full_suits fold_op.BitXor = tt

  literal_suits : (line : ℕ) (f : FieldId) {e : Expression} (k : Kind) → IsLiteral e → Suits (operator_of (put_field line f Put e)) k
  literal_suits line f k (a_number n) = tt
  literal_suits line f k (a_truth b) = tt
  literal_suits line f k a_null = tt

  sweep_suits : (s : PlainSweep) (x : Statement) (k : Kind) → IsSweep s x → Suits (operator_of x) k
  sweep_suits s _ k (a_sweep line site at next body c a) = tt

  suits : {k : Kind} {f : FieldId} {x : Statement} → IsUpdateOf written m f k x → Suits (operator_of x) k
  suits (adds line e h) = tt
  suits (takes_off line e h) = tt
  suits (puts_sum line e h) = tt
  suits (puts_difference line e h) = tt
  suits (multiplies line e h) = tt
  suits (puts_product line e h) = tt
  suits {k} {f} (joins line o a e i h) = short_suits line f o a e i
  suits (puts_joined line o e h) = full_suits o
  suits (adds_to_item line i e h g) = tt
  suits (puts_item_sum line i e h g) = tt
  suits (takes_off_item line i e h g) = tt
  suits (puts_item_difference line i e h g) = tt
  suits {k} {f} {x} (adds_to_range s i _ _ _ _) = sweep_suits s x k i
  suits {k} {f} (puts_literal line e h) = literal_suits line f k h

  no_greater_beside_lesser : {k : Kind} {f g : FieldId} {x y : Statement} → IsUpdateOf written m f k x → IsUpdateOf written m g k y → operator_of x ≡ Some operator.Max → operator_of y ≡ Some operator.Min → ⊥
  no_greater_beside_lesser {k} u w d e =
      let greater : k ≡ folds fold_op.Max = subst (λ o. Suits o k) d (suits u) in
      let lesser : k ≡ folds fold_op.Min = subst (λ o. Suits o k) e (suits w) in
      cc

-- both bodies have 32 statements
m_full : count_of body_of_m ≡ 32
m_full = refl

n_full : count_of body_of_n ≡ 32
n_full = refl

m_plain : IsPlain written kinds (method body_of_m)
m_plain = record { body = m_body body_of_m; few = omega (arith, m_full) }

n_plain : IsPlain written kinds (method body_of_n)
n_plain = record { body = n_body body_of_n; few = omega (arith, n_full) }

-- the two are a plain pair, and so is each with itself
m_and_n : IsPlainPair program written (op 0) (op 1)
m_and_n = record {
  first = method body_of_m;
  second = method body_of_n;
  first_is = refl;
  second_is = refl;
  one_class = refl;
  kinds = kinds;
  first_plain = m_plain;
  second_plain = n_plain;
}

m_and_m : IsPlainPair program written (op 0) (op 0)
m_and_m = record {
  first = method body_of_m;
  second = method body_of_m;
  first_is = refl;
  second_is = refl;
  one_class = refl;
  kinds = kinds;
  first_plain = m_plain;
  second_plain = m_plain;
}
