-- What atoms, products and sums come to: their terms are as small as they are, they depend on parameters and constants
-- alone, and they demand nothing.
use Rattle.std.proofs.Common.{◌≡◌, ◌≤◌, ℕ, ℤ, ◌+◌, ◌*◌, Bool, List, [], ◌∷◌, ◌++◌, refl, sym, ap, ap₂, ◌∙◌, arith}
use Rattle.ca_program.specs.declared.program.FieldId.{FieldId}
use Rattle.ca_program.specs.Plain.{PlainProgram, PlainMethod, Expression, Expressions, no_expressions, expression_and}
use Rattle.ca_forms.specs.declared.sort.Sort.{Sort}
use Rattle.ca_forms.specs.declared.sort.Sort.TheVariants.{Pointer}
use Rattle.ca_norm.specs.Terms.{PlainTerm, number, truth, null, atom, mul, add}
use Rattle.ca_norm.specs.Weights.{spread, nodes, depth}
use Rattle.ca_symbolic.specs.States.{State, term_at}
use Rattle.ca_symbolic.specs.Execution.{term_of}
use Rattle.ca_symbolic.specs.Demands.{demands_in, demands_in_all, terms_in}
use Rattle.ca_symbolic.specs.Made.{guards_in, guards_in_all}
use Rattle.ca_plain_laws.specs.PlainPairs.{IsConstant, IsLiteral, a_number, a_truth, a_null, IsAtom, a_literal, the_receiver, a_parameter, a_constant, IsProduct, an_atom, times, IsSum, a_product, plus, nodes_of, AreShortSums}

-- a term of one node
pub data IsSimple : PlainTerm → Type 0 where
  simple_number : (n : ℤ) → IsSimple (number n)
  simple_truth : (b : Bool) → IsSimple (truth b)
  simple_null : IsSimple null
  simple_atom : (s : Sort) (g n : ℕ) → IsSimple (atom s g n)

-- the locals and the constants of a state are such terms
pub record IsBegun (written : List FieldId) (m : PlainMethod) (s : State) : Type 0 where
  pub locals : (n : ℕ) → IsSimple (term_at s.locals n)
  pub constants : (f : FieldId) → IsConstant written m f → IsSimple (term_at s.fields f.field)

-- two states have the same locals and constants
pub record Agree (written : List FieldId) (m : PlainMethod) (s t : State) : Type 0 where
  pub locals : s.locals ≡ t.locals
  pub constants : (f : FieldId) → IsConstant written m f → term_at s.fields f.field ≡ term_at t.fields f.field

-- a term with so many nodes, no more products and no greater depth
pub record IsSmall (n : ℕ) (t : PlainTerm) : Type 0 where
  pub nodes_are : nodes t ≡ n
  pub spread_few : spread t ≤ n
  pub depth_few : depth t ≤ n

pub one_node : {t : PlainTerm} → IsSimple t → nodes t ≡ 1
one_node (simple_number n) = refl
one_node (simple_truth b) = refl
one_node simple_null = refl
one_node (simple_atom s g n) = refl

pub one_product : {t : PlainTerm} → IsSimple t → spread t ≡ 1
one_product (simple_number n) = refl
one_product (simple_truth b) = refl
one_product simple_null = refl
one_product (simple_atom s g n) = refl

pub one_deep : {t : PlainTerm} → IsSimple t → depth t ≡ 1
one_deep (simple_number n) = refl
one_deep (simple_truth b) = refl
one_deep simple_null = refl
one_deep (simple_atom s g n) = refl

pub literal_node : {e : Expression} → IsLiteral e → nodes_of e ≡ 1
literal_node (a_number n) = refl
literal_node (a_truth b) = refl
literal_node a_null = refl

product_spread : (a b : PlainTerm) → spread a ≡ 1 → spread b ≡ 1 → spread (mul a b) ≡ 1
product_spread a b e f = let one : 1 * 1 ≡ 1 = omega arith in ap₂ (λ x y. x * y) e f ∙ one

sum_small : (m n : ℕ) (a b : PlainTerm) → IsSmall m a → IsSmall n b → IsSmall (1 + m + n) (add a b)
sum_small m n a b g h = record {
  nodes_are = omega (arith, g.nodes_are, h.nodes_are);
  spread_few = omega (arith, g.spread_few, h.spread_few);
  depth_few = omega (arith, g.depth_few, h.depth_few);
}

product_small : (m n : ℕ) (a b : PlainTerm) → spread (mul a b) ≡ 1 → IsSmall m a → IsSmall n b → IsSmall (1 + m + n) (mul a b)
product_small m n a b e g h = record {
  nodes_are = omega (arith, g.nodes_are, h.nodes_are);
  spread_few = omega (arith, e);
  depth_few = omega (arith, g.depth_few, h.depth_few);
}

simple_small : {t : PlainTerm} (n : ℕ) → n ≡ 1 → IsSimple t → IsSmall n t
simple_small n e h = record {
  nodes_are = one_node h ∙ sym e;
  spread_few = omega (arith, one_product h, e);
  depth_few = omega (arith, one_deep h, e);
}

module _ (p : PlainProgram) (written : List FieldId) (m : PlainMethod) where
  -- Terms

  pub literal_simple : (s : State) {e : Expression} → IsLiteral e → IsSimple (term_of p s e)
  literal_simple s (a_number n) = simple_number n
  literal_simple s (a_truth b) = simple_truth b
  literal_simple s a_null = simple_null

  pub atom_simple : (s : State) {e : Expression} → IsBegun written m s → IsAtom written m e → IsSimple (term_of p s e)
  atom_simple s h (a_literal l) = literal_simple s l
  atom_simple s h the_receiver = simple_atom Pointer 0 0
  atom_simple s h (a_parameter l b) = h.locals l.0
  atom_simple s h (a_constant f c) = h.constants f c

  pub atom_node : {e : Expression} → IsAtom written m e → nodes_of e ≡ 1
  atom_node (a_literal l) = literal_node l
  atom_node the_receiver = refl
  atom_node (a_parameter l b) = refl
  atom_node (a_constant f c) = refl

  one_each : (s : State) {e : Expression} → IsBegun written m s → IsProduct written m e → spread (term_of p s e) ≡ 1
  one_each s h (an_atom a) = one_product (atom_simple s h a)
  one_each s h (times {a} {b} x y) = product_spread (term_of p s a) (term_of p s b) (one_each s h x) (one_each s h y)

  product_is_small : (s : State) {e : Expression} → IsBegun written m s → IsProduct written m e → IsSmall (nodes_of e) (term_of p s e)
  product_is_small s {e} h (an_atom a) = simple_small (nodes_of e) (atom_node a) (atom_simple s h a)
  product_is_small s h (times {a} {b} x y) =
      product_small (nodes_of a) (nodes_of b) (term_of p s a) (term_of p s b) (product_spread (term_of p s a) (term_of p s b) (one_each s h x) (one_each s h y)) (product_is_small s h x) (product_is_small s h y)

  pub sum_is_small : (s : State) {e : Expression} → IsBegun written m s → IsSum written m e → IsSmall (nodes_of e) (term_of p s e)
  sum_is_small s h (a_product x) = product_is_small s h x
  sum_is_small s h (plus {a} {b} x y) = sum_small (nodes_of a) (nodes_of b) (term_of p s a) (term_of p s b) (sum_is_small s h x) (sum_is_small s h y)

  -- What they depend on

  literal_same : (s t : State) {e : Expression} → IsLiteral e → term_of p s e ≡ term_of p t e
  literal_same s t (a_number n) = refl
  literal_same s t (a_truth b) = refl
  literal_same s t a_null = refl

  pub atom_same : (s t : State) {e : Expression} → Agree written m s t → IsAtom written m e → term_of p s e ≡ term_of p t e
  atom_same s t h (a_literal l) = literal_same s t l
  atom_same s t h the_receiver = refl
  atom_same s t h (a_parameter l b) = ap (λ ts. term_at ts l.0) h.locals
  atom_same s t h (a_constant f c) = h.constants f c

  product_term_same : (s t : State) {e : Expression} → Agree written m s t → IsProduct written m e → term_of p s e ≡ term_of p t e
  product_term_same s t h (an_atom a) = atom_same s t h a
  product_term_same s t h (times x y) = ap₂ mul (product_term_same s t h x) (product_term_same s t h y)

  pub sum_same : (s t : State) {e : Expression} → Agree written m s t → IsSum written m e → term_of p s e ≡ term_of p t e
  sum_same s t h (a_product x) = product_term_same s t h x
  sum_same s t h (plus x y) = ap₂ add (sum_same s t h x) (sum_same s t h y)

  pub sums_same : (s t : State) (es : Expressions) → Agree written m s t → AreShortSums written m es → terms_in p s es ≡ terms_in p t es
  sums_same s t no_expressions h g = refl
  sums_same s t (expression_and e es) h g = ap₂ (λ x xs. x ∷ xs) (sum_same s t h g.0.0) (sums_same s t es h g.1)

  -- That they demand nothing

  pub atom_free : (s : State) (g : PlainTerm) {e : Expression} → IsAtom written m e → demands_in p s g e ≡ []
  atom_free s g (a_literal (a_number n)) = refl
  atom_free s g (a_literal (a_truth b)) = refl
  atom_free s g (a_literal a_null) = refl
  atom_free s g the_receiver = refl
  atom_free s g (a_parameter l b) = refl
  atom_free s g (a_constant f c) = refl

  product_free : (s : State) (g : PlainTerm) {e : Expression} → IsProduct written m e → demands_in p s g e ≡ []
  product_free s g (an_atom a) = atom_free s g a
  product_free s g (times x y) = ap₂ (λ xs ys. xs ++ ys) (product_free s g x) (product_free s g y)

  pub sum_free : (s : State) (g : PlainTerm) {e : Expression} → IsSum written m e → demands_in p s g e ≡ []
  sum_free s g (a_product x) = product_free s g x
  sum_free s g (plus x y) = ap₂ (λ xs ys. xs ++ ys) (sum_free s g x) (sum_free s g y)

  pub sums_free : (s : State) (g : PlainTerm) (es : Expressions) → AreShortSums written m es → demands_in_all p s g es ≡ []
  sums_free s g no_expressions h = refl
  sums_free s g (expression_and e es) h = ap₂ (λ xs ys. xs ++ ys) (sum_free s g h.0.0) (sums_free s g es h.1)

  -- nor stand under a condition

  pub atom_unguarded : (s : State) (g : PlainTerm) {e : Expression} → IsAtom written m e → guards_in p s g e ≡ []
  atom_unguarded s g (a_literal (a_number n)) = refl
  atom_unguarded s g (a_literal (a_truth b)) = refl
  atom_unguarded s g (a_literal a_null) = refl
  atom_unguarded s g the_receiver = refl
  atom_unguarded s g (a_parameter l b) = refl
  atom_unguarded s g (a_constant f c) = refl

  product_unguarded : (s : State) (g : PlainTerm) {e : Expression} → IsProduct written m e → guards_in p s g e ≡ []
  product_unguarded s g (an_atom a) = atom_unguarded s g a
  product_unguarded s g (times x y) = ap₂ (λ xs ys. xs ++ ys) (product_unguarded s g x) (product_unguarded s g y)

  pub sum_unguarded : (s : State) (g : PlainTerm) {e : Expression} → IsSum written m e → guards_in p s g e ≡ []
  sum_unguarded s g (a_product x) = product_unguarded s g x
  sum_unguarded s g (plus x y) = ap₂ (λ xs ys. xs ++ ys) (sum_unguarded s g x) (sum_unguarded s g y)

  pub sums_unguarded : (s : State) (g : PlainTerm) (es : Expressions) → AreShortSums written m es → guards_in_all p s g es ≡ []
  sums_unguarded s g no_expressions h = refl
  sums_unguarded s g (expression_and e es) h = ap₂ (λ xs ys. xs ++ ys) (sum_unguarded s g h.0.0) (sums_unguarded s g es h.1)
