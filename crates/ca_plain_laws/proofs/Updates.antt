-- Updates of a field as changes of its term, and what a plain body leaves in each field.
use Rattle.std.proofs.Common.{◌≡◌, ℕ, Bool, true, false, ◌&&◌, List, [], ◌∷◌, refl, sym, ap, ap₂, ◌∙◌}
use Rattle.std.specs.Prelude.{nat_eq, if◌then◌else◌, ℤ, Option, Some}
use Rattle.ca_tree.specs.declared.tree.AssignOp.{AssignOp}
use Rattle.ca_tree.specs.declared.tree.AssignOp.TheVariants.{Put, BitAnd, BitOr, BitXor}
use Rattle.ca_tree.specs.declared.tree.BinaryOp.TheVariants.{Plus, Minus}
use Rattle.ca_program.specs.declared.program.FieldId.{FieldId}
use Rattle.ca_program.specs.Plain.{PlainProgram, PlainMethod, Expression, own_item, binary, Statement, Statements}
use Rattle.ca_program.proofs.Fields.{same_itself}
use Rattle.ca_folds.specs.declared.operator.FoldOp.{FoldOp}
use Rattle.ca_folds.specs.declared.operator.FoldOp.TheVariants as fold_op
use Rattle.ca_norm.specs.Terms.{PlainTerm, add, sub, neg, mul, add_at, put, fold, sweep}
use Rattle.ca_norm.specs.Meanings.{binary_of}
use Rattle.ca_symbolic.specs.States.{State, term_at}
use Rattle.ca_symbolic.specs.Execution.{divisor, operation, term_of, put_term, is_item, array_term, with_field, addend_term, after}
use Rattle.ca_symbolic.proofs.Alike.{alike_is_equal}
use Rattle.ca_plain_laws.specs.PlainPairs.{Kind, assign_of, IsUpdateOf, adds, takes_off, puts_sum, puts_difference, multiplies, puts_product, joins, puts_joined, adds_to_item, puts_item_sum, takes_off_item, puts_item_difference, adds_to_range, puts_literal, AreUpdatesAndCalls, calls, update_and, a_literal}
use Rattle.ca_plain_laws.proofs.Atoms.{Agree, atom_same, sum_same}
use Rattle.ca_plain_laws.proofs.Swept.{found_at, after_sweep}

-- a term more is added or taken off, multiplied in, joined by an operator, added at an index or over a range, or put
pub data Change : Type 0 where
  plus : PlainTerm → Change
  minus : PlainTerm → Change
  by : PlainTerm → Change
  with_operator : FoldOp → PlainTerm → Change
  at : PlainTerm → PlainTerm → Change
  over : PlainTerm → PlainTerm → PlainTerm → Change
  to : PlainTerm → Change

abbrev pub changed : Change → PlainTerm → PlainTerm
changed (plus x) t = add t x
changed (minus x) t = sub t x
changed (by x) t = mul t x
changed (with_operator o x) t = fold o t x
changed (at i x) t = add_at t i x
changed (over f t x) a = sweep a f t x
changed (to x) t = x

abbrev pub changed_all : List Change → PlainTerm → PlainTerm
changed_all [] t = t
changed_all (u ∷ us) t = changed_all us (changed u t)

over_same : {f g t u x y : PlainTerm} → f ≡ g → t ≡ u → x ≡ y → over f t x ≡ over g u y
over_same {f} {g} {t} {u} {x} {y} e h k = ap₂ (λ a b. over a b x) e h ∙ ap (λ c. over g u c) k

abbrev pub and_if : Bool → Change → List Change → List Change
and_if true u us = u ∷ us
and_if false u us = us

-- the terms that the operator makes, written short and in full
pub joined_term : (o : FoldOp) (a : AssignOp) (t u : PlainTerm) → assign_of o ≡ Some a → put_term a t u ≡ fold o t u
joined_term fold_op.Max a t u e = cc
joined_term fold_op.Min a t u e = cc
joined_term fold_op.BitAnd a t u e = let same : BitAnd ≡ a = cc in ap (λ k. put_term k t u) (sym same)
joined_term fold_op.BitOr a t u e = let same : BitOr ≡ a = cc in ap (λ k. put_term k t u) (sym same)
joined_term fold_op.BitXor a t u e = let same : BitXor ≡ a = cc in ap (λ k. put_term k t u) (sym same)

pub operator_term : (o : FoldOp) (t u : PlainTerm) (n : Option ℤ) → operation (binary_of o) t u n ≡ fold o t u
operator_term fold_op.Max t u n = refl
operator_term fold_op.Min t u n = refl
operator_term fold_op.BitAnd t u n = refl
operator_term fold_op.BitOr t u n = refl
operator_term fold_op.BitXor t u n = refl

module _ (p : PlainProgram) (written : List FieldId) (m : PlainMethod) where
  -- the change that an update is, in this state
  abbrev pub change_of : State → {f : FieldId} → {k : Kind} → {x : Statement} → IsUpdateOf written m f k x → Change
  change_of s (adds line e h) = plus (term_of p s e)
  change_of s (takes_off line e h) = minus (term_of p s e)
  change_of s (puts_sum line e h) = plus (term_of p s e)
  change_of s (puts_difference line e h) = minus (term_of p s e)
  change_of s (multiplies line e h) = by (term_of p s e)
  change_of s (puts_product line e h) = by (term_of p s e)
  change_of s (joins line o a e i h) = with_operator o (term_of p s e)
  change_of s (puts_joined line o e h) = with_operator o (term_of p s e)
  change_of s (adds_to_item line i e h g) = at (term_of p s i) (term_of p s e)
  change_of s (puts_item_sum line i e h g) = at (term_of p s i) (term_of p s e)
  change_of s (takes_off_item line i e h g) = at (term_of p s i) (neg (term_of p s e))
  change_of s (puts_item_difference line i e h g) = at (term_of p s i) (neg (term_of p s e))
  change_of s (adds_to_range w i e f t x) = over (term_of p s w.from) (term_of p s w.to) (addend_term w.minus (term_of p s w.addend))
  change_of s (puts_literal line e h) = to (term_of p s e)

  -- those of the field with this number
  abbrev pub changes_at : State → ℕ → {kinds : ℕ → Kind} → {xs : Statements} → AreUpdatesAndCalls written m kinds xs → List Change
  changes_at s n (calls c) = []
  changes_at s n (update_and f w u d) = and_if (nat_eq f.field n) (change_of s u) (changes_at s n d)

  item_itself : (f : FieldId) (i : Expression) → is_item f i (own_item f i) ≡ true
  item_itself f i = ap₂ (λ a b. a && b) (same_itself f) ((alike_is_equal i i).1 refl)

  -- the item that is written in full on the right side is the one that is put
  pub item_sum : (s : State) (f : FieldId) (i e : Expression) → array_term p s f i Put (binary Plus (own_item f i) e) ≡ add_at (term_at s.fields f.field) (term_of p s i) (term_of p s e)
  item_sum s f i e =
      ap (λ b. if b then add_at (term_at s.fields f.field) (term_of p s i) (term_of p s e) else put (term_at s.fields f.field) (term_of p s i) (term_of p s (binary Plus (own_item f i) e))) (item_itself f i)

  pub item_difference : (s : State) (f : FieldId) (i e : Expression) → array_term p s f i Put (binary Minus (own_item f i) e) ≡ add_at (term_at s.fields f.field) (term_of p s i) (neg (term_of p s e))
  item_difference s f i e =
      ap (λ b. if b then add_at (term_at s.fields f.field) (term_of p s i) (neg (term_of p s e)) else put (term_at s.fields f.field) (term_of p s i) (term_of p s (binary Minus (own_item f i) e))) (item_itself f i)

  pub after_is : (s : State) {f : FieldId} {k : Kind} {x : Statement} (u : IsUpdateOf written m f k x) → after p s x ≡ with_field s f.field (changed (change_of s u) (term_at s.fields f.field))
  after_is s (adds line e h) = refl
  after_is s (takes_off line e h) = refl
  after_is s (puts_sum line e h) = refl
  after_is s (puts_difference line e h) = refl
  after_is s (multiplies line e h) = refl
  after_is s (puts_product line e h) = refl
  after_is s {f} (joins line o a e i h) = ap (with_field s f.field) (joined_term o a (term_at s.fields f.field) (term_of p s e) i)
  after_is s {f} (puts_joined line o e h) = ap (with_field s f.field) (operator_term o (term_at s.fields f.field) (term_of p s e) (divisor e))
  after_is s (adds_to_item line i e h g) = refl
  after_is s {f} (puts_item_sum line i e h g) = ap (with_field s f.field) (item_sum s f i e)
  after_is s (takes_off_item line i e h g) = refl
  after_is s {f} (puts_item_difference line i e h g) = ap (with_field s f.field) (item_difference s f i e)
  after_is s {x = x} (adds_to_range w i e f t d) =
      after_sweep p written m w s x i (found_at p written m w x i f t d)
      ∙ ap (λ g. with_field s g.field (changed (over (term_of p s w.from) (term_of p s w.to) (addend_term w.minus (term_of p s w.addend))) (term_at s.fields g.field))) e
  after_is s (puts_literal line e h) = refl

  pub change_same : (s t : State) {f : FieldId} {k : Kind} {x : Statement} → Agree written m s t → (u : IsUpdateOf written m f k x) → change_of s u ≡ change_of t u
  change_same s t h (adds line e g) = ap plus (sum_same p written m s t h g.0)
  change_same s t h (takes_off line e g) = ap minus (sum_same p written m s t h g.0)
  change_same s t h (puts_sum line e g) = ap plus (sum_same p written m s t h g.0)
  change_same s t h (puts_difference line e g) = ap minus (sum_same p written m s t h g.0)
  change_same s t h (multiplies line e g) = ap by (atom_same p written m s t h g)
  change_same s t h (puts_product line e g) = ap by (atom_same p written m s t h g)
  change_same s t h (joins line o a e i g) = ap (with_operator o) (sum_same p written m s t h g.0)
  change_same s t h (puts_joined line o e g) = ap (with_operator o) (sum_same p written m s t h g.0)
  change_same s t h (adds_to_item line i e g k) = ap₂ at (sum_same p written m s t h g.0) (sum_same p written m s t h k.0)
  change_same s t h (puts_item_sum line i e g k) = ap₂ at (sum_same p written m s t h g.0) (sum_same p written m s t h k.0)
  change_same s t h (takes_off_item line i e g k) = ap₂ (λ x y. at x (neg y)) (sum_same p written m s t h g.0) (sum_same p written m s t h k.0)
  change_same s t h (puts_item_difference line i e g k) = ap₂ (λ x y. at x (neg y)) (sum_same p written m s t h g.0) (sum_same p written m s t h k.0)
  change_same s t h (adds_to_range w i e a b d) =
      over_same (atom_same p written m s t h a.0) (atom_same p written m s t h b.0) (ap (addend_term w.minus) (atom_same p written m s t h d.0))
  change_same s t h (puts_literal line e g) = ap to (atom_same p written m s t h (a_literal g))
