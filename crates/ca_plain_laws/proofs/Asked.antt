-- What a plain body demands, and under no condition: index checks, and what its calls demand.
use Rattle.std.proofs.Common.{◌≡◌, ℕ, List, [], ◌∷◌, ◌++◌, refl, sym, ap, ap₂, ◌∙◌}
use Rattle.ca_tree.specs.declared.tree.AssignOp.TheVariants.{Put}
use Rattle.ca_tree.specs.declared.tree.BinaryOp.TheVariants.{Plus, Minus}
use Rattle.ca_program.specs.declared.program.FieldId.{FieldId}
use Rattle.ca_program.specs.declared.program.OpId.{OpId}
use Rattle.ca_program.specs.Plain.{PlainProgram, PlainMethod, Expression, Expressions, own_item, binary, Statement, Statements, invoke}
use Rattle.ca_folds.specs.declared.operator.FoldOp.{FoldOp}
use Rattle.ca_folds.specs.declared.operator.FoldOp.TheVariants.{Max, Min, BitAnd, BitOr, BitXor}
use Rattle.ca_norm.specs.Terms.{PlainTerm, add, sub, neg, mul, add_at, sweep}
use Rattle.ca_norm.specs.Meanings.{binary_of}
use Rattle.ca_symbolic.specs.States.{State, term_at, PlainDemand, demand, not_null, in_range, invokes, sweeps}
use Rattle.ca_symbolic.specs.Execution.{divisor, operation, term_of, put_term, array_term, addend_term, after}
use Rattle.ca_symbolic.specs.Demands.{right_guard, terms_in, demanded, demanded_all}
use Rattle.ca_symbolic.specs.Made.{new_guard, steps_made}
use Rattle.ca_plain_laws.specs.PlainPairs.{Kind, IsAtom, a_literal, AreShortSums, IsUpdateOf, adds, takes_off, puts_sum, puts_difference, multiplies, puts_product, joins, puts_joined, adds_to_item, puts_item_sum, takes_off_item, puts_item_difference, adds_to_range, puts_literal, AreCalls, no_calls, call_and, AreUpdatesAndCalls, calls, update_and}
use Rattle.ca_plain_laws.proofs.Atoms.{Agree, atom_same, sum_same, sums_same, atom_free, sum_free, sums_free, atom_unguarded, sum_unguarded}
use Rattle.ca_plain_laws.proofs.Updates.{changed, change_of, joined_term, operator_term, item_sum, item_difference}
use Rattle.ca_plain_laws.proofs.Swept.{found_at, sweep_demands, sweep_steps}
use Rattle.ca_plain_laws.proofs.Kept.{agree_then, agree_back, after_agrees}

-- both sides of such an operator are always evaluated
no_condition : (o : FoldOp) (g t : PlainTerm) → new_guard (binary_of o) g t ≡ []
no_condition Max g t = refl
no_condition Min g t = refl
no_condition BitAnd g t = refl
no_condition BitOr g t = refl
no_condition BitXor g t = refl

module _ (p : PlainProgram) (written : List FieldId) (m : PlainMethod) where
  -- that an index lies in the field
  abbrev pub index_check : State → PlainTerm → FieldId → Expression → PlainDemand
  index_check s g f i = demand g (in_range f) (term_of p s i ∷ [])

  abbrev pub asked : State → PlainTerm → {f : FieldId} → {k : Kind} → {x : Statement} → IsUpdateOf written m f k x → List PlainDemand
  asked s g (adds line e h) = []
  asked s g (takes_off line e h) = []
  asked s g (puts_sum line e h) = []
  asked s g (puts_difference line e h) = []
  asked s g (multiplies line e h) = []
  asked s g (puts_product line e h) = []
  asked s g (joins line o a e i h) = []
  asked s g (puts_joined line o e h) = []
  asked s g {f} (adds_to_item line i e h k) = index_check s g f i ∷ []
  asked s g {f} (puts_item_sum line i e h k) = index_check s g f i ∷ index_check s g f i ∷ []
  asked s g {f} (takes_off_item line i e h k) = index_check s g f i ∷ []
  asked s g {f} (puts_item_difference line i e h k) = index_check s g f i ∷ index_check s g f i ∷ []
  asked s g (adds_to_range w i e f t x) = demand g (sweeps w.field) (term_of p s w.from ∷ term_of p s w.to ∷ []) ∷ []
  asked s g (puts_literal line e h) = []

  pub demanded_is : (s : State) (g : PlainTerm) {f : FieldId} {k : Kind} {x : Statement} (u : IsUpdateOf written m f k x) → demanded p s g x ≡ asked s g u
  demanded_is s g (adds line e h) = sum_free p written m s g h.0
  demanded_is s g (takes_off line e h) = sum_free p written m s g h.0
  demanded_is s g (puts_sum line e h) = sum_free p written m s g h.0
  demanded_is s g (puts_difference line e h) = sum_free p written m s g h.0
  demanded_is s g (multiplies line e h) = atom_free p written m s g h
  demanded_is s g (puts_product line e h) = atom_free p written m s g h
  demanded_is s g (joins line o a e i h) = sum_free p written m s g h.0
  demanded_is s g {f} (puts_joined line o e h) = sum_free p written m s (right_guard (binary_of o) g (term_at s.fields f.field)) h.0
  demanded_is s g {f} (adds_to_item line i e h k) =
      ap₂ (λ xs ys. xs ++ (index_check s g f i ∷ ys)) (sum_free p written m s g h.0) (sum_free p written m s g k.0)
  demanded_is s g {f} (puts_item_sum line i e h k) =
      ap₂ (λ xs ys. xs ++ (index_check s g f i ∷ ((xs ++ (index_check s g f i ∷ [])) ++ ys))) (sum_free p written m s g h.0) (sum_free p written m s g k.0)
  demanded_is s g {f} (takes_off_item line i e h k) =
      ap₂ (λ xs ys. xs ++ (index_check s g f i ∷ ys)) (sum_free p written m s g h.0) (sum_free p written m s g k.0)
  demanded_is s g {f} (puts_item_difference line i e h k) =
      ap₂ (λ xs ys. xs ++ (index_check s g f i ∷ ((xs ++ (index_check s g f i ∷ [])) ++ ys))) (sum_free p written m s g h.0) (sum_free p written m s g k.0)
  demanded_is s g {x = x} (adds_to_range w i e f t d) = sweep_demands p written m w s g x i (found_at p written m w x i f t d)
  demanded_is s g (puts_literal line e h) = atom_free p written m s g (a_literal h)

  abbrev pub asked_by_call : State → PlainTerm → Expression → OpId → Expressions → List PlainDemand
  asked_by_call s g e op arguments = demand g not_null (term_of p s e ∷ []) ∷ demand g (invokes op) (term_of p s e ∷ terms_in p s arguments) ∷ []

  pub call_is : (s : State) (g : PlainTerm) (line : ℕ) (e : Expression) (op : OpId) (arguments : Expressions) → IsAtom written m e → AreShortSums written m arguments → demanded p s g (invoke line e op arguments) ≡ asked_by_call s g e op arguments
  call_is s g line e op arguments a h =
      ap₂ (λ xs ys. xs ++ (ys ++ asked_by_call s g e op arguments)) (atom_free p written m s g a) (sums_free p written m s g arguments h)

  -- what is demanded doesn't depend on the fields that are written

  asked_same : (s t : State) (g : PlainTerm) {f : FieldId} {k : Kind} {x : Statement} → Agree written m s t → (u : IsUpdateOf written m f k x) → asked s g u ≡ asked t g u
  asked_same s t g h (adds line e k) = refl
  asked_same s t g h (takes_off line e k) = refl
  asked_same s t g h (puts_sum line e k) = refl
  asked_same s t g h (puts_difference line e k) = refl
  asked_same s t g h (multiplies line e k) = refl
  asked_same s t g h (puts_product line e k) = refl
  asked_same s t g h (joins line o a e i k) = refl
  asked_same s t g h (puts_joined line o e k) = refl
  asked_same s t g {f} h (adds_to_item line i e k l) = ap (λ x. demand g (in_range f) (x ∷ []) ∷ []) (sum_same p written m s t h k.0)
  asked_same s t g {f} h (puts_item_sum line i e k l) =
      ap (λ x. demand g (in_range f) (x ∷ []) ∷ demand g (in_range f) (x ∷ []) ∷ []) (sum_same p written m s t h k.0)
  asked_same s t g {f} h (takes_off_item line i e k l) = ap (λ x. demand g (in_range f) (x ∷ []) ∷ []) (sum_same p written m s t h k.0)
  asked_same s t g {f} h (puts_item_difference line i e k l) =
      ap (λ x. demand g (in_range f) (x ∷ []) ∷ demand g (in_range f) (x ∷ []) ∷ []) (sum_same p written m s t h k.0)
  asked_same s t g h (adds_to_range w i e a b d) = ap₂ (λ x y. demand g (sweeps w.field) (x ∷ y ∷ []) ∷ []) (atom_same p written m s t h a.0) (atom_same p written m s t h b.0)
  asked_same s t g h (puts_literal line e k) = refl

  call_same : (s t : State) (g : PlainTerm) (e : Expression) (op : OpId) (arguments : Expressions) → Agree written m s t → IsAtom written m e → AreShortSums written m arguments → asked_by_call s g e op arguments ≡ asked_by_call t g e op arguments
  call_same s t g e op arguments h a k =
      ap₂ (λ x xs. demand g not_null (x ∷ []) ∷ demand g (invokes op) (x ∷ xs) ∷ []) (atom_same p written m s t h a) (sums_same p written m s t arguments h k)

  calls_same : (s t : State) (g : PlainTerm) {xs : Statements} → Agree written m s t → AreCalls written m xs → demanded_all p s g xs ≡ demanded_all p t g xs
  calls_same s t g h no_calls = refl
  calls_same s t g h (call_and line e op arguments a k c) =
      ap₂ (λ ds es. ds ++ es) (call_is s g line e op arguments a k ∙ call_same s t g e op arguments h a k ∙ sym (call_is t g line e op arguments a k)) (calls_same s t g h c)

  pub body_same : (kinds : ℕ → Kind) (s t : State) (g : PlainTerm) {xs : Statements} → Agree written m s t → AreUpdatesAndCalls written m kinds xs → demanded_all p s g xs ≡ demanded_all p t g xs
  body_same kinds s t g h (calls c) = calls_same s t g h c
  body_same kinds s t g h (update_and {x} f w u d) =
      ap₂ (λ ds es. ds ++ es) (demanded_is s g u ∙ asked_same s t g h u ∙ sym (demanded_is t g u))
      (body_same kinds (after p s x) (after p t x) g
      (agree_then p written m (after p s x) s (after p t x) (after_agrees p written m s f w u)
      (agree_then p written m s t (after p t x) h (agree_back p written m (after p t x) t (after_agrees p written m t f w u))))
      d)

  -- an update makes one term
  pub step_is : (s : State) (g : PlainTerm) {f : FieldId} {k : Kind} {x : Statement} (u : IsUpdateOf written m f k x) → steps_made p s g x ≡ changed (change_of p written m s u) (term_at s.fields f.field) ∷ []
  step_is s g {f} (adds line e h) = ap (λ xs. xs ++ (add (term_at s.fields f.field) (term_of p s e) ∷ [])) (sum_unguarded p written m s g h.0)
  step_is s g {f} (takes_off line e h) = ap (λ xs. xs ++ (sub (term_at s.fields f.field) (term_of p s e) ∷ [])) (sum_unguarded p written m s g h.0)
  step_is s g {f} (puts_sum line e h) = ap (λ xs. xs ++ (add (term_at s.fields f.field) (term_of p s e) ∷ [])) (sum_unguarded p written m s g h.0)
  step_is s g {f} (puts_difference line e h) = ap (λ xs. xs ++ (sub (term_at s.fields f.field) (term_of p s e) ∷ [])) (sum_unguarded p written m s g h.0)
  step_is s g {f} (multiplies line e h) = ap (λ xs. xs ++ (mul (term_at s.fields f.field) (term_of p s e) ∷ [])) (atom_unguarded p written m s g h)
  step_is s g {f} (puts_product line e h) = ap (λ xs. xs ++ (mul (term_at s.fields f.field) (term_of p s e) ∷ [])) (atom_unguarded p written m s g h)
  step_is s g {f} (joins line o a e i h) =
      ap (λ xs. xs ++ (put_term a (term_at s.fields f.field) (term_of p s e) ∷ [])) (sum_unguarded p written m s g h.0) ∙ ap (λ t. t ∷ []) (joined_term o a (term_at s.fields f.field) (term_of p s e) i)
  step_is s g {f} (puts_joined line o e h) =
      let t : PlainTerm = term_at s.fields f.field in
      ap₂ (λ xs ys. (xs ++ ys) ++ (operation (binary_of o) t (term_of p s e) (divisor e) ∷ [])) (no_condition o g t) (sum_unguarded p written m s (right_guard (binary_of o) g t) h.0)
      ∙ ap (λ u. u ∷ []) (operator_term o t (term_of p s e) (divisor e))
  step_is s g {f} (adds_to_item line i e h k) =
      ap₂ (λ xs ys. xs ++ (ys ++ (add_at (term_at s.fields f.field) (term_of p s i) (term_of p s e) ∷ []))) (sum_unguarded p written m s g h.0) (sum_unguarded p written m s g k.0)
  step_is s g {f} (puts_item_sum line i e h k) =
      ap₂ (λ xs ys. xs ++ ((xs ++ ys) ++ (array_term p s f i Put (binary Plus (own_item f i) e) ∷ []))) (sum_unguarded p written m s g h.0) (sum_unguarded p written m s g k.0)
      ∙ ap (λ t. t ∷ []) (item_sum p written m s f i e)
  step_is s g {f} (takes_off_item line i e h k) =
      ap₂ (λ xs ys. xs ++ (ys ++ (add_at (term_at s.fields f.field) (term_of p s i) (neg (term_of p s e)) ∷ []))) (sum_unguarded p written m s g h.0) (sum_unguarded p written m s g k.0)
  step_is s g {f} (puts_item_difference line i e h k) =
      ap₂ (λ xs ys. xs ++ ((xs ++ ys) ++ (array_term p s f i Put (binary Minus (own_item f i) e) ∷ []))) (sum_unguarded p written m s g h.0) (sum_unguarded p written m s g k.0)
      ∙ ap (λ t. t ∷ []) (item_difference p written m s f i e)
  step_is s g {f} {x = x} (adds_to_range w i e a b d) =
      sweep_steps p written m w s g x i (found_at p written m w x i a b d)
      ∙ ap (λ h. sweep (term_at s.fields h.field) (term_of p s w.from) (term_of p s w.to) (addend_term w.minus (term_of p s w.addend)) ∷ []) e
  step_is s g {f} (puts_literal line e h) = ap (λ xs. xs ++ (term_of p s e ∷ [])) (atom_unguarded p written m s g (a_literal h))
