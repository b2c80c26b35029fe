-- A put to an item, by its right side: `left op right` adds to the item where the left side is that item.
use Rattle.std.proofs.Common.{◌≡◌, Bool, true, false, ◌||◌, ◌++◌, Result, Ok, Err, OnOk, Global, refl, sym, ap, ap₂, ◌∙◌}
use Rattle.std.proofs.lemmas.Bool.{or_left}
use Rattle.std.specs.Prelude.{if◌then◌else◌}
use Rattle.std.specs.declared.boxed.Box.{Box}
use Rattle.ca_tree.specs.declared.tree.AssignOp.{AssignOp}
use Rattle.ca_tree.specs.declared.tree.AssignOp.TheVariants as assign
use Rattle.ca_tree.specs.declared.tree.BinaryOp.{BinaryOp}
use Rattle.ca_tree.specs.declared.tree.BinaryOp.TheVariants.{Plus, Minus}
use Rattle.ca_program.specs.declared.program.Expr.{Expr, Binary, Binary'}
use Rattle.ca_program.specs.declared.program.FieldId.{FieldId}
use Rattle.ca_program.specs.Plain.{PlainProgram, Expression, binary}
use Rattle.ca_program.specs.View.{expression_view}
use Rattle.ca_norm.specs.Terms.{PlainTerm, put}
use Rattle.ca_symbolic.specs.States.{State, term_at}
use Rattle.ca_symbolic.specs.Execution.{term_of, is_item, put_right, array_term}
use Rattle.ca_symbolic.specs.Demands.{demands_in}
use Rattle.ca_symbolic.specs.Demanded.{Demanded, with_demands}
use Rattle.ca_symbolic.specs.clauses.Refusals.{refused_item, with_put, refused_value, put_sum, refused_sum, refused_right, refused_array}
use Rattle.ca_symbolic.proofs.Valued.{behind, guard_of}

pub was_ok : {T E : Type 0} (r : Result T E) (x : T) (P : Type 0) → r ≡ Ok x → OnOk r P → P
was_ok (Ok y) x P e h = h
was_ok (Err y) x P e h = absurd cc

module _ (p : PlainProgram) (s : State) (f : FieldId) (i : Expression) (op : AssignOp) (t : PlainTerm) (left right e : Expression) where
  pub sum_made : is_item f i left ≡ true → (k : PlainTerm) → k ≡ t → with_put op (term_at s.fields f.field) k (term_of p s right) ≡ put_sum p s f i op t left right e
  sum_made h k is =
      ap (λ x. with_put op (term_at s.fields f.field) x (term_of p s right)) is
      ∙ sym (ap (λ b. if b then with_put op (term_at s.fields f.field) t (term_of p s right) else put (term_at s.fields f.field) t (term_of p s e)) h)

  pub sum_not_made : is_item f i left ≡ false → put (term_at s.fields f.field) t (term_of p s e) ≡ put_sum p s f i op t left right e
  sum_not_made h =
      sym (ap (λ b. if b then with_put op (term_at s.fields f.field) t (term_of p s right) else put (term_at s.fields f.field) t (term_of p s e)) h)

  pub sum_demands : (d d1 now : Demanded) → d1 ≡ with_demands d (demands_in p s d.guard left) → now ≡ with_demands d1 (demands_in p s d1.guard right) →
      demands_in p s d.guard e ≡ demands_in p s d.guard left ++ demands_in p s d.guard right → now ≡ with_demands d (demands_in p s d.guard e)
  sum_demands d d1 now a b all =
      behind d d1 now (demands_in p s d.guard left) (demands_in p s d.guard right) a (b ∙ ap (λ k. with_demands d1 (demands_in p s k right)) (guard_of d d1 (demands_in p s d.guard left) a))
      ∙ ap (with_demands d) (sym all)

  module _ (g : PlainTerm) where
    sum_refused : (b : Bool) → is_item f i left ≡ b →
        refused_sum p s g f i op t left right e ≡ (if b then refused_item p s g left || refused_value p s g f op t right else refused_value p s g f assign.Put t e)
    sum_refused b h = ap (λ c. if c then refused_item p s g left || refused_value p s g f op t right else refused_value p s g f assign.Put t e) h

    -- behind the item, which is looked at first
    pub sum_behind : (g1 k : PlainTerm) → g1 ≡ g → k ≡ t → is_item f i left ≡ true → refused_item p s g left ≡ false →
        refused_value p s g1 f op k right ≡ refused_sum p s g f i op t left right e
    sum_behind g1 k same is h quiet =
        ap₂ (λ (x y : PlainTerm). refused_value p s x f op y right) same is
        ∙ sym (sum_refused true h ∙ ap (λ b. b || refused_value p s g f op t right) quiet)

    pub sum_seen_large : is_item f i left ≡ true → refused_item p s g left ≡ true → refused_sum p s g f i op t left right e ≡ true
    sum_seen_large h a = sum_refused true h ∙ or_left (refused_item p s g left) (refused_value p s g f op t right) a

    pub sum_not_refused : is_item f i left ≡ false → refused_value p s g f assign.Put t e ≡ refused_sum p s g f i op t left right e
    sum_not_refused h = sym (sum_refused false h)

-- an operator's value
module _ (p : PlainProgram) (s : State) (g : PlainTerm) (f : FieldId) (i : Expression) (t : PlainTerm) (named : t ≡ term_of p s i) (a b x : Expression) where
  pub plus_made : x ≡ binary Plus a b → put_sum p s f i assign.Add t a b x ≡ put_right p s f i x
  plus_made is = ap₂ (λ (u : PlainTerm) (y : Expression). put_sum p s f i assign.Add u a b y) named is ∙ sym (ap (put_right p s f i) is)

  pub plus_refused : x ≡ binary Plus a b → refused_sum p s g f i assign.Add t a b x ≡ refused_right p s g f i x
  plus_refused is = ap₂ (λ (u : PlainTerm) (y : Expression). refused_sum p s g f i assign.Add u a b y) named is ∙ sym (ap (refused_right p s g f i) is)

  pub minus_made : x ≡ binary Minus a b → put_sum p s f i assign.Sub t a b x ≡ put_right p s f i x
  minus_made is = ap₂ (λ (u : PlainTerm) (y : Expression). put_sum p s f i assign.Sub u a b y) named is ∙ sym (ap (put_right p s f i) is)

  pub minus_refused : x ≡ binary Minus a b → refused_sum p s g f i assign.Sub t a b x ≡ refused_right p s g f i x
  minus_refused is = ap₂ (λ (u : PlainTerm) (y : Expression). refused_sum p s g f i assign.Sub u a b y) named is ∙ sym (ap (refused_right p s g f i) is)

  no_sum_made : (op : BinaryOp) → (op ≡ Plus → ⊥) → (op ≡ Minus → ⊥) → put (term_at s.fields f.field) (term_of p s i) (term_of p s (binary op a b)) ≡ put_right p s f i (binary op a b)
  no_sum_made Plus n m = absurd (n refl)
  no_sum_made Minus n m = absurd (m refl)
  no_sum_made op n m = refl

  no_sum_refused : (op : BinaryOp) → (op ≡ Plus → ⊥) → (op ≡ Minus → ⊥) → refused_value p s g f assign.Put (term_of p s i) (binary op a b) ≡ refused_right p s g f i (binary op a b)
  no_sum_refused Plus n m = absurd (n refl)
  no_sum_refused Minus n m = absurd (m refl)
  no_sum_refused op n m = refl

  pub operator_made : (op : BinaryOp) → (op ≡ Plus → ⊥) → (op ≡ Minus → ⊥) → x ≡ binary op a b → with_put assign.Put (term_at s.fields f.field) t (term_of p s x) ≡ put_right p s f i x
  operator_made op n m is =
      ap₂ (λ (u : PlainTerm) (y : Expression). put (term_at s.fields f.field) u (term_of p s y)) named is ∙ (no_sum_made op n m ∙ sym (ap (put_right p s f i) is))

  pub operator_refused : (op : BinaryOp) → (op ≡ Plus → ⊥) → (op ≡ Minus → ⊥) → x ≡ binary op a b → refused_value p s g f assign.Put t x ≡ refused_right p s g f i x
  operator_refused op n m is =
      ap₂ (λ (u : PlainTerm) (y : Expression). refused_value p s g f assign.Put u y) named is ∙ (no_sum_refused op n m ∙ sym (ap (refused_right p s g f i) is))

-- any other value, and an operator in the assignment itself
module _ (p : PlainProgram) (s : State) (g : PlainTerm) (f : FieldId) (i : Expression) (t : PlainTerm) (named : t ≡ term_of p s i) where
  plain_made : (e : Expr) → ((op : BinaryOp) (q r : Box Expr Global) → e ≡ Binary op q r → ⊥) →
      put (term_at s.fields f.field) (term_of p s i) (term_of p s (expression_view e)) ≡ put_right p s f i (expression_view e)
  plain_made (Binary' op q a r b) other = absurd (other _ _ _ refl)
  plain_made e other = refl

  plain_refused : (e : Expr) → ((op : BinaryOp) (q r : Box Expr Global) → e ≡ Binary op q r → ⊥) →
      refused_value p s g f assign.Put (term_of p s i) (expression_view e) ≡ refused_right p s g f i (expression_view e)
  plain_refused (Binary' op q a r b) other = absurd (other _ _ _ refl)
  plain_refused e other = refl

  pub value_made : (e : Expr) → ((op : BinaryOp) (q r : Box Expr Global) → e ≡ Binary op q r → ⊥) →
      with_put assign.Put (term_at s.fields f.field) t (term_of p s (expression_view e)) ≡ put_right p s f i (expression_view e)
  value_made e other = ap (λ (u : PlainTerm). put (term_at s.fields f.field) u (term_of p s (expression_view e))) named ∙ plain_made e other

  pub value_refused : (e : Expr) → ((op : BinaryOp) (q r : Box Expr Global) → e ≡ Binary op q r → ⊥) →
      refused_value p s g f assign.Put t (expression_view e) ≡ refused_right p s g f i (expression_view e)
  value_refused e other = ap (λ (u : PlainTerm). refused_value p s g f assign.Put u (expression_view e)) named ∙ plain_refused e other

  no_put_made : (op : AssignOp) (e : Expression) → (op ≡ assign.Put → ⊥) → with_put op (term_at s.fields f.field) (term_of p s i) (term_of p s e) ≡ array_term p s f i op e
  no_put_made assign.Put e n = absurd (n refl)
  no_put_made op e n = refl

  no_put_refused : (op : AssignOp) (e : Expression) → (op ≡ assign.Put → ⊥) → refused_value p s g f op (term_of p s i) e ≡ refused_array p s g f i op e
  no_put_refused assign.Put e n = absurd (n refl)
  no_put_refused op e n = refl

  module _ (op : AssignOp) (no_put : op ≡ assign.Put → ⊥) (e : Expression) where
    pub array_made : with_put op (term_at s.fields f.field) t (term_of p s e) ≡ array_term p s f i op e
    array_made = ap (λ (u : PlainTerm). with_put op (term_at s.fields f.field) u (term_of p s e)) named ∙ no_put_made op e no_put

    pub array_refused : refused_value p s g f op t e ≡ refused_array p s g f i op e
    array_refused = ap (λ (u : PlainTerm). refused_value p s g f op u e) named ∙ no_put_refused op e no_put
