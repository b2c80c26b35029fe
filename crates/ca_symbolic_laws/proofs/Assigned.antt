-- What a put leaves: in a local, in a field, and at each item of an array.
use Rattle.std.proofs.Common.{◌≡◌, ℕ, Bool, true, false, List, ℤ, ◌+ℤ◌, ◌-ℤ◌, neg_ℤ, refl, sym, ap, ◌∙◌, arith, subst, w64}
use Rattle.std.specs.Prelude.{cond, eqb, if◌then◌else◌}
use Rattle.std.specs.Int.{int_wrap}
use Rattle.std.proofs.lemmas.Int.{int_wrap-add_right, ints}
use Rattle.std.proofs.lemmas.Bool.Decides.{nat_tests}
use Rattle.ca_tree.specs.declared.tree.AssignOp.{AssignOp}
use Rattle.ca_tree.specs.declared.tree.AssignOp.TheVariants as assign
use Rattle.ca_tree.specs.declared.tree.BinaryOp.TheVariants.{Plus, Minus, Times, BitAnd, BitOr, BitXor}
use Rattle.ca_tree.specs.declared.tree.UnaryOp.TheVariants as sign
use Rattle.ca_program.specs.declared.program.FieldId.{FieldId}
use Rattle.ca_program.specs.declared.program.ValueType.{ValueType}
use Rattle.ca_program.specs.declared.program.ValueType.TheVariants as type
use Rattle.ca_program.specs.Plain.{PlainProgram, Expression, this, local, own, own_item, read_item, value_call, unary, binary}
use Rattle.ca_program.specs.Plain as plain
use Rattle.ca_model.specs.declared.value.Value.{Value as Datum}
use Rattle.ca_model.specs.declared.value.Value.TheVariants.{Long, Bool as Truth, Null, Ref}
use Rattle.ca_model.specs.declared.value.Object.{Object}
use Rattle.ca_model.specs.Typed.{HasType}
use Rattle.ca_meaning.specs.Operators.{assigned, signed, same_int}
use Rattle.ca_meaning.specs.ProgramTyped.{Scope, AssignTyped, ExpressionTyped}
use Rattle.ca_parallel.specs.Separable.{IsClean}
use Rattle.ca_folds.specs.declared.operator.FoldOp.{FoldOp}
use Rattle.ca_folds.specs.declared.operator.FoldOp.TheVariants as fold_op
use Rattle.ca_norm.specs.Terms.{PlainTerm, neg, mul, select, put, add_at, fold}
use Rattle.ca_norm.specs.Meanings.{Valuation, operate, binary_of, mean}
use Rattle.ca_symbolic.specs.States.{State, term_at}
use Rattle.ca_symbolic.specs.Execution.{term_of, put_term, is_item, put_right, array_term}
use Rattle.ca_symbolic.proofs.Alike.{alike_is_equal}
use Rattle.ca_symbolic_laws.specs.Meant.{item_meant}
use Rattle.ca_symbolic_laws.proofs.Indexes.{number_of}
use Rattle.ca_symbolic_laws.proofs.Selects.{by_number, of_put, of_add}
use Rattle.ca_norm.proofs.Operations.{same_int_true as same_int_is}

pub put_means : (v w : Datum) → assigned assign.Put v w ≡ w
put_means (Long a) (Long b) = refl
put_means v w = refl

sum_means : (v w : Datum) → assigned assign.Add v w ≡ operate Plus v w
sum_means (Long a) (Long b) = refl
sum_means (Truth a) (Truth b) = refl
sum_means v w = refl

difference_means : (v w : Datum) → assigned assign.Sub v w ≡ operate Minus v w
difference_means (Long a) (Long b) = refl
difference_means (Truth a) (Truth b) = refl
difference_means v w = refl

product_means : (v w : Datum) → assigned assign.Mul v w ≡ operate Times v w
product_means (Long a) (Long b) = refl
product_means (Truth a) (Truth b) = refl
product_means v w = refl

and_means : (v w : Datum) → assigned assign.BitAnd v w ≡ operate BitAnd v w
and_means (Long a) (Long b) = refl
and_means (Truth a) (Truth b) = refl
and_means v w = refl

or_means : (v w : Datum) → assigned assign.BitOr v w ≡ operate BitOr v w
or_means (Long a) (Long b) = refl
or_means (Truth a) (Truth b) = refl
or_means v w = refl

exclusive_or_means : (v w : Datum) → assigned assign.BitXor v w ≡ operate BitXor v w
exclusive_or_means (Long a) (Long b) = refl
exclusive_or_means (Truth a) (Truth b) = refl
exclusive_or_means v w = refl

pub assigned_means : (v : Valuation) (op : AssignOp) (old t : PlainTerm) → assigned op (mean v old) (mean v t) ≡ mean v (put_term op old t)
assigned_means v assign.Put old t = put_means (mean v old) (mean v t)
assigned_means v assign.Add old t = sum_means (mean v old) (mean v t)
assigned_means v assign.Sub old t = difference_means (mean v old) (mean v t)
assigned_means v assign.Mul old t = product_means (mean v old) (mean v t)
assigned_means v assign.BitAnd old t = and_means (mean v old) (mean v t)
assigned_means v assign.BitOr old t = or_means (mean v old) (mean v t)
assigned_means v assign.BitXor old t = exclusive_or_means (mean v old) (mean v t)

-- Items

negated : (a b : ℤ) → a +ℤ neg_ℤ b ≡ a -ℤ b
negated a b = omega (arith, ints)

less_negated : (h : List Object) (d e : Datum) → HasType h d type.Long → HasType h e type.Long → operate Plus d (signed sign.Minus e) ≡ operate Minus d e
less_negated h (Long a) (Long b) t u = ap Long (int_wrap-add_right w64 a (neg_ℤ b) ∙ ap (int_wrap w64) (negated a b))
less_negated h (Long a) (Truth b) t u = absurd u
less_negated h (Long a) Null t u = absurd u
less_negated h (Long a) (Ref b) t u = absurd u
less_negated h (Truth a) e t u = absurd t
less_negated h Null e t u = absurd t
less_negated h (Ref a) e t u = absurd t

same_number : (m n : ℕ) → eqb m n ≡ true → m ≡ n
same_number m n e = grind (arith, nat_tests, e)

cond_same : (k z : ℤ) (d e y : Datum) → (k ≡ z → d ≡ e) → cond (same_int k z) d y ≡ cond (same_int k z) e y
cond_same k z d e y h = at (same_int k z) refl
  where
    at : (b : Bool) → same_int k z ≡ b → cond b d y ≡ cond b e y
    at true q = h (same_int_is k z q)
    at false q = refl

is_own_item : (f : FieldId) (i a : Expression) → is_item f i a ≡ true → a ≡ own_item f i
is_own_item f i (own_item g j) e = sym ((alike_is_equal (own_item f i) (own_item g j)).0 e)
is_own_item f i (plain.number n) e = cc
is_own_item f i (plain.truth b) e = cc
is_own_item f i plain.null e = cc
is_own_item f i this e = cc
is_own_item f i (local l) e = cc
is_own_item f i (own g) e = cc
is_own_item f i (plain.read d g) e = cc
is_own_item f i (read_item d g j) e = cc
is_own_item f i (value_call d m es) e = cc
is_own_item f i (unary op d) e = cc
is_own_item f i (binary op c d) e = cc

module _ (v : Valuation) (h : List Object) (p : PlainProgram) (scope : Scope) (st : State) (f : FieldId) (i : Expression) (written : List FieldId) (called : Bool) where
  abbrev old : PlainTerm
  old = term_at st.fields f.field

  abbrev index : ℤ
  index = number_of (mean v (term_of p st i))

  -- the array t is the old one, with d at the index
  abbrev Puts_at : PlainTerm → Datum → Type 0
  Puts_at t d = (z : ℤ) → item_meant v t z ≡ cond (same_int index z) d (item_meant v old z)

  added : (x : PlainTerm) (d : Datum) → operate Plus (item_meant v old index) (mean v x) ≡ d → Puts_at (add_at old (term_of p st i) x) d
  added x d e z = of_add v old (term_of p st i) x z ∙ cond_same index z _ d (item_meant v old z) (λ q. ap (λ k. operate Plus (item_meant v old k) (mean v x)) (sym q) ∙ e)

  stored : (x : PlainTerm) (d : Datum) → mean v x ≡ d → Puts_at (put old (term_of p st i) x) d
  stored x d e z = of_put v old (term_of p st i) x z ∙ cond_same index z _ d (item_meant v old z) (λ q. e)

  -- what an operator makes of the item and of a value
  joined : (o : FoldOp) (op : AssignOp) → ((d e : Datum) → assigned op d e ≡ operate (binary_of o) d e) → (e : Expression) → Puts_at (put old (term_of p st i) (fold o (select old (term_of p st i)) (term_of p st e))) (assigned op (item_meant v old index) (mean v (term_of p st e)))
  joined o op same e =
      stored (fold o (select old (term_of p st i)) (term_of p st e)) _ (ap (λ d. operate (binary_of o) d (mean v (term_of p st e))) (by_number v old (term_of p st i)) ∙ sym (same (item_meant v old index) (mean v (term_of p st e))))

  module _ (typed : (e : Expression) (ty : ValueType) → ExpressionTyped p scope e ty → IsClean p written called e → HasType h (mean v (term_of p st e)) ty) where
    sum_at : (a b : Expression) (c : Bool) → is_item f i a ≡ c → Puts_at (if c then add_at old (term_of p st i) (term_of p st b) else put old (term_of p st i) (term_of p st (binary Plus a b))) (mean v (term_of p st (binary Plus a b)))
    sum_at a b true e =
        let same : a ≡ own_item f i = is_own_item f i a e in
        added (term_of p st b) _ (ap (λ d. operate Plus d (mean v (term_of p st b))) (sym (by_number v old (term_of p st i))) ∙ ap (λ x. operate Plus (mean v (term_of p st x)) (mean v (term_of p st b))) (sym same))
    sum_at a b false e = stored (term_of p st (binary Plus a b)) _ refl

    difference_at : (a b : Expression) (c : Bool) (ty : ValueType) → ExpressionTyped p scope (binary Minus a b) ty → IsClean p written called (binary Minus a b) → is_item f i a ≡ c → Puts_at (if c then add_at old (term_of p st i) (neg (term_of p st b)) else put old (term_of p st i) (term_of p st (binary Minus a b))) (mean v (term_of p st (binary Minus a b)))
    difference_at a b true ty t k e =
        let same : a ≡ own_item f i = is_own_item f i a e in
        let one : item_meant v old index ≡ mean v (term_of p st a) = sym (ap (λ x. mean v (term_of p st x)) same ∙ by_number v old (term_of p st i)) in
        added (neg (term_of p st b)) _ (ap (λ d. operate Plus d (signed sign.Minus (mean v (term_of p st b)))) one
        ∙ less_negated h (mean v (term_of p st a)) (mean v (term_of p st b)) (subst (HasType h (mean v (term_of p st a))) t.1.0 (typed a t.0 t.2 k.1)) (subst (HasType h (mean v (term_of p st b))) t.1.0 (typed b t.0 t.3 k.2)))
    difference_at a b false ty t k e = stored (term_of p st (binary Minus a b)) _ refl

    put_at : (e : Expression) (ty : ValueType) → ExpressionTyped p scope e ty → IsClean p written called e → Puts_at (put_right p st f i e) (mean v (term_of p st e))
    put_at (binary Plus a b) ty t k = sum_at a b (is_item f i a) refl
    put_at (binary Minus a b) ty t k = difference_at a b (is_item f i a) ty t k refl
    put_at e ty t k = stored (term_of p st e) _ refl

    -- a put to an item leaves the old array with the assigned value at the index
    pub array_is : (op : AssignOp) (e : Expression) (ty : ValueType) → ((z : ℤ) → HasType h (item_meant v old z) ty) → AssignTyped op ty → ExpressionTyped p scope e ty → IsClean p written called e → Puts_at (array_term p st f i op e) (assigned op (item_meant v old index) (mean v (term_of p st e)))
    array_is assign.Put e ty before a t k = λ z. put_at e ty t k z ∙ ap (λ d. cond (same_int index z) d (item_meant v old z)) (sym (put_means (item_meant v old index) (mean v (term_of p st e))))
    array_is assign.Add e ty before a t k = added (term_of p st e) _ (sym (sum_means (item_meant v old index) (mean v (term_of p st e))))
    array_is assign.Sub e ty before a t k =
        added (neg (term_of p st e)) _ (less_negated h (item_meant v old index) (mean v (term_of p st e)) (subst (HasType h (item_meant v old index)) a (before index)) (subst (HasType h (mean v (term_of p st e))) a (typed e ty t k))
        ∙ sym (difference_means (item_meant v old index) (mean v (term_of p st e))))
    array_is assign.Mul e ty before a t k =
        stored (mul (select old (term_of p st i)) (term_of p st e)) _ (ap (λ d. operate Times d (mean v (term_of p st e))) (by_number v old (term_of p st i)) ∙ sym (product_means (item_meant v old index) (mean v (term_of p st e))))
    array_is assign.BitAnd e ty before a t k = joined fold_op.BitAnd assign.BitAnd and_means e
    array_is assign.BitOr e ty before a t k = joined fold_op.BitOr assign.BitOr or_means e
    array_is assign.BitXor e ty before a t k = joined fold_op.BitXor assign.BitXor exclusive_or_means e
