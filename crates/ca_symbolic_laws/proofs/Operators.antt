-- What terms of operators mean, for sides of their types.
use Rattle.std.proofs.Common.{◌≡◌, ℕ, Bool, true, false, List, Some, None, ℤ, pos, neg_ℤ, ◌-ℤ◌, refl, sym, ap, ◌∙◌, arith, subst, w64}
use Rattle.std.specs.Prelude.{FitsSigned}
use Rattle.std.specs.Int.{int_wrap}
use Rattle.std.proofs.lemmas.Int.{int_wrap_fits, int_wrap-sub_right, ints}
use Rattle.ca_tree.specs.declared.tree.BinaryOp.{BinaryOp}
use Rattle.ca_tree.specs.declared.tree.BinaryOp.TheVariants.{Or, And, Equal, NotEqual, Less, Greater, LessEqual, GreaterEqual, Plus, Minus, Times, Divide, Remainder, BitAnd, BitOr, BitXor, Max, Min}
use Rattle.ca_tree.specs.declared.tree.UnaryOp.{UnaryOp}
use Rattle.ca_tree.specs.declared.tree.UnaryOp.TheVariants as sign
use Rattle.ca_program.specs.declared.program.ValueType.{ValueType}
use Rattle.ca_program.specs.declared.program.ValueType.TheVariants as type
use Rattle.ca_program.specs.Plain.{PlainProgram, Expression, unary}
use Rattle.ca_program.specs.Plain as plain
use Rattle.ca_model.specs.declared.value.Value.{Value as Datum}
use Rattle.ca_model.specs.declared.value.Value.TheVariants.{Long, Bool as Truth, Null, Ref}
use Rattle.ca_model.specs.declared.value.Object.{Object}
use Rattle.ca_model.specs.Typed.{HasType}
use Rattle.ca_meaning.specs.Operators.{is_zero, operated, operated_longs, signed}
use Rattle.ca_meaning.specs.Expressions.{gives, answer, decided}
use Rattle.ca_meaning.specs.ProgramTyped.{Scope, SidesTyped, ExpressionTyped}
use Rattle.ca_meaning_laws.specs.Typed.{Yields, yields}
use Rattle.ca_meaning_laws.proofs.Values.{answer_typed}
use Rattle.ca_parallel.specs.Separable.{IsNonzeroLiteral, MayStandRight}
use Rattle.ca_norm.specs.Terms.{PlainTerm}
use Rattle.ca_norm.specs.Meanings.{Valuation, value_or_null, operate, mean}
use Rattle.ca_symbolic.specs.States.{State}
use Rattle.ca_symbolic.specs.Execution.{divisor, operation, signed_term, term_of}
use Rattle.ca_symbolic.specs.Demands.{right_guard}
use Rattle.ca_norm.proofs.Quotients.{none as not_zero}

abbrev pub IsTruth : Datum → Type 0
IsTruth (Truth b) = Unit {0}
IsTruth d = ⊥

abbrev pub is_true : Datum → Bool
is_true (Truth true) = true
is_true d = false

pub truth_of : (h : List Object) (d : Datum) (ty : ValueType) → HasType h d ty → ty ≡ type.Bool → IsTruth d
truth_of h (Truth b) ty t e = tt
truth_of h (Long n) ty t e = absurd (subst (λ z. HasType h (Long n) z) e t)
truth_of h Null ty t e = absurd (subst (λ z. HasType h Null z) e t)
truth_of h (Ref n) ty t e = absurd (subst (λ z. HasType h (Ref n) z) e t)

-- Division

abbrev pub Divides : Datum → Type 0
Divides (Long n) = is_zero n ≡ false
Divides d = Unit {0}

-- the right side is no zero divisor
abbrev pub Fine : BinaryOp → Datum → Type 0
Fine Divide d = Divides d
Fine Remainder d = Divides d
Fine op d = Unit {0}

pub twice_negated : (n : ℤ) → n ≡ pos 0 -ℤ neg_ℤ n
twice_negated n = omega (arith, ints)

pub negated_zero : (n : ℤ) → FitsSigned w64 n → int_wrap w64 (neg_ℤ n) ≡ pos 0 → n ≡ pos 0
negated_zero n f e =
    sym (int_wrap_fits w64 n f) ∙ ap (int_wrap w64) (twice_negated n) ∙ sym (int_wrap-sub_right w64 (pos 0) (neg_ℤ n))
    ∙ ap (λ z. int_wrap w64 (pos 0 -ℤ z)) e ∙ int_wrap_fits w64 (pos 0) (record { sfits = omega arith })

module _ (p : PlainProgram) (scope : Scope) (v : Valuation) (st : State) where
  literal_divides : (e : Expression) (ty : ValueType) → ExpressionTyped p scope e ty → IsNonzeroLiteral e → Divides (mean v (term_of p st e))
  literal_divides (plain.number n) ty t h = not_zero n h
  literal_divides (unary sign.Minus (plain.number n)) ty t h = not_zero (int_wrap w64 (neg_ℤ n)) (λ e. h (negated_zero n t.1.1 e))
  literal_divides e ty t h = absurd h

  pub right_fine : (op : BinaryOp) (e : Expression) (ty : ValueType) → ExpressionTyped p scope e ty → MayStandRight op e → Fine op (mean v (term_of p st e))
  right_fine Divide e ty t h = literal_divides e ty t h
  right_fine Remainder e ty t h = literal_divides e ty t h
  right_fine op e ty t h = tt

  quotient_means : (a : PlainTerm) (e : Expression) → IsNonzeroLiteral e → mean v (operation Divide a (term_of p st e) (divisor e)) ≡ operate Divide (mean v a) (mean v (term_of p st e))
  quotient_means a (plain.number n) h = refl
  quotient_means a (unary sign.Minus (plain.number n)) h = refl
  quotient_means a e h = absurd h

  remainder_means : (a : PlainTerm) (e : Expression) → IsNonzeroLiteral e → mean v (operation Remainder a (term_of p st e) (divisor e)) ≡ operate Remainder (mean v a) (mean v (term_of p st e))
  remainder_means a (plain.number n) h = refl
  remainder_means a (unary sign.Minus (plain.number n)) h = refl
  remainder_means a e h = absurd h

-- Sides

greater_is : (h : List Object) (v w : Datum) → HasType h v type.Long → HasType h w type.Long → operate Less w v ≡ operate Greater v w
greater_is h (Long a) (Long b) t u = refl
greater_is h (Long a) (Truth b) t u = absurd u
greater_is h (Long a) Null t u = absurd u
greater_is h (Long a) (Ref b) t u = absurd u
greater_is h (Truth a) w t u = absurd t
greater_is h Null w t u = absurd t
greater_is h (Ref a) w t u = absurd t

no_less_is : (h : List Object) (v w : Datum) → HasType h v type.Long → HasType h w type.Long → operate LessEqual w v ≡ operate GreaterEqual v w
no_less_is h (Long a) (Long b) t u = refl
no_less_is h (Long a) (Truth b) t u = absurd u
no_less_is h (Long a) Null t u = absurd u
no_less_is h (Long a) (Ref b) t u = absurd u
no_less_is h (Truth a) w t u = absurd t
no_less_is h Null w t u = absurd t
no_less_is h (Ref a) w t u = absurd t

other_is : (v w : Datum) → signed sign.Not (operate Equal v w) ≡ operate NotEqual v w
other_is (Long a) (Long b) = refl
other_is (Truth a) (Truth b) = refl
other_is v w = refl

module _ (h : List Object) (p : PlainProgram) (scope : Scope) (v : Valuation) (st : State) where
  side_long : (d : Datum) (side : ValueType) → side ≡ type.Long → HasType h d side → HasType h d type.Long
  side_long d side e t = subst (λ z. HasType h d z) e t

  pub operation_means : (op : BinaryOp) (a : PlainTerm) (e : Expression) (side ty : ValueType) → SidesTyped op side ty → MayStandRight op e → HasType h (mean v a) side → HasType h (mean v (term_of p st e)) side → mean v (operation op a (term_of p st e) (divisor e)) ≡ operate op (mean v a) (mean v (term_of p st e))
  operation_means Or a e side ty s r x y = refl
  operation_means And a e side ty s r x y = refl
  operation_means Equal a e side ty s r x y = refl
  operation_means NotEqual a e side ty s r x y = other_is (mean v a) (mean v (term_of p st e))
  operation_means Less a e side ty s r x y = refl
  operation_means Greater a e side ty s r x y = greater_is h (mean v a) (mean v (term_of p st e)) (side_long _ side s.0 x) (side_long _ side s.0 y)
  operation_means LessEqual a e side ty s r x y = refl
  operation_means GreaterEqual a e side ty s r x y = no_less_is h (mean v a) (mean v (term_of p st e)) (side_long _ side s.0 x) (side_long _ side s.0 y)
  operation_means Plus a e side ty s r x y = refl
  operation_means Minus a e side ty s r x y = refl
  operation_means Times a e side ty s r x y = refl
  operation_means Divide a e side ty s r x y = quotient_means p scope v st a e r
  operation_means Remainder a e side ty s r x y = remainder_means p scope v st a e r
  operation_means BitAnd a e side ty s r x y = refl
  operation_means BitOr a e side ty s r x y = refl
  operation_means BitXor a e side ty s r x y = refl
  operation_means Max a e side ty s r x y = refl
  operation_means Min a e side ty s r x y = refl

pub signed_means : (v : Valuation) (op : UnaryOp) (t : PlainTerm) → mean v (signed_term op t) ≡ signed op (mean v t)
signed_means v sign.Minus t = refl
signed_means v sign.Not t = refl

-- Answers

longs_give : (op : BinaryOp) (line k : ℕ) (a b : ℤ) → Fine op (Long b) → answer line (operated_longs op a b) k ≡ gives (value_or_null (operated_longs op a b)) k
longs_give Plus line k a b u = refl
longs_give Minus line k a b u = refl
longs_give Times line k a b u = refl
longs_give Divide line k a b u = rw u refl
longs_give Remainder line k a b u = rw u refl
longs_give BitAnd line k a b u = refl
longs_give BitOr line k a b u = refl
longs_give BitXor line k a b u = refl
longs_give Max line k a b u = refl
longs_give Min line k a b u = refl
longs_give Less line k a b u = refl
longs_give Greater line k a b u = refl
longs_give LessEqual line k a b u = refl
longs_give GreaterEqual line k a b u = refl
longs_give Equal line k a b u = refl
longs_give NotEqual line k a b u = refl
longs_give And line k a b u = refl
longs_give Or line k a b u = refl

pub operated_gives : (op : BinaryOp) (line k : ℕ) (v w : Datum) → Fine op w → answer line (operated op v w) k ≡ gives (operate op v w) k
operated_gives op line k (Long a) (Long b) u = longs_give op line k a b u
operated_gives op line k (Truth a) (Truth b) u = refl
operated_gives op line k v w u = refl

value_yielded : {A : Type 0} (P : A → Type 0) (v : A) (k : ℕ) → Yields P (gives v k) → P v
value_yielded P v k (yields _ _ t) = t

pub operate_typed : (h : List Object) (op : BinaryOp) (v w : Datum) (side ty : ValueType) → SidesTyped op side ty → HasType h v side → HasType h w side → Fine op w → HasType h (operate op v w) ty
operate_typed h op v w side ty s a b u =
    value_yielded (λ d. HasType h d ty) (operate op v w) 0 (subst (Yields (λ d. HasType h d ty)) (operated_gives op 0 0 v w u) (answer_typed h 0 op v w side ty 0 s a b))

-- Guards

pub guard_off : (d e : Datum) → is_true d ≡ false → is_true (operate And d e) ≡ false
guard_off (Truth true) e h = cc
guard_off (Truth false) (Truth b) h = refl
guard_off (Truth false) (Long b) h = refl
guard_off (Truth false) Null h = refl
guard_off (Truth false) (Ref b) h = refl
guard_off (Long a) (Long b) h = refl
guard_off (Long a) (Truth b) h = refl
guard_off (Long a) Null h = refl
guard_off (Long a) (Ref b) h = refl
guard_off Null e h = refl
guard_off (Ref n) e h = refl

-- `&&` and `||` have truth values on both sides
abbrev pub BothTruths : BinaryOp → Datum → Datum → Type 0
BothTruths And v w = IsTruth v × IsTruth w
BothTruths Or v w = IsTruth v × IsTruth w
BothTruths op v w = Unit {0}

pub both_truths : (h : List Object) (op : BinaryOp) (v w : Datum) (side ty : ValueType) → SidesTyped op side ty → HasType h v side → HasType h w side → BothTruths op v w
both_truths h And v w side ty s a b = (truth_of h v side a s.0, truth_of h w side b s.0)
both_truths h Or v w side ty s a b = (truth_of h v side a s.0, truth_of h w side b s.0)
both_truths h op v w side ty s a b = tt

false_and : (v w x : Datum) → IsTruth v → IsTruth w → decided And v ≡ Some x → operate And v w ≡ x
false_and (Truth false) (Truth b) x t u e = cc
false_and (Truth true) (Truth b) x t u e = cc
false_and (Truth a) (Long b) x t u e = absurd u
false_and (Truth a) Null x t u e = absurd u
false_and (Truth a) (Ref b) x t u e = absurd u
false_and (Long a) w x t u e = absurd t
false_and Null w x t u e = absurd t
false_and (Ref a) w x t u e = absurd t

true_or : (v w x : Datum) → IsTruth v → IsTruth w → decided Or v ≡ Some x → operate Or v w ≡ x
true_or (Truth true) (Truth b) x t u e = cc
true_or (Truth false) (Truth b) x t u e = cc
true_or (Truth a) (Long b) x t u e = absurd u
true_or (Truth a) Null x t u e = absurd u
true_or (Truth a) (Ref b) x t u e = absurd u
true_or (Long a) w x t u e = absurd t
true_or Null w x t u e = absurd t
true_or (Ref a) w x t u e = absurd t

-- a side that decides alone is what the operator gives
pub decides_alone : (op : BinaryOp) (v w x : Datum) → BothTruths op v w → decided op v ≡ Some x → operate op v w ≡ x
decides_alone And v w x t e = false_and v w x t.0 t.1 e
decides_alone Or v w x t e = true_or v w x t.0 t.1 e
decides_alone op v w x t e = cc

off_and : (g a x : Datum) → g ≡ Truth true → decided And a ≡ Some x → is_true (operate And g a) ≡ false
off_and g (Truth false) x e d = rw e refl
off_and g (Truth true) x e d = cc
off_and g (Long n) x e d = cc
off_and g Null x e d = cc
off_and g (Ref n) x e d = cc

off_or : (g a x : Datum) → g ≡ Truth true → decided Or a ≡ Some x → is_true (operate And g (signed sign.Not a)) ≡ false
off_or g (Truth true) x e d = rw e refl
off_or g (Truth false) x e d = cc
off_or g (Long n) x e d = cc
off_or g Null x e d = cc
off_or g (Ref n) x e d = cc

on_and : (g a : Datum) → g ≡ Truth true → IsTruth a → decided And a ≡ None → operate And g a ≡ Truth true
on_and g (Truth true) e h d = rw e refl
on_and g (Truth false) e h d = cc
on_and g (Long n) e h d = absurd h
on_and g Null e h d = absurd h
on_and g (Ref n) e h d = absurd h

on_or : (g a : Datum) → g ≡ Truth true → IsTruth a → decided Or a ≡ None → operate And g (signed sign.Not a) ≡ Truth true
on_or g (Truth false) e h d = rw e refl
on_or g (Truth true) e h d = cc
on_or g (Long n) e h d = absurd h
on_or g Null e h d = absurd h
on_or g (Ref n) e h d = absurd h

module _ (v : Valuation) where
  -- under a guard that isn't true no right side has a true one
  pub right_off : (op : BinaryOp) (g t : PlainTerm) → is_true (mean v g) ≡ false → is_true (mean v (right_guard op g t)) ≡ false
  right_off And g t h = guard_off (mean v g) (mean v t) h
  right_off Or g t h = guard_off (mean v g) (signed sign.Not (mean v t)) h
  right_off op g t h = h

  -- where the left side decides, that of the right side isn't true
  pub decided_off : (op : BinaryOp) (g a : PlainTerm) (x : Datum) → mean v g ≡ Truth true → decided op (mean v a) ≡ Some x → is_true (mean v (right_guard op g a)) ≡ false
  decided_off And g a x e d = off_and (mean v g) (mean v a) x e d
  decided_off Or g a x e d = off_or (mean v g) (mean v a) x e d
  decided_off op g a x e d = cc

  -- where it doesn't, it is
  pub guard_on : (op : BinaryOp) (g a : PlainTerm) (w : Datum) → mean v g ≡ Truth true → BothTruths op (mean v a) w → decided op (mean v a) ≡ None → mean v (right_guard op g a) ≡ Truth true
  guard_on And g a w e h d = on_and (mean v g) (mean v a) e h.0 d
  guard_on Or g a w e h d = on_or (mean v g) (mean v a) e h.0 d
  guard_on op g a w e h d = e
