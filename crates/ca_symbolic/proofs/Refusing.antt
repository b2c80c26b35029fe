-- An execution is refused exactly where a term that it makes is too heavy.
use Rattle.std.proofs.Common.{◌≡◌, Bool, true, false, ◌&&◌, ◌||◌, List, [], ◌∷◌, ◌++◌, Option, Some, None, refl, sym, ap, ap₂, ◌∙◌}
use Rattle.std.specs.Prelude.{if◌then◌else◌, flat_map, ℤ}
use Rattle.std.specs.List.{list_any}
use Rattle.std.proofs.lemmas.Grind.{flat_map-append}
use Rattle.std.proofs.lemmas.List.Folds.{list_any-append}
use Rattle.ca_tree.specs.declared.tree.AssignOp.{AssignOp}
use Rattle.ca_tree.specs.declared.tree.AssignOp.TheVariants as assign
use Rattle.ca_tree.specs.declared.tree.BinaryOp.{BinaryOp}
use Rattle.ca_tree.specs.declared.tree.BinaryOp.TheVariants.{Or, And, Equal, NotEqual, Less, Greater, LessEqual, GreaterEqual, Plus, Minus, Times, Divide, Remainder, BitAnd, BitOr, BitXor, Max, Min}
use Rattle.ca_tree.specs.declared.tree.UnaryOp.{UnaryOp}
use Rattle.ca_tree.specs.declared.tree.UnaryOp.TheVariants as sign
use Rattle.ca_program.specs.declared.program.FieldId.{FieldId}
use Rattle.ca_program.specs.declared.program.LoopId.{LoopId}
use Rattle.ca_program.specs.Plain.{PlainProgram, Expression, Expressions, number, truth, null, this, local, own, own_item, read, read_item, value_call, unary, binary, no_expressions, expression_and, Statement, Statements, block, put_local, put_field, put_item, new_local, new_field, new_item, invoke, if_else, while_loop, for_loop, return_value, print_value, no_statements, statement_and}
use Rattle.ca_folds.specs.declared.operator.FoldOp.{FoldOp}
use Rattle.ca_folds.specs.declared.operator.FoldOp.TheVariants as fold_op
use Rattle.ca_sweep.specs.Sweeps.{PlainSweep, Known}
use Rattle.ca_sweep.specs.Found.{sweep_at}
use Rattle.ca_sweep.specs.Means.{all_but}
use Rattle.ca_sweep.proofs.Sums.{Summed, sum_summed}
use Rattle.ca_sweep.proofs.Finding.{forms_are_sweeps}
use Rattle.ca_norm.specs.Terms.{PlainTerm, neg, not, and, same, divide, remainder, add_at, select, put, mul, fold}
use Rattle.ca_symbolic.specs.States.{State, PlainDemand, demand, not_null, in_range, calls, invokes, sweeps, term_at}
use Rattle.ca_symbolic.specs.Execution.{term_of, signed_term, operation, divisor, divided, put_term, is_item, put_right, array_term, addend_term, sweep_term, after}
use Rattle.ca_symbolic.specs.Demands.{right_guard, then_guard, else_guard, terms_in, demands_in, demands_in_all, loop_parts, demanded_loop, demanded, demanded_all}
use Rattle.ca_symbolic.specs.Made.{new_guard, guards_in, guards_in_all, joined_terms, steps_of_loop, steps_made, steps_made_all, made_by}
use Rattle.ca_shared_terms.specs.Heavy.{is_heavy}
use Rattle.ca_symbolic.specs.clauses.Refusals.{refused_guard, refused, refused_all, refused_item, with_put, refused_fold, refused_value, put_sum, refused_sum, refused_right, refused_array, refused_addend, refused_sweep, refused_loop, refused_by, refused_by_all}
use Rattle.ca_symbolic.proofs.Ors.{v, none, either, same_ors, absorbed}
use Rattle.ca_symbolic.proofs.Sweeping.{no_demands, no_guards, addend_heavy}
use Rattle.ca_shared_terms.proofs.Heavier.{neg_heavier, not_heavier, add_left, add_right, sub_left, sub_right, mul_left, mul_right, and_left, and_right, or_left, or_right, less_left, less_right, less_equal_left, less_equal_right, same_heavier_left, same_heavier_right, fold_left, fold_right, divide_left, remainder_left, put_item_heavier, add_at_heavier, sweep_heavier}

-- one of the terms is too heavy, one of the parts of the demands
abbrev H : List PlainTerm → Bool
H ts = list_any is_heavy ts

abbrev P : List PlainDemand → Bool
P ds = list_any is_heavy (flat_map (λ d. d.parts) ds)

both : (ts us : List PlainTerm) → H (ts ++ us) ≡ (H ts || H us)
both ts us = list_any-append is_heavy ts us

both_parts : (ds es : List PlainDemand) → P (ds ++ es) ≡ (P ds || P es)
both_parts ds es = ap H (flat_map-append (λ (d : PlainDemand). d.parts) ds es) ∙ both (flat_map (λ d. d.parts) ds) (flat_map (λ d. d.parts) es)

-- What an operator's term holds

signed_in : (op : UnaryOp) (a : PlainTerm) → is_heavy a ≡ true → is_heavy (signed_term op a) ≡ true
signed_in sign.Minus a = neg_heavier a
signed_in sign.Not a = not_heavier a

left_in : (op : BinaryOp) (a b : PlainTerm) (n : Option ℤ) → is_heavy a ≡ true → is_heavy (operation op a b n) ≡ true
left_in Or a b n = or_left a b
left_in And a b n = and_left a b
left_in Equal a b n = same_heavier_left a b
left_in NotEqual a b n = λ h. not_heavier (same a b) (same_heavier_left a b h)
left_in Less a b n = less_left a b
left_in Greater a b n = less_right b a
left_in LessEqual a b n = less_equal_left a b
left_in GreaterEqual a b n = less_equal_right b a
left_in Plus a b n = add_left a b
left_in Minus a b n = sub_left a b
left_in Times a b n = mul_left a b
left_in Divide a b (Some n) = divide_left a n
left_in Divide a b None = add_left a b
left_in Remainder a b (Some n) = remainder_left a n
left_in Remainder a b None = add_left a b
left_in BitAnd a b n = fold_left fold_op.BitAnd a b
left_in BitOr a b n = fold_left fold_op.BitOr a b
left_in BitXor a b n = fold_left fold_op.BitXor a b
left_in Max a b n = fold_left fold_op.Max a b
left_in Min a b n = fold_left fold_op.Min a b

-- a literal is not heavy, and any other right side stands in the term
divided_right : (by : PlainTerm → ℤ → PlainTerm) (p : PlainProgram) (s : State) (a : PlainTerm) (b : Expression) → is_heavy (term_of p s b) ≡ true →
    is_heavy (divided by a (term_of p s b) (divisor b)) ≡ true
divided_right by p s a (number n) h = absurd cc
divided_right by p s a (unary sign.Minus (number n)) h = absurd cc
divided_right by p s a b h = add_right a (term_of p s b) h

right_in : (p : PlainProgram) (s : State) (op : BinaryOp) (a : PlainTerm) (b : Expression) → is_heavy (term_of p s b) ≡ true → is_heavy (operation op a (term_of p s b) (divisor b)) ≡ true
right_in p s Or a b = or_right a (term_of p s b)
right_in p s And a b = and_right a (term_of p s b)
right_in p s Equal a b = same_heavier_right a (term_of p s b)
right_in p s NotEqual a b = λ h. not_heavier (same a (term_of p s b)) (same_heavier_right a (term_of p s b) h)
right_in p s Less a b = less_right a (term_of p s b)
right_in p s Greater a b = less_left (term_of p s b) a
right_in p s LessEqual a b = less_equal_right a (term_of p s b)
right_in p s GreaterEqual a b = less_equal_left (term_of p s b) a
right_in p s Plus a b = add_right a (term_of p s b)
right_in p s Minus a b = sub_right a (term_of p s b)
right_in p s Times a b = mul_right a (term_of p s b)
right_in p s Divide a b = divided_right divide p s a b
right_in p s Remainder a b = divided_right remainder p s a b
right_in p s BitAnd a b = fold_right fold_op.BitAnd a (term_of p s b)
right_in p s BitOr a b = fold_right fold_op.BitOr a (term_of p s b)
right_in p s BitXor a b = fold_right fold_op.BitXor a (term_of p s b)
right_in p s Max a b = fold_right fold_op.Max a (term_of p s b)
right_in p s Min a b = fold_right fold_op.Min a (term_of p s b)

put_in : (op : AssignOp) (old t : PlainTerm) → is_heavy t ≡ true → is_heavy (put_term op old t) ≡ true
put_in assign.Put old t = λ h. h
put_in assign.Add old t = add_right old t
put_in assign.Sub old t = sub_right old t
put_in assign.Mul old t = mul_right old t
put_in assign.BitAnd old t = fold_right fold_op.BitAnd old t
put_in assign.BitOr old t = fold_right fold_op.BitOr old t
put_in assign.BitXor old t = fold_right fold_op.BitXor old t

guard_is : (op : BinaryOp) (g t : PlainTerm) → refused_guard op g t ≡ H (new_guard op g t)
guard_is And g t = same_ors (is_heavy (and g t) ∷ []) (v 0) (either (v 0) none) refl refl
guard_is Or g t =
    let n = is_heavy (not t) in
    let w = is_heavy (and g (not t)) in
    sym (absorbed n w (and_right g (not t))) ∙ same_ors (w ∷ []) (v 0) (either (v 0) none) refl refl
guard_is op g t = refl

-- In an expression

-- the demands of a call: those of the receiver and of the arguments, the null check and the call
call_parts : (p : PlainProgram) (s : State) (g : PlainTerm) (e : Expression) (es : Expressions) (d : PlainDemand) → d.parts ≡ term_of p s e ∷ terms_in p s es →
    P (demands_in p s g e ++ (demands_in_all p s g es ++ (demand g not_null (term_of p s e ∷ []) ∷ d ∷ []))) ≡
    (P (demands_in p s g e) || (P (demands_in_all p s g es) || (is_heavy (term_of p s e) || (is_heavy (term_of p s e) || (H (terms_in p s es) || false)))))
call_parts p s g e es d is =
    let D = P (demands_in p s g e) in
    let E = P (demands_in_all p s g es) in
    let t = is_heavy (term_of p s e) in
    let last : List PlainDemand = demand g not_null (term_of p s e ∷ []) ∷ d ∷ [] in
    both_parts (demands_in p s g e) (demands_in_all p s g es ++ last)
    ∙ (ap (λ x. D || x) (both_parts (demands_in_all p s g es) last)
    ∙ (ap (λ (ts : List PlainTerm). D || (E || (t || H (ts ++ [])))) is
    ∙ ap (λ x. D || (E || (t || (t || x)))) (both (terms_in p s es) [])))

mutual
  pub refused_is : (p : PlainProgram) (s : State) (g : PlainTerm) (e : Expression) → refused p s g e ≡ ((H (guards_in p s g e) || P (demands_in p s g e)) || is_heavy (term_of p s e))
  refused_is p s g (number n) = refl
  refused_is p s g (truth b) = refl
  refused_is p s g null = refl
  refused_is p s g this = refl
  refused_is p s g (local l) = refl
  refused_is p s g (own f) = refl
  refused_is p s g (own_item f i) =
      let G = H (guards_in p s g i) in
      let D = P (demands_in p s g i) in
      let t = is_heavy (term_of p s i) in
      let w = is_heavy (term_of p s (own_item f i)) in
      ap (λ x. x || w) (refused_is p s g i)
      ∙ (same_ors (G ∷ D ∷ t ∷ w ∷ []) (either (either (either (v 0) (v 1)) (v 2)) (v 3)) (either (either (v 0) (either (v 1) (either (v 2) none))) (v 3)) refl refl
      ∙ ap (λ x. (G || x) || w) (sym (both_parts (demands_in p s g i) (demand g (in_range f) (term_of p s i ∷ []) ∷ []))))
  refused_is p s g (read e f) =
      let G = H (guards_in p s g e) in
      let D = P (demands_in p s g e) in
      let t = is_heavy (term_of p s e) in
      let w = is_heavy (term_of p s (read e f)) in
      ap (λ x. x || w) (refused_is p s g e)
      ∙ (same_ors (G ∷ D ∷ t ∷ w ∷ []) (either (either (either (v 0) (v 1)) (v 2)) (v 3)) (either (either (v 0) (either (v 1) (either (v 2) none))) (v 3)) refl refl
      ∙ ap (λ x. (G || x) || w) (sym (both_parts (demands_in p s g e) (demand g not_null (term_of p s e ∷ []) ∷ []))))
  refused_is p s g (read_item e f i) =
      let G = H (guards_in p s g e) in
      let D = P (demands_in p s g e) in
      let t = is_heavy (term_of p s e) in
      let K = H (guards_in p s g i) in
      let E = P (demands_in p s g i) in
      let u = is_heavy (term_of p s i) in
      let w = is_heavy (term_of p s (read_item e f i)) in
      let last : List PlainDemand = demand g (in_range f) (term_of p s i ∷ []) ∷ [] in
      let parts : P (demands_in p s g (read_item e f i)) ≡ (D || (t || (E || (u || false)))) =
      both_parts (demands_in p s g e) (demand g not_null (term_of p s e ∷ []) ∷ (demands_in p s g i ++ last)) ∙ ap (λ x. D || (t || x)) (both_parts (demands_in p s g i) last) in
      ap₂ (λ x y. x || (y || w)) (refused_is p s g e) (refused_is p s g i)
      ∙ (same_ors (G ∷ D ∷ t ∷ K ∷ E ∷ u ∷ w ∷ [])
      (either (either (either (v 0) (v 1)) (v 2)) (either (either (either (v 3) (v 4)) (v 5)) (v 6)))
      (either (either (either (v 0) (v 3)) (either (v 1) (either (v 2) (either (v 4) (either (v 5) none))))) (v 6)) refl refl
      ∙ ap₂ (λ x y. (x || y) || w) (sym (both (guards_in p s g e) (guards_in p s g i))) (sym parts))
  refused_is p s g (value_call e m arguments) =
      let G = H (guards_in p s g e) in
      let D = P (demands_in p s g e) in
      let t = is_heavy (term_of p s e) in
      let K = H (guards_in_all p s g arguments) in
      let E = P (demands_in_all p s g arguments) in
      let u = H (terms_in p s arguments) in
      let w = is_heavy (term_of p s (value_call e m arguments)) in
      ap₂ (λ x y. x || (y || w)) (refused_is p s g e) (refused_all_is p s g arguments)
      ∙ (same_ors (G ∷ D ∷ t ∷ K ∷ E ∷ u ∷ w ∷ [])
      (either (either (either (v 0) (v 1)) (v 2)) (either (either (either (v 3) (v 4)) (v 5)) (v 6)))
      (either (either (either (v 0) (v 3)) (either (v 1) (either (v 4) (either (v 2) (either (v 2) (either (v 5) none)))))) (v 6)) refl refl
      ∙ ap₂ (λ x y. (x || y) || w) (sym (both (guards_in p s g e) (guards_in_all p s g arguments)))
      (sym (call_parts p s g e arguments (demand g (calls m) (term_of p s e ∷ terms_in p s arguments)) refl)))
  refused_is p s g (unary op e) =
      let G = H (guards_in p s g e) in
      let D = P (demands_in p s g e) in
      let t = is_heavy (term_of p s e) in
      let w = is_heavy (signed_term op (term_of p s e)) in
      ap (λ x. x || w) (refused_is p s g e)
      ∙ (same_ors (G ∷ D ∷ t ∷ w ∷ []) (either (either (either (v 0) (v 1)) (v 2)) (v 3)) (either (either (v 0) (v 1)) (either (v 2) (v 3))) refl refl
      ∙ ap (λ x. (G || D) || x) (sym (absorbed t w (signed_in op (term_of p s e)))))
  refused_is p s g (binary op a b) =
      let ga : PlainTerm = right_guard op g (term_of p s a) in
      let G = H (guards_in p s g a) in
      let D = P (demands_in p s g a) in
      let t = is_heavy (term_of p s a) in
      let N = H (new_guard op g (term_of p s a)) in
      let K = H (guards_in p s ga b) in
      let E = P (demands_in p s ga b) in
      let u = is_heavy (term_of p s b) in
      let w = is_heavy (operation op (term_of p s a) (term_of p s b) (divisor b)) in
      let whole : w ≡ (t || (u || w)) =
      absorbed t w (left_in op (term_of p s a) (term_of p s b) (divisor b)) ∙ ap (λ x. t || x) (absorbed u w (right_in p s op (term_of p s a) b)) in
      let guards : H (guards_in p s g (binary op a b)) ≡ (G || (N || K)) =
      both (guards_in p s g a) (new_guard op g (term_of p s a) ++ guards_in p s ga b) ∙ ap (λ x. G || x) (both (new_guard op g (term_of p s a)) (guards_in p s ga b)) in
      ap₂ (λ x y. x || (refused_guard op g (term_of p s a) || (y || w))) (refused_is p s g a) (refused_is p s ga b)
      ∙ (ap (λ x. ((G || D) || t) || (x || (((K || E) || u) || w))) (guard_is op g (term_of p s a))
      ∙ (same_ors (G ∷ D ∷ t ∷ N ∷ K ∷ E ∷ u ∷ w ∷ [])
      (either (either (either (v 0) (v 1)) (v 2)) (either (v 3) (either (either (either (v 4) (v 5)) (v 6)) (v 7))))
      (either (either (either (v 0) (either (v 3) (v 4))) (either (v 1) (v 5))) (either (v 2) (either (v 6) (v 7)))) refl refl
      ∙ (ap₂ (λ x y. (x || y) || (t || (u || w))) (sym guards) (sym (both_parts (demands_in p s g a) (demands_in p s ga b)))
      ∙ ap (λ x. (H (guards_in p s g (binary op a b)) || P (demands_in p s g (binary op a b))) || x) (sym whole))))

  refused_all_is : (p : PlainProgram) (s : State) (g : PlainTerm) (es : Expressions) → refused_all p s g es ≡ ((H (guards_in_all p s g es) || P (demands_in_all p s g es)) || H (terms_in p s es))
  refused_all_is p s g no_expressions = refl
  refused_all_is p s g (expression_and e es) =
      let G = H (guards_in p s g e) in
      let D = P (demands_in p s g e) in
      let t = is_heavy (term_of p s e) in
      let K = H (guards_in_all p s g es) in
      let E = P (demands_in_all p s g es) in
      let u = H (terms_in p s es) in
      ap₂ (λ x y. x || y) (refused_is p s g e) (refused_all_is p s g es)
      ∙ (same_ors (G ∷ D ∷ t ∷ K ∷ E ∷ u ∷ [])
      (either (either (either (v 0) (v 1)) (v 2)) (either (either (v 3) (v 4)) (v 5)))
      (either (either (either (v 0) (v 3)) (either (v 1) (v 4))) (either (v 2) (v 5))) refl refl
      ∙ ap₂ (λ x y. (x || y) || (t || u)) (sym (both (guards_in p s g e) (guards_in_all p s g es))) (sym (both_parts (demands_in p s g e) (demands_in_all p s g es))))

-- At a put to an item

module _ (p : PlainProgram) (s : State) (g : PlainTerm) (f : FieldId) where
  abbrev A : PlainTerm
  A = term_at s.fields f.field

  item_is : (i a : Expression) → is_item f i a ≡ true → refused_item p s g a ≡ (H (guards_in p s g a) || P (demands_in p s g a))
  item_is i (own_item h j) e =
      let G = H (guards_in p s g j) in
      let D = P (demands_in p s g j) in
      let t = is_heavy (term_of p s j) in
      refused_is p s g j
      ∙ (same_ors (G ∷ D ∷ t ∷ []) (either (either (v 0) (v 1)) (v 2)) (either (v 0) (either (v 1) (either (v 2) none))) refl refl
      ∙ ap (λ x. G || x) (sym (both_parts (demands_in p s g j) (demand g (in_range h) (term_of p s j ∷ []) ∷ []))))
  item_is i a e = absurd cc

  -- a term that the right side is in, and which is told to be w
  ends : (e : Expression) (w : Bool) → (is_heavy (term_of p s e) ≡ true → w ≡ true) → (refused p s g e || w) ≡ ((H (guards_in p s g e) || P (demands_in p s g e)) || w)
  ends e w more =
      let G = H (guards_in p s g e) in
      let D = P (demands_in p s g e) in
      let t = is_heavy (term_of p s e) in
      ap (λ x. x || w) (refused_is p s g e)
      ∙ (same_ors (G ∷ D ∷ t ∷ w ∷ []) (either (either (either (v 0) (v 1)) (v 2)) (v 3)) (either (either (v 0) (v 1)) (either (v 2) (v 3))) refl refl
      ∙ ap (λ x. (G || D) || x) (sym (absorbed t w more)))

  -- the put of an expression is refused for what it makes, or for what stands in the array
  abbrev ValueIs : AssignOp → PlainTerm → Expression → Type 0
  ValueIs op t e = refused_value p s g f op t e ≡ ((H (guards_in p s g e) || P (demands_in p s g e)) || is_heavy (with_put op A t (term_of p s e)))

  fold_is : (o : FoldOp) (t : PlainTerm) (e : Expression) →
      (refused p s g e || refused_fold o A t (term_of p s e)) ≡ ((H (guards_in p s g e) || P (demands_in p s g e)) || is_heavy (put A t (fold o (select A t) (term_of p s e))))
  fold_is o t e =
      let item : PlainTerm = select A t in
      let r = refused p s g e in
      let i = is_heavy item in
      let m = is_heavy (fold o item (term_of p s e)) in
      let w = is_heavy (put A t (fold o item (term_of p s e))) in
      let up : m ≡ true → w ≡ true = put_item_heavier A t (fold o item (term_of p s e)) in
      ap (λ x. r || (i || x)) (sym (absorbed m w up))
      ∙ (ap (λ x. r || x) (sym (absorbed i w (λ h. up (fold_left o item (term_of p s e) h))))
      ∙ ends e w (λ h. up (fold_right o item (term_of p s e) h)))

  value_is : (op : AssignOp) (t : PlainTerm) (e : Expression) → ValueIs op t e
  value_is assign.Put t e = ends e (is_heavy (put A t (term_of p s e))) (put_item_heavier A t (term_of p s e))
  value_is assign.Add t e = ends e (is_heavy (add_at A t (term_of p s e))) (add_at_heavier A t (term_of p s e))
  value_is assign.Sub t e =
      let n = is_heavy (neg (term_of p s e)) in
      let w = is_heavy (add_at A t (neg (term_of p s e))) in
      ap (λ x. refused p s g e || x) (sym (absorbed n w (add_at_heavier A t (neg (term_of p s e)))))
      ∙ ends e w (λ h. add_at_heavier A t (neg (term_of p s e)) (neg_heavier (term_of p s e) h))
  value_is assign.Mul t e =
      let item : PlainTerm = select A t in
      let r = refused p s g e in
      let i = is_heavy item in
      let m = is_heavy (mul item (term_of p s e)) in
      let w = is_heavy (put A t (mul item (term_of p s e))) in
      let up : m ≡ true → w ≡ true = put_item_heavier A t (mul item (term_of p s e)) in
      ap (λ x. r || (i || x)) (sym (absorbed m w up))
      ∙ (ap (λ x. r || x) (sym (absorbed i w (λ h. up (mul_left item (term_of p s e) h))))
      ∙ ends e w (λ h. up (mul_right item (term_of p s e) h)))
  value_is assign.BitAnd t e = fold_is fold_op.BitAnd t e
  value_is assign.BitOr t e = fold_is fold_op.BitOr t e
  value_is assign.BitXor t e = fold_is fold_op.BitXor t e

  -- the two sides of an operator that makes no condition
  sides : (op : BinaryOp) (a b : Expression) → new_guard op g (term_of p s a) ≡ [] → right_guard op g (term_of p s a) ≡ g →
      ((H (guards_in p s g a) || P (demands_in p s g a)) || (H (guards_in p s g b) || P (demands_in p s g b))) ≡ (H (guards_in p s g (binary op a b)) || P (demands_in p s g (binary op a b)))
  sides op a b none_new same_guard =
      let G = H (guards_in p s g a) in
      let D = P (demands_in p s g a) in
      let K = H (guards_in p s g b) in
      let E = P (demands_in p s g b) in
      same_ors (G ∷ D ∷ K ∷ E ∷ []) (either (either (v 0) (v 1)) (either (v 2) (v 3))) (either (either (v 0) (v 2)) (either (v 1) (v 3))) refl refl
      ∙ (ap₂ (λ x y. x || y) (sym (both (guards_in p s g a) (guards_in p s g b))) (sym (both_parts (demands_in p s g a) (demands_in p s g b)))
      ∙ ap₂ (λ (ns : List PlainTerm) (k : PlainTerm). H (guards_in p s g a ++ (ns ++ guards_in p s k b)) || P (demands_in p s g a ++ demands_in p s k b)) (sym none_new) (sym same_guard))

  sum_is : (op : AssignOp) (o : BinaryOp) (i a b : Expression) → new_guard o g (term_of p s a) ≡ [] → right_guard o g (term_of p s a) ≡ g →
      refused_sum p s g f i op (term_of p s i) a b (binary o a b) ≡
      ((H (guards_in p s g (binary o a b)) || P (demands_in p s g (binary o a b))) || is_heavy (put_sum p s f i op (term_of p s i) a b (binary o a b)))
  sum_is op o i a b none_new same_guard = at (is_item f i a) refl
    where
      at : (x : Bool) → is_item f i a ≡ x →
          (if x then refused_item p s g a || refused_value p s g f op (term_of p s i) b else refused_value p s g f assign.Put (term_of p s i) (binary o a b)) ≡
          ((H (guards_in p s g (binary o a b)) || P (demands_in p s g (binary o a b))) ||
          is_heavy (if x then with_put op A (term_of p s i) (term_of p s b) else put A (term_of p s i) (term_of p s (binary o a b))))
      at true is =
          let w = is_heavy (with_put op A (term_of p s i) (term_of p s b)) in
          ap₂ (λ x y. x || y) (item_is i a is) (value_is op (term_of p s i) b)
          ∙ (same_ors ((H (guards_in p s g a) || P (demands_in p s g a)) ∷ (H (guards_in p s g b) || P (demands_in p s g b)) ∷ w ∷ []) (either (v 0) (either (v 1) (v 2))) (either (either (v 0) (v 1)) (v 2)) refl refl
          ∙ ap (λ x. x || w) (sides o a b none_new same_guard))
      at false is = value_is assign.Put (term_of p s i) (binary o a b)

  right_is : (i e : Expression) → refused_right p s g f i e ≡ ((H (guards_in p s g e) || P (demands_in p s g e)) || is_heavy (put_right p s f i e))
  right_is i (binary Plus a b) = sum_is assign.Add Plus i a b refl refl
  right_is i (binary Minus a b) = sum_is assign.Sub Minus i a b refl refl
  right_is i e = value_is assign.Put (term_of p s i) e

  array_is : (i : Expression) (op : AssignOp) (e : Expression) → refused_array p s g f i op e ≡ ((H (guards_in p s g e) || P (demands_in p s g e)) || is_heavy (array_term p s f i op e))
  array_is i assign.Put e = right_is i e
  array_is i assign.Add e = value_is assign.Add (term_of p s i) e
  array_is i assign.Sub e = value_is assign.Sub (term_of p s i) e
  array_is i assign.Mul e = value_is assign.Mul (term_of p s i) e
  array_is i assign.BitAnd e = value_is assign.BitAnd (term_of p s i) e
  array_is i assign.BitOr e = value_is assign.BitOr (term_of p s i) e
  array_is i assign.BitXor e = value_is assign.BitXor (term_of p s i) e

-- In a statement

put_ends : (p : PlainProgram) (s : State) (g : PlainTerm) (e : Expression) (u : PlainTerm) → (is_heavy (term_of p s e) ≡ true → is_heavy u ≡ true) →
    (refused p s g e || is_heavy u) ≡ (H (guards_in p s g e ++ u ∷ []) || P (demands_in p s g e))
put_ends p s g e u more =
    let G = H (guards_in p s g e) in
    let D = P (demands_in p s g e) in
    let t = is_heavy (term_of p s e) in
    let w = is_heavy u in
    ap (λ x. x || w) (refused_is p s g e)
    ∙ (same_ors (G ∷ D ∷ t ∷ w ∷ []) (either (either (either (v 0) (v 1)) (v 2)) (v 3)) (either (either (v 0) (either (either (v 2) (v 3)) none)) (v 1)) refl refl
    ∙ (ap (λ x. (G || (x || false)) || D) (sym (absorbed t w more))
    ∙ ap (λ x. x || D) (sym (both (guards_in p s g e) (u ∷ [])))))

-- a sum is refused for its own term alone
sum_is_refused : (k : Known) (p : PlainProgram) (s : State) (g : PlainTerm) (e : Expression) → Summed k e → refused p s g e ≡ is_heavy (term_of p s e)
sum_is_refused k p s g e sum = refused_is p s g e ∙ ap₂ (λ (ts : List PlainTerm) (ds : List PlainDemand). (H ts || P ds) || is_heavy (term_of p s e)) (no_guards k p s g e sum) (no_demands k p s g e sum)

-- a sweep is refused for a bound, or for the array behind it, in which what it adds stands
sweep_is : (k : Known) (p : PlainProgram) (s : State) (g : PlainTerm) (w : PlainSweep) → Summed k w.from → Summed k w.to → Summed k w.addend →
    refused_sweep p s g w ≡ (H (sweep_term p s w ∷ []) || P (demand g (sweeps w.field) (term_of p s w.from ∷ term_of p s w.to ∷ []) ∷ []))
sweep_is k p s g w from to addend =
    let a : PlainTerm = term_of p s w.addend in
    let f = is_heavy (term_of p s w.from) in
    let t = is_heavy (term_of p s w.to) in
    let x = is_heavy a || (w.minus && is_heavy (neg a)) in
    let all = is_heavy (sweep_term p s w) in
    let up : x ≡ true → all ≡ true =
    λ h. sweep_heavier (term_at s.fields w.field.field) (term_of p s w.from) (term_of p s w.to) (addend_term w.minus a) (addend_heavy w.minus a h) in
    ap₂ (λ y z. y || (z || (refused_addend p s g w.minus w.addend || all))) (sum_is_refused k p s g w.from from) (sum_is_refused k p s g w.to to)
    ∙ (ap (λ y. f || (t || ((y || (w.minus && is_heavy (neg a))) || all))) (sum_is_refused k p s g w.addend addend)
    ∙ (ap (λ y. f || (t || y)) (sym (absorbed x all up))
    ∙ same_ors (f ∷ t ∷ all ∷ []) (either (v 0) (either (v 1) (v 2))) (either (either (v 2) none) (either (v 0) (either (v 1) none))) refl refl))

loop_is : (p : PlainProgram) (s : State) (g : PlainTerm) (site : LoopId) (x : Statement) (o : Option PlainSweep) → sweep_at x ≡ o → refused_loop p s g x o ≡ (H (steps_of_loop p s o) || P (demanded_loop p s g site x o))
loop_is p s g site x None e =
    let ts : List PlainTerm = loop_parts s x in
    same_ors (H ts ∷ []) (v 0) (either none (either (v 0) none)) refl refl ∙ sym (both ts [])
loop_is p s g site x (Some w) e =
    let sums = (forms_are_sweeps x w e).1 in
    let k : Known = all_but w.counter.0 in
    sweep_is k p s g w (sum_summed k w.from sums.0) (sum_summed k w.to sums.1) (sum_summed k w.addend sums.2)

mutual
  pub refused_by_is : (p : PlainProgram) (s : State) (g : PlainTerm) (x : Statement) → refused_by p s g x ≡ (H (steps_made p s g x) || P (demanded p s g x))
  refused_by_is p s g (block line ss) = refused_by_all_is p s g ss
  refused_by_is p s g (put_local line l op e) = put_ends p s g e (put_term op (term_at s.locals l.0) (term_of p s e)) (put_in op (term_at s.locals l.0) (term_of p s e))
  refused_by_is p s g (put_field line f op e) = put_ends p s g e (put_term op (term_at s.fields f.field) (term_of p s e)) (put_in op (term_at s.fields f.field) (term_of p s e))
  refused_by_is p s g (put_item line f i op e) =
      let G = H (guards_in p s g i) in
      let D = P (demands_in p s g i) in
      let t = is_heavy (term_of p s i) in
      let K = H (guards_in p s g e) in
      let E = P (demands_in p s g e) in
      let w = is_heavy (array_term p s f i op e) in
      let steps : H (guards_in p s g i ++ (guards_in p s g e ++ array_term p s f i op e ∷ [])) ≡ (G || (K || (w || false))) =
      both (guards_in p s g i) (guards_in p s g e ++ array_term p s f i op e ∷ []) ∙ ap (λ x. G || x) (both (guards_in p s g e) (array_term p s f i op e ∷ [])) in
      ap₂ (λ x y. x || y) (refused_is p s g i) (array_is p s g f i op e)
      ∙ (same_ors (G ∷ D ∷ t ∷ K ∷ E ∷ w ∷ [])
      (either (either (either (v 0) (v 1)) (v 2)) (either (either (v 3) (v 4)) (v 5)))
      (either (either (v 0) (either (v 3) (either (v 5) none))) (either (v 1) (either (v 2) (v 4)))) refl refl
      ∙ ap₂ (λ x y. x || y) (sym steps) (sym (both_parts (demands_in p s g i) (demand g (in_range f) (term_of p s i ∷ []) ∷ demands_in p s g e))))
  refused_by_is p s g (invoke line e op arguments) =
      let G = H (guards_in p s g e) in
      let D = P (demands_in p s g e) in
      let t = is_heavy (term_of p s e) in
      let K = H (guards_in_all p s g arguments) in
      let E = P (demands_in_all p s g arguments) in
      let u = H (terms_in p s arguments) in
      ap₂ (λ x y. x || y) (refused_is p s g e) (refused_all_is p s g arguments)
      ∙ (same_ors (G ∷ D ∷ t ∷ K ∷ E ∷ u ∷ [])
      (either (either (either (v 0) (v 1)) (v 2)) (either (either (v 3) (v 4)) (v 5)))
      (either (either (v 0) (v 3)) (either (v 1) (either (v 4) (either (v 2) (either (v 2) (either (v 5) none)))))) refl refl
      ∙ ap₂ (λ x y. x || y) (sym (both (guards_in p s g e) (guards_in_all p s g arguments)))
      (sym (call_parts p s g e arguments (demand g (invokes op) (term_of p s e ∷ terms_in p s arguments)) refl)))
  refused_by_is p s g (if_else line c a b) =
      let t : PlainTerm = term_of p s c in
      let ga : PlainTerm = then_guard g t in
      let gb : PlainTerm = else_guard g t in
      let J : List PlainTerm = joined_terms a b (after p s (if_else line c a b)) in
      let G = H (guards_in p s g c) in
      let D = P (demands_in p s g c) in
      let w = is_heavy t in
      let x1 = is_heavy ga in
      let sa = H (steps_made p s ga a) in
      let da = P (demanded p s ga a) in
      let n = is_heavy (not t) in
      let x2 = is_heavy gb in
      let sb = H (steps_made p s gb b) in
      let db = P (demanded p s gb b) in
      let j = H J in
      let steps : H (steps_made p s g (if_else line c a b)) ≡ (G || (x1 || (sa || (x2 || (sb || j))))) =
      both (guards_in p s g c) (ga ∷ (steps_made p s ga a ++ (gb ∷ (steps_made p s gb b ++ J))))
      ∙ (ap (λ x. G || (x1 || x)) (both (steps_made p s ga a) (gb ∷ (steps_made p s gb b ++ J)))
      ∙ ap (λ x. G || (x1 || (sa || (x2 || x)))) (both (steps_made p s gb b) J)) in
      let parts : P (demanded p s g (if_else line c a b)) ≡ (D || (da || db)) =
      both_parts (demands_in p s g c) (demanded p s ga a ++ demanded p s gb b) ∙ ap (λ x. D || x) (both_parts (demanded p s ga a) (demanded p s gb b)) in
      ap (λ x. x || (x1 || (refused_by p s ga a || (n || (x2 || (refused_by p s gb b || j)))))) (refused_is p s g c)
      ∙ (ap₂ (λ x y. ((G || D) || w) || (x1 || (x || (n || (x2 || (y || j)))))) (refused_by_is p s ga a) (refused_by_is p s gb b)
      ∙ (same_ors (G ∷ D ∷ w ∷ x1 ∷ sa ∷ da ∷ n ∷ x2 ∷ sb ∷ db ∷ j ∷ [])
      (either (either (either (v 0) (v 1)) (v 2)) (either (v 3) (either (either (v 4) (v 5)) (either (v 6) (either (v 7) (either (either (v 8) (v 9)) (v 10)))))))
      (either (either (v 0) (either (either (v 2) (v 3)) (either (v 4) (either (either (v 6) (v 7)) (either (v 8) (v 10)))))) (either (v 1) (either (v 5) (v 9)))) refl refl
      ∙ (ap₂ (λ x y. (G || (x || (sa || (y || (sb || j))))) || (D || (da || db))) (sym (absorbed w x1 (and_right g t))) (sym (absorbed n x2 (and_right g (not t))))
      ∙ ap₂ (λ x y. x || y) (sym steps) (sym parts))))
  refused_by_is p s g (for_loop line site part first c next b) = loop_is p s g site (for_loop line site part first c next b) (sweep_at (for_loop line site part first c next b)) refl
  refused_by_is p s g (while_loop line c b) = refl
  refused_by_is p s g (new_local line l c) = refl
  refused_by_is p s g (new_field line f c) = refl
  refused_by_is p s g (new_item line f i c) = refl
  refused_by_is p s g (return_value line e) = refl
  refused_by_is p s g (print_value line e) = refl

  pub refused_by_all_is : (p : PlainProgram) (s : State) (g : PlainTerm) (xs : Statements) → refused_by_all p s g xs ≡ (H (steps_made_all p s g xs) || P (demanded_all p s g xs))
  refused_by_all_is p s g no_statements = refl
  refused_by_all_is p s g (statement_and x xs) =
      let S = H (steps_made p s g x) in
      let D = P (demanded p s g x) in
      let T = H (steps_made_all p (after p s x) g xs) in
      let E = P (demanded_all p (after p s x) g xs) in
      ap₂ (λ y z. y || z) (refused_by_is p s g x) (refused_by_all_is p (after p s x) g xs)
      ∙ (same_ors (S ∷ D ∷ T ∷ E ∷ []) (either (either (v 0) (v 1)) (either (v 2) (v 3))) (either (either (v 0) (v 2)) (either (v 1) (v 3))) refl refl
      ∙ ap₂ (λ y z. y || z) (sym (both (steps_made p s g x) (steps_made_all p (after p s x) g xs))) (sym (both_parts (demanded p s g x) (demanded_all p (after p s x) g xs))))

-- a body is refused exactly where a term that is made on the way is too heavy
pub refused_exactly : (p : PlainProgram) (s : State) (g : PlainTerm) (xs : Statements) → refused_by_all p s g xs ≡ H (made_by p s g xs)
refused_exactly p s g xs = refused_by_all_is p s g xs ∙ sym (both (steps_made_all p s g xs) (flat_map (λ d. d.parts) (demanded_all p s g xs)))
