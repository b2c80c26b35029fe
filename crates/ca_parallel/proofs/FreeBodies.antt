-- The body of a free operation is separable as if a call had come before it.
use Rattle.std.proofs.Common.{List, [], ◌∷◌, ◌++◌, Bool, true, false, ◌⊎◌, inl, inr}
use Rattle.std.specs.Prelude.{Contains, ◌||◌, flat_map}
use Rattle.std.proofs.lemmas.List.Elements.{Contains-push, Contains-append_left, Contains-append_right, Contains-append_cases}
use Rattle.ca_lists.proofs.Members.{flat_left, flat_right}
use Rattle.ca_program.specs.declared.program.FieldId.{FieldId}
use Rattle.ca_program.specs.declared.program.OpId.{OpId}
use Rattle.ca_program.specs.Plain.{PlainProgram, Expression, Expressions, number, truth, null, this, local, own, own_item, read, read_item, value_call, unary, binary, no_expressions, expression_and, Statement, Statements, block, put_local, put_field, put_item, new_local, new_field, new_item, invoke, if_else, while_loop, for_loop, return_value, print_value, no_statements, statement_and}
use Rattle.ca_parallel.specs.Bodies.{fields_in, fields_in_all, listed, expressions_of, expressions_of_all, targets_of, targets_of_all, reads_of_body}
use Rattle.ca_parallel.specs.Extents.{operation_body}
use Rattle.ca_parallel.specs.Separable.{IsClean, AreClean, holds_call, IsSeparated, AreSeparated, Separable}
use Rattle.ca_parallel.specs.Free.{IsFree}

module _ (p : PlainProgram) (written : List FieldId) where
  -- none of these fields is written
  abbrev Unwritten : List FieldId → Type 0
  Unwritten fs = (f : FieldId) → Contains fs f → ¬ Contains written f

  left_of : (fs gs : List FieldId) → Unwritten (fs ++ gs) → Unwritten fs
  left_of fs gs a = λ f c. a f (Contains-append_left fs gs f c)

  right_of : (fs gs : List FieldId) → Unwritten (fs ++ gs) → Unwritten gs
  right_of fs gs a = λ f c. a f (Contains-append_right fs gs f c)

  head_of : (f : FieldId) (fs : List FieldId) → Unwritten (f ∷ fs) → ¬ Contains written f
  head_of f fs a = a f (Contains-append_left (f ∷ []) fs f (Contains-push [] f))

  tail_of : (f : FieldId) (fs : List FieldId) → Unwritten (f ∷ fs) → Unwritten fs
  tail_of f fs a = right_of (f ∷ []) fs a

  mutual
    clean_behind : (b : Bool) (e : Expression) → IsClean p written b e → Unwritten (fields_in e) → IsClean p written true e
    clean_behind b (number n) c a = tt
    clean_behind b (truth x) c a = tt
    clean_behind b null c a = tt
    clean_behind b this c a = tt
    clean_behind b (local l) c a = tt
    clean_behind b (own f) c a = head_of f [] a
    clean_behind b (own_item f i) c a = (head_of f (fields_in i) a, clean_behind b i c.1 (tail_of f (fields_in i) a))
    clean_behind b (read e f) c a = (c.0, clean_behind b e c.1 (left_of (fields_in e) (f ∷ []) a))
    clean_behind b (read_item e f i) c a = (c.0, clean_behind b e c.1 (left_of (fields_in e) (f ∷ fields_in i) a), clean_behind b i c.2 (tail_of f (fields_in i) (right_of (fields_in e) (f ∷ fields_in i) a)))
    clean_behind b (value_call e m es) c a = (c.0, clean_behind b e c.1 (left_of (fields_in e) (fields_in_all es) a), all_clean_behind b es c.2 (right_of (fields_in e) (fields_in_all es) a))
    clean_behind b (unary op e) c a = clean_behind b e c a
    clean_behind b (binary op x y) c a = (c.0, clean_behind b x c.1 (left_of (fields_in x) (fields_in y) a), clean_behind b y c.2 (right_of (fields_in x) (fields_in y) a))

    all_clean_behind : (b : Bool) (es : Expressions) → AreClean p written b es → Unwritten (fields_in_all es) → AreClean p written true es
    all_clean_behind b no_expressions c a = tt
    all_clean_behind b (expression_and e es) c a = (clean_behind b e c.0 (left_of (fields_in e) (fields_in_all es) a), all_clean_behind b es c.1 (right_of (fields_in e) (fields_in_all es) a))

  -- what expressions of a list read
  abbrev Unread : List Expression → Type 0
  Unread es = Unwritten (flat_map fields_in es)

  unread_left : (xs ys : List Expression) → Unread (xs ++ ys) → Unread xs
  unread_left xs ys a = λ f c. a f (flat_left fields_in xs ys f c)

  unread_right : (xs ys : List Expression) → Unread (xs ++ ys) → Unread ys
  unread_right xs ys a = λ f c. a f (flat_right fields_in xs ys f c)

  unread_head : (e : Expression) (es : List Expression) → Unread (e ∷ es) → Unwritten (fields_in e)
  unread_head e es a = left_of (fields_in e) (flat_map fields_in es) a

  unread_tail : (e : Expression) (es : List Expression) → Unread (e ∷ es) → Unread es
  unread_tail e es a = right_of (fields_in e) (flat_map fields_in es) a

  unread_listed : (es : Expressions) → Unread (listed es) → Unwritten (fields_in_all es)
  unread_listed no_expressions a = a
  unread_listed (expression_and e es) a = λ f c. from f (unread_listed es (unread_tail e (listed es) a) f) (Contains-append_cases (fields_in e) (fields_in_all es) f c)
    where
      from : (f : FieldId) → (Contains (fields_in_all es) f → ¬ Contains written f) → Contains (fields_in e) f ⊎ Contains (fields_in_all es) f → ¬ Contains written f
      from f h (inl d) = unread_head e (listed es) a f d
      from f h (inr d) = h d

  mutual
    pub separated_behind : (b : Bool) (y : Statement) → IsSeparated p written b y → Unwritten (targets_of y) → Unread (expressions_of y) → IsSeparated p written true y
    separated_behind b (block l ss) s t a = all_separated_behind b ss s t a
    separated_behind b (put_local l i op e) s t a = clean_behind b e s (unread_head e [] a)
    separated_behind b (put_field l f op e) s t a = (head_of f [] t, clean_behind b e s.1 (unread_head e [] a))
    separated_behind b (put_item l f i op e) s t a = (head_of f [] t, clean_behind b i s.1 (unread_head i (e ∷ []) a), clean_behind b e s.2 (unread_head e [] (unread_tail i (e ∷ []) a)))
    separated_behind b (invoke l e op es) s t a = (clean_behind b e s.0 (unread_head e (listed es) a), all_clean_behind b es s.1 (unread_listed es (unread_tail e (listed es) a)))
    separated_behind b (if_else l c x y) s t a =
        let r : Unread (expressions_of x ++ expressions_of y) = unread_tail c (expressions_of x ++ expressions_of y) a in (
          clean_behind b c s.0 (unread_head c (expressions_of x ++ expressions_of y) a),
          separated_behind b x s.1 (left_of (targets_of x) (targets_of y) t) (unread_left (expressions_of x) (expressions_of y) r),
          separated_behind b y s.2 (right_of (targets_of x) (targets_of y) t) (unread_right (expressions_of x) (expressions_of y) r),
        )
    separated_behind b (while_loop l c y) s t a = (clean_behind (b || holds_call y) c s.0 (unread_head c (expressions_of y) a), separated_behind (b || holds_call y) y s.1 t (unread_tail c (expressions_of y) a))
    separated_behind b (for_loop l site part first c next y) s t a =
        let up : Bool = b || holds_call (for_loop l site part first c next y) in
        let r : Unread (c ∷ (expressions_of next ++ expressions_of y)) = unread_right (expressions_of first) (c ∷ (expressions_of next ++ expressions_of y)) a in
        let q : Unread (expressions_of next ++ expressions_of y) = unread_tail c (expressions_of next ++ expressions_of y) r in
        let u : Unwritten (targets_of next ++ targets_of y) = right_of (targets_of first) (targets_of next ++ targets_of y) t in (
          separated_behind up first s.0 (left_of (targets_of first) (targets_of next ++ targets_of y) t) (unread_left (expressions_of first) (c ∷ (expressions_of next ++ expressions_of y)) a),
          clean_behind up c s.1 (unread_head c (expressions_of next ++ expressions_of y) r),
          separated_behind up next s.2 (left_of (targets_of next) (targets_of y) u) (unread_left (expressions_of next) (expressions_of y) q),
          separated_behind up y s.3 (right_of (targets_of next) (targets_of y) u) (unread_right (expressions_of next) (expressions_of y) q),
        )
    separated_behind b (return_value l e) s t a = clean_behind b e s (unread_head e [] a)
    separated_behind b (new_local l i c) s t a = absurd s
    separated_behind b (new_field l f c) s t a = absurd s
    separated_behind b (new_item l f i c) s t a = absurd s
    separated_behind b (print_value l e) s t a = absurd s

    pub all_separated_behind : (b : Bool) (ys : Statements) → AreSeparated p written b ys → Unwritten (targets_of_all ys) → Unread (expressions_of_all ys) → AreSeparated p written true ys
    all_separated_behind b no_statements s t a = tt
    all_separated_behind b (statement_and y rest) s t a = (
      separated_behind b y s.0 (left_of (targets_of y) (targets_of_all rest) t) (unread_left (expressions_of y) (expressions_of_all rest) a),
      all_separated_behind (b || holds_call y) rest s.1 (right_of (targets_of y) (targets_of_all rest) t) (unread_right (expressions_of y) (expressions_of_all rest) a),
    )

  pub free_behind : (op : OpId) → Separable p written op → IsFree p written op → AreSeparated p written true (operation_body p op)
  free_behind op s a =
      let ss : Statements = operation_body p op in
      all_separated_behind false ss s (left_of (targets_of_all ss) (reads_of_body ss) a.untouched) (right_of (targets_of_all ss) (reads_of_body ss) a.untouched)
