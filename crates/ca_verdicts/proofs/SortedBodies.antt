-- What a typed operation makes and demands is well sorted.
use Rattle.std.proofs.Common.{◌≡◌, ℕ, suc, Bool, true, false, List, [], ◌∷◌, map, Option, Some, None, refl, sym, ap, ◌∙◌, subst}
use Rattle.std.specs.Prelude.{slice_get, ◌||◌, if◌then◌else◌}
use Rattle.ca_tree.specs.declared.tree.AssignOp.{AssignOp}
use Rattle.ca_tree.specs.declared.tree.AssignOp.TheVariants as assign
use Rattle.ca_tree.specs.declared.tree.BinaryOp.TheVariants.{Plus, Minus}
use Rattle.ca_program.specs.declared.program.ClassId.{ClassId}
use Rattle.ca_program.specs.declared.program.FieldId.{FieldId}
use Rattle.ca_program.specs.declared.program.LoopId.{LoopId}
use Rattle.ca_program.specs.declared.program.ValueType.{ValueType}
use Rattle.ca_program.specs.declared.program.ValueType.TheVariants as type
use Rattle.ca_program.specs.Plain.{PlainProgram, Expression, Expressions, local, own, own_item, read_item, value_call, unary, binary, no_expressions, expression_and, Statement, Statements, block, put_local, put_field, put_item, new_local, new_field, new_item, invoke, if_else, while_loop, for_loop, return_value, print_value, no_statements, statement_and}
use Rattle.ca_program.specs.Plain as plain
use Rattle.ca_model.specs.Heaps.{fields_of}
use Rattle.ca_meaning.specs.ProgramTyped.{Scope, IsArray, field_info, signed_type, ExpressionTyped, ExpressionsTyped, AssignTyped, StatementTyped, StatementsTyped}
use Rattle.ca_parallel.specs.Separable.{holds_call, IsClean, AreClean, IsSeparated, AreSeparated}
use Rattle.ca_sweep.specs.Sweeps.{PlainSweep}
use Rattle.ca_sweep.specs.Found.{sweep_at}
use Rattle.ca_sweep.proofs.Finding.{forms_are_sweeps}
use Rattle.ca_sweep.proofs.Shown.{shown_of}
use Rattle.ca_sweep.proofs.Typed.{sweep_typed, sweep_clean}
use Rattle.ca_forms.specs.declared.sort.Sort.{Sort}
use Rattle.ca_forms.specs.declared.sort.Sort.TheVariants.{Long, Bool as Truth, Pointer}
use Rattle.ca_norm.specs.Terms.{PlainTerm, neg, select, put, add_at, sort_of, terms_of, IsOf, AreSorted}
use Rattle.ca_shared_terms.specs.Starts.{sort_of_type, sort_of_array}
use Rattle.ca_symbolic.specs.States.{State, term_at}
use Rattle.ca_symbolic.specs.Execution.{sort_in, sort_of_result, divisor, term_of, put_term, is_item, put_right, array_term, choose_if, choices, field_target, local_target, addend_term, after_loop, after, after_all}
use Rattle.ca_symbolic.specs.Execution as execution
use Rattle.ca_symbolic.specs.Demands.{terms_in, right_guard, demands_in, demands_in_all, picked, loop_reads, demanded_loop, demanded, demanded_all}
use Rattle.ca_verdicts.proofs.MetDemands.{DemandsSorted}
use Rattle.ca_verdicts.proofs.Sorts.{IsGood, own_sort, ArraysSorted, AllGood, at_place, set_good, mapped, slot_sort, scalar_at, InfoAt, scalar_info, array_info, read_sort, divisor_fits, good, operation_good, signed_good, guard_good, put_good, both_sorted}
use Rattle.ca_symbolic_laws.proofs.Runs.{sort_array, sort_function as result_sort}
use Rattle.ca_symbolic_laws.proofs.Terms.{class_same as same_class}

-- a state of the class whose fields have these sorts, where the locals have these types
pub record StateGood (fields : List Sort) (locals : List ValueType) (st : State) : Type 0 where
  pub fields_good : AllGood fields st.fields
  pub locals_good : AllGood (map sort_of_type locals) st.locals

picked_good : (is_read : ℕ → Bool) (n : ℕ) (tys : List ValueType) (ts : List PlainTerm) → AllGood (map sort_of_type tys) ts → AreSorted (terms_of (picked is_read n ts))
picked_good is_read n [] [] a = tt
picked_good is_read n [] (t ∷ ts) a = absurd a
picked_good is_read n (ty ∷ tys) [] a = absurd a
picked_good is_read n (ty ∷ tys) (t ∷ ts) a = at (is_read n) (picked_good is_read (suc n) tys ts a.1)
  where
    at : (b : Bool) → AreSorted (terms_of (picked is_read (suc n) ts)) → AreSorted (terms_of (if b then t ∷ picked is_read (suc n) ts else picked is_read (suc n) ts))
    at true r = (scalar_at (sort_of t) ty a.0.sort, own_sort a.0, r)
    at false r = r

module _ (arrays : ArraysSorted) where
  choices_good : (is_target : ℕ → Bool) (n : ℕ) (c : PlainTerm) (ss : List Sort) (ts us : List PlainTerm) → IsOf Truth c → AllGood ss ts → AllGood ss us → AllGood ss (choices is_target n c ts us)
  choices_good is_target n c [] [] [] i a b = tt
  choices_good is_target n c [] (t ∷ ts) us i a b = absurd a
  choices_good is_target n c [] [] (u ∷ us) i a b = absurd b
  choices_good is_target n c (s ∷ ss) [] us i a b = absurd a
  choices_good is_target n c (s ∷ ss) (t ∷ ts) [] i a b = absurd b
  choices_good is_target n c (s ∷ ss) (t ∷ ts) (u ∷ us) i a b = (at (is_target n), choices_good is_target (suc n) c ss ts us i a.1 b.1)
    where
      at : (d : Bool) → IsGood s (choose_if d c t u)
      at true = arrays.chosen s c t u i a.0 b.0
      at false = a.0

  module _ (p : PlainProgram) (scope : Scope) (c : ClassId) (class : scope.class ≡ Some c) (written : List FieldId) where
    abbrev FieldSorts : List Sort
    FieldSorts = map slot_sort (fields_of (slice_get p.classes c.0))

    abbrev pub Good : State → Type 0
    Good st = StateGood FieldSorts scope.locals st

    -- the field is one of the class
    field_sort : (f : FieldId) (s : Sort) → scope.class ≡ Some f.class → InfoAt (field_info p f) s → slice_get FieldSorts f.field ≡ Some s
    field_sort f s e i =
        let k : f.class ≡ c = same_class f.class c (sym e ∙ class) in
        mapped slot_sort (fields_of (slice_get p.classes c.0)) f.field i.info (ap (λ (d : ClassId). slice_get (fields_of (slice_get p.classes d.0)) f.field) (sym k) ∙ i.is) ∙ ap Some i.sort

    own_good : (f : FieldId) (s : Sort) (st : State) → Good st → scope.class ≡ Some f.class → InfoAt (field_info p f) s → IsGood s (term_at st.fields f.field)
    own_good f s st g e i = at_place FieldSorts st.fields f.field s g.fields_good (field_sort f s e i)

    local_good : (n : ℕ) (ty : ValueType) (st : State) → Good st → slice_get scope.locals n ≡ Some ty → IsGood (sort_of_type ty) (term_at st.locals n)
    local_good n ty st g e = at_place (map sort_of_type scope.locals) st.locals n (sort_of_type ty) g.locals_good (mapped sort_of_type scope.locals n ty e)

    module _ (called : Bool) where
      mutual
        pub term_good : (e : Expression) (ty : ValueType) (st : State) → Good st → ExpressionTyped p scope e ty → IsClean p written called e → IsGood (sort_of_type ty) (term_of p st e)
        term_good (plain.number n) ty st g t k = good ty Long _ (ap sort_of_type t.0) refl (ap sort_of_type t.0, t.1)
        term_good (plain.truth b) ty st g t k = good ty Truth _ (ap sort_of_type t) refl (ap sort_of_type t)
        term_good plain.null ty st g t k = good ty Pointer _ (ap sort_of_type t.1) refl (ap sort_of_type t.1)
        term_good plain.this ty st g t k = good ty Pointer _ (ap sort_of_type t.1) refl (sym (ap sort_of_type t.1))
        term_good (local l) ty st g t k = local_good l.0 ty st g t
        term_good (own f) ty st g t k = own_good f (sort_of_type ty) st g t.0 (scalar_info (field_info p f) ty t.1)
        term_good (own_item f i) ty st g t k =
            arrays.selected ty _ _ (own_good f (sort_of_array ty) st g t.0 (array_info (field_info p f) ty t.1)) (term_good i type.Long st g t.2 k.1)
        term_good (plain.read e f) ty st g t k =
            let s : sort_in (field_info p f) ≡ sort_of_type ty = read_sort (field_info p f) ty t.1 in
            record { sort = s; is = (s, scalar_at _ ty s, (term_good e (type.Pointer f.class) st g t.0 k.1).is) }
        term_good (read_item e f i) ty st g t k =
            let s : sort_in (field_info p f) ≡ sort_of_type ty = sort_array (field_info p f) ty t.1 in
            record { sort = s; is = (s, scalar_at _ ty s, (term_good e (type.Pointer f.class) st g t.0 k.1).is, (term_good i type.Long st g t.2 k.2).is) }
        term_good (value_call e m arguments) ty st g t k =
            let s : sort_of_result (slice_get p.functions m.0) ≡ sort_of_type ty = result_sort (slice_get p.functions m.0) t.0 t.1 ty t.2 in
            record { sort = s; is = (s, scalar_at _ ty s, (term_good e (type.Pointer t.0) st g t.3 k.1).is, terms_good arguments t.1 st g t.4 k.2) }
        term_good (unary op e) ty st g t k = signed_good op ty _ t.0 (term_good e (signed_type op) st g t.1 k)
        term_good (binary op a b) ty st g t k =
            operation_good op t.0 ty t.1 _ _ (term_good a t.0 st g t.2 k.1) (term_good b t.0 st g t.3 k.2) (divisor b) (divisor_fits p scope op b t.0 t.3 k.0)

        terms_good : (es : Expressions) (tys : List ValueType) (st : State) → Good st → ExpressionsTyped p scope es tys → AreClean p written called es → AreSorted (execution.terms_of p st es)
        terms_good no_expressions tys st g t k = tt
        terms_good (expression_and e es) tys st g t k =
            let q : IsGood (sort_of_type t.0) (term_of p st e) = term_good e t.0 st g t.3 k.0 in
            (scalar_at _ t.0 q.sort, own_sort q, terms_good es t.1 st g t.4 k.1)

      parts_good : (es : Expressions) (tys : List ValueType) (st : State) → Good st → ExpressionsTyped p scope es tys → AreClean p written called es → AreSorted (terms_of (terms_in p st es))
      parts_good no_expressions tys st g t k = tt
      parts_good (expression_and e es) tys st g t k =
          let q : IsGood (sort_of_type t.0) (term_of p st e) = term_good e t.0 st g t.3 k.0 in
          (scalar_at _ t.0 q.sort, own_sort q, parts_good es t.1 st g t.4 k.1)

      one_part : (ty : ValueType) (t : PlainTerm) → IsGood (sort_of_type ty) t → AreSorted (terms_of (t ∷ []))
      one_part ty t q = (scalar_at _ ty q.sort, own_sort q, tt)

      -- demands of expressions
      mutual
        pub demands_good : (e : Expression) (ty : ValueType) (st : State) (w : PlainTerm) → Good st → ExpressionTyped p scope e ty → IsClean p written called e → IsOf Truth w → DemandsSorted (demands_in p st w e)
        demands_good (plain.number n) ty st w g t k i = tt
        demands_good (plain.truth b) ty st w g t k i = tt
        demands_good plain.null ty st w g t k i = tt
        demands_good plain.this ty st w g t k i = tt
        demands_good (local l) ty st w g t k i = tt
        demands_good (own f) ty st w g t k i = tt
        demands_good (own_item f j) ty st w g t k i =
            both_sorted (demands_in p st w j) _ (demands_good j type.Long st w g t.2 k.1 i) (record { guard = i; parts = one_part type.Long _ (term_good j type.Long st g t.2 k.1) }, tt)
        demands_good (plain.read e f) ty st w g t k i =
            both_sorted (demands_in p st w e) _ (demands_good e (type.Pointer f.class) st w g t.0 k.1 i) (record { guard = i; parts = one_part (type.Pointer f.class) _ (term_good e (type.Pointer f.class) st g t.0 k.1) }, tt)
        demands_good (read_item e f j) ty st w g t k i =
            both_sorted (demands_in p st w e) _ (demands_good e (type.Pointer f.class) st w g t.0 k.1 i) (
              record { guard = i; parts = one_part (type.Pointer f.class) _ (term_good e (type.Pointer f.class) st g t.0 k.1) },
              both_sorted (demands_in p st w j) _ (demands_good j type.Long st w g t.2 k.2 i) (record { guard = i; parts = one_part type.Long _ (term_good j type.Long st g t.2 k.2) }, tt),
            )
        demands_good (value_call e m arguments) ty st w g t k i =
            let q : IsGood Pointer (term_of p st e) = term_good e (type.Pointer t.0) st g t.3 k.1 in
            both_sorted (demands_in p st w e) _ (demands_good e (type.Pointer t.0) st w g t.3 k.1 i)
            (both_sorted (demands_in_all p st w arguments) _ (all_demands_good arguments t.1 st w g t.4 k.2 i)
            (record { guard = i; parts = one_part (type.Pointer t.0) _ q }, (record { guard = i; parts = (scalar_at _ (type.Pointer t.0) q.sort, own_sort q, parts_good arguments t.1 st g t.4 k.2) }, tt)))
        demands_good (unary op e) ty st w g t k i = demands_good e (signed_type op) st w g t.1 k i
        demands_good (binary op a b) ty st w g t k i =
            both_sorted (demands_in p st w a) _ (demands_good a t.0 st w g t.2 k.1 i)
            (demands_good b t.0 st (right_guard op w (term_of p st a)) g t.3 k.2 (guard_good op t.0 ty t.1 w (term_of p st a) i (term_good a t.0 st g t.2 k.1)))

        all_demands_good : (es : Expressions) (tys : List ValueType) (st : State) (w : PlainTerm) → Good st → ExpressionsTyped p scope es tys → AreClean p written called es → IsOf Truth w → DemandsSorted (demands_in_all p st w es)
        all_demands_good no_expressions tys st w g t k i = tt
        all_demands_good (expression_and e es) tys st w g t k i = both_sorted (demands_in p st w e) _ (demands_good e t.0 st w g t.3 k.0 i) (all_demands_good es t.1 st w g t.4 k.1 i)

      -- puts to items
      item_put : (ty : ValueType) (f : FieldId) (j e : Expression) (st : State) → Good st → scope.class ≡ Some f.class → IsArray (field_info p f) ty → ExpressionTyped p scope j type.Long → IsClean p written called j → IsGood (sort_of_type ty) (term_of p st e) →
          IsGood (sort_of_array ty) (put (term_at st.fields f.field) (term_of p st j) (term_of p st e))
      item_put ty f j e st g o a t k q = arrays.put_at ty _ _ _ (own_good f (sort_of_array ty) st g o (array_info (field_info p f) ty a)) (term_good j type.Long st g t k) q

      item_added : (ty : ValueType) (f : FieldId) (j : Expression) (v : PlainTerm) (st : State) → Good st → scope.class ≡ Some f.class → IsArray (field_info p f) ty → ExpressionTyped p scope j type.Long → IsClean p written called j → ty ≡ type.Long → IsGood Long v →
          IsGood (sort_of_array ty) (add_at (term_at st.fields f.field) (term_of p st j) v)
      item_added ty f j v st g o a t k n q =
          subst (λ z. IsGood (sort_of_array z) (add_at (term_at st.fields f.field) (term_of p st j) v)) (sym n)
          (arrays.added_at _ _ _ (subst (λ z. IsGood (sort_of_array z) (term_at st.fields f.field)) n (own_good f (sort_of_array ty) st g o (array_info (field_info p f) ty a))) (term_good j type.Long st g t k) q)

      long_good : (ty : ValueType) (t : PlainTerm) → ty ≡ type.Long → IsGood (sort_of_type ty) t → IsGood Long t
      long_good ty t e q = subst (λ z. IsGood (sort_of_type z) t) e q

      if_added : (b : Bool) (s : Sort) (t u : PlainTerm) → IsGood s t → IsGood s u → IsGood s (if b then t else u)
      if_added true s t u q r = q
      if_added false s t u q r = r

      negated_good : (t : PlainTerm) → IsGood Long t → IsGood Long (neg t)
      negated_good t q = record { sort = refl; is = (refl, q.is) }

      right_put : (ty : ValueType) (f : FieldId) (j e : Expression) (st : State) → Good st → scope.class ≡ Some f.class → IsArray (field_info p f) ty → ExpressionTyped p scope j type.Long → IsClean p written called j → ExpressionTyped p scope e ty → IsClean p written called e → IsGood (sort_of_array ty) (put_right p st f j e)
      right_put ty f j (binary Plus a b) st g o r t k u m =
          if_added (is_item f j a) (sort_of_array ty) _ _
          (item_added ty f j (term_of p st b) st g o r t k u.1.1 (long_good u.0 _ u.1.0 (term_good b u.0 st g u.3 m.2)))
          (item_put ty f j (binary Plus a b) st g o r t k (term_good (binary Plus a b) ty st g u m))
      right_put ty f j (binary Minus a b) st g o r t k u m =
          if_added (is_item f j a) (sort_of_array ty) _ _
          (item_added ty f j (neg (term_of p st b)) st g o r t k u.1.1 (negated_good _ (long_good u.0 _ u.1.0 (term_good b u.0 st g u.3 m.2))))
          (item_put ty f j (binary Minus a b) st g o r t k (term_good (binary Minus a b) ty st g u m))
      right_put ty f j e st g o r t k u m = item_put ty f j e st g o r t k (term_good e ty st g u m)

      -- an item with what an assignment makes of it
      item_joined : (op : AssignOp) (ty : ValueType) (f : FieldId) (j e : Expression) (st : State) → Good st → scope.class ≡ Some f.class → IsArray (field_info p f) ty → ExpressionTyped p scope j type.Long → IsClean p written called j → AssignTyped op ty → ExpressionTyped p scope e ty → IsClean p written called e →
          IsGood (sort_of_array ty) (put (term_at st.fields f.field) (term_of p st j) (put_term op (select (term_at st.fields f.field) (term_of p st j)) (term_of p st e)))
      item_joined op ty f j e st g o r t k n u m =
          let item : IsGood (sort_of_type ty) (select (term_at st.fields f.field) (term_of p st j)) = arrays.selected ty _ _ (own_good f (sort_of_array ty) st g o (array_info (field_info p f) ty r)) (term_good j type.Long st g t k) in
          arrays.put_at ty _ _ _ (own_good f (sort_of_array ty) st g o (array_info (field_info p f) ty r)) (term_good j type.Long st g t k) (put_good op ty n _ _ item (term_good e ty st g u m))

      array_good : (op : AssignOp) (ty : ValueType) (f : FieldId) (j e : Expression) (st : State) → Good st → scope.class ≡ Some f.class → IsArray (field_info p f) ty → ExpressionTyped p scope j type.Long → IsClean p written called j → AssignTyped op ty → ExpressionTyped p scope e ty → IsClean p written called e → IsGood (sort_of_array ty) (array_term p st f j op e)
      array_good assign.Put ty f j e st g o r t k n u m = right_put ty f j e st g o r t k u m
      array_good assign.Add ty f j e st g o r t k n u m = item_added ty f j (term_of p st e) st g o r t k n (long_good ty _ n (term_good e ty st g u m))
      array_good assign.Sub ty f j e st g o r t k n u m = item_added ty f j (neg (term_of p st e)) st g o r t k n (negated_good _ (long_good ty _ n (term_good e ty st g u m)))
      array_good assign.Mul ty f j e st g o r t k n u m = item_joined assign.Mul ty f j e st g o r t k n u m
      array_good assign.BitAnd ty f j e st g o r t k n u m = item_joined assign.BitAnd ty f j e st g o r t k n u m
      array_good assign.BitOr ty f j e st g o r t k n u m = item_joined assign.BitOr ty f j e st g o r t k n u m
      array_good assign.BitXor ty f j e st g o r t k n u m = item_joined assign.BitXor ty f j e st g o r t k n u m

    -- loops
    addend_good : (minus : Bool) (t : PlainTerm) → IsGood Long t → IsGood Long (addend_term minus t)
    addend_good true t q = negated_good false t q
    addend_good false t q = q

    loop_after_good : (called : Bool) (x : Statement) (st : State) → Good st → StatementTyped p scope x → IsSeparated p written called x → (o : Option PlainSweep) → sweep_at x ≡ o → Good (after_loop p st o)
    loop_after_good called x st g t k None e = g
    loop_after_good called x st g t k (Some w) e =
        let z = forms_are_sweeps x w e in
        let typed = sweep_typed p scope w x (shown_of w x z.0) t in
        let clean = sweep_clean p written called w x (shown_of w x z.0) k in
        let looped : Bool = called || holds_call x in
        let info = array_info (field_info p w.field) type.Long typed.part.array in
        record {
          fields_good = set_good FieldSorts st.fields w.field.field (sort_of_array type.Long) _ g.fields_good (field_sort w.field (sort_of_array type.Long) typed.part.target.1 info)
              (arrays.swept _ _ _ _ (own_good w.field (sort_of_array type.Long) st g typed.part.target.1 info) (term_good looped w.from type.Long st g typed.from clean.from)
              (term_good looped w.to type.Long st g typed.to clean.to) (addend_good w.minus _ (term_good looped w.addend type.Long st g typed.part.addend clean.addend)));
          locals_good = g.locals_good;
        }

    loop_demanded_good : (called : Bool) (site : LoopId) (x : Statement) (st : State) (guard : PlainTerm) → Good st → StatementTyped p scope x → IsSeparated p written called x → IsOf Truth guard → (o : Option PlainSweep) → sweep_at x ≡ o → DemandsSorted (demanded_loop p st guard site x o)
    loop_demanded_good called site x st guard g t k i None e = (record { guard = i; parts = picked_good (loop_reads x) 0 scope.locals st.locals g.locals_good }, tt)
    loop_demanded_good called site x st guard g t k i (Some w) e =
        let z = forms_are_sweeps x w e in
        let typed = sweep_typed p scope w x (shown_of w x z.0) t in
        let clean = sweep_clean p written called w x (shown_of w x z.0) k in
        let looped : Bool = called || holds_call x in
        let from : IsGood Long (term_of p st w.from) = term_good looped w.from type.Long st g typed.from clean.from in
        let to : IsGood Long (term_of p st w.to) = term_good looped w.to type.Long st g typed.to clean.to in
        (record { guard = i; parts = (scalar_at _ type.Long from.sort, own_sort from, (scalar_at _ type.Long to.sort, own_sort to, tt)) }, tt)

    -- statements
    mutual
      after_good : (called : Bool) (x : Statement) (st : State) → Good st → StatementTyped p scope x → IsSeparated p written called x → Good (after p st x)
      after_good called (block line ss) st g t k = all_after_good called ss st g t k
      after_good called (put_local line l op e) st g t k = record {
        fields_good = g.fields_good;
        locals_good = set_good (map sort_of_type scope.locals) st.locals l.0 (sort_of_type t.0) _ g.locals_good (mapped sort_of_type scope.locals l.0 t.0 t.1) (put_good op t.0 t.2.0 _ _ (local_good l.0 t.0 st g t.1) (term_good called e t.0 st g t.2.1 k));
      }
      after_good called (put_field line f op e) st g t k =
          let i : InfoAt (field_info p f) (sort_of_type t.0) = scalar_info (field_info p f) t.0 t.2 in
          record {
            fields_good = set_good FieldSorts st.fields f.field (sort_of_type t.0) _ g.fields_good (field_sort f (sort_of_type t.0) t.1.1 i) (put_good op t.0 t.3.0 _ _ (own_good f (sort_of_type t.0) st g t.1.1 i) (term_good called e t.0 st g t.3.1 k.1));
            locals_good = g.locals_good;
          }
      after_good called (put_item line f j op e) st g t k = record {
        fields_good = set_good FieldSorts st.fields f.field (sort_of_array t.0) _ g.fields_good (field_sort f (sort_of_array t.0) t.1.1 (array_info (field_info p f) t.0 t.2)) (array_good called op t.0 f j e st g t.1.1 t.2 t.3 k.1 t.4.0 t.4.1 k.2);
        locals_good = g.locals_good;
      }
      after_good called (if_else line c a b) st g t k =
          let i : IsOf Truth (term_of p st c) = (term_good called c type.Bool st g t.0 k.0).is in
          let x : Good (after p st a) = after_good called a st g t.1 k.1 in
          let y : Good (after p st b) = after_good called b st g t.2 k.2 in
          record {
            fields_good = choices_good (field_target a b) 0 (term_of p st c) FieldSorts (after p st a).fields (after p st b).fields i x.fields_good y.fields_good;
            locals_good = choices_good (local_target a b) 0 (term_of p st c) (map sort_of_type scope.locals) (after p st a).locals (after p st b).locals i x.locals_good y.locals_good;
          }
      after_good called (invoke line e op arguments) st g t k = g
      after_good called (while_loop line c b) st g t k = g
      after_good called (for_loop line site part first c next b) st g t k =
          loop_after_good called (for_loop line site part first c next b) st g t k (sweep_at (for_loop line site part first c next b)) refl
      after_good called (new_local line l c) st g t k = g
      after_good called (new_field line f c) st g t k = g
      after_good called (new_item line f i c) st g t k = g
      after_good called (return_value line e) st g t k = g
      after_good called (print_value line e) st g t k = g

      pub all_after_good : (called : Bool) (xs : Statements) (st : State) → Good st → StatementsTyped p scope xs → AreSeparated p written called xs → Good (after_all p st xs)
      all_after_good called no_statements st g t k = g
      all_after_good called (statement_and x xs) st g t k = all_after_good _ xs (after p st x) (after_good called x st g t.0 k.0) t.1 k.1

    mutual
      demanded_good : (called : Bool) (x : Statement) (st : State) (w : PlainTerm) → Good st → StatementTyped p scope x → IsSeparated p written called x → IsOf Truth w → DemandsSorted (demanded p st w x)
      demanded_good called (block line ss) st w g t k i = all_demanded_good called ss st w g t k i
      demanded_good called (put_local line l op e) st w g t k i = demands_good called e t.0 st w g t.2.1 k i
      demanded_good called (put_field line f op e) st w g t k i = demands_good called e t.0 st w g t.3.1 k.1 i
      demanded_good called (put_item line f j op e) st w g t k i =
          both_sorted (demands_in p st w j) _ (demands_good called j type.Long st w g t.3 k.1 i)
          (record { guard = i; parts = one_part called type.Long _ (term_good called j type.Long st g t.3 k.1) }, demands_good called e t.0 st w g t.4.1 k.2 i)
      demanded_good called (invoke line e op arguments) st w g t k i =
          let q : IsGood Pointer (term_of p st e) = term_good called e (type.Pointer t.0) st g t.4 k.0 in
          both_sorted (demands_in p st w e) _ (demands_good called e (type.Pointer t.0) st w g t.4 k.0 i)
          (both_sorted (demands_in_all p st w arguments) _ (all_demands_good called arguments t.1 st w g t.5 k.1 i)
          (record { guard = i; parts = one_part called (type.Pointer t.0) _ q }, (record { guard = i; parts = (scalar_at _ (type.Pointer t.0) q.sort, own_sort q, parts_good called arguments t.1 st g t.5 k.1) }, tt)))
      demanded_good called (if_else line c a b) st w g t k i =
          let q : IsOf Truth (term_of p st c) = (term_good called c type.Bool st g t.0 k.0).is in
          both_sorted (demands_in p st w c) _ (demands_good called c type.Bool st w g t.0 k.0 i)
          (both_sorted (demanded p st _ a) _ (demanded_good called a st _ g t.1 k.1 (refl, i, q)) (demanded_good called b st _ g t.2 k.2 (refl, i, (refl, q))))
      demanded_good called (for_loop line site part first c next b) st w g t k i =
          loop_demanded_good called site (for_loop line site part first c next b) st w g t k i (sweep_at (for_loop line site part first c next b)) refl
      demanded_good called (while_loop line c b) st w g t k i = tt
      demanded_good called (new_local line l c) st w g t k i = tt
      demanded_good called (new_field line f c) st w g t k i = tt
      demanded_good called (new_item line f j c) st w g t k i = tt
      demanded_good called (return_value line e) st w g t k i = tt
      demanded_good called (print_value line e) st w g t k i = tt

      pub all_demanded_good : (called : Bool) (xs : Statements) (st : State) (w : PlainTerm) → Good st → StatementsTyped p scope xs → AreSeparated p written called xs → IsOf Truth w → DemandsSorted (demanded_all p st w xs)
      all_demanded_good called no_statements st w g t k i = tt
      all_demanded_good called (statement_and x xs) st w g t k i =
          both_sorted (demanded p st w x) _ (demanded_good called x st w g t.0 k.0 i) (all_demanded_good _ xs (after p st x) w (after_good called x st g t.0 k.0) t.1 k.1 i)
