-- The state behind a typed statement is typed.
use Rattle.std.proofs.Common.{◌≡◌, ℕ, zero, suc, Bool, true, false, List, [], ◌∷◌, Option, Some, None, ℤ, refl, sym, subst, slice_set}
use Rattle.std.specs.Prelude.{slice_get, cond, ◌||◌, IsSome}
use Rattle.ca_tree.specs.declared.tree.AssignOp.{AssignOp}
use Rattle.ca_program.specs.declared.program.FieldId.{FieldId}
use Rattle.ca_program.specs.declared.program.FieldInfo.{FieldInfo}
use Rattle.ca_program.specs.declared.program.ValueType.{ValueType}
use Rattle.ca_program.specs.Plain.{PlainProgram, PlainMethod, Expression, Statement, Statements, block, put_local, put_field, put_item, new_local, new_field, new_item, invoke, if_else, while_loop, for_loop, return_value, print_value, no_statements, statement_and}
use Rattle.ca_model.specs.declared.value.Value.{Value as Datum}
use Rattle.ca_model.specs.declared.value.Value.TheVariants.{Long, Bool as Truth, Null, Ref}
use Rattle.ca_model.specs.declared.value.Object.{Object}
use Rattle.ca_model.specs.Typed.{HasType}
use Rattle.ca_meaning.specs.Operators.{assigned, same_int}
use Rattle.ca_meaning.specs.ProgramTyped.{IsScalar, IsArray, field_info, AssignTyped, ExpressionTyped, StatementTyped, StatementsTyped, scope_of}
use Rattle.ca_meaning_laws.proofs.Values.{assigned_typed}
use Rattle.ca_parallel.specs.Separable.{holds_call, IsClean, IsSeparated, AreSeparated}
use Rattle.ca_norm.specs.Terms.{PlainTerm}
use Rattle.ca_norm.specs.Meanings.{Valuation, chosen, mean}
use Rattle.ca_norm.specs.Environments.{Environment}
use Rattle.ca_symbolic.specs.States.{State, term_at}
use Rattle.ca_symbolic.specs.Execution.{term_of, put_term, array_term, choose_if, choices, field_target, local_target, sweep_term, after_loop, after, after_all}
use Rattle.ca_sweep.specs.Sweeps.{PlainSweep}
use Rattle.ca_sweep.specs.Found.{sweep_at}
use Rattle.ca_sweep.proofs.Finding.{forms_are_sweeps}
use Rattle.ca_sweep.proofs.Shown.{shown_of}
use Rattle.ca_symbolic_laws.proofs.SweepMeans.{typed_of, array_set}
use Rattle.ca_symbolic_laws.proofs.SweepTerms.{sweep_means}
use Rattle.ca_symbolic_laws.specs.Meant.{item_meant, TermTyped, FieldsTyped, LocalsTyped}
use Rattle.ca_symbolic_laws.specs.Laws.{fields_in, Typed, StateTyped}
use Rattle.ca_symbolic_laws.proofs.Assigned.{assigned_means, array_is}
use Rattle.ca_symbolic_laws.proofs.Indexes.{number_of}
use Rattle.ca_symbolic_laws.proofs.Runs.{Runs}
use Rattle.ca_symbolic_laws.proofs.Selects.{of_choice}
use Rattle.ca_symbolic_laws.proofs.Terms.{local_has, field_has, item_has, own_info, mean_typed}

-- Lists of terms

scalar_term : (h : List Object) (v : Valuation) (t : PlainTerm) (had ty : ValueType) (len : Option ℕ) → had ≡ ty → len ≡ None → HasType h (mean v t) ty → TermTyped h v t had len
scalar_term h v t had ty None e n k = subst (λ z. HasType h (mean v t) z) (sym e) k
scalar_term h v t had ty (Some m) e n k = cc

array_term_typed : (h : List Object) (v : Valuation) (t : PlainTerm) (had ty : ValueType) (len : Option ℕ) → had ≡ ty → IsSome len → ((z : ℤ) → HasType h (item_meant v t z) ty) → TermTyped h v t had len
array_term_typed h v t had ty None e n k = cc
array_term_typed h v t had ty (Some m) e n k = λ z. subst (λ y. HasType h (item_meant v t z) y) (sym e) (k z)

scalar_set : (h : List Object) (v : Valuation) (ts : List PlainTerm) (fs : List FieldInfo) (f : ℕ) (t : PlainTerm) (ty : ValueType) → FieldsTyped h v ts fs → IsScalar (slice_get fs f) ty → HasType h (mean v t) ty → FieldsTyped h v (slice_set ts f t) fs
scalar_set h v [] [] f t ty k i e = tt
scalar_set h v [] (x ∷ fs) f t ty k i e = absurd k
scalar_set h v (y ∷ ts) [] f t ty k i e = absurd k
scalar_set h v (y ∷ ts) (x ∷ fs) zero t ty k i e = (scalar_term h v t x.ty ty x.length i.0 i.1 e, k.1)
scalar_set h v (y ∷ ts) (x ∷ fs) (suc f) t ty k i e = (k.0, scalar_set h v ts fs f t ty k.1 i e)

local_set : (h : List Object) (v : Valuation) (ts : List PlainTerm) (tys : List ValueType) (l : ℕ) (t : PlainTerm) (ty : ValueType) → LocalsTyped h v ts tys → slice_get tys l ≡ Some ty → HasType h (mean v t) ty → LocalsTyped h v (slice_set ts l t) tys
local_set h v [] [] l t ty k i e = tt
local_set h v [] (x ∷ tys) l t ty k i e = absurd k
local_set h v (y ∷ ts) [] l t ty k i e = absurd k
local_set h v (y ∷ ts) (x ∷ tys) zero t ty k i e = let same : ty ≡ x = cc in (subst (λ z. HasType h (mean v t) z) same e, k.1)
local_set h v (y ∷ ts) (x ∷ tys) (suc l) t ty k i e = (k.0, local_set h v ts tys l t ty k.1 i e)

chosen_typed : (h : List Object) (c a b : Datum) (ty : ValueType) → HasType h a ty → HasType h b ty → HasType h (chosen c a b) ty
chosen_typed h (Truth true) a b ty x y = x
chosen_typed h (Truth false) a b ty x y = y
chosen_typed h (Long n) a b ty x y = y
chosen_typed h Null a b ty x y = y
chosen_typed h (Ref n) a b ty x y = y

choice_typed : (h : List Object) (v : Valuation) (z : Bool) (c x y : PlainTerm) (ty : ValueType) → HasType h (mean v x) ty → HasType h (mean v y) ty → HasType h (mean v (choose_if z c x y)) ty
choice_typed h v true c x y ty s t = chosen_typed h (mean v c) (mean v x) (mean v y) ty s t
choice_typed h v false c x y ty s t = s

choice_term : (h : List Object) (v : Valuation) (z : Bool) (c x y : PlainTerm) (ty : ValueType) (len : Option ℕ) → TermTyped h v x ty len → TermTyped h v y ty len → TermTyped h v (choose_if z c x y) ty len
choice_term h v z c x y ty None a b = choice_typed h v z c x y ty a b
choice_term h v true c x y ty (Some n) a b = λ i. subst (λ d. HasType h d ty) (sym (of_choice v c x y i)) (chosen_typed h (mean v c) (item_meant v x i) (item_meant v y i) ty (a i) (b i))
choice_term h v false c x y ty (Some n) a b = a

fields_choice : (h : List Object) (v : Valuation) (is_put : ℕ → Bool) (k : ℕ) (c : PlainTerm) (xs ys : List PlainTerm) (fs : List FieldInfo) → FieldsTyped h v xs fs → FieldsTyped h v ys fs → FieldsTyped h v (choices is_put k c xs ys) fs
fields_choice h v is_put k c [] ys fs a b = a
fields_choice h v is_put k c (x ∷ xs) [] [] a b = absurd a
fields_choice h v is_put k c (x ∷ xs) [] (f ∷ fs) a b = absurd b
fields_choice h v is_put k c (x ∷ xs) (y ∷ ys) [] a b = absurd a
fields_choice h v is_put k c (x ∷ xs) (y ∷ ys) (f ∷ fs) a b = (choice_term h v (is_put k) c x y f.ty f.length a.0 b.0, fields_choice h v is_put (suc k) c xs ys fs a.1 b.1)

locals_choice : (h : List Object) (v : Valuation) (is_put : ℕ → Bool) (k : ℕ) (c : PlainTerm) (xs ys : List PlainTerm) (tys : List ValueType) → LocalsTyped h v xs tys → LocalsTyped h v ys tys → LocalsTyped h v (choices is_put k c xs ys) tys
locals_choice h v is_put k c [] ys tys a b = a
locals_choice h v is_put k c (x ∷ xs) [] [] a b = absurd a
locals_choice h v is_put k c (x ∷ xs) [] (ty ∷ tys) a b = absurd b
locals_choice h v is_put k c (x ∷ xs) (y ∷ ys) [] a b = absurd a
locals_choice h v is_put k c (x ∷ xs) (y ∷ ys) (ty ∷ tys) a b = (choice_typed h v (is_put k) c x y ty a.0 b.0, locals_choice h v is_put (suc k) c xs ys tys a.1 b.1)

cond_typed : (h : List Object) (b : Bool) (d e : Datum) (ty : ValueType) → HasType h d ty → HasType h e ty → HasType h (cond b d e) ty
cond_typed h true d e ty x y = x
cond_typed h false d e ty x y = y

-- Statements

module _ (s : Environment) (v : Valuation) (runs : Runs s v) (m : PlainMethod) (typed : Typed s m) (written : List FieldId) where
  abbrev p : PlainProgram
  p = s.program

  term_typed : (st : State) → StateTyped s v m st → (called : Bool) (e : Expression) (ty : ValueType) → ExpressionTyped p (scope_of m) e ty → IsClean p written called e → HasType s.heap (mean v (term_of p st e)) ty
  term_typed st is called e ty t c = mean_typed s v runs m typed st is written called e ty t c

  own_of : (st : State) (is : StateTyped s v m st) (called : Bool) (f : FieldId) (P : Option FieldInfo → Type 0) → Some m.class ≡ Some f.class → P (field_info p f) → P (slice_get (fields_in s m.class) f.field)
  own_of st is called f P e i = own_info s v runs m typed st is written called f P e i

  -- the term that a put leaves
  put_has : (op : AssignOp) (old t : PlainTerm) (ty : ValueType) → AssignTyped op ty → HasType s.heap (mean v old) ty → HasType s.heap (mean v t) ty → HasType s.heap (mean v (put_term op old t)) ty
  put_has op old t ty a x y = subst (λ d. HasType s.heap d ty) (assigned_means v op old t) (assigned_typed s.heap op (mean v old) (mean v t) ty a x y)

  -- each item of the old array
  pub items_before : (st : State) → StateTyped s v m st → (called : Bool) (f : FieldId) (ty : ValueType) → Some m.class ≡ Some f.class → IsArray (field_info p f) ty → (z : ℤ) → HasType s.heap (item_meant v (term_at st.fields f.field) z) ty
  items_before st is called f ty e i z = item_has s.heap v st.fields (fields_in s m.class) f.field ty is.fields (own_of st is called f (λ o. IsArray o ty) e i) z

  -- the array that a put of an item leaves, item by item
  pub array_behind : (st : State) → StateTyped s v m st → (called : Bool) (f : FieldId) (i : Expression) (op : AssignOp) (e : Expression) (ty : ValueType) → Some m.class ≡ Some f.class → IsArray (field_info p f) ty → AssignTyped op ty → ExpressionTyped p (scope_of m) e ty → IsClean p written called e →
      (z : ℤ) → item_meant v (array_term p st f i op e) z ≡ cond (same_int (number_of (mean v (term_of p st i))) z) (assigned op (item_meant v (term_at st.fields f.field) (number_of (mean v (term_of p st i)))) (mean v (term_of p st e))) (item_meant v (term_at st.fields f.field) z)
  array_behind st is called f i op e ty k a b t c =
      array_is v s.heap p (scope_of m) st f i written called (λ x y u k. term_typed st is called x y u k) op e ty (items_before st is called f ty k a) b t c

  -- a loop that sweeps leaves a typed array, and any other loop what it found
  loop_typed : (x : Statement) (called : Bool) (st : State) → StateTyped s v m st → StatementTyped p (scope_of m) x → IsSeparated p written called x → (o : Option PlainSweep) → sweep_at x ≡ o → StateTyped s v m (after_loop p st o)
  loop_typed x called st is t k None e = is
  loop_typed x called st is t k (Some w) e =
      let z = forms_are_sweeps x w e in
      typed_of s v runs m typed written called w x (shown_of w x z.0) (record { is = z.0; sums = z.1; typed = t; separated = k }) st is (sweep_term p st w) (sweep_means s v st w)

  mutual
    pub typed_behind : (x : Statement) (called : Bool) (st : State) → StateTyped s v m st → StatementTyped p (scope_of m) x → IsSeparated p written called x → StateTyped s v m (after p st x)
    typed_behind (block line ss) called st is t c = typed_behind_all ss called st is t c
    typed_behind (put_local line l op e) called st is t c = record {
      fields = is.fields;
      locals = local_set s.heap v st.locals m.body.locals l.0 _ t.0 is.locals t.1
          (put_has op (term_at st.locals l.0) (term_of p st e) t.0 t.2.0 (local_has s.heap v st.locals m.body.locals l.0 t.0 is.locals t.1) (term_typed st is called e t.0 t.2.1 c));
    }
    typed_behind (put_field line f op e) called st is t c =
        let own : IsScalar (slice_get (fields_in s m.class) f.field) t.0 = own_of st is called f (λ o. IsScalar o t.0) t.1.1 t.2 in
        record {
          fields = scalar_set s.heap v st.fields (fields_in s m.class) f.field _ t.0 is.fields own
              (put_has op (term_at st.fields f.field) (term_of p st e) t.0 t.3.0 (field_has s.heap v st.fields (fields_in s m.class) f.field t.0 is.fields own) (term_typed st is called e t.0 t.3.1 c.1));
          locals = is.locals;
        }
    typed_behind (put_item line f i op e) called st is t c =
        let before : (z : ℤ) → HasType s.heap (item_meant v (term_at st.fields f.field) z) t.0 = items_before st is called f t.0 t.1.1 t.2 in
        let index : ℤ = number_of (mean v (term_of p st i)) in
        let old : Datum = item_meant v (term_at st.fields f.field) index in
        record {
          fields = array_set s.heap v st.fields (fields_in s m.class) f.field _ t.0 is.fields (own_of st is called f (λ o. IsArray o t.0) t.1.1 t.2)
              (λ z. subst (λ d. HasType s.heap d t.0) (sym (array_behind st is called f i op e t.0 t.1.1 t.2 t.4.0 t.4.1 c.2 z))
              (cond_typed s.heap (same_int index z) (assigned op old (mean v (term_of p st e))) (item_meant v (term_at st.fields f.field) z) t.0 (assigned_typed s.heap op old (mean v (term_of p st e)) t.0 t.4.0 (before index) (term_typed st is called e t.0 t.4.1 c.2)) (before z)));
          locals = is.locals;
        }
    typed_behind (if_else line c a b) called st is t k = record {
      fields = fields_choice s.heap v (field_target a b) 0 (term_of p st c) _ _ (fields_in s m.class) (typed_behind a called st is t.1 k.1).fields (typed_behind b called st is t.2 k.2).fields;
      locals = locals_choice s.heap v (local_target a b) 0 (term_of p st c) _ _ m.body.locals (typed_behind a called st is t.1 k.1).locals (typed_behind b called st is t.2 k.2).locals;
    }
    typed_behind (invoke line e op es) called st is t c = is
    typed_behind (for_loop line site part first c next b) called st is t k = loop_typed (for_loop line site part first c next b) called st is t k (sweep_at (for_loop line site part first c next b)) refl
    typed_behind (while_loop line c b) called st is t k = is
    typed_behind (new_local line l c) called st is t k = is
    typed_behind (new_field line f c) called st is t k = is
    typed_behind (new_item line f i c) called st is t k = is
    typed_behind (return_value line e) called st is t k = is
    typed_behind (print_value line e) called st is t k = is

    pub typed_behind_all : (xs : Statements) (called : Bool) (st : State) → StateTyped s v m st → StatementsTyped p (scope_of m) xs → AreSeparated p written called xs → StateTyped s v m (after_all p st xs)
    typed_behind_all no_statements called st is t c = is
    typed_behind_all (statement_and x xs) called st is t c = typed_behind_all xs (called || holds_call x) (after p st x) (typed_behind x called st is t.0 c.0) t.1 c.1
