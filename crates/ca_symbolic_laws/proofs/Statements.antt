-- A statement of a section leaves what the state behind it means, and takes and lists what its demands do.
use Rattle.std.proofs.Common.{◌≡◌, ℕ, zero, suc, ◌≤◌, Bool, true, false, List, [], ◌∷◌, ◌++◌, length, map, Option, Some, None, pos, negsuc, refl, sym, ap, ap₂, ◌∙◌, arith, slice_set, append-nil, append_assoc, zero-add}
use Rattle.std.specs.Prelude.{slice_get, ◌||◌, nat_eq, cond, Contains}
use Rattle.std.proofs.lemmas.List.{map-set}
use Rattle.ca_tree.specs.declared.tree.AssignOp.{AssignOp}
use Rattle.ca_tree.specs.declared.tree.BinaryOp.TheVariants.{And}
use Rattle.ca_tree.specs.declared.tree.UnaryOp.TheVariants as sign
use Rattle.ca_program.specs.declared.program.ClassId.{ClassId}
use Rattle.ca_program.specs.declared.program.FieldId.{FieldId}
use Rattle.ca_program.specs.declared.program.FieldInfo.{FieldInfo}
use Rattle.ca_program.specs.declared.program.FirstPart.{FirstPart}
use Rattle.ca_program.specs.declared.program.LoopId.{LoopId}
use Rattle.ca_program.specs.declared.program.OpId.{OpId}
use Rattle.ca_program.specs.declared.program.ValueType.{ValueType}
use Rattle.ca_program.specs.declared.program.ValueType.TheVariants as type
use Rattle.ca_program.specs.Plain.{PlainProgram, PlainMethod, Expression, Expressions, Statement, Statements, block, put_local, put_field, put_item, new_local, new_field, new_item, invoke, if_else, while_loop, for_loop, return_value, print_value, no_statements, statement_and}
use Rattle.ca_model.specs.declared.value.Value.{Value as Datum}
use Rattle.ca_model.specs.declared.value.Value.TheVariants.{Long, Bool as Truth, Null, Ref}
use Rattle.ca_model.specs.declared.value.Object.{Object}
use Rattle.ca_model.specs.Slots.{put_slot}
use Rattle.ca_model.specs.Typed.{HasType}
use Rattle.ca_meaning.specs.Operators.{assigned, signed, same_int}
use Rattle.ca_meaning.specs.Expressions.{gives, ◌>>=◌, one_in, value_at, pointed, Item, Invocation, invocation, due, eval}
use Rattle.ca_meaning.specs.Flows.{Flow, exec, exec_all, line_of}
use Rattle.ca_meaning.specs.Flows as flows
use Rattle.ca_meaning.specs.Functions.{functions_of}
use Rattle.ca_meaning.specs.ProgramTyped.{IsScalar, IsArray, field_info, ExpressionTyped, ExpressionsTyped, scope_of}
use Rattle.ca_meaning.specs.Sections.{Section, section_place, section_parts}
use Rattle.std.proofs.lemmas.List.Elements.{Contains-append_left, Contains-push}
use Rattle.std.proofs.lemmas.Bool.{or_parts}
use Rattle.ca_parallel.specs.Bodies.{fors_in}
use Rattle.ca_parallel.specs.Scoped.{names, any_names, names_outside}
use Rattle.ca_parallel.specs.Separable.{holds_call, IsClean, AreClean}
use Rattle.ca_norm.specs.Terms.{PlainTerm}
use Rattle.ca_norm.specs.Meanings.{Valuation, operate, mean, means}
use Rattle.ca_norm.specs.Environments.{Environment}
use Rattle.ca_sweep.specs.Means.{length_in}
use Rattle.ca_symbolic.specs.States.{State, not_null, in_range, invokes, PlainDemand, demand, term_at}
use Rattle.ca_symbolic.specs.Execution.{term_of, terms_of, put_term, array_term, puts_local, puts_field, field_target, local_target, after, after_all}
use Rattle.ca_symbolic.specs.Demands.{terms_in, then_guard, else_guard, demands_in, demands_in_all, demanded, demanded_all}
use Rattle.ca_symbolic_laws.specs.Costs.{plus, left, with_left, value_of, hidden, state_of}
use Rattle.ca_symbolic_laws.specs.Meant.{item_meant, slots_meant, FieldsTyped}
use Rattle.ca_symbolic_laws.specs.Demanded.{names_object, is_index, object_in, cost, lists}
use Rattle.ca_symbolic_laws.specs.Laws.{fields_in, Typed, StateTyped, LocalsAre}
use Rattle.ca_symbolic_laws.proofs.Budgets.{free, plus_none, none_plus, then_value}
use Rattle.ca_symbolic_laws.proofs.Indexes.{number_of, place_of}
use Rattle.ca_symbolic_laws.proofs.Operators.{IsTruth, is_true, truth_of}
use Rattle.ca_symbolic_laws.proofs.Runs.{Runs}
use Rattle.ca_symbolic_laws.proofs.Terms.{means_are, own_info, mean_typed}
use Rattle.ca_symbolic_laws.proofs.Demands.{cost_append, lists_append, asked, told, Off, off_statement, quiet, quiet_all}
use Rattle.ca_symbolic_laws.proofs.Expressions.{Unnamed, unnamed_left, unnamed_right, shown, hidden_at, local_means, field_means, own_index, eval_is, evals_are}
use Rattle.ca_symbolic_laws.proofs.Choices.{fields_kept, locals_kept}
use Rattle.ca_symbolic_laws.proofs.Assigned.{assigned_means}
use Rattle.ca_symbolic_laws.proofs.Typings.{array_behind, typed_behind}
use Rattle.ca_symbolic_laws.proofs.Slots.{put_one, put_at, AllSame, choices_true, choices_false, values_same, slots_same}
use Rattle.ca_symbolic_laws.proofs.Flows.{hidden_set, with_then, with_some, on_then}
use Rattle.ca_symbolic_laws.proofs.Fits.{Fits, FitAll, in_block, at_head, in_tail, in_then, in_else}

in_range_place : (len : Option ℕ) (d : Datum) (n : ℕ) → is_index len d ≡ Some n → number_of d ≡ pos (place_of d)
in_range_place len (Long (pos i)) n e = refl
in_range_place len (Long (negsuc i)) n e = cc
in_range_place len (Truth b) n e = cc
in_range_place len Null n e = cc
in_range_place len (Ref r) n e = cc

term_there : (h : List Object) (v : Valuation) (ts : List PlainTerm) (fs : List FieldInfo) (f : ℕ) (ty : ValueType) → FieldsTyped h v ts fs → IsArray (slice_get fs f) ty → slice_get ts f ≡ Some (term_at ts f)
term_there h v [] [] f ty t i = absurd i
term_there h v [] (x ∷ fs) f ty t i = absurd t
term_there h v (y ∷ ts) [] f ty t i = absurd i
term_there h v (y ∷ ts) (x ∷ fs) zero ty t i = refl
term_there h v (y ∷ ts) (x ∷ fs) (suc f) ty t i = term_there h v ts fs f ty t.1 i

module _ (s : Environment) (v : Valuation) (runs : Runs s v) (m : PlainMethod) (typed : Typed s m)
    (written : List FieldId) (t : ℕ → Bool) (all : List Statement) where
  abbrev p : PlainProgram
  p = s.program

  abbrev fs : List FieldInfo
  fs = fields_in s m.class

  abbrev section_of : State → List Invocation → Section
  section_of st l = record { own = slots_meant v st.fields fs; listed = l }

  abbrev meant : State → List Invocation → List Datum × Section
  meant st l = (hidden t 0 (map (mean v) st.locals), section_of st l)

  abbrev run : State → List Datum → List Invocation → Statement → ℕ → Flow Section
  run st ls l x k = exec (section_parts p s.heap (Ref s.receiver)) (line_of x) ls (section_of st l) x k

  abbrev pub IsMeant : State → PlainTerm → List Datum → List Invocation → Statement → ℕ → Type 0
  IsMeant st g ls l x k = state_of t (run st ls l x k) ≡ with_left (meant (after p st x) (l ++ lists s v (demanded p st g x))) (left (cost s v (demanded p st g x)) k)

  -- what is meant by the means of the terms alone
  same_meant : (st u : State) (l n : List Invocation) → AllSame v st.locals u.locals → AllSame v st.fields u.fields → l ≡ n → meant st l ≡ meant u n
  same_meant st u l n a b c = ap₂ (λ x y. (x, y)) (ap (hidden t 0) (values_same v st.locals u.locals a)) (ap₂ (λ x y. record { own = x; listed = y }) (slots_same v st.fields u.fields fs b) c)

  no_list : (st : State) (l : List Invocation) (g : PlainTerm) (e : Expression) → l ≡ l ++ lists s v (demands_in p st g e)
  no_list st l g e = sym (ap (λ z. l ++ z) (quiet s v p st e g) ∙ append-nil l)

  module _ (called : Bool) (st : State) (is : StateTyped s v m st) (ls : List Datum) (same : LocalsAre v t ls st.locals) (line : ℕ) where
    value_is : (e : Expression) (ty : ValueType) → ExpressionTyped p (scope_of m) e ty → IsClean p written called e → Unnamed t (names e) → (g : PlainTerm) → mean v g ≡ Truth true → (k : ℕ) → k ≤ s.steps →
        value_of (eval (functions_of p.functions s.heap).call (section_place s.heap (Ref s.receiver) (slots_meant v st.fields fs) line ls) e k) ≡ with_left (mean v (term_of p st e)) (left (cost s v (demands_in p st g e)) k)
    value_is e ty a c u g y k l = eval_is s v runs m typed st is written called t ls same line e ty a c u g y k l

    own_field : (f : FieldId) (P : Option FieldInfo → Type 0) → Some m.class ≡ Some f.class → P (field_info p f) → P (slice_get fs f.field)
    own_field f P e i = own_info s v runs m typed st is written called f P e i

    local_put : (l : ℕ) (op : AssignOp) (x : PlainTerm) → t l ≡ false → hidden t 0 (slice_set ls l (assigned op (value_at ls l) (mean v x))) ≡ hidden t 0 (map (mean v) (slice_set st.locals l (put_term op (term_at st.locals l) x)))
    local_put l op x e =
        hidden_set t 0 ls (map (mean v) st.locals) l _ same
        ∙ ap (λ d. hidden t 0 (slice_set (map (mean v) st.locals) l d)) (ap (λ d. assigned op d (mean v x)) (hidden_at t 0 ls (map (mean v) st.locals) l same (ap t (zero-add l) ∙ e) ∙ local_means v st.locals l) ∙ assigned_means v op (term_at st.locals l) x)
        ∙ ap (hidden t 0) (sym (map-set (mean v) st.locals l _))

    field_put : (f : FieldId) (ty : ValueType) (op : AssignOp) (x : PlainTerm) → IsScalar (slice_get fs f.field) ty → put_slot (slots_meant v st.fields fs) f.field 0 (assigned op (one_in (slice_get (slots_meant v st.fields fs) f.field)) (mean v x)) ≡ slots_meant v (slice_set st.fields f.field (put_term op (term_at st.fields f.field) x)) fs
    field_put f ty op x i = put_one v st.fields fs f.field ty _ _ i (ap (λ d. assigned op d (mean v x)) (field_means s.heap v st.fields fs f.field ty is.fields i) ∙ assigned_means v op (term_at st.fields f.field) x)

    -- the call that is due
    due_is : (e : Expression) (op : OpId) (es : Expressions) (c : ClassId) (tys : List ValueType) → ExpressionTyped p (scope_of m) e (type.Pointer c) → ExpressionsTyped p (scope_of m) es tys → IsClean p written called e → AreClean p written called es → Unnamed t (λ n. names e n || any_names es n) →
        (g : PlainTerm) → mean v g ≡ Truth true → (k : ℕ) → k ≤ s.steps →
        value_of (due (functions_of p.functions s.heap).call (section_place s.heap (Ref s.receiver) (slots_meant v st.fields fs) line ls) e op es k)
        ≡ with_left (invocation (object_in (mean v (term_of p st e))) op (means v (terms_of p st es))) (left (plus (cost s v (demands_in p st g e)) (plus (cost s v (demands_in_all p st g es)) (names_object (mean v (term_of p st e))))) k)
    due_is e op es c tys a b clean cleans u g y k l =
        then_value _ _ (mean v (term_of p st e)) _ (cost s v (demands_in p st g e)) _ k (value_is e (type.Pointer c) a clean (unnamed_left t (names e) (any_names es) u) g y k l)
        (λ j i. then_value _ _ (means v (terms_of p st es)) _ (cost s v (demands_in_all p st g es)) _ j (evals_are s v runs m typed st is written called t ls same line es tys b cleans (unnamed_right t (names e) (any_names es) u) g y j (omega (arith, i, l)))
        (λ r h. pointed_is (mean v (term_of p st e)) (means v (terms_of p st es)) r))
      where
        pointed_is : (d : Datum) (xs : List Datum) (r : ℕ) → value_of (pointed line d r >>= λ n k. gives (invocation n op xs) k) ≡ with_left (invocation (object_in d) op xs) (left (names_object d) r)
        pointed_is (Ref n) xs r = free (invocation n op xs) r
        pointed_is (Long n) xs r = refl
        pointed_is (Truth b) xs r = refl
        pointed_is Null xs r = refl

  -- Branches

  branches : (own_line : ℕ) (c : Expression) (a d : Statement) (st : State) (g : PlainTerm) (ls : List Datum) (l : List Invocation) (k : ℕ) → mean v g ≡ Truth true → ((u : PlainTerm) → mean v u ≡ Truth true → IsMeant st u ls l a k) → ((u : PlainTerm) → mean v u ≡ Truth true → IsMeant st u ls l d k) → (x : Datum) → mean v (term_of p st c) ≡ x → IsTruth x →
      state_of t (flows.choose x (run st ls l a k) (run st ls l d k)) ≡ with_left (meant (after p st (if_else own_line c a d)) (l ++ lists s v (demanded p st g (if_else own_line c a d)))) (left (cost s v (demanded p st (then_guard g (term_of p st c)) a ++ demanded p st (else_guard g (term_of p st c)) d)) k)
  branches own_line c a d st g ls l k y ha hd (Truth true) e u =
      let on : mean v (then_guard g (term_of p st c)) ≡ Truth true = ap₂ (operate And) y e in
      let out : is_true (mean v (else_guard g (term_of p st c))) ≡ false = ap₂ (λ x z. is_true (operate And x (signed sign.Not z))) y e in
      let idle : Off s v (demanded p st (else_guard g (term_of p st c)) d) = off_statement s v p st d (else_guard g (term_of p st c)) out in
      let long_locals : length (after p st a).locals ≡ length (after p st d).locals = (locals_kept p a st).long ∙ sym (locals_kept p d st).long in
      let long_fields : length (after p st a).fields ≡ length (after p st d).fields = (fields_kept p a st).long ∙ sym (fields_kept p d st).long in
      ha (then_guard g (term_of p st c)) on
      ∙ ap₂ (λ x z. with_left x (left z k))
      (sym (same_meant (after p st (if_else own_line c a d)) (after p st a) _ _
      (choices_true v (local_target a d) 0 (term_of p st c) (after p st a).locals (after p st d).locals long_locals e)
      (choices_true v (field_target a d) 0 (term_of p st c) (after p st a).fields (after p st d).fields long_fields e)
      (ap (λ z. l ++ z) (lists_append s v (demands_in p st g c) _ ∙ ap₂ (λ x z. x ++ z) (quiet s v p st c g) (lists_append s v (demanded p st (then_guard g (term_of p st c)) a) _ ∙ ap (λ z. lists s v (demanded p st (then_guard g (term_of p st c)) a) ++ z) idle.silent ∙ append-nil _)))))
      (sym (cost_append s v (demanded p st (then_guard g (term_of p st c)) a) _ ∙ ap (plus (cost s v (demanded p st (then_guard g (term_of p st c)) a))) idle.free ∙ plus_none _))
  branches own_line c a d st g ls l k y ha hd (Truth false) e u =
      let out : is_true (mean v (then_guard g (term_of p st c))) ≡ false = ap₂ (λ x z. is_true (operate And x z)) y e in
      let on : mean v (else_guard g (term_of p st c)) ≡ Truth true = ap₂ (λ x z. operate And x (signed sign.Not z)) y e in
      let idle : Off s v (demanded p st (then_guard g (term_of p st c)) a) = off_statement s v p st a (then_guard g (term_of p st c)) out in
      let long_locals : length (after p st a).locals ≡ length (after p st d).locals = (locals_kept p a st).long ∙ sym (locals_kept p d st).long in
      let long_fields : length (after p st a).fields ≡ length (after p st d).fields = (fields_kept p a st).long ∙ sym (fields_kept p d st).long in
      hd (else_guard g (term_of p st c)) on
      ∙ ap₂ (λ x z. with_left x (left z k))
      (sym (same_meant (after p st (if_else own_line c a d)) (after p st d) _ _
      (choices_false v (local_target a d) 0 (term_of p st c) (after p st a).locals (after p st d).locals long_locals e (λ n f. let z : (puts_local a n ≡ false) × (puts_local d n ≡ false) = or_parts (puts_local a n) (puts_local d n) (ap (local_target a d) (sym (zero-add n)) ∙ f) in (locals_kept p a st).other n z.0 ∙ sym ((locals_kept p d st).other n z.1)))
      (choices_false v (field_target a d) 0 (term_of p st c) (after p st a).fields (after p st d).fields long_fields e (λ n f. let z : (puts_field a n ≡ false) × (puts_field d n ≡ false) = or_parts (puts_field a n) (puts_field d n) (ap (field_target a d) (sym (zero-add n)) ∙ f) in (fields_kept p a st).other n z.0 ∙ sym ((fields_kept p d st).other n z.1)))
      (ap (λ z. l ++ z) (lists_append s v (demands_in p st g c) _ ∙ ap₂ (λ x z. x ++ z) (quiet s v p st c g) (lists_append s v (demanded p st (then_guard g (term_of p st c)) a) _ ∙ ap (λ z. z ++ lists s v (demanded p st (else_guard g (term_of p st c)) d)) idle.silent)))))
      (sym (cost_append s v (demanded p st (then_guard g (term_of p st c)) a) _ ∙ ap (λ z. plus z (cost s v (demanded p st (else_guard g (term_of p st c)) d))) idle.free ∙ none_plus _))
  branches own_line c a d st g ls l k y ha hd (Long n) e u = absurd u
  branches own_line c a d st g ls l k y ha hd Null e u = absurd u
  branches own_line c a d st g ls l k y ha hd (Ref n) e u = absurd u

  -- Items

  quiet_put : (st : State) (g : PlainTerm) (n : FieldId) (i e : Expression) → mean v g ≡ Truth true → lists s v (demands_in p st g i ++ (demand g (in_range n) (term_of p st i ∷ []) ∷ demands_in p st g e)) ≡ []
  quiet_put st g n i e y = lists_append s v (demands_in p st g i) _ ∙ ap₂ (λ x z. x ++ z) (quiet s v p st i g) (ap₂ (λ x z. x ++ z) (told s v g (in_range n) (term_of p st i ∷ []) y) (quiet s v p st e g))

  put_cost : (st : State) (g : PlainTerm) (n : FieldId) (i e : Expression) → mean v g ≡ Truth true →
      cost s v (demands_in p st g i ++ (demand g (in_range n) (term_of p st i ∷ []) ∷ demands_in p st g e)) ≡ plus (cost s v (demands_in p st g i)) (plus (is_index (length_in (field_info p n)) (mean v (term_of p st i))) (cost s v (demands_in p st g e)))
  put_cost st g n i e y = cost_append s v (demands_in p st g i) _ ∙ ap (λ z. plus (cost s v (demands_in p st g i)) (plus z (cost s v (demands_in p st g e)))) (asked s v g (in_range n) (term_of p st i ∷ []) y)

  -- Statements

  abbrev pub Fit : Bool → Statement → Type 0
  Fit called x = Fits s m written t all called x

  -- what is owed for the loops that stand: where the state stands, they do as they are meant
  abbrev pub LoopsAreMeant : (State → Type 0) → Type 0
  LoopsAreMeant Stands =
      (own : ℕ) (site : LoopId) (part : FirstPart) (first : Statement) (c : Expression) (next body : Statement) → Contains all (for_loop own site part first c next body) → (called : Bool) → Fit called (for_loop own site part first c next body) →
      (st : State) → StateTyped s v m st → Stands st → (g : PlainTerm) → mean v g ≡ Truth true → (ls : List Datum) → LocalsAre v t ls st.locals → (l : List Invocation) → (k : ℕ) → k ≤ s.steps → IsMeant st g ls l (for_loop own site part first c next body) k

  module _ (Stands : State → Type 0) (stands_behind : (x : Statement) (called : Bool) (st : State) → Fit called x → Stands st → Stands (after p st x)) (loops_are : LoopsAreMeant Stands) where
    put_item_is : (own_line : ℕ) (n : FieldId) (i : Expression) (op : AssignOp) (e : Expression) (called : Bool) → Fit called (put_item own_line n i op e) → (st : State) → StateTyped s v m st → (g : PlainTerm) → mean v g ≡ Truth true → (ls : List Datum) → LocalsAre v t ls st.locals → (l : List Invocation) (k : ℕ) → k ≤ s.steps → IsMeant st g ls l (put_item own_line n i op e) k
    put_item_is own_line n i op e called f st is g y ls same l k b =
        let d : Datum = mean v (term_of p st i) in
        let old : PlainTerm = term_at st.fields n.field in
        let new : PlainTerm = array_term p st n i op e in
        let item : Item = record { place = place_of d; value = item_meant v old (number_of d) } in
        let x : Datum = mean v (term_of p st e) in
        let range : Option ℕ = is_index (length_in (field_info p n)) d in
        let stored : Datum = assigned op (item_meant v old (number_of d)) x in
        let w : List Datum × Section = meant (after p st (put_item own_line n i op e)) (l ++ lists s v (demanded p st g (put_item own_line n i op e))) in
        let array : IsArray (slice_get fs n.field) f.typed.0 = own_field called st is ls same own_line n (λ o. IsArray o f.typed.0) f.typed.1.1 f.typed.2 in
        let long : length_in (slice_get fs n.field) ≡ length_in (field_info p n) = own_field called st is ls same own_line n (λ o. length_in o ≡ length_in (field_info p n)) f.typed.1.1 refl in
        let quiet_list : l ≡ l ++ lists s v (demanded p st g (put_item own_line n i op e)) = sym (ap (λ z. l ++ z) (quiet_put st g n i e y) ∙ append-nil l) in
        with_then t _ _ _ d w (cost s v (demands_in p st g i)) (plus range (cost s v (demands_in p st g e))) k (value_is called st is ls same own_line i type.Long f.typed.3 f.separated.1 (unnamed_left t (names i) (names e) f.apart) g y k b)
        (λ j h. with_some t _ _ _ item w range (cost s v (demands_in p st g e)) j
        (own_index s.heap v st.fields fs n.field f.typed.0 is.fields array own_line j d ∙ ap (λ o. with_left item (left (is_index o d) j)) long)
        (λ c within a z. with_then t _ _ _ x w (cost s v (demands_in p st g e)) (Some 0) a (value_is called st is ls same own_line e f.typed.0 f.typed.4.1 f.separated.2 (unnamed_right t (names i) (names e) f.apart) g y a (omega (arith, z, h, b)))
        (λ r q. ap (λ o. Some (o, r)) (ap₂ (λ o u. (o, u)) same (ap₂ (λ o u. record { own = o; listed = u })
        (put_at v st.fields fs n.field f.typed.0 (place_of d) stored old new array (term_there s.heap v st.fields fs n.field f.typed.0 is.fields array)
        (record { at = λ o. array_behind s v runs m typed written st is called n i op e f.typed.0 f.typed.1.1 f.typed.2 f.typed.4.0 f.typed.4.1 f.separated.2 o ∙ ap (λ u. cond (same_int u o) stored (item_meant v old o)) (in_range_place (length_in (field_info p n)) d c within) }))
        quiet_list)) ∙ free w r)
        ∙ ap (λ o. with_left w (left o a)) (plus_none _)))
        ∙ ap (λ o. with_left w (left o k)) (sym (put_cost st g n i e y))

    mutual
      pub exec_is : (x : Statement) (called : Bool) → Fit called x → (st : State) → StateTyped s v m st → Stands st → (g : PlainTerm) → mean v g ≡ Truth true → (ls : List Datum) → LocalsAre v t ls st.locals → (l : List Invocation) (k : ℕ) → k ≤ s.steps → IsMeant st g ls l x k
      exec_is (block own_line xs) called f st is at g y ls same l k b = exec_all_is xs called (in_block s m written t all called own_line xs f) st is at g y ls same l k b
      exec_is (put_local own_line n op e) called f st is at g y ls same l k b =
          let d : Datum = mean v (term_of p st e) in
          let w : List Datum × Section = meant (after p st (put_local own_line n op e)) (l ++ lists s v (demands_in p st g e)) in
          with_then t _ _ _ d w (cost s v (demands_in p st g e)) (Some 0) k (value_is called st is ls same own_line e f.typed.0 f.typed.2.1 f.separated (unnamed_right t (nat_eq n.0) (names e) f.apart) g y k b)
          (λ j i. ap (λ z. Some (z, j)) (ap₂ (λ x z. (x, record { own = slots_meant v st.fields fs; listed = z })) (local_put called st is ls same own_line n.0 op (term_of p st e) (shown t n.0 (unnamed_left t (nat_eq n.0) (names e) f.apart))) (no_list st l g e)) ∙ free w j)
          ∙ ap (λ c. with_left w (left c k)) (plus_none _)
      exec_is (put_field own_line n op e) called f st is at g y ls same l k b =
          let d : Datum = mean v (term_of p st e) in
          let w : List Datum × Section = meant (after p st (put_field own_line n op e)) (l ++ lists s v (demands_in p st g e)) in
          with_then t _ _ _ d w (cost s v (demands_in p st g e)) (Some 0) k (value_is called st is ls same own_line e f.typed.0 f.typed.3.1 f.separated.1 f.apart g y k b)
          (λ j i. ap (λ z. Some (z, j)) (ap₂ (λ x q. (x, q)) same (ap₂ (λ x z. record { own = x; listed = z }) (field_put called st is ls same own_line n f.typed.0 op (term_of p st e) (own_field called st is ls same own_line n (λ o. IsScalar o f.typed.0) f.typed.1.1 f.typed.2)) (no_list st l g e))) ∙ free w j)
          ∙ ap (λ c. with_left w (left c k)) (plus_none _)
      exec_is (put_item own_line n i op e) called f st is at g y ls same l k b =
          put_item_is own_line n i op e called f st is g y ls same l k b
      exec_is (invoke own_line e op es) called f st is at g y ls same l k b =
          let d : Datum = mean v (term_of p st e) in
          let i : Invocation = invocation (object_in d) op (means v (terms_of p st es)) in
          let two : List PlainDemand = demand g not_null (term_of p st e ∷ []) ∷ demand g (invokes op) (term_of p st e ∷ terms_in p st es) ∷ [] in
          let w : List Datum × Section = meant st (l ++ i ∷ []) in
          let listed : lists s v (demanded p st g (invoke own_line e op es)) ≡ i ∷ [] =
          lists_append s v (demands_in p st g e) _ ∙ ap₂ (λ x z. x ++ z) (quiet s v p st e g) (lists_append s v (demands_in_all p st g es) two ∙ ap₂ (λ x z. x ++ z) (quiet_all s v p st es g)
          (ap₂ (λ x z. x ++ (z ++ [])) (told s v g not_null (term_of p st e ∷ []) y) (told s v g (invokes op) (term_of p st e ∷ terms_in p st es) y) ∙ ap (λ xs. invocation (object_in d) op xs ∷ []) (sym (means_are v p st es)))) in
          let taken : cost s v (demanded p st g (invoke own_line e op es)) ≡ plus (plus (cost s v (demands_in p st g e)) (plus (cost s v (demands_in_all p st g es)) (names_object d))) (Some 0) =
          cost_append s v (demands_in p st g e) _ ∙ ap (plus (cost s v (demands_in p st g e))) (cost_append s v (demands_in_all p st g es) two ∙ ap (plus (cost s v (demands_in_all p st g es)))
          (ap₂ (λ x z. plus x (plus z (Some 0))) (asked s v g not_null (term_of p st e ∷ []) y) (asked s v g (invokes op) (term_of p st e ∷ terms_in p st es) y) ∙ plus_none _)) ∙ sym (plus_none _) in
          with_then t _ _ _ i w (plus (cost s v (demands_in p st g e)) (plus (cost s v (demands_in_all p st g es)) (names_object d))) (Some 0) k
          (due_is called st is ls same own_line e op es f.typed.0 f.typed.1 f.typed.4 f.typed.5 f.separated.0 f.separated.1 f.apart g y k b)
          (λ j c. ap (λ z. Some ((z, section_of st (l ++ i ∷ [])), j)) same ∙ free w j)
          ∙ ap₂ (λ x z. with_left x (left z k)) (ap (λ z. meant st (l ++ z)) (sym listed)) (sym taken)
      exec_is (if_else own_line c a d) called f st is at g y ls same l k b =
          let w : List Datum × Section = meant (after p st (if_else own_line c a d)) (l ++ lists s v (demanded p st g (if_else own_line c a d))) in
          let truth : HasType s.heap (mean v (term_of p st c)) type.Bool = mean_typed s v runs m typed st is written called c type.Bool f.typed.0 f.separated.0 in
          with_then t _ _ _ (mean v (term_of p st c)) w (cost s v (demands_in p st g c)) (cost s v (demanded p st (then_guard g (term_of p st c)) a ++ demanded p st (else_guard g (term_of p st c)) d)) k
          (value_is called st is ls same own_line c type.Bool f.typed.0 f.separated.0 (unnamed_left t (names c) (λ n. names_outside a n || names_outside d n) f.apart) g y k b)
          (λ j i. branches own_line c a d st g ls l j y
          (λ u z. exec_is a called (in_then s m written t all called own_line c a d f) st is at u z ls same l j (omega (arith, i, b)))
          (λ u z. exec_is d called (in_else s m written t all called own_line c a d f) st is at u z ls same l j (omega (arith, i, b)))
          (mean v (term_of p st c)) refl (truth_of s.heap (mean v (term_of p st c)) type.Bool truth refl))
          ∙ ap (λ z. with_left w (left z k)) (sym (cost_append s v (demands_in p st g c) _))
      exec_is (for_loop own_line site part first c next x) called f st is at g y ls same l k b =
          let loop : Statement = for_loop own_line site part first c next x in
          loops_are own_line site part first c next x (f.inside loop (Contains-append_left (loop ∷ []) (fors_in first ++ (fors_in next ++ fors_in x)) loop (Contains-push [] loop))) called f st is at g y ls same l k b
      exec_is (while_loop own_line c x) called f st is at g y ls same l k b = absurd (let e : Some own_line ≡ None = f.known in cc)
      exec_is (new_local own_line n c) called f st is at g y ls same l k b = absurd f.separated
      exec_is (new_field own_line n c) called f st is at g y ls same l k b = absurd f.separated
      exec_is (new_item own_line n i c) called f st is at g y ls same l k b = absurd f.separated
      exec_is (return_value own_line e) called f st is at g y ls same l k b = absurd (let r : Some f.typed.0 ≡ None = sym f.typed.1 ∙ typed.operation in cc)
      exec_is (print_value own_line e) called f st is at g y ls same l k b = absurd f.separated

      pub exec_all_is : (xs : Statements) (called : Bool) → FitAll s m written t all called xs → (st : State) → StateTyped s v m st → Stands st → (g : PlainTerm) → mean v g ≡ Truth true → (ls : List Datum) → LocalsAre v t ls st.locals → (l : List Invocation) (k : ℕ) → k ≤ s.steps →
          state_of t (exec_all (section_parts p s.heap (Ref s.receiver)) ls (section_of st l) xs k) ≡ with_left (meant (after_all p st xs) (l ++ lists s v (demanded_all p st g xs))) (left (cost s v (demanded_all p st g xs)) k)
      exec_all_is no_statements called f st is at g y ls same l k b =
          ap (λ z. Some ((z, section_of st l), k)) same ∙ free (meant st l) k ∙ ap (λ z. with_left (meant st z) (left (Some 0) k)) (sym (append-nil l))
      exec_all_is (statement_and x xs) called f st is at g y ls same l k b =
          let head : Fit called x = at_head s m written t all called x xs f in
          let n : List Invocation = l ++ lists s v (demanded p st g x) in
          let w : List Datum × Section = meant (after_all p (after p st x) xs) (l ++ lists s v (demanded_all p st g (statement_and x xs))) in
          let order : n ++ lists s v (demanded_all p (after p st x) g xs) ≡ l ++ lists s v (demanded_all p st g (statement_and x xs)) = append_assoc l (lists s v (demanded p st g x)) (lists s v (demanded_all p (after p st x) g xs)) ∙ ap (λ z. l ++ z) (sym (lists_append s v (demanded p st g x) _)) in
          on_then t _ _ (hidden t 0 (map (mean v) (after p st x).locals)) (section_of (after p st x) n) w (cost s v (demanded p st g x)) (cost s v (demanded_all p (after p st x) g xs)) k (exec_is x called head st is at g y ls same l k b)
          (λ hs held j i. exec_all_is xs (called || holds_call x) (in_tail s m written t all called x xs f) (after p st x) (typed_behind s v runs m typed written x called st is head.typed head.separated) (stands_behind x called st head at) g y hs held n j (omega (arith, i, b))
          ∙ ap (λ z. with_left (meant (after_all p (after p st x) xs) z) (left (cost s v (demanded_all p (after p st x) g xs)) j)) order)
          ∙ ap (λ c. with_left w (left c k)) (sym (cost_append s v (demanded p st g x) _))
