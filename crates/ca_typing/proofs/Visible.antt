-- An expression that is judged fine names locals that are visible where it stands, and no others.
use Rattle.std.proofs.Common.{◌≡◌, ◌⊎◌, inl, inr, ℕ, List, [], ◌∷◌, Bool, true, false, ◌||◌, cond, refl, subst, ap, ◌∙◌}
use Rattle.std.specs.Prelude.{Option, Some, None, length}
use Rattle.std.proofs.lemmas.Bool.{eqb-true, eq-eqb, or_cases}
use Rattle.std.proofs.lemmas.Option.{same_Some}
use Rattle.ca_tree.specs.declared.name.Place.{Place}
use Rattle.ca_tree.specs.Plain.{Expression, Expressions, number, truth, null, this, named, call, field, method, index, unary, binary, no_expressions, expression_and}
use Rattle.ca_program.specs.declared.program.FieldId.{FieldId}
use Rattle.ca_program.specs.declared.program.FunctionId.{FunctionId}
use Rattle.ca_program.specs.Plain as program
use Rattle.ca_parallel.specs.Scoped.{names, any_names}
use Rattle.ca_resolve.specs.declared.codes.TheConstants.{WRONG_CALL}
use Rattle.ca_resolve.specs.Judged.{Judged, fine, both, within, unless, broken, each}
use Rattle.ca_resolve.specs.Scopes.{Ty, long, pointer, no_object, Callee, operation, function, Meaning, scalar, items, VisibleLocal, Scope, Found, a_value, an_array, Target, to_local, to_field, to_item, Invocation, find_local, own_member, same_name}
use Rattle.ca_resolve.specs.Scopes as scopes
use Rattle.ca_resolve.specs.Rules.{member_known, receiver_member, operand_agrees, operands_agree, value_agrees, as_many, unary_ty, binary_ty, is_value_method, has_index, is_array, this_known, is_target, is_item_target}
use Rattle.ca_resolve.specs.Values.{place_of, field_of, item_of, in_order, member_read, judge_named, judge_this, as_value, judge_field, own_method, method_through, count_of, parameters_of, rest_of, value_for, judge_invocation, call_value, object_of, value_of, judge_found, judge_arguments, judge_value, judge_for, judge_call, judge_target}
use Rattle.ca_typing.proofs.Judging.{same_fine, within_fine, made_fine, both_fine, unless_fine}

pub pick : {A B C : Type 0} → A ⊎ B → (A → C) → (B → C) → C
pick (inl a) f g = f a
pick (inr b) f g = g b

-- one of the locals has this number
abbrev pub Visible : List VisibleLocal → ℕ → Type 0
Visible [] n = ⊥
Visible (l ∷ ls) n = (l.id.0 ≡ n) ⊎ Visible ls n

visible_found : (ls : List VisibleLocal) (name : List ℕ) (l : VisibleLocal) → find_local ls name ≡ Some l → Visible ls l.id.0
visible_found [] name l h = absurd cc
visible_found (v ∷ ls) name l h = one (λ k. visible_found ls name l k) (same_name v.name name) h
  where
    one : (find_local ls name ≡ Some l → Visible ls l.id.0) → (b : Bool) → cond b (Some v) (find_local ls name) ≡ Some l → Visible (v ∷ ls) l.id.0
    one rest true h = inl (ap (λ (x : VisibleLocal). x.id.0) (same_Some v l h))
    one rest false h = inr (rest h)

module _ (s : Scope) where
  -- it names visible locals alone
  abbrev pub Names : program.Expression → Type 0
  Names e = (n : ℕ) → names e n ≡ true → Visible s.locals n

  abbrev pub AllName : program.Expressions → Type 0
  AllName es = (n : ℕ) → any_names es n ≡ true → Visible s.locals n

  abbrev FoundNames : Found → Type 0
  FoundNames (a_value e t) = Names e
  FoundNames (an_array o f t) = Names o

  abbrev pub InvocationNames : Invocation → Type 0
  InvocationNames i = Names i.receiver × AllName (in_order i.arguments)

  none : (e : program.Expression) → ((n : ℕ) → names e n ≡ false) → Names e
  none e h n k = let w = h n in absurd cc

  two : (a b : ℕ → Bool) → ((n : ℕ) → a n ≡ true → Visible s.locals n) → ((n : ℕ) → b n ≡ true → Visible s.locals n) → (n : ℕ) → (a n || b n) ≡ true → Visible s.locals n
  two a b f g n h = pick (or_cases (a n) (b n) h) (f n) (g n)

  field_names : (o : program.Expression) (f : FieldId) → Names o → Names (field_of o f)
  field_names program.this f h n k = absurd cc
  field_names other f h n k = h n k

  item_names : (o : program.Expression) (f : FieldId) (i : program.Expression) → Names o → Names i → Names (item_of o f i)
  item_names program.this f i h g n k = g n k
  item_names other f i h g n k = two (names other) (names i) h g n k

  read_names : (o : program.Expression) (m : Meaning) (at : Place) (f : Found) → Names o → member_read o m at ≡ fine f → FoundNames f
  read_names o (scalar g t) at f h e = subst FoundNames (same_fine (a_value (field_of o g) t) f e) (field_names o g h)
  read_names o (items g t) at f h e = subst FoundNames (same_fine (an_array o g t) f e) h
  read_names o (scopes.method callee params) at f h e = absurd cc

  this_names : Names program.this
  this_names n k = absurd cc

  index_names : (f : Found) (at : Place) (v : program.Expression × Ty) → FoundNames f → has_index f at ≡ fine v → Names v.0
  index_names (a_value e t) at v h k = subst (λ (x : program.Expression × Ty). Names x.0) (same_fine (e, t) v k) h
  index_names (an_array o f t) at v h k = absurd cc

  value_from : (e : Expression) (j : Judged Found) (v : program.Expression × Ty) → ((f : Found) → j ≡ fine f → FoundNames f) → value_of e j ≡ fine v → Names v.0
  value_from e j v known h =
      let w = within_fine j (λ f. has_index f (place_of e)) v h in
      index_names w.0 (place_of e) v (known w.0 w.1) w.2

  for_names : (ts : List Ty) (j : Judged (program.Expression × Ty)) (at : Place) (x : program.Expression) → ((v : program.Expression × Ty) → j ≡ fine v → Names v.0) → value_for ts j at ≡ fine x → Names x
  for_names [] j at x known h = let w = made_fine j (λ (r : program.Expression × Ty). r.0) x h in subst Names w.2 (known w.0 w.1)
  for_names (t ∷ ts) j at x known h =
      let w = within_fine j (λ (r : program.Expression × Ty). unless (value_agrees t r.1 at) r.0) x h in
      subst Names (unless_fine (value_agrees t w.0.1 at) w.0.0 x w.2) (known w.0 w.1)

  item_found : (a : Found) (i : program.Expression) (at : Place) (f : Found) → FoundNames a → Names i
      → within (is_array a at) (λ (b : program.Expression × FieldId × Ty). fine (a_value (item_of b.0 b.1 i) b.2)) ≡ fine f → FoundNames f
  item_found (a_value e t) i at f h k l = absurd cc
  item_found (an_array o g t) i at f h k l = subst FoundNames (same_fine (a_value (item_of o g i) t) f l) (item_names o g i h k)

  called_names : (at : Place) (c : Judged Invocation) (f : Found) → ((i : Invocation) → c ≡ fine i → InvocationNames i) → call_value at c ≡ fine f → FoundNames f
  called_names at c f known h =
      let w = within_fine c (λ (v : Invocation). within (is_value_method v.callee at) (λ (g : FunctionId × Ty). fine (a_value (program.value_call v.receiver g.0 (in_order v.arguments)) g.1))) f h in
      let i = w.0 in
      let u = made_fine (is_value_method i.callee at) (λ (g : FunctionId × Ty). a_value (program.value_call i.receiver g.0 (in_order i.arguments)) g.1) f w.2 in
      let t = known i w.1 in
      let both_named : Names (program.value_call i.receiver u.0.0 (in_order i.arguments)) = λ n k. two (names i.receiver) (any_names (in_order i.arguments)) t.0 t.1 n k in
      subst FoundNames u.2 both_named

  named_names : (l : Option VisibleLocal) (name : List ℕ) (at : Place) (f : Found) → find_local s.locals name ≡ l → judge_named s l name at ≡ fine f → FoundNames f
  named_names (Some l) name at f e h =
      let v = visible_found s.locals name l e in
      let one : Names (program.local l.id) = λ n k. subst (Visible s.locals) (eqb-true l.id.0 n k) v in
      subst FoundNames (same_fine (a_value (program.local l.id) l.ty) f h) one
  named_names None name at f e h =
      let w = within_fine (member_known (own_member s name) at) (λ m. member_read program.this m at) f h in
      read_names program.this w.0 at f this_names w.2

  this_found : (at : Place) (f : Found) → within (judge_this s at) as_value ≡ fine f → FoundNames f
  this_found at f h =
      let w = within_fine (judge_this s at) as_value f h in
      let u = made_fine (this_known s.class at) (λ c. (program.this, pointer c)) w.0 w.1 in
      let e : a_value program.this (pointer u.0) ≡ f = ap (λ (v : program.Expression × Ty). a_value v.0 v.1) u.2 ∙ same_fine (a_value w.0.0 w.0.1) f w.2 in
      subst FoundNames e this_names

  field_found : (j : Judged (program.Expression × Ty)) (name : List ℕ) (at : Place) (f : Found) → ((v : program.Expression × Ty) → j ≡ fine v → Names v.0) → judge_field s j name at ≡ fine f → FoundNames f
  field_found j name at f known h =
      let w = within_fine j (λ (r : program.Expression × Ty). within (receiver_member s.classes r.1 name at) (λ m. member_read r.0 m at)) f h in
      let u = within_fine (receiver_member s.classes w.0.1 name at) (λ m. member_read w.0.0 m at) f w.2 in
      read_names w.0.0 u.0 at f (known w.0 w.1) u.2

  object_names : (j : Judged (program.Expression × Ty)) (x : program.Expression) → ((v : program.Expression × Ty) → j ≡ fine v → Names v.0) → object_of j ≡ fine x → Names x
  object_names j x known h = let w = made_fine j (λ (r : program.Expression × Ty). r.0) x h in subst Names w.2 (known w.0 w.1)

  invocation_names : (receiver : Judged program.Expression) (callee : Judged (Callee × List Ty)) (js : List (Judged program.Expression)) (at : Place) (i : Invocation)
      → ((x : program.Expression) → receiver ≡ fine x → Names x) → ((es : List program.Expression) → each js ≡ fine es → AllName (in_order es)) → judge_invocation receiver callee js at ≡ fine i → InvocationNames i
  invocation_names receiver callee js at i one all h =
      let w = within_fine (both receiver (each js)) (λ (r : program.Expression × List program.Expression).
      within callee (λ (c : Callee × List Ty). unless (as_many (length r.1) (length c.1) at) (record { receiver = r.0; callee = c.0; arguments = r.1 }))) i h in
      let b = both_fine receiver (each js) w.0 w.1 in
      let u = within_fine callee (λ (c : Callee × List Ty). unless (as_many (length w.0.1) (length c.1) at) (record { receiver = w.0.0; callee = c.0; arguments = w.0.1 })) i w.2 in
      let it : Invocation = record { receiver = w.0.0; callee = u.0.0; arguments = w.0.1 } in
      subst InvocationNames (unless_fine (as_many (length w.0.1) (length u.0.1) at) it i u.2) (one w.0.0 b.0, all w.0.1 b.1)

  mutual
    pub found_names : (e : Expression) (f : Found) → judge_found s e ≡ fine f → FoundNames f
    found_names (number at n) f h = subst FoundNames (same_fine (a_value (program.number n) long) f h) (none (program.number n) (λ m. refl))
    found_names (truth at b) f h = subst FoundNames (same_fine (a_value (program.truth b) scopes.truth) f h) (none (program.truth b) (λ m. refl))
    found_names (null at) f h = subst FoundNames (same_fine (a_value program.null no_object) f h) (none program.null (λ m. refl))
    found_names (this at) f h = this_found at f h
    found_names (named at name) f h = named_names (find_local s.locals name) name at f refl h
    found_names (call at name args) f h =
        called_names at (judge_invocation (fine program.this) (own_method s name at) (judge_arguments s (parameters_of (own_method s name at) (count_of args)) args) at) f
        (λ i k. invocation_names (fine program.this) (own_method s name at) (judge_arguments s (parameters_of (own_method s name at) (count_of args)) args) at i
        (λ x l. subst Names (same_fine program.this x l) this_names) (λ es l. arguments_names args (parameters_of (own_method s name at) (count_of args)) es l) k) h
    found_names (field at e name) f h = field_found (value_of e (judge_found s e)) name at f (λ v k. value_from e (judge_found s e) v (λ g l. found_names e g l) k) h
    found_names (method at e name args) f h =
        let object = value_of e (judge_found s e) in
        called_names at (judge_invocation (object_of object) (method_through s object name at) (judge_arguments s (parameters_of (method_through s object name at) (count_of args)) args) at) f
        (λ i k. invocation_names (object_of object) (method_through s object name at) (judge_arguments s (parameters_of (method_through s object name at) (count_of args)) args) at i
        (λ x l. object_names object x (λ v m. value_from e (judge_found s e) v (λ g o. found_names e g o) m) l)
        (λ es l. arguments_names args (parameters_of (method_through s object name at) (count_of args)) es l) k) h
    found_names (index at e i) f h =
        let item = value_for (long ∷ []) (value_of i (judge_found s i)) (place_of i) in
        let w = within_fine (both (judge_found s e) item) (λ (r : Found × program.Expression). within (is_array r.0 at) (λ (a : program.Expression × FieldId × Ty). fine (a_value (item_of a.0 a.1 r.1) a.2))) f h in
        let b = both_fine (judge_found s e) item w.0 w.1 in
        item_found w.0.0 w.0.1 at f (found_names e w.0.0 b.0)
        (for_names (long ∷ []) (value_of i (judge_found s i)) (place_of i) w.0.1 (λ v k. value_from i (judge_found s i) v (λ g l. found_names i g l) k) b.1) w.2
    found_names (unary at op e) f h =
        let w = within_fine (value_of e (judge_found s e)) (λ (v : program.Expression × Ty). unless (operand_agrees op v.1 at) (a_value (program.unary op v.0) (unary_ty op))) f h in
        let v : Names (program.unary op w.0.0) = value_from e (judge_found s e) w.0 (λ g l. found_names e g l) w.1 in
        subst FoundNames (unless_fine (operand_agrees op w.0.1 at) (a_value (program.unary op w.0.0) (unary_ty op)) f w.2) v
    found_names (binary at op a b) f h =
        let left = value_of a (judge_found s a) in
        let right = value_of b (judge_found s b) in
        let w = within_fine (both left right) (λ (r : (program.Expression × Ty) × (program.Expression × Ty)). unless (operands_agree op r.0.1 r.1.1 at) (a_value (program.binary op r.0.0 r.1.0) (binary_ty op))) f h in
        let parts = both_fine left right w.0 w.1 in
        let x = value_from a (judge_found s a) w.0.0 (λ g l. found_names a g l) parts.0 in
        let y = value_from b (judge_found s b) w.0.1 (λ g l. found_names b g l) parts.1 in
        let all : Names (program.binary op w.0.0.0 w.0.1.0) = λ n k. two (names w.0.0.0) (names w.0.1.0) x y n k in
        subst FoundNames (unless_fine (operands_agree op w.0.0.1 w.0.1.1 at) (a_value (program.binary op w.0.0.0 w.0.1.0) (binary_ty op)) f w.2) all

    arguments_names : (args : Expressions) (params : List Ty) (es : List program.Expression) → each (judge_arguments s params args) ≡ fine es → AllName (in_order es)
    arguments_names no_expressions params es h = subst (λ xs. AllName (in_order xs)) (same_fine [] es h) (λ n k. absurd cc)
    arguments_names (expression_and e rest) params es h =
        let first = value_for params (value_of e (judge_found s e)) (place_of e) in
        let w = made_fine (both first (each (judge_arguments s (rest_of params) rest))) (λ (r : program.Expression × List program.Expression). r.0 ∷ r.1) es h in
        let b = both_fine first (each (judge_arguments s (rest_of params) rest)) w.0 w.1 in
        let x = for_names params (value_of e (judge_found s e)) (place_of e) w.0.0 (λ v k. value_from e (judge_found s e) v (λ g u. found_names e g u) k) b.0 in
        let xs = arguments_names rest (rest_of params) w.0.1 b.1 in
        subst (λ ys. AllName (in_order ys)) w.2 (λ n k. two (names w.0.0) (any_names (in_order w.0.1)) x xs n k)

  pub value_names : (e : Expression) (v : program.Expression × Ty) → judge_value s e ≡ fine v → Names v.0
  value_names e v h = value_from e (judge_found s e) v (λ g l. found_names e g l) h

  pub for_value_names : (ts : List Ty) (e : Expression) (at : Place) (x : program.Expression) → value_for ts (judge_value s e) at ≡ fine x → Names x
  for_value_names ts e at x h = for_names ts (judge_value s e) at x (λ v k. value_names e v k) h

  pub call_names : (e : Expression) (i : Invocation) → judge_call s e ≡ fine i → InvocationNames i
  call_names (call at name args) i h =
      invocation_names (fine program.this) (own_method s name at) (judge_arguments s (parameters_of (own_method s name at) (count_of args)) args) at i
      (λ x l. subst Names (same_fine program.this x l) this_names) (λ es l. arguments_names args (parameters_of (own_method s name at) (count_of args)) es l) h
  call_names (method at e name args) i h =
      let object = judge_value s e in
      invocation_names (object_of object) (method_through s object name at) (judge_arguments s (parameters_of (method_through s object name at) (count_of args)) args) at i
      (λ x l. object_names object x (λ v m. value_names e v m) l) (λ es l. arguments_names args (parameters_of (method_through s object name at) (count_of args)) es l) h
  call_names e i h = let w = within_fine (judge_value s e) (λ v. broken (place_of e) WRONG_CALL) i h in absurd (cc (w.2))

  -- a target names a visible local, and its index names visible ones
  abbrev pub TargetNames : Target → Type 0
  TargetNames (to_local l) = Visible s.locals l.0
  TargetNames (to_field f) = Unit {0}
  TargetNames (to_item f i) = Names i

  one_target : (f : Found) (at : Place) (t : Target × Ty) → FoundNames f → is_target f at ≡ fine t → TargetNames t.0
  one_target (a_value (program.local l) ty) at t h k =
      let v : Visible s.locals l.0 = h l.0 (eq-eqb l.0 l.0 refl) in
      subst (λ (x : Target × Ty). TargetNames x.0) (same_fine (to_local l, ty) t k) v
  one_target (a_value (program.own f) ty) at t h k = subst (λ (x : Target × Ty). TargetNames x.0) (same_fine (to_field f, ty) t k) tt
  one_target other at t h k = absurd cc

  item_target : (f : Found) (i : program.Expression) (at : Place) (t : Target × Ty) → Names i → is_item_target f i at ≡ fine t → TargetNames t.0
  item_target (an_array program.this f ty) i at t h k = subst (λ (x : Target × Ty). TargetNames x.0) (same_fine (to_item f i, ty) t k) h
  item_target other i at t h k = absurd cc

  plain_target : (e : Expression) (t : Target × Ty) → within (judge_found s e) (λ f. is_target f (place_of e)) ≡ fine t → TargetNames t.0
  plain_target e t h =
      let w = within_fine (judge_found s e) (λ f. is_target f (place_of e)) t h in
      one_target w.0 (place_of e) t (found_names e w.0 w.1) w.2

  pub target_names : (e : Expression) (t : Target × Ty) → judge_target s e ≡ fine t → TargetNames t.0
  target_names (index at e i) t h =
      let w = within_fine (both (judge_found s e) (judge_for s long i)) (λ (p : Found × program.Expression). is_item_target p.0 p.1 at) t h in
      let b = both_fine (judge_found s e) (judge_for s long i) w.0 w.1 in
      item_target w.0.0 w.0.1 at t (for_value_names (long ∷ []) i (place_of i) w.0.1 b.1) w.2
  target_names e t h = plain_target e t h
