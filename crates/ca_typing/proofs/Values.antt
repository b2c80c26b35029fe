-- An expression that is judged fine has each type of the program that its own stands for.
use Rattle.std.proofs.Common.{◌≡◌, ℕ, suc, List, [], ◌∷◌, Bool, true, false, cond, length, map, refl, sym, subst, ap, ◌∙◌, arith}
use Rattle.std.specs.Prelude.{Option, Some, None, slice_get, nat_eq}
use Rattle.std.proofs.lemmas.Bool.{eqb-true}
use Rattle.std.proofs.lemmas.Option.{same_Some}
use Rattle.ca_tree.specs.declared.name.Place.{Place}
use Rattle.ca_tree.specs.Plain.{Expression, Expressions, number, truth, null, this, named, call, field, method, index, unary, binary, no_expressions, expression_and}
use Rattle.ca_program.specs.declared.program.ClassId.{ClassId}
use Rattle.ca_program.specs.declared.program.FieldId.{FieldId}
use Rattle.ca_program.specs.declared.program.FunctionId.{FunctionId}
use Rattle.ca_program.specs.declared.program.ValueType.{ValueType}
use Rattle.ca_program.specs.declared.program.ValueType.TheVariants.{Long as LongValue, Pointer as PointerTo}
use Rattle.ca_program.specs.Plain as program
use Rattle.ca_program.specs.Plain.{PlainProgram}
use Rattle.ca_meaning.specs.ProgramTyped.{Scope as TypesOf, ExpressionTyped, ExpressionsTyped, IsScalar, IsArray, IsFunction, IsOperation, IsClass, field_info}
use Rattle.ca_resolve.specs.declared.codes.TheConstants.{THIS_IN_MAIN, TYPES_DISAGREE, UNKNOWN_NAME, WRONG_CALL, WRONG_COUNT}
use Rattle.ca_resolve.specs.Judged.{Judged, fine, both, within, unless, broken, each}
use Rattle.ca_resolve.specs.Scopes.{Ty, long, pointer, no_object, Callee, operation, function, Meaning, scalar, items, Classes, VisibleLocal, Scope, Found, a_value, an_array, Invocation, number_of, find_member, find_local, member_in, own_member, same_name}
use Rattle.ca_resolve.specs.Scopes as scopes
use Rattle.ca_resolve.specs.Rules.{member_known, is_method, receiver_member, operand_agrees, operands_agree, value_agrees, as_many, unary_ty, binary_ty, is_value_method, has_index, is_array, this_known, takes_unary, takes_binary, can_hold}
use Rattle.ca_resolve.specs.Values.{place_of, field_of, item_of, in_order, member_read, judge_named, judge_this, as_value, judge_field, own_method, method_through, count_of, parameters_of, rest_of, value_for, judge_invocation, call_value, object_of, value_of, judge_found, judge_arguments, judge_value, judge_call}
use Rattle.ca_types.specs.Statements.{type_of}
use Rattle.ca_typing.proofs.Fits.{NumbersFit, AllNumbersFit}
use Rattle.ca_typing.proofs.Judging.{same_fine, within_fine, made_fine, both_fine, found_fine, kept}
use Rattle.ca_typing.proofs.Types.{Holds, Declared, declared_holds, one_type, sides_typed, signed_typed, unary_declared, binary_declared}

abbrev pub AllDeclared : List Ty → Type 0
AllDeclared [] = Unit {0}
AllDeclared (t ∷ ts) = Declared t × AllDeclared ts

-- what the name of a member of the class means is there in the program, and has its types
abbrev pub MeaningTyped : PlainProgram → ClassId → Meaning → Type 0
MeaningTyped p c (scalar f t) = (f.class ≡ c) × Declared t × IsScalar (field_info p f) (type_of t)
MeaningTyped p c (items f t) = (f.class ≡ c) × Declared t × IsArray (field_info p f) (type_of t)
MeaningTyped p c (scopes.method (operation o) params) = AllDeclared params × IsOperation (slice_get p.ops o.0) c (map type_of params)
MeaningTyped p c (scopes.method (function f t) params) = AllDeclared params × Declared t × IsFunction (slice_get p.functions f.0) c (map type_of params) (type_of t)

pub record ClassesTyped (p : PlainProgram) (cs : Classes) : Type 0 where
  pub members : (c : ClassId) (name : List ℕ) (m : Meaning) → find_member cs c name ≡ Some m → MeaningTyped p c m
  pub names : (name : List ℕ) (n : ℕ) → number_of cs.names name ≡ Some n → IsClass p (record { 0 = n })

abbrev pub LocalTyped : List ValueType → VisibleLocal → Type 0
LocalTyped types l = Declared l.ty × (slice_get types l.id.0 ≡ Some (type_of l.ty))

abbrev pub LocalsTyped : List ValueType → List VisibleLocal → Type 0
LocalsTyped types [] = Unit {0}
LocalsTyped types (l ∷ ls) = LocalTyped types l × LocalsTyped types ls

-- the names of a scope have their types in a method or in `main`
pub record ScopeTyped (p : PlainProgram) (q : TypesOf) (s : Scope) : Type 0 where
  pub classes : ClassesTyped p s.classes
  pub class : s.class ≡ q.class
  pub locals : LocalsTyped q.locals s.locals

params_declared : (p : PlainProgram) (k : ClassId) (c : Callee) (params : List Ty) → MeaningTyped p k (scopes.method c params) → AllDeclared params
params_declared p k (operation o) params h = h.0
params_declared p k (function f t) params h = h.0

is_method_fine : (m : Meaning) (at : Place) (c : Callee × List Ty) → is_method m at ≡ fine c → m ≡ scopes.method c.0 c.1
is_method_fine (scopes.method callee params) at c h =
    let e : (callee, params) ≡ c = same_fine (callee, params) c h in
    ap (λ (d : Callee × List Ty). scopes.method d.0 d.1) e
is_method_fine (scalar f t) at c h = absurd (cc)
is_method_fine (items f t) at c h = absurd (cc)

is_function_fine : (c : Callee) (at : Place) (g : FunctionId × Ty) → is_value_method c at ≡ fine g → c ≡ function g.0 g.1
is_function_fine (function f t) at g h =
    let e : (f, t) ≡ g = same_fine (f, t) g h in
    ap (λ (d : FunctionId × Ty). function d.0 d.1) e
is_function_fine (operation o) at g h = absurd (cc)

-- a value for a target of a type
pub value_fits : (t : Ty) (ts : List Ty) (j : Judged (program.Expression × Ty)) (at : Place) (x : program.Expression) → value_for (t ∷ ts) j at ≡ fine x
    → (v : program.Expression × Ty) × (j ≡ fine v) × (can_hold t v.1 ≡ true) × (v.0 ≡ x)
value_fits t ts j at x h =
    let w = within_fine j (λ (r : program.Expression × Ty). unless (value_agrees t r.1 at) r.0) x h in
    let k = kept (can_hold t w.0.1) at TYPES_DISAGREE w.0.0 x w.2 in
    (w.0, w.1, k.0, k.1)

count_kept : (s : Scope) (params : List Ty) (args : Expressions) (es : List program.Expression) → each (judge_arguments s params args) ≡ fine es → length es ≡ count_of args
count_kept s params no_expressions es h = ap length (sym (same_fine [] es h))
count_kept s params (expression_and e rest) es h =
    let first = value_for params (value_of e (judge_found s e)) (place_of e) in
    let w = made_fine (both first (each (judge_arguments s (rest_of params) rest))) (λ (r : program.Expression × List program.Expression). r.0 ∷ r.1) es h in
    let b = both_fine first (each (judge_arguments s (rest_of params) rest)) w.0 w.1 in
    let n = count_kept s (rest_of params) rest w.0.1 b.1 in
    let l : length es ≡ suc (length w.0.1) = ap length (sym w.2) in
    omega (arith, n, l)

module _ (p : PlainProgram) (q : TypesOf) where
  abbrev pub ValueTyped : program.Expression × Ty → Type 0
  ValueTyped v = Holds v.1 (ExpressionTyped p q v.0)

  abbrev pub FoundTyped : Found → Type 0
  FoundTyped (a_value e t) = Holds t (ExpressionTyped p q e)
  FoundTyped (an_array o f t) = Declared t × ExpressionTyped p q o (PointerTo f.class) × IsArray (field_info p f) (type_of t)

  abbrev pub InvocationTyped : Invocation → Type 0
  InvocationTyped i = (k : ClassId) × (params : List Ty) × MeaningTyped p k (scopes.method i.callee params) × ExpressionTyped p q i.receiver (PointerTo k) × ExpressionsTyped p q (in_order i.arguments) (map type_of params)

  pub own_class : (c d : ClassId) → PointerTo c ≡ PointerTo d → q.class ≡ Some d → q.class ≡ Some c
  own_class c d e h = let f : d ≡ c = cc (e) in h ∙ ap (λ (k : ClassId). Some k) f

  field_typed : (o : program.Expression) (f : FieldId) (ty : ValueType) → ExpressionTyped p q o (PointerTo f.class) → IsScalar (field_info p f) ty → ExpressionTyped p q (field_of o f) ty
  field_typed program.this f ty h k = (own_class f.class h.0 h.1 h.2, k)
  field_typed other f ty h k = (h, k)

  item_typed : (o : program.Expression) (f : FieldId) (i : program.Expression) (ty : ValueType) → ExpressionTyped p q o (PointerTo f.class) → IsArray (field_info p f) ty → ExpressionTyped p q i LongValue
      → ExpressionTyped p q (item_of o f i) ty
  item_typed program.this f i ty h k l = (own_class f.class h.0 h.1 h.2, k, l)
  item_typed other f i ty h k l = (h, k, l)

  read_typed : (o : program.Expression) (c : ClassId) (m : Meaning) (at : Place) (f : Found) → ExpressionTyped p q o (PointerTo c) → MeaningTyped p c m → member_read o m at ≡ fine f → FoundTyped f
  read_typed o c (scalar g t) at f h k e =
      let o_typed = subst (λ (d : ClassId). ExpressionTyped p q o (PointerTo d)) (sym k.0) h in
      subst FoundTyped (same_fine (a_value (field_of o g) t) f e) (declared_holds t (ExpressionTyped p q (field_of o g)) k.1 (field_typed o g (type_of t) o_typed k.2))
  read_typed o c (items g t) at f h k e =
      let o_typed = subst (λ (d : ClassId). ExpressionTyped p q o (PointerTo d)) (sym k.0) h in
      subst FoundTyped (same_fine (an_array o g t) f e) (k.1, o_typed, k.2)
  read_typed o c (scopes.method callee params) at f h k e = absurd (cc)

  pub index_typed : (f : Found) (at : Place) (v : program.Expression × Ty) → FoundTyped f → has_index f at ≡ fine v → ValueTyped v
  index_typed (a_value e t) at v h k = subst ValueTyped (same_fine (e, t) v k) h
  index_typed (an_array o f t) at v h k = absurd (cc)

  -- the value of an expression, whose parts are typed
  pub value_from : (e : Expression) (j : Judged Found) (v : program.Expression × Ty) → ((f : Found) → j ≡ fine f → FoundTyped f) → value_of e j ≡ fine v → ValueTyped v
  value_from e j v typed h =
      let w = within_fine j (λ f. has_index f (place_of e)) v h in
      index_typed w.0 (place_of e) v (typed w.0 w.1) w.2

  pub held_typed : (t : Ty) (v : program.Expression × Ty) → Declared t → ValueTyped v → can_hold t v.1 ≡ true → ExpressionTyped p q v.0 (type_of t)
  held_typed t v d h k =
      let w = one_type t v.1 (λ ty. ty ≡ type_of t) (ExpressionTyped p q v.0) (declared_holds t (λ ty. ty ≡ type_of t) d refl) h k in
      subst (ExpressionTyped p q v.0) w.1 w.2

  pub for_typed : (t : Ty) (ts : List Ty) (j : Judged (program.Expression × Ty)) (at : Place) (x : program.Expression) → Declared t → ((v : program.Expression × Ty) → j ≡ fine v → ValueTyped v)
      → value_for (t ∷ ts) j at ≡ fine x → ExpressionTyped p q x (type_of t)
  for_typed t ts j at x d typed h =
      let w = value_fits t ts j at x h in
      subst (λ y. ExpressionTyped p q y (type_of t)) w.3 (held_typed t w.0 d (typed w.0 w.1) w.2)

  item_found : (a : Found) (i : program.Expression) (at : Place) (f : Found) → FoundTyped a → ExpressionTyped p q i LongValue
      → within (is_array a at) (λ (b : program.Expression × FieldId × Ty). fine (a_value (item_of b.0 b.1 i) b.2)) ≡ fine f → FoundTyped f
  item_found (a_value e t) i at f h k l = absurd (cc)
  item_found (an_array o g t) i at f h k l =
      subst FoundTyped (same_fine (a_value (item_of o g i) t) f l) (declared_holds t (ExpressionTyped p q (item_of o g i)) h.0 (item_typed o g i (type_of t) h.1 h.2 k))

  called_typed : (at : Place) (c : Judged Invocation) (f : Found) → ((i : Invocation) → c ≡ fine i → InvocationTyped i) → call_value at c ≡ fine f → FoundTyped f
  called_typed at c f typed h =
      let w = within_fine c (λ (v : Invocation). within (is_value_method v.callee at) (λ (g : FunctionId × Ty). fine (a_value (program.value_call v.receiver g.0 (in_order v.arguments)) g.1))) f h in
      let i = w.0 in
      let u = made_fine (is_value_method i.callee at) (λ (g : FunctionId × Ty). a_value (program.value_call i.receiver g.0 (in_order i.arguments)) g.1) f w.2 in
      let g = u.0 in
      let t = typed i w.1 in
      let m : MeaningTyped p t.0 (scopes.method (function g.0 g.1) t.1) = subst (λ (d : Callee). MeaningTyped p t.0 (scopes.method d t.1)) (is_function_fine i.callee at g u.1) t.2 in
      subst FoundTyped u.2 (declared_holds g.1 (ExpressionTyped p q (program.value_call i.receiver g.0 (in_order i.arguments))) m.1 (t.0, map type_of t.1, m.2, t.3, t.4))

  module _ (s : Scope) (scope : ScopeTyped p q s) where
    local_found : (ls : List VisibleLocal) (name : List ℕ) (l : VisibleLocal) → LocalsTyped q.locals ls → find_local ls name ≡ Some l → LocalTyped q.locals l
    local_found [] name l t h = absurd (cc)
    local_found (v ∷ ls) name l t h = one (λ k. local_found ls name l t.1 k) (same_name v.name name) h
      where
        one : (find_local ls name ≡ Some l → LocalTyped q.locals l) → (b : Bool) → cond b (Some v) (find_local ls name) ≡ Some l → LocalTyped q.locals l
        one rest true h = subst (LocalTyped q.locals) (same_Some v l h) t.0
        one rest false h = rest h

    own_member_in : (o : Option ClassId) (name : List ℕ) (m : Meaning) → o ≡ q.class → member_in s.classes o name ≡ Some m → (k : ClassId) × (q.class ≡ Some k) × MeaningTyped p k m
    own_member_in None name m e h = absurd (cc)
    own_member_in (Some k) name m e h = (k, sym e, scope.classes.members k name m h)

    own_member_typed : (name : List ℕ) (m : Meaning) → own_member s name ≡ Some m → (k : ClassId) × (q.class ≡ Some k) × MeaningTyped p k m
    own_member_typed name m h = own_member_in s.class name m scope.class h

    named_typed : (l : Option VisibleLocal) (name : List ℕ) (at : Place) (f : Found) → find_local s.locals name ≡ l → judge_named s l name at ≡ fine f → FoundTyped f
    named_typed (Some l) name at f e h =
        let t = local_found s.locals name l scope.locals e in
        subst FoundTyped (same_fine (a_value (program.local l.id) l.ty) f h) (declared_holds l.ty (ExpressionTyped p q (program.local l.id)) t.0 t.1)
    named_typed None name at f e h =
        let w = within_fine (member_known (own_member s name) at) (λ m. member_read program.this m at) f h in
        let m = own_member_typed name w.0 (found_fine (own_member s name) at UNKNOWN_NAME w.0 w.1) in
        read_typed program.this m.0 w.0 at f (m.0, refl, m.1) m.2 w.2

    this_typed : (at : Place) (f : Found) → within (judge_this s at) as_value ≡ fine f → FoundTyped f
    this_typed at f h =
        let w = within_fine (judge_this s at) as_value f h in
        let u = made_fine (this_known s.class at) (λ (c : ClassId). (program.this, pointer c)) w.0 w.1 in
        let k : q.class ≡ Some u.0 = sym scope.class ∙ found_fine s.class at THIS_IN_MAIN u.0 u.1 in
        let e : a_value program.this (pointer u.0) ≡ f = ap (λ (v : program.Expression × Ty). a_value v.0 v.1) u.2 ∙ same_fine (a_value w.0.0 w.0.1) f w.2 in
        subst FoundTyped e (u.0, refl, k)

    receiver_typed : (e : program.Expression) (t : Ty) (name : List ℕ) (at : Place) (m : Meaning) → Holds t (ExpressionTyped p q e) → receiver_member s.classes t name at ≡ fine m
        → (k : ClassId) × ExpressionTyped p q e (PointerTo k) × MeaningTyped p k m
    receiver_typed e (pointer c) name at m h k = (c, h, scope.classes.members c name m (found_fine (find_member s.classes c name) at UNKNOWN_NAME m k))
    receiver_typed e t name at m h k = absurd (cc)

    field_found : (j : Judged (program.Expression × Ty)) (name : List ℕ) (at : Place) (f : Found) → ((v : program.Expression × Ty) → j ≡ fine v → ValueTyped v) → judge_field s j name at ≡ fine f → FoundTyped f
    field_found j name at f typed h =
        let w = within_fine j (λ (r : program.Expression × Ty). within (receiver_member s.classes r.1 name at) (λ m. member_read r.0 m at)) f h in
        let u = within_fine (receiver_member s.classes w.0.1 name at) (λ m. member_read w.0.0 m at) f w.2 in
        let r = receiver_typed w.0.0 w.0.1 name at u.0 (typed w.0 w.1) u.1 in
        read_typed w.0.0 r.0 u.0 at f r.1 r.2 u.2

    -- what is known of the receiver and the method of a call
    abbrev Known : Judged program.Expression → Judged (Callee × List Ty) → Type 0
    Known receiver callee = (r : program.Expression) (c : Callee × List Ty) → receiver ≡ fine r → callee ≡ fine c → (k : ClassId) × ExpressionTyped p q r (PointerTo k) × MeaningTyped p k (scopes.method c.0 c.1)

    own_known : (name : List ℕ) (at : Place) → Known (fine program.this) (own_method s name at)
    own_known name at r c e h =
        let w = within_fine (member_known (own_member s name) at) (λ m. is_method m at) c h in
        let m = own_member_typed name w.0 (found_fine (own_member s name) at UNKNOWN_NAME w.0 w.1) in
        (m.0, subst (λ x. ExpressionTyped p q x (PointerTo m.0)) (same_fine program.this r e) (m.0, refl, m.1), subst (MeaningTyped p m.0) (is_method_fine w.0 at c w.2) m.2)

    through_known : (j : Judged (program.Expression × Ty)) (name : List ℕ) (at : Place) → ((v : program.Expression × Ty) → j ≡ fine v → ValueTyped v) → Known (object_of j) (method_through s j name at)
    through_known j name at typed r c e h =
        let o = made_fine j (λ (v : program.Expression × Ty). v.0) r e in
        let w = within_fine j (λ (v : program.Expression × Ty). within (receiver_member s.classes v.1 name at) (λ m. is_method m at)) c h in
        let same : w.0 ≡ o.0 = same_fine w.0 o.0 (sym w.1 ∙ o.1) in
        let u = within_fine (receiver_member s.classes w.0.1 name at) (λ m. is_method m at) c w.2 in
        let m = receiver_typed w.0.0 w.0.1 name at u.0 (typed w.0 w.1) u.1 in
        let is : w.0.0 ≡ r = ap (λ (v : program.Expression × Ty). v.0) same ∙ o.2 in
        (m.0, subst (λ x. ExpressionTyped p q x (PointerTo m.0)) is m.1, subst (MeaningTyped p m.0) (is_method_fine u.0 at c u.2) m.2)

    -- arguments for as many parameters are typed
    abbrev ArgumentsTyped : Expressions → Type 0
    ArgumentsTyped args = (params : List Ty) (es : List program.Expression) → AllDeclared params → length es ≡ length params → each (judge_arguments s params args) ≡ fine es
        → ExpressionsTyped p q (in_order es) (map type_of params)

    invocation_typed : (receiver : Judged program.Expression) (callee : Judged (Callee × List Ty)) (args : Expressions) (at : Place) (i : Invocation) → Known receiver callee → ArgumentsTyped args
        → judge_invocation receiver callee (judge_arguments s (parameters_of callee (count_of args)) args) at ≡ fine i → InvocationTyped i
    invocation_typed receiver callee args at i known typed h =
        let all = each (judge_arguments s (parameters_of callee (count_of args)) args) in
        let w = within_fine (both receiver all) (λ (r : program.Expression × List program.Expression).
        within callee (λ (c : Callee × List Ty). unless (as_many (length r.1) (length c.1) at) (record { receiver = r.0; callee = c.0; arguments = r.1 }))) i h in
        let b = both_fine receiver all w.0 w.1 in
        let u = within_fine callee (λ (c : Callee × List Ty). unless (as_many (length w.0.1) (length c.1) at) (record { receiver = w.0.0; callee = c.0; arguments = w.0.1 })) i w.2 in
        let c = u.0 in
        let it : Invocation = record { receiver = w.0.0; callee = c.0; arguments = w.0.1 } in
        let k = kept (nat_eq (length w.0.1) (length c.1)) at WRONG_COUNT it i u.2 in
        let n = count_kept s (parameters_of callee (count_of args)) args w.0.1 b.1 in
        let same : nat_eq (count_of args) (length c.1) ≡ true = subst (λ (m : ℕ). nat_eq m (length c.1) ≡ true) n k.0 in
        let params : parameters_of callee (count_of args) ≡ c.1 = ap (λ j. parameters_of j (count_of args)) u.1 ∙ ap (λ (b : Bool). cond b c.1 []) same in
        let m = known w.0.0 c b.0 u.1 in
        let es = typed c.1 w.0.1 (params_declared p m.0 c.0 c.1 m.2) (eqb-true (length w.0.1) (length c.1) k.0) (subst (λ ts. each (judge_arguments s ts args) ≡ fine w.0.1) params b.1) in
        subst InvocationTyped k.1 (m.0, c.1, m.2, m.1, es)

    mutual
      pub found_typed : (e : Expression) (f : Found) → NumbersFit e → judge_found s e ≡ fine f → FoundTyped f
      found_typed (number at n) f fits h = subst FoundTyped (same_fine (a_value (program.number n) long) f h) (refl, fits)
      found_typed (truth at b) f fits h = subst FoundTyped (same_fine (a_value (program.truth b) scopes.truth) f h) refl
      found_typed (null at) f fits h = subst FoundTyped (same_fine (a_value program.null no_object) f h) (λ c. (c, refl))
      found_typed (this at) f fits h = this_typed at f h
      found_typed (named at name) f fits h = named_typed (find_local s.locals name) name at f refl h
      found_typed (call at name args) f fits h =
          called_typed at (judge_invocation (fine program.this) (own_method s name at) (judge_arguments s (parameters_of (own_method s name at) (count_of args)) args) at) f
          (λ i k. invocation_typed (fine program.this) (own_method s name at) args at i (own_known name at) (λ params es d n l. arguments_typed args params es fits d n l) k) h
      found_typed (field at e name) f fits h =
          field_found (value_of e (judge_found s e)) name at f (λ v k. value_from e (judge_found s e) v (λ g l. found_typed e g fits l) k) h
      found_typed (method at e name args) f fits h =
          let object = value_of e (judge_found s e) in
          called_typed at (judge_invocation (object_of object) (method_through s object name at) (judge_arguments s (parameters_of (method_through s object name at) (count_of args)) args) at) f
          (λ i k. invocation_typed (object_of object) (method_through s object name at) args at i
          (through_known object name at (λ v l. value_from e (judge_found s e) v (λ g m. found_typed e g fits.0 m) l)) (λ params es d n l. arguments_typed args params es fits.1 d n l) k) h
      found_typed (index at e i) f fits h =
          let item = value_for (long ∷ []) (value_of i (judge_found s i)) (place_of i) in
          let w = within_fine (both (judge_found s e) item) (λ (r : Found × program.Expression). within (is_array r.0 at) (λ (a : program.Expression × FieldId × Ty). fine (a_value (item_of a.0 a.1 r.1) a.2))) f h in
          let b = both_fine (judge_found s e) item w.0 w.1 in
          item_found w.0.0 w.0.1 at f (found_typed e w.0.0 fits.0 b.0)
          (for_typed long [] (value_of i (judge_found s i)) (place_of i) w.0.1 tt (λ v k. value_from i (judge_found s i) v (λ g l. found_typed i g fits.1 l) k) b.1) w.2
      found_typed (unary at op e) f fits h =
          let w = within_fine (value_of e (judge_found s e)) (λ (v : program.Expression × Ty). unless (operand_agrees op v.1 at) (a_value (program.unary op v.0) (unary_ty op))) f h in
          let k = kept (takes_unary op w.0.1) at TYPES_DISAGREE (a_value (program.unary op w.0.0) (unary_ty op)) f w.2 in
          let v = value_from e (judge_found s e) w.0 (λ g l. found_typed e g fits l) w.1 in
          let d = unary_declared op in
          subst FoundTyped k.1 (declared_holds (unary_ty op) (ExpressionTyped p q (program.unary op w.0.0)) d.0 (d.1, signed_typed op w.0.1 (ExpressionTyped p q w.0.0) v k.0))
      found_typed (binary at op a b) f fits h =
          let left = value_of a (judge_found s a) in
          let right = value_of b (judge_found s b) in
          let w = within_fine (both left right) (λ (r : (program.Expression × Ty) × (program.Expression × Ty)). unless (operands_agree op r.0.1 r.1.1 at) (a_value (program.binary op r.0.0 r.1.0) (binary_ty op))) f h in
          let parts = both_fine left right w.0 w.1 in
          let k = kept (takes_binary op w.0.0.1 w.0.1.1) at TYPES_DISAGREE (a_value (program.binary op w.0.0.0 w.0.1.0) (binary_ty op)) f w.2 in
          let x = value_from a (judge_found s a) w.0.0 (λ g l. found_typed a g fits.0 l) parts.0 in
          let y = value_from b (judge_found s b) w.0.1 (λ g l. found_typed b g fits.1 l) parts.1 in
          subst FoundTyped k.1 (declared_holds (binary_ty op) (ExpressionTyped p q (program.binary op w.0.0.0 w.0.1.0)) (binary_declared op)
          (sides_typed op w.0.0.1 w.0.1.1 (ExpressionTyped p q w.0.0.0) (ExpressionTyped p q w.0.1.0) x y k.0))

      pub arguments_typed : (args : Expressions) (params : List Ty) (es : List program.Expression) → AllNumbersFit args → AllDeclared params → length es ≡ length params
          → each (judge_arguments s params args) ≡ fine es → ExpressionsTyped p q (in_order es) (map type_of params)
      arguments_typed no_expressions [] es fits d n h = subst (λ xs. ExpressionsTyped p q (in_order xs) []) (same_fine [] es h) refl
      arguments_typed no_expressions (t ∷ ts) es fits d n h = let l : length es ≡ 0 = ap length (sym (same_fine [] es h)) in absurd (cc)
      arguments_typed (expression_and e rest) [] es fits d n h =
          let l = count_kept s [] (expression_and e rest) es h in absurd (omega (arith, l, n))
      arguments_typed (expression_and e rest) (t ∷ ts) es fits d n h =
          let first = value_for (t ∷ ts) (value_of e (judge_found s e)) (place_of e) in
          let w = made_fine (both first (each (judge_arguments s ts rest))) (λ (r : program.Expression × List program.Expression). r.0 ∷ r.1) es h in
          let b = both_fine first (each (judge_arguments s ts rest)) w.0 w.1 in
          let l : suc (length w.0.1) ≡ suc (length ts) = ap length w.2 ∙ n in
          let m : length w.0.1 ≡ length ts = omega (arith, l) in
          let x = for_typed t ts (value_of e (judge_found s e)) (place_of e) w.0.0 d.0 (λ v k. value_from e (judge_found s e) v (λ g u. found_typed e g fits.0 u) k) b.0 in
          let xs = arguments_typed rest ts w.0.1 fits.1 d.1 m b.1 in
          subst (λ ys. ExpressionsTyped p q (in_order ys) (map type_of (t ∷ ts))) w.2 (type_of t, map type_of ts, refl, x, xs)

    pub value_typed : (e : Expression) (v : program.Expression × Ty) → NumbersFit e → judge_value s e ≡ fine v → ValueTyped v
    value_typed e v fits h = value_from e (judge_found s e) v (λ g l. found_typed e g fits l) h

    -- a call, whether it is a statement or a value
    pub call_typed : (e : Expression) (i : Invocation) → NumbersFit e → judge_call s e ≡ fine i → InvocationTyped i
    call_typed (call at name args) i fits h =
        invocation_typed (fine program.this) (own_method s name at) args at i (own_known name at) (λ params es d n l. arguments_typed args params es fits d n l) h
    call_typed (method at e name args) i fits h =
        let object = judge_value s e in
        invocation_typed (object_of object) (method_through s object name at) args at i (through_known object name at (λ v l. value_typed e v fits.0 l)) (λ params es d n l. arguments_typed args params es fits.1 d n l) h
    call_typed e i fits h = let w = within_fine (judge_value s e) (λ v. broken (place_of e) WRONG_CALL) i h in absurd (cc (w.2))
