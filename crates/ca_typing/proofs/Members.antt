-- Members of a class that are judged fine: what their names mean is in the program, and their bodies are typed.
use Rattle.std.proofs.Common.{◌≡◌, ℕ, ℤ, ◌+◌, List, [], ◌∷◌, ◌++◌, Bool, true, false, cond, length, map, refl, sym, subst, ap, ◌∙◌}
use Rattle.std.specs.Prelude.{Option, Some, None, is_some, slice_get, IsSome}
use Rattle.std.specs.List.{AllByRecursion}
use Rattle.std.specs.Map.{lookup}
use Rattle.std.proofs.lemmas.List.{append_assoc, length_push}
use Rattle.std.proofs.lemmas.Option.{same_Some}
use Rattle.ca_lists.proofs.Places.{all_append}
use Rattle.ca_tree.specs.declared.tree.TypeNode.{TypeNode}
use Rattle.ca_tree.specs.declared.tree.FieldNode.{FieldNode}
use Rattle.ca_tree.specs.Plain.{MethodTree, MemberTree, field_member, method_member}
use Rattle.ca_program.specs.declared.program.ClassId.{ClassId}
use Rattle.ca_program.specs.declared.program.FieldInfo.{FieldInfo}
use Rattle.ca_program.specs.declared.program.ValueType.{ValueType}
use Rattle.ca_program.specs.Plain.{PlainProgram, PlainMethod}
use Rattle.ca_model.specs.Heaps.{fields_of}
use Rattle.ca_meaning.specs.WellTyped.{parameters_of}
use Rattle.ca_meaning.specs.ProgramTyped.{IsClass, IsFunction, IsOperation, IsScalar, IsArray, MethodTyped, OperationTyped, FunctionTyped, LastReturns}
use Rattle.ca_resolve.specs.Judged.{Judged, fine, both, unless, beside}
use Rattle.ca_resolve.specs.Scopes.{Ty, ty_of, Meaning, Numbers, field_meaning, callee_meaning, meaning_of, after_member, after_members, meanings, member_name, same_name}
use Rattle.ca_resolve.specs.Scopes as scopes
use Rattle.ca_types.specs.Rules.{member_once, field_limit, length_limit, length_stands}
use Rattle.ca_types.specs.Statements.{judge_type, type_of}
use Rattle.ca_types.specs.Classes.{MemberEnv, Members, item_count, judge_field_member, result_ty, judge_method, behind_member, behind_members}
use Rattle.ca_types.specs.clauses.Adding.{gathered, with_field, with_method, add_member}
use Rattle.ca_typing.proofs.Fits.{MemberFits}
use Rattle.ca_typing.proofs.Lists.{Begins, begins_itself, begins_through, begins_behind, item_there}
use Rattle.ca_typing.proofs.Judging.{same_fine, within_fine, made_fine, both_fine, unless_fine, beside_fine, gathered_fine}
use Rattle.ca_typing.proofs.Types.{type_declared}
use Rattle.ca_typing.proofs.Values.{AllDeclared, MeaningTyped, ClassesTyped}
use Rattle.ca_typing.proofs.Statements.{ResultTyped}
use Rattle.ca_typing.proofs.Methods.{method_fine, parameter_tys, signature_typed, result_is, result_typed, method_typed, method_returns}

-- what each name of a class means is typed
abbrev pub RowTyped : PlainProgram → ClassId → List (List ℕ × Meaning) → Type 0
RowTyped p k [] = Unit {0}
RowTyped p k (e ∷ es) = MeaningTyped p k e.1 × RowTyped p k es

pub row_at : (p : PlainProgram) (k : ClassId) (row : List (List ℕ × Meaning)) (name : List ℕ) (m : Meaning) → RowTyped p k row → lookup (λ n. same_name n name) row ≡ Some m → MeaningTyped p k m
row_at p k [] name m t h = absurd (cc)
row_at p k (e ∷ es) name m t h = one (λ l. row_at p k es name m t.1 l) (same_name e.0 name) h
  where
    one : (lookup (λ n. same_name n name) es ≡ Some m → MeaningTyped p k m) → (b : Bool) → cond b (Some e.1) (lookup (λ n. same_name n name) es) ≡ Some m → MeaningTyped p k m
    one rest true h = subst (MeaningTyped p k) (same_Some e.1 m h) t.0
    one rest false h = rest h

pub members_strict : (s : MemberEnv) (j : Judged Members) (m : MemberTree) (b : Members) → add_member s j m ≡ fine b → (a : Members) × (j ≡ fine a)
members_strict s j (field_member f) b h =
    let w = made_fine (both j (judge_field_member s f)) (λ (r : Members × FieldInfo). with_field r.0 r.1) b h in
    (w.0.0, (both_fine j (judge_field_member s f) w.0 w.1).0)
members_strict s j (method_member m) b h =
    let w = made_fine (both j (judge_method s m)) (λ (r : Members × PlainMethod). with_method r.0 r.1.result r.1) b h in
    (w.0.0, (both_fine j (judge_method s m) w.0 w.1).0)

pub field_added : (c : MemberEnv) (a b : Members) (f : FieldNode) → add_member c (fine a) (field_member f) ≡ fine b → (i : FieldInfo) × (judge_field_member c f ≡ fine i) × (with_field a i ≡ b)
field_added c a b f h =
    let w = made_fine (both (fine a) (judge_field_member c f)) (λ (r : Members × FieldInfo). with_field r.0 r.1) b h in
    let d = both_fine (fine a) (judge_field_member c f) w.0 w.1 in
    (w.0.1, d.1, ap (λ x. with_field x w.0.1) (same_fine a w.0.0 d.0) ∙ w.2)

pub method_added : (c : MemberEnv) (a b : Members) (m : MethodTree) → add_member c (fine a) (method_member m) ≡ fine b → (x : PlainMethod) × (judge_method c m ≡ fine x) × (with_method a x.result x ≡ b)
method_added c a b m h =
    let w = made_fine (both (fine a) (judge_method c m)) (λ (r : Members × PlainMethod). with_method r.0 r.1.result r.1) b h in
    let d = both_fine (fine a) (judge_method c m) w.0 w.1 in
    (w.0.1, d.1, ap (λ x. with_method x w.0.1.result w.0.1) (same_fine a w.0.0 d.0) ∙ w.2)

-- each list of the second begins with that of the first
pub record MembersBegin (a b : Members) : Type 0 where
  pub fields : Begins a.fields b.fields
  pub ops : Begins a.ops b.ops
  pub functions : Begins a.functions b.functions

begin_themselves : (a : Members) → MembersBegin a a
begin_themselves a = record { fields = begins_itself a.fields; ops = begins_itself a.ops; functions = begins_itself a.functions }

begin_through : (a b c : Members) → MembersBegin a b → MembersBegin b c → MembersBegin a c
begin_through a b c h k = record {
  fields = begins_through a.fields b.fields c.fields h.fields k.fields;
  ops = begins_through a.ops b.ops c.ops h.ops k.ops;
  functions = begins_through a.functions b.functions c.functions h.functions k.functions;
}

method_begins : (a : Members) (r : Option ValueType) (m : PlainMethod) → MembersBegin a (with_method a r m)
method_begins a None m = record { fields = begins_itself a.fields; ops = (m ∷ [], refl); functions = begins_itself a.functions }
method_begins a (Some t) m = record { fields = begins_itself a.fields; ops = begins_itself a.ops; functions = (m ∷ [], refl) }

member_begins : (c : MemberEnv) (a b : Members) (m : MemberTree) → add_member c (fine a) m ≡ fine b → MembersBegin a b
member_begins c a b (field_member f) h =
    let w = field_added c a b f h in
    let one : MembersBegin a (with_field a w.0) = record { fields = (w.0 ∷ [], refl); ops = begins_itself a.ops; functions = begins_itself a.functions } in
    subst (MembersBegin a) w.2 one
member_begins c a b (method_member m) h = let w = method_added c a b m h in subst (MembersBegin a) w.2 (method_begins a w.0.result w.0)

pub members_begin : (c : MemberEnv) (a all : Members) (ms : List MemberTree) → gathered behind_member add_member c (fine a) ms ≡ fine all → MembersBegin a all
members_begin c a all [] h = subst (MembersBegin a) (same_fine a all h) (begin_themselves a)
members_begin c a all (m ∷ ms) h =
    let w = gathered_fine behind_member add_member members_strict c a m ms all h in
    begin_through a w.0 all (member_begins c a w.0 m w.1) (members_begin (behind_member c m) w.0 all ms w.2)

pub numbers_behind : (c : MemberEnv) (ms : List MemberTree) → (behind_members c ms).numbers ≡ after_members c.numbers ms
numbers_behind c [] = refl
numbers_behind c (m ∷ ms) = numbers_behind (behind_member c m) ms

-- behind the methods of other classes, the numbers of a standing are those of the next field, operation and value method
pub record Numbered (other_ops other_functions : List PlainMethod) (n : Numbers) (a : Members) : Type 0 where
  pub fields : length a.fields ≡ n.field
  pub ops : length (other_ops ++ a.ops) ≡ n.operation
  pub functions : length (other_functions ++ a.functions) ≡ n.function

one_more : {A : Type 0} (front xs : List A) (x : A) (n : ℕ) → length (front ++ xs) ≡ n → length (front ++ (xs ++ x ∷ [])) ≡ n + 1
one_more front xs x n h = ap length (sym (append_assoc front xs (x ∷ []))) ∙ (length_push (front ++ xs) x ∙ ap (λ m. m + 1) h)

module _ (p : PlainProgram) (ops functions : List PlainMethod) where
  abbrev In : Members → Type 0
  In all = Begins (ops ++ all.ops) p.ops × Begins (functions ++ all.functions) p.functions

  -- a method that is judged fine, by its result
  method_meaning : (c : MemberEnv) (a all : Members) (m : MethodTree) (x : PlainMethod) (r : Option ValueType) (ty : Option TypeNode) → x.result ≡ r → ResultTyped (result_ty c.classes.names ty) r
      → AllDeclared (parameter_tys c.classes.names m.params) × (parameters_of x ≡ map type_of (parameter_tys c.classes.names m.params)) × (x.class ≡ c.class)
      → Numbered ops functions c.numbers a → MembersBegin (with_method a r x) all → In all
      → MeaningTyped p c.class (scopes.method (callee_meaning c.classes.names c.numbers ty) (parameter_tys c.classes.names m.params)) × Numbered ops functions (scopes.after_method c.numbers ty) (with_method a r x)
  method_meaning c a all m x None None e t s n g i =
      let longer = begins_through (ops ++ (a.ops ++ x ∷ [])) (ops ++ all.ops) p.ops (begins_behind ops (a.ops ++ x ∷ []) all.ops g.ops) i.0 in
      let here = item_there (ops ++ a.ops) p.ops x (subst (λ xs. Begins xs p.ops) (sym (append_assoc ops a.ops (x ∷ []))) longer) in
      let there : slice_get p.ops c.numbers.operation ≡ Some x = ap (slice_get p.ops) (sym n.ops) ∙ here in
      let typed = subst (λ o. IsOperation o c.class (map type_of (parameter_tys c.classes.names m.params))) (sym there) (s.2, s.1) in
      ((s.0, typed), record { fields = n.fields; ops = one_more ops a.ops x c.numbers.operation n.ops; functions = n.functions })
  method_meaning c a all m x (Some r) (Some ty) e t s n g i =
      let longer = begins_through (functions ++ (a.functions ++ x ∷ [])) (functions ++ all.functions) p.functions (begins_behind functions (a.functions ++ x ∷ []) all.functions g.functions) i.1 in
      let here = item_there (functions ++ a.functions) p.functions x (subst (λ xs. Begins xs p.functions) (sym (append_assoc functions a.functions (x ∷ []))) longer) in
      let there : slice_get p.functions c.numbers.function ≡ Some x = ap (slice_get p.functions) (sym n.functions) ∙ here in
      let result : x.result ≡ Some (type_of (ty_of c.classes.names ty)) = e ∙ ap (λ (u : ValueType). Some u) (sym t.1) in
      let typed = subst (λ o. IsFunction o c.class (map type_of (parameter_tys c.classes.names m.params)) (type_of (ty_of c.classes.names ty))) (sym there) (s.2, s.1, result) in
      ((s.0, t.0, typed), record { fields = n.fields; ops = n.ops; functions = one_more functions a.functions x c.numbers.function n.functions })
  method_meaning c a all m x None (Some ty) e t s n g i = absurd t
  method_meaning c a all m x (Some r) None e t s n g i = absurd t

  field_meant : (c : MemberEnv) (name : List ℕ) (ty : TypeNode) (l : Option ℤ) (i : FieldInfo) (t : ValueType) → judge_type c.classes.names ty ≡ fine t → record { name = name; ty = t; length = item_count l } ≡ i
      → slice_get (fields_of (slice_get p.classes c.class.0)) c.numbers.field ≡ Some i → MeaningTyped p c.class (field_meaning c.classes.names c.class.0 c.numbers ty (is_some l))
  field_meant c name ty None i t h e there =
      let d = type_declared c.classes.names ty t h in
      let typed = subst (λ o. IsScalar o (type_of (ty_of c.classes.names ty))) (sym there) (ap (λ (j : FieldInfo). j.ty) (sym e) ∙ sym d.1, ap (λ (j : FieldInfo). j.length) (sym e)) in
      (refl, d.0, typed)
  field_meant c name ty (Some n) i t h e there =
      let d = type_declared c.classes.names ty t h in
      let some : IsSome i.length = ap (λ (j : FieldInfo). is_some j.length) (sym e) in
      let typed = subst (λ o. IsArray o (type_of (ty_of c.classes.names ty))) (sym there) (ap (λ (j : FieldInfo). j.ty) (sym e) ∙ sym d.1, some) in
      (refl, d.0, typed)

  field_meaning_typed : (c : MemberEnv) (f : FieldNode) (i : FieldInfo) → judge_field_member c f ≡ fine i → slice_get (fields_of (slice_get p.classes c.class.0)) c.numbers.field ≡ Some i
      → MeaningTyped p c.class (field_meaning c.classes.names c.class.0 c.numbers f.ty (is_some f.length))
  field_meaning_typed c f i h there =
      let typed = judge_type c.classes.names f.ty in
      let few = field_limit c.numbers.field f.at in
      let short = length_limit f.length f.at in
      let once = member_once c.names c.number f.name f.at in
      let stands = length_stands f.length f.at in
      let w = within_fine (beside few (beside short typed)) (λ t. beside once (unless stands (record { name = f.name; ty = t; length = item_count f.length }))) i h in
      let t = beside_fine short typed w.0 (beside_fine few (beside short typed) w.0 w.1).1 in
      let info : FieldInfo = record { name = f.name; ty = w.0; length = item_count f.length } in
      let made = unless_fine stands info i (beside_fine once (unless stands info) i w.2).1 in
      field_meant c f.name f.ty f.length i w.0 t.1 made there

  -- what the names of members mean, and the numbers behind them
  pub row_typed : (c : MemberEnv) (a all : Members) (ms : List MemberTree) → fields_of (slice_get p.classes c.class.0) ≡ all.fields → In all → Numbered ops functions c.numbers a
      → gathered behind_member add_member c (fine a) ms ≡ fine all → RowTyped p c.class (meanings c.classes.names c.class.0 c.numbers ms) × Numbered ops functions (behind_members c ms).numbers all
  row_typed c a all [] fs i n h = (tt, subst (Numbered ops functions c.numbers) (same_fine a all h) n)
  row_typed c a all (field_member f ∷ ms) fs i n h =
      let next = behind_member c (field_member f) in
      let w = gathered_fine behind_member add_member members_strict c a (field_member f) ms all h in
      let d = field_added c a w.0 f w.1 in
      let begins : MembersBegin (with_field a d.0) all = subst (λ b. MembersBegin b all) (sym d.2) (members_begin next w.0 all ms w.2) in
      let here : slice_get all.fields c.numbers.field ≡ Some d.0 = ap (slice_get all.fields) (sym n.fields) ∙ item_there a.fields all.fields d.0 begins.fields in
      let there = ap (λ xs. slice_get xs c.numbers.field) fs ∙ here in
      let numbered : Numbered ops functions next.numbers (with_field a d.0) = record { fields = length_push a.fields d.0 ∙ ap (λ k. k + 1) n.fields; ops = n.ops; functions = n.functions } in
      let rest = row_typed next w.0 all ms fs i (subst (Numbered ops functions next.numbers) d.2 numbered) w.2 in
      ((field_meaning_typed c f d.0 d.1 there, rest.0), rest.1)
  row_typed c a all (method_member m ∷ ms) fs i n h =
      let next = behind_member c (method_member m) in
      let w = gathered_fine behind_member add_member members_strict c a (method_member m) ms all h in
      let d = method_added c a w.0 m w.1 in
      let x = d.0 in
      let f = method_fine c m x d.1 in
      let result = result_is c m x f in
      let made : with_method a f.result x ≡ w.0 = ap (λ r. with_method a r x) (sym result) ∙ d.2 in
      let begins : MembersBegin (with_method a f.result x) all = subst (λ b. MembersBegin b all) (sym made) (members_begin next w.0 all ms w.2) in
      let typed = method_meaning c a all m x f.result m.result result (result_typed c.classes.names m.result f.result f.result_is) (signature_typed c m x f) n begins i in
      let rest = row_typed next w.0 all ms fs i (subst (Numbered ops functions next.numbers) made typed.1) w.2 in
      ((typed.0, rest.0), rest.1)

-- all methods of members are typed
pub record MembersTyped (p : PlainProgram) (a : Members) : Type 0 where
  pub ops : AllByRecursion (OperationTyped p) a.ops
  pub functions : AllByRecursion (FunctionTyped p) a.functions

module _ (p : PlainProgram) where
  method_adds : (names : List (List ℕ)) (a : Members) (x : PlainMethod) (r : Option ValueType) (ty : Option TypeNode) → x.result ≡ r → ResultTyped (result_ty names ty) r → MethodTyped p x
      → (is_some ty ≡ true → LastReturns x.body.statements) → MembersTyped p a → MembersTyped p (with_method a r x)
  method_adds names a x None None e t typed returns h = record { ops = all_append (OperationTyped p) a.ops (x ∷ []) h.ops (record { method = typed; result = e }, tt); functions = h.functions }
  method_adds names a x (Some r) (Some ty) e t typed returns h =
      record { ops = h.ops; functions = all_append (FunctionTyped p) a.functions (x ∷ []) h.functions (record { method = typed; type = r; result = e; returns = returns refl }, tt) }
  method_adds names a x None (Some ty) e t typed returns h = absurd t
  method_adds names a x (Some r) None e t typed returns h = absurd t

  pub members_typed : (c : MemberEnv) (a all : Members) (ms : List MemberTree) → ClassesTyped p c.classes → IsClass p c.class → AllByRecursion MemberFits ms → MembersTyped p a
      → gathered behind_member add_member c (fine a) ms ≡ fine all → MembersTyped p all
  members_typed c a all [] classes class fits typed h = subst (MembersTyped p) (same_fine a all h) typed
  members_typed c a all (field_member f ∷ ms) classes class fits typed h =
      let w = gathered_fine behind_member add_member members_strict c a (field_member f) ms all h in
      let d = field_added c a w.0 f w.1 in
      let one : MembersTyped p (with_field a d.0) = record { ops = typed.ops; functions = typed.functions } in
      members_typed (behind_member c (field_member f)) w.0 all ms classes class fits.1 (subst (MembersTyped p) d.2 one) w.2
  members_typed c a all (method_member m ∷ ms) classes class fits typed h =
      let w = gathered_fine behind_member add_member members_strict c a (method_member m) ms all h in
      let d = method_added c a w.0 m w.1 in
      let x = d.0 in
      let f = method_fine c m x d.1 in
      let result = result_is c m x f in
      let made : with_method a f.result x ≡ w.0 = ap (λ r. with_method a r x) (sym result) ∙ d.2 in
      let body = method_typed c m x f p classes class fits.0.1 in
      let one = method_adds c.classes.names a x f.result m.result result (result_typed c.classes.names m.result f.result f.result_is) body (λ k. method_returns c m x f k) typed in
      members_typed (behind_member c (method_member m)) w.0 all ms classes class fits.1 (subst (MembersTyped p) made one) w.2
