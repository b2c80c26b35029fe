-- The operations of a program that a tree resolves to name the counters of their loops inside these alone.
use Rattle.std.proofs.Common.{◌≡◌, List, [], ◌∷◌, ◌++◌, Option, Some, None, sym, subst, ◌∙◌, arith}
use Rattle.std.specs.Prelude.{Contains, length, slice_index_or}
use Rattle.std.proofs.lemmas.List.Elements.{Contains-append_cases}
use Rattle.std.proofs.lemmas.Bool.{false_from_ne_true}
use Rattle.ca_tree.specs.declared.tree.ParamNode.{ParamNode}
use Rattle.ca_tree.specs.Plain.{MethodTree, MemberTree, ClassTree, TextTree, field_member, method_member}
use Rattle.ca_program.specs.declared.program.ValueType.{ValueType}
use Rattle.ca_program.specs.Plain as program
use Rattle.ca_program.specs.Plain.{PlainProgram, PlainMethod}
use Rattle.ca_parallel.specs.Scoped.{any_names_outside, Scoped, OperationsScoped}
use Rattle.ca_resolve.specs.Judged.{fine, both}
use Rattle.ca_resolve.specs.Scopes.{ty_of, classes_of}
use Rattle.ca_types.specs.Statements.{Env, behind_all, statements_in, judge_statements}
use Rattle.ca_types.specs.Classes.{behind_parameters, behind_parameter, MemberEnv, body_begin, method_begin, judge_method, Members, behind_member, no_members, ClassEnv, class_begin, behind_class, Parts, no_parts, judge_classes, first_class, main_begin, program_of, judge}
use Rattle.ca_types.specs.clauses.Adding.{gathered, with_method, add_member, add_class}
use Rattle.ca_types.proofs.Gathered.{classes_gathered}
use Rattle.ca_typing.proofs.Judging.{same_fine, made_fine, both_fine, gathered_fine}
use Rattle.ca_typing.proofs.Methods.{method_fine}
use Rattle.ca_typing.proofs.Members.{members_strict, field_added, method_added}
use Rattle.ca_typing.proofs.Typing.{classes_strict, class_added}
use Rattle.ca_typing.proofs.Visible.{pick}
use Rattle.ca_typing.proofs.Statements.{from_none}
use Rattle.ca_typing.proofs.Scoping.{BoundedAt, declares, stays, none_stand, all_stand}

parameters_bounded : (c : Env) (ps : List ParamNode) → BoundedAt c → BoundedAt (behind_parameters c ps)
parameters_bounded c [] b = b
parameters_bounded c (p ∷ ps) b = parameters_bounded (behind_parameter c p) ps (declares c (ty_of c.scope.classes.names p.ty) p.name b).bounded

method_scoped : (c : MemberEnv) (m : MethodTree) (x : PlainMethod) → judge_method c m ≡ fine x → Scoped x.body.statements
method_scoped c m x h =
    let f = method_fine c m x h in
    let begin = body_begin c m in
    let b : BoundedAt begin = parameters_bounded (method_begin c m) m.params (λ n v. absurd v) in
    let t = all_stand begin begin m.body [] f.statements b (stays begin.scope.locals (length begin.locals) b) (none_stand begin) (from_none begin m.body f.statements f.statements_are) in
    subst (λ (y : PlainMethod). Scoped y.body.statements) f.is (λ n q. false_from_ne_true (any_names_outside (statements_in f.statements) n) (λ p. t.apart n q p))

-- all of these are
abbrev Each : List PlainMethod → Type 0
Each ms = (m : PlainMethod) → Contains ms m → Scoped m.body.statements

only : (x y : PlainMethod) → Contains (x ∷ []) y → x ≡ y
only x y (k, below, is) = let z : k ≡ 0 = omega (arith, below) in subst (λ n. slice_index_or (x ∷ []) n y ≡ y) z is

none_there : (y : PlainMethod) → Contains [] y → ⊥
none_there y (k, below, is) = omega (arith, below)

alone : (x m : PlainMethod) → Scoped x.body.statements → Contains (x ∷ []) m → Scoped m.body.statements
alone x m h c = subst (λ (y : PlainMethod). Scoped y.body.statements) (only x m c) h

both_of : (xs ys : List PlainMethod) → Each xs → Each ys → Each (xs ++ ys)
both_of xs ys f g m c = pick (Contains-append_cases xs ys m c) (f m) (g m)

method_adds : (a : Members) (r : Option ValueType) (x : PlainMethod) → Each a.ops → Scoped x.body.statements → Each (with_method a r x).ops
method_adds a None x f h = both_of a.ops (x ∷ []) f (λ m c. alone x m h c)
method_adds a (Some t) x f h = f

members_scoped : (c : MemberEnv) (a all : Members) (ms : List MemberTree) → Each a.ops → gathered behind_member add_member c (fine a) ms ≡ fine all → Each all.ops
members_scoped c a all [] f h = subst (λ (b : Members). Each b.ops) (same_fine a all h) f
members_scoped c a all (field_member x ∷ ms) f h =
    let w = gathered_fine behind_member add_member members_strict c a (field_member x) ms all h in
    let d = field_added c a w.0 x w.1 in
    members_scoped (behind_member c (field_member x)) w.0 all ms (subst (λ (b : Members). Each b.ops) d.2 f) w.2
members_scoped c a all (method_member x ∷ ms) f h =
    let w = gathered_fine behind_member add_member members_strict c a (method_member x) ms all h in
    let d = method_added c a w.0 x w.1 in
    members_scoped (behind_member c (method_member x)) w.0 all ms (subst (λ (b : Members). Each b.ops) d.2 (method_adds a d.0.result d.0 f (method_scoped c x d.0 d.1))) w.2

classes_scoped : (c : ClassEnv) (a all : Parts) (ts : List ClassTree) → Each a.ops → gathered behind_class add_class c (fine a) ts ≡ fine all → Each all.ops
classes_scoped c a all [] f h = subst (λ (b : Parts). Each b.ops) (same_fine a all h) f
classes_scoped c a all (t ∷ ts) f h =
    let w = gathered_fine behind_class add_class classes_strict c a t ts all h in
    let d = class_added c a w.0 t w.1 in
    let one = members_scoped (class_begin c t.members) no_members d.0 t.members (λ m k. absurd (none_there m k)) d.1 in
    classes_scoped (behind_class c t) w.0 all ts (subst (λ (b : Parts). Each b.ops) d.2 (both_of a.ops d.0.ops f one)) w.2

pub operations_are_scoped : (t : TextTree) (p : PlainProgram) → judge t ≡ fine p → OperationsScoped p
operations_are_scoped t p h =
    let classes = judge_classes (first_class (classes_of t.classes)) t.classes in
    let lines = judge_statements (main_begin t) t.main in
    let locals = (behind_all (main_begin t) t.main).locals in
    let w = made_fine (both classes lines) (λ (r : Parts × List program.Statement). program_of locals r) p h in
    let b = both_fine classes lines w.0 w.1 in
    subst OperationsScoped w.2 (classes_scoped (first_class (classes_of t.classes)) no_parts w.0.0 t.classes (λ m k. absurd (none_there m k)) (sym (classes_gathered (first_class (classes_of t.classes)) t.classes) ∙ b.0))
