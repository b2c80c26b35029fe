-- Whatever a statement, a body, a class or a tree resolves to has its shape.
use Rattle.std.proofs.Common.{◌≡◌, ℕ, List, [], ◌∷◌, ◌++◌, length, refl, sym, subst}
use Rattle.std.specs.Prelude.{Option, Some, None, is_some}
use Rattle.ca_tree.specs.declared.name.Place.{Place}
use Rattle.ca_tree.specs.declared.tree.TypeNode.{TypeNode}
use Rattle.ca_tree.specs.declared.tree.AssignOp.{AssignOp}
use Rattle.ca_tree.specs.declared.tree.AssignOp.TheVariants.{Put}
use Rattle.ca_tree.specs.Plain.{Expression, RightSide, Statement, Statements, empty, block, local, assign, call_statement, if_only, if_else, while_loop, for_loop, return_value, print_value, no_statements, statement_and, MethodTree, MemberTree, ClassTree, TextTree, field_member, method_member}
use Rattle.ca_program.specs.declared.program.ValueType.{ValueType}
use Rattle.ca_program.specs.Plain as program
use Rattle.ca_program.specs.Plain.{PlainMethod, PlainProgram}
use Rattle.ca_resolve.specs.Judged.{Judged, fine, both, within, unless, beside, each}
use Rattle.ca_resolve.specs.Scopes.{Target, to_local, to_field, to_item, Ty, ty_of, find_local, classes_of}
use Rattle.ca_resolve.specs.Values.{place_of, in_order, judge_call}
use Rattle.ca_resolve.proofs.Holding.{Holds, within_holds, within_any, both_hold, unless_holds, beside_holds, any_holds, of_fine}
use Rattle.ca_types.specs.Rules.{local_once, called_operation, creates_nothing, prints_nothing, return_stands, local_limit, loop_limit, class_limit, class_once, member_once, ends_with_return}
use Rattle.ca_types.specs.Statements.{Env, enter_block, leave_block, counted, behind, behind_all, judge_type, Source, of_value, of_new, creates, judge_wanted, judge_right, put, judge_put_target, right_ty, judge_assign, judge_start, start_creates, judge_local, judge_call_statement, judge_condition, judge_return, judge_printed, judge_print, nothing, first_part, statements_in, judge_statement, judge_each, judge_statements}
use Rattle.ca_types.specs.Classes.{along, method_limit, method_begin, body_begin, judge_parameters, method_of, judge_result_type, judge_method, judge_field_member, MemberEnv, Member, a_field, a_method, Members, members_of, method_and, judge_member, behind_member, judge_members, class_begin, ClassEnv, judge_class, judge_named, behind_class, Parts, parts_of, judge_classes, first_class, main_begin, program_of, judge}
use Rattle.ca_lock_laws.specs.Paths.{IsPut, puts_local, puts_field, puts_item, creates_local, creates_field, creates_item, declared, assigned, printed}
use Rattle.ca_lock_laws.specs.Resolves.{Resolves, an_empty, a_line, a_call, a_return, a_block, an_if, an_else, a_while, a_for, AllResolve, none, and_all, operation_and, operations_in, operations_of, AllBodies, ProgramResolves}

-- ---- statements with no other inside

put_is : (line : ℕ) (t : Target) (op : AssignOp) (s : Source) → IsPut (put line t op s)
put_is line (to_local n) op (of_value e) = puts_local line n op e
put_is line (to_local n) op (of_new c) = creates_local line n c
put_is line (to_field f) op (of_value e) = puts_field line f op e
put_is line (to_field f) op (of_new c) = creates_field line f c
put_is line (to_item f i) op (of_value e) = puts_item line f i op e
put_is line (to_item f i) op (of_new c) = creates_item line f i c

module _ (c : Env) where
  local_shape : (at : Place) (ty : TypeNode) (name : List ℕ) (name_at : Place) (right : Option RightSide) → Holds (Resolves (local at ty name name_at right)) (judge_local c at ty name name_at right)
  local_shape at ty name name_at right =
      let wanted = ty_of c.scope.classes.names ty in
      let target = to_local (record { 0 = length c.locals }) in
      let created = creates_nothing c.result (start_creates right) at in
      let again = local_once c.first (find_local c.scope.locals name) name_at in
      let parts = beside (local_limit (length c.locals) name_at) (both (judge_type c.scope.classes.names ty) (judge_start c.scope wanted right)) in
      let P : program.Statement → Type 0 = Resolves (local at ty name name_at right) in
      within_any P parts (λ (p : ValueType × Source). beside created (unless again (put at.line target Put p.1)))
      (λ p. beside_holds P created (unless again (put at.line target Put p.1)) (unless_holds P again (put at.line target Put p.1) (a_line (declared at ty name name_at right (put_is at.line target Put p.1)))))

  assign_shape : (at : Place) (target : Expression) (op : AssignOp) (right : RightSide) → Holds (Resolves (assign at target op right)) (judge_assign c at (judge_put_target c op target) op right)
  assign_shape at target op right =
      let goal = judge_put_target c op target in
      let created = creates_nothing c.result (creates right) at in
      let P : program.Statement → Type 0 = Resolves (assign at target op right) in
      within_any P (both goal (judge_right c.scope (right_ty op goal) right)) (λ (p : (Target × Ty) × Source). unless created (put at.line p.0.0 op p.1))
      (λ p. unless_holds P created (put at.line p.0.0 op p.1) (a_line (assigned at target op right (put_is at.line p.0.0 op p.1))))

  call_shape : (at : Place) (e : Expression) → Holds (Resolves (call_statement at e)) (judge_call_statement c at e)
  call_shape at e =
      let P : program.Statement → Type 0 = Resolves (call_statement at e) in
      within_any P (judge_call c.scope e) (λ i. within (called_operation c.result i.callee (place_of e)) (λ o. fine (program.invoke at.line i.receiver o (in_order i.arguments))))
      (λ i. within_any P (called_operation c.result i.callee (place_of e)) (λ o. fine (program.invoke at.line i.receiver o (in_order i.arguments))) (λ o. a_call at e i.receiver o (in_order i.arguments)))

  return_shape : (at : Place) (e : Expression) → Holds (Resolves (return_value at e)) (judge_return c at e)
  return_shape at e =
      let P : program.Statement → Type 0 = Resolves (return_value at e) in
      within_any P (judge_wanted c.scope c.result e) (λ v. unless (return_stands c.result at) (program.return_value at.line v))
      (λ v. unless_holds P (return_stands c.result at) (program.return_value at.line v) (a_return at e v))

  print_shape : (at : Place) (e : Expression) → Holds (Resolves (print_value at e)) (judge_print c at e)
  print_shape at e =
      let P : program.Statement → Type 0 = Resolves (print_value at e) in
      within_any P (judge_printed c.scope e) (λ v. unless (prints_nothing c.result at) (program.print_value at.line v))
      (λ v. unless_holds P (prints_nothing c.result at) (program.print_value at.line v) (a_line (printed at e at.line v)))

-- ---- all statements

abbrev Shapes : Statements → List program.Statement → Type 0
Shapes ss xs = AllResolve ss (statements_in xs)

if_shape : (at : Place) (s : Statement) (P Q : program.Statement → Type 0) (i : Judged program.Expression) (j k : Judged program.Statement) → Holds P j → Holds Q k
    → ((e : program.Expression) (x y : program.Statement) → P x → Q y → Resolves s (program.if_else at.line e x y))
    → Holds (Resolves s) (within (both i (both j k)) (λ (p : program.Expression × (program.Statement × program.Statement)). fine (program.if_else at.line p.0 p.1.0 p.1.1)))
if_shape at s P Q i j k a b f =
    within_holds (λ (p : program.Expression × (program.Statement × program.Statement)). Unit {0} × (P p.1.0 × Q p.1.1)) (Resolves s) (both i (both j k)) (λ p. fine (program.if_else at.line p.0 p.1.0 p.1.1))
    (both_hold (λ e. Unit {0}) (λ (p : program.Statement × program.Statement). P p.0 × Q p.1) i (both j k) (any_holds i) (both_hold P Q j k a b)) (λ p h. f p.0 p.1.0 p.1.1 h.1.0 h.1.1)

-- without an `else` nothing is done
only_if : (at : Place) (e : Expression) (d : program.Expression) (s : Statement) (x y : program.Statement) → Resolves s x → y ≡ nothing at.line → Resolves (if_only at e s) (program.if_else at.line d x y)
only_if at e d s x y h g = subst (λ z. Resolves (if_only at e s) (program.if_else at.line d x z)) (sym g) (an_if at e d h)

mutual
  shape : (c : Env) (s : Statement) → Holds (Resolves s) (judge_statement c s)
  shape c (empty at) = an_empty at
  shape c (block at ss) = within_holds (Shapes ss) (Resolves (block at ss)) (judge_statements (enter_block c) ss) (λ xs. fine (program.block at.line (statements_in xs))) (shapes (enter_block c) ss) (λ xs h. a_block at h)
  shape c (local at ty name name_at right) = local_shape c at ty name name_at right
  shape c (assign at target op right) = assign_shape c at target op right
  shape c (call_statement at e) = call_shape c at e
  shape c (if_only at e s) =
      let otherwise : program.Statement → Type 0 = λ y. y ≡ nothing at.line in
      if_shape at (if_only at e s) (Resolves s) otherwise (judge_condition c.scope e) (judge_statement (enter_block c) s) (fine (nothing at.line)) (shape (enter_block c) s) refl (λ d x y h g. only_if at e d s x y h g)
  shape c (if_else at e a b) =
      let other = enter_block (leave_block c (behind (enter_block c) a)) in
      if_shape at (if_else at e a b) (Resolves a) (Resolves b) (judge_condition c.scope e) (judge_statement (enter_block c) a) (judge_statement other b) (shape (enter_block c) a) (shape other b) (λ d x y h g. an_else at e d h g)
  shape c (while_loop at e s) =
      let test = judge_condition c.scope e in
      let body = judge_statement (enter_block c) s in
      within_holds (λ (p : program.Expression × program.Statement). Unit {0} × Resolves s p.1) (Resolves (while_loop at e s)) (both test body) (λ p. fine (program.while_loop at.line p.0 p.1))
      (both_hold (λ d. Unit {0}) (Resolves s) test body (any_holds test) (shape (enter_block c) s)) (λ p h. a_while at e p.0 h.1)
  shape c (for_loop at first e next s) =
      let begin = enter_block (counted c) in
      let begun = behind begin first in
      let turn = enter_block (leave_block begun (behind (enter_block begun) next)) in
      let start = judge_statement begin first in
      let test = judge_condition begun.scope e in
      let step = judge_statement (enter_block begun) next in
      let body = judge_statement turn s in
      let limit = loop_limit c.loops at in
      let parts = both (both start test) (both step body) in
      let P : (program.Statement × program.Expression) × (program.Statement × program.Statement) → Type 0 = λ p. (Resolves first p.0.0 × Unit {0}) × (Resolves next p.1.0 × Resolves s p.1.1) in
      within_holds P (Resolves (for_loop at first e next s)) (beside limit parts) (λ p. fine (program.for_loop at.line (record { 0 = c.loops }) (first_part first) p.0.0 p.0.1 p.1.0 p.1.1))
      (beside_holds P limit parts
      (both_hold (λ (p : program.Statement × program.Expression). Resolves first p.0 × Unit {0}) (λ (p : program.Statement × program.Statement). Resolves next p.0 × Resolves s p.1) (both start test) (both step body)
      (both_hold (Resolves first) (λ d. Unit {0}) start test (shape begin first) (any_holds test)) (both_hold (Resolves next) (Resolves s) step body (shape (enter_block begun) next) (shape turn s))))
      (λ p h. a_for at e (record { 0 = c.loops }) (first_part first) p.0.1 h.0.0 h.1.0 h.1.1)
  shape c (return_value at e) = return_shape c at e
  shape c (print_value at e) = print_shape c at e

  shapes : (c : Env) (ss : Statements) → Holds (Shapes ss) (judge_statements c ss)
  shapes c no_statements = none
  shapes c (statement_and s ss) =
      let one = judge_statement c s in
      let more = each (judge_each (behind c s) ss) in
      within_holds (λ (p : program.Statement × List program.Statement). Resolves s p.0 × Shapes ss p.1) (Shapes (statement_and s ss)) (both one more) (λ p. fine (p.0 ∷ p.1))
      (both_hold (Resolves s) (Shapes ss) one more (shape c s) (shapes (behind c s) ss)) (λ p h. and_all h.0 h.1)

-- ---- methods

-- both have a result, or none
abbrev OneKind : Option TypeNode → Option ValueType → Type 0
OneKind None None = Unit {0}
OneKind (Some ty) (Some t) = Unit {0}
OneKind None (Some t) = ⊥
OneKind (Some ty) None = ⊥

abbrev MethodResolves : MethodTree → PlainMethod → Type 0
MethodResolves m x = OneKind m.result x.result × AllResolve m.body x.body.statements

kind : (names : List (List ℕ)) (r : Option TypeNode) → Holds (OneKind r) (judge_result_type names r)
kind names None = tt
kind names (Some ty) = within_any (OneKind (Some ty)) (judge_type names ty) (λ t. fine (Some t)) (λ t. tt)

method : (c : MemberEnv) (m : MethodTree) → Holds (MethodResolves m) (judge_method c m)
method c m =
    let result = judge_result_type c.classes.names m.result in
    let parameters = judge_parameters (method_begin c m) m.params in
    let body = judge_statements (body_begin c m) m.body in
    let limit = method_limit c.numbers m.result m.at in
    let once = member_once c.names c.number m.name m.at in
    let ends = ends_with_return (is_some m.result) m.body m.at in
    let P : Option ValueType × (Unit {0} × List program.Statement) → Type 0 = λ p. OneKind m.result p.0 × (Unit {0} × Shapes m.body p.1.1) in
    within_holds P (MethodResolves m) (beside limit (both result (both parameters body))) (λ p. beside once (unless ends (method_of c m p.0 p.1.1)))
    (beside_holds P limit (both result (both parameters body))
    (both_hold (OneKind m.result) (λ (p : Unit {0} × List program.Statement). Unit {0} × Shapes m.body p.1) result (both parameters body) (kind c.classes.names m.result)
    (both_hold (λ u. Unit {0}) (Shapes m.body) parameters body (any_holds parameters) (shapes (body_begin c m) m.body))))
    (λ p h. beside_holds (MethodResolves m) once (unless ends (method_of c m p.0 p.1.1)) (unless_holds (MethodResolves m) ends (method_of c m p.0 p.1.1) (h.0, h.1.1)))

-- ---- members

abbrev MemberResolves : MemberTree → Member → Type 0
MemberResolves (field_member f) (a_field i) = Unit {0}
MemberResolves (method_member m) (a_method x) = MethodResolves m x
MemberResolves (field_member f) (a_method x) = ⊥
MemberResolves (method_member m) (a_field i) = ⊥

member : (c : MemberEnv) (m : MemberTree) → Holds (MemberResolves m) (judge_member c m)
member c (field_member f) = within_any (MemberResolves (field_member f)) (judge_field_member c f) (λ i. fine (a_field i)) (λ i. tt)
member c (method_member m) = within_holds (MethodResolves m) (MemberResolves (method_member m)) (judge_method c m) (λ x. fine (a_method x)) (method c m) (λ x h. h)

with_method : (r : Option TypeNode) (q : Option ValueType) (m : MethodTree) (x : PlainMethod) (ms : List MethodTree) (a : Members) → OneKind r q → AllResolve m.body x.body.statements → AllBodies AllResolve ms a.ops
    → AllBodies AllResolve (operation_and r m ms) (method_and q x a).ops
with_method None None m x ms a k h more = (h, more)
with_method (Some ty) (Some t) m x ms a k h more = more
with_method None (Some t) m x ms a k h more = absurd k
with_method (Some ty) None m x ms a k h more = absurd k

with_member : (m : MemberTree) (y : Member) (ms : List MemberTree) (ys : List Member) → MemberResolves m y → AllBodies AllResolve (operations_in ms) (members_of ys).ops → AllBodies AllResolve (operations_in (m ∷ ms)) (members_of (y ∷ ys)).ops
with_member (field_member f) (a_field i) ms ys h more = more
with_member (method_member m) (a_method x) ms ys h more = with_method m.result x.result m x (operations_in ms) (members_of ys) h.0 h.1 more
with_member (field_member f) (a_method x) ms ys h more = absurd h
with_member (method_member m) (a_field i) ms ys h more = absurd h

abbrev OpsOf : List MemberTree → List Member → Type 0
OpsOf ms ys = AllBodies AllResolve (operations_in ms) (members_of ys).ops

each_member : (c : MemberEnv) (ms : List MemberTree) → Holds (OpsOf ms) (each (along behind_member judge_member c ms))
each_member c [] = tt
each_member c (m ∷ ms) =
    let one = judge_member c m in
    let more = each (along behind_member judge_member (behind_member c m) ms) in
    within_holds (λ (p : Member × List Member). MemberResolves m p.0 × OpsOf ms p.1) (OpsOf (m ∷ ms)) (both one more) (λ p. fine (p.0 ∷ p.1))
    (both_hold (MemberResolves m) (OpsOf ms) one more (member c m) (each_member (behind_member c m) ms)) (λ p h. with_member m p.0 ms p.1 h.0 h.1)

abbrev ClassResolves : List MemberTree → Members → Type 0
ClassResolves ms a = AllBodies AllResolve (operations_in ms) a.ops

members : (c : MemberEnv) (ms : List MemberTree) → Holds (ClassResolves ms) (judge_members c ms)
members c ms = within_holds (OpsOf ms) (ClassResolves ms) (each (along behind_member judge_member c ms)) (λ xs. fine (members_of xs)) (each_member c ms) (λ xs h. h)

-- ---- classes

class_shape : (c : ClassEnv) (t : ClassTree) → Holds (ClassResolves t.members) (judge_class c t)
class_shape c t =
    let limit = class_limit c.number t.at in
    let once = class_once c.classes.names c.number t.name t.at in
    let inside = judge_members (class_begin c t.members) t.members in
    within_holds (ClassResolves t.members) (ClassResolves t.members) (beside limit inside) (λ p. unless once p)
    (beside_holds (ClassResolves t.members) limit inside (members (class_begin c t.members) t.members)) (λ p h. unless_holds (ClassResolves t.members) once p h)

abbrev NamedResolves : ClassTree → List ℕ × Members → Type 0
NamedResolves t n = ClassResolves t.members n.1

named : (c : ClassEnv) (t : ClassTree) → Holds (NamedResolves t) (judge_named c t)
named c t = within_holds (ClassResolves t.members) (NamedResolves t) (judge_class c t) (λ m. fine (t.name, m)) (class_shape c t) (λ m h. h)

joined : (ms ns : List MethodTree) (xs ys : List PlainMethod) → AllBodies AllResolve ms xs → AllBodies AllResolve ns ys → AllBodies AllResolve (ms ++ ns) (xs ++ ys)
joined [] ns [] ys h g = g
joined [] ns (x ∷ xs) ys h g = absurd h
joined (m ∷ ms) ns [] ys h g = absurd h
joined (m ∷ ms) ns (x ∷ xs) ys h g = (h.0, joined ms ns xs ys h.1 g)

abbrev AllOps : List ClassTree → List (List ℕ × Members) → Type 0
AllOps ts ns = AllBodies AllResolve (operations_of ts) (parts_of ns).ops

each_class : (c : ClassEnv) (ts : List ClassTree) → Holds (AllOps ts) (each (along behind_class judge_named c ts))
each_class c [] = tt
each_class c (t ∷ ts) =
    let one = judge_named c t in
    let more = each (along behind_class judge_named (behind_class c t) ts) in
    within_holds (λ (p : (List ℕ × Members) × List (List ℕ × Members)). NamedResolves t p.0 × AllOps ts p.1) (AllOps (t ∷ ts)) (both one more) (λ p. fine (p.0 ∷ p.1))
    (both_hold (NamedResolves t) (AllOps ts) one more (named c t) (each_class (behind_class c t) ts)) (λ p h. joined (operations_in t.members) (operations_of ts) p.0.1.ops (parts_of p.1).ops h.0 h.1)

abbrev PartsResolve : List ClassTree → Parts → Type 0
PartsResolve ts a = AllBodies AllResolve (operations_of ts) a.ops

classes : (c : ClassEnv) (ts : List ClassTree) → Holds (PartsResolve ts) (judge_classes c ts)
classes c ts = within_holds (AllOps ts) (PartsResolve ts) (each (along behind_class judge_named c ts)) (λ cs. fine (parts_of cs)) (each_class c ts) (λ cs h. h)

-- ---- the whole

whole : (t : TextTree) → Holds (ProgramResolves t) (judge t)
whole t =
    let parts = judge_classes (first_class (classes_of t.classes)) t.classes in
    let body = judge_statements (main_begin t) t.main in
    within_holds (λ (p : Parts × List program.Statement). PartsResolve t.classes p.0 × Shapes t.main p.1) (ProgramResolves t) (both parts body) (λ p. fine (program_of (behind_all (main_begin t) t.main).locals p))
    (both_hold (PartsResolve t.classes) (Shapes t.main) parts body (classes (first_class (classes_of t.classes)) t.classes) (shapes (main_begin t) t.main)) (λ p h. record { operations = h.0; main = h.1 })

pub program_resolves : (t : TextTree) (p : PlainProgram) → judge t ≡ fine p → ProgramResolves t p
program_resolves t p e = of_fine (ProgramResolves t) (judge t) p (whole t) e
