-- The `for` statements of a program that a tree resolves to have the numbers of their words in the text.
use Rattle.std.proofs.Common.{◌≡◌, ◌≤◌, ℕ, suc, ◌+◌, List, [], ◌∷◌, ◌++◌, Option, Some, None, refl, sym, subst, ap, ◌∙◌, arith}
use Rattle.std.specs.Prelude.{flat_map, length}
use Rattle.std.proofs.lemmas.List.{append-nil}
use Rattle.std.proofs.lemmas.Grind.{flat_map-append}
use Rattle.ca_tree.specs.declared.name.Place.{Place}
use Rattle.ca_tree.specs.declared.tree.TypeNode.{TypeNode}
use Rattle.ca_tree.specs.declared.tree.ParamNode.{ParamNode}
use Rattle.ca_tree.specs.declared.tree.AssignOp.{AssignOp}
use Rattle.ca_tree.specs.declared.tree.AssignOp.TheVariants.{Put}
use Rattle.ca_tree.specs.Plain.{Expression, RightSide, Statement, Statements, empty, block, local, assign, call_statement, if_only, if_else, while_loop, for_loop, return_value, print_value, no_statements, statement_and, MethodTree, MemberTree, ClassTree, TextTree, field_member, method_member}
use Rattle.ca_program.specs.declared.program.ValueType.{ValueType}
use Rattle.ca_program.specs.Plain as program
use Rattle.ca_program.specs.Plain.{PlainProgram, PlainMethod}
use Rattle.ca_parallel.specs.Bodies.{fors_in, fors_in_all}
use Rattle.ca_parallel.specs.Marks.{loops_of_method, loops_of_program}
use Rattle.ca_resolve.specs.Judged.{Judged, fine, both, within, unless, beside}
use Rattle.ca_resolve.specs.Scopes.{Target, to_local, to_field, to_item, Ty, ty_of, find_local, classes_of}
use Rattle.ca_resolve.specs.Values.{place_of, in_order, judge_call}
use Rattle.ca_types.specs.Rules.{local_once, called_operation, creates_nothing, prints_nothing, return_stands, local_limit}
use Rattle.ca_types.specs.Statements.{Env, enter_block, leave_block, counted, behind, behind_all, judge_type, Source, of_value, of_new, creates, judge_wanted, judge_right, put, judge_put_target, right_ty, judge_assign, judge_start, start_creates, judge_local, judge_call_statement, judge_condition, judge_return, judge_printed, judge_print, nothing, first_part, statements_in, judge_statement, judge_statements}
use Rattle.ca_types.specs.Classes.{behind_parameters, behind_parameter, MemberEnv, body_begin, method_begin, method_end, judge_method, Members, behind_member, behind_members, no_members, ClassEnv, class_begin, behind_class, behind_classes, Parts, no_parts, judge_classes, first_class, main_begin, program_of, judge}
use Rattle.ca_types.specs.clauses.Adding.{gathered, with_method, add_member, add_class}
use Rattle.ca_types.proofs.Gathered.{classes_gathered}
use Rattle.ca_typing.specs.Loops.{LoopsNumbered}
use Rattle.ca_typing.proofs.Judging.{same_fine, within_fine, made_fine, both_fine, unless_fine, beside_fine, gathered_fine, for_fine, if_fine}
use Rattle.ca_typing.proofs.Statements.{Continues, from_none, none_behind, statements_fine}
use Rattle.ca_typing.proofs.Methods.{method_fine}
use Rattle.ca_typing.proofs.Members.{members_strict, field_added, method_added}
use Rattle.ca_typing.proofs.Typing.{classes_strict, class_added}
use Rattle.ca_typing.proofs.Ascending.{Ascends, ascends_earlier, ascends_later, ascends_up, ascends_then, rises, one_loop}

-- ---- lists of statements

in_order_is : (ss : List program.Statement) → fors_in_all (statements_in ss) ≡ flat_map fors_in ss
in_order_is [] = refl
in_order_is (s ∷ ss) = ap (λ xs. fors_in s ++ xs) (in_order_is ss)

one_more : (ss : List program.Statement) (x : program.Statement) → flat_map fors_in (ss ++ x ∷ []) ≡ flat_map fors_in ss ++ fors_in x
one_more ss x = flat_map-append fors_in ss (x ∷ []) ∙ ap (λ xs. flat_map fors_in ss ++ xs) (append-nil (fors_in x))

-- a statement that holds no `for`
leaf : (n : ℕ) (x y : program.Statement) → fors_in x ≡ [] → x ≡ y → Ascends n (fors_in y) n
leaf n x y none e = subst (λ z. Ascends n (fors_in z) n) e (subst (λ xs. Ascends n xs n) (sym none) (let le : n ≤ n = omega arith in le))

put_holds_none : (line : ℕ) (t : Target) (op : AssignOp) (s : Source) → fors_in (put line t op s) ≡ []
put_holds_none line (to_local l) op (of_value e) = refl
put_holds_none line (to_local l) op (of_new c) = refl
put_holds_none line (to_field f) op (of_value e) = refl
put_holds_none line (to_field f) op (of_new c) = refl
put_holds_none line (to_item f i) op (of_value e) = refl
put_holds_none line (to_item f i) op (of_new c) = refl

-- ---- statements

module _ (c : Env) where
  local_numbered : (at : Place) (ty : TypeNode) (name : List ℕ) (name_at : Place) (right : Option RightSide) (x : program.Statement) → judge_local c at ty name name_at right ≡ fine x → Ascends c.loops (fors_in x) c.loops
  local_numbered at ty name name_at right x h =
      let wanted = ty_of c.scope.classes.names ty in
      let typed = judge_type c.scope.classes.names ty in
      let start = judge_start c.scope wanted right in
      let limit = local_limit (length c.locals) name_at in
      let once = local_once c.first (find_local c.scope.locals name) name_at in
      let creating = creates_nothing c.result (start_creates right) at in
      let made = λ (r : ValueType × Source). put at.line (to_local (record { 0 = length c.locals })) Put r.1 in
      let w = within_fine (beside limit (both typed start)) (λ (r : ValueType × Source). beside creating (unless once (made r))) x h in
      let k = beside_fine creating (unless once (made w.0)) x w.2 in
      leaf c.loops (made w.0) x (put_holds_none at.line (to_local (record { 0 = length c.locals })) Put w.0.1) (unless_fine once (made w.0) x k.1)

  assign_numbered : (at : Place) (target : Expression) (op : AssignOp) (right : RightSide) (x : program.Statement) → judge_assign c at (judge_put_target c op target) op right ≡ fine x → Ascends c.loops (fors_in x) c.loops
  assign_numbered at target op right x h =
      let goal = judge_put_target c op target in
      let sources = judge_right c.scope (right_ty op goal) right in
      let creating = creates_nothing c.result (creates right) at in
      let w = within_fine (both goal sources) (λ (r : (Target × Ty) × Source). unless creating (put at.line r.0.0 op r.1)) x h in
      leaf c.loops (put at.line w.0.0.0 op w.0.1) x (put_holds_none at.line w.0.0.0 op w.0.1) (unless_fine creating (put at.line w.0.0.0 op w.0.1) x w.2)

  call_numbered : (at : Place) (e : Expression) (x : program.Statement) → judge_call_statement c at e ≡ fine x → Ascends c.loops (fors_in x) c.loops
  call_numbered at e x h =
      let w = within_fine (judge_call c.scope e) (λ i. within (called_operation c.result i.callee (place_of e)) (λ o. fine (program.invoke at.line i.receiver o (in_order i.arguments)))) x h in
      let u = made_fine (called_operation c.result w.0.callee (place_of e)) (λ o. program.invoke at.line w.0.receiver o (in_order w.0.arguments)) x w.2 in
      leaf c.loops (program.invoke at.line w.0.receiver u.0 (in_order w.0.arguments)) x refl u.2

  return_numbered : (at : Place) (e : Expression) (x : program.Statement) → judge_return c at e ≡ fine x → Ascends c.loops (fors_in x) c.loops
  return_numbered at e x h =
      let w = within_fine (judge_wanted c.scope c.result e) (λ v. unless (return_stands c.result at) (program.return_value at.line v)) x h in
      leaf c.loops (program.return_value at.line w.0) x refl (unless_fine (return_stands c.result at) (program.return_value at.line w.0) x w.2)

  print_numbered : (at : Place) (e : Expression) (x : program.Statement) → judge_print c at e ≡ fine x → Ascends c.loops (fors_in x) c.loops
  print_numbered at e x h =
      let w = within_fine (judge_printed c.scope e) (λ v. unless (prints_nothing c.result at) (program.print_value at.line v)) x h in
      leaf c.loops (program.print_value at.line w.0) x refl (unless_fine (prints_nothing c.result at) (program.print_value at.line w.0) x w.2)

mutual
  statement_numbered : (c : Env) (s : Statement) (x : program.Statement) → judge_statement c s ≡ fine x → Ascends c.loops (fors_in x) (behind c s).loops
  statement_numbered c (empty at) x h = leaf c.loops (nothing at.line) x refl (same_fine (nothing at.line) x h)
  statement_numbered c (block at ss) x h =
      let w = made_fine (judge_statements (enter_block c) ss) (λ all. program.block at.line (statements_in all)) x h in
      let t = statements_numbered (enter_block c) ss [] w.0 c.loops (let le : c.loops ≤ c.loops = omega arith in le) (from_none (enter_block c) ss w.0 w.1) in
      subst (λ y. Ascends c.loops (fors_in y) (behind_all (enter_block c) ss).loops) w.2 (subst (λ xs. Ascends c.loops xs (behind_all (enter_block c) ss).loops) (sym (in_order_is w.0)) t)
  statement_numbered c (local at ty name name_at right) x h = local_numbered c at ty name name_at right x h
  statement_numbered c (assign at target op right) x h = assign_numbered c at target op right x h
  statement_numbered c (call_statement at e) x h = call_numbered c at e x h
  statement_numbered c (if_only at e s) x h =
      let test = judge_condition c.scope e in
      let yes_part = judge_statement (enter_block c) s in
      let no_part : Judged program.Statement = fine (nothing at.line) in
      let last = behind (enter_block c) s in
      let w = if_fine at.line test yes_part no_part x h in
      let two = statement_numbered (enter_block c) s w.one w.one_is in
      let three = leaf last.loops (nothing at.line) w.other refl (same_fine (nothing at.line) w.other w.other_is) in
      subst (λ y. Ascends c.loops (fors_in y) last.loops) w.is (ascends_then c.loops (fors_in w.one) last.loops (fors_in w.other) last.loops two three)
  statement_numbered c (if_else at e a b) x h =
      let first = behind (enter_block c) a in
      let other = enter_block (leave_block c first) in
      let last = behind other b in
      let test = judge_condition c.scope e in
      let yes_part = judge_statement (enter_block c) a in
      let no_part = judge_statement other b in
      let w = if_fine at.line test yes_part no_part x h in
      let two = statement_numbered (enter_block c) a w.one w.one_is in
      let three = statement_numbered other b w.other w.other_is in
      subst (λ y. Ascends c.loops (fors_in y) last.loops) w.is (ascends_then c.loops (fors_in w.one) first.loops (fors_in w.other) last.loops two three)
  statement_numbered c (while_loop at e s) x h =
      let test = judge_condition c.scope e in
      let body = judge_statement (enter_block c) s in
      let w = made_fine (both test body) (λ (r : program.Expression × program.Statement). program.while_loop at.line r.0 r.1) x h in
      let two = statement_numbered (enter_block c) s w.0.1 (both_fine test body w.0 w.1).1 in
      subst (λ y. Ascends c.loops (fors_in y) (behind (enter_block c) s).loops) w.2 two
  statement_numbered c (for_loop at first e next s) x h =
      let begin = enter_block (counted c) in
      let begun = behind begin first in
      let stepped = behind (enter_block begun) next in
      let turn = enter_block (leave_block begun stepped) in
      let last = behind turn s in
      let first_part_j = judge_statement begin first in
      let test = judge_condition begun.scope e in
      let step = judge_statement (enter_block begun) next in
      let body = judge_statement turn s in
      let w = for_fine at c.loops (first_part first) first_part_j test step body x h in
      let one : Ascends (c.loops + 1) (fors_in w.first) begun.loops = statement_numbered begin first w.first w.first_is in
      let two = statement_numbered (enter_block begun) next w.next w.next_is in
      let three = statement_numbered turn s w.body w.body_is in
      let rest : Ascends (c.loops + 1) (fors_in w.first ++ (fors_in w.next ++ fors_in w.body)) last.loops =
      ascends_then (c.loops + 1) (fors_in w.first) begun.loops (fors_in w.next ++ fors_in w.body) last.loops one
      (ascends_then begun.loops (fors_in w.next) stepped.loops (fors_in w.body) last.loops two three) in
      subst (λ y. Ascends c.loops (fors_in y) last.loops) w.is
      (let le : c.loops ≤ c.loops = omega arith in le, ascends_earlier (suc c.loops) (c.loops + 1) (fors_in w.first ++ (fors_in w.next ++ fors_in w.body)) last.loops (let le : suc c.loops ≤ c.loops + 1 = omega arith in le) rest)
  statement_numbered c (return_value at e) x h = return_numbered c at e x h
  statement_numbered c (print_value at e) x h = print_numbered c at e x h

  statements_numbered : (c : Env) (ss : Statements) (front all : List program.Statement) (n : ℕ) → Ascends n (flat_map fors_in front) c.loops → Continues c front ss all → Ascends n (flat_map fors_in all) (behind_all c ss).loops
  statements_numbered c no_statements front all n asc h = subst (λ xs. Ascends n (flat_map fors_in xs) c.loops) (none_behind c front all h) asc
  statements_numbered c (statement_and s ss) front all n asc h =
      let d = behind c s in
      let w = statements_fine c front s ss all h in
      let one = statement_numbered c s w.0 w.1 in
      let both_of = ascends_then n (flat_map fors_in front) c.loops (fors_in w.0) d.loops asc one in
      statements_numbered d ss (front ++ w.0 ∷ []) all n (subst (λ xs. Ascends n xs d.loops) (sym (one_more front w.0)) both_of) w.2

-- ---- methods, members, classes

parameters_hold_none : (c : Env) (ps : List ParamNode) → (behind_parameters c ps).loops ≡ c.loops
parameters_hold_none c [] = refl
parameters_hold_none c (p ∷ ps) = parameters_hold_none (behind_parameter c p) ps

method_numbered : (c : MemberEnv) (m : MethodTree) (x : PlainMethod) → judge_method c m ≡ fine x → Ascends c.loops (loops_of_method x) (method_end c m).loops
method_numbered c m x h =
    let f = method_fine c m x h in
    let start : c.loops ≤ (body_begin c m).loops = let e = parameters_hold_none (method_begin c m) m.params in omega (arith, e) in
    let t = statements_numbered (body_begin c m) m.body [] f.statements c.loops start (from_none (body_begin c m) m.body f.statements f.statements_are) in
    subst (λ (y : PlainMethod). Ascends c.loops (loops_of_method y) (method_end c m).loops) f.is (subst (λ xs. Ascends c.loops xs (method_end c m).loops) (sym (in_order_is f.statements)) t)

abbrev loops_of : List PlainMethod → List program.Statement
loops_of ms = flat_map loops_of_method ms

method_more : (ms : List PlainMethod) (x : PlainMethod) → loops_of (ms ++ x ∷ []) ≡ loops_of ms ++ loops_of_method x
method_more ms x = flat_map-append loops_of_method ms (x ∷ []) ∙ ap (λ xs. loops_of ms ++ xs) (append-nil (loops_of_method x))

-- an operation adds its loops, a value method only counts them
method_adds : (n : ℕ) (a : Members) (r : Option ValueType) (x : PlainMethod) (b c : ℕ) → Ascends n (loops_of a.ops) b → Ascends b (loops_of_method x) c → Ascends n (loops_of (with_method a r x).ops) c
method_adds n a None x b c h k = subst (λ xs. Ascends n xs c) (sym (method_more a.ops x)) (ascends_then n (loops_of a.ops) b (loops_of_method x) c h k)
method_adds n a (Some t) x b c h k = ascends_later n (loops_of a.ops) b c (ascends_up b (loops_of_method x) c k) h

members_numbered : (c : MemberEnv) (a all : Members) (ms : List MemberTree) (n : ℕ) → Ascends n (loops_of a.ops) c.loops → gathered behind_member add_member c (fine a) ms ≡ fine all → Ascends n (loops_of all.ops) (behind_members c ms).loops
members_numbered c a all [] n asc h = subst (λ (b : Members). Ascends n (loops_of b.ops) c.loops) (same_fine a all h) asc
members_numbered c a all (field_member f ∷ ms) n asc h =
    let w = gathered_fine behind_member add_member members_strict c a (field_member f) ms all h in
    let d = field_added c a w.0 f w.1 in
    members_numbered (behind_member c (field_member f)) w.0 all ms n (subst (λ (b : Members). Ascends n (loops_of b.ops) c.loops) d.2 asc) w.2
members_numbered c a all (method_member m ∷ ms) n asc h =
    let w = gathered_fine behind_member add_member members_strict c a (method_member m) ms all h in
    let d = method_added c a w.0 m w.1 in
    let one = method_adds n a d.0.result d.0 c.loops (method_end c m).loops asc (method_numbered c m d.0 d.1) in
    members_numbered (behind_member c (method_member m)) w.0 all ms n (subst (λ (b : Members). Ascends n (loops_of b.ops) (method_end c m).loops) d.2 one) w.2

classes_numbered : (c : ClassEnv) (a all : Parts) (ts : List ClassTree) (n : ℕ) → Ascends n (loops_of a.ops) c.loops → gathered behind_class add_class c (fine a) ts ≡ fine all → Ascends n (loops_of all.ops) (behind_classes c ts).loops
classes_numbered c a all [] n asc h = subst (λ (b : Parts). Ascends n (loops_of b.ops) c.loops) (same_fine a all h) asc
classes_numbered c a all (t ∷ ts) n asc h =
    let w = gathered_fine behind_class add_class classes_strict c a t ts all h in
    let d = class_added c a w.0 t w.1 in
    let last = behind_members (class_begin c t.members) t.members in
    let one = members_numbered (class_begin c t.members) no_members d.0 t.members c.loops (let le : c.loops ≤ c.loops = omega arith in le) d.1 in
    let more = subst (λ xs. Ascends n xs last.loops) (sym (flat_map-append loops_of_method a.ops d.0.ops)) (ascends_then n (loops_of a.ops) c.loops (loops_of d.0.ops) last.loops asc one) in
    classes_numbered (behind_class c t) w.0 all ts n (subst (λ (b : Parts). Ascends n (loops_of b.ops) last.loops) d.2 more) w.2

pub loops_are_numbered : (t : TextTree) (p : PlainProgram) → judge t ≡ fine p → LoopsNumbered p
loops_are_numbered t p h =
    let cs = classes_of t.classes in
    let classes = judge_classes (first_class cs) t.classes in
    let lines = judge_statements (main_begin t) t.main in
    let locals = (behind_all (main_begin t) t.main).locals in
    let last = (behind_all (main_begin t) t.main).loops in
    let w = made_fine (both classes lines) (λ (r : Parts × List program.Statement). program_of locals r) p h in
    let b = both_fine classes lines w.0 w.1 in
    let start : ℕ = (behind_classes (first_class cs) t.classes).loops in
    let ops = classes_numbered (first_class cs) no_parts w.0.0 t.classes 0 (let le : 0 ≤ 0 = omega arith in le) (sym (classes_gathered (first_class cs) t.classes) ∙ b.0) in
    let main = statements_numbered (main_begin t) t.main [] w.0.1 start (let le : start ≤ start = omega arith in le) (from_none (main_begin t) t.main w.0.1 b.1) in
    let all : Ascends 0 (loops_of_program (program_of locals w.0)) last =
    ascends_then 0 (loops_of w.0.0.ops) start (fors_in_all (statements_in w.0.1)) last ops (subst (λ xs. Ascends start xs last) (sym (in_order_is w.0.1)) main) in
    let numbered : LoopsNumbered (program_of locals w.0) =
    record { rise = rises 0 (loops_of_program (program_of locals w.0)) last all; one = one_loop 0 (loops_of_program (program_of locals w.0)) last all } in
    subst LoopsNumbered w.2 numbered
