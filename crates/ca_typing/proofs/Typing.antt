-- The program of a tree whose numbers fit, and in which no rule is broken, is well typed.
use Rattle.std.proofs.Common.{◌≡◌, ℕ, zero, suc, ◌+◌, List, [], ◌∷◌, ◌++◌, Bool, true, false, cond, length, refl, sym, subst, ap, ◌∙◌, arith}
use Rattle.std.specs.Prelude.{Some, slice_get}
use Rattle.std.specs.List.{AllByRecursion, position_from}
use Rattle.std.proofs.lemmas.List.{append-nil, length_push}
use Rattle.std.proofs.lemmas.Option.{same_Some}
use Rattle.ca_lists.proofs.Places.{all_append}
use Rattle.ca_tree.specs.Plain.{ClassTree, TextTree}
use Rattle.ca_program.specs.declared.program.ClassId.{ClassId}
use Rattle.ca_program.specs.Plain as program
use Rattle.ca_program.specs.Plain.{PlainProgram, PlainClass}
use Rattle.ca_model.specs.Heaps.{fields_of}
use Rattle.ca_meaning.specs.ProgramTyped.{IsClass, OperationTyped, FunctionTyped, main_scope, ProgramTyped}
use Rattle.ca_resolve.specs.Judged.{Judged, fine, both, unless, beside}
use Rattle.ca_resolve.specs.Scopes.{Meaning, Numbers, classes_of, class_names, members_from, meanings, find_among, same_name}
use Rattle.ca_types.specs.Rules.{class_once, class_limit}
use Rattle.ca_types.specs.Statements.{judge_statements, behind_all}
use Rattle.ca_types.specs.Classes.{Members, no_members, behind_member, behind_members, judge_members, ClassEnv, class_begin, behind_class, judge_class, Parts, no_parts, judge_classes, first_class, main_begin, program_of, judge}
use Rattle.ca_types.specs.clauses.Adding.{gathered, add_member, with_class, add_class}
use Rattle.ca_types.proofs.Gathered.{members_gathered, classes_gathered}
use Rattle.ca_typing.proofs.Fits.{ClassFits, LiteralsFit}
use Rattle.ca_typing.proofs.Lists.{Begins, begins_itself, begins_through, item_there, all_at}
use Rattle.ca_typing.proofs.Judging.{same_fine, within_fine, made_fine, both_fine, unless_fine, beside_fine, gathered_fine}
use Rattle.ca_typing.proofs.Values.{MeaningTyped, ClassesTyped}
use Rattle.ca_typing.proofs.Statements.{Stands, from_none, in_order_typed, statements_typed}
use Rattle.ca_typing.proofs.Members.{RowTyped, row_at, Numbered, numbers_behind, row_typed, MembersTyped, members_typed}

pub classes_strict : (s : ClassEnv) (j : Judged Parts) (t : ClassTree) (b : Parts) → add_class s j t ≡ fine b → (a : Parts) × (j ≡ fine a)
classes_strict s j t b h =
    let w = made_fine (both j (judge_class s t)) (λ (r : Parts × Members). with_class r.0 t.name r.1) b h in
    (w.0.0, (both_fine j (judge_class s t) w.0 w.1).0)

pub class_added : (c : ClassEnv) (a b : Parts) (t : ClassTree) → add_class c (fine a) t ≡ fine b → (m : Members) × (gathered behind_member add_member (class_begin c t.members) (fine no_members) t.members ≡ fine m) × (with_class a t.name m ≡ b)
class_added c a b t h =
    let w = made_fine (both (fine a) (judge_class c t)) (λ (r : Parts × Members). with_class r.0 t.name r.1) b h in
    let d = both_fine (fine a) (judge_class c t) w.0 w.1 in
    let limit = class_limit c.number t.at in
    let members = judge_members (class_begin c t.members) t.members in
    let once = class_once c.classes.names c.number t.name t.at in
    let u = within_fine (beside limit members) (λ m. unless once m) w.0.1 d.1 in
    let same = unless_fine once u.0 w.0.1 u.2 in
    (u.0, sym (members_gathered (class_begin c t.members) t.members) ∙ (beside_fine limit members u.0 u.1).1, ap (λ m. with_class a t.name m) same ∙ (ap (λ x. with_class x t.name w.0.1) (same_fine a w.0.0 d.0) ∙ w.2))

-- each list of the second begins with that of the first
record PartsBegin (a b : Parts) : Type 0 where
  classes : Begins a.classes b.classes
  ops : Begins a.ops b.ops
  functions : Begins a.functions b.functions

class_begins : (a : Parts) (name : List ℕ) (m : Members) → PartsBegin a (with_class a name m)
class_begins a name m = record { classes = (record { name = name; fields = m.fields } ∷ [], refl); ops = (m.ops, refl); functions = (m.functions, refl) }

begin_through : (a b c : Parts) → PartsBegin a b → PartsBegin b c → PartsBegin a c
begin_through a b c h k = record {
  classes = begins_through a.classes b.classes c.classes h.classes k.classes;
  ops = begins_through a.ops b.ops c.ops h.ops k.ops;
  functions = begins_through a.functions b.functions c.functions h.functions k.functions;
}

classes_begin : (c : ClassEnv) (a all : Parts) (ts : List ClassTree) → gathered behind_class add_class c (fine a) ts ≡ fine all → PartsBegin a all
classes_begin c a all [] h =
    let itself : PartsBegin a a = record { classes = begins_itself a.classes; ops = begins_itself a.ops; functions = begins_itself a.functions } in
    subst (PartsBegin a) (same_fine a all h) itself
classes_begin c a all (t ∷ ts) h =
    let w = gathered_fine behind_class add_class classes_strict c a t ts all h in
    let d = class_added c a w.0 t w.1 in
    begin_through a w.0 all (subst (PartsBegin a) d.2 (class_begins a t.name d.0)) (classes_begin (behind_class c t) w.0 all ts w.2)

-- the numbers of a standing are those of the next class, operation and value method
record Counted (c : ClassEnv) (a : Parts) : Type 0 where
  classes : length a.classes ≡ c.number
  ops : length a.ops ≡ c.numbers.operation
  functions : length a.functions ≡ c.numbers.function

-- the lists of the program begin with those of the parts
record Holding (p : PlainProgram) (all : Parts) : Type 0 where
  classes : Begins all.classes p.classes
  ops : Begins all.ops p.ops
  functions : Begins all.functions p.functions

abbrev RowsTyped : PlainProgram → ℕ → List (List (List ℕ × Meaning)) → Type 0
RowsTyped p n [] = Unit {0}
RowsTyped p n (r ∷ rs) = RowTyped p (record { 0 = n }) r × RowsTyped p (n + 1) rs

member_at : (p : PlainProgram) (n : ℕ) (rows : List (List (List ℕ × Meaning))) (i : ℕ) (name : List ℕ) (m : Meaning) → RowsTyped p n rows → find_among (slice_get rows i) name ≡ Some m → MeaningTyped p (record { 0 = n + i }) m
member_at p n [] i name m t h = absurd (cc)
member_at p n (r ∷ rs) zero name m t h =
    let e : n ≡ n + 0 = omega arith in
    subst (λ (k : ℕ). MeaningTyped p (record { 0 = k }) m) e (row_at p (record { 0 = n }) r name m t.0 h)
member_at p n (r ∷ rs) (suc i) name m t h =
    let e : (n + 1) + i ≡ n + suc i = omega arith in
    subst (λ (k : ℕ). MeaningTyped p (record { 0 = k }) m) e (member_at p (n + 1) rs i name m t.1 h)

member_found : (p : PlainProgram) (rows : List (List (List ℕ × Meaning))) (c : ClassId) (name : List ℕ) (m : Meaning) → RowsTyped p 0 rows → find_among (slice_get rows c.0) name ≡ Some m → MeaningTyped p c m
member_found p rows c name m t h =
    let e : 0 + c.0 ≡ c.0 = omega arith in
    subst (λ (k : ℕ). MeaningTyped p (record { 0 = k }) m) e (member_at p 0 rows c.0 name m t h)

-- each class that is found by a name is there, where the first of the list has the number n
abbrev NamesThere : PlainProgram → ℕ → List ClassTree → Type 0
NamesThere p n ts = (name : List ℕ) (k : ℕ) → position_from (λ x. same_name x name) n (class_names ts) ≡ Some k → IsClass p (record { 0 = k })

module _ (p : PlainProgram) where
  names_next : (n : ℕ) (t : ClassTree) (ts : List ClassTree) → IsClass p (record { 0 = n }) → NamesThere p (n + 1) ts → NamesThere p n (t ∷ ts)
  names_next n t ts here rest name k h = one (same_name t.name name) h
    where
      one : (b : Bool) → cond b (Some n) (position_from (λ x. same_name x name) (n + 1) (class_names ts)) ≡ Some k → IsClass p (record { 0 = k })
      one true h = subst (λ (j : ℕ). IsClass p (record { 0 = j })) (same_Some n k h) here
      one false h = rest name k h

  -- the class that is added stands in the program with its number
  class_there : (c : ClassEnv) (a b all : Parts) (t : ClassTree) (m : Members) → Counted c a → Holding p all → with_class a t.name m ≡ b → PartsBegin b all
      → slice_get p.classes c.number ≡ Some (record { name = t.name; fields = m.fields })
  class_there c a b all t m n holds e g =
      let k : PlainClass = record { name = t.name; fields = m.fields } in
      let longer = begins_through (a.classes ++ k ∷ []) all.classes p.classes (subst (λ (x : Parts). Begins x.classes all.classes) (sym e) g.classes) holds.classes in
      ap (slice_get p.classes) (sym n.classes) ∙ item_there a.classes p.classes k longer

  class_row : (c : ClassEnv) (a b all : Parts) (t : ClassTree) (m : Members) → Counted c a → Holding p all → gathered behind_member add_member (class_begin c t.members) (fine no_members) t.members ≡ fine m → with_class a t.name m ≡ b → PartsBegin b all
      → RowTyped p (record { 0 = c.number }) (meanings c.classes.names c.number (class_begin c t.members).numbers t.members) × Numbered a.ops a.functions (behind_members (class_begin c t.members) t.members).numbers m
  class_row c a b all t m n holds h e g =
      let there = class_there c a b all t m n holds e g in
      let ops = begins_through (a.ops ++ m.ops) all.ops p.ops (subst (λ (x : Parts). Begins x.ops all.ops) (sym e) g.ops) holds.ops in
      let functions = begins_through (a.functions ++ m.functions) all.functions p.functions (subst (λ (x : Parts). Begins x.functions all.functions) (sym e) g.functions) holds.functions in
      let numbered : Numbered a.ops a.functions (class_begin c t.members).numbers no_members =
      record { fields = refl; ops = ap length (append-nil a.ops) ∙ n.ops; functions = ap length (append-nil a.functions) ∙ n.functions } in
      row_typed p a.ops a.functions (class_begin c t.members) no_members m t.members (ap fields_of there) (ops, functions) numbered h

  counted_next : (c : ClassEnv) (a b : Parts) (t : ClassTree) (m : Members) → Counted c a → with_class a t.name m ≡ b → Numbered a.ops a.functions (behind_members (class_begin c t.members) t.members).numbers m
      → Counted (behind_class c t) b
  counted_next c a b t m n e k =
      let next : Counted (behind_class c t) (with_class a t.name m) =
      record { classes = length_push a.classes (record { name = t.name; fields = m.fields }) ∙ ap (λ i. i + 1) n.classes; ops = k.ops; functions = k.functions } in
      subst (Counted (behind_class c t)) e next

  -- what names mean is typed, from a class on
  names_typed : (c : ClassEnv) (a all : Parts) (ts : List ClassTree) → Counted c a → Holding p all → gathered behind_class add_class c (fine a) ts ≡ fine all
      → RowsTyped p c.number (members_from c.classes.names c.number (record { field = 0; operation = c.numbers.operation; function = c.numbers.function }) ts) × NamesThere p c.number ts
  names_typed c a all [] n holds h = (tt, λ name k e. absurd (cc))
  names_typed c a all (t ∷ ts) n holds h =
      let next = behind_class c t in
      let w = gathered_fine behind_class add_class classes_strict c a t ts all h in
      let d = class_added c a w.0 t w.1 in
      let g = classes_begin next w.0 all ts w.2 in
      let row = class_row c a w.0 all t d.0 n holds d.1 d.2 g in
      let rest = names_typed next w.0 all ts (counted_next c a w.0 t d.0 n d.2 row.1) holds w.2 in
      let numbers = numbers_behind (class_begin c t.members) t.members in
      let rows = subst (λ (k : Numbers). RowsTyped p (c.number + 1) (members_from c.classes.names (c.number + 1) (record { field = 0; operation = k.operation; function = k.function }) ts)) numbers rest.0 in
      ((row.0, rows), names_next c.number t ts (_, class_there c a w.0 all t d.0 n holds d.2 g) rest.1)

  record BodiesTyped (a : Parts) : Type 0 where
    ops : AllByRecursion (OperationTyped p) a.ops
    functions : AllByRecursion (FunctionTyped p) a.functions

  bodies_typed : (c : ClassEnv) (a all : Parts) (ts : List ClassTree) → ClassesTyped p c.classes → Counted c a → Holding p all → AllByRecursion ClassFits ts → BodiesTyped a
      → gathered behind_class add_class c (fine a) ts ≡ fine all → BodiesTyped all
  bodies_typed c a all [] classes n holds fits typed h = subst BodiesTyped (same_fine a all h) typed
  bodies_typed c a all (t ∷ ts) classes n holds fits typed h =
      let next = behind_class c t in
      let w = gathered_fine behind_class add_class classes_strict c a t ts all h in
      let d = class_added c a w.0 t w.1 in
      let g = classes_begin next w.0 all ts w.2 in
      let row = class_row c a w.0 all t d.0 n holds d.1 d.2 g in
      let there = class_there c a w.0 all t d.0 n holds d.2 g in
      let none : MembersTyped p no_members = record { ops = tt; functions = tt } in
      let m = members_typed p (class_begin c t.members) no_members d.0 t.members classes (_, there) fits.0.1 none d.1 in
      let one : BodiesTyped (with_class a t.name d.0) =
      record { ops = all_append (OperationTyped p) a.ops d.0.ops typed.ops m.ops; functions = all_append (FunctionTyped p) a.functions d.0.functions typed.functions m.functions } in
      bodies_typed next w.0 all ts classes (counted_next c a w.0 t d.0 n d.2 row.1) holds fits.1 (subst BodiesTyped d.2 one) w.2

pub resolved_is_typed : (t : TextTree) (p : PlainProgram) → LiteralsFit t → judge t ≡ fine p → ProgramTyped p
resolved_is_typed t p fits h =
    let cs = classes_of t.classes in
    let classes = judge_classes (first_class cs) t.classes in
    let lines = judge_statements (main_begin t) t.main in
    let locals = (behind_all (main_begin t) t.main).locals in
    let w = made_fine (both classes lines) (λ (r : Parts × List program.Statement). program_of locals r) p h in
    let b = both_fine classes lines w.0 w.1 in
    let first = sym (classes_gathered (first_class cs) t.classes) ∙ b.0 in
    let it = program_of locals w.0 in
    let n : Counted (first_class cs) no_parts = record { classes = refl; ops = refl; functions = refl } in
    let holds : Holding it w.0.0 = record { classes = begins_itself w.0.0.classes; ops = begins_itself w.0.0.ops; functions = begins_itself w.0.0.functions } in
    let names = names_typed it (first_class cs) no_parts w.0.0 t.classes n holds first in
    let typed : ClassesTyped it cs = record { members = λ c name m e. member_found it cs.members c name m names.0 e; names = λ name k e. names.1 name k e } in
    let none : BodiesTyped it no_parts = record { ops = tt; functions = tt } in
    let bodies = bodies_typed it (first_class cs) no_parts w.0.0 t.classes typed n holds fits.classes none first in
    let start : Stands it (main_scope it) (main_begin t) = record { scope = record { classes = typed; class = refl; locals = tt }; result = tt } in
    let main = (statements_typed it (main_scope it) (main_begin t) t.main [] w.0.1 start fits.main (begins_itself locals) tt (from_none (main_begin t) t.main w.0.1 b.1)).0 in
    let whole : ProgramTyped it = record {
      ops = λ i m e. all_at (OperationTyped it) it.ops i m bodies.ops e;
      functions = λ i m e. all_at (FunctionTyped it) it.functions i m bodies.functions e;
      main = in_order_typed it (main_scope it) w.0.1 main;
    } in
    subst ProgramTyped w.2 whole
