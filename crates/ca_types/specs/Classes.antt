-- Members, classes and the whole program: what each resolves to, and the violations in it.
use Rattle.std.specs.Prelude.{ℕ, ℤ, ◌+◌, List, [], ◌∷◌, ◌++◌, Option, Some, None, is_some, length, map, unsigned_abs}
use Rattle.ca_tree.specs.declared.name.Place.{Place}
use Rattle.ca_tree.specs.declared.tree.TypeNode.{TypeNode}
use Rattle.ca_tree.specs.declared.tree.FieldNode.{FieldNode}
use Rattle.ca_tree.specs.declared.tree.ParamNode.{ParamNode}
use Rattle.ca_tree.specs.Plain.{MethodTree, MemberTree, ClassTree, TextTree, field_member, method_member}
use Rattle.ca_program.specs.declared.program.ClassId.{ClassId}
use Rattle.ca_program.specs.declared.program.FieldInfo.{FieldInfo}
use Rattle.ca_program.specs.declared.program.ValueType.{ValueType}
use Rattle.ca_program.specs.Plain as program
use Rattle.ca_resolve.specs.Judged.{Violation, Judged, fine, both, within, unless, beside, each, violations}
use Rattle.ca_resolve.specs.Scopes.{Ty, ty_of, find_local, Classes, classes_of, Numbers, after_member, member_name}
use Rattle.ca_types.specs.Rules.{class_once, member_once, local_once, ends_with_return, length_stands, class_limit, field_limit, operation_limit, function_limit, parameter_limit, local_limit, length_limit}
use Rattle.ca_types.specs.Statements.{Env, declare, behind_all, judge_type, judge_statements, statements_in}

-- a walk over a list, by where the next item stands: where it ends, and what each item is judged to be
abbrev pub walked : {S T : Type 0} → (S → T → S) → S → List T → S
walked next s [] = s
walked next s (x ∷ xs) = walked next (next s x) xs

abbrev pub along : {S T A : Type 0} → (S → T → S) → (S → T → Judged A) → S → List T → List (Judged A)
along next judge s [] = []
along next judge s (x ∷ xs) = judge s x ∷ along next judge (next s x) xs

-- bodies

-- where a body begins, behind so many `for` statements
abbrev pub beginning : Classes → Option ClassId → ℕ → Option Ty → Env
beginning classes class loops result = record {
  scope = record { classes = classes; class = class; locals = [] };
  first = 0;
  locals = [];
  loops = loops;
  result = result;
}

-- a parameter is a local of the body's block
abbrev pub behind_parameter : Env → ParamNode → Env
behind_parameter c p = declare c (ty_of c.scope.classes.names p.ty) p.name

abbrev pub behind_parameters : Env → List ParamNode → Env
behind_parameters = walked behind_parameter

abbrev pub judge_parameter : Env → ParamNode → Judged ValueType
judge_parameter c p =
    within (beside (parameter_limit (length c.locals) p.at) (beside (local_limit (length c.locals) p.at) (judge_type c.scope.classes.names p.ty)))
    (λ t. unless (local_once c.first (find_local c.scope.locals p.name) p.at) t)

-- only the violations of parameters count
abbrev pub judge_parameters : Env → List ParamNode → Judged (Unit {0})
judge_parameters c ps = within (each (along behind_parameter judge_parameter c ps)) (λ ts. fine tt)

-- members

-- where a member stands: in the class of this number, among members of these names, the member of this number, and behind
-- so many fields of the class and operations, value methods and `for` statements of the program
pub record MemberEnv : Type 0 where
  pub classes : Classes
  pub class : ClassId
  pub names : List (List ℕ)
  pub number : ℕ
  pub numbers : Numbers
  pub loops : ℕ

abbrev pub item_count : Option ℤ → Option ℕ
item_count None = None
item_count (Some n) = Some (unsigned_abs n)

abbrev pub judge_field_member : MemberEnv → FieldNode → Judged FieldInfo
judge_field_member c f =
    within (beside (field_limit c.numbers.field f.at) (beside (length_limit f.length f.at) (judge_type c.classes.names f.ty)))
    (λ t. beside (member_once c.names c.number f.name f.at) (unless (length_stands f.length f.at) (record { name = f.name; ty = t; length = item_count f.length })))

abbrev pub judge_result_type : List (List ℕ) → Option TypeNode → Judged (Option ValueType)
judge_result_type names None = fine None
judge_result_type names (Some ty) = within (judge_type names ty) (λ t. fine (Some t))

abbrev pub result_ty : List (List ℕ) → Option TypeNode → Option Ty
result_ty names None = None
result_ty names (Some ty) = Some (ty_of names ty)

-- an operation where there is no result, else a value method
abbrev pub method_limit : Numbers → Option TypeNode → Place → Option Violation
method_limit n None at = operation_limit n.operation at
method_limit n (Some ty) at = function_limit n.function at

abbrev pub method_begin : MemberEnv → MethodTree → Env
method_begin c m = beginning c.classes (Some c.class) c.loops (result_ty c.classes.names m.result)

abbrev pub body_begin : MemberEnv → MethodTree → Env
body_begin c m = behind_parameters (method_begin c m) m.params

abbrev pub method_end : MemberEnv → MethodTree → Env
method_end c m = behind_all (body_begin c m) m.body

abbrev pub method_of : MemberEnv → MethodTree → Option ValueType → List program.Statement → program.PlainMethod
method_of c m result body = record {
  class = c.class;
  name = m.name;
  params = length m.params;
  body = record { locals = (method_end c m).locals; statements = statements_in body };
  result = result;
}

-- a method of its judged parts: its result's type, its parameters and its statements
abbrev pub judge_parts : MemberEnv → MethodTree → Judged (Option ValueType × (Unit {0} × List program.Statement)) → Judged program.PlainMethod
judge_parts c m parts =
    within (beside (method_limit c.numbers m.result m.at) parts)
    (λ p. beside (member_once c.names c.number m.name m.at) (unless (ends_with_return (is_some m.result) m.body m.at) (method_of c m p.0 p.1.1)))

abbrev pub judge_method : MemberEnv → MethodTree → Judged program.PlainMethod
judge_method c m = judge_parts c m (both (judge_result_type c.classes.names m.result) (both (judge_parameters (method_begin c m) m.params) (judge_statements (body_begin c m) m.body)))

-- what a member resolves to
pub data Member : Type 0 where
  a_field : FieldInfo → Member
  a_method : program.PlainMethod → Member

-- what members and classes resolve to: fields of a class, operations and value methods, in order
pub record Members : Type 0 where
  pub fields : List FieldInfo
  pub ops : List program.PlainMethod
  pub functions : List program.PlainMethod

abbrev pub loops_behind : MemberEnv → MemberTree → ℕ
loops_behind c (field_member f) = c.loops
loops_behind c (method_member m) = (method_end c m).loops

abbrev pub behind_member : MemberEnv → MemberTree → MemberEnv
behind_member c m = record {
  classes = c.classes;
  class = c.class;
  names = c.names;
  number = c.number + 1;
  numbers = after_member c.numbers m;
  loops = loops_behind c m;
}

abbrev pub behind_members : MemberEnv → List MemberTree → MemberEnv
behind_members = walked behind_member

abbrev pub no_members : Members
no_members = record { fields = []; ops = []; functions = [] }

abbrev pub field_and : FieldInfo → Members → Members
field_and f p = record { fields = f ∷ p.fields; ops = p.ops; functions = p.functions }

-- an operation has no result
abbrev pub method_and : Option ValueType → program.PlainMethod → Members → Members
method_and None m p = record { fields = p.fields; ops = m ∷ p.ops; functions = p.functions }
method_and (Some t) m p = record { fields = p.fields; ops = p.ops; functions = m ∷ p.functions }

abbrev pub members_of : List Member → Members
members_of [] = no_members
members_of (a_field f ∷ ms) = field_and f (members_of ms)
members_of (a_method m ∷ ms) = method_and m.result m (members_of ms)

abbrev pub judge_member : MemberEnv → MemberTree → Judged Member
judge_member c (field_member f) = within (judge_field_member c f) (λ i. fine (a_field i))
judge_member c (method_member m) = within (judge_method c m) (λ x. fine (a_method x))

abbrev pub judge_members : MemberEnv → List MemberTree → Judged Members
judge_members c ms = within (each (along behind_member judge_member c ms)) (λ xs. fine (members_of xs))

-- classes

-- behind so many classes, operations, value methods and `for` statements
pub record ClassEnv : Type 0 where
  pub classes : Classes
  pub number : ℕ
  pub numbers : Numbers
  pub loops : ℕ

abbrev pub class_begin : ClassEnv → List MemberTree → MemberEnv
class_begin c members = record {
  classes = c.classes;
  class = record { 0 = c.number };
  names = map member_name members;
  number = 0;
  numbers = record { field = 0; operation = c.numbers.operation; function = c.numbers.function };
  loops = c.loops;
}

abbrev pub behind_class : ClassEnv → ClassTree → ClassEnv
behind_class c t =
    let last = behind_members (class_begin c t.members) t.members in
    record { classes = c.classes; number = c.number + 1; numbers = last.numbers; loops = last.loops }

abbrev pub behind_classes : ClassEnv → List ClassTree → ClassEnv
behind_classes = walked behind_class

abbrev pub judge_class : ClassEnv → ClassTree → Judged Members
judge_class c t =
    within (beside (class_limit c.number t.at) (judge_members (class_begin c t.members) t.members))
    (λ p. unless (class_once c.classes.names c.number t.name t.at) p)

-- classes with their operations and value methods, in order
pub record Parts : Type 0 where
  pub classes : List program.PlainClass
  pub ops : List program.PlainMethod
  pub functions : List program.PlainMethod

abbrev pub no_parts : Parts
no_parts = record { classes = []; ops = []; functions = [] }

-- a class by its name and members, before others
abbrev pub class_and : List ℕ × Members → Parts → Parts
class_and c p = record { classes = record { name = c.0; fields = c.1.fields } ∷ p.classes; ops = c.1.ops ++ p.ops; functions = c.1.functions ++ p.functions }

abbrev pub parts_of : List (List ℕ × Members) → Parts
parts_of [] = no_parts
parts_of (c ∷ cs) = class_and c (parts_of cs)

abbrev pub judge_named : ClassEnv → ClassTree → Judged (List ℕ × Members)
judge_named c t = within (judge_class c t) (λ m. fine (t.name, m))

abbrev pub judge_classes : ClassEnv → List ClassTree → Judged Parts
judge_classes c ts = within (each (along behind_class judge_named c ts)) (λ cs. fine (parts_of cs))

-- the whole

abbrev pub first_class : Classes → ClassEnv
first_class classes = record { classes = classes; number = 0; numbers = record { field = 0; operation = 0; function = 0 }; loops = 0 }

-- `main` stands behind all classes
abbrev pub main_begin : TextTree → Env
main_begin t = beginning (classes_of t.classes) None (behind_classes (first_class (classes_of t.classes)) t.classes).loops None

abbrev pub program_of : List ValueType → Parts × List program.Statement → program.PlainProgram
program_of locals p = record {
  classes = p.0.classes;
  ops = p.0.ops;
  functions = p.0.functions;
  main = record { locals = locals; statements = statements_in p.1 };
}

abbrev pub judge : TextTree → Judged program.PlainProgram
judge t =
    within (both (judge_classes (first_class (classes_of t.classes)) t.classes) (judge_statements (main_begin t) t.main))
    (λ p. fine (program_of (behind_all (main_begin t) t.main).locals p))

-- all violations of a tree, passed limits among them
abbrev pub Violations : TextTree → List Violation
Violations t = violations (judge t)
