-- What names mean: classes and members by the first of the name, locals by the innermost.
use Rattle.std.specs.Prelude.{ℕ, ◌+◌, Bool, List, [], ◌∷◌, Option, Some, None, cond, map, slice_get, is_some}
use Rattle.std.specs.List.{position_from}
use Rattle.std.specs.Map.{lookup}
use Rattle.std.specs.Str.{bytes_eq}
use Rattle.ca_tree.specs.declared.tree.TypeNode.{TypeNode}
use Rattle.ca_tree.specs.declared.tree.TypeNode.TheVariants.{Long, Bool as Truth, Pointer}
use Rattle.ca_tree.specs.Plain.{ClassTree, MemberTree, field_member, method_member}
use Rattle.ca_program.specs.declared.program.ClassId.{ClassId}
use Rattle.ca_program.specs.declared.program.LocalId.{LocalId}
use Rattle.ca_program.specs.declared.program.FieldId.{FieldId}
use Rattle.ca_program.specs.declared.program.OpId.{OpId}
use Rattle.ca_program.specs.declared.program.FunctionId.{FunctionId}
use Rattle.ca_program.specs.Plain as program

abbrev pub same_name : List ℕ → List ℕ → Bool
same_name = bytes_eq

-- the number of the first of the names that is this one
abbrev pub number_of : List (List ℕ) → List ℕ → Option ℕ
number_of names name = position_from (λ n. same_name n name) 0 names

-- the type of a value: of a pointer by its class, of a pointer to a class that isn't defined by the name, and of `nullptr` one of its own
pub data Ty : Type 0 where
  long : Ty
  truth : Ty
  pointer : ClassId → Ty
  undefined : List ℕ → Ty
  no_object : Ty

abbrev pub pointer_to : List ℕ → Option ℕ → Ty
pointer_to name (Some n) = pointer (record { 0 = n })
pointer_to name None = undefined name

-- the type of what is declared so, among classes of these names
abbrev pub ty_of : List (List ℕ) → TypeNode → Ty
ty_of names Long = long
ty_of names Truth = truth
ty_of names (Pointer name at) = pointer_to name (number_of names name)

-- a method that a call may name: an operation, or a value method with the type of its values
pub data Callee : Type 0 where
  operation : OpId → Callee
  function : FunctionId → Ty → Callee

-- what the name of a member means: a field, which may be an array, with the type of its values; or a method, with the types of its parameters
pub data Meaning : Type 0 where
  scalar : FieldId → Ty → Meaning
  items : FieldId → Ty → Meaning
  method : Callee → List Ty → Meaning

-- the numbers that the next field, the next operation and the next value method have
pub record Numbers : Type 0 where
  pub field : ℕ
  pub operation : ℕ
  pub function : ℕ

-- fields are numbered in their class
abbrev pub field_meaning : List (List ℕ) → ℕ → Numbers → TypeNode → Bool → Meaning
field_meaning names class n ty is_array =
    cond is_array (items (record { class = record { 0 = class }; field = n.field }) (ty_of names ty)) (scalar (record { class = record { 0 = class }; field = n.field }) (ty_of names ty))

-- operations and value methods are numbered in the whole text
abbrev pub callee_meaning : List (List ℕ) → Numbers → Option TypeNode → Callee
callee_meaning names n None = operation (record { 0 = n.operation })
callee_meaning names n (Some ty) = function (record { 0 = n.function }) (ty_of names ty)

abbrev pub meaning_of : List (List ℕ) → ℕ → Numbers → MemberTree → Meaning
meaning_of names class n (field_member f) = field_meaning names class n f.ty (is_some f.length)
meaning_of names class n (method_member m) = method (callee_meaning names n m.result) (map (λ p. ty_of names p.ty) m.params)

abbrev pub after_method : Numbers → Option TypeNode → Numbers
after_method n None = record { field = n.field; operation = n.operation + 1; function = n.function }
after_method n (Some ty) = record { field = n.field; operation = n.operation; function = n.function + 1 }

abbrev pub after_member : Numbers → MemberTree → Numbers
after_member n (field_member f) = record { field = n.field + 1; operation = n.operation; function = n.function }
after_member n (method_member m) = after_method n m.result

abbrev pub after_members : Numbers → List MemberTree → Numbers
after_members n [] = n
after_members n (m ∷ ms) = after_members (after_member n m) ms

-- the next class begins with field 0
abbrev pub after_class : Numbers → List MemberTree → Numbers
after_class n ms = record { field = 0; operation = (after_members n ms).operation; function = (after_members n ms).function }

abbrev pub member_name : MemberTree → List ℕ
member_name (field_member f) = f.name
member_name (method_member m) = m.name

-- the members of a class by their names, in order
abbrev pub meanings : List (List ℕ) → ℕ → Numbers → List MemberTree → List (List ℕ × Meaning)
meanings names class n [] = []
meanings names class n (m ∷ ms) = (member_name m, meaning_of names class n m) ∷ meanings names class (after_member n m) ms

-- the members of each class, where the first of the list has the number `class`
abbrev pub members_from : List (List ℕ) → ℕ → Numbers → List ClassTree → List (List (List ℕ × Meaning))
members_from names class n [] = []
members_from names class n (c ∷ cs) = meanings names class n c.members ∷ members_from names (class + 1) (after_class n c.members) cs

-- the classes of a text by their names, and the members of each
pub record Classes : Type 0 where
  pub names : List (List ℕ)
  pub members : List (List (List ℕ × Meaning))

abbrev pub class_names : List ClassTree → List (List ℕ)
class_names classes = map (λ c. c.name) classes

abbrev pub classes_of : List ClassTree → Classes
classes_of classes = record { names = class_names classes; members = members_from (class_names classes) 0 (record { field = 0; operation = 0; function = 0 }) classes }

abbrev pub find_among : Option (List (List ℕ × Meaning)) → List ℕ → Option Meaning
find_among (Some members) name = lookup (λ n. same_name n name) members
find_among None name = None

-- the first member of the name in the class of this number
abbrev pub find_member : Classes → ClassId → List ℕ → Option Meaning
find_member classes class name = find_among (slice_get classes.members class.0) name

-- a local that is visible
pub record VisibleLocal : Type 0 where
  pub name : List ℕ
  pub id : LocalId
  pub ty : Ty

-- the innermost local of the name, where the list begins with the innermost
abbrev pub find_local : List VisibleLocal → List ℕ → Option VisibleLocal
find_local [] name = None
find_local (l ∷ ls) name = cond (same_name l.name name) (Some l) (find_local ls name)

-- where an expression stands: among all classes, in a method of the class of a number or in `main`, and behind locals, the innermost first
pub record Scope : Type 0 where
  pub classes : Classes
  pub class : Option ClassId
  pub locals : List VisibleLocal

abbrev pub member_in : Classes → Option ClassId → List ℕ → Option Meaning
member_in classes (Some c) name = find_member classes c name
member_in classes None name = None

-- the member that a name alone means: `main` has none
abbrev pub own_member : Scope → List ℕ → Option Meaning
own_member s name = member_in s.classes s.class name

-- what an expression is: a value, or a whole array field of an object
pub data Found : Type 0 where
  a_value : program.Expression → Ty → Found
  an_array : program.Expression → FieldId → Ty → Found

-- what a statement may put to: a local, an own field, or an item of an own array field
pub data Target : Type 0 where
  to_local : LocalId → Target
  to_field : FieldId → Target
  to_item : FieldId → program.Expression → Target

-- a call: whose method it is, which one, and with which arguments
pub record Invocation : Type 0 where
  pub receiver : program.Expression
  pub callee : Callee
  pub arguments : List program.Expression
