-- In the tree of some tokens the first and the last part of each `for` are declarations or assignments.
use Rattle.std.proofs.Common.{ℕ, List, [], ◌∷◌, Bool, true, false, Option, Some, None, cond}
use Rattle.std.specs.List.{AllByRecursion}
use Rattle.ca_lists.proofs.Places.{all_append}
use Rattle.ca_descent.specs.Exact.{Following, following_end, following}
use Rattle.ca_tree.specs.declared.token.Token.{Token}
use Rattle.ca_tree.specs.declared.tree.TypeNode.{TypeNode}
use Rattle.ca_tree.specs.declared.tree.ParamNode.{ParamNode}
use Rattle.ca_tree.specs.Plain.{Statement, MethodTree, MemberTree, ClassTree, TextTree, field_member, method_member}
use Rattle.ca_parse.specs.Grammar.{Deriving, statements, Local, declares, begins, Assign, assigns, AssignLine, assign_line, First, first_local, first_assign, Stmt, nothing, a_block, an_assign, a_call, an_if, an_if_else, a_while, a_for, a_return, a_print, Item, a_local, a_statement, Items, items_end, items_and, Lines, lines_end, lines_and, One, one, Signature, signature, Further, further_plain, further_pointer, Member, fields, operation, value_method, Declaration, forward, a_class, MainItem, main_item, kept, program, DerivesFree}
use Rattle.ca_lock_laws.specs.Resolves.{operation_and, operations_in, operations_of}
use Rattle.ca_lock_laws.specs.Courses.{IsHead, HeadsStand, AllHeadsStand, BodyHeadsStand, TreeHeadsStand}

-- P holds of whatever D derives
abbrev Gives : {A : Type 0} → (A → Type 0) → Deriving A → Type 0
Gives {A} P D = (free : ℕ) (s r : List Token) (x : A) → D free s x r → P x

lines_stand : {A B : Type 0} {P : A → Type 0} {D : Deriving (List A)} {close : Token → Option B} → Gives (AllByRecursion P) D → Gives (AllByRecursion P) (Lines D close)
lines_stand g free s r xs (lines_end c) = tt
lines_stand {P = P} g free s r xs (lines_and {q = q} {xs = us} {ys = vs} d ds) = all_append P us vs (g free s q us d) (lines_stand g free q r vs ds)

one_stands : {A : Type 0} {P : A → Type 0} {D : Deriving A} → Gives P D → Gives (AllByRecursion P) (One D)
one_stands g free s r xs (one {x = x} d) = (g free s r x d, tt)

following_stand : {A E F : Type 0} {P : A → Type 0} {D : Deriving A} {comma : Token → Option E} {close : Token → Option F} → Gives P D → Gives (AllByRecursion P) (Following D comma close)
following_stand g free s r xs (following_end c) = tt
following_stand g free s r xs (following {mid = m} {q = q} {x = x} {xs = ys} c d ds) = (g free m q x d, following_stand g free q r ys ds)

-- ---- statements

local_head : {free : ℕ} {s r : List Token} {x : Statement} → Local free s x r → IsHead x × HeadsStand x
local_head (declares t n e) = (tt, tt)
local_head (begins t n a x e) = (tt, tt)

assign_head : {free : ℕ} {s r : List Token} {x : Statement} → Assign free s x r → IsHead x × HeadsStand x
assign_head (assigns t is c) = (tt, tt)

line_head : {free : ℕ} {s r : List Token} {x : Statement} → AssignLine free s x r → IsHead x × HeadsStand x
line_head (assign_line d e) = assign_head d

first_head : {free : ℕ} {s r : List Token} {x : Statement} → First free s x r → IsHead x
first_head (first_local d) = (local_head d).0
first_head (first_assign d) = (line_head d).0

mutual
  stands : {depth free : ℕ} {s r : List Token} {x : Statement} → Stmt depth free s x r → HeadsStand x
  stands (nothing p) = tt
  stands (a_block n o d) = all_stand d
  stands (an_assign d) = (line_head d).1
  stands (a_call d is e) = tt
  stands (an_if n k o e c d) = stands d
  stands (an_if_else n k o e c d closed l b) = (stands d, stands b)
  stands (a_while n k o e c d) = stands d
  stands (a_for n k o f e m a c d) = (first_head f, (assign_head a).0, stands d)
  stands (a_return k e m) = tt
  stands (a_print k o e c m) = tt

  item_stands : {depth free : ℕ} {s r : List Token} {x : Statement} → Item depth free s x r → HeadsStand x
  item_stands (a_local d) = (local_head d).1
  item_stands (a_statement d) = stands d

  all_stand : {depth free : ℕ} {s r : List Token} {xs : List Statement} → Items depth free s xs r → AllHeadsStand (statements xs)
  all_stand (items_end c) = tt
  all_stand (items_and d ds) = (item_stands d, all_stand ds)

-- ---- members and classes

abbrev MemberStands : MemberTree → Type 0
MemberStands (field_member f) = Unit {0}
MemberStands (method_member m) = AllHeadsStand m.body

abbrev ClassStands : ClassTree → Type 0
ClassStands c = AllByRecursion MemberStands c.members

signature_stands : {free : ℕ} {s r : List Token} {m : List ParamNode × List Statement} → Signature free s m r → AllHeadsStand (statements m.1)
signature_stands (signature o p b d) = all_stand d

further_stands : (ty : TypeNode) → Gives MemberStands (Further ty)
further_stands ty free s r x (further_plain is n l) = tt
further_stands ty free s r x (further_pointer is t n l) = tt

member_stands : Gives (AllByRecursion MemberStands) Member
member_stands free s r xs (fields {s3 = s3} {ty = ty} {fs = fs} t n l ds) = (tt, following_stand (further_stands ty.0) free s3 r fs ds)
member_stands free s r xs (operation v n d) = (signature_stands d, tt)
member_stands free s r xs (value_method t n d) = (signature_stands d, tt)

declaration_stands : Gives (AllByRecursion ClassStands) Declaration
declaration_stands free s r xs (forward c n e) = tt
declaration_stands free s r xs (a_class {s5 = s5} {s6 = s6} {ms = ms} c n o p d m e) = (lines_stand member_stands free s5 s6 ms m, tt)

with_operation : (ty : Option TypeNode) (m : MethodTree) (ms : List MethodTree) → AllHeadsStand m.body → AllByRecursion BodyHeadsStand ms → AllByRecursion BodyHeadsStand (operation_and ty m ms)
with_operation None m ms h all = (h, all)
with_operation (Some ty) m ms h all = all

operations : (ms : List MemberTree) → AllByRecursion MemberStands ms → AllByRecursion BodyHeadsStand (operations_in ms)
operations [] h = tt
operations (field_member f ∷ ms) h = operations ms h.1
operations (method_member m ∷ ms) h = with_operation m.result m (operations_in ms) h.0 (operations ms h.1)

all_operations : (cs : List ClassTree) → AllByRecursion ClassStands cs → AllByRecursion BodyHeadsStand (operations_of cs)
all_operations [] h = tt
all_operations (c ∷ cs) h = all_append BodyHeadsStand (operations_in c.members) (operations_of cs) (operations c.members h.0) (all_operations cs h.1)

-- ---- the whole

abbrev MainStands : Statement × Bool → Type 0
MainStands x = HeadsStand x.0

main_item_stands : Gives MainStands MainItem
main_item_stands free s r x (main_item d) = item_stands d

last_stands : (b : Bool) (x : Statement) → HeadsStand x → AllHeadsStand (statements (cond b [] (x ∷ [])))
last_stands true x f = tt
last_stands false x f = (f, tt)

kept_stand : (xs : List (Statement × Bool)) → AllByRecursion MainStands xs → AllHeadsStand (statements (kept xs))
kept_stand [] f = tt
kept_stand (x ∷ []) f = last_stands x.1 x.0 f.0
kept_stand (x ∷ y ∷ xs) f = (f.0, kept_stand (y ∷ xs) f.1)

pub heads_stand : (free : ℕ) (ts : List Token) (t : TextTree) → DerivesFree free ts t → TreeHeadsStand t
heads_stand free ts t (program {s1 = s1} {s5 = s5} {cs = cs} {xs = xs} ds m o c b d) =
    record { operations = all_operations cs (lines_stand declaration_stands free ts s1 cs ds); main = kept_stand xs (lines_stand (one_stands main_item_stands) free s5 [] xs d) }
