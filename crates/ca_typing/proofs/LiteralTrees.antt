-- Where each number and each word among the tokens fits, each number in an expression of their tree does, and each name of a
-- class or method.
use Rattle.std.proofs.Common.{ℕ, pos, List, [], ◌∷◌, Bool, true, false, Option, Some, None, cond, subst, arith}
use Rattle.std.specs.Prelude.{ℤ}
use Rattle.std.specs.Int.{w64}
use Rattle.std.specs.List.{AllByRecursion}
use Rattle.std.proofs.lemmas.Int.{fits_signed_from_abs}
use Rattle.ca_lists.proofs.Places.{all_append}
use Rattle.ca_descent.specs.Exact.{Sees, sees, Following, following_end, following, separated_none, separated}
use Rattle.ca_tree.specs.declared.name.Place.{Place}
use Rattle.ca_tree.specs.declared.token.Kind.{Kind}
use Rattle.ca_tree.specs.declared.token.Kind.TheVariants.{Word, Number, Key, Sign}
use Rattle.ca_tree.specs.declared.token.Token.{Token}
use Rattle.ca_tree.specs.declared.tree.TypeNode.{TypeNode}
use Rattle.ca_tree.specs.declared.tree.ParamNode.{ParamNode}
use Rattle.ca_tree.specs.declared.tree.AssignOp.{AssignOp}
use Rattle.ca_tree.specs.Plain.{RightSide, Statement, TextTree}
use Rattle.ca_parse.specs.Grammar.{Deriving, statements, TypeName, long, bool, pointer, Right, expression, creation, creation_call, Local, declares, begins, Change, puts, changes, increments, decrements, Assign, assigns, AssignLine, assign_line, First, first_local, first_assign, Stmt, nothing, a_block, an_assign, a_call, an_if, an_if_else, a_while, a_for, a_return, a_print, Item, a_local, a_statement, Items, items_end, items_and, Lines, lines_end, lines_and, One, one, Listed, Param, param, Signature, signature, Length, scalar, array, Further, further_plain, further_pointer, Member, fields, operation, value_method, Declaration, forward, a_class, MainItem, main_item, kept, program, DerivesFree}
use Rattle.ca_expressions.specs.Terminals.{name, name_of}
use Rattle.ca_typing.specs.Names.{IsName}
use Rattle.ca_typing.proofs.Fits.{KindFits, TokensFit, RightFits, StatementFits, StatementsFit, MemberFits, ClassFits, LiteralsFit}
use Rattle.ca_typing.proofs.LiteralExpressions.{behind, expression_fits, outer_chain_fits}

-- whatever D derives, P holds of it, and what stands behind fits
abbrev Gives : {A : Type 0} → (A → Type 0) → Deriving A → Type 0
Gives {A} P D = (free : ℕ) (s r : List Token) (x : A) → D free s x r → TokensFit s → P x × TokensFit r

abbrev Any : {A : Type 0} → A → Type 0
Any x = Unit {0}

lines_fit : {A B : Type 0} {P : A → Type 0} {D : Deriving (List A)} {close : Token → Option B} → Gives (AllByRecursion P) D → Gives (AllByRecursion P) (Lines D close)
lines_fit g free s r xs (lines_end c) h = (tt, behind c h)
lines_fit {P = P} g free s r xs (lines_and {q = q} {xs = us} {ys = vs} d ds) h =
    let first = g free s q us d h in
    let rest = lines_fit g free q r vs ds first.1 in
    (all_append P us vs first.0 rest.0, rest.1)

one_fits : {A : Type 0} {P : A → Type 0} {D : Deriving A} → Gives P D → Gives (AllByRecursion P) (One D)
one_fits g free s r xs (one {x = x} d) h = let it = g free s r x d h in ((it.0, tt), it.1)

following_fit : {A E F : Type 0} {P : A → Type 0} {D : Deriving A} {comma : Token → Option E} {close : Token → Option F} → Gives P D → Gives (AllByRecursion P) (Following D comma close)
following_fit g free s r xs (following_end c) h = (tt, behind c h)
following_fit g free s r xs (following {mid = m} {q = q} {x = x} {xs = ys} c d ds) h =
    let first = g free m q x d (behind c h) in
    let rest = following_fit g free q r ys ds first.1 in
    ((first.0, rest.0), rest.1)

listed_fit : {A : Type 0} {P : A → Type 0} {D : Deriving A} → Gives P D → Gives (AllByRecursion P) (Listed D)
listed_fit g free s r xs (separated_none c) h = (tt, behind c h)
listed_fit g free s r xs (separated {q = q} {x = x} {xs = ys} d ds) h =
    let first = g free s q x d h in
    let rest = following_fit g free q r ys ds first.1 in
    ((first.0, rest.0), rest.1)

type_fits : {free : ℕ} {s r : List Token} {ty : TypeNode × Place} → TypeName free s ty r → TokensFit s → TokensFit r
type_fits (long k) h = behind k h
type_fits (bool k) h = behind k h
type_fits (pointer n t) h = behind t (behind n h)

right_fits : {free : ℕ} {s r : List Token} {x : RightSide} → Right free s x r → TokensFit s → RightFits x × TokensFit r
right_fits (expression e) h = expression_fits e h
right_fits (creation w n) h = (tt, behind n (behind w h))
right_fits (creation_call w n o c) h = (tt, behind c (behind o (behind n (behind w h))))

local_fits : {free : ℕ} {s r : List Token} {x : Statement} → Local free s x r → TokensFit s → StatementFits x × TokensFit r
local_fits (declares t n e) h = (tt, behind e (behind n (type_fits t h)))
local_fits (begins t n a x e) h = let start = right_fits x (behind a (behind n (type_fits t h))) in (start.0, behind e start.1)

change_fits : {free : ℕ} {s r : List Token} {c : AssignOp × RightSide} → Change free s c r → TokensFit s → RightFits c.1 × TokensFit r
change_fits (puts a x) h = right_fits x (behind a h)
change_fits (changes c e) h = expression_fits e (behind c h)
change_fits (increments p) h = (fits_signed_from_abs w64 (pos 1) (omega arith), behind p h)
change_fits (decrements p) h = (fits_signed_from_abs w64 (pos 1) (omega arith), behind p h)

assign_fits : {free : ℕ} {s r : List Token} {x : Statement} → Assign free s x r → TokensFit s → StatementFits x × TokensFit r
assign_fits (assigns t is c) h =
    let target = outer_chain_fits t h in
    let change = change_fits c target.1 in
    ((target.0, change.0), change.1)

assign_line_fits : {free : ℕ} {s r : List Token} {x : Statement} → AssignLine free s x r → TokensFit s → StatementFits x × TokensFit r
assign_line_fits (assign_line d e) h = let it = assign_fits d h in (it.0, behind e it.1)

first_fits : {free : ℕ} {s r : List Token} {x : Statement} → First free s x r → TokensFit s → StatementFits x × TokensFit r
first_fits (first_local d) h = local_fits d h
first_fits (first_assign d) h = assign_line_fits d h

mutual
  statement_fits : {depth free : ℕ} {s r : List Token} {x : Statement} → Stmt depth free s x r → TokensFit s → StatementFits x × TokensFit r
  statement_fits (nothing p) h = (tt, behind p h)
  statement_fits (a_block n o d) h = items_fit d (behind o h)
  statement_fits (an_assign d) h = assign_line_fits d h
  statement_fits (a_call d is e) h = let call = outer_chain_fits d h in (call.0, behind e call.1)
  statement_fits (an_if n k o e c d) h =
      let test = expression_fits e (behind o (behind k h)) in
      let then = statement_fits d (behind c test.1) in
      ((test.0, then.0), then.1)
  statement_fits (an_if_else n k o e c d closed l b) h =
      let test = expression_fits e (behind o (behind k h)) in
      let then = statement_fits d (behind c test.1) in
      let other = statement_fits b (behind l then.1) in
      ((test.0, then.0, other.0), other.1)
  statement_fits (a_while n k o e c d) h =
      let test = expression_fits e (behind o (behind k h)) in
      let body = statement_fits d (behind c test.1) in
      ((test.0, body.0), body.1)
  statement_fits (a_for n k o f e m a c d) h =
      let start = first_fits f (behind o (behind k h)) in
      let test = expression_fits e start.1 in
      let step = assign_fits a (behind m test.1) in
      let body = statement_fits d (behind c step.1) in
      ((start.0, test.0, step.0, body.0), body.1)
  statement_fits (a_return k e m) h = let it = expression_fits e (behind k h) in (it.0, behind m it.1)
  statement_fits (a_print k o e c m) h =
      let it = expression_fits e (behind o (behind k h)) in
      (it.0, behind m (behind c it.1))

  item_fits : {depth free : ℕ} {s r : List Token} {x : Statement} → Item depth free s x r → TokensFit s → StatementFits x × TokensFit r
  item_fits (a_local d) h = local_fits d h
  item_fits (a_statement d) h = statement_fits d h

  items_fit : {depth free : ℕ} {s r : List Token} {xs : List Statement} → Items depth free s xs r → TokensFit s → StatementsFit (statements xs) × TokensFit r
  items_fit (items_end c) h = (tt, behind c h)
  items_fit (items_and d ds) h = let first = item_fits d h in let rest = items_fit ds first.1 in ((first.0, rest.0), rest.1)

-- what a token carries is a name, if it carries one
abbrev CarriedName : Option (List ℕ × Place) → Type 0
CarriedName None = Unit {0}
CarriedName (Some x) = IsName x.0

kind_name : (k : Kind) (at : Place) → KindFits k → CarriedName (name_of k at)
kind_name (Word n) at h = h
kind_name (Number n) at h = tt
kind_name (Key k) at h = tt
kind_name (Sign s) at h = tt

name_fits : {s r : List Token} {x : List ℕ × Place} → Sees name s x r → TokensFit s → IsName x.0
name_fits (sees {t = t} e) h = subst CarriedName e (kind_name t.kind t.at h.0)

param_fits : Gives Any Param
param_fits free s r x (param t n) h = (tt, behind n (type_fits t h))

signature_fits : {free : ℕ} {s r : List Token} {m : List ParamNode × List Statement} → Signature free s m r → TokensFit s → StatementsFit (statements m.1) × TokensFit r
signature_fits {free} (signature {s1 = s1} {s2 = s2} {ps = ps} o p b d) h =
    items_fit d (behind b (listed_fit param_fits free s1 s2 ps p (behind o h)).1)

length_fits : {free : ℕ} {s r : List Token} {l : Option ℤ} → Length free s l r → TokensFit s → TokensFit r
length_fits scalar h = h
length_fits (array o n c) h = behind c (behind n (behind o h))

further_fits : (ty : TypeNode) → Gives MemberFits (Further ty)
further_fits ty free s r x (further_plain is n l) h = (tt, length_fits l (behind n h))
further_fits ty free s r x (further_pointer is t n l) h = (tt, length_fits l (behind n (behind t h)))

member_fits : Gives (AllByRecursion MemberFits) Member
member_fits free s r xs (fields {s3 = s3} {ty = ty} {fs = fs} t n l ds) h =
    let rest = following_fit (further_fits ty.0) free s3 r fs ds (length_fits l (behind n (type_fits t h))) in
    ((tt, rest.0), rest.1)
member_fits free s r xs (operation v n d) h = let body = signature_fits d (behind n (behind v h)) in (((name_fits n (behind v h), body.0), tt), body.1)
member_fits free s r xs (value_method t n d) h = let body = signature_fits d (behind n (type_fits t h)) in (((name_fits n (type_fits t h), body.0), tt), body.1)

declaration_fits : Gives (AllByRecursion ClassFits) Declaration
declaration_fits free s r xs (forward c n e) h = (tt, behind e (behind n (behind c h)))
declaration_fits free s r xs (a_class {s5 = s5} {s6 = s6} {ms = ms} c n o p d m e) h =
    let all = lines_fit member_fits free s5 s6 ms m (behind d (behind p (behind o (behind n (behind c h))))) in
    (((name_fits n (behind c h), all.0), tt), behind e all.1)

abbrev MainFits : Statement × Bool → Type 0
MainFits x = StatementFits x.0

main_item_fits : Gives MainFits MainItem
main_item_fits free s r x (main_item d) h = item_fits d h

last_fits : (b : Bool) (x : Statement) → StatementFits x → StatementsFit (statements (cond b [] (x ∷ [])))
last_fits true x f = tt
last_fits false x f = (f, tt)

kept_fits : (xs : List (Statement × Bool)) → AllByRecursion MainFits xs → StatementsFit (statements (kept xs))
kept_fits [] f = tt
kept_fits (x ∷ []) f = last_fits x.1 x.0 f.0
kept_fits (x ∷ y ∷ xs) f = (f.0, kept_fits (y ∷ xs) f.1)

pub tree_fits : {free : ℕ} {ts : List Token} {t : TextTree} → DerivesFree free ts t → TokensFit ts → LiteralsFit t
tree_fits {free} {ts} (program {s1 = s1} {s5 = s5} {cs = cs} {xs = xs} ds m o c b d) h =
    let classes = lines_fit declaration_fits free ts s1 cs ds h in
    let main = lines_fit (one_fits main_item_fits) free s5 [] xs d (behind b (behind c (behind o (behind m classes.1)))) in
    record { classes = classes.0; main = kept_fits xs main.0 }
