-- The names of classes and operations are those of the tree.
use Rattle.std.proofs.Common.{◌≡◌, ℕ, List, [], ◌∷◌, Option, Some, None}
use Rattle.std.specs.List.{AllByRecursion}
use Rattle.ca_lists.proofs.Places.{all_append}
use Rattle.ca_tree.specs.Plain.{MethodTree, MemberTree, ClassTree, TextTree, field_member, method_member}
use Rattle.ca_tree.specs.declared.token.Token.{Token}
use Rattle.ca_program.specs.declared.program.ValueType.{ValueType}
use Rattle.ca_program.specs.Plain.{PlainProgram, PlainClass, PlainMethod}
use Rattle.ca_program.specs.Plain as program
use Rattle.ca_lex.specs.Tokens.{Tokens}
use Rattle.ca_parse.specs.Grammar.{DerivesFree}
use Rattle.ca_resolve.specs.Judged.{Judged, fine, both, unless, beside, each}
use Rattle.ca_resolve.specs.Scopes.{classes_of}
use Rattle.ca_resolve.proofs.Holding.{Holds, within_any, both_hold, of_fine, within_holds}
use Rattle.ca_types.specs.Rules.{class_once, member_once, class_limit}
use Rattle.ca_types.specs.Classes.{MemberEnv, Member, a_field, a_method, Members, members_of, method_and, judge_field_member, judge_method, judge_member, judge_members, judge_parts, method_of, method_limit, behind_member, along, ClassEnv, class_begin, behind_class, judge_class, judge_named, judge_classes, Parts, parts_of, first_class, judge, program_of, main_begin}
use Rattle.ca_types.specs.Statements.{judge_statements, behind_all}
use Rattle.ca_typing.specs.Names.{IsName, NamesSpelled}
use Rattle.ca_typing.proofs.Fits.{MemberFits, ClassFits, LiteralsFit}
use Rattle.ca_typing.proofs.Lists.{all_at}
use Rattle.ca_typing.proofs.LiteralTokens.{tokens_fit}
use Rattle.ca_typing.proofs.LiteralTrees.{tree_fits}
use Rattle.ca_typing.proofs.Once.{first_holds, unless_told, beside_told}

abbrev IsSpelled : PlainMethod → Type 0
IsSpelled m = IsName m.name

abbrev AllSpelled : List PlainMethod → Type 0
AllSpelled = AllByRecursion IsSpelled

parts_spelled : (c : MemberEnv) (m : MethodTree) (parts : Judged (Option ValueType × (Unit {0} × List program.Statement))) → IsName m.name → Holds IsSpelled (judge_parts c m parts)
parts_spelled c m parts h =
    within_any IsSpelled (beside (method_limit c.numbers m.result m.at) parts) _
    (λ p. beside_told IsSpelled (member_once c.names c.number m.name m.at) _ (λ e. unless_told IsSpelled _ (method_of c m p.0 p.1.1) (λ g. h)))

abbrev OneSpelled : Member → Type 0
OneSpelled (a_field f) = Unit {0}
OneSpelled (a_method m) = IsName m.name

abbrev MembersSpelled : List Member → Type 0
MembersSpelled = AllByRecursion OneSpelled

member_spelled : (c : MemberEnv) (m : MemberTree) → MemberFits m → Holds OneSpelled (judge_member c m)
member_spelled c (field_member f) h = within_any OneSpelled (judge_field_member c f) (λ i. fine (a_field i)) (λ i. tt)
member_spelled c (method_member m) h = within_holds IsSpelled OneSpelled (judge_method c m) (λ x. fine (a_method x)) (parts_spelled c m _ h.0) (λ x k. k)

members_spelled : (c : MemberEnv) (ms : List MemberTree) → AllByRecursion MemberFits ms → Holds MembersSpelled (each (along behind_member judge_member c ms))
members_spelled c [] h = tt
members_spelled c (m ∷ ms) h =
    within_holds (λ (p : Member × List Member). OneSpelled p.0 × MembersSpelled p.1) MembersSpelled
    (both (judge_member c m) (each (along behind_member judge_member (behind_member c m) ms))) (λ p. fine (p.0 ∷ p.1))
    (both_hold OneSpelled MembersSpelled (judge_member c m) (each (along behind_member judge_member (behind_member c m) ms)) (member_spelled c m h.0) (members_spelled (behind_member c m) ms h.1))
    (λ p k. k)

with_method : (m : PlainMethod) (r : Option ValueType) (p : Members) → IsName m.name → AllSpelled p.ops → AllSpelled (method_and r m p).ops
with_method m None p n h = (n, h)
with_method m (Some t) p n h = h

ops_spelled : (xs : List Member) → MembersSpelled xs → AllSpelled (members_of xs).ops
ops_spelled [] h = tt
ops_spelled (a_field f ∷ xs) h = ops_spelled xs h.1
ops_spelled (a_method m ∷ xs) h = with_method m m.result (members_of xs) h.0 (ops_spelled xs h.1)

abbrev OpsSpelled : Members → Type 0
OpsSpelled m = AllSpelled m.ops

abbrev OneClass : List ℕ × Members → Type 0
OneClass x = IsName x.0 × AllSpelled x.1.ops

class_spelled : (c : ClassEnv) (t : ClassTree) → ClassFits t → Holds OneClass (judge_named c t)
class_spelled c t h =
    within_holds OpsSpelled OneClass (judge_class c t) (λ m. fine (t.name, m))
    (within_holds OpsSpelled OpsSpelled (beside (class_limit c.number t.at) (judge_members (class_begin c t.members) t.members)) (λ p. unless (class_once c.classes.names c.number t.name t.at) p)
    (beside_told OpsSpelled (class_limit c.number t.at) (judge_members (class_begin c t.members) t.members) (λ g. inside))
    (λ m k. unless_told OpsSpelled (class_once c.classes.names c.number t.name t.at) m (λ g. k)))
    (λ m k. (h.0, k))
  where
    inside : Holds OpsSpelled (judge_members (class_begin c t.members) t.members)
    inside = within_holds MembersSpelled OpsSpelled (each (along behind_member judge_member (class_begin c t.members) t.members)) (λ xs. fine (members_of xs))
        (members_spelled (class_begin c t.members) t.members h.1) (λ xs k. ops_spelled xs k)

abbrev ClassesSpelled : List (List ℕ × Members) → Type 0
ClassesSpelled = AllByRecursion OneClass

classes_spelled : (c : ClassEnv) (ts : List ClassTree) → AllByRecursion ClassFits ts → Holds ClassesSpelled (each (along behind_class judge_named c ts))
classes_spelled c [] h = tt
classes_spelled c (t ∷ ts) h =
    within_holds (λ (p : (List ℕ × Members) × List (List ℕ × Members)). OneClass p.0 × ClassesSpelled p.1) ClassesSpelled
    (both (judge_named c t) (each (along behind_class judge_named (behind_class c t) ts))) (λ p. fine (p.0 ∷ p.1))
    (both_hold OneClass ClassesSpelled (judge_named c t) (each (along behind_class judge_named (behind_class c t) ts)) (class_spelled c t h.0) (classes_spelled (behind_class c t) ts h.1))
    (λ p k. k)

abbrev ClassName : PlainClass → Type 0
ClassName c = IsName c.name

class_names : (xs : List (List ℕ × Members)) → ClassesSpelled xs → AllByRecursion ClassName (parts_of xs).classes
class_names [] h = tt
class_names (x ∷ xs) h = (h.0.0, class_names xs h.1)

op_names : (xs : List (List ℕ × Members)) → ClassesSpelled xs → AllSpelled (parts_of xs).ops
op_names [] h = tt
op_names (x ∷ xs) h = all_append IsSpelled x.1.ops (parts_of xs).ops h.0.1 (op_names xs h.1)

abbrev PartsSpelled : Parts → Type 0
PartsSpelled x = AllByRecursion ClassName x.classes × AllSpelled x.ops

tree_spelled : (tree : TextTree) (p : PlainProgram) → LiteralsFit tree → judge tree ≡ fine p → NamesSpelled p
tree_spelled tree p fits h = of_fine NamesSpelled (judge tree) p
    (within_holds (λ (x : Parts × List program.Statement). PartsSpelled x.0) NamesSpelled
    (both (judge_classes (first_class (classes_of tree.classes)) tree.classes) (judge_statements (main_begin tree) tree.main)) (λ x. fine (program_of (behind_all (main_begin tree) tree.main).locals x))
    (first_holds PartsSpelled (judge_classes (first_class (classes_of tree.classes)) tree.classes) (judge_statements (main_begin tree) tree.main) parts)
    (λ x k. record { classes = λ i c e. all_at ClassName x.0.classes i c k.0 e; ops = λ i m e. all_at IsSpelled x.0.ops i m k.1 e })) h
  where
    parts : Holds PartsSpelled (judge_classes (first_class (classes_of tree.classes)) tree.classes)
    parts = within_holds ClassesSpelled PartsSpelled (each (along behind_class judge_named (first_class (classes_of tree.classes)) tree.classes)) (λ cs. fine (parts_of cs))
        (classes_spelled (first_class (classes_of tree.classes)) tree.classes fits.classes) (λ cs k. (class_names cs k, op_names cs k))

pub names_spelled : (text : List ℕ) (tokens : List Token) (free : ℕ) (tree : TextTree) (p : PlainProgram) → Tokens text tokens → DerivesFree free tokens tree → judge tree ≡ fine p → NamesSpelled p
names_spelled text tokens free tree p t d judged = tree_spelled tree p (tree_fits d (tokens_fit t)) judged
