-- What is gathered item by item is what all items make, each judged where it stands.
use Rattle.std.proofs.Common.{◌≡◌, ℕ, List, [], ◌∷◌, ◌++◌, refl, sym, ◌∙◌, ap, append_assoc, append-nil}
use Rattle.std.specs.Prelude.{Option, Some, None}
use Rattle.ca_tree.specs.declared.tree.ParamNode.{ParamNode}
use Rattle.ca_tree.specs.Plain.{MemberTree, ClassTree, field_member, method_member}
use Rattle.ca_program.specs.declared.program.ValueType.{ValueType}
use Rattle.ca_program.specs.Plain as program
use Rattle.ca_resolve.specs.Judged.{Judged, fine, faulty, violations, both, within, each}
use Rattle.ca_resolve.proofs.Judging.{both_violations}
use Rattle.ca_types.specs.Statements.{Env}
use Rattle.ca_types.specs.Classes.{along, behind_parameter, judge_parameter, judge_parameters, MemberEnv, judge_field_member, judge_method, Member, a_field, a_method, Members, no_members, method_and, members_of, behind_member, judge_member, judge_members, ClassEnv, behind_class, judge_class, judge_named, Parts, no_parts, parts_of, judge_classes}
use Rattle.ca_types.specs.clauses.Adding.{gathered, add_parameter, with_field, with_method, add_member, with_class, add_class}
use Rattle.ca_types.proofs.Room.{members_are, parts_are}

-- items put to what stands in front, one behind the other
abbrev folded : {A B : Type 0} → (A → B → A) → A → List B → A
folded put a [] = a
folded put a (b ∷ bs) = folded put (put a b) bs

made_violations : {A B : Type 0} (j : Judged A) (f : A → B) → violations (within j (λ a. fine (f a))) ≡ violations j
made_violations (fine a) f = refl
made_violations (faulty v vs) f = refl

made_inside : {A B C D : Type 0} (j : Judged A) (k : Judged B) (g : B → C) (put : A → C → D)
    → within (both j k) (λ p. fine (put p.0 (g p.1))) ≡ within (both j (within k (λ b. fine (g b)))) (λ p. fine (put p.0 p.1))
made_inside (fine a) (fine b) g put = refl
made_inside (fine a) (faulty u us) g put = refl
made_inside (faulty v vs) k g put = ap (λ us. faulty v (vs ++ us)) (sym (made_violations k g))

gather_none : {A B : Type 0} (put : A → B → A) (j : Judged A) → j ≡ within (both j (fine [])) (λ p. fine (folded put p.0 p.1))
gather_none put (fine a) = refl
gather_none put (faulty v vs) = ap (λ us. faulty v us) (sym (append-nil vs))

gather_one : {A B : Type 0} (put : A → B → A) (j : Judged A) (k : Judged B) (ks : Judged (List B))
    → within (both (within (both j k) (λ p. fine (put p.0 p.1))) ks) (λ p. fine (folded put p.0 p.1)) ≡ within (both j (within (both k ks) (λ p. fine (p.0 ∷ p.1)))) (λ p. fine (folded put p.0 p.1))
gather_one put (fine a) (fine b) (fine bs) = refl
gather_one put (fine a) (fine b) (faulty u us) = refl
gather_one put (fine a) (faulty v vs) ks = refl
gather_one put (faulty v vs) k ks =
    ap (λ us. faulty v us)
    (append_assoc vs (violations k) (violations ks)
    ∙ ap (λ us. vs ++ us) (sym (made_violations (both k ks) (λ (p : _ × List _). p.0 ∷ p.1) ∙ both_violations k ks)))

gather_is : {S T A B : Type 0} (next : S → T → S) (judge : S → T → Judged B) (put : A → B → A) (add : S → Judged A → T → Judged A)
    → ((s : S) (j : Judged A) (x : T) → add s j x ≡ within (both j (judge s x)) (λ p. fine (put p.0 p.1)))
    → (s : S) (j : Judged A) (xs : List T) → gathered next add s j xs ≡ within (both j (each (along next judge s xs))) (λ p. fine (folded put p.0 p.1))
gather_is next judge put add is s j [] = gather_none put j
gather_is next judge put add is s j (x ∷ xs) =
    let rest = each (along next judge (next s x) xs) in
    gather_is next judge put add is (next s x) (add s j x) xs
    ∙ (ap (λ i. within (both i rest) (λ p. fine (folded put p.0 p.1))) (is s j x) ∙ gather_one put j (judge s x) rest)

from_start : {A B : Type 0} (put : A → B → A) (a : A) (f : List B → A) (ks : Judged (List B)) → ((bs : List B) → folded put a bs ≡ f bs)
    → within (both (fine a) ks) (λ p. fine (folded put p.0 p.1)) ≡ within ks (λ bs. fine (f bs))
from_start put a f (fine bs) h = ap (λ b. fine b) (h bs)
from_start put a f (faulty v vs) h = refl

-- parameters

one_unit : (u : Unit {0}) (ts : List ValueType) → folded (λ a t. a) u ts ≡ u
one_unit u [] = refl
one_unit u (t ∷ ts) = one_unit u ts

pub parameters_gathered : (c : Env) (ps : List ParamNode) → judge_parameters c ps ≡ gathered behind_parameter add_parameter c (fine tt) ps
parameters_gathered c ps =
    let put : Unit {0} → ValueType → Unit {0} = λ u t. u in
    sym (gather_is behind_parameter judge_parameter put add_parameter (λ s j x. refl) c (fine tt) ps
    ∙ from_start put tt (λ ts. tt) (each (along behind_parameter judge_parameter c ps)) (one_unit tt))

-- members

abbrev with_member : Members → Member → Members
with_member p (a_field f) = with_field p f
with_member p (a_method m) = with_method p m.result m

member_added : (c : MemberEnv) (j : Judged Members) (x : MemberTree) → add_member c j x ≡ within (both j (judge_member c x)) (λ p. fine (with_member p.0 p.1))
member_added c j (field_member f) = made_inside j (judge_field_member c f) (λ i. a_field i) with_member
member_added c j (method_member m) = made_inside j (judge_method c m) (λ i. a_method i) with_member

abbrev joined_members : Members → Members → Members
joined_members a b = record { fields = a.fields ++ b.fields; ops = a.ops ++ b.ops; functions = a.functions ++ b.functions }

method_joined : (o : Option ValueType) (m : program.PlainMethod) (a r : Members) → joined_members (with_method a o m) r ≡ joined_members a (method_and o m r)
method_joined None m a r = members_are _ _ _ _ _ _ refl (append_assoc a.ops (m ∷ []) r.ops) refl
method_joined (Some t) m a r = members_are _ _ _ _ _ _ refl refl (append_assoc a.functions (m ∷ []) r.functions)

members_made : (a : Members) (xs : List Member) → folded with_member a xs ≡ joined_members a (members_of xs)
members_made a [] = members_are _ _ _ _ _ _ (sym (append-nil a.fields)) (sym (append-nil a.ops)) (sym (append-nil a.functions))
members_made a (a_field f ∷ xs) = members_made (with_field a f) xs ∙ members_are _ _ _ _ _ _ (append_assoc a.fields (f ∷ []) (members_of xs).fields) refl refl
members_made a (a_method m ∷ xs) = members_made (with_method a m.result m) xs ∙ method_joined m.result m a (members_of xs)

pub members_gathered : (c : MemberEnv) (ms : List MemberTree) → judge_members c ms ≡ gathered behind_member add_member c (fine no_members) ms
members_gathered c ms =
    sym (gather_is behind_member judge_member with_member add_member member_added c (fine no_members) ms
    ∙ from_start with_member no_members members_of (each (along behind_member judge_member c ms)) (members_made no_members))

-- classes

abbrev with_part : Parts → List ℕ × Members → Parts
with_part p c = with_class p c.0 c.1

class_added : (c : ClassEnv) (j : Judged Parts) (t : ClassTree) → add_class c j t ≡ within (both j (judge_named c t)) (λ p. fine (with_part p.0 p.1))
class_added c j t = made_inside j (judge_class c t) (λ m. (t.name, m)) with_part

abbrev joined_parts : Parts → Parts → Parts
joined_parts a b = record { classes = a.classes ++ b.classes; ops = a.ops ++ b.ops; functions = a.functions ++ b.functions }

parts_made : (a : Parts) (cs : List (List ℕ × Members)) → folded with_part a cs ≡ joined_parts a (parts_of cs)
parts_made a [] = parts_are _ _ _ _ _ _ (sym (append-nil a.classes)) (sym (append-nil a.ops)) (sym (append-nil a.functions))
parts_made a (c ∷ cs) =
    let r = parts_of cs in
    parts_made (with_part a c) cs
    ∙ parts_are _ _ _ _ _ _ (append_assoc a.classes (record { name = c.0; fields = c.1.fields } ∷ []) r.classes) (append_assoc a.ops c.1.ops r.ops) (append_assoc a.functions c.1.functions r.functions)

pub classes_gathered : (c : ClassEnv) (ts : List ClassTree) → judge_classes c ts ≡ gathered behind_class add_class c (fine no_parts) ts
classes_gathered c ts =
    sym (gather_is behind_class judge_named with_part add_class class_added c (fine no_parts) ts
    ∙ from_start with_part no_parts parts_of (each (along behind_class judge_named c ts)) (parts_made no_parts))
