-- Each class that the tokens of a text derive is read back.
use Rattle.std.proofs.Common.{◌≡◌, ℕ, ℤ, ◌≤◌, List, [], ◌∷◌, ◌++◌, map, length, refl, sym, ap, ◌∙◌, subst, append_assoc}
use Rattle.std.specs.Prelude.{Option, Some, None}
use Rattle.std.proofs.lemmas.List.{map-append}
use Rattle.ca_descent.specs.Exact.{Unlimited, Sees, Following, following_end, following, separated_none, separated}
use Rattle.ca_tree.specs.declared.name.Place.{Place}
use Rattle.ca_tree.specs.declared.token.Kind.{Kind}
use Rattle.ca_tree.specs.declared.token.Kind.TheVariants.{Key, Sign}
use Rattle.ca_tree.specs.declared.token.Keyword.TheVariants as key
use Rattle.ca_tree.specs.declared.token.Sign.TheVariants as sign
use Rattle.ca_tree.specs.declared.token.Token.{Token}
use Rattle.ca_tree.specs.declared.tree.TypeNode.{TypeNode}
use Rattle.ca_tree.specs.declared.tree.FieldNode.{FieldNode}
use Rattle.ca_tree.specs.declared.tree.ParamNode.{ParamNode}
use Rattle.ca_tree.specs.Plain.{Statement, Statements, MethodTree, MemberTree, ClassTree, field_member, method_member}
use Rattle.ca_expressions.specs.Terminals as terminal
use Rattle.ca_parse.specs.Grammar.{statements, Param, param, Signature, signature, Length, scalar, array, Further, further_plain, further_pointer, Member, fields, operation, value_method, Declaration, forward, a_class, Lines, lines_end, lines_and, Listed}
use Rattle.ca_canonical.specs.Spell.{spell_type, spell_statements, spell_length, spell_param, spell_other_params, spell_params, spell_member, spell_members, spell_class, spell_classes, in_braces, in_parentheses}
use Rattle.ca_canonical.specs.Bare.{bare_type, bare_statements, bare_param, bare_member, bare_class, nowhere}
use Rattle.ca_canonical.proofs.ReadBack.{IsName}
use Rattle.ca_canonical.proofs.Texts.{kinds, AllWritable}
use Rattle.ca_canonical.proofs.Fronts.{Spelled, Tree, Front, front_end, Free, lift, pair, by}
use Rattle.ca_canonical.proofs.Terminals.{AllRead, behind, name_read, number_read, a_sign, a_key, a_name, a_number}
use Rattle.ca_canonical.proofs.Operands.{writable_both, writable_brackets, Out}
use Rattle.ca_canonical.proofs.Lines.{GoodType, good_type, good_items}

a_mark : (k : _) → Spelled (Free (Unlimited (Sees (terminal.sign k)))) (λ p. Unit {0}) (Sign k ∷ [])
a_mark k = lift (a_sign k)

-- parameters

record GoodParam (p : ParamNode) : Type 0 where
  writable : AllWritable (spell_param p)
  reads : Spelled (Free Param) (λ q. bare_param q ≡ bare_param p) (spell_param p)

abbrev a_param : TypeNode → List ℕ → ParamNode
a_param ty n = record { ty = ty; name = n; at = nowhere }

good_param : {free : ℕ} {s r : List Token} {p : ParamNode} → AllRead s → Param free s p r → Out (GoodParam p) r
good_param h (param {ty = ty} {n = n} t d) =
    let o = good_type h t in
    record {
      good = record {
        writable = writable_both (spell_type ty.0) _ o.good.writable (name_read o.rest d, tt);
        reads = by (λ y. record { ty = y.0.0; name = y.1.0; at = y.1.1 }) (λ y free s r b w d. param d.first d.second)
            (λ y w. ap (λ z. a_param z y.1.0) w.0 ∙ ap (λ z. a_param (bare_type ty.0) z) w.1)
            (pair o.good.reads (lift (a_name n.0)));
      };
      rest = behind o.rest d;
    }

abbrev Comma : Token → Option Place
Comma = terminal.sign sign.Comma

abbrev Close : Token → Option Place
Close = terminal.sign sign.CloseParenthesis

record GoodOtherParams (ps : List ParamNode) : Type 0 where
  writable : AllWritable (spell_other_params ps)
  reads : Spelled (Free (Following Param Comma Close)) (λ qs. map bare_param qs ≡ map bare_param ps) (spell_other_params ps ++ Sign sign.CloseParenthesis ∷ [])

record GoodParams (ps : List ParamNode) : Type 0 where
  writable : AllWritable (spell_params ps)
  reads : Spelled (Free (Listed Param)) (λ qs. map bare_param qs ≡ map bare_param ps) (spell_params ps ++ Sign sign.CloseParenthesis ∷ [])

same_params : (p q : ParamNode) (ps qs : List ParamNode) → bare_param q ≡ bare_param p → map bare_param qs ≡ map bare_param ps → map bare_param (q ∷ qs) ≡ map bare_param (p ∷ ps)
same_params p q ps qs e f = ap (λ z. z ∷ map bare_param qs) e ∙ ap (λ z. bare_param p ∷ z) f

other_params : {free : ℕ} {s r : List Token} {ps : List ParamNode} → AllRead s → Following Param Comma Close free s ps r → Out (GoodOtherParams ps) r
other_params h (following_end d) = record { good = record { writable = tt; reads = by (λ p. []) (λ p free s r b w d. following_end d) (λ p w. refl) (a_mark sign.CloseParenthesis) }; rest = behind h d }
other_params h (following {x = p} {xs = ps} c d f) =
    let o = good_param (behind h c) d in
    let q = other_params o.rest f in
    record {
      good = record {
        writable = (tt, writable_both (spell_param p) (spell_other_params ps) o.good.writable q.good.writable);
        reads = subst (λ ks. Spelled (Free (Following Param Comma Close)) (λ qs. map bare_param qs ≡ map bare_param (p ∷ ps)) (Sign sign.Comma ∷ ks)) (sym (append_assoc (spell_param p) (spell_other_params ps) (Sign sign.CloseParenthesis ∷ [])))
            (by (λ y. y.1.0 ∷ y.1.1) (λ y free s r b w d. following d.first d.second.first d.second.second) (λ y w. same_params p y.1.0 ps y.1.1 w.1.0 w.1.1)
            (pair (a_mark sign.Comma) (pair o.good.reads q.good.reads)));
      };
      rest = q.rest;
    }

good_params : {free : ℕ} {s r : List Token} {ps : List ParamNode} → AllRead s → Listed Param free s ps r → Out (GoodParams ps) r
good_params h (separated_none d) = record { good = record { writable = tt; reads = by (λ p. []) (λ p free s r b w d. separated_none d) (λ p w. refl) (a_mark sign.CloseParenthesis) }; rest = behind h d }
good_params h (separated {x = p} {xs = ps} d f) =
    let o = good_param h d in
    let q = other_params o.rest f in
    record {
      good = record {
        writable = writable_both (spell_param p) (spell_other_params ps) o.good.writable q.good.writable;
        reads = subst (λ ks. Spelled (Free (Listed Param)) (λ qs. map bare_param qs ≡ map bare_param (p ∷ ps)) ks) (sym (append_assoc (spell_param p) (spell_other_params ps) (Sign sign.CloseParenthesis ∷ [])))
            (by (λ y. y.0 ∷ y.1) (λ y free s r b w d. separated d.first d.second) (λ y w. same_params p y.0 ps y.1 w.0 w.1)
            (pair o.good.reads q.good.reads));
      };
      rest = q.rest;
    }

-- what stands behind the name of a method

abbrev spell_signature : List ParamNode → List Statement → List Kind
spell_signature ps xs = in_parentheses (spell_params ps) ++ in_braces (spell_statements (statements xs))

record GoodSignature (ps : List ParamNode) (xs : List Statement) : Type 0 where
  writable : AllWritable (spell_signature ps xs)
  reads : Spelled (Free Signature) (λ m. (map bare_param m.0 ≡ map bare_param ps) × (bare_statements (statements m.1) ≡ bare_statements (statements xs))) (spell_signature ps xs)

good_signature : {free : ℕ} {s r : List Token} {m : List ParamNode × List Statement} → AllRead s → Signature free s m r → Out (GoodSignature m.0 m.1) r
good_signature h (signature {ps = ps} {xs = xs} o l b ds) =
    let p = good_params (behind h o) l in
    let q = good_items (behind p.rest b) ds in
    record {
      good = record {
        writable = writable_both (in_parentheses (spell_params ps)) _ (writable_brackets (spell_params ps) p.good.writable) (tt, writable_both (spell_statements (statements xs)) _ q.good.writable (tt, tt));
        reads = by (λ y. (y.0.1, y.1.1)) (λ y free s r b w d. signature d.first.first d.first.second d.second.first d.second.second) (λ y w. (w.0.1, w.1.1))
            (pair (pair (a_mark sign.OpenParenthesis) p.good.reads) (pair (a_mark sign.OpenBrace) (q.good.reads 1)));
      };
      rest = q.rest;
    }

-- members

record GoodLength (l : Option ℤ) : Type 0 where
  writable : AllWritable (spell_length l)
  reads : Spelled (Free Length) (λ m. m ≡ l) (spell_length l)

no_length : Spelled (Free Length) (λ m. m ≡ None) []
no_length = record { at = λ f e. at f e }
  where
    here : (s r : List Token) → Front [] s r → (free : ℕ) → length s ≤ free → Length free s None r
    here s r front_end free h = scalar

    at : (f : List Token) → kinds f ≡ [] → Tree (Free Length) (λ m. m ≡ None) f
    at [] e = record { tree = None; want = refl; derives = here }
    at (t ∷ f) e = cc

good_length : {free : ℕ} {s r : List Token} {l : Option ℤ} → AllRead s → Length free s l r → Out (GoodLength l) r
good_length h scalar = record { good = record { writable = tt; reads = no_length }; rest = h }
good_length h (array {n = n} o d c) = record {
  good = record {
    writable = (tt, (number_read (behind h o) d, (tt, tt)));
    reads = by (λ y. Some y.1.0.0) (λ y free s r b w d. array d.first d.second.first d.second.second) (λ y w. ap Some w.1.0) (pair (a_mark sign.OpenBracket) (pair (lift (a_number n.0)) (a_mark sign.CloseBracket)));
  };
  rest = behind (behind (behind h o) d) c;
}

pub record GoodMember (m : MemberTree) : Type 0 where
  pub writable : AllWritable (spell_member m)
  pub reads : Spelled (Free Member) (λ ms. map bare_member ms ≡ bare_member m ∷ []) (spell_member m)

pub data All {A : Type 0} (G : A → Type 0) : List A → Type 0 where
  all_none : All G []
  all_and : {x : A} {xs : List A} → G x → All G xs → All G (x ∷ xs)

pub all_both : {A : Type 0} {G : A → Type 0} {xs ys : List A} → All G xs → All G ys → All G (xs ++ ys)
all_both all_none h = h
all_both (all_and g gs) h = all_and g (all_both gs h)

abbrev a_field : TypeNode → List ℕ → Option ℤ → FieldNode
a_field ty n l = record { ty = ty; name = n; at = nowhere; length = l }

one_field : (ty : TypeNode) (n : List ℕ) (at : Place) (l : Option ℤ) → GoodType ty → IsName n → GoodLength l → GoodMember (field_member (record { ty = ty; name = n; at = at; length = l }))
one_field ty n at l g h i = record {
  writable = writable_both (spell_type ty) _ g.writable (h, writable_both (spell_length l) _ i.writable (tt, tt));
  reads = by (λ y. field_member (record { ty = y.0.0; name = y.1.0.0; at = y.1.0.1; length = y.1.1.0 }) ∷ []) (λ y free s r b w d. fields d.first d.second.first d.second.second.first (following_end d.second.second.second))
      (λ y w. ap (λ z. field_member (a_field z y.1.0.0 y.1.1.0) ∷ []) w.0 ∙ ap (λ z. field_member (a_field (bare_type ty) z y.1.1.0) ∷ []) w.1.0 ∙ ap (λ z. field_member (a_field (bare_type ty) n z) ∷ []) w.1.1.0)
      (pair g.reads (pair (lift (a_name n)) (pair i.reads (a_mark sign.Semicolon))));
}

further_fields : {ty : TypeNode} {free : ℕ} {s r : List Token} {fs : List MemberTree} → GoodType ty → AllRead s → Following (Further ty) Comma (terminal.sign sign.Semicolon) free s fs r → Out (All GoodMember fs) r
further_fields g h (following_end d) = record { good = all_none; rest = behind h d }
further_fields {ty = ty} g h (following c (further_plain {n = n} {l = l} p d e) f) =
    let o = good_length (behind (behind h c) d) e in
    let q = further_fields g o.rest f in
    record { good = all_and (one_field ty n.0 n.1 l g (name_read (behind h c) d) o.good) q.good; rest = q.rest }
further_fields {ty = ty} g h (following c (further_pointer {n = n} {l = l} p t d e) f) =
    let o = good_length (behind (behind (behind h c) t) d) e in
    let q = further_fields g o.rest f in
    record { good = all_and (one_field ty n.0 n.1 l g (name_read (behind (behind h c) t) d) o.good) q.good; rest = q.rest }

abbrev a_method : Option TypeNode → List ℕ → List ParamNode → Statements → MethodTree
a_method ty n ps body = record { result = ty; name = n; at = nowhere; params = ps; body = body }

same_method : (o : Option TypeNode) (m n : List ℕ) (ps qs : List ParamNode) (b c : Statements) → m ≡ n → ps ≡ qs → b ≡ c → method_member (a_method o m ps b) ∷ [] ≡ method_member (a_method o n qs c) ∷ []
same_method o m n ps qs b c e f g = ap (λ z. method_member (a_method o z ps b) ∷ []) e ∙ ap (λ z. method_member (a_method o n z b) ∷ []) f ∙ ap (λ z. method_member (a_method o n qs z) ∷ []) g

good_member : {free : ℕ} {s r : List Token} {ms : List MemberTree} → AllRead s → Member free s ms r → Out (All GoodMember ms) r
good_member h (fields {ty = ty} {n = n} {l = l} t d e f) =
    let o = good_type h t in
    let p = good_length (behind o.rest d) e in
    let q = further_fields o.good p.rest f in
    record { good = all_and (one_field ty.0 n.0 n.1 l o.good (name_read o.rest d) p.good) q.good; rest = q.rest }
good_member h (operation {n = n} {m = m} v d e) =
    let o = good_signature (behind (behind h v) d) e in
    record {
      good = all_and (record {
        writable = (tt, (name_read (behind h v) d, o.good.writable));
        reads = by (λ y. method_member (record { result = None; name = y.1.0.0; at = y.1.0.1; params = y.1.1.0; body = statements y.1.1.1 }) ∷ []) (λ y free s r b w d. operation d.first d.second.first d.second.second)
            (λ y w. same_method None y.1.0.0 n.0 (map bare_param y.1.1.0) (map bare_param m.0) (bare_statements (statements y.1.1.1)) (bare_statements (statements m.1)) w.1.0 w.1.1.0 w.1.1.1)
            (pair (lift (a_key key.Void)) (pair (lift (a_name n.0)) o.good.reads));
      }) all_none;
      rest = o.rest;
    }
good_member h (value_method {ty = ty} {n = n} {m = m} t d e) =
    let p = good_type h t in
    let o = good_signature (behind p.rest d) e in
    record {
      good = all_and (record {
        writable = writable_both (spell_type ty.0) _ p.good.writable (name_read p.rest d, o.good.writable);
        reads = by (λ y. method_member (record { result = Some y.0.0; name = y.1.0.0; at = y.1.0.1; params = y.1.1.0; body = statements y.1.1.1 }) ∷ []) (λ y free s r b w d. value_method d.first d.second.first d.second.second)
            (λ y w. ap (λ z. method_member (a_method (Some z) y.1.0.0 (map bare_param y.1.1.0) (bare_statements (statements y.1.1.1))) ∷ []) w.0
            ∙ same_method (Some (bare_type ty.0)) y.1.0.0 n.0 (map bare_param y.1.1.0) (map bare_param m.0) (bare_statements (statements y.1.1.1)) (bare_statements (statements m.1)) w.1.0 w.1.1.0 w.1.1.1)
            (pair p.good.reads (pair (lift (a_name n.0)) o.good.reads));
      }) all_none;
      rest = o.rest;
    }

-- classes

abbrev CloseBrace : Token → Option Place
CloseBrace = terminal.sign sign.CloseBrace

record GoodMembers (ms : List MemberTree) : Type 0 where
  writable : AllWritable (spell_members ms)
  reads : Spelled (Free (Lines Member CloseBrace)) (λ ns. map bare_member ns ≡ map bare_member ms) (spell_members ms ++ Sign sign.CloseBrace ∷ [])

all_members : (ms : List MemberTree) → All GoodMember ms → GoodMembers ms
all_members [] all_none = record { writable = tt; reads = by (λ p. []) (λ p free s r b w d. lines_end d) (λ p w. refl) (a_mark sign.CloseBrace) }
all_members (m ∷ ms) (all_and g gs) =
    let o = all_members ms gs in
    record {
      writable = writable_both (spell_member m) (spell_members ms) g.writable o.writable;
      reads = subst (λ ks. Spelled (Free (Lines Member CloseBrace)) (λ ns. map bare_member ns ≡ map bare_member (m ∷ ms)) ks) (sym (append_assoc (spell_member m) (spell_members ms) (Sign sign.CloseBrace ∷ [])))
          (by (λ y. y.0 ++ y.1) (λ y free s r b w d. lines_and d.first d.second) (λ y w. map-append bare_member y.0 y.1 ∙ ap (λ z. z ++ map bare_member y.1) w.0 ∙ ap (λ z. bare_member m ∷ z) w.1)
          (pair g.reads o.reads));
    }

member_lines : {free : ℕ} {s r : List Token} {ms : List MemberTree} → AllRead s → Lines Member CloseBrace free s ms r → Out (All GoodMember ms) r
member_lines h (lines_end d) = record { good = all_none; rest = behind h d }
member_lines h (lines_and d ds) = let o = good_member h d in let p = member_lines o.rest ds in record { good = all_both o.good p.good; rest = p.rest }

pub record GoodClass (c : ClassTree) : Type 0 where
  pub writable : AllWritable (spell_class c)
  pub reads : Spelled (Free Declaration) (λ cs. map bare_class cs ≡ bare_class c ∷ []) (spell_class c)

abbrev a_class_of : List ℕ → List MemberTree → ClassTree
a_class_of n ms = record { name = n; at = nowhere; members = ms }

good_declaration : {free : ℕ} {s r : List Token} {cs : List ClassTree} → AllRead s → Declaration free s cs r → Out (All GoodClass cs) r
good_declaration h (forward c d e) = record { good = all_none; rest = behind (behind (behind h c) d) e }
good_declaration h (a_class {n = n} {ms = ms} c d o p q ds e) =
    let l = member_lines (behind (behind (behind (behind (behind h c) d) o) p) q) ds in
    let m = all_members ms l.good in
    record {
      good = all_and (record {
        writable = (tt, (name_read (behind h c) d, (tt, writable_both (Key key.Public ∷ Sign sign.Colon ∷ (spell_members ms) ++ Sign sign.CloseBrace ∷ []) _ (tt, (tt, writable_both (spell_members ms) _ m.writable (tt, tt))) (tt, tt))));
        reads = by (λ y. record { name = y.1.0.0; at = y.1.0.1; members = y.1.1.0.1.1.1 } ∷ [])
            (λ y free s r b w d. a_class d.first d.second.first d.second.second.first.first d.second.second.first.second.first d.second.second.first.second.second.first d.second.second.first.second.second.second d.second.second.second)
            (λ y w. ap (λ z. a_class_of z (map bare_member y.1.1.0.1.1.1) ∷ []) w.1.0 ∙ ap (λ z. a_class_of n.0 z ∷ []) w.1.1.0.1.1.1)
            (pair (lift (a_key key.Class)) (pair (lift (a_name n.0)) (pair (pair (a_mark sign.OpenBrace) (pair (lift (a_key key.Public)) (pair (a_mark sign.Colon) m.reads))) (a_mark sign.Semicolon))));
      }) all_none;
      rest = behind l.rest e;
    }

pub class_lines : {free : ℕ} {s r : List Token} {cs : List ClassTree} → AllRead s → Lines Declaration (terminal.key key.Int) free s cs r → Out (All GoodClass cs) r
class_lines h (lines_end d) = record { good = all_none; rest = behind h d }
class_lines h (lines_and d ds) = let o = good_declaration h d in let p = class_lines o.rest ds in record { good = all_both o.good p.good; rest = p.rest }

-- the classes, and the `int` behind them
pub record GoodClasses (cs : List ClassTree) : Type 0 where
  pub writable : AllWritable (spell_classes cs)
  pub reads : Spelled (Free (Lines Declaration (terminal.key key.Int))) (λ ds. map bare_class ds ≡ map bare_class cs) (spell_classes cs ++ Key key.Int ∷ [])

pub all_classes : (cs : List ClassTree) → All GoodClass cs → GoodClasses cs
all_classes [] all_none = record { writable = tt; reads = by (λ p. []) (λ p free s r b w d. lines_end d) (λ p w. refl) (lift (a_key key.Int)) }
all_classes (c ∷ cs) (all_and g gs) =
    let o = all_classes cs gs in
    record {
      writable = writable_both (spell_class c) (spell_classes cs) g.writable o.writable;
      reads = subst (λ ks. Spelled (Free (Lines Declaration (terminal.key key.Int))) (λ ds. map bare_class ds ≡ map bare_class (c ∷ cs)) ks) (sym (append_assoc (spell_class c) (spell_classes cs) (Key key.Int ∷ [])))
          (by (λ y. y.0 ++ y.1) (λ y free s r b w d. lines_and d.first d.second) (λ y w. map-append bare_class y.0 y.1 ∙ ap (λ z. z ++ map bare_class y.1) w.0 ∙ ap (λ z. bare_class c ∷ z) w.1)
          (pair g.reads o.reads));
    }
