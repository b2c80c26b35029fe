-- Lists that are written item by item.
use Rattle.std.proofs.Common.{map, ◌≡◌, ℕ, suc, ◌+◌, ◌<◌, ◌≤◌, List, [], ◌∷◌, ◌++◌, Bool, true, false, Option, Some, length, drop, get_or, refl, sym, ap, ◌∙◌, subst, arith}
use Rattle.std.proofs.Math.Seq.{drop-cons}
use Rattle.std.proofs.lemmas.List.{drop_all}
use Rattle.ca_lists.proofs.Places.{item_and_rest}
use Rattle.ca_tree.specs.declared.token.Kind.{Kind}
use Rattle.ca_tree.specs.declared.token.Kind.TheVariants.{Sign}
use Rattle.ca_tree.specs.declared.token.Sign.TheVariants.{Comma}
use Rattle.ca_tree.specs.declared.tree.ExprNode.{ExprNode}
use Rattle.ca_tree.specs.declared.tree.ParamNode.{ParamNode}
use Rattle.ca_tree.specs.declared.tree.StmtNode.{StmtNode}
use Rattle.ca_tree.specs.declared.tree.Member.{Member}
use Rattle.ca_tree.specs.declared.tree.ClassNode.{ClassNode}
use Rattle.ca_tree.specs.Plain.{Expressions, Statement}
use Rattle.ca_tree.specs.View.{expression_view, expressions_view, statement_view, statements_view, member_view, class_view}
use Rattle.ca_canonical.specs.declared.marks.Mark.{Mark}
use Rattle.ca_canonical.specs.Marks.{Piece, tokens, marks, Marking}
use Rattle.ca_canonical.specs.Annotated.{marked, pieces_of, marked_all, marked_member, marked_members, marked_class, marked_classes}
use Rattle.ca_canonical.specs.Spell.{spell_line, spell_expression, spell_list, spell_others, spell_param, spell_params, spell_other_params}
use Rattle.ca_canonical.specs.clauses.Pens.{Written, Writes, WritesPieces}
use Rattle.ca_canonical.proofs.Writing.{Leaves, after, as_pieces, fewer_left, fewer_tokens}

-- the comma before an item that is not the first
abbrev pub comma : Bool → List Kind
comma true = Sign Comma ∷ []
comma false = []

-- what is left of arguments, where some have been written or none
abbrev pub arguments_left : Bool → Expressions → List Kind
arguments_left true es = spell_others es
arguments_left false es = spell_list es

first_argument : (begun : Bool) (x : ExprNode) (xs : List ExprNode) → arguments_left begun (expressions_view (x ∷ xs)) ≡ comma begun ++ (spell_expression (expression_view x) ++ arguments_left true (expressions_view xs))
first_argument true x xs = refl
first_argument false x xs = refl

pub argument_written : {old now mid next : Written} {all : List Piece} (begun : Bool) (xs : List ExprNode) (i : ℕ) (x : ExprNode) → i < length xs → x ≡ get_or xs i x
    → Leaves old all now (tokens (arguments_left begun (expressions_view (drop i xs)))) → Writes now mid (comma begun) → Writes mid next (spell_expression (expression_view x))
    → Leaves old all next (tokens (arguments_left true (expressions_view (drop (i + 1) xs))))
argument_written {old = old} {now = now} {all = all} begun xs i x h e l c w =
    let after = arguments_left true (expressions_view (drop (i + 1) xs)) in
    let rest = ap (λ z. arguments_left begun (expressions_view z)) (item_and_rest xs i x h e) ∙ first_argument begun x (drop (i + 1) xs) in
    fewer_tokens after (fewer_tokens (spell_expression (expression_view x) ++ after) (subst (λ ks. Leaves old all now (tokens ks)) rest l) c) w

-- what is left of parameters
abbrev pub params_left : Bool → List ParamNode → List Kind
params_left true ps = spell_other_params ps
params_left false ps = spell_params ps

first_param : (begun : Bool) (p : ParamNode) (ps : List ParamNode) → params_left begun (p ∷ ps) ≡ comma begun ++ (spell_param p ++ params_left true ps)
first_param true p ps = refl
first_param false p ps = refl

pub param_written : {old now mid next : Written} {all : List Piece} (begun : Bool) (ps : List ParamNode) (i : ℕ) (p : ParamNode) → i < length ps → p ≡ get_or ps i p
    → Leaves old all now (tokens (params_left begun (drop i ps))) → Writes now mid (comma begun) → Writes mid next (spell_param p)
    → Leaves old all next (tokens (params_left true (drop (i + 1) ps)))
param_written {old = old} {now = now} {all = all} begun ps i p h e l c w =
    let after = params_left true (drop (i + 1) ps) in
    let rest = ap (params_left begun) (item_and_rest ps i p h e) ∙ first_param begun p (drop (i + 1) ps) in
    fewer_tokens after (fewer_tokens (spell_param p ++ after) (subst (λ ks. Leaves old all now (tokens ks)) rest l) c) w

pub no_argument_left : (begun : Bool) (xs : List ExprNode) (i : ℕ) → length xs ≤ i → arguments_left begun (expressions_view (drop i xs)) ≡ []
no_argument_left true xs i h = ap (λ z. spell_others (expressions_view z)) (drop_all i xs h)
no_argument_left false xs i h = ap (λ z. spell_list (expressions_view z)) (drop_all i xs h)

pub no_param_left : (begun : Bool) (ps : List ParamNode) (i : ℕ) → length ps ≤ i → params_left begun (drop i ps) ≡ []
no_param_left true ps i h = ap spell_other_params (drop_all i ps h)
no_param_left false ps i h = ap spell_params (drop_all i ps h)

-- a statement, behind its marks
pub with_marks : {a b c : Written} (f : Option Statement → Statement → List Mark) (front : Option Statement) (x y : Statement) → x ≡ y → WritesPieces a b (marks (f front x)) → WritesPieces b c (pieces_of f y) → WritesPieces a c (marked f front x)
with_marks {b = b} {c = c} f front x y e before w = after before (subst (λ z. WritesPieces b c (pieces_of f z)) (sym e) w)

-- one with no other inside
pub line_with_marks : {a b c : Written} (f : Option Statement → Statement → List Mark) (front : Option Statement) (x y : Statement) → x ≡ y → pieces_of f y ≡ tokens (spell_line y) → WritesPieces a b (marks (f front x)) → Writes b c (spell_line x)
    → WritesPieces a c (marked f front x)
line_with_marks {b = b} {c = c} f front x y e is before w =
    let same : WritesPieces b c (tokens (spell_line y)) = subst (λ z. WritesPieces b c (tokens (spell_line z))) e (as_pieces w) in
    with_marks f front x y e before (subst (λ ps. WritesPieces b c ps) (sym is) same)

-- statements, members and classes stand one behind the other
pub statement_written : {old now next : Written} {all : List Piece} (f : Option Statement → Statement → List Mark) (front : Option Statement) (ss : List StmtNode) (i : ℕ) (s : StmtNode) → i < length ss → s ≡ get_or ss i s
    → Leaves old all now (marked_all f front (statements_view (drop i ss))) → WritesPieces now next (marked f front (statement_view s))
    → Leaves old all next (marked_all f (Some (statement_view s)) (statements_view (drop (i + 1) ss)))
statement_written {old = old} {now = now} {all = all} f front ss i s h e l w =
    fewer_left (subst (λ ps. Leaves old all now ps) (ap (λ z. marked_all f front (statements_view z)) (item_and_rest ss i s h e)) l) w

pub no_statement_left : (f : Option Statement → Statement → List Mark) (front : Option Statement) (ss : List StmtNode) (i : ℕ) → length ss ≤ i → marked_all f front (statements_view (drop i ss)) ≡ []
no_statement_left f front ss i h = ap (λ z. marked_all f front (statements_view z)) (drop_all i ss h)

pub member_written : {old now next : Written} {all : List Piece} (f : Marking) (ms : List Member) (i : ℕ) (m : Member) → i < length ms → m ≡ get_or ms i m
    → Leaves old all now (marked_members f (map member_view (drop i ms))) → WritesPieces now next (marked_member f (member_view m))
    → Leaves old all next (marked_members f (map member_view (drop (i + 1) ms)))
member_written {old = old} {now = now} {all = all} f ms i m h e l w =
    fewer_left (subst (λ ps. Leaves old all now ps) (ap (λ z. marked_members f (map member_view z)) (item_and_rest ms i m h e)) l) w

pub no_member_left : (f : Marking) (ms : List Member) (i : ℕ) → length ms ≤ i → marked_members f (map member_view (drop i ms)) ≡ []
no_member_left f ms i h = ap (λ z. marked_members f (map member_view z)) (drop_all i ms h)

pub class_written : {old now next : Written} {all : List Piece} (f : Marking) (cs : List ClassNode) (i : ℕ) (c : ClassNode) → i < length cs → c ≡ get_or cs i c
    → Leaves old all now (marked_classes f (map class_view (drop i cs))) → WritesPieces now next (marked_class f (class_view c))
    → Leaves old all next (marked_classes f (map class_view (drop (i + 1) cs)))
class_written {old = old} {now = now} {all = all} f cs i c h e l w =
    fewer_left (subst (λ ps. Leaves old all now ps) (ap (λ z. marked_classes f (map class_view z)) (item_and_rest cs i c h e)) l) w

pub no_class_left : (f : Marking) (cs : List ClassNode) (i : ℕ) → length cs ≤ i → marked_classes f (map class_view (drop i cs)) ≡ []
no_class_left f cs i h = ap (λ z. marked_classes f (map class_view z)) (drop_all i cs h)

pub mark_written : {old now next : Written} {all : List Piece} (ms : List Mark) (i : ℕ) (d : Mark) → i < length ms
    → Leaves old all now (marks (drop i ms)) → WritesPieces now next (marks (get_or ms i d ∷ []))
    → Leaves old all next (marks (drop (i + 1) ms))
mark_written {old = old} {now = now} {all = all} ms i d h l w =
    let n : i + 1 ≡ suc i = omega arith in
    let rest : drop i ms ≡ get_or ms i d ∷ drop (i + 1) ms = drop-cons ms i d h ∙ ap (λ m. get_or ms i d ∷ drop m ms) (sym n) in
    fewer_left (subst (λ ps. Leaves old all now ps) (ap marks rest) l) w

pub no_mark_left : (ms : List Mark) (i : ℕ) → length ms ≤ i → marks (drop i ms) ≡ []
no_mark_left ms i h = ap marks (drop_all i ms h)
