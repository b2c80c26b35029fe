-- Each tree that the tokens of a text derive is read back from its canonical text.
use Rattle.std.proofs.Common.{◌≡◌, ℕ, List, [], ◌∷◌, ◌++◌, map, length, Bool, true, false, refl, sym, ap, ◌∙◌, subst, arith, append_assoc, append-nil}
use Rattle.std.specs.Prelude.{pos, cond, Option}
use Rattle.ca_tree.specs.declared.name.Place.{Place}
use Rattle.ca_tree.specs.declared.token.Kind.{Kind}
use Rattle.ca_tree.specs.declared.token.Kind.TheVariants.{Key, Sign}
use Rattle.ca_tree.specs.declared.token.Keyword.TheVariants as key
use Rattle.ca_tree.specs.declared.token.Sign.TheVariants as sign
use Rattle.ca_tree.specs.declared.token.Token.{Token}
use Rattle.ca_tree.specs.Plain.{Statement, Statements, ClassTree, TextTree, empty, no_statements, statement_and, return_value, number}
use Rattle.ca_expressions.specs.Terminals as terminal
use Rattle.ca_lex.specs.Tokens.{Tokens}
use Rattle.ca_lex.proofs.Derivations.{one_list}
use Rattle.ca_parse.specs.Grammar.{statements, Item, MainItem, main_item, is_return_zero, kept, One, one, Lines, lines_end, lines_and, Program, program, Derives, DerivesFree, a_statement, a_return}
use Rattle.ca_canonical.specs.Marks.{Marking, tokens}
use Rattle.ca_canonical.specs.Annotated.{annotated}
use Rattle.ca_canonical.specs.Texts.{text_of, text_of_pieces, pieces_from}
use Rattle.ca_canonical.specs.Erased.{Erased}
use Rattle.ca_canonical.proofs.Unmarked.{annotated_unmarked}
use Rattle.ca_canonical.proofs.Erasing.{pieces_erased}
use Rattle.ca_canonical.proofs.Apart.{annotated_clear}
use Rattle.ca_canonical.specs.Spell.{spell, spell_statement, spell_statements, spell_classes, spell_end, ends_in_zero, returns_zero}
use Rattle.ca_canonical.specs.Bare.{bare, bare_statement, bare_statements, bare_class, nowhere}
use Rattle.ca_canonical.specs.ReadsBack.{DerivesLike}
use Rattle.ca_canonical.proofs.Texts.{kinds, AllWritable, canonical_tokens}
use Rattle.ca_canonical.proofs.Fronts.{Spelled, Tree, Free, front_of, lift, outer, pair, by}
use Rattle.ca_canonical.proofs.Terminals.{AllRead, behind, number_literal, a_sign, a_key}
use Rattle.ca_canonical.proofs.Levels.{whole_expression}
use Rattle.ca_canonical.proofs.Operands.{writable_both, good_literal, Out}
use Rattle.ca_canonical.proofs.Lines.{GoodItem, good_item}
use Rattle.ca_canonical.proofs.Members.{All, all_none, all_and, GoodClasses, class_lines, all_classes}
use Rattle.ca_canonical.proofs.Ends.{zero_behind, all_behind, end_tokens, kinds_end, read_front}
use Rattle.ca_canonical.proofs.Inputs.{text_read}

-- an item of `main` that is read as one, and as its end only where it is a return of 0
record OneItem (x : Statement) (ys : List (Statement × Bool)) : Type 0 where
  item : Statement
  flag : Bool
  is : ys ≡ (item, flag) ∷ []
  like : bare_statement item ≡ bare_statement x
  end : flag ≡ true → returns_zero x ≡ true

main_item_spelled : (x : Statement) → GoodItem x → Spelled (Free (One MainItem)) (OneItem x) (spell_statement x)
main_item_spelled x g = record { at = λ f e. at f e ((g.reads 1).at f e) }
  where
    at : (f : List Token) → kinds f ≡ spell_statement x → Tree (Free (Item 1)) (λ y. bare_statement y ≡ bare_statement x) f → Tree (Free (One MainItem)) (OneItem x) f
    at f e t = record {
      tree = (t.tree, is_return_zero f) ∷ [];
      want = record { item = t.tree; flag = is_return_zero f; is = refl; like = t.want; end = end_tokens f x e };
      derives = λ s r q. λ free h. one (subst (λ z. MainItem free s (t.tree, is_return_zero z) r) (read_front q) (main_item (t.derives s r q free h)));
    }

abbrev CloseBrace : Token → Option Place
CloseBrace = terminal.sign sign.CloseBrace

abbrev IsCons : {A : Type 0} → List A → Type 0
IsCons [] = ⊥
IsCons (x ∷ xs) = Unit {0}

-- some items are left but for the end, or none
abbrev Filled : List Statement → Bool → List (Statement × Bool) → Type 0
Filled [] false ys = Unit {0}
Filled [] true ys = IsCons ys
Filled (x ∷ xs) before ys = IsCons ys

record Kept (xs : List Statement) (before : Bool) (ys : List (Statement × Bool)) : Type 0 where
  like : bare_statements (statements (kept ys)) ≡ bare_statements (statements xs)
  filled : Filled xs before ys

-- what stands in the body of `main` from some items on, with its end or without
abbrev spell_ended : List Statement → Bool → List Kind
spell_ended xs end = (spell_statements (statements xs) ++ spell_end end) ++ Sign sign.CloseBrace ∷ []

abbrev spell_rest : List Statement → Bool → List Kind
spell_rest xs before = spell_ended xs (zero_behind before (statements xs))

-- `return 0 ;` is an item that is not kept
zero_item : GoodItem (return_value nowhere (number nowhere (pos 0)))
zero_item =
    let g = good_literal (number_literal {at = nowhere} {n = pos 0} (0, refl, omega arith)) in
    record {
      writable = (tt, (g.writable.0, (tt, tt)));
      reads = λ depth. by (λ y. return_value y.0 y.1.0) (λ y free s r b w d. a_statement (a_return d.first d.second.first d.second.second)) (λ y w. ap (λ z. return_value nowhere z) w.1.0)
          (pair (lift (a_key key.Return)) (pair (outer (whole_expression g)) (lift (a_sign sign.Semicolon))));
    }

-- the flag of the end is set
end_spelled : Spelled (Free (One MainItem)) (λ ys. (y : Statement) × (ys ≡ (y, true) ∷ [])) (spell_end true)
end_spelled = record { at = λ f e. at f e ((zero_item.reads 1).at f e) }
  where
    at : (f : List Token) → kinds f ≡ spell_end true → Tree (Free (Item 1)) (λ y. bare_statement y ≡ bare_statement (return_value nowhere (number nowhere (pos 0)))) f → Tree (Free (One MainItem)) (λ ys. (y : Statement) × (ys ≡ (y, true) ∷ [])) f
    at f e t = record {
      tree = (t.tree, is_return_zero f) ∷ [];
      want = (t.tree, ap (λ b. (t.tree, b) ∷ []) (kinds_end f e));
      derives = λ s r q. λ free h. one (subst (λ z. MainItem free s (t.tree, is_return_zero z) r) (read_front q) (main_item (t.derives s r q free h)));
    }

end_items : Spelled (Free (Lines (One MainItem) CloseBrace)) (Kept [] true) (spell_rest [] true)
end_items = by (λ y. y.0 ++ []) (λ y free s r b w d. lines_and d.first (lines_end d.second)) (λ y w. at y.0 w.0) (pair end_spelled (lift (a_sign sign.CloseBrace)))
  where
    at : (ys : List (Statement × Bool)) → ((y : Statement) × (ys ≡ (y, true) ∷ [])) → Kept [] true (ys ++ [])
    at ys o = subst (λ w. Kept [] true (w ++ [])) (sym o.1) (record { like = refl; filled = tt })

-- one item and then others
kept_more : (x : Statement) (xs : List Statement) (y : Statement) (flag : Bool) (ys : List (Statement × Bool)) → bare_statement y ≡ bare_statement x → (flag ≡ true → returns_zero x ≡ true) → Kept xs (returns_zero x) ys
    → bare_statements (statements (kept ((y, flag) ∷ ys))) ≡ bare_statements (statements (x ∷ xs))
kept_more x xs y flag (z ∷ ys) e f k = ap (λ t. statement_and t (bare_statements (statements (kept (z ∷ ys))))) e ∙ ap (λ t. statement_and (bare_statement x) t) k.like
kept_more x (w ∷ xs) y flag [] e f k = absurd k.filled
kept_more x [] y flag [] e f k = at flag (returns_zero x) f k.filled
  where
    at : (flag before : Bool) → (flag ≡ true → before ≡ true) → Filled [] before [] → bare_statements (statements (cond flag [] (y ∷ []))) ≡ bare_statements (statements (x ∷ []))
    at false before f i = ap (λ t. statement_and t no_statements) e
    at true true f i = absurd i
    at true false f i = let h : false ≡ true = f refl in cc

pick : (x : Statement) (xs : List Statement) (ys zs : List (Statement × Bool)) → OneItem x ys → Kept xs (returns_zero x) zs → Kept (x ∷ xs) false (ys ++ zs)
pick x xs ys zs o k = subst (λ w. Kept (x ∷ xs) false (w ++ zs)) (sym o.is) (record { like = kept_more x xs o.item o.flag zs o.like o.end k; filled = tt })

any_before : (x : Statement) (xs : List Statement) (before : Bool) (ys : List (Statement × Bool)) → Kept (x ∷ xs) false ys → Kept (x ∷ xs) before ys
any_before x xs before ys k = record { like = k.like; filled = k.filled }

main_items : (xs : List Statement) (before : Bool) → All GoodItem xs → Spelled (Free (Lines (One MainItem) CloseBrace)) (Kept xs before) (spell_rest xs before)
main_items [] false all_none = by (λ p. []) (λ p free s r b w d. lines_end d) (λ p w. record { like = refl; filled = tt }) (lift (a_sign sign.CloseBrace))
main_items [] true all_none = end_items
main_items (x ∷ xs) before (all_and g gs) =
    let rest = main_items xs (returns_zero x) gs in
    let first = spell_statement x in
    let others = spell_statements (statements xs) in
    let end = spell_end (zero_behind (returns_zero x) (statements xs)) in
    let cut : first ++ ((others ++ end) ++ Sign sign.CloseBrace ∷ []) ≡ ((first ++ others) ++ end) ++ Sign sign.CloseBrace ∷ [] =
    sym (append_assoc first (others ++ end) (Sign sign.CloseBrace ∷ [])) ∙ ap (λ z. z ++ Sign sign.CloseBrace ∷ []) (sym (append_assoc first others end)) in
    subst (Spelled (Free (Lines (One MainItem) CloseBrace)) (Kept (x ∷ xs) before)) cut
    (by (λ y. y.0 ++ y.1) (λ y free s r b w d. lines_and d.first d.second) (λ y w. any_before x xs before (y.0 ++ y.1) (pick x xs y.0 y.1 w.0 w.1)) (pair (main_item_spelled x g) rest))

all_items : (xs : List Statement) → All GoodItem xs → Spelled (Free (Lines (One MainItem) CloseBrace)) (Kept xs false) (spell_ended xs (ends_in_zero (statements xs)))
all_items xs g = subst (λ b. Spelled (Free (Lines (One MainItem) CloseBrace)) (Kept xs false) (spell_ended xs b)) (all_behind (statements xs)) (main_items xs false g)

all_lines : {free : ℕ} {s r : List Token} {ys : List (Statement × Bool)} → AllRead s → Lines (One MainItem) CloseBrace free s ys r → Out (All (λ y. GoodItem y.0) ys) r
all_lines h (lines_end d) = record { good = all_none; rest = behind h d }
all_lines h (lines_and (one (main_item d)) ds) = let o = good_item h d in let p = all_lines o.rest ds in record { good = all_and o.good p.good; rest = p.rest }

kept_all : (ys : List (Statement × Bool)) → All (λ y. GoodItem y.0) ys → All GoodItem (kept ys)
kept_all [] all_none = all_none
kept_all (y ∷ []) (all_and g all_none) = last y.1
  where
    last : (flag : Bool) → All GoodItem (cond flag [] (y.0 ∷ []))
    last true = all_none
    last false = all_and g all_none
kept_all (y ∷ z ∷ ys) (all_and g gs) = all_and g (kept_all (z ∷ ys) gs)

-- what the tokens of `main` give
good_lines : {free : ℕ} {s r : List Token} {ys : List (Statement × Bool)} → AllRead s → Lines (One MainItem) CloseBrace free s ys r → Out (All GoodItem (kept ys)) r
good_lines h d = let o = all_lines h d in record { good = kept_all _ o.good; rest = o.rest }

writable_items : (xs : List Statement) → All GoodItem xs → AllWritable (spell_statements (statements xs))
writable_items [] all_none = tt
writable_items (x ∷ xs) (all_and g gs) = writable_both (spell_statement x) (spell_statements (statements xs)) g.writable (writable_items xs gs)

writable_end : (t : Bool) → AllWritable (spell_end t)
writable_end false = tt
writable_end true = (tt, ((0, refl, omega arith), (tt, tt)))

-- a tree that is read back
record GoodText (t : TextTree) : Type 0 where
  writable : AllWritable (spell t)
  reads : Spelled (Free Program) (λ u. bare u ≡ bare t) (spell t)

abbrev a_text : List ClassTree → Statements → TextTree
a_text cs ss = record { classes = cs; main = ss }

good_text : (cs : List ClassTree) (xs : List Statement) → GoodClasses cs → All GoodItem xs → GoodText (a_text cs (statements xs))
good_text cs xs c g =
    let ss = statements xs in
    let tail : List Kind = Key key.Main ∷ Sign sign.OpenParenthesis ∷ Sign sign.CloseParenthesis ∷ Sign sign.OpenBrace ∷ spell_ended xs (ends_in_zero ss) in
    record {
      writable = writable_both (spell_classes cs) _ c.writable (tt, (tt, (tt, (tt, (tt, writable_both (spell_statements ss ++ spell_end (ends_in_zero ss)) _ (writable_both (spell_statements ss) _ (writable_items xs g) (writable_end (ends_in_zero ss))) (tt, tt))))));
      reads = subst (Spelled (Free Program) (λ u. bare u ≡ bare (a_text cs ss))) (append_assoc (spell_classes cs) (Key key.Int ∷ []) tail)
          (by (λ y. record { classes = y.0; main = statements (kept y.1.1.1.1.1) })
          (λ y free s r b w d. program d.first d.second.first d.second.second.first d.second.second.second.first d.second.second.second.second.first d.second.second.second.second.second)
          (λ y w. ap (λ z. a_text z (bare_statements (statements (kept y.1.1.1.1.1)))) w.0 ∙ ap (λ z. a_text (map bare_class cs) z) w.1.1.1.1.1.like)
          (pair c.reads (pair (lift (a_key key.Main)) (pair (lift (a_sign sign.OpenParenthesis)) (pair (lift (a_sign sign.CloseParenthesis)) (pair (lift (a_sign sign.OpenBrace)) (all_items xs g)))))));
    }

text_good : {free : ℕ} {s r : List Token} {t : TextTree} → AllRead s → Program free s t r → GoodText t
text_good h (program {cs = cs} {xs = xs} ds m o c b ls) =
    let a = class_lines h ds in
    let k = good_lines (behind (behind (behind (behind a.rest m) o) c) b) ls in
    good_text cs (kept xs) (all_classes cs a.good) k.good

-- the tokens f derive the tree but for places
derived : (t : TextTree) {f : List Token} → Tree (Free Program) (λ u. bare u ≡ bare t) f → DerivesLike f t
derived t {f = f} d = (d.tree, subst (λ z. DerivesFree (length f) z d.tree) (append-nil f) (d.derives (f ++ []) [] (front_of f []) (length f) (omega (arith, ap length (append-nil f)))), d.want)

good_of : (text : List ℕ) (ts : List Token) (t : TextTree) → Tokens text ts → Derives ts t → GoodText t
good_of text ts t d e = text_good (text_read d) e

pub has_tokens : (text : List ℕ) (ts : List Token) (t : TextTree) → Tokens text ts → Derives ts t → (us : List Token) × Tokens (text_of (spell t)) us
has_tokens text ts t d e = let l = canonical_tokens (spell t) (good_of text ts t d e).writable in (l.tokens, l.are)

pub read_back : (text : List ℕ) (ts us : List Token) (t : TextTree) → Tokens text ts → Derives ts t → Tokens (text_of (spell t)) us → DerivesLike us t
read_back text ts us t d e f =
    let g = good_of text ts t d e in
    let l = canonical_tokens (spell t) g.writable in
    derived t (g.reads.at us (ap kinds (one_list f l.tokens l.are) ∙ l.same))

pub erased : (text : List ℕ) (ts : List Token) (t : TextTree) (m : Marking) → Tokens text ts → Derives ts t → ((body : Option Place) (front : Option Statement) (at : Place) → m.before body front (empty at) ≡ [])
    → Erased (text_of_pieces (annotated m t)) (text_of (spell t))
erased text ts t m d e none =
    let is = annotated_unmarked m t in
    subst (λ ks. Erased (text_of_pieces (annotated m t)) (pieces_from 0 (tokens ks))) is
    (pieces_erased 0 (annotated m t) (subst AllWritable (sym is) (good_of text ts t d e).writable) (annotated_clear m t none))
