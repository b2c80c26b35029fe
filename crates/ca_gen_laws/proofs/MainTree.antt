-- The tree of a generated text.
use Rattle.std.proofs.Common.{◌≡◌, ℕ, ◌-◌, ◌<◌, Bool, true, false, List, [], ◌∷◌, ◌++◌, map, length, take, refl, ap, ◌∙◌, subst, arith}
use Rattle.std.specs.Prelude.{Some, pos, codes}
use Rattle.std.proofs.Math.Seq.{take-append_seam}
use Rattle.std.proofs.lemmas.List.{length-append}
use Rattle.ca_descent.specs.Exact.{sees}
use Rattle.ca_tree.specs.declared.token.Sign.TheVariants as sign
use Rattle.ca_tree.specs.declared.token.Token.{Token}
use Rattle.ca_tree.specs.declared.tree.TypeNode.TheVariants.{Pointer}
use Rattle.ca_tree.specs.Plain.{Statement, TextTree, number, named, field, method, index, no_expressions, expression_and, new, local, call_statement, return_value}
use Rattle.ca_expressions.specs.Terminals as terminal
use Rattle.ca_expressions.specs.Grammar.{name_chain, tails_end, tails_more, field_tail, method_tail, index_tail, args, listed_none, listed, further_none, further}
use Rattle.ca_parse.specs.Grammar.{statements, pointer, creation_call, begins, Item, a_call, a_return, a_local, a_statement, Lines, lines_end, lines_and, One, one, read, is_return_zero, MainItem, main_item, kept, Program, program}
use Rattle.ca_gen_laws.proofs.Chunks.{spread, tokens_at}
use Rattle.ca_gen_laws.proofs.Scans.{node_kinds, table_kinds, link_kinds, main_begin_kinds, main_end_kinds}
use Rattle.ca_gen_laws.proofs.Deriving.{a_number, short}
use Rattle.ca_gen_laws.proofs.NodeTree.{node_tree, node_derives}
use Rattle.ca_gen_laws.proofs.TableTree.{table_tree, table_derives}

-- A line of a link: its node, the two nodes that it is linked to, and the places of its tokens.
pub record Link : Type 0 where
  pub node : ℕ
  pub left : ℕ
  pub right : ℕ
  pub f : ℕ → Token

abbrev pub link_tree : Link → Statement
link_tree x =
    call_statement (x.f 0).at (method (x.f 1).at (named (x.f 0).at (codes "t")) (codes "link")
    (expression_and (number (x.f 4).at (pos x.node)) (expression_and (number (x.f 6).at (pos x.left)) (expression_and (number (x.f 8).at (pos x.right)) no_expressions))))

abbrev pub begin_tree : (ℕ → Token) → Statement
begin_tree f = local (f 5).at (Pointer (codes "Table") (f 5).at) (codes "t") (f 7).at (Some (new (codes "Table") (f 10).at))

abbrev pub fill_tree : (ℕ → Token) → Statement
fill_tree f = call_statement (f 14).at (method (f 15).at (named (f 14).at (codes "t")) (codes "fill") no_expressions)

abbrev pub visit_tree : (ℕ → Token) → Statement
visit_tree f =
    call_statement (f 0).at (method (f 6).at (index (f 3).at (field (f 1).at (named (f 0).at (codes "t")) (codes "at")) (number (f 4).at (pos 0))) (codes "visit")
    (expression_and (number (f 9).at (pos 1)) no_expressions))

-- the tree, by the places of its two classes, of what begins `main` and of what ends it
abbrev pub main_trees : (ℕ → Token) → List Link → (ℕ → Token) → List Statement
main_trees f links h = begin_tree f ∷ fill_tree f ∷ (map link_tree links ++ visit_tree h ∷ [])

abbrev pub text_tree : ℕ → (ℕ → Token) → (ℕ → Token) → (ℕ → Token) → List Link → (ℕ → Token) → TextTree
text_tree size a b f links h = record { classes = node_tree a ∷ table_tree size b ∷ []; main = statements (main_trees f links h) }

-- the tokens
abbrev pub link_tokens : List Link → List Token → List Token
link_tokens [] ts = ts
link_tokens (x ∷ xs) ts = spread x.f (link_kinds x.node x.left x.right) (link_tokens xs ts)

abbrev pub text_tokens : ℕ → (ℕ → Token) → (ℕ → Token) → (ℕ → Token) → List Link → (ℕ → Token) → List Token
text_tokens size a b f links h = spread a node_kinds (spread b (table_kinds size) (spread f main_begin_kinds (link_tokens links (spread h main_end_kinds []))))

-- items of `main`

read_front : (front r : List Token) → read (front ++ r) r ≡ front
read_front front r =
    let n : length (front ++ r) - length r ≡ length front = omega (arith, length-append front r) in
    ap (λ n. take n (front ++ r)) n ∙ take-append_seam front r

item_of : {x : Statement} (front r : List Token) → Item 1 0 (front ++ r) x r → MainItem 0 (front ++ r) (x, is_return_zero front) r
item_of {x} front r d = let P : List Token → Type 0 = λ z. MainItem 0 (front ++ r) (x, is_return_zero z) r in subst P (read_front front r) (main_item d)

begin_item : (f : ℕ → Token) (r : List Token) → MainItem 0 ((tokens_at f main_begin_kinds 5 9) ++ r) (begin_tree f, false) r
begin_item f r = item_of (tokens_at f main_begin_kinds 5 9) r (a_local (begins (pointer (sees refl) (sees refl)) (sees refl) (sees refl) (creation_call (sees refl) (sees refl) (sees refl) (sees refl)) (sees refl)))

fill_item : (f : ℕ → Token) (r : List Token) → MainItem 0 ((tokens_at f main_begin_kinds 14 6) ++ r) (fill_tree f, false) r
fill_item f r = item_of (tokens_at f main_begin_kinds 14 6) r (a_statement (a_call (short (tokens_at f main_begin_kinds 14 5) _ (λ z. name_chain (sees refl) (tails_more (method_tail (sees refl) (sees refl) (args (sees refl) (listed_none (sees refl)))) tails_end)) (omega arith)) refl (sees refl)))

link_item : (x : Link) (r : List Token) → MainItem 0 ((tokens_at x.f (link_kinds x.node x.left x.right) 0 11) ++ r) (link_tree x, false) r
link_item x r = item_of (tokens_at x.f (link_kinds x.node x.left x.right) 0 11) r (a_statement (a_call (short (tokens_at x.f (link_kinds x.node x.left x.right) 0 10) _ (λ z. name_chain (sees refl) (tails_more (method_tail (sees refl) (sees refl) (args (sees refl) (listed a_number (further (sees refl) a_number (further (sees refl) a_number (further_none (sees refl))))))) tails_end)) (omega arith)) refl (sees refl)))

visit_item : (h : ℕ → Token) (r : List Token) → MainItem 0 ((tokens_at h main_end_kinds 0 12) ++ r) (visit_tree h, false) r
visit_item h r = item_of (tokens_at h main_end_kinds 0 12) r (a_statement (a_call (short (tokens_at h main_end_kinds 0 11) _ (λ z. name_chain (sees refl) (tails_more (field_tail (sees refl) (sees refl)) (tails_more (index_tail (sees refl) a_number (sees refl)) (tails_more (method_tail (sees refl) (sees refl) (args (sees refl) (listed a_number (further_none (sees refl))))) tails_end)))) (omega arith)) refl (sees refl)))

-- the last one, which leaves no trace
abbrev last_tree : (ℕ → Token) → Statement
last_tree h = return_value (h 12).at (number (h 13).at (pos 0))

abbrev Items : List Token → List (Statement × Bool) → Type 0
Items ts xs = Lines (One MainItem) (terminal.sign sign.CloseBrace) 0 ts xs []

abbrev link_items : List Link → List (Statement × Bool) → List (Statement × Bool)
link_items [] xs = xs
link_items (x ∷ xs) ys = (link_tree x, false) ∷ link_items xs ys

links_derive : (links : List Link) (ts : List Token) (xs : List (Statement × Bool)) → Items ts xs → Items (link_tokens links ts) (link_items links xs)
links_derive [] ts xs d = d
links_derive (x ∷ links) ts xs d = lines_and (one (link_item x (link_tokens links ts))) (links_derive links ts xs d)

abbrev end_items : (ℕ → Token) → List (Statement × Bool)
end_items h = (visit_tree h, false) ∷ (last_tree h, true) ∷ []

end_derives : (h : ℕ → Token) → Items (spread h main_end_kinds []) (end_items h)
end_derives h =
    lines_and (one (visit_item h _))
    (lines_and (one (main_item (a_statement (a_return (sees refl) (short (tokens_at h main_end_kinds 13 1) _ (λ z. a_number) (omega arith)) (sees refl)))))
    (lines_end (sees refl)))

-- what is left of the items

kept_and : (x : Statement × Bool) (ys : List (Statement × Bool)) → 0 < length ys → kept (x ∷ ys) ≡ x.0 ∷ kept ys
kept_and x [] some = absurd (omega (arith, some))
kept_and x (y ∷ ys) some = refl

some_items : (links : List Link) (h : ℕ → Token) → 0 < length (link_items links (end_items h))
some_items [] h = omega arith
some_items (x ∷ links) h = omega arith

kept_links : (links : List Link) (h : ℕ → Token) → kept (link_items links (end_items h)) ≡ map link_tree links ++ visit_tree h ∷ []
kept_links [] h = refl
kept_links (x ∷ links) h = kept_and (link_tree x, false) (link_items links (end_items h)) (some_items links h) ∙ ap (λ z. link_tree x ∷ z) (kept_links links h)

kept_main : (f : ℕ → Token) (links : List Link) (h : ℕ → Token) → kept ((begin_tree f, false) ∷ (fill_tree f, false) ∷ link_items links (end_items h)) ≡ main_trees f links h
kept_main f links h =
    ap (λ z. begin_tree f ∷ z) (kept_and (fill_tree f, false) (link_items links (end_items h)) (some_items links h) ∙ ap (λ z. fill_tree f ∷ z) (kept_links links h))

pub text_derives : (size : ℕ) (a b f : ℕ → Token) (links : List Link) (h : ℕ → Token) → Program 0 (text_tokens size a b f links h) (text_tree size a b f links h) []
text_derives size a b f links h =
    let P : List Statement → Type 0 = λ z. Program 0 (text_tokens size a b f links h) (record { classes = node_tree a ∷ table_tree size b ∷ []; main = statements z }) [] in
    subst P (kept_main f links h)
    (program (lines_and (node_derives a _) (lines_and (table_derives size b _) (lines_end (sees refl))))
    (sees refl) (sees refl) (sees refl) (sees refl)
    (lines_and (one (begin_item f _)) (lines_and (one (fill_item f _)) (links_derive links _ _ (end_derives h)))))
