-- The rules of `main` and of whole texts as their parts.
use Rattle.std.proofs.Common.{◌≡◌, ◌-◌, ◌&&◌, nat_eq, suc, ℕ, ℤ, List, [], ◌∷◌, ◌++◌, Bool, true, false, cond, length, take, map, Some, None, is_some, refl, sym, ◌∙◌, ap, subst, append_assoc, length-append, arith, ne_eqb}
use Rattle.std.proofs.Math.Seq.{take-append_seam}
use Rattle.std.proofs.lemmas.List.{map-append, take-map, length-map}
use Rattle.ca_descent.specs.Exact.{Unlimited, Failure, NoMemory, Wrong, TooDeep, Answer, Got, Failed, Viable, Exact, Sees, sees, head_of, image}
use Rattle.ca_descent.proofs.Exact.{exact_map, exact_image}
use Rattle.ca_descent.proofs.Parts.{then, upto, done, Part, ◌⨾◌, finish}
use Rattle.ca_descent.proofs.Many.{gathers_none}
use Rattle.ca_tree.specs.declared.name.Place.{Place}
use Rattle.ca_tree.specs.declared.token.Token.{Token}
use Rattle.ca_tree.specs.declared.token.Kind.{Kind}
use Rattle.ca_tree.specs.declared.token.Kind.TheVariants.{Word, Number}
use Rattle.ca_tree.specs.declared.token.Kind.TheVariants.{Key as KeyKind, Sign as SignKind}
use Rattle.ca_tree.specs.declared.token.Keyword.TheVariants.{Else, Return, Main}
use Rattle.ca_tree.specs.declared.token.Sign.TheVariants.{OpenBrace, CloseBrace, OpenParenthesis, CloseParenthesis, Semicolon}
use Rattle.ca_tree.specs.declared.tree.StmtNode.{StmtNode}
use Rattle.ca_tree.specs.View.{statement_view}
use Rattle.ca_tree.specs.Plain.{Statement, TextTree}
use Rattle.ca_expressions.specs.Terminals.{key, sign, number, number_of, zero, zero_of}
use Rattle.ca_expressions.proofs.Terminals.{token, word, mark}
use Rattle.ca_parse.specs.Grammar.{Item, Lines, lines_end, One, read, is_return_zero, MainItem, main_item, kept, Program, program, statements}
use Rattle.ca_parse.specs.clauses.Closed.{ItemClosed, MainBody, main_body, MainItemClosed, main_closed}
use Rattle.ca_parse.proofs.Alone.{Alone, fewer_alone}
use Rattle.ca_parse.proofs.Lines.{Closing, one_answer, Loop, loop_more, loop_failed, loop_end, loop_unclosed}
use Rattle.ca_parse.proofs.StatementFronts.{item_not_else, item_not_close, no_else, one_lines}
use Rattle.ca_parse.proofs.MemberRules.{declarations_part}

-- an item of main
read_front : (w q : List Token) → read (w ++ q) q ≡ w
read_front w q =
    let e : length (w ++ q) - length q ≡ length w = omega (arith, length-append w q) in
    ap (λ n. take n (w ++ q)) e ∙ take-append_seam w q

main_viable : {s q : List Token} → Viable (Item 1) s q → Viable MainItem s q
main_viable {s} {q} v = record {
  front = v.front;
  more = v.more;
  tree = (v.tree, is_return_zero (v.front ++ v.more));
  cut = v.cut;
  reads = λ free r h. subst (λ z. MainItem free (v.front ++ (v.more ++ r)) (v.tree, is_return_zero z) r)
      (ap (λ z. read z r) (sym (append_assoc v.front v.more r)) ∙ read_front (v.front ++ v.more) r) (main_item (v.reads free r h));
}

pub main_item_of : (free : ℕ) (s r : List Token) (y : Statement × Bool) → MainItemClosed free s y r
    → ItemClosed 1 free s y.0 r × (y.1 ≡ is_return_zero (read s r))
main_item_of free s r y (main_closed d) = (d, refl)

pub main_got : {s q : List Token} {x : Statement} → Exact (Item 1) (ItemClosed 1) s (Got x q)
    → Exact MainItem MainItemClosed s (Got (x, is_return_zero (read s q)) q)
main_got {s} {q} {x} d = let m = d.meets in
    let e : (r : List Token) → read (m.front ++ r) r ≡ read s q = λ r. read_front m.front r ∙ (sym (read_front m.front q) ∙ ap (λ z. read z q) (sym m.cut)) in
    record {
      meets = record {
        front = m.front;
        cut = m.cut;
        reads = λ free r. subst (λ z. MainItem free (m.front ++ r) (x, is_return_zero z) r) (e r) (main_item (m.reads free r));
      };
      along = λ free w s' q' r y e1 e2 h c.
          let k = main_item_of free s' r y c in
          let g = d.along free w s' q' r y.0 e1 e2 h k.0 in
          let f : read s' r ≡ read s q = ap (λ z. read s' z) g.1 ∙ (ap (λ z. read z q') e2 ∙ (read_front w q' ∙ (sym (read_front w q) ∙ ap (λ z. read z q) (sym e1)))) in
          (pair g.0 (k.1 ∙ ap is_return_zero f), g.1);
    }
  where
    pair : {y : Statement × Bool} {x : Statement} {b : Bool} → y.0 ≡ x → y.1 ≡ b → y ≡ (x, b)
    pair {y} {x} {b} e f = subst (λ z. y ≡ (z, b)) e (subst (λ w. y ≡ (y.0, w)) f refl)

pub main_failed : {s : List Token} (f : Failure Token) → Exact (Item 1) (ItemClosed 1) s (Failed f) → Exact MainItem MainItemClosed s (Failed f)
unfolding main_viable
main_failed NoMemory d = record { meets = tt; along = tt }
main_failed (Wrong q) d = record {
  meets = main_viable d.meets;
  along = λ free w s' q' r y e e' h c. let k = main_item_of free s' r y c in d.along free w s' q' r y.0 e e' h k.0;
}
main_failed (TooDeep q) d = let m = d.meets in record {
  meets = record { begun = main_viable m.begun; here = m.here; same = m.same };
  along = λ free w s' q' r y e e' h n c. let k = main_item_of free s' r y c in d.along free w s' q' r y.0 e e' h n k.0;
}

item_in : (free : ℕ) (s r : List Token) (y : Statement × Bool) → MainItem free s y r → Item 1 free s y.0 r
item_in free s r y (main_item i) = i

main_shut : (free : ℕ) (s r : List Token) (y : Statement × Bool) → MainItem free s y r → head_of (key Else) r ≡ None → MainItemClosed free s y r
main_shut free s r y (main_item {x = x} i) h = main_closed (record { it = i; shut = no_else r h x })

pub main_lines : Closing (One MainItem) (One MainItemClosed) (sign CloseBrace)
main_lines = one_lines (λ free s r y m. item_not_else 1 free s r y.0 (item_in free s r y m))
    (λ free s r y m. item_not_close 1 free s r y.0 (item_in free s r y m)) main_shut

-- the statements that stay
pub main_body_split : (free : ℕ) (s r : List Token) (y : List Statement) → MainBody free s y r
    → (xs : List (Statement × Bool)) × (y ≡ kept xs) × Lines (One MainItem) (sign CloseBrace) free s xs r
main_body_split free s r y (main_body {xs = xs} d) = (xs, refl, d)

pub main_body_answer : {s : List Token} {o : Answer Token (List (Statement × Bool))}
    → Exact (Lines (One MainItem) (sign CloseBrace)) (Lines (One MainItem) (sign CloseBrace)) s o → Exact MainBody MainBody s (image kept o)
main_body_answer d = exact_image kept (λ free s r x d. main_body d) main_body_split d

abbrev pub main_part : Part Token (List Statement)
main_part = record {
  D = MainBody;
  C = MainBody;
  some = record { more = token (SignKind CloseBrace) ∷ []; tree = kept []; reads = λ free r h. main_body (lines_end (sees refl)) };
}

-- whether the last item is `return 0 ;`
abbrev pub last_ends : List (Statement × Bool) → Bool
last_ends [] = false
last_ends (x ∷ []) = x.1
last_ends (x ∷ y ∷ xs) = last_ends (y ∷ xs)

abbrev pub statements_of : List (Statement × Bool) → List Statement
statements_of xs = map (λ x. x.0) xs

pub last_of : (xs : List (Statement × Bool)) (x : Statement × Bool) → last_ends (xs ++ x ∷ []) ≡ x.1
last_of [] x = refl
last_of (y ∷ []) x = refl
last_of (y ∷ z ∷ xs) x = last_of (z ∷ xs) x

pub kept_is : (xs : List (Statement × Bool))
    → kept xs ≡ cond (last_ends xs) (take (length (statements_of xs) - 1) (statements_of xs)) (statements_of xs)
kept_is [] = refl
kept_is (x ∷ []) = refl
kept_is (x ∷ y ∷ xs) = ap (λ z. x.0 ∷ z) (kept_is (y ∷ xs)) ∙ at (last_ends (y ∷ xs))
  where
    at : (b : Bool) → x.0 ∷ cond b (take (length (statements_of (y ∷ xs)) - 1) (statements_of (y ∷ xs))) (statements_of (y ∷ xs))
        ≡ cond b (take (length (statements_of (x ∷ y ∷ xs)) - 1) (statements_of (x ∷ y ∷ xs))) (statements_of (x ∷ y ∷ xs))
    at true =
        let a : length (statements_of (x ∷ y ∷ xs)) - 1 ≡ suc (length (statements_of xs)) = omega arith in
        let b : length (statements_of (y ∷ xs)) - 1 ≡ length (statements_of xs) = omega arith in
        ap (λ k. x.0 ∷ take k (statements_of (y ∷ xs))) b ∙ sym (ap (λ k. take k (statements_of (x ∷ y ∷ xs))) a)
    at false = refl

-- a loop over the items of main that has read the statements out, of which the last ends main or not
pub record MainLoop (all : List Token) (out : List Statement) (ends : Bool) (rest : List Token) : Type 0 where
  pub items : List (Statement × Bool)
  pub statements : statements_of items ≡ out
  pub last : last_ends items ≡ ends
  pub loop : Loop main_lines all items rest

pub main_start : (s : List Token) → MainLoop s [] false s
main_start s = record { items = []; statements = refl; last = refl; loop = gathers_none }

pub main_more : {all rest q : List Token} {out : List Statement} {ends : Bool} {x : Statement} → MainLoop all out ends rest
    → head_of (sign CloseBrace) rest ≡ None → Exact (Item 1) (ItemClosed 1) rest (Got x q)
    → MainLoop all (out ++ x ∷ []) (is_return_zero (read rest q)) q
main_more {rest = rest} {q = q} {x = x} g h d = record {
  items = g.items ++ (x, is_return_zero (read rest q)) ∷ [];
  statements = map-append (λ y. y.0) g.items ((x, is_return_zero (read rest q)) ∷ []) ∙ ap (λ z. z ++ x ∷ []) g.statements;
  last = last_of g.items (x, is_return_zero (read rest q));
  loop = loop_more main_lines g.loop h (one_answer (main_got d));
}

pub main_loop_failed : {all rest : List Token} {out : List Statement} {ends : Bool} (f : Failure Token) → MainLoop all out ends rest
    → head_of (sign CloseBrace) rest ≡ None → Exact (Item 1) (ItemClosed 1) rest (Failed f) → Exact MainBody MainBody all (Failed f)
main_loop_failed f g h d = main_body_answer (loop_failed main_lines f g.loop h (one_answer (main_failed f d)))

pub main_unclosed : {all rest : List Token} {out : List Statement} {ends : Bool} {b : Place} (f : Failure Token) → MainLoop all out ends rest
    → head_of (sign CloseBrace) rest ≡ Some b → Exact (Unlimited (Sees (sign CloseBrace))) (Unlimited (Sees (sign CloseBrace))) rest (Failed f)
    → Exact MainBody MainBody all (Failed f)
main_unclosed f g h d = main_body_answer (loop_unclosed main_lines f g.loop h d)

pub main_end : {all rest r : List Token} {out : List Statement} {ends : Bool} {b c : Place} → MainLoop all out ends rest
    → head_of (sign CloseBrace) rest ≡ Some b → Exact (Unlimited (Sees (sign CloseBrace))) (Unlimited (Sees (sign CloseBrace))) rest (Got c r)
    → Exact MainBody MainBody all (Got (cond ends (take (length out - 1) out) out) r)
main_end {all} {rest} {r} {out} {ends} g h d =
    let e : kept g.items ≡ cond ends (take (length out - 1) out) out = kept_is g.items
    ∙ (ap (λ z. cond z (take (length (statements_of g.items) - 1) (statements_of g.items)) (statements_of g.items)) g.last
    ∙ ap (λ z. cond ends (take (length z - 1) z) z) g.statements) in
    subst (λ z. Exact MainBody MainBody all (Got z r)) e (main_body_answer (loop_end main_lines g.loop h d))

-- which tokens `return 0 ;` are
pub not_return : (s : List Token) → head_of (key Return) s ≡ None → is_return_zero s ≡ false
not_return [] h = refl
not_return (t ∷ []) h = refl
not_return (t ∷ u ∷ []) h = refl
not_return (t ∷ u ∷ v ∷ []) h = rw h refl
not_return (t ∷ u ∷ v ∷ w ∷ s) h = refl

both_off : (a b c : Bool) → b ≡ false → ((a && b) && c) ≡ false
both_off a true c h = absurd cc
both_off true false c h = refl
both_off false false c h = refl

last_off : (a b c : Bool) → c ≡ false → ((a && b) && c) ≡ false
last_off a b true h = absurd cc
last_off true true false h = refl
last_off true false false h = refl
last_off false b false h = refl

all_on : (a b c : Bool) → a ≡ true → b ≡ true → c ≡ true → ((a && b) && c) ≡ true
all_on true true true h k l = refl
all_on true true false h k l = absurd cc
all_on true false c h k l = absurd cc
all_on false b c h k l = absurd cc

pub zero_wanted : {s r : List Token} {p : Place} → Sees (key Return) s p r → is_some (head_of zero r) ≡ false → is_return_zero s ≡ false
zero_wanted (sees {r = []} h) e = refl
zero_wanted (sees {r = t ∷ []} h) e = refl
zero_wanted (sees {t = k} {r = t ∷ u ∷ []} h) e = both_off (is_some (key Return k)) (is_some (zero t)) (is_some (sign Semicolon u)) e
zero_wanted (sees {r = t ∷ u ∷ v ∷ r} h) e = refl

-- the number 0 is a number
pub zero_number : (s : List Token) → head_of number s ≡ None → is_some (head_of zero s) ≡ false
zero_number [] h = refl
zero_number (t ∷ s) h = at t.kind t.at h
  where
    at : (x : Kind) (p : Place) → number_of x p ≡ None → is_some (zero_of x p) ≡ false
    at (Word n) p h = refl
    at (Number n) p h = absurd cc
    at (KeyKind w) p h = refl
    at (SignKind w) p h = refl

pub end_wanted : {s r m : List Token} {p : Place} {n : ℤ × Place} → Sees (key Return) s p r → Sees number r n m
    → head_of (sign Semicolon) m ≡ None → is_return_zero s ≡ false
end_wanted (sees h) (sees {r = []} k) e = refl
end_wanted (sees {t = t} h) (sees {t = u} {r = v ∷ []} k) e = last_off (is_some (key Return t)) (is_some (zero u)) (is_some (sign Semicolon v)) (ap is_some e)
end_wanted (sees h) (sees {r = v ∷ w ∷ r} k) e = refl

pub return_read : {s r m e : List Token} {p q : Place} {n : ℤ × Place} → Sees (key Return) s p r → is_some (head_of zero r) ≡ true → Sees number r n m
    → Sees (sign Semicolon) m q e → is_return_zero s ≡ nat_eq (length e) 0
return_read (sees {t = t} h) z (sees {t = u} k) (sees {t = v} {r = []} l) = all_on (is_some (key Return t)) (is_some (zero u)) (is_some (sign Semicolon v)) (ap is_some h) z (ap is_some l)
return_read (sees h) z (sees k) (sees {r = w ∷ r} l) = sym (ne_eqb (length (w ∷ r)) 0 (λ e. omega (arith, e)))

abbrev pub program_parts : Part Token TextTree
program_parts = declarations_part ⨾ λ cs. word Main ⨾ λ m. mark OpenParenthesis ⨾ λ o. mark CloseParenthesis ⨾ λ c. mark OpenBrace ⨾ λ b. main_part ⨾ λ xs. finish (record { classes = cs; main = statements xs })

pub program_join : (free : ℕ) (s r : List Token) (x : TextTree) → program_parts.D free s x r → Program free s x r
program_join free s r x (then d (then m (then o (then c (then b (then (main_body i) done)))))) = program d m o c b i

program_split : (free : ℕ) (s r : List Token) (x : TextTree) → Program free s x r → program_parts.C free s x r
program_split free s r x (program d m o c b i) = upto d (upto m (upto o (upto c (upto b (upto (main_body i) done)))))

pub program_answer : {s : List Token} {o : Answer Token TextTree} → Exact program_parts.D program_parts.C s o → Exact Program Program s o
program_answer d = exact_map (program_join) (program_split) d

pub program_alone : {s r : List Token} {x : TextTree} → Alone program_parts.C s x r → Alone Program s x r
program_alone {s = s} d = fewer_alone (λ free q w c. program_split free s q w c) d

pub no_tokens : (s : List Token) → length s ≡ 0 → s ≡ []
no_tokens [] h = refl
no_tokens (t ∷ s) h = absurd (omega (arith, h))

-- all of the tokens are read
pub whole_all : {ts q : List Token} {x : TextTree} → Exact Program Program ts (Got x q) → q ≡ [] → (free : ℕ) → Program free ts x []
whole_all {ts} {q} {x} d e free = let m = d.meets in
    let cut : ts ≡ m.front ++ [] = m.cut ∙ ap (λ z. m.front ++ z) e in subst (λ z. Program free z x []) (sym cut) (m.reads free [])

-- the statements that stay, in memory
pub kept_view : (out items : List StmtNode) (ends : Bool) → out ≡ cond ends (take (length items - 1) items) items
    → map statement_view out ≡ cond ends (take (length (map statement_view items) - 1) (map statement_view items)) (map statement_view items)
kept_view out items true h =
    ap (map statement_view) h ∙ (sym (take-map statement_view (length items - 1) items) ∙ ap (λ n. take (n - 1) (map statement_view items)) (sym (length-map items statement_view)))
kept_view out items false h = ap (map statement_view) h
