-- Each expression that the tokens of a text derive is read back.
use Rattle.std.proofs.Common.{◌≡◌, ℕ, ◌+◌, List, [], ◌∷◌, ◌++◌, Bool, true, false, refl, sym, ap, ◌∙◌, subst, arith, append_assoc}
use Rattle.std.specs.Prelude.{nat_lt}
use Rattle.ca_tree.specs.declared.name.Place.{Place}
use Rattle.ca_tree.specs.declared.token.Kind.{Kind}
use Rattle.ca_tree.specs.declared.token.Kind.TheVariants.{Word, Sign}
use Rattle.ca_tree.specs.declared.token.Keyword.TheVariants.{This}
use Rattle.ca_tree.specs.declared.token.Sign.TheVariants.{OpenParenthesis, CloseParenthesis, OpenBracket, CloseBracket, Comma, Arrow}
use Rattle.ca_tree.specs.declared.token.Token.{Token}
use Rattle.ca_tree.specs.declared.tree.BinaryOp.{BinaryOp}
use Rattle.ca_tree.specs.declared.tree.UnaryOp.{UnaryOp}
use Rattle.ca_tree.specs.Operators.{level, writing, unary_level}
use Rattle.ca_tree.specs.declared.operators.Writing.{Writing}
use Rattle.ca_tree.specs.declared.operators.Writing.TheVariants.{Between, Before}
use Rattle.ca_tree.proofs.Table.{IsBelow, level_below}
use Rattle.ca_tree.specs.Plain.{Expression, Expressions, this, named, call, field, method, index, unary, binary, no_expressions, expression_and}
use Rattle.ca_expressions.specs.Grammar.{expressions, Level, operands, one_operand, Operands, operands_end, operands_more, Unary, unary_first, unary_last, Primary, a_literal, a_chain, in_brackets, by_word, sides, Chain, this_chain, name_chain, call_chain, Tails, tails_end, tails_more, Tail, field_tail, method_tail, index_tail, Args, args, Listed, listed_none, listed, Further, further_none, further}
use Rattle.ca_canonical.specs.Spell.{tail_level, binds, bracketed, in_parentheses, spelled_by, spell_expression, spell_list, spell_others, spell_truth}
use Rattle.ca_canonical.specs.Bare.{bare_expression, bare_expressions, nowhere}
use Rattle.ca_canonical.proofs.ReadBack.{IsName}
use Rattle.ca_canonical.proofs.Texts.{AllWritable}
use Rattle.ca_canonical.proofs.Fronts.{Spelled, seq, under}
use Rattle.ca_canonical.proofs.Terminals.{AllRead, behind, name_read, literal_read, Literal, number_literal, truth_literal, null_literal, a_sign, a_key, a_name, a_number_literal, a_truth, a_null, an_operator, a_word_operator, a_unary}
use Rattle.ca_canonical.proofs.Levels.{Headed, chain_head, headed_more, chain_more, level_more, unary_of_level, At, at_level, at_primary, at_head, Like, Good, whole_expression, operand, head}

-- writable tokens and then others
pub writable_both : (ks ls : List Kind) → AllWritable ks → AllWritable ls → AllWritable (ks ++ ls)
writable_both [] ls a b = b
writable_both (k ∷ ks) ls a b = (a.0, writable_both ks ls a.1 b)

pub writable_brackets : (ks : List Kind) → AllWritable ks → AllWritable (in_parentheses ks)
writable_brackets ks a = (tt, writable_both ks (Sign CloseParenthesis ∷ []) a (tt, tt))

writable_bracketed : (t : Bool) (ks : List Kind) → AllWritable ks → AllWritable (bracketed t ks)
writable_bracketed true ks a = writable_brackets ks a
writable_bracketed false ks a = a

-- operators

-- an operator on two sides, as it is written
record GoodBy (at : Place) (o : BinaryOp) (a b : Expression) (w : Writing) : Type 0 where
  writable : AllWritable (spelled_by w (level o) (binds a) (binds b) (spell_expression a) (spell_expression b))
  reads : Spelled (At (level o)) (Like (binary at o a b)) (spelled_by w (level o) (binds a) (binds b) (spell_expression a) (spell_expression b))

same_sides : (o p : BinaryOp) (a b x y : Expression) → bare_expression x ≡ bare_expression a → p ≡ o → bare_expression y ≡ bare_expression b → binary nowhere p (bare_expression x) (bare_expression y) ≡ binary nowhere o (bare_expression a) (bare_expression b)
same_sides o p a b x y d e f = ap (λ z. binary nowhere p z (bare_expression y)) d ∙ ap (λ q. binary nowhere q (bare_expression a) (bare_expression y)) e ∙ ap (λ z. binary nowhere o (bare_expression a) z) f

good_by : (at : Place) (o : BinaryOp) (a b : Expression) (w : Writing) → writing o ≡ w → IsBelow o w → Good a → Good b → GoodBy at o a b w
good_by at o a b (Between k) e low g h = record {
  writable = writable_both (bracketed (nat_lt (binds a) (level o)) (spell_expression a)) _ (writable_bracketed (nat_lt (binds a) (level o)) (spell_expression a) g.writable)
      (tt, writable_bracketed (nat_lt (binds b) (level o + 1)) (spell_expression b) h.writable);
  reads = under (λ y. binary y.1.0.1 y.1.0.0 y.0 y.1.1)
      (λ y s r w d. at_level (omega (arith, low)) (level_more low d.first d.second.first d.second.second))
      (λ y w. same_sides o y.1.0.0 a b y.0 y.1.1 w.0 w.1.0 w.1.1)
      (seq (operand (level o) a (omega (arith, low)) g) (seq (an_operator o k e) (operand (level o + 1) b (omega (arith, low)) h)));
}
good_by at o a b (Before k) e high g h = record {
  writable = (tt, (tt, writable_both (spell_expression a) _ g.writable (tt, writable_both (spell_expression b) _ h.writable (tt, tt))));
  reads = subst (λ n. Spelled (At n) (Like (binary at o a b)) (spelled_by (Before k) (level o) (binds a) (binds b) (spell_expression a) (spell_expression b))) (sym high)
      (under (λ y. binary y.0.1 y.0.0 y.1.1.0 y.1.1.1.1.0)
      (λ y s r w d. at_primary (by_word d.first (sides d.second.first d.second.second.first d.second.second.second.first d.second.second.second.second.first d.second.second.second.second.second)))
      (λ y w. same_sides o y.0.0 a b y.1.1.0 y.1.1.1.1.0 w.1.1.0 w.0 w.1.1.1.1.0)
      (seq (a_word_operator o k e) (seq (a_sign OpenParenthesis) (seq (whole_expression g) (seq (a_sign Comma) (seq (whole_expression h) (a_sign CloseParenthesis)))))));
}

good_binary : (at : Place) (o : BinaryOp) (a b : Expression) → Good a → Good b → Good (binary at o a b)
good_binary at o a b g h = let p = good_by at o a b (writing o) refl (level_below o) g h in record { writable = p.writable; reads = p.reads }

good_unary : (at : Place) (o : UnaryOp) (a : Expression) → Good a → Good (unary at o a)
good_unary at o a g = record {
  writable = (tt, writable_bracketed (nat_lt (binds a) unary_level) (spell_expression a) g.writable);
  reads = under (λ y. unary y.0.1 y.0.0 y.1) (λ y s r w d. at_level (omega arith) (one_operand (omega arith) (unary_first d.first (unary_of_level d.second))))
      (λ y w. ap (λ p. unary nowhere p (bare_expression y.1)) w.0 ∙ ap (λ x. unary nowhere o x) w.1)
      (seq (a_unary o) (operand unary_level a (omega arith) g));
}

pub good_literal : {x : Expression} → Literal x → Good x
good_literal (number_literal {n = n} h) = record { writable = (h, tt); reads = under (λ y. y) (λ y s r w d. at_primary (a_literal d)) (λ y w. w) (a_number_literal n) }
good_literal (truth_literal {b = b}) = record { writable = truth_writable b; reads = under (λ y. y) (λ y s r w d. at_primary (a_literal d)) (λ y w. w) (a_truth b) }
  where
    truth_writable : (b : Bool) → AllWritable (spell_truth b ∷ [])
    truth_writable true = (tt, tt)
    truth_writable false = (tt, tt)
good_literal null_literal = record { writable = (tt, tt); reads = under (λ y. y) (λ y s r w d. at_primary (a_literal d)) (λ y w. w) a_null }

-- arguments

record GoodOthers (es : Expressions) : Type 0 where
  writable : AllWritable (spell_others es)
  reads : Spelled Further (λ ys. bare_expressions (expressions ys) ≡ bare_expressions es) (spell_others es ++ Sign CloseParenthesis ∷ [])

record GoodList (es : Expressions) : Type 0 where
  writable : AllWritable (spell_list es)
  reads : Spelled Listed (λ ys. bare_expressions (expressions ys) ≡ bare_expressions es) (spell_list es ++ Sign CloseParenthesis ∷ [])

same_list : (x y : Expression) (es fs : Expressions) → bare_expression y ≡ bare_expression x → bare_expressions fs ≡ bare_expressions es → bare_expressions (expression_and y fs) ≡ bare_expressions (expression_and x es)
same_list x y es fs e f = ap (λ z. expression_and z (bare_expressions fs)) e ∙ ap (λ z. expression_and (bare_expression x) z) f

no_others : GoodOthers no_expressions
no_others = record { writable = tt; reads = under (λ p. []) (λ p s r w d. further_none d) (λ p w. refl) (a_sign CloseParenthesis) }

others_and : (x : Expression) (es : Expressions) → Good x → GoodOthers es → GoodOthers (expression_and x es)
others_and x es g h = record {
  writable = (tt, writable_both (spell_expression x) (spell_others es) g.writable h.writable);
  reads = subst (λ ks. Spelled Further (λ ys. bare_expressions (expressions ys) ≡ bare_expressions (expression_and x es)) (Sign Comma ∷ ks)) (sym (append_assoc (spell_expression x) (spell_others es) (Sign CloseParenthesis ∷ [])))
      (under (λ y. y.1.0 ∷ y.1.1) (λ y s r w d. further d.first d.second.first d.second.second) (λ y w. same_list x y.1.0 es (expressions y.1.1) w.1.0 w.1.1)
      (seq (a_sign Comma) (seq (whole_expression g) h.reads)));
}

no_list : GoodList no_expressions
no_list = record { writable = tt; reads = under (λ p. []) (λ p s r w d. listed_none d) (λ p w. refl) (a_sign CloseParenthesis) }

list_and : (x : Expression) (es : Expressions) → Good x → GoodOthers es → GoodList (expression_and x es)
list_and x es g h = record {
  writable = writable_both (spell_expression x) (spell_others es) g.writable h.writable;
  reads = subst (λ ks. Spelled Listed (λ ys. bare_expressions (expressions ys) ≡ bare_expressions (expression_and x es)) ks) (sym (append_assoc (spell_expression x) (spell_others es) (Sign CloseParenthesis ∷ [])))
      (under (λ y. y.0 ∷ y.1) (λ y s r w d. listed d.first d.second) (λ y w. same_list x y.0 es (expressions y.1) w.0 w.1)
      (seq (whole_expression g) h.reads));
}

arguments : (es : Expressions) → GoodList es → Spelled Args (λ ys. bare_expressions (expressions ys) ≡ bare_expressions es) (in_parentheses (spell_list es))
arguments es h = under (λ y. y.1) (λ y s r w d. args d.first d.second) (λ y w. w.1) (seq (a_sign OpenParenthesis) h.reads)

-- tails behind whatever is read back by D

spelled_field : (D : List Token → Expression → List Token → Type 0) → ((x y : Expression) (s m r : List Token) → D s x m → Tail x m y r → D s y r)
    → (at : Place) (x : Expression) (n : List ℕ) (ks : List Kind) → Spelled D (Like x) ks → Spelled D (Like (field at x n)) (ks ++ (Sign Arrow ∷ Word n ∷ []))
spelled_field D more at x n ks h =
    under (λ y. field y.1.0 y.0 y.1.1.0) (λ y s r w d. more y.0 _ s d.mid r d.first (field_tail d.second.first d.second.second))
    (λ y w. ap (λ z. field nowhere z y.1.1.0) w.0 ∙ ap (λ m. field nowhere (bare_expression x) m) w.1.1)
    (seq h (seq (a_sign Arrow) (a_name n)))

spelled_method : (D : List Token → Expression → List Token → Type 0) → ((x y : Expression) (s m r : List Token) → D s x m → Tail x m y r → D s y r)
    → (at : Place) (x : Expression) (n : List ℕ) (es : Expressions) (ks : List Kind) → GoodList es → Spelled D (Like x) ks → Spelled D (Like (method at x n es)) (ks ++ (Sign Arrow ∷ Word n ∷ in_parentheses (spell_list es)))
spelled_method D more at x n es ks g h =
    under (λ y. method y.1.0 y.0 y.1.1.0.0 (expressions y.1.1.1)) (λ y s r w d. more y.0 _ s d.mid r d.first (method_tail d.second.first d.second.second.first d.second.second.second))
    (λ y w. ap (λ z. method nowhere z y.1.1.0.0 (bare_expressions (expressions y.1.1.1))) w.0 ∙ ap (λ m. method nowhere (bare_expression x) m (bare_expressions (expressions y.1.1.1))) w.1.1.0 ∙ ap (λ z. method nowhere (bare_expression x) n z) w.1.1.1)
    (seq h (seq (a_sign Arrow) (seq (a_name n) (arguments es g))))

spelled_index : (D : List Token → Expression → List Token → Type 0) → ((x y : Expression) (s m r : List Token) → D s x m → Tail x m y r → D s y r)
    → (at : Place) (x i : Expression) (ks : List Kind) → Good i → Spelled D (Like x) ks → Spelled D (Like (index at x i)) (ks ++ (Sign OpenBracket ∷ (spell_expression i ++ Sign CloseBracket ∷ [])))
spelled_index D more at x i ks g h =
    under (λ y. index y.1.0 y.0 y.1.1.0) (λ y s r w d. more y.0 _ s d.mid r d.first (index_tail d.second.first d.second.second.first d.second.second.second))
    (λ y w. ap (λ z. index nowhere z (bare_expression y.1.1.0)) w.0 ∙ ap (λ z. index nowhere (bare_expression x) z) w.1.1.0)
    (seq h (seq (a_sign OpenBracket) (seq (whole_expression g) (a_sign CloseBracket))))

headed : (x : Expression) {ks : List Kind} → Spelled Headed (Like x) ks → Spelled (At tail_level) (Like x) ks
headed x h = under (λ y. y) (λ y s r w d. at_head d) (λ y w. w) h

after_head : (x y : Expression) (s m r : List Token) → Headed s x m → Tail x m y r → Headed s y r
after_head x y s m r d t = headed_more d t

after_chain : (x y : Expression) (s m r : List Token) → Chain s x m → Tail x m y r → Chain s y r
after_chain x y s m r d t = chain_more d t

-- what stands behind the head x
field_writable : (t : Bool) (x : Expression) (n : List ℕ) → AllWritable (spell_expression x) → IsName n → AllWritable (bracketed t (spell_expression x) ++ (Sign Arrow ∷ Word n ∷ []))
field_writable t x n a h = writable_both (bracketed t (spell_expression x)) _ (writable_bracketed t (spell_expression x) a) (tt, (h, tt))

good_field : (at : Place) (x : Expression) (n : List ℕ) → Good x → IsName n → Good (field at x n)
good_field at x n g h = record { writable = field_writable (nat_lt (binds x) tail_level) x n g.writable h; reads = headed (field at x n) (spelled_field Headed after_head at x n _ (head x g)) }

good_method : (at : Place) (x : Expression) (n : List ℕ) (es : Expressions) → Good x → IsName n → GoodList es → Good (method at x n es)
good_method at x n es g h l = record {
  writable = writable_both (bracketed (nat_lt (binds x) tail_level) (spell_expression x)) _ (writable_bracketed (nat_lt (binds x) tail_level) (spell_expression x) g.writable) (tt, (h, writable_brackets (spell_list es) l.writable));
  reads = headed (method at x n es) (spelled_method Headed after_head at x n es _ l (head x g));
}

good_index : (at : Place) (x i : Expression) → Good x → Good i → Good (index at x i)
good_index at x i g h = record {
  writable = writable_both (bracketed (nat_lt (binds x) tail_level) (spell_expression x)) _ (writable_bracketed (nat_lt (binds x) tail_level) (spell_expression x) g.writable) (tt, writable_both (spell_expression i) _ h.writable (tt, tt));
  reads = headed (index at x i) (spelled_index Headed after_head at x i _ h (head x g));
}

-- a chain that is read back as one
pub record GoodChain (x : Expression) : Type 0 where
  pub good : Good x
  pub strong : binds x ≡ tail_level
  pub chain : Spelled Chain (Like x) (spell_expression x)

from_chain : (x : Expression) → binds x ≡ tail_level → AllWritable (spell_expression x) → Spelled Chain (Like x) (spell_expression x) → GoodChain x
from_chain x e a h = record {
  good = record { writable = a; reads = subst (λ k. Spelled (At k) (Like x) (spell_expression x)) (sym e) (headed x (under (λ y. y) (λ y s r w d. chain_head d) (λ y w. w) h)) };
  strong = e;
  chain = h;
}

-- a chain has no brackets before a tail
plain_head : (x : Expression) → GoodChain x → Spelled Chain (Like x) (bracketed (nat_lt (binds x) tail_level) (spell_expression x))
plain_head x g = subst (λ k. Spelled Chain (Like x) (bracketed (nat_lt k tail_level) (spell_expression x))) (sym g.strong) g.chain

chain_this : (at : Place) → GoodChain (this at)
chain_this at = from_chain (this at) refl (tt, tt) (under (λ p. this p) (λ p s r w d. this_chain d tails_end) (λ p w. refl) (a_key This))

chain_name : (at : Place) (n : List ℕ) → IsName n → GoodChain (named at n)
chain_name at n h = from_chain (named at n) refl (h, tt) (under (λ y. named y.1 y.0) (λ y s r w d. name_chain d tails_end) (λ y w. ap (λ m. named nowhere m) w) (a_name n))

chain_call : (at : Place) (n : List ℕ) (es : Expressions) → IsName n → GoodList es → GoodChain (call at n es)
chain_call at n es h l = from_chain (call at n es) refl (h, writable_brackets (spell_list es) l.writable)
    (under (λ y. call y.0.1 y.0.0 (expressions y.1)) (λ y s r w d. call_chain d.first d.second tails_end)
    (λ y w. ap (λ m. call nowhere m (bare_expressions (expressions y.1))) w.0 ∙ ap (λ z. call nowhere n z) w.1)
    (seq (a_name n) (arguments es l)))

chain_field : (at : Place) (x : Expression) (n : List ℕ) → GoodChain x → IsName n → GoodChain (field at x n)
chain_field at x n g h = record { good = good_field at x n g.good h; strong = refl; chain = spelled_field Chain after_chain at x n _ (plain_head x g) }

chain_method : (at : Place) (x : Expression) (n : List ℕ) (es : Expressions) → GoodChain x → IsName n → GoodList es → GoodChain (method at x n es)
chain_method at x n es g h l = record { good = good_method at x n es g.good h l; strong = refl; chain = spelled_method Chain after_chain at x n es _ l (plain_head x g) }

chain_index : (at : Place) (x i : Expression) → GoodChain x → Good i → GoodChain (index at x i)
chain_index at x i g h = record { good = good_index at x i g.good h; strong = refl; chain = spelled_index Chain after_chain at x i _ h (plain_head x g) }

-- what is read of a text is good, and what stands behind it is of the text
pub record Out (G : Type 0) (r : List Token) : Type 0 where
  pub good : G
  pub rest : AllRead r

mutual
  pub good_level : {k : ℕ} {s r : List Token} {x : Expression} → AllRead s → Level k s x r → Out (Good x) r
  good_level h (operands low a os) = let o = good_level h a in good_operands o.rest o.good os
  good_level h (one_operand low u) = good_unaries h u

  good_operands : {k : ℕ} {s r : List Token} {a x : Expression} → AllRead s → Good a → Operands k a s x r → Out (Good x) r
  good_operands h g operands_end = record { good = g; rest = h }
  good_operands {a = a} h g (operands_more {b = b} {o = o} d e os) =
      let p = good_level (behind h d) e in
      good_operands p.rest (good_binary o.1 o.0 a b g p.good) os

  good_unaries : {s r : List Token} {x : Expression} → AllRead s → Unary s x r → Out (Good x) r
  good_unaries h (unary_first {x = x} {o = o} d u) = let p = good_unaries (behind h d) u in record { good = good_unary o.1 o.0 x p.good; rest = p.rest }
  good_unaries h (unary_last p) = good_primary h p

  good_primary : {s r : List Token} {x : Expression} → AllRead s → Primary s x r → Out (Good x) r
  good_primary {x = x} h (a_literal d) = record { good = good_literal (literal_read h d); rest = behind h d }
  good_primary h (a_chain c) = let p = good_chain h c in record { good = p.good.good; rest = p.rest }
  good_primary h (in_brackets o d c us) = let p = good_level (behind h o) d in good_tails (behind p.rest c) p.good us
  good_primary h (by_word {o = o} w (sides {a = a} {b = b} d e f k i)) =
      let p = good_level (behind (behind h w) d) e in
      let q = good_level (behind p.rest f) k in
      record { good = good_binary o.1 o.0 a b p.good q.good; rest = behind q.rest i }

  pub good_chain : {s r : List Token} {x : Expression} → AllRead s → Chain s x r → Out (GoodChain x) r
  good_chain h (this_chain {p = p} d us) = chain_tails (behind h d) (chain_this p) us
  good_chain h (name_chain {n = n} d us) = chain_tails (behind h d) (chain_name n.1 n.0 (name_read h d)) us
  good_chain h (call_chain {n = n} {xs = xs} d a us) = let p = good_arguments (behind h d) a in chain_tails p.rest (chain_call n.1 n.0 (expressions xs) (name_read h d) p.good) us

  good_tails : {s r : List Token} {a x : Expression} → AllRead s → Good a → Tails a s x r → Out (Good x) r
  good_tails h g tails_end = record { good = g; rest = h }
  good_tails h g (tails_more u us) = let p = good_tail h g u in good_tails p.rest p.good us

  good_tail : {s r : List Token} {a x : Expression} → AllRead s → Good a → Tail a s x r → Out (Good x) r
  good_tail {a = a} h g (field_tail {p = p} {n = n} d e) = record { good = good_field p a n.0 g (name_read (behind h d) e); rest = behind (behind h d) e }
  good_tail {a = a} h g (method_tail {p = p} {n = n} {xs = xs} d e f) =
      let q = good_arguments (behind (behind h d) e) f in
      record { good = good_method p a n.0 (expressions xs) g (name_read (behind h d) e) q.good; rest = q.rest }
  good_tail {a = a} h g (index_tail {i = i} {p = p} d e f) = let q = good_level (behind h d) e in record { good = good_index p a i g q.good; rest = behind q.rest f }

  chain_tails : {s r : List Token} {a x : Expression} → AllRead s → GoodChain a → Tails a s x r → Out (GoodChain x) r
  chain_tails h g tails_end = record { good = g; rest = h }
  chain_tails h g (tails_more u us) = let p = chain_tail h g u in chain_tails p.rest p.good us

  chain_tail : {s r : List Token} {a x : Expression} → AllRead s → GoodChain a → Tail a s x r → Out (GoodChain x) r
  chain_tail {a = a} h g (field_tail {p = p} {n = n} d e) = record { good = chain_field p a n.0 g (name_read (behind h d) e); rest = behind (behind h d) e }
  chain_tail {a = a} h g (method_tail {p = p} {n = n} {xs = xs} d e f) =
      let q = good_arguments (behind (behind h d) e) f in
      record { good = chain_method p a n.0 (expressions xs) g (name_read (behind h d) e) q.good; rest = q.rest }
  chain_tail {a = a} h g (index_tail {i = i} {p = p} d e f) = let q = good_level (behind h d) e in record { good = chain_index p a i g q.good; rest = behind q.rest f }

  good_arguments : {s r : List Token} {xs : List Expression} → AllRead s → Args s xs r → Out (GoodList (expressions xs)) r
  good_arguments h (args d l) = good_list (behind h d) l

  good_list : {s r : List Token} {xs : List Expression} → AllRead s → Listed s xs r → Out (GoodList (expressions xs)) r
  good_list h (listed_none d) = record { good = no_list; rest = behind h d }
  good_list h (listed {x = x} {xs = xs} d f) = let p = good_level h d in let q = good_others p.rest f in record { good = list_and x (expressions xs) p.good q.good; rest = q.rest }

  good_others : {s r : List Token} {xs : List Expression} → AllRead s → Further s xs r → Out (GoodOthers (expressions xs)) r
  good_others h (further_none d) = record { good = no_others; rest = behind h d }
  good_others h (further {x = x} {xs = xs} c d f) =
      let p = good_level (behind h c) d in
      let q = good_others p.rest f in
      record { good = others_and x (expressions xs) p.good q.good; rest = q.rest }
