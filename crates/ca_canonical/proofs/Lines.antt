-- Each statement that the tokens of a text derive is read back.
use Rattle.std.proofs.Common.{◌≡◌, ℕ, ◌+◌, List, [], ◌∷◌, ◌++◌, true, false, refl, sym, ap, ◌∙◌, subst, arith, append_assoc}
use Rattle.std.specs.Prelude.{pos, Option, Some, None}
use Rattle.std.proofs.Math.Logic.{inr}
use Rattle.ca_descent.specs.Exact.{Unlimited, Sees}
use Rattle.ca_tree.specs.declared.name.Place.{Place}
use Rattle.ca_tree.specs.declared.token.Kind.TheVariants.{Word, Sign}
use Rattle.ca_tree.specs.declared.token.Keyword.TheVariants as key
use Rattle.ca_tree.specs.declared.token.Sign.TheVariants as sign
use Rattle.ca_tree.specs.declared.token.Token.{Token}
use Rattle.ca_tree.specs.declared.tree.TypeNode.{TypeNode}
use Rattle.ca_tree.specs.declared.tree.TypeNode.TheVariants.{Long, Bool as BoolType, Pointer}
use Rattle.ca_tree.specs.declared.tree.AssignOp.{AssignOp}
use Rattle.ca_tree.specs.declared.tree.AssignOp.TheVariants.{Put, Add, Sub}
use Rattle.ca_tree.specs.Plain.{Expression, RightSide, Statement, number, truth, null, this, named, call, field, method, index, unary, binary, value, new, empty, block, local, assign, call_statement, if_only, if_else, while_loop, for_loop, return_value, print_value, statement_and}
use Rattle.ca_expressions.specs.Terminals as terminal
use Rattle.ca_expressions.specs.Grammar.{OuterExpression, is_call, is_target}
use Rattle.ca_parse.specs.Grammar.{statements, first_place, is_open, TypeName, long, bool, pointer, Right, expression, creation, creation_call, Local, declares, begins, Change, puts, changes, increments, decrements, Assign, assigns, AssignLine, assign_line, First, first_local, first_assign, Stmt, nothing, a_block, an_assign, a_call, an_if, an_if_else, a_while, a_for, a_return, a_print, Item, a_local, a_statement, Items, items_end, items_and}
use Rattle.ca_parse.specs.Compounds.{compound_of_sign, compound_of, compound}
use Rattle.ca_parse.proofs.Compounds.{compound_back}
use Rattle.ca_tree.specs.Operators.{assign_sign}
use Rattle.ca_canonical.specs.Spell.{spell_expression, spell_type, spell_right, spell_header, spell_statement, spell_statements, ended, condition}
use Rattle.ca_canonical.specs.Bare.{bare_expression, bare_type, bare_right, bare_start, bare_statement, bare_statements, nowhere}
use Rattle.ca_canonical.proofs.ReadBack.{IsName}
use Rattle.ca_canonical.proofs.Texts.{AllWritable}
use Rattle.ca_canonical.proofs.Fronts.{Spelled, Free, one, lift, outer, of_short, Both, pair, by}
use Rattle.ca_canonical.proofs.Terminals.{AllRead, behind, name_read, number_literal, a_sign, a_key, a_name}
use Rattle.ca_canonical.proofs.Levels.{Like, Good, whole_expression}
use Rattle.ca_canonical.proofs.Operands.{writable_both, writable_brackets, good_literal, Out, good_level, good_chain}

semicolon : Spelled (Free (Unlimited (Sees (terminal.sign sign.Semicolon)))) (λ p. Unit {0}) (Sign sign.Semicolon ∷ [])
semicolon = lift (a_sign sign.Semicolon)

-- types

pub record GoodType (ty : TypeNode) : Type 0 where
  pub writable : AllWritable (spell_type ty)
  pub reads : Spelled (Free TypeName) (λ y. bare_type y.0 ≡ bare_type ty) (spell_type ty)

pub good_type : {free : ℕ} {s r : List Token} {ty : TypeNode × Place} → AllRead s → TypeName free s ty r → Out (GoodType ty.0) r
good_type h (long d) = record { good = record { writable = (tt, tt); reads = by (λ p. (Long, p)) (λ p free s r b w d. long d) (λ p w. refl) (lift (a_key key.Long)) }; rest = behind h d }
good_type h (bool d) = record { good = record { writable = (tt, tt); reads = by (λ p. (BoolType, p)) (λ p free s r b w d. bool d) (λ p w. refl) (lift (a_key key.Bool)) }; rest = behind h d }
good_type h (pointer {n = n} d e) = record {
  good = record {
    writable = (name_read h d, (tt, tt));
    reads = by (λ y. (Pointer y.0.0 y.0.1, y.0.1)) (λ y free s r b w d. pointer d.first d.second) (λ y w. ap (λ m. Pointer m nowhere) w.0) (pair (lift (a_name n.0)) (lift (a_sign sign.Times)));
  };
  rest = behind (behind h d) e;
}

-- right sides

pub record GoodRight (x : RightSide) : Type 0 where
  pub writable : AllWritable (spell_right x)
  pub reads : Spelled (Free Right) (λ y. bare_right y ≡ bare_right x) (spell_right x)

value_right : (x : Expression) → Good x → GoodRight (value x)
value_right x g = record { writable = g.writable; reads = by value (λ y free s r b w d. expression d) (λ y w. ap value w) (outer (whole_expression g)) }

new_right : (n : List ℕ) (at : Place) → IsName n → GoodRight (new n at)
new_right n at h = record {
  writable = (tt, (h, (tt, (tt, tt))));
  reads = by (λ y. new y.1.0.0 y.1.0.1) (λ y free s r b w d. creation_call d.first d.second.first d.second.second.first d.second.second.second) (λ y w. ap (λ m. new m nowhere) w.1.0)
      (pair (lift (a_key key.New)) (pair (lift (a_name n)) (pair (lift (a_sign sign.OpenParenthesis)) (lift (a_sign sign.CloseParenthesis)))));
}

good_right : {free : ℕ} {s r : List Token} {x : RightSide} → AllRead s → Right free s x r → Out (GoodRight x) r
good_right h (expression {x = x} d) = let o = good_level h (of_short d) in record { good = value_right x o.good; rest = o.rest }
good_right h (creation {n = n} w d) = record { good = new_right n.0 n.1 (name_read (behind h w) d); rest = behind (behind h w) d }
good_right h (creation_call {n = n} w d o c) = record { good = new_right n.0 n.1 (name_read (behind h w) d); rest = behind (behind (behind (behind h w) d) o) c }

abbrev LikeStatement : Statement → Statement → Type 0
LikeStatement x y = bare_statement y ≡ bare_statement x

-- declarations of locals

record GoodLocal (x : Statement) : Type 0 where
  is : spell_statement x ≡ ended (spell_header x)
  writable : AllWritable (spell_statement x)
  reads : Spelled (Free Local) (LikeStatement x) (spell_statement x)

same_local : (ty tz : TypeNode) (m n : List ℕ) (v w : Option RightSide) → bare_type ty ≡ bare_type tz → m ≡ n → bare_start v ≡ bare_start w
    → local nowhere (bare_type ty) m nowhere (bare_start v) ≡ local nowhere (bare_type tz) n nowhere (bare_start w)
same_local ty tz m n v w e f g = ap (λ z. local nowhere z m nowhere (bare_start v)) e ∙ ap (λ z. local nowhere (bare_type tz) z nowhere (bare_start v)) f ∙ ap (λ z. local nowhere (bare_type tz) n nowhere z) g

good_local : {free : ℕ} {s r : List Token} {x : Statement} → AllRead s → Local free s x r → Out (GoodLocal x) r
good_local h (declares {ty = ty} {n = n} t d e) =
    let o = good_type h t in
    record {
      good = record {
        is = refl;
        writable = writable_both (spell_type ty.0 ++ (Word n.0 ∷ [])) _ (writable_both (spell_type ty.0) _ o.good.writable (name_read o.rest d, tt)) (tt, tt);
        reads = by (λ y. local y.0.0.1 y.0.0.0 y.0.1.0 y.0.1.1 None) (λ y free s r b w d. declares d.first.first d.first.second d.second)
            (λ y w. same_local y.0.0.0 ty.0 y.0.1.0 n.0 None None w.0.0 w.0.1 refl)
            (pair (pair o.good.reads (lift (a_name n.0))) semicolon);
      };
      rest = behind (behind o.rest d) e;
    }
good_local h (begins {ty = ty} {n = n} {x = x} t d a g e) =
    let o = good_type h t in
    let p = good_right (behind (behind o.rest d) a) g in
    record {
      good = record {
        is = refl;
        writable = writable_both (spell_type ty.0 ++ (Word n.0 ∷ Sign sign.Assign ∷ spell_right x)) _ (writable_both (spell_type ty.0) _ o.good.writable (name_read o.rest d, (tt, p.good.writable))) (tt, tt);
        reads = by (λ y. local y.0.0.1 y.0.0.0 y.0.1.0.0 y.0.1.0.1 (Some y.0.1.1.1)) (λ y free s r b w d. begins d.first.first d.first.second.first d.first.second.second.first d.first.second.second.second d.second)
            (λ y w. same_local y.0.0.0 ty.0 y.0.1.0.0 n.0 (Some y.0.1.1.1) (Some x) w.0.0 w.0.1.0 (ap Some w.0.1.1.1))
            (pair (pair o.good.reads (pair (lift (a_name n.0)) (pair (lift (a_sign sign.Assign)) p.good.reads))) semicolon);
      };
      rest = behind p.rest e;
    }

-- assignments

record GoodChange (op : AssignOp) (x : RightSide) : Type 0 where
  writable : AllWritable (spell_right x)
  reads : Spelled (Free Change) (λ y. (y.0 ≡ op) × (bare_right y.1 ≡ bare_right x)) (Sign (assign_sign op) ∷ spell_right x)

a_compound : (op : AssignOp) → compound_of_sign (assign_sign op) ≡ Some op → Spelled (Sees compound) (λ o. o ≡ op) (Sign (assign_sign op) ∷ [])
a_compound op is = one compound (λ o. o ≡ op) (Sign (assign_sign op)) (λ t e. (op, refl, ap (λ z. compound_of z t.at) e ∙ is))

compound_change : (op : AssignOp) → compound_of_sign (assign_sign op) ≡ Some op → (x : Expression) → Good x → GoodChange op (value x)
compound_change op is x g = record {
  writable = g.writable;
  reads = by (λ y. (y.0, value y.1)) (λ y free s r b w d. changes d.first d.second) (λ y w. (w.0, ap value w.1)) (pair (lift (a_compound op is)) (outer (whole_expression g)));
}

one_is_good : (at : Place) → Good (number at (pos 1))
one_is_good at = good_literal (number_literal {at = at} (1, refl, omega arith))

good_change : {free : ℕ} {s r : List Token} {c : AssignOp × RightSide} → AllRead s → Change free s c r → Out (GoodChange c.0 c.1) r
good_change h (puts {x = x} a d) =
    let o = good_right (behind h a) d in
    record {
      good = record {
        writable = o.good.writable;
        reads = by (λ y. (Put, y.1)) (λ y free s r b w d. puts d.first d.second) (λ y w. (refl, w.1)) (pair (lift (a_sign sign.Assign)) o.good.reads);
      };
      rest = o.rest;
    }
good_change h (changes {op = op} {x = x} c d) = let o = good_level (behind h c) (of_short d) in record { good = compound_change op (compound_back c) x o.good; rest = o.rest }
good_change h (increments {p = p} d) = record { good = compound_change Add refl (number p (pos 1)) (one_is_good p); rest = behind h d }
good_change h (decrements {p = p} d) = record { good = compound_change Sub refl (number p (pos 1)) (one_is_good p); rest = behind h d }

target_but_places : (x : Expression) → is_target (bare_expression x) ≡ is_target x
target_but_places (number at n) = refl
target_but_places (truth at b) = refl
target_but_places (null at) = refl
target_but_places (this at) = refl
target_but_places (named at n) = refl
target_but_places (call at n es) = refl
target_but_places (field at e n) = refl
target_but_places (method at e n es) = refl
target_but_places (index at e i) = refl
target_but_places (unary at o e) = refl
target_but_places (binary at o a b) = refl

call_but_places : (x : Expression) → is_call (bare_expression x) ≡ is_call x
call_but_places (number at n) = refl
call_but_places (truth at b) = refl
call_but_places (null at) = refl
call_but_places (this at) = refl
call_but_places (named at n) = refl
call_but_places (call at n es) = refl
call_but_places (field at e n) = refl
call_but_places (method at e n es) = refl
call_but_places (index at e i) = refl
call_but_places (unary at o e) = refl
call_but_places (binary at o a b) = refl

like_target : (x y : Expression) → Like x y → is_target x ≡ true → is_target y ≡ true
like_target x y e h = sym (target_but_places y) ∙ ap is_target e ∙ target_but_places x ∙ h

like_call : (x y : Expression) → Like x y → is_call x ≡ true → is_call y ≡ true
like_call x y e h = sym (call_but_places y) ∙ ap is_call e ∙ call_but_places x ∙ h

record GoodAssign (x : Statement) : Type 0 where
  is : spell_statement x ≡ ended (spell_header x)
  writable : AllWritable (spell_header x)
  reads : Spelled (Free Assign) (LikeStatement x) (spell_header x)

good_assign : {free : ℕ} {s r : List Token} {x : Statement} → AllRead s → Assign free s x r → Out (GoodAssign x) r
good_assign h (assigns {x = x} {c = c} d target change) =
    let o = good_chain h (of_short d) in
    let p = good_change o.rest change in
    record {
      good = record {
        is = refl;
        writable = writable_both (spell_expression x) _ o.good.good.writable (tt, p.good.writable);
        reads = by (λ y. assign (first_place y.0) y.0 y.1.0 y.1.1) (λ y free s r b w d. assigns d.first (like_target x y.0 w.0 target) d.second)
            (λ y w. ap (λ z. assign nowhere z y.1.0 (bare_right y.1.1)) w.0 ∙ ap (λ z. assign nowhere (bare_expression x) z (bare_right y.1.1)) w.1.0 ∙ ap (λ z. assign nowhere (bare_expression x) c.0 z) w.1.1)
            (pair (outer o.good.chain) p.good.reads);
      };
      rest = p.rest;
    }

-- an assignment and its `;`
record GoodLine (x : Statement) : Type 0 where
  is : spell_statement x ≡ ended (spell_header x)
  writable : AllWritable (spell_statement x)
  reads : Spelled (Free AssignLine) (LikeStatement x) (spell_statement x)

good_line : {free : ℕ} {s r : List Token} {x : Statement} → AllRead s → AssignLine free s x r → Out (GoodLine x) r
good_line h (assign_line {x = x} d e) =
    let o = good_assign h d in
    record {
      good = record {
        is = o.good.is;
        writable = subst AllWritable (sym o.good.is) (writable_both (spell_header x) _ o.good.writable (tt, tt));
        reads = subst (Spelled (Free AssignLine) (LikeStatement x)) (sym o.good.is) (by (λ y. y.0) (λ y free s r b w d. assign_line d.first d.second) (λ y w. w.0) (pair o.good.reads semicolon));
      };
      rest = behind o.rest e;
    }

record GoodFirst (x : Statement) : Type 0 where
  writable : AllWritable (ended (spell_header x))
  reads : Spelled (Free First) (LikeStatement x) (ended (spell_header x))

good_first : {free : ℕ} {s r : List Token} {x : Statement} → AllRead s → First free s x r → Out (GoodFirst x) r
good_first h (first_local {x = x} d) =
    let o = good_local h d in
    record {
      good = record { writable = subst AllWritable o.good.is o.good.writable; reads = subst (Spelled (Free First) (LikeStatement x)) o.good.is (by (λ y. y) (λ y free s r b w d. first_local d) (λ y w. w) o.good.reads) };
      rest = o.rest;
    }
good_first h (first_assign {x = x} d) =
    let o = good_line h d in
    record {
      good = record { writable = subst AllWritable o.good.is o.good.writable; reads = subst (Spelled (Free First) (LikeStatement x)) o.good.is (by (λ y. y) (λ y free s r b w d. first_assign d) (λ y w. w) o.good.reads) };
      rest = o.rest;
    }

-- statements, at any depth

pub record GoodStatement (x : Statement) : Type 0 where
  pub writable : AllWritable (spell_statement x)
  pub reads : (depth : ℕ) → Spelled (Free (Stmt depth)) (LikeStatement x) (spell_statement x)

pub record GoodItem (x : Statement) : Type 0 where
  pub writable : AllWritable (spell_statement x)
  pub reads : (depth : ℕ) → Spelled (Free (Item depth)) (LikeStatement x) (spell_statement x)

-- with the `}` behind them
pub record GoodItems (xs : List Statement) : Type 0 where
  pub writable : AllWritable (spell_statements (statements xs))
  pub reads : (depth : ℕ) → Spelled (Free (Items depth)) (λ ys. bare_statements (statements ys) ≡ bare_statements (statements xs)) (spell_statements (statements xs) ++ Sign sign.CloseBrace ∷ [])

open_but_places : (x : Statement) → is_open (bare_statement x) ≡ is_open x
open_but_places (empty at) = refl
open_but_places (block at ss) = refl
open_but_places (local at ty n m v) = refl
open_but_places (assign at t o r) = refl
open_but_places (call_statement at e) = refl
open_but_places (if_only at c s) = refl
open_but_places (if_else at c s t) = open_but_places t
open_but_places (while_loop at c s) = open_but_places s
open_but_places (for_loop at first c next s) = open_but_places s
open_but_places (return_value at e) = refl
open_but_places (print_value at e) = refl

like_closed : (x y : Statement) → LikeStatement x y → is_open x ≡ false → is_open y ≡ false
like_closed x y e h = sym (open_but_places y) ∙ ap is_open e ∙ open_but_places x ∙ h

-- a key word and an expression in round brackets
a_condition : (k : _) (x : Expression) → Good x → Spelled (Free (Both (Unlimited (Sees (terminal.key k))) (Both (Unlimited (Sees (terminal.sign sign.OpenParenthesis))) (Both OuterExpression (Unlimited (Sees (terminal.sign sign.CloseParenthesis))))))) (λ y. Unit {0} × (Unit {0} × (Like x y.1.1.0 × Unit {0}))) (condition k x)
a_condition k x g = pair (lift (a_key k)) (pair (lift (a_sign sign.OpenParenthesis)) (pair (outer (whole_expression g)) (lift (a_sign sign.CloseParenthesis))))

writable_condition : (k : _) (x : Expression) → Good x → AllWritable (condition k x)
writable_condition k x g = (tt, writable_brackets (spell_expression x) g.writable)

no_items : GoodItems []
no_items = record { writable = tt; reads = λ depth. by (λ p. []) (λ p free s r b w d. items_end d) (λ p w. refl) (lift (a_sign sign.CloseBrace)) }

item_and : (x : Statement) (xs : List Statement) → GoodItem x → GoodItems xs → GoodItems (x ∷ xs)
item_and x xs g h = record {
  writable = writable_both (spell_statement x) (spell_statements (statements xs)) g.writable h.writable;
  reads = λ depth. subst (Spelled (Free (Items depth)) (λ ys. bare_statements (statements ys) ≡ bare_statements (statements (x ∷ xs)))) (sym (append_assoc (spell_statement x) (spell_statements (statements xs)) (Sign sign.CloseBrace ∷ [])))
      (by (λ y. y.0 ∷ y.1) (λ y free s r b w d. items_and d.first d.second)
      (λ y w. ap (λ z. statement_and z (bare_statements (statements y.1))) w.0 ∙ ap (λ z. statement_and (bare_statement x) z) w.1)
      (pair (g.reads depth) (h.reads depth)));
}

mutual
  good_statement : {depth free : ℕ} {s r : List Token} {x : Statement} → AllRead s → Stmt depth free s x r → Out (GoodStatement x) r
  good_statement h (nothing d) = record { good = record { writable = (tt, tt); reads = λ depth. by (λ p. empty p) (λ p free s r b w d. nothing d) (λ p w. refl) semicolon }; rest = behind h d }
  good_statement h (a_block {p = p} {xs = xs} limit d ds) =
      let o = good_items (behind h d) ds in
      record {
        good = record {
          writable = (tt, writable_both (spell_statements (statements xs)) _ o.good.writable (tt, tt));
          reads = λ depth. by (λ y. block y.0 (statements y.1)) (λ y free s r b w d. a_block (inr b) d.first d.second) (λ y w. ap (λ z. block nowhere z) w.1) (pair (lift (a_sign sign.OpenBrace)) (o.good.reads (depth + 1)));
        };
        rest = o.rest;
      }
  good_statement h (an_assign d) =
      let o = good_line h d in
      record { good = record { writable = o.good.writable; reads = λ depth. by (λ y. y) (λ y free s r b w d. an_assign d) (λ y w. w) o.good.reads }; rest = o.rest }
  good_statement h (a_call {x = x} d is e) =
      let o = good_chain h (of_short d) in
      record {
        good = record {
          writable = writable_both (spell_expression x) _ o.good.good.writable (tt, tt);
          reads = λ depth. by (λ y. call_statement (first_place y.0) y.0) (λ y free s r b w d. a_call d.first (like_call x y.0 w.0 is) d.second) (λ y w. ap (λ z. call_statement nowhere z) w.0) (pair (outer o.good.chain) semicolon);
        };
        rest = behind o.rest e;
      }
  good_statement h (an_if {p = p} {x = x} {y = z} limit k o e c d) =
      let a = good_level (behind (behind h k) o) (of_short e) in
      let b = good_statement (behind a.rest c) d in
      record {
        good = record {
          writable = writable_both (condition key.If x) (spell_statement z) (writable_condition key.If x a.good) b.good.writable;
          reads = λ depth. by (λ y. if_only y.0.0 y.0.1.1.0 y.1) (λ y free s r b w d. an_if (inr b) d.first.first d.first.second.first d.first.second.second.first d.first.second.second.second d.second)
              (λ y w. ap (λ t. if_only nowhere t (bare_statement y.1)) w.0.1.1.0 ∙ ap (λ t. if_only nowhere (bare_expression x) t) w.1)
              (pair (a_condition key.If x a.good) (b.good.reads (depth + 1)));
        };
        rest = b.rest;
      }
  good_statement h (an_if_else {x = x} {y = u} {z = v} limit k o e c d closed f g) =
      let a = good_level (behind (behind h k) o) (of_short e) in
      let b = good_statement (behind a.rest c) d in
      let q = good_statement (behind b.rest f) g in
      record {
        good = record {
          writable = writable_both (condition key.If x) _ (writable_condition key.If x a.good) (writable_both (spell_statement u) _ b.good.writable (tt, q.good.writable));
          reads = λ depth. by (λ y. if_else y.0.0 y.0.1.1.0 y.1.0 y.1.1.1)
              (λ y free s r b w d. an_if_else (inr b) d.first.first d.first.second.first d.first.second.second.first d.first.second.second.second d.second.first (like_closed u y.1.0 w.1.0 closed) d.second.second.first d.second.second.second)
              (λ y w. ap (λ t. if_else nowhere t (bare_statement y.1.0) (bare_statement y.1.1.1)) w.0.1.1.0 ∙ ap (λ t. if_else nowhere (bare_expression x) t (bare_statement y.1.1.1)) w.1.0 ∙ ap (λ t. if_else nowhere (bare_expression x) (bare_statement u) t) w.1.1.1)
              (pair (a_condition key.If x a.good) (pair (b.good.reads (depth + 1)) (pair (lift (a_key key.Else)) (q.good.reads (depth + 1)))));
        };
        rest = q.rest;
      }
  good_statement h (a_while {x = x} {y = z} limit k o e c d) =
      let a = good_level (behind (behind h k) o) (of_short e) in
      let b = good_statement (behind a.rest c) d in
      record {
        good = record {
          writable = writable_both (condition key.While x) (spell_statement z) (writable_condition key.While x a.good) b.good.writable;
          reads = λ depth. by (λ y. while_loop y.0.0 y.0.1.1.0 y.1) (λ y free s r b w d. a_while (inr b) d.first.first d.first.second.first d.first.second.second.first d.first.second.second.second d.second)
              (λ y w. ap (λ t. while_loop nowhere t (bare_statement y.1)) w.0.1.1.0 ∙ ap (λ t. while_loop nowhere (bare_expression x) t) w.1)
              (pair (a_condition key.While x a.good) (b.good.reads (depth + 1)));
        };
        rest = b.rest;
      }
  good_statement h (a_for {x = x} {first = first} {next = next} {y = z} limit k o f e t g c d) =
      let a = good_first (behind (behind h k) o) f in
      let b = good_level a.rest (of_short e) in
      let q = good_assign (behind b.rest t) g in
      let p = good_statement (behind q.rest c) d in
      record {
        good = record {
          writable = (
            tt,
            (
              tt,
              writable_both (ended (spell_header first) ++ (spell_expression x ++ (Sign sign.Semicolon ∷ (spell_header next ++ Sign sign.CloseParenthesis ∷ [])))) (spell_statement z)
                  (writable_both (ended (spell_header first)) _ a.good.writable (writable_both (spell_expression x) _ b.good.writable (tt, writable_both (spell_header next) _ q.good.writable (tt, tt)))) p.good.writable,
            ),
          );
          reads = λ depth. by (λ y. for_loop y.0.0 y.0.1.1.0 y.0.1.1.1.0 y.0.1.1.1.1.1.0 y.1)
              (λ y free s r b w d. a_for (inr b) d.first.first d.first.second.first d.first.second.second.first d.first.second.second.second.first d.first.second.second.second.second.first d.first.second.second.second.second.second.first d.first.second.second.second.second.second.second d.second)
              (λ y w. ap (λ t. for_loop nowhere t (bare_expression y.0.1.1.1.0) (bare_statement y.0.1.1.1.1.1.0) (bare_statement y.1)) w.0.1.1.0
              ∙ ap (λ t. for_loop nowhere (bare_statement first) t (bare_statement y.0.1.1.1.1.1.0) (bare_statement y.1)) w.0.1.1.1.0
              ∙ ap (λ t. for_loop nowhere (bare_statement first) (bare_expression x) t (bare_statement y.1)) w.0.1.1.1.1.1.0
              ∙ ap (λ t. for_loop nowhere (bare_statement first) (bare_expression x) (bare_statement next) t) w.1)
              (pair (pair (lift (a_key key.For)) (pair (lift (a_sign sign.OpenParenthesis)) (pair a.good.reads (pair (outer (whole_expression b.good)) (pair semicolon (pair q.good.reads (lift (a_sign sign.CloseParenthesis)))))))) (p.good.reads (depth + 1)));
        };
        rest = p.rest;
      }
  good_statement h (a_return {x = x} k e c) =
      let a = good_level (behind h k) (of_short e) in
      record {
        good = record {
          writable = (tt, writable_both (spell_expression x) _ a.good.writable (tt, tt));
          reads = λ depth. by (λ y. return_value y.0 y.1.0) (λ y free s r b w d. a_return d.first d.second.first d.second.second) (λ y w. ap (λ z. return_value nowhere z) w.1.0)
              (pair (lift (a_key key.Return)) (pair (outer (whole_expression a.good)) semicolon));
        };
        rest = behind a.rest c;
      }
  good_statement h (a_print {x = x} k o e c f) =
      let a = good_level (behind (behind h k) o) (of_short e) in
      record {
        good = record {
          writable = writable_both (condition key.Print x) _ (writable_condition key.Print x a.good) (tt, tt);
          reads = λ depth. by (λ y. print_value y.0.0 y.0.1.1.0) (λ y free s r b w d. a_print d.first.first d.first.second.first d.first.second.second.first d.first.second.second.second d.second) (λ y w. ap (λ z. print_value nowhere z) w.0.1.1.0)
              (pair (a_condition key.Print x a.good) semicolon);
        };
        rest = behind (behind a.rest c) f;
      }

  pub good_item : {depth free : ℕ} {s r : List Token} {x : Statement} → AllRead s → Item depth free s x r → Out (GoodItem x) r
  good_item h (a_local d) = let o = good_local h d in record { good = record { writable = o.good.writable; reads = λ depth. by (λ y. y) (λ y free s r b w d. a_local d) (λ y w. w) o.good.reads }; rest = o.rest }
  good_item h (a_statement d) = let o = good_statement h d in record { good = record { writable = o.good.writable; reads = λ depth. by (λ y. y) (λ y free s r b w d. a_statement d) (λ y w. w) (o.good.reads depth) }; rest = o.rest }

  pub good_items : {depth free : ℕ} {s r : List Token} {xs : List Statement} → AllRead s → Items depth free s xs r → Out (GoodItems xs) r
  good_items h (items_end d) = record { good = no_items; rest = behind h d }
  good_items h (items_and {x = x} {xs = xs} d ds) = let o = good_item h d in let p = good_items o.rest ds in record { good = item_and x xs o.good p.good; rest = p.rest }
