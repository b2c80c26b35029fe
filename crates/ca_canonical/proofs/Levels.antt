-- Levels, chains and operands that are read back.
use Rattle.std.proofs.Common.{◌≡◌, ℕ, zero, suc, ◌+◌, ◌-◌, ◌<◌, ◌≤◌, List, Bool, true, false, refl, subst, arith}
use Rattle.std.specs.Prelude.{nat_lt}
use Rattle.std.proofs.lemmas.Bool.{ltb-false}
use Rattle.ca_descent.specs.Exact.{Sees}
use Rattle.ca_tree.specs.declared.name.Place.{Place}
use Rattle.ca_tree.specs.declared.token.Sign.TheVariants.{OpenParenthesis, CloseParenthesis}
use Rattle.ca_tree.specs.declared.token.Token.{Token}
use Rattle.ca_tree.specs.declared.tree.BinaryOp.{BinaryOp}
use Rattle.ca_tree.specs.declared.operators.TheConstants.{LEVELS}
use Rattle.ca_tree.specs.Operators.{unary_level}
use Rattle.ca_tree.specs.Plain.{Expression, binary}
use Rattle.ca_expressions.specs.Terminals.{sign, operator}
use Rattle.ca_expressions.specs.Grammar.{Level, operands, one_operand, Operands, operands_end, operands_more, Unary, unary_last, Primary, a_chain, in_brackets, Chain, this_chain, name_chain, call_chain, Tails, tails_end, tails_more, Tail}
use Rattle.ca_canonical.specs.Spell.{literal_level, tail_level, binds, bracketed, in_parentheses, spell_expression}
use Rattle.ca_canonical.specs.Bare.{bare_expression}
use Rattle.ca_canonical.proofs.Texts.{AllWritable}
use Rattle.ca_canonical.proofs.Fronts.{Spelled, seq, under}
use Rattle.ca_canonical.proofs.Terminals.{a_sign}

-- a chain, or brackets, and the tails behind them
pub data Headed : List Token → Expression → List Token → Type 0 where
  chain_head : {s r : List Token} {x : Expression} → Chain s x r → Headed s x r
  brackets_head : {s s1 s2 s3 r : List Token} {a x : Expression} {o c : Place} → Sees (sign OpenParenthesis) s o s1
      → Level 0 s1 a s2 → Sees (sign CloseParenthesis) s2 c s3 → Tails a s3 x r → Headed s x r

pub headed_primary : {s r : List Token} {x : Expression} → Headed s x r → Primary s x r
headed_primary (chain_head d) = a_chain d
headed_primary (brackets_head o d c t) = in_brackets o d c t

one_tail_more : {a x y : Expression} {s m r : List Token} → Tails a s x m → Tail x m y r → Tails a s y r
one_tail_more tails_end t = tails_more t tails_end
one_tail_more (tails_more u us) t = tails_more u (one_tail_more us t)

pub chain_more : {x y : Expression} {s m r : List Token} → Chain s x m → Tail x m y r → Chain s y r
chain_more (this_chain w us) t = this_chain w (one_tail_more us t)
chain_more (name_chain w us) t = name_chain w (one_tail_more us t)
chain_more (call_chain w a us) t = call_chain w a (one_tail_more us t)

pub headed_more : {x y : Expression} {s m r : List Token} → Headed s x m → Tail x m y r → Headed s y r
headed_more (chain_head d) t = chain_head (chain_more d t)
headed_more (brackets_head o d c us) t = brackets_head o d c (one_tail_more us t)

one_operand_more : {k : ℕ} {a b x : Expression} {s m m2 r : List Token} {o : BinaryOp × Place} → Operands k a s x m → Sees (operator k) m o m2 → Level (k + 1) m2 b r → Operands k a s (binary o.1 o.0 x b) r
one_operand_more operands_end d e = operands_more d e operands_end
one_operand_more (operands_more d1 e1 us) d e = operands_more d1 e1 (one_operand_more us d e)

pub level_more : {k : ℕ} {b x : Expression} {s m m2 r : List Token} {o : BinaryOp × Place} → k < LEVELS → Level k s x m → Sees (operator k) m o m2 → Level (k + 1) m2 b r → Level k s (binary o.1 o.0 x b) r
level_more low (operands h a us) d e = operands h a (one_operand_more us d e)
level_more low (one_operand h u) d e = absurd (omega (arith, low, h))

-- what binds more tightly stands at a weaker level too
down : (d n k : ℕ) {s r : List Token} {x : Expression} → k ≡ d + n → k ≤ LEVELS → Level k s x r → Level n s x r
down zero n k {s = s} {r = r} {x = x} e h l = let same : k ≡ n = omega (arith, e) in subst (λ m. Level m s x r) same l
down (suc d) n k e h l = operands (omega (arith, e, h)) (down d (n + 1) k (omega (arith, e)) h l) operands_end

pub level_down : (n k : ℕ) {s r : List Token} {x : Expression} → n ≤ k → k ≤ LEVELS → Level k s x r → Level n s x r
level_down n k low h l = down (k - n) n k (omega (arith, low)) h l

pub unary_at : (n : ℕ) {s r : List Token} {x : Expression} → n ≤ LEVELS → Unary s x r → Level n s x r
unary_at n h u = level_down n unary_level h (omega arith) (one_operand (omega arith) u)

pub unary_of_level : {s r : List Token} {x : Expression} → Level unary_level s x r → Unary s x r
unary_of_level (operands h a us) = absurd (omega (arith, h))
unary_of_level (one_operand h u) = u

-- an expression that binds so tightly
pub data At : ℕ → List Token → Expression → List Token → Type 0 where
  at_level : {k : ℕ} {s r : List Token} {x : Expression} → k ≤ LEVELS → Level k s x r → At k s x r
  at_primary : {s r : List Token} {x : Expression} → Primary s x r → At literal_level s x r
  at_head : {s r : List Token} {x : Expression} → Headed s x r → At tail_level s x r

pub at_least : (n k : ℕ) {s r : List Token} {x : Expression} → n ≤ k → n ≤ LEVELS → At k s x r → Level n s x r
at_least n k h low (at_level i l) = level_down n k h i l
at_least n k h low (at_primary p) = unary_at n low (unary_last p)
at_least n k h low (at_head p) = unary_at n low (unary_last (headed_primary p))

pub at_most : (k : ℕ) {s r : List Token} {x : Expression} → tail_level ≤ k → At k s x r → Headed s x r
at_most k h (at_level i l) = absurd (omega (arith, h, i))
at_most k h (at_primary p) = absurd (omega (arith, h))
at_most k h (at_head p) = p

abbrev pub Like : Expression → Expression → Type 0
Like x y = bare_expression y ≡ bare_expression x

-- an expression that is read back
pub record Good (x : Expression) : Type 0 where
  pub writable : AllWritable (spell_expression x)
  pub reads : Spelled (At (binds x)) (Like x) (spell_expression x)

at_level_zero : (x : Expression) → Good x → Spelled (Level 0) (Like x) (spell_expression x)
at_level_zero x g = under (λ y. y) (λ y s r w d. at_least 0 (binds x) (omega arith) (omega arith) d) (λ y w. w) g.reads

pub whole_expression : {x : Expression} → Good x → Spelled (Level 0) (Like x) (spell_expression x)
whole_expression {x = x} g = at_level_zero x g

brackets : (x : Expression) → Good x → Spelled Headed (Like x) (in_parentheses (spell_expression x))
brackets x g =
    under (λ y. y.1.0) (λ y s r w d. brackets_head d.first d.second.first d.second.second tails_end) (λ y w. w.1.0)
    (seq (a_sign OpenParenthesis) (seq (at_level_zero x g) (a_sign CloseParenthesis)))

pub operand : (n : ℕ) (x : Expression) → n ≤ LEVELS → Good x → Spelled (Level n) (Like x) (bracketed (nat_lt (binds x) n) (spell_expression x))
operand n x low g = at (nat_lt (binds x) n) refl
  where
    at : (t : Bool) → nat_lt (binds x) n ≡ t → Spelled (Level n) (Like x) (bracketed t (spell_expression x))
    at true e = under (λ y. y) (λ y s r w d. unary_at n low (unary_last (headed_primary d))) (λ y w. w) (brackets x g)
    at false e = under (λ y. y) (λ y s r w d. at_least n (binds x) (ltb-false (binds x) n e) low d) (λ y w. w) g.reads

pub head : (x : Expression) → Good x → Spelled Headed (Like x) (bracketed (nat_lt (binds x) tail_level) (spell_expression x))
head x g = at (nat_lt (binds x) tail_level) refl
  where
    at : (t : Bool) → nat_lt (binds x) tail_level ≡ t → Spelled Headed (Like x) (bracketed t (spell_expression x))
    at true e = brackets x g
    at false e = under (λ y. y) (λ y s r w d. at_most (binds x) (ltb-false (binds x) tail_level e) d) (λ y w. w) g.reads
