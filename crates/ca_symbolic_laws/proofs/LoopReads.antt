-- The locals that a call loop reads: what its demand hands over is what the loop finds.
use Rattle.std.proofs.Common.{◌≡◌, ℕ, zero, suc, ◌+◌, Bool, true, false, List, [], ◌∷◌, length, map, refl, sym, ap, ap₂, ◌∙◌, arith}
use Rattle.std.specs.Prelude.{◌||◌, ◌&&◌, nat_eq, if◌then◌else◌}
use Rattle.std.specs.List.{list_any}
use Rattle.std.proofs.lemmas.List.Folds.{list_any-append}
use Rattle.ca_tree.specs.declared.tree.AssignOp.TheVariants.{Put, Add}
use Rattle.ca_tree.specs.declared.tree.BinaryOp.TheVariants.{Plus}
use Rattle.ca_program.specs.declared.program.FirstPart.{FirstPart}
use Rattle.ca_program.specs.declared.program.FirstPart.TheVariants.{Declares}
use Rattle.ca_program.specs.declared.program.LocalId.{LocalId}
use Rattle.ca_program.specs.declared.program.LoopId.{LoopId}
use Rattle.ca_program.specs.declared.program.ValueType.{ValueType}
use Rattle.ca_program.specs.Plain.{Expression, Expressions, number, local, binary, no_expressions, expression_and, Statement, Statements, block, put_local, invoke, for_loop, no_statements, statement_and}
use Rattle.ca_model.specs.declared.value.Value.{Value as Datum}
use Rattle.ca_model.specs.declared.value.Value.TheVariants.{Null}
use Rattle.ca_model.specs.declared.value.Object.{Object}
use Rattle.ca_meaning.specs.Operators.{not_of}
use Rattle.ca_meaning.specs.Expressions.{value_at}
use Rattle.ca_parallel.specs.Bodies.{listed, expressions_of, expressions_of_all}
use Rattle.ca_parallel.specs.Loops.{Begins, CountsUp, IsCall, AreCalls, CallsAlone}
use Rattle.ca_parallel.specs.Scoped.{names, any_names, names_outside, any_names_outside}
use Rattle.ca_norm.specs.Terms.{PlainTerm}
use Rattle.ca_norm.specs.Meanings.{Valuation, mean}
use Rattle.ca_symbolic.specs.Demands.{loop_reads, picked}
use Rattle.ca_symbolic_laws.specs.Costs.{hidden}
use Rattle.ca_symbolic_laws.specs.Meant.{LocalsTyped}
use Rattle.ca_symbolic_laws.specs.Demanded.{spread_out}
use Rattle.ca_symbolic_laws.proofs.Fits.{or_first as or_left, or_second as or_right}

-- Lists of locals

skip : (r : ℕ → Bool) (k n : ℕ) (ds : List Datum) → r k ≡ false → spread_out r k (suc n) ds ≡ Null ∷ spread_out r (suc k) n ds
skip r k n [] e = refl
skip r k n (d ∷ ds) e = rw e refl

take_one : (r : ℕ → Bool) (k n : ℕ) (d : Datum) (ds : List Datum) → r k ≡ true → spread_out r k (suc n) (d ∷ ds) ≡ d ∷ spread_out r (suc k) n ds
take_one r k n d ds e = rw e refl

module _ (v : Valuation) (r : ℕ → Bool) where
  picks : (k : ℕ) (t : PlainTerm) (ts : List PlainTerm) (b : Bool) → r k ≡ b → picked r k (t ∷ ts) ≡ (if b then t ∷ picked r (suc k) ts else picked r (suc k) ts)
  picks k t ts b q = ap (λ c. if c then t ∷ picked r (suc k) ts else picked r (suc k) ts) q

  from : (k n : ℕ) (t : PlainTerm) (ts : List PlainTerm) (b : Bool) → r k ≡ b → spread_out r k (suc n) (map (mean v) (picked r k (t ∷ ts))) ≡ (if b then mean v t else Null) ∷ spread_out r (suc k) n (map (mean v) (picked r (suc k) ts))
  from k n t ts true q = ap (λ xs. spread_out r k (suc n) (map (mean v) xs)) (picks k t ts true q) ∙ take_one r k n (mean v t) (map (mean v) (picked r (suc k) ts)) q
  from k n t ts false q = ap (λ xs. spread_out r k (suc n) (map (mean v) xs)) (picks k t ts false q) ∙ skip r k n (map (mean v) (picked r (suc k) ts)) q

  first_at : (k n : ℕ) (t : PlainTerm) (ts : List PlainTerm) → r k ≡ true → value_at (spread_out r k (suc n) (map (mean v) (picked r k (t ∷ ts)))) zero ≡ mean v t
  first_at k n t ts e = ap (λ xs. value_at xs zero) (from k n t ts true e)

  next_at : (k n : ℕ) (t : PlainTerm) (ts : List PlainTerm) (j : ℕ) (b : Bool) → r k ≡ b → value_at (spread_out r k (suc n) (map (mean v) (picked r k (t ∷ ts)))) (suc j) ≡ value_at (spread_out r (suc k) n (map (mean v) (picked r (suc k) ts))) j
  next_at k n t ts j b q = ap (λ xs. value_at xs (suc j)) (from k n t ts b q)

  -- each local that is read holds what it held
  pub spread_at : (k : ℕ) (ts : List PlainTerm) (j : ℕ) → r (k + j) ≡ true → value_at (spread_out r k (length ts) (map (mean v) (picked r k ts))) j ≡ value_at (map (mean v) ts) j
  spread_at k [] j e = refl
  spread_at k (t ∷ ts) zero e = first_at k (length ts) t ts (ap r (let z : k ≡ k + zero = omega arith in z) ∙ e)
  spread_at k (t ∷ ts) (suc j) e = next_at k (length ts) t ts j (r k) refl ∙ spread_at (suc k) ts j (ap r (let z : suc k + j ≡ k + suc j = omega arith in z) ∙ e)

if_long : (b : Bool) (n : ℕ) (xs ys : List Datum) → length xs ≡ n → length ys ≡ n → length (if b then xs else ys) ≡ n
if_long true n xs ys e h = e
if_long false n xs ys e h = h

pub spread_long : (r : ℕ → Bool) (k n : ℕ) (ds : List Datum) → length (spread_out r k n ds) ≡ n
spread_long r k zero ds = refl
spread_long r k (suc n) [] = ap suc (spread_long r (suc k) n [])
spread_long r k (suc n) (d ∷ ds) =
    if_long (r k) (suc n) (d ∷ spread_out r (suc k) n ds) (Null ∷ spread_out r (suc k) n (d ∷ ds)) (ap suc (spread_long r (suc k) n ds)) (ap suc (spread_long r (suc k) n (d ∷ ds)))

pub hidden_long : (t : ℕ → Bool) (n : ℕ) (ls : List Datum) → length (hidden t n ls) ≡ length ls
hidden_long t n [] = refl
hidden_long t n (x ∷ ls) = ap suc (hidden_long t (n + 1) ls)

pub mapped_long : (v : Valuation) (ts : List PlainTerm) → length (map (mean v) ts) ≡ length ts
mapped_long v [] = refl
mapped_long v (t ∷ ts) = ap suc (mapped_long v ts)

pub typed_long : (h : List Object) (v : Valuation) (ts : List PlainTerm) (tys : List ValueType) → LocalsTyped h v ts tys → length ts ≡ length tys
typed_long h v [] [] t = refl
typed_long h v [] (ty ∷ tys) t = absurd t
typed_long h v (x ∷ ts) [] t = absurd t
typed_long h v (x ∷ ts) (ty ∷ tys) t = ap suc (typed_long h v ts tys t.1)

-- Parts of call loops

-- the first part declares the counter with a value
pub data Begun (i : LocalId) : FirstPart → Statement → Type 0 where
  begun : (at : ℕ) (l : LocalId) (e : Expression) → l ≡ i → Begun i Declares (put_local at l Put e)

pub begun_of : (part : FirstPart) (first : Statement) (i : LocalId) → Begins part first i → Begun i part first
begun_of Declares (put_local at l Put e) i b = begun at l e b
begun_of part first i b = absurd b

or_none : (a : Bool) → a || false ≡ true → a ≡ true
or_none true e = refl
or_none false e = e

-- the last part names the counter alone
pub next_names : (x : Statement) (i : LocalId) (n : ℕ) → CountsUp x i → names_outside x n ≡ true → nat_eq i.0 n ≡ true
next_names (put_local line l Add (number k)) i n c e = ap (λ z. nat_eq z.0 n) (sym c.0) ∙ or_none (nat_eq l.0 n) e
next_names (put_local line l Put (binary Plus (local o) (number k))) i n c e = either (nat_eq l.0 n) refl
  where
    either : (b : Bool) → nat_eq l.0 n ≡ b → nat_eq i.0 n ≡ true
    either true q = ap (λ z. nat_eq z.0 n) (sym c.0) ∙ q
    either false q = ap (λ z. nat_eq z.0 n) (sym c.1) ∙ or_none (nat_eq o.0 n) (ap (λ b. b || (nat_eq o.0 n || false)) (sym q) ∙ e)
next_names x i n c e = absurd c

arguments_named : (es : Expressions) (n : ℕ) → any_names es n ≡ list_any (λ e. names e n) (listed es)
arguments_named no_expressions n = refl
arguments_named (expression_and e es) n = ap (λ b. names e n || b) (arguments_named es n)

call_names : (x : Statement) (n : ℕ) → IsCall x → names_outside x n ≡ list_any (λ e. names e n) (expressions_of x)
call_names (invoke line e op es) n c = ap (λ b. names e n || b) (arguments_named es n)
call_names x n c = absurd c

calls_name : (xs : Statements) (n : ℕ) → AreCalls xs → any_names_outside xs n ≡ list_any (λ e. names e n) (expressions_of_all xs)
calls_name no_statements n c = refl
calls_name (statement_and x xs) n c = ap₂ (λ a b. a || b) (call_names x n c.0) (calls_name xs n c.1) ∙ sym (list_any-append (λ e. names e n) (expressions_of x) (expressions_of_all xs))

-- what the body names stands in its expressions
pub body_names : (x : Statement) (n : ℕ) → CallsAlone x → names_outside x n ≡ list_any (λ e. names e n) (expressions_of x)
body_names (invoke line e op es) n c = call_names (invoke line e op es) n tt
body_names (block line (statement_and x xs)) n c = calls_name (statement_and x xs) n c
body_names x n c = absurd c

reads_of : (b c : Bool) → b ≡ false → c ≡ true → not_of b && c ≡ true
reads_of true c e h = cc
reads_of false c e h = h

module _ (own : ℕ) (site : LoopId) (at : ℕ) (l : LocalId) (e c : Expression) (next x : Statement) (n : ℕ) (other : nat_eq l.0 n ≡ false) where
  abbrev this_loop : Statement
  this_loop = for_loop own site Declares (put_local at l Put e) c next x

  -- a local but the counter that a part names is read
  pub reads_first : names e n ≡ true → loop_reads this_loop n ≡ true
  reads_first q = reads_of (nat_eq l.0 n) _ other (or_left (names e n) _ q)

  pub reads_condition : names c n ≡ true → loop_reads this_loop n ≡ true
  reads_condition q = reads_of (nat_eq l.0 n) _ other (or_right (names e n) _ (or_left (names c n) _ q))

  pub reads_body : CallsAlone x → names_outside x n ≡ true → loop_reads this_loop n ≡ true
  reads_body k q = reads_of (nat_eq l.0 n) _ other (or_right (names e n) _ (or_right (names c n) _
      (list_any-append (λ d. names d n) (expressions_of next) (expressions_of x) ∙ or_right (list_any (λ d. names d n) (expressions_of next)) _ (sym (body_names x n k) ∙ q))))
