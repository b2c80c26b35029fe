-- The instructions of an expression do what it means, or something else holds: nothing in typed programs, want of memory where a
-- text fits its layout.
use Rattle.std.proofs.Common.{◌≡◌, ◌≢◌, ℕ, zero, suc, ◌+◌, ◌<◌, ◌≤◌, List, [], ◌∷◌, ◌++◌, length, Option, Some, None, Result, Ok, Err, refl, sym, ap, ◌∙◌, subst, arith, ◌⊎◌, inl, inr}
use Rattle.std.specs.Prelude.{pos, negsuc, cond, true, false, Bool, slice_get, ℤ}
use Rattle.ca_tree.specs.declared.tree.BinaryOp.{BinaryOp}
use Rattle.ca_program.specs.declared.program.FieldId.{FieldId}
use Rattle.ca_program.specs.declared.program.FunctionId.{FunctionId}
use Rattle.ca_program.specs.declared.program.ValueType.{ValueType}
use Rattle.ca_program.specs.Plain.{Expression, Expressions, number, truth, null, this, local, own, own_item, read, read_item, value_call, unary, binary, no_expressions, expression_and, PlainProgram}
use Rattle.ca_model.specs.declared.value.Value.{Value as Datum}
use Rattle.ca_model.specs.declared.value.Value.TheVariants.{Long, Bool as Truth, Null, Ref}
use Rattle.ca_model.specs.declared.value.TrapKind.TheVariants.{NullPointer}
use Rattle.ca_meaning.specs.Operators.{operated, signed}
use Rattle.ca_meaning.specs.Expressions.{Out, gives, traps, over, ◌>>=◌, trap_at, take_step, value_at, one_in, items_in, slot_of, pointed, found, indexed, answer, decided, unless_decided, Place, Calls, eval, eval_all}
use Rattle.ca_program.specs.Kinds.{Kind, as_long, as_truth, as_pointer, Kinds, kinds_in, param_kind, result_kind, unary_kind, binary_kind, kind_of}
use Rattle.ca_program.specs.Instructions.{Constant, Receiver, Move, Own, OwnItem, Field, Item, Unary, Binary, Check, Decide, Call, Code, Placed, IsAt, on, HasAt}
use Rattle.ca_program.specs.Layout.{stands, is_lazy, if_lazy, truth_number, expression_code, expressions_code, operand_code, how_many}
use Rattle.ca_code_laws.specs.Words.{word, read_as, has_kind}
use Rattle.ca_code_laws.specs.Machine.{Store, store, Back, Accesses, State, Trapped, Spent, Wanting, Next, moved, after, put_as, giving, deciding, entering, act, Comes}
use Rattle.ca_code_laws.specs.Told.{Holds, Below, Returned}
use Rattle.ca_code_laws.specs.Fitting.{AreOf}
use Rattle.ca_code_laws.proofs.Words.{back}
use Rattle.ca_code_laws.proofs.Steps.{stored_here, stored_there, has_front, Within, joins, joins_end, steps, steps_end, rests}
use Rattle.ca_code_laws.proofs.Instead.{Otherwise, MayWant, Gets, then_gets, step_gets}
use Rattle.ca_code_laws.proofs.Typed.{Kinded, behind}
use Rattle.ca_tree.specs.declared.tree.BinaryOp.TheVariants as two
use Rattle.ca_model.specs.declared.value.TrapKind.{TrapKind}

-- a value stands in a slot, and the others below `top` are as they were
abbrev pub Valued : ℕ → Store → ℕ → ℕ → Kind → Datum → Store → Type 0
Valued base old to top κ v f = (read_as κ (f (base + to)) ≡ v) × ((j : ℕ) → j < top → j ≢ to → f (base + j) ≡ old (base + j))

-- a value stands in a slot, and all below `top` are as they were
abbrev pub Stood : ℕ → Store → ℕ → ℕ → Kind → Datum → Store → Type 0
Stood base old x top κ v f = (read_as κ (f (base + x)) ≡ v) × ((j : ℕ) → j < top → f (base + j) ≡ old (base + j))

-- values stand from `top` on, and all below are as they were
abbrev pub AllStood : ℕ → Store → ℕ → ℕ → (ℕ → Kind) → List Datum → Store → Type 0
AllStood base old top n κs vs f = (length vs ≡ n) × Holds κs f (base + top) vs × ((j : ℕ) → j < top → f (base + j) ≡ old (base + j))

-- slots that stand apart in a frame
pub apart : (base i j : ℕ) → i ≢ j → base + i ≢ base + j
apart base i j ne e = ne (omega (arith, e))

pub all_there : (κs : ℕ → Kind) (base top : ℕ) (v : Datum) (vs : List Datum) (f : Store) → read_as (κs 0) (f (base + top)) ≡ v → Holds (λ i. κs (suc i)) f (base + (top + 1)) vs → Holds κs f (base + top) (v ∷ vs)
all_there κs base top v vs f e h zero lt = let z : base + top + 0 ≡ base + top = omega arith in ap (λ x. read_as (κs 0) (f x)) z ∙ e
all_there κs base top v vs f e h (suc i) lt = let z : base + top + suc i ≡ base + (top + 1) + i = omega arith in ap (λ x. read_as (κs (suc i)) (f x)) z ∙ h i (omega (arith, lt))

-- ---- what is left is no more

pub within_less : {A : Type 0} (o : Out A) (j k : ℕ) → Within j o → j ≤ k → Within k o
within_less (gives v i) j k h le = omega (arith, h, le)
within_less (traps t) j k h le = tt
within_less over j k h le = tt

pub within_then : {A B : Type 0} (o : Out A) (k : ℕ) (g : A → ℕ → Out B) → Within k o → ((v : A) (j : ℕ) → Within j (g v j)) → Within k (o >>= g)
within_then (gives v j) k g h r = within_less (g v j) j k (r v j) h
within_then (traps t) k g h r = tt
within_then over k g h r = tt

pub within_pointed : (line : ℕ) (v : Datum) (k : ℕ) → Within k (pointed line v k)
within_pointed line (Ref n) k = omega arith
within_pointed line (Long n) k = tt
within_pointed line (Truth n) k = tt
within_pointed line Null k = tt

within_found : (line i : ℕ) (v : Option Datum) (k : ℕ) → Within k (found line i v k)
within_found line i (Some v) k = omega arith
within_found line i None k = tt

pub within_indexed : (line : ℕ) (items : List Datum) (v : Datum) (k : ℕ) → Within k (indexed line items v k)
within_indexed line items (Long (pos i)) k = within_found line i (slice_get items i) k
within_indexed line items (Long (negsuc i)) k = tt
within_indexed line items (Ref n) k = tt
within_indexed line items (Truth n) k = tt
within_indexed line items Null k = tt

pub within_item : (line : ℕ) (items : List Datum) (v : Datum) (k : ℕ) → Within k (indexed line items v k >>= λ item k. gives item.value k)
within_item line items v k = within_then (indexed line items v k) k (λ item k. gives item.value k) (within_indexed line items v k) (λ item j. omega arith)

pub within_answer : (line : ℕ) (a : Result Datum TrapKind) (k : ℕ) → Within k (answer line a k)
within_answer line (Ok v) k = omega arith
within_answer line (Err t) k = tt

-- only `&&` and `||` are decided by their left sides
pub eager : (op : BinaryOp) (v : Datum) → is_lazy op ≡ false → decided op v ≡ None
eager two.And v e = absurd (subst (λ b. cond b (Unit {0}) ⊥) e tt)
eager two.Or v e = absurd (subst (λ b. cond b (Unit {0}) ⊥) e tt)
eager other v e = refl

-- and they give truth values
pub lazy_gives : (op : BinaryOp) → is_lazy op ≡ true → binary_kind op ≡ as_truth
lazy_gives two.Or e = refl
lazy_gives two.And e = refl
lazy_gives other e = cc

pub truth_read : (b : Bool) → read_as as_truth (truth_number b) ≡ Truth b
truth_read true = refl
truth_read false = refl

-- what an expression is laid out to asks of its parts
abbrev pub PartsOf : PlainProgram → List ValueType → (Expression → Type 0) → (Expressions → Type 0) → Expression → Type 0
PartsOf p tys E Es (local l) = l.0 < length tys
PartsOf p tys E Es (own_item f i) = (kind_of (kinds_in p tys) i ≡ as_long) × E i
PartsOf p tys E Es (read e f) = (kind_of (kinds_in p tys) e ≡ as_pointer) × E e
PartsOf p tys E Es (read_item e f i) = (kind_of (kinds_in p tys) e ≡ as_pointer) × (kind_of (kinds_in p tys) i ≡ as_long) × E e × E i
PartsOf p tys E Es (value_call e m es) = (kind_of (kinds_in p tys) e ≡ as_pointer) × AreOf (kinds_in p tys) ((kinds_in p tys).params m) es × E e × Es es
PartsOf p tys E Es (unary op e) = (kind_of (kinds_in p tys) e ≡ unary_kind op) × E e
PartsOf p tys E Es (binary op a b) = (is_lazy op ≡ true → kind_of (kinds_in p tys) a ≡ as_truth) × E a × E b
PartsOf p tys E Es other = Unit {0}

module _ {S : Type 0} (acc : Accesses S) (code : Code) (alt : Otherwise acc code) (p : PlainProgram) (tys : List ValueType) (s0 : State S) (c : Calls) (n : ℕ) where
  -- the kinds in the body
  abbrev ks : Kinds
  ks = kinds_in p tys

  -- the same body at another place
  abbrev st : ℕ → ℕ → Store → State S
  st at k f = moved s0 at k f s0.world

  -- where its expressions are evaluated
  abbrev pl : ℕ → List Datum → Place
  pl line ls = record { heap = acc.heap s0.world; this = s0.this; own = acc.own s0.below s0.world s0.this; locals = ls; line = line }

  -- the value that an evaluation gives, if it gives one, has the kind, or want of memory may be
  abbrev pub Keeps : Kind → Out Datum → Type 0
  Keeps κ o = Kinded κ o ⊎ MayWant acc code alt

  keeps_behind : {A : Type 0} (κ : Kind) (o : Out A) (g : A → ℕ → Out Datum) (v : A) (k : ℕ) → o ≡ gives v k → Keeps κ (o >>= g) → Keeps κ (g v k)
  keeps_behind κ o g v k e (inl has) = inl (behind κ o g v k e has)
  keeps_behind κ o g v k e (inr may) = inr may

  module _ (E : Expression → Type 0) (Es : Expressions → Type 0) (IsPlace : ℕ → List Datum → Type 0) (Callable : FunctionId → ℕ → List Datum → Type 0) where
    -- What is known of the expressions of the body: of their parts, and of the kinds of their values; how many locals there are; and that
    -- calls of value methods with fewer than n steps left run as they mean.
    pub record Knows : Type 0 where
      pub parts : (e : Expression) → E e → PartsOf p tys E Es e
      pub more : (e : Expression) (es : Expressions) → Es (expression_and e es) → E e × Es es
      pub counted : (line : ℕ) (ls : List Datum) → IsPlace line ls → length ls ≡ length tys
      pub keeps : (e : Expression) → E e → (line : ℕ) (ls : List Datum) → IsPlace line ls → (k : ℕ) → Keeps (kind_of ks e) (eval c (pl line ls) e k)
      pub callable : (e : Expression) (m : FunctionId) (es : Expressions) → E (value_call e m es) → (line : ℕ) (ls : List Datum) → IsPlace line ls → (k j i r : ℕ) (vs : List Datum) → eval c (pl line ls) e k ≡ gives (Ref r) j → eval_all c (pl line ls) es j ≡ gives vs i → length vs ≡ how_many es → Callable m r vs
      pub starts : (m : FunctionId) (r : ℕ) (vs : List Datum) → Callable m r vs → (at : ℕ) × (slice_get code.functions m.0 ≡ Some at)
      pub calls : (m : FunctionId) (r : ℕ) (vs : List Datum) (start base k : ℕ) (b : Back) (bs : List Back) (f : Store) → b.wants ≡ true → k < n → slice_get code.functions m.0 ≡ Some start → Callable m r vs → Holds (λ i. param_kind (slice_get p.functions m.0) i) f base vs → alt.there (record { at = start; base = base; left = k; this = Ref r; below = b ∷ bs; slots = f; world = s0.world }) ⊎ Returned acc code (result_kind (slice_get p.functions m.0)) (record { at = start; base = base; left = k; this = Ref r; below = b ∷ bs; slots = f; world = s0.world }) b bs (c m r vs k)

    module _ (know : Knows) where
      local_within : (l line : ℕ) (ls : List Datum) → l < length tys → IsPlace line ls → l < length ls
      local_within l line ls lt place = omega (arith, lt, know.counted line ls place)

      -- the slot of an operand stands below the next free one
      slot_within : (e : Expression) → E e → (top : ℕ) → length tys ≤ top → stands e top < top + 1
      slot_within (local l) t top le = let lt : l.0 < length tys = know.parts (local l) t in omega (arith, lt, le)
      slot_within other t top le = omega arith

      -- a slot of the frame that is put
      put_there : (κ : Kind) (f old : Store) (to top : ℕ) (x : ℤ) (v : Datum) → read_as κ x ≡ v → ((j : ℕ) → j < top → j ≢ to → f (s0.base + j) ≡ old (s0.base + j)) → Valued s0.base old to top κ v (store f (s0.base + to) x)
      put_there κ f old to top x v is same = (ap (read_as κ) (stored_here f (s0.base + to) (s0.base + to) x refl) ∙ is, λ j lt ne. stored_there f (s0.base + to) (s0.base + j) x (apart s0.base j to ne) ∙ same j lt ne)

      put_above : (f : Store) (to : ℕ) (x : ℤ) → Below s0.base f (store f (s0.base + to) x)
      put_above f to x j lt = stored_there f (s0.base + to) j x (λ e. absurd (omega (arith, lt, e)))

      -- one instruction that puts a number into a slot, which is read as the value
      moves_to : (κ : Kind) (at k : ℕ) (f : Store) (to top : ℕ) (i : Placed) (x : ℤ) (v : Datum) → IsAt code at i → ((next : Next S) → act acc code i.line (Some i.instruction) next (st at k f) ≡ next (st (at + 1) k (store f (s0.base + to) x))) → read_as κ x ≡ v → Gets acc code alt (st at k f) 1 (Valued s0.base f to top κ) (gives v k)
      moves_to κ at k f to top i x v h a is = inr (store f (s0.base + to) x, steps acc code (st at k f) (st (at + 1) k (store f (s0.base + to) x)) i h a, put_there κ f f to top x v is (λ j lt ne. refl), put_above f to x, omega arith)

      -- a value of the kind is put into a slot, n instructions on
      puts_kept : (κ : Kind) (at k j m : ℕ) (f old : Store) (to top : ℕ) (i : Placed) (v : Datum) → IsAt code at i → ((next : Next S) → act acc code i.line (Some i.instruction) next (st at k f) ≡ put_as κ (st at k f) next to m v j) → has_kind κ v ≡ true → j ≤ k → ((j : ℕ) → j < top → j ≢ to → f (s0.base + j) ≡ old (s0.base + j)) → Gets acc code alt (st at k f) (1 + m) (Valued s0.base old to top κ) (gives v j)
      puts_kept κ at k j m f old to top i v h a has le same =
          let g : Store = store f (s0.base + to) (word v) in
          let z : at + 1 + m ≡ at + (1 + m) = omega arith in
          inr (g, subst (λ q. Comes acc code (st at k f) (st q j g)) z (steps acc code (st at k f) (st (at + 1 + m) j g) i h (λ next. a next ∙ ap (λ b. cond b (next (st (at + 1 + m) j g)) Wanting) has)), put_there κ f old to top (word v) v (back κ v has) same, put_above f to (word v), le)

      puts_value : (κ : Kind) (at k j m : ℕ) (f old : Store) (to top : ℕ) (i : Placed) (v : Datum) → IsAt code at i → ((next : Next S) → act acc code i.line (Some i.instruction) next (st at k f) ≡ put_as κ (st at k f) next to m v j) → Keeps κ (gives v j) → j ≤ k → ((j : ℕ) → j < top → j ≢ to → f (s0.base + j) ≡ old (s0.base + j)) → Gets acc code alt (st at k f) (1 + m) (Valued s0.base old to top κ) (gives v j)
      puts_value κ at k j m f old to top i v h a has le same = or has
        where
          by : MayWant acc code alt → (b : Bool) → has_kind κ v ≡ b → Gets acc code alt (st at k f) (1 + m) (Valued s0.base old to top κ) (gives v j)
          by may true e = puts_kept κ at k j m f old to top i v h a e le same
          by may false e = inl (may (st at k f) (steps_end acc code (st at k f) Wanting i h (λ next. a next ∙ ap (λ b. cond b (next (st (at + 1 + m) j (store f (s0.base + to) (word v)))) Wanting) e)))

          or : Keeps κ (gives v j) → Gets acc code alt (st at k f) (1 + m) (Valued s0.base old to top κ) (gives v j)
          or (inl e) = puts_kept κ at k j m f old to top i v h a e le same
          or (inr may) = by may (has_kind κ v) refl

      -- one instruction that puts a value into a slot
      gives_to : (κ : Kind) (at k : ℕ) (f old : Store) (to top : ℕ) (i : Placed) (o : Out Datum) → IsAt code at i → ((next : Next S) → act acc code i.line (Some i.instruction) next (st at k f) ≡ giving κ (st at k f) next to o) → Keeps κ o → Within k o → ((j : ℕ) → j < top → j ≢ to → f (s0.base + j) ≡ old (s0.base + j)) → Gets acc code alt (st at k f) 1 (Valued s0.base old to top κ) o
      gives_to κ at k f old to top i (gives v j) h a has le same = puts_value κ at k j 0 f old to top i v h a has le same
      gives_to κ at k f old to top i (traps t) h a has le same = inr (steps_end acc code (st at k f) (Trapped t s0.world) i h a)
      gives_to κ at k f old to top i over h a has le same = inr (steps_end acc code (st at k f) (Spent s0.world) i h a)

      -- a value that stands in the first free slot
      stood_of : (κ : Kind) (at k m top : ℕ) (f : Store) (o : Out Datum) → Gets acc code alt (st at k f) m (Valued s0.base f top top κ) o → Gets acc code alt (st at k f) m (Stood s0.base f top top κ) o
      stood_of κ at k m top f o (inl w) = inl w
      stood_of κ at k m top f (gives v j) (inr r) = inr (r.0, r.1, (r.2.0, λ j lt. r.2.1 j lt (λ e. absurd (omega (arith, lt, e)))), r.3, r.4)
      stood_of κ at k m top f (traps t) (inr r) = inr r
      stood_of κ at k m top f over (inr r) = inr r

      operand : (e : Expression) → E e → (line top : ℕ) (ls : List Datum) → IsPlace line ls → (at k : ℕ) (f : Store) → HasAt code at (operand_code ks line e top) → Holds ks.locals f s0.base ls → (HasAt code at (expression_code ks line e top top) → Gets acc code alt (st at k f) (length (expression_code ks line e top top)) (Valued s0.base f top top (kind_of ks e)) (eval c (pl line ls) e k)) → Gets acc code alt (st at k f) (length (operand_code ks line e top)) (Stood s0.base f (stands e top) top (kind_of ks e)) (eval c (pl line ls) e k)
      operand (local l) t line top ls place at k f h holds rec = inr (f, rests acc code (st at k f), (holds l.0 (local_within l.0 line ls (know.parts (local l) t) place), λ j lt. refl), (λ j lt. refl), omega arith)
      operand e t line top ls place at k f h holds rec = stood_of (kind_of ks e) at k (length (expression_code ks line e top top)) top f (eval c (pl line ls) e k) (rec h)

      -- what is as it was before is as it was before that
      kept : (κ : Kind) (at k m : ℕ) (f old : Store) (to top : ℕ) (o : Out Datum) → ((j : ℕ) → j < top → f (s0.base + j) ≡ old (s0.base + j)) → Gets acc code alt (st at k f) m (Valued s0.base f to top κ) o → Gets acc code alt (st at k f) m (Valued s0.base old to top κ) o
      kept κ at k m f old to top o same (inl w) = inl w
      kept κ at k m f old to top (gives v j) same (inr r) = inr (r.0, r.1, (r.2.0, λ j lt ne. r.2.1 j lt ne ∙ same j lt), r.3, r.4)
      kept κ at k m f old to top (traps t) same (inr r) = inr r
      kept κ at k m f old to top over same (inr r) = inr r

      -- an instruction over one operand, which it reads as of kind x, and which gives a value of kind κ
      over_one : (κ x : Kind) (e : Expression) (line to top : ℕ) (ls : List Datum) (at k : ℕ) (f : Store) (i : Placed) (o : Datum → ℕ → Out Datum) → kind_of ks e ≡ x → Keeps κ (eval c (pl line ls) e k >>= o) → HasAt code at (operand_code ks line e top ++ i ∷ []) → Gets acc code alt (st at k f) (length (operand_code ks line e top)) (Stood s0.base f (stands e top) top (kind_of ks e)) (eval c (pl line ls) e k) → ((at j : ℕ) (g : Store) (next : Next S) → act acc code i.line (Some i.instruction) next (st at j g) ≡ giving κ (st at j g) next to (o (read_as x (g (s0.base + stands e top))) j)) → ((v : Datum) (j : ℕ) → Within j (o v j)) → Gets acc code alt (st at k f) (length (operand_code ks line e top ++ i ∷ [])) (Valued s0.base f to top κ) (eval c (pl line ls) e k >>= o)
      over_one κ x e line to top ls at k f i o fits has h first a within =
          then_gets acc code alt (st at k f) (operand_code ks line e top) (i ∷ []) (Stood s0.base f (stands e top) top (kind_of ks e)) (Valued s0.base f to top κ) o h (eval c (pl line ls) e k) (λ h. first)
          (λ v j g z h q below le.
          let is : read_as x (g (s0.base + stands e top)) ≡ v = ap (λ y. read_as y (g (s0.base + stands e top))) (sym fits) ∙ q.0 in
          gives_to κ (at + length (operand_code ks line e top)) j g f to top i (o v j) h.0 (λ next. a (at + length (operand_code ks line e top)) j g next ∙ ap (λ y. giving κ (st (at + length (operand_code ks line e top)) j g) next to (o y j)) is) (keeps_behind κ (eval c (pl line ls) e k) o v j z has) (within v j) (λ j lt ne. q.1 j lt))

      -- a step, the call, and its value where it is wanted
      called : (m : FunctionId) (line to top : ℕ) (v : Datum) (vs : List Datum) (at k : ℕ) (f : Store) → to ≤ top → k ≤ n → HasAt code at (on line (Call m top to) ∷ []) → ((r : ℕ) → v ≡ Ref r → Callable m r vs) → read_as as_pointer (f (s0.base + top)) ≡ v → Holds (ks.params m) f (s0.base + (top + 1)) vs → Gets acc code alt (st at k f) 1 (Valued s0.base f to top (ks.result m)) (pointed line v k >>= λ r k. take_step k >>= λ _ k. c m r vs k)
      called m line to top v vs at k f le left h callable is holds = by v k left callable is
        where
          first : Datum → ℕ → Out ℕ
          first v k = pointed line v k >>= λ r k. take_step k >>= λ _ k. gives r k

          does : (v : Datum) (k : ℕ) → read_as as_pointer (f (s0.base + top)) ≡ v → (next : Next S) → act acc code line (Some (Call m top to)) next (st at k f) ≡ after (first v k) s0.world (λ r j. entering (slice_get code.functions m.0) (st at k f) next (Ref r) top true to j)
          does v k is next = ap (λ x. after (first x k) s0.world (λ r j. entering (slice_get code.functions m.0) (st at k f) next (Ref r) top true to j)) is

          below_it : Back
          below_it = record { at = at + 1; base = s0.base; this = s0.this; wants = true; to = to }

          here : ℕ → ℕ → ℕ → State S
          here start r k = record { at = start; base = s0.base + (top + 1); left = k; this = Ref r; below = below_it ∷ s0.below; slots = f; world = s0.world }

          ends : (r start k : ℕ) → (o : Out Datum) → Comes acc code (st at (suc k) f) (here start r k) → alt.there (here start r k) ⊎ Returned acc code (ks.result m) (here start r k) below_it s0.below o → Gets acc code alt (st at (suc k) f) 1 (Valued s0.base f to top (ks.result m)) o
          ends r start k o begins (inl w) = inl (alt.back (st at (suc k) f) (here start r k) begins w)
          ends r start k (gives w j) begins (inr t) =
              inr (store t.0 (s0.base + to) t.1, joins acc code begins t.2, put_there (ks.result m) t.0 f to top t.1 w t.5 (λ j lt ne. t.3 (s0.base + j) (omega (arith, lt))), (λ j lt. put_above t.0 to t.1 j lt ∙ t.3 j (omega (arith, lt))), omega (arith, t.4))
          ends r start k (traps x) begins (inr t) = inr (joins_end acc code begins t)
          ends r start k over begins (inr t) = inr (joins_end acc code begins t)

          by : (v : Datum) (k : ℕ) → k ≤ n → ((r : ℕ) → v ≡ Ref r → Callable m r vs) → read_as as_pointer (f (s0.base + top)) ≡ v → Gets acc code alt (st at k f) 1 (Valued s0.base f to top (ks.result m)) (pointed line v k >>= λ r k. take_step k >>= λ _ k. c m r vs k)
          by (Ref r) zero left callable is = inr (steps_end acc code (st at 0 f) (Spent s0.world) (on line (Call m top to)) h.0 (does (Ref r) 0 is))
          by (Ref r) (suc k) left callable is =
              let place = know.starts m r vs (callable r refl) in
              let begins = steps acc code (st at (suc k) f) (here place.0 r k) (on line (Call m top to)) h.0 (λ next. does (Ref r) (suc k) is next ∙ ap (λ o. entering o (st at (suc k) f) next (Ref r) top true to k) place.1) in
              ends r place.0 k (c m r vs k) begins (know.calls m r vs place.0 (s0.base + (top + 1)) k below_it s0.below f refl (omega (arith, left)) place.1 (callable r refl) holds)
          by (Long x) k left callable is = inr (steps_end acc code (st at k f) (Trapped (trap_at line NullPointer) s0.world) (on line (Call m top to)) h.0 (does (Long x) k is))
          by (Truth x) k left callable is = inr (steps_end acc code (st at k f) (Trapped (trap_at line NullPointer) s0.world) (on line (Call m top to)) h.0 (does (Truth x) k is))
          by Null k left callable is = inr (steps_end acc code (st at k f) (Trapped (trap_at line NullPointer) s0.world) (on line (Call m top to)) h.0 (does Null k is))

      one_more : (κs : ℕ → Kind) (κ : Kind) (at k m : ℕ) (f g : Store) (top count : ℕ) (v : Datum) (o : Out (List Datum)) → κ ≡ κs 0 → Valued s0.base f top top κ v g → Gets acc code alt (st at k g) m (AllStood s0.base g (top + 1) count (λ i. κs (suc i))) o → Gets acc code alt (st at k g) m (AllStood s0.base f top (suc count) κs) (o >>= λ vs k. gives (v ∷ vs) k)
      one_more κs κ at k m f g top count v o fits q (inl w) = inl w
      one_more κs κ at k m f g top count v (gives vs j) fits q (inr r) =
          let is : read_as (κs 0) (r.0 (s0.base + top)) ≡ v = ap (read_as (κs 0)) (r.2.2 top (omega arith)) ∙ ap (λ y. read_as y (g (s0.base + top))) (sym fits) ∙ q.0 in
          inr (r.0, r.1, (ap suc r.2.0, all_there κs s0.base top v vs r.0 is r.2.1, λ j lt. r.2.2 j (omega (arith, lt)) ∙ q.1 j lt (λ e. absurd (omega (arith, lt, e)))), r.3, r.4)
      one_more κs κ at k m f g top count v (traps t) fits q (inr r) = inr r
      one_more κs κ at k m f g top count v over fits q (inr r) = inr r

      -- behind a pointer that was checked: the index, and the item
      checked : (e : Expression) (x : FieldId) (i : Expression) (line to top : ℕ) (ls : List Datum) (at k : ℕ) (f g : Store) (v : Datum) → HasAt code at (on line (Check (stands e top)) ∷ (operand_code ks line i (top + 1) ++ on line (Item to (stands e top) (ks.field x) x (stands i (top + 1))) ∷ [])) → kind_of ks i ≡ as_long → Keeps (ks.field x) (pointed line v k >>= λ r k. eval c (pl line ls) i k >>= λ v k. indexed line (items_in (slot_of (acc.heap s0.world) r x)) v k >>= λ item k. gives item.value k) → read_as as_pointer (g (s0.base + stands e top)) ≡ v → ((j : ℕ) → j < top → g (s0.base + j) ≡ f (s0.base + j)) → stands e top < top + 1 → Holds ks.locals g s0.base ls → ((at : ℕ) → HasAt code at (operand_code ks line i (top + 1)) → Holds ks.locals g s0.base ls → Gets acc code alt (st at k g) (length (operand_code ks line i (top + 1))) (Stood s0.base g (stands i (top + 1)) (top + 1) (kind_of ks i)) (eval c (pl line ls) i k)) → Gets acc code alt (st at k g) (length (on line (Check (stands e top)) ∷ (operand_code ks line i (top + 1) ++ on line (Item to (stands e top) (ks.field x) x (stands i (top + 1))) ∷ []))) (Valued s0.base f to top (ks.field x)) (pointed line v k >>= λ r k. eval c (pl line ls) i k >>= λ v k. indexed line (items_in (slot_of (acc.heap s0.world) r x)) v k >>= λ item k. gives item.value k)
      checked e x i line to top ls at k f g v h fits has is same within holds rec = by v has is
        where
          ci : List Placed
          ci = operand_code ks line i (top + 1)

          last : Placed
          last = on line (Item to (stands e top) (ks.field x) x (stands i (top + 1)))

          check : Placed
          check = on line (Check (stands e top))

          does : (v : Datum) → read_as as_pointer (g (s0.base + stands e top)) ≡ v → (next : Next S) → act acc code line (Some check.instruction) next (st at k g) ≡ after (pointed line v k) s0.world (λ r j. next (st (at + 1) j g))
          does v is next = ap (λ y. after (pointed line y k) s0.world (λ r j. next (st (at + 1) j g))) is

          by : (v : Datum) → Keeps (ks.field x) (pointed line v k >>= λ r k. eval c (pl line ls) i k >>= λ v k. indexed line (items_in (slot_of (acc.heap s0.world) r x)) v k >>= λ item k. gives item.value k) → read_as as_pointer (g (s0.base + stands e top)) ≡ v → Gets acc code alt (st at k g) (length (check ∷ (ci ++ last ∷ []))) (Valued s0.base f to top (ks.field x)) (pointed line v k >>= λ r k. eval c (pl line ls) i k >>= λ v k. indexed line (items_in (slot_of (acc.heap s0.world) r x)) v k >>= λ item k. gives item.value k)
          by (Ref r) has is =
              step_gets acc code alt (st at k g) k g check (ci ++ last ∷ []) (Valued s0.base f to top (ks.field x)) h (does (Ref r) is) (λ j lt. refl) (omega arith) (eval c (pl line ls) i k >>= λ v k. indexed line (items_in (slot_of (acc.heap s0.world) r x)) v k >>= λ item k. gives item.value k)
              (λ h. then_gets acc code alt (st (at + 1) k g) ci (last ∷ []) (Stood s0.base g (stands i (top + 1)) (top + 1) (kind_of ks i)) (Valued s0.base f to top (ks.field x)) (λ v k. indexed line (items_in (slot_of (acc.heap s0.world) r x)) v k >>= λ item k. gives item.value k) h (eval c (pl line ls) i k) (λ h. rec (at + 1) h holds)
              (λ w j g2 z h q below le.
              let is_there : read_as as_pointer (g2 (s0.base + stands e top)) ≡ Ref r = ap (read_as as_pointer) (q.1 (stands e top) within) ∙ is in
              let is_index : read_as as_long (g2 (s0.base + stands i (top + 1))) ≡ w = ap (λ y. read_as y (g2 (s0.base + stands i (top + 1)))) (sym fits) ∙ q.0 in
              gives_to (ks.field x) (at + 1 + length ci) j g2 f to top last (indexed line (items_in (slot_of (acc.heap s0.world) r x)) w j >>= λ item k. gives item.value k) h.0
              (λ next. ap (λ y. giving (ks.field x) (st (at + 1 + length ci) j g2) next to (pointed line y j >>= λ r k. indexed line (items_in (slot_of (acc.heap s0.world) r x)) (read_as as_long (g2 (s0.base + stands i (top + 1)))) k >>= λ item k. gives item.value k)) is_there ∙ ap (λ y. giving (ks.field x) (st (at + 1 + length ci) j g2) next to (indexed line (items_in (slot_of (acc.heap s0.world) r x)) y j >>= λ item k. gives item.value k)) is_index)
              (keeps_behind (ks.field x) (eval c (pl line ls) i k) (λ v k. indexed line (items_in (slot_of (acc.heap s0.world) r x)) v k >>= λ item k. gives item.value k) w j z has) (within_item line (items_in (slot_of (acc.heap s0.world) r x)) w j) (λ j lt ne. q.1 j (omega (arith, lt)) ∙ same j lt)))
          by (Long y) has is = inr (steps_end acc code (st at k g) (Trapped (trap_at line NullPointer) s0.world) check h.0 (does (Long y) is))
          by (Truth y) has is = inr (steps_end acc code (st at k g) (Trapped (trap_at line NullPointer) s0.world) check h.0 (does (Truth y) is))
          by Null has is = inr (steps_end acc code (st at k g) (Trapped (trap_at line NullPointer) s0.world) check h.0 (does Null is))

      -- the right side of an operator, unless the left side decides
      right_side : (op : BinaryOp) (a b : Expression) (line to top : ℕ) (ls : List Datum) (at k : ℕ) (f g : Store) (v : Datum) → (is_lazy op ≡ true → kind_of ks a ≡ as_truth) → Keeps (binary_kind op) (unless_decided (decided op v) k (eval c (pl line ls) b k >>= λ w k. answer line (operated op v w) k)) → HasAt code at (if_lazy (is_lazy op) (on line (Decide to op (stands a top) (length (operand_code ks line b (top + 1) ++ on line (Binary to op (kind_of ks a) (kind_of ks b) (stands a top) (stands b (top + 1))) ∷ [])))) (operand_code ks line b (top + 1) ++ on line (Binary to op (kind_of ks a) (kind_of ks b) (stands a top) (stands b (top + 1))) ∷ [])) → read_as (kind_of ks a) (g (s0.base + stands a top)) ≡ v → ((j : ℕ) → j < top → g (s0.base + j) ≡ f (s0.base + j)) → stands a top < top + 1 → ((at : ℕ) → HasAt code at (operand_code ks line b (top + 1)) → Gets acc code alt (st at k g) (length (operand_code ks line b (top + 1))) (Stood s0.base g (stands b (top + 1)) (top + 1) (kind_of ks b)) (eval c (pl line ls) b k)) → Gets acc code alt (st at k g) (length (if_lazy (is_lazy op) (on line (Decide to op (stands a top) (length (operand_code ks line b (top + 1) ++ on line (Binary to op (kind_of ks a) (kind_of ks b) (stands a top) (stands b (top + 1))) ∷ [])))) (operand_code ks line b (top + 1) ++ on line (Binary to op (kind_of ks a) (kind_of ks b) (stands a top) (stands b (top + 1))) ∷ []))) (Valued s0.base f to top (binary_kind op)) (unless_decided (decided op v) k (eval c (pl line ls) b k >>= λ w k. answer line (operated op v w) k))
      right_side op a b line to top ls at k f g v lazy_truth has h is same within rec = by (is_lazy op) refl h
        where
          κ : Kind
          κ = binary_kind op

          cb : List Placed
          cb = operand_code ks line b (top + 1)

          last : Placed
          last = on line (Binary to op (kind_of ks a) (kind_of ks b) (stands a top) (stands b (top + 1)))

          decide : Placed
          decide = on line (Decide to op (stands a top) (length (cb ++ last ∷ [])))

          rest : Out Datum
          rest = eval c (pl line ls) b k >>= λ w k. answer line (operated op v w) k

          tail : (at : ℕ) → Keeps κ rest → HasAt code at (cb ++ last ∷ []) → Gets acc code alt (st at k g) (length (cb ++ last ∷ [])) (Valued s0.base f to top κ) rest
          tail at has h =
              then_gets acc code alt (st at k g) cb (last ∷ []) (Stood s0.base g (stands b (top + 1)) (top + 1) (kind_of ks b)) (Valued s0.base f to top κ) (λ w k. answer line (operated op v w) k) h (eval c (pl line ls) b k) (λ h. rec at h)
              (λ w j g2 z h q below le.
              gives_to κ (at + length cb) j g2 f to top last (answer line (operated op v w) j) h.0
              (λ next. ap (λ y. giving κ (st (at + length cb) j g2) next to (answer line (operated op y (read_as (kind_of ks b) (g2 (s0.base + stands b (top + 1))))) j)) (ap (read_as (kind_of ks a)) (q.1 (stands a top) within) ∙ is) ∙ ap (λ y. giving κ (st (at + length cb) j g2) next to (answer line (operated op v y) j)) q.0)
              (keeps_behind κ (eval c (pl line ls) b k) (λ w k. answer line (operated op v w) k) w j z has) (within_answer line (operated op v w) j) (λ j lt ne. q.1 j (omega (arith, lt)) ∙ same j lt))

          by_side : kind_of ks a ≡ as_truth → κ ≡ as_truth → (d : Option Datum) → decided op v ≡ d → Keeps κ (unless_decided d k rest) → HasAt code at (decide ∷ (cb ++ last ∷ [])) → Gets acc code alt (st at k g) (length (decide ∷ (cb ++ last ∷ []))) (Valued s0.base f to top κ) (unless_decided d k rest)
          by_side fits gives_truth (Some w) e has h =
              let as_read : read_as as_truth (g (s0.base + stands a top)) ≡ v = ap (λ κ. read_as κ (g (s0.base + stands a top))) (sym fits) ∙ is in
              let m = length (cb ++ last ∷ []) in
              let does : (next : Next S) → act acc code line (Some decide.instruction) next (st at k g) ≡ put_as κ (st at k g) next to m w k = λ next. ap (λ y. deciding (st at k g) next to m (decided op y)) as_read ∙ ap (λ y. deciding (st at k g) next to m y) e ∙ ap (λ y. put_as y (st at k g) next to m w k) (sym gives_truth) in
              let z : 1 + m ≡ length (decide ∷ (cb ++ last ∷ [])) = omega arith in
              subst (λ l. Gets acc code alt (st at k g) l (Valued s0.base f to top κ) (gives w k)) z (puts_value κ at k k m g f to top decide w h.0 does has (omega arith) (λ j lt ne. same j lt))
          by_side fits gives_truth None e has h =
              let as_read : read_as as_truth (g (s0.base + stands a top)) ≡ v = ap (λ κ. read_as κ (g (s0.base + stands a top))) (sym fits) ∙ is in
              step_gets acc code alt (st at k g) k g decide (cb ++ last ∷ []) (Valued s0.base f to top κ) h (λ next. ap (λ y. deciding (st at k g) next to (length (cb ++ last ∷ [])) (decided op y)) as_read ∙ ap (λ y. deciding (st at k g) next to (length (cb ++ last ∷ [])) y) e) (λ j lt. refl) (omega arith) rest (λ h. tail (at + 1) has h)

          by : (z : Bool) → is_lazy op ≡ z → HasAt code at (if_lazy z decide (cb ++ last ∷ [])) → Gets acc code alt (st at k g) (length (if_lazy z decide (cb ++ last ∷ []))) (Valued s0.base f to top κ) (unless_decided (decided op v) k rest)
          by true e h = by_side (lazy_truth e) (lazy_gives op e) (decided op v) refl has h
          by false e h = subst (λ d. Gets acc code alt (st at k g) (length (cb ++ last ∷ [])) (Valued s0.base f to top κ) (unless_decided d k rest)) (sym (eager op v e)) (tail at (subst (λ d. Keeps κ (unless_decided d k rest)) (eager op v e) has) h)

      mutual
        pub expression_does : (e : Expression) → E e → (line to top : ℕ) (ls : List Datum) → IsPlace line ls → (at k : ℕ) (f : Store) → HasAt code at (expression_code ks line e to top) → length tys ≤ top → to ≤ top → k ≤ n → Holds ks.locals f s0.base ls → Gets acc code alt (st at k f) (length (expression_code ks line e to top)) (Valued s0.base f to top (kind_of ks e)) (eval c (pl line ls) e k)
        expression_does (number v) t line to top ls place at k f h len le left holds = moves_to as_long at k f to top (on line (Constant to v)) v (Long v) h.0 (λ next. refl) refl
        expression_does (truth v) t line to top ls place at k f h len le left holds = moves_to as_truth at k f to top (on line (Constant to (truth_number v))) (truth_number v) (Truth v) h.0 (λ next. refl) (truth_read v)
        expression_does null t line to top ls place at k f h len le left holds = moves_to as_pointer at k f to top (on line (Constant to (pos 0))) (pos 0) Null h.0 (λ next. refl) refl
        expression_does this t line to top ls place at k f h len le left holds = gives_to as_pointer at k f f to top (on line (Receiver to)) (gives s0.this k) h.0 (λ next. refl) (know.keeps this t line ls place k) (omega arith) (λ j lt ne. refl)
        expression_does (local l) t line to top ls place at k f h len le left holds = moves_to (ks.locals l.0) at k f to top (on line (Move to l.0)) (f (s0.base + l.0)) (value_at ls l.0) h.0 (λ next. refl) (holds l.0 (local_within l.0 line ls (know.parts (local l) t) place))
        expression_does (own x) t line to top ls place at k f h len le left holds = gives_to (ks.field x) at k f f to top (on line (Own to (ks.field x) x)) (gives (one_in (slice_get (acc.own s0.below s0.world s0.this) x.field)) k) h.0 (λ next. refl) (know.keeps (own x) t line ls place k) (omega arith) (λ j lt ne. refl)
        expression_does (own_item x i) t0 line to top ls place at k f h len le left holds =
            let t = know.parts (own_item x i) t0 in
            over_one (ks.field x) as_long i line to top ls at k f (on line (OwnItem to (ks.field x) x (stands i top))) (λ v k. indexed line (items_in (slice_get (acc.own s0.below s0.world s0.this) x.field)) v k >>= λ item k. gives item.value k) t.0 (know.keeps (own_item x i) t0 line ls place k) h
            (operand i t.1 line top ls place at k f (has_front code at (operand_code ks line i top) (on line (OwnItem to (ks.field x) x (stands i top)) ∷ []) h) holds (λ h. expression_does i t.1 line top top ls place at k f h len (omega arith) left holds)) (λ at j g next. refl) (λ v j. within_item line (items_in (slice_get (acc.own s0.below s0.world s0.this) x.field)) v j)
        expression_does (read e x) t0 line to top ls place at k f h len le left holds =
            let t = know.parts (read e x) t0 in
            over_one (ks.field x) as_pointer e line to top ls at k f (on line (Field to (stands e top) (ks.field x) x)) (λ v k. pointed line v k >>= λ r k. gives (one_in (slot_of (acc.heap s0.world) r x)) k) t.0 (know.keeps (read e x) t0 line ls place k) h
            (operand e t.1 line top ls place at k f (has_front code at (operand_code ks line e top) (on line (Field to (stands e top) (ks.field x) x) ∷ []) h) holds (λ h. expression_does e t.1 line top top ls place at k f h len (omega arith) left holds)) (λ at j g next. refl) (λ v j. within_then (pointed line v j) j (λ r k. gives (one_in (slot_of (acc.heap s0.world) r x)) k) (within_pointed line v j) (λ r i. omega arith))
        expression_does (unary op e) t0 line to top ls place at k f h len le left holds =
            let t = know.parts (unary op e) t0 in
            over_one (unary_kind op) (unary_kind op) e line to top ls at k f (on line (Unary to op (stands e top))) (λ v k. gives (signed op v) k) t.0 (know.keeps (unary op e) t0 line ls place k) h
            (operand e t.1 line top ls place at k f (has_front code at (operand_code ks line e top) (on line (Unary to op (stands e top)) ∷ []) h) holds (λ h. expression_does e t.1 line top top ls place at k f h len (omega arith) left holds)) (λ at j g next. refl) (λ v j. omega arith)
        expression_does (read_item e x i) t0 line to top ls place at k f h len le left holds =
            let many : length ls ≡ length tys = know.counted line ls place in
            let t = know.parts (read_item e x i) t0 in
            let ce = operand_code ks line e top in
            let last = on line (Item to (stands e top) (ks.field x) x (stands i (top + 1))) in
            let check = on line (Check (stands e top)) in
            let rest : Datum → ℕ → Out Datum = λ v k. pointed line v k >>= λ r k. eval c (pl line ls) i k >>= λ v k. indexed line (items_in (slot_of (acc.heap s0.world) r x)) v k >>= λ item k. gives item.value k in
            then_gets acc code alt (st at k f) ce (check ∷ (operand_code ks line i (top + 1) ++ last ∷ [])) (Stood s0.base f (stands e top) top (kind_of ks e)) (Valued s0.base f to top (ks.field x)) rest h (eval c (pl line ls) e k)
            (λ h. operand e t.2 line top ls place at k f h holds (λ h. expression_does e t.2 line top top ls place at k f h len (omega arith) left holds))
            (λ v j g z h q below le2. checked e x i line to top ls (at + length ce) j f g v h t.1 (keeps_behind (ks.field x) (eval c (pl line ls) e k) rest v j z (know.keeps (read_item e x i) t0 line ls place k)) (ap (λ κ. read_as κ (g (s0.base + stands e top))) (sym t.0) ∙ q.0) q.1 (slot_within e t.2 top len) (λ i lt. ap (read_as (ks.locals i)) (q.1 i (omega (arith, lt, len, many))) ∙ holds i lt)
            (λ at h holds. operand i t.3 line (top + 1) ls place at j g h holds (λ h. expression_does i t.3 line (top + 1) (top + 1) ls place at j g h (omega (arith, len)) (omega arith) (omega (arith, le2, left)) holds)))
        expression_does (value_call e m es) t0 line to top ls place at k f h len le left holds =
            let many : length ls ≡ length tys = know.counted line ls place in
            let t = know.parts (value_call e m es) t0 in
            let ce = expression_code ks line e top top in
            let ces = expressions_code ks line es (top + 1) in
            let last = on line (Call m top to) in
            then_gets acc code alt (st at k f) ce (ces ++ last ∷ []) (Valued s0.base f top top (kind_of ks e)) (Valued s0.base f to top (ks.result m)) (λ v k. eval_all c (pl line ls) es k >>= λ vs k. pointed line v k >>= λ r k. take_step k >>= λ _ k. c m r vs k) h (eval c (pl line ls) e k)
            (λ h. expression_does e t.2 line top top ls place at k f h len (omega arith) left holds)
            (λ v j g y h q below le2.
            then_gets acc code alt (st (at + length ce) j g) ces (last ∷ []) (AllStood s0.base g (top + 1) (how_many es) (ks.params m)) (Valued s0.base f to top (ks.result m)) (λ vs k. pointed line v k >>= λ r k. take_step k >>= λ _ k. c m r vs k) h (eval_all c (pl line ls) es j)
            (λ h. expressions_do es t.3 (ks.params m) line (top + 1) ls place (at + length ce) j g h t.1 (omega (arith, len)) (omega (arith, le2, left)) (λ i lt. ap (read_as (ks.locals i)) (q.1 i (omega (arith, lt, len, many)) (λ e. absurd (omega (arith, lt, len, many, e)))) ∙ holds i lt))
            (λ vs i g2 z h q2 below2 le3.
            kept (ks.result m) (at + length ce + length ces) i 1 g2 f to top (pointed line v i >>= λ r k. take_step k >>= λ _ k. c m r vs k) (λ j lt. q2.2 j (omega (arith, lt)) ∙ q.1 j lt (λ e. absurd (omega (arith, lt, e))))
            (called m line to top v vs (at + length ce + length ces) i g2 le (omega (arith, le3, le2, left)) h (λ r w. know.callable e m es t0 line ls place k j i r vs (y ∙ ap (λ v. gives v j) w) z q2.0) (ap (read_as as_pointer) (q2.2 top (omega arith)) ∙ ap (λ κ. read_as κ (g (s0.base + top))) (sym t.0) ∙ q.0) q2.1)))
        expression_does (binary op a b) t0 line to top ls place at k f h len le left holds =
            let many : length ls ≡ length tys = know.counted line ls place in
            let t = know.parts (binary op a b) t0 in
            let ca = operand_code ks line a top in
            let cb = operand_code ks line b (top + 1) in
            let last = on line (Binary to op (kind_of ks a) (kind_of ks b) (stands a top) (stands b (top + 1))) in
            let decide = on line (Decide to op (stands a top) (length (cb ++ last ∷ []))) in
            let rest : Datum → ℕ → Out Datum = λ v k. unless_decided (decided op v) k (eval c (pl line ls) b k >>= λ w k. answer line (operated op v w) k) in
            then_gets acc code alt (st at k f) ca (if_lazy (is_lazy op) decide (cb ++ last ∷ [])) (Stood s0.base f (stands a top) top (kind_of ks a)) (Valued s0.base f to top (binary_kind op)) rest h (eval c (pl line ls) a k)
            (λ h. operand a t.1 line top ls place at k f h holds (λ h. expression_does a t.1 line top top ls place at k f h len (omega arith) left holds))
            (λ v j g z h q below le2. right_side op a b line to top ls (at + length ca) j f g v t.0 (keeps_behind (binary_kind op) (eval c (pl line ls) a k) rest v j z (know.keeps (binary op a b) t0 line ls place k)) h q.0 q.1 (slot_within a t.1 top len)
            (λ at h. operand b t.2 line (top + 1) ls place at j g h (λ i lt. ap (read_as (ks.locals i)) (q.1 i (omega (arith, lt, len, many))) ∙ holds i lt) (λ h. expression_does b t.2 line (top + 1) (top + 1) ls place at j g h (omega (arith, len)) (omega arith) (omega (arith, le2, left)) (λ i lt. ap (read_as (ks.locals i)) (q.1 i (omega (arith, lt, len, many))) ∙ holds i lt))))

        pub expressions_do : (es : Expressions) → Es es → (κs : ℕ → Kind) (line top : ℕ) (ls : List Datum) → IsPlace line ls → (at k : ℕ) (f : Store) → HasAt code at (expressions_code ks line es top) → AreOf ks κs es → length tys ≤ top → k ≤ n → Holds ks.locals f s0.base ls → Gets acc code alt (st at k f) (length (expressions_code ks line es top)) (AllStood s0.base f top (how_many es) κs) (eval_all c (pl line ls) es k)
        expressions_do no_expressions t κs line top ls place at k f h fits len left holds = inr (f, rests acc code (st at k f), (refl, (λ i lt. absurd (omega (arith, lt))), λ j lt. refl), (λ j lt. refl), omega arith)
        expressions_do (expression_and e es) t κs line top ls place at k f h fits len left holds =
            let many : length ls ≡ length tys = know.counted line ls place in
            let both = know.more e es t in
            let ce = expression_code ks line e top top in
            let ces = expressions_code ks line es (top + 1) in
            then_gets acc code alt (st at k f) ce ces (Valued s0.base f top top (kind_of ks e)) (AllStood s0.base f top (suc (how_many es)) κs) (λ v k. eval_all c (pl line ls) es k >>= λ vs k. gives (v ∷ vs) k) h (eval c (pl line ls) e k)
            (λ h. expression_does e both.0 line top top ls place at k f h len (omega arith) left holds)
            (λ v j g z h q below le2. one_more κs (kind_of ks e) (at + length ce) j (length ces) f g top (how_many es) v (eval_all c (pl line ls) es j) fits.0 q
            (expressions_do es both.1 (λ i. κs (suc i)) line (top + 1) ls place (at + length ce) j g h fits.1 (omega (arith, len)) (omega (arith, le2, left)) (λ i lt. ap (read_as (ks.locals i)) (q.1 i (omega (arith, lt, len, many)) (λ e. absurd (omega (arith, lt, len, many, e)))) ∙ holds i lt)))

      pub operand_does : (e : Expression) → E e → (line top : ℕ) (ls : List Datum) → IsPlace line ls → (at k : ℕ) (f : Store) → HasAt code at (operand_code ks line e top) → length tys ≤ top → k ≤ n → Holds ks.locals f s0.base ls → Gets acc code alt (st at k f) (length (operand_code ks line e top)) (Stood s0.base f (stands e top) top (kind_of ks e)) (eval c (pl line ls) e k)
      operand_does e t line top ls place at k f h len left holds = operand e t line top ls place at k f h holds (λ h. expression_does e t line top top ls place at k f h len (omega arith) left holds)
