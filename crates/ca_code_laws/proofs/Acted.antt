-- Puts, creations, prints and calls of operations: their instructions do what they mean, however a world is accessed, or something
-- else holds.
use Rattle.std.proofs.Common.{◌≡◌, ℕ, ◌+◌, ◌<◌, ◌≤◌, List, [], ◌∷◌, ◌++◌, length, Option, Some, None, refl, sym, ap, ◌∙◌, subst, arith, length-set, inr}
use Rattle.std.specs.Prelude.{pos, negsuc, slice_get, slice_set}
use Rattle.ca_tree.specs.declared.tree.AssignOp.{AssignOp}
use Rattle.ca_program.specs.declared.program.ClassId.{ClassId}
use Rattle.ca_program.specs.declared.program.FieldId.{FieldId}
use Rattle.ca_program.specs.declared.program.OpId.{OpId}
use Rattle.ca_program.specs.Plain.{Expression, Expressions, Statement, put_field, put_item, new_local, new_field, new_item, print_value}
use Rattle.ca_model.specs.declared.value.Value.{Value as Datum}
use Rattle.ca_model.specs.declared.value.Value.TheVariants.{Long, Bool as Truth, Null, Ref}
use Rattle.ca_meaning.specs.Operators.{assigned}
use Rattle.ca_meaning.specs.Expressions.{Out, gives, traps, over, ◌>>=◌, one_in, items_in, pointed, Item as Found, found, indexed, Place, Calls, eval, eval_all, Invocation, invocation, due}
use Rattle.ca_meaning.specs.Flows.{Flow, goes_on, with}
use Rattle.ca_code_laws.specs.Words.{word, read_as}
use Rattle.ca_program.specs.Kinds.{Kind, as_long, as_pointer, Kinds, kind_of}
use Rattle.ca_program.specs.Instructions.{Instruction, CheckItem, PutField, PutItem, NewLocal, NewField, NewItem, Print, Code, Placed, on, IsAt, HasAt}
use Rattle.ca_program.specs.Layout.{stands, expression_code, expressions_code, operand_code, how_many, all_acts}
use Rattle.ca_code_laws.specs.Machine.{Store, store, Back, Accesses, State, Outcome, Trapped, Spent, Next, after, act}
use Rattle.ca_code_laws.specs.Told.{Below, Holds}
use Rattle.ca_code_laws.specs.Fitting.{AreOf}
use Rattle.ca_code_laws.proofs.Steps.{stored_here, stored_there, Within, steps, steps_end}
use Rattle.ca_code_laws.proofs.Instead.{Otherwise, Gets, Does, with_does, step_does}
use Rattle.ca_code_laws.proofs.Evaluated.{Valued, Stood, AllStood, apart, within_less, within_indexed}
use Rattle.ca_code_laws.proofs.Executed.{LocalsAt, local_put}

-- an index that is found is found with any steps
pub indexed_again : (line : ℕ) (items : List Datum) (v : Datum) (k i j : ℕ) (x : Found) → indexed line items v k ≡ gives x j → indexed line items v i ≡ gives x i
indexed_again line items (Long (pos a)) k i j x e = by (slice_get items a) e
  where
    by : (o : Option Datum) → found line a o k ≡ gives x j → found line a o i ≡ gives x i
    by (Some v) e = let same : record { place = a; value = v } ≡ x = cc in ap (λ y. gives y i) same
    by None e = cc
indexed_again line items (Long (negsuc a)) k i j x e = cc
indexed_again line items (Ref a) k i j x e = cc
indexed_again line items (Truth a) k i j x e = cc
indexed_again line items Null k i j x e = cc

pub with_then : {A B S : Type 0} (o : Out A) (f : A → ℕ → Out B) (s : S) (g : B → ℕ → Flow S) → with (o >>= f) s g ≡ with o s (λ v k. with (f v k) s g)
with_then (gives v k) f s g = refl
with_then (traps t) f s g = refl
with_then over f s g = refl

-- what is asked of a statement that acts: its operands are known, and read as what they are
abbrev pub ActParts : (ks : Kinds) (top : ℕ) (E : Expression → Type 0) → Statement → Type 0
ActParts ks top E (put_field l f op e) = E e
ActParts ks top E (put_item l f i op e) = (kind_of ks i ≡ as_long) × E i × E e
ActParts ks top E (new_local l x c) = (x.0 < top) × (ks.locals x.0 ≡ as_pointer)
ActParts ks top E (new_field l f c) = Unit {0}
ActParts ks top E (new_item l f i c) = (kind_of ks i ≡ as_long) × E i
ActParts ks top E (print_value l e) = E e
ActParts ks top E other = ⊥

module _ {S : Type 0} (acc : Accesses S) (calls : S → Calls) (me : Datum) (below : List Back) where
  abbrev pub seen : ℕ → List Datum → S → Place
  seen line ls x = record { heap = acc.heap x; this = me; own = acc.own below x me; locals = ls; line = line }

  abbrev pub value : ℕ → List Datum → S → Expression → ℕ → Out Datum
  value line ls x e k = eval (calls x) (seen line ls x) e k

  abbrev pub item_at : ℕ → S → FieldId → Datum → ℕ → Out Found
  item_at line x f v k = indexed line (items_in (slice_get (acc.own below x me) f.field)) v k

  -- what a statement means that acts on a world that is accessed so
  abbrev pub act_by : ℕ → List Datum → S → Statement → ℕ → Flow S
  act_by line ls x (put_field _ f op e) k =
      with (value line ls x e k) x (λ v k. goes_on ls (acc.put x me f 0 (assigned op (one_in (slice_get (acc.own below x me) f.field)) v)) k)
  act_by line ls x (put_item _ f i op e) k =
      with (value line ls x i k) x (λ v k. with (item_at line x f v k) x (λ item k.
      with (value line ls x e k) x (λ v k. goes_on ls (acc.put x me f item.place (assigned op item.value v)) k)))
  act_by line ls x (new_local _ l c) k =
      with (acc.room line x c k) x (λ r k. goes_on (slice_set ls l.0 (Ref r)) (acc.with_new x c) k)
  act_by line ls x (new_field _ f c) k =
      with (acc.room line x c k) x (λ r k. goes_on ls (acc.put (acc.with_new x c) me f 0 (Ref r)) k)
  act_by line ls x (new_item _ f i c) k =
      with (value line ls x i k) x (λ v k. with (item_at line x f v k) x (λ item k.
      with (acc.room line x c k) x (λ r k. goes_on ls (acc.put (acc.with_new x c) me f item.place (Ref r)) k)))
  act_by line ls x (print_value _ e) k = with (value line ls x e k) x (λ v k. goes_on ls (acc.print x v) k)
  act_by line ls x other k = goes_on ls x k

  module _ (code : Code) (alt : Otherwise acc code) (ks : Kinds) (ret : Kind) (base n top : ℕ) where
    abbrev pub there : ℕ → ℕ → Store → S → State S
    there at k f x = record { at = at; base = base; left = k; this = me; below = below; slots = f; world = x }

    abbrev pub Acts : ℕ → ℕ → Store → S → ℕ → Flow S → Type 0
    Acts at k f x m o = Does acc code alt (λ (x : S). x) ret (there at k f x) m (LocalsAt ks base top) o

    -- what is known of the expressions of such statements, where locals and world are `Here`
    pub record Operands (E : Expression → Type 0) (Es : Expressions → Type 0) (Here : List Datum → S → Type 0) : Type 0 where
      pub within : (e : Expression) → E e → stands e top < top + 1
      pub room : (line : ℕ) (x : S) (c : ClassId) (k : ℕ) → Within k (acc.room line x c k)
      pub operand : (e : Expression) → E e → (line free : ℕ) (ls : List Datum) (x : S) (at k : ℕ) (f : Store) → HasAt code at (operand_code ks line e free) → length ls ≡ top → Here ls x → top ≤ free → k ≤ n → Holds ks.locals f base ls → Gets acc code alt (there at k f x) (length (operand_code ks line e free)) (Stood base f (stands e free) free (kind_of ks e)) (value line ls x e k)
      pub expression : (e : Expression) → E e → (line : ℕ) (ls : List Datum) (x : S) (at k : ℕ) (f : Store) → HasAt code at (expression_code ks line e top top) → length ls ≡ top → Here ls x → k ≤ n → Holds ks.locals f base ls → Gets acc code alt (there at k f x) (length (expression_code ks line e top top)) (Valued base f top top (kind_of ks e)) (value line ls x e k)
      pub expressions : (es : Expressions) → Es es → (κs : ℕ → Kind) (line : ℕ) (ls : List Datum) (x : S) (at k : ℕ) (f : Store) → HasAt code at (expressions_code ks line es (top + 1)) → AreOf ks κs es → length ls ≡ top → Here ls x → k ≤ n → Holds ks.locals f base ls → Gets acc code alt (there at k f x) (length (expressions_code ks line es (top + 1))) (AllStood base f (top + 1) (how_many es) κs) (eval_all (calls x) (seen line ls x) es k)

    held : (ls : List Datum) (f g : Store) (free : ℕ) → length ls ≡ top → top ≤ free → ((j : ℕ) → j < free → g (base + j) ≡ f (base + j)) → Holds ks.locals f base ls → Holds ks.locals g base ls
    held ls f g free len le q holds i lt = ap (read_as (ks.locals i)) (q i (omega (arith, lt, len, le))) ∙ holds i lt

    -- one instruction that does what is left of a statement
    does_once : {A : Type 0} (at k : ℕ) (f : Store) (x : S) (i : Placed) (o : Out A) (put : A → Store) (world : A → S) (ls : A → List Datum) → IsAt code at i → ((next : Next S) → act acc code i.line (Some i.instruction) next (there at k f x) ≡ after o x (λ v j. next (there (at + 1) j (put v) (world v)))) → Within k o → ((v : A) → LocalsAt ks base top (ls v) (put v)) → ((v : A) → Below base f (put v)) → Acts at k f x 1 (with o x (λ v j. goes_on (ls v) (world v) j))
    does_once at k f x i (gives v j) put world ls h a le locals bel = inr (put v, steps acc code (there at k f x) (there (at + 1) j (put v) (world v)) i h a, locals v, bel v, le)
    does_once at k f x i (traps t) put world ls h a le locals bel = inr (steps_end acc code (there at k f x) (Trapped t x) i h a)
    does_once at k f x i over put world ls h a le locals bel = inr (steps_end acc code (there at k f x) (Spent x) i h a)

    module _ (E : Expression → Type 0) (Es : Expressions → Type 0) (Here : List Datum → S → Type 0) (ops : Operands E Es Here) where
      -- a put to an item, behind its index
      item_put : (line : ℕ) (f : FieldId) (i : Expression) (op : AssignOp) (e : Expression) → E e → (ls : List Datum) (x : S) (at k : ℕ) (g : Store) (v : Datum) → HasAt code at (on line (CheckItem f (stands i top)) ∷ (operand_code ks line e (top + 1) ++ on line (PutItem f (stands i top) op (kind_of ks e) (stands e (top + 1))) ∷ [])) → read_as as_long (g (base + stands i top)) ≡ v → stands i top < top + 1 → length ls ≡ top → Here ls x → k ≤ n → Holds ks.locals g base ls → Acts at k g x (length (on line (CheckItem f (stands i top)) ∷ (operand_code ks line e (top + 1) ++ on line (PutItem f (stands i top) op (kind_of ks e) (stands e (top + 1))) ∷ []))) (with (item_at line x f v k) x (λ item k. with (value line ls x e k) x (λ v k. goes_on ls (acc.put x me f item.place (assigned op item.value v)) k)))
      item_put line f i op e t ls x at k g v h is in_frame len good left holds = by (item_at line x f v k) refl (within_indexed line (items_in (slice_get (acc.own below x me) f.field)) v k)
        where
          check : Placed
          check = on line (CheckItem f (stands i top))

          ce : List Placed
          ce = operand_code ks line e (top + 1)

          last : Placed
          last = on line (PutItem f (stands i top) op (kind_of ks e) (stands e (top + 1)))

          does : (o : Out Found) → item_at line x f v k ≡ o → (next : Next S) → act acc code line (Some check.instruction) next (there at k g x) ≡ after o x (λ item j. next (there (at + 1) j g x))
          does o e next = ap (λ y. after (item_at line x f y k) x (λ item j. next (there (at + 1) j g x))) is ∙ ap (λ y. after y x (λ item j. next (there (at + 1) j g x))) e

          by : (o : Out Found) → item_at line x f v k ≡ o → Within k o → Acts at k g x (length (check ∷ (ce ++ last ∷ []))) (with o x (λ item k. with (value line ls x e k) x (λ v k. goes_on ls (acc.put x me f item.place (assigned op item.value v)) k)))
          by (gives item j) z le =
              step_does acc code alt (λ (x : S). x) ret (there at k g x) j g x check (ce ++ last ∷ []) (LocalsAt ks base top) h (does (gives item j) z) (λ j lt. refl) le (with (value line ls x e j) x (λ v k. goes_on ls (acc.put x me f item.place (assigned op item.value v)) k))
              (λ h. with_does acc code alt (λ (x : S). x) ret (there (at + 1) j g x) x ce (last ∷ []) (Stood base g (stands e (top + 1)) (top + 1) (kind_of ks e)) (LocalsAt ks base top) (λ v k. goes_on ls (acc.put x me f item.place (assigned op item.value v)) k) refl h (value line ls x e j)
              (λ h. ops.operand e t line (top + 1) ls x (at + 1) j g h len good (omega arith) (omega (arith, le, left)) holds)
              (λ u j2 g2 y h q bel le2.
              does_once (at + 1 + length ce) j2 g2 x last (gives u j2) (λ u. g2) (λ u. acc.put x me f item.place (assigned op item.value u)) (λ u. ls) h.0
              (λ next. ap (λ y. after (item_at line x f y j2) x (λ item k. next (there (at + 1 + length ce + 1) k g2 (acc.put x me f item.place (assigned op item.value (read_as (kind_of ks e) (g2 (base + stands e (top + 1))))))))) (ap (read_as as_long) (q.1 (stands i top) in_frame) ∙ is) ∙ ap (λ y. after y x (λ item k. next (there (at + 1 + length ce + 1) k g2 (acc.put x me f item.place (assigned op item.value (read_as (kind_of ks e) (g2 (base + stands e (top + 1))))))))) (indexed_again line (items_in (slice_get (acc.own below x me) f.field)) v k j2 j item z) ∙ ap (λ y. next (there (at + 1 + length ce + 1) j2 g2 (acc.put x me f item.place (assigned op item.value y)))) q.0)
              (omega arith) (λ u. (held ls g g2 (top + 1) len (omega arith) q.1 holds, len)) (λ u j lt. refl)))
          by (traps t) z le = inr (steps_end acc code (there at k g x) (Trapped t x) check h.0 (does (traps t) z))
          by over z le = inr (steps_end acc code (there at k g x) (Spent x) check h.0 (does over z))

      -- a new object in an item
      item_made : (line : ℕ) (f : FieldId) (i : Expression) (c : ClassId) (ls : List Datum) (x : S) (at k : ℕ) (g : Store) (v : Datum) → IsAt code at (on line (NewItem f (stands i top) c)) → read_as as_long (g (base + stands i top)) ≡ v → length ls ≡ top → Holds ks.locals g base ls → Acts at k g x 1 (with (item_at line x f v k) x (λ item k. with (acc.room line x c k) x (λ r k. goes_on ls (acc.put (acc.with_new x c) me f item.place (Ref r)) k)))
      item_made line f i c ls x at k g v h is len holds = by (item_at line x f v k) refl (within_indexed line (items_in (slice_get (acc.own below x me) f.field)) v k)
        where
          last : Placed
          last = on line (NewItem f (stands i top) c)

          abbrev_next : Next S → Found → ℕ → Outcome S
          abbrev_next next item j = after (acc.room line x c j) x (λ r k. next (there (at + 1) k g (acc.put (acc.with_new x c) me f item.place (Ref r))))

          does : (o : Out Found) → item_at line x f v k ≡ o → (next : Next S) → act acc code line (Some last.instruction) next (there at k g x) ≡ after o x (abbrev_next next)
          does o e next = ap (λ y. after (item_at line x f y k) x (abbrev_next next)) is ∙ ap (λ y. after y x (abbrev_next next)) e

          by : (o : Out Found) → item_at line x f v k ≡ o → Within k o → Acts at k g x 1 (with o x (λ item k. with (acc.room line x c k) x (λ r k. goes_on ls (acc.put (acc.with_new x c) me f item.place (Ref r)) k)))
          by (gives item j) z le =
              does_once at k g x last (acc.room line x c j) (λ r. g) (λ r. acc.put (acc.with_new x c) me f item.place (Ref r)) (λ r. ls) h (does (gives item j) z) (within_less (acc.room line x c j) j k (ops.room line x c j) le) (λ r. (holds, len)) (λ r j lt. refl)
          by (traps t) z le = inr (steps_end acc code (there at k g x) (Trapped t x) last h (does (traps t) z))
          by over z le = inr (steps_end acc code (there at k g x) (Spent x) last h (does over z))

      pub acts_do : (s : Statement) (line : ℕ) (ls : List Datum) (x : S) (at k : ℕ) (f : Store) → ActParts ks top E s → HasAt code at (all_acts ks line s top) → length ls ≡ top → Here ls x → k ≤ n → Holds ks.locals f base ls → Acts at k f x (length (all_acts ks line s top)) (act_by line ls x s k)
      acts_do (put_field l y op e) line ls x at k f t h len good left holds =
          let ce = operand_code ks line e top in
          let last = on line (PutField y op (kind_of ks e) (stands e top)) in
          let old = one_in (slice_get (acc.own below x me) y.field) in
          with_does acc code alt (λ (x : S). x) ret (there at k f x) x ce (last ∷ []) (Stood base f (stands e top) top (kind_of ks e)) (LocalsAt ks base top) (λ v k. goes_on ls (acc.put x me y 0 (assigned op old v)) k) refl h (value line ls x e k)
          (λ h. ops.operand e t line top ls x at k f h len good (omega arith) left holds)
          (λ u j g z h q bel le. does_once (at + length ce) j g x last (gives u j) (λ u. g) (λ u. acc.put x me y 0 (assigned op old u)) (λ u. ls) h.0
          (λ next. ap (λ z. next (there (at + length ce + 1) j g (acc.put x me y 0 (assigned op old z)))) q.0) (omega arith) (λ u. (held ls f g top len (omega arith) q.1 holds, len)) (λ u j lt. refl))
      acts_do (put_item l y i op e) line ls x at k f t h len good left holds =
          let ci = operand_code ks line i top in
          let rest = on line (CheckItem y (stands i top)) ∷ (operand_code ks line e (top + 1) ++ on line (PutItem y (stands i top) op (kind_of ks e) (stands e (top + 1))) ∷ []) in
          with_does acc code alt (λ (x : S). x) ret (there at k f x) x ci rest (Stood base f (stands i top) top (kind_of ks i)) (LocalsAt ks base top) (λ v k. with (item_at line x y v k) x (λ item k. with (value line ls x e k) x (λ v k. goes_on ls (acc.put x me y item.place (assigned op item.value v)) k))) refl h (value line ls x i k)
          (λ h. ops.operand i t.1 line top ls x at k f h len good (omega arith) left holds)
          (λ u j g z h q bel le. item_put line y i op e t.2 ls x (at + length ci) j g u h (ap (λ z. read_as z (g (base + stands i top))) (sym t.0) ∙ q.0) (ops.within i t.1) len good (omega (arith, le, left)) (held ls f g top len (omega arith) q.1 holds))
      acts_do (new_local l y c) line ls x at k f t h len good left holds =
          does_once at k f x (on line (NewLocal y.0 c)) (acc.room line x c k) (λ r. store f (base + y.0) (word (Ref r))) (λ r. acc.with_new x c) (λ r. slice_set ls y.0 (Ref r)) h.0 (λ next. refl) (ops.room line x c k)
          (λ r.
          let g = store f (base + y.0) (word (Ref r)) in
          let reads : read_as (ks.locals y.0) (g (base + y.0)) ≡ Ref r = ap (λ z. read_as z (g (base + y.0))) t.1 ∙ ap (read_as as_pointer) (stored_here f (base + y.0) (base + y.0) (word (Ref r)) refl) in
          (local_put ks.locals base y.0 ls (Ref r) f g (omega (arith, t.0, len)) holds reads (λ j lt ne. stored_there f (base + y.0) (base + j) (word (Ref r)) (apart base j y.0 ne)), length-set ls y.0 (Ref r) ∙ len))
          (λ r j lt. stored_there f (base + y.0) j (word (Ref r)) (λ e. absurd (omega (arith, lt, e))))
      acts_do (new_field l y c) line ls x at k f t h len good left holds =
          does_once at k f x (on line (NewField y c)) (acc.room line x c k) (λ r. f) (λ r. acc.put (acc.with_new x c) me y 0 (Ref r)) (λ r. ls) h.0 (λ next. refl) (ops.room line x c k) (λ r. (holds, len)) (λ r j lt. refl)
      acts_do (new_item l y i c) line ls x at k f t h len good left holds =
          let ci = operand_code ks line i top in
          with_does acc code alt (λ (x : S). x) ret (there at k f x) x ci (on line (NewItem y (stands i top) c) ∷ []) (Stood base f (stands i top) top (kind_of ks i)) (LocalsAt ks base top) (λ v k. with (item_at line x y v k) x (λ item k. with (acc.room line x c k) x (λ r k. goes_on ls (acc.put (acc.with_new x c) me y item.place (Ref r)) k))) refl h (value line ls x i k)
          (λ h. ops.operand i t.1 line top ls x at k f h len good (omega arith) left holds)
          (λ u j g z h q bel le. item_made line y i c ls x (at + length ci) j g u h.0 (ap (λ z. read_as z (g (base + stands i top))) (sym t.0) ∙ q.0) len (held ls f g top len (omega arith) q.1 holds))
      acts_do (print_value l e) line ls x at k f t h len good left holds =
          let ce = operand_code ks line e top in
          with_does acc code alt (λ (x : S). x) ret (there at k f x) x ce (on line (Print (kind_of ks e) (stands e top)) ∷ []) (Stood base f (stands e top) top (kind_of ks e)) (LocalsAt ks base top) (λ v k. goes_on ls (acc.print x v) k) refl h (value line ls x e k)
          (λ h. ops.operand e t line top ls x at k f h len good (omega arith) left holds)
          (λ u j g z h q bel le. does_once (at + length ce) j g x (on line (Print (kind_of ks e) (stands e top))) (gives u j) (λ u. g) (λ u. acc.print x u) (λ u. ls) h.0
          (λ next. ap (λ z. next (there (at + length ce + 1) j g (acc.print x z))) q.0) (omega arith) (λ u. (held ls f g top len (omega arith) q.1 holds, len)) (λ u j lt. refl))
      acts_do other line ls x at k f t h len good left holds = absurd t

      -- a call, by what the call itself does with the receiver and the arguments in their slots
      pub calls_do : (instruction : OpId → ℕ → Instruction) (runs_call : List Datum → Invocation → S → ℕ → Flow S) (e : Expression) (op : OpId) (es : Expressions) (line : ℕ) (ls : List Datum) (x : S) (k : ℕ)
          → ((v : Datum) (vs : List Datum) (j i at : ℕ) (f : Store) → value line ls x e k ≡ gives v j → eval_all (calls x) (seen line ls x) es j ≡ gives vs i → length vs ≡ how_many es → IsAt code at (on line (instruction op top)) → read_as as_pointer (f (base + top)) ≡ v → Holds (ks.arguments op) f (base + (top + 1)) vs → i ≤ k → Holds ks.locals f base ls → Acts at i f x 1 (with (pointed line v i >>= λ r k. gives (invocation r op vs) k) x (λ i k. runs_call ls i x k)))
          → kind_of ks e ≡ as_pointer → AreOf ks (ks.arguments op) es → E e → Es es → (at : ℕ) (f : Store) → HasAt code at (expression_code ks line e top top ++ (expressions_code ks line es (top + 1) ++ on line (instruction op top) ∷ [])) → length ls ≡ top → Here ls x → k ≤ n → Holds ks.locals f base ls → Acts at k f x (length (expression_code ks line e top top ++ (expressions_code ks line es (top + 1) ++ on line (instruction op top) ∷ []))) (with (due (calls x) (seen line ls x) e op es k) x (λ i k. runs_call ls i x k))
      calls_do instruction runs_call e op es line ls x k hands pointer fits te tes at f h len good left holds =
          let ce = expression_code ks line e top top in
          let ces = expressions_code ks line es (top + 1) in
          let last = on line (instruction op top) in
          let next_two : Datum → ℕ → Flow S = λ v k. with (eval_all (calls x) (seen line ls x) es k) x (λ vs k. with (pointed line v k >>= λ r k. gives (invocation r op vs) k) x (λ i k. runs_call ls i x k)) in
          subst (λ o. Acts at k f x (length (ce ++ (ces ++ last ∷ []))) o) (sym (splits (value line ls x e k)))
          (with_does acc code alt (λ (x : S). x) ret (there at k f x) x ce (ces ++ last ∷ []) (Valued base f top top (kind_of ks e)) (LocalsAt ks base top) next_two refl h (value line ls x e k)
          (λ h. ops.expression e te line ls x at k f h len good left holds)
          (λ v j g y h q bel le.
          let holds1 : Holds ks.locals g base ls = λ i lt. ap (read_as (ks.locals i)) (q.1 i (omega (arith, lt, len)) (λ e. absurd (omega (arith, lt, len, e)))) ∙ holds i lt in
          with_does acc code alt (λ (x : S). x) ret (there (at + length ce) j g x) x ces (last ∷ []) (AllStood base g (top + 1) (how_many es) (ks.arguments op)) (LocalsAt ks base top) (λ vs k. with (pointed line v k >>= λ r k. gives (invocation r op vs) k) x (λ i k. runs_call ls i x k)) refl h (eval_all (calls x) (seen line ls x) es j)
          (λ h. ops.expressions es tes (ks.arguments op) line ls x (at + length ce) j g h fits len good (omega (arith, le, left)) holds1)
          (λ vs j2 g2 z h q2 below2 le2.
          hands v vs j j2 (at + length ce + length ces) g2 y z q2.0 h.0 (ap (read_as as_pointer) (q2.2 top (omega arith)) ∙ ap (λ z. read_as z (g (base + top))) (sym pointer) ∙ q.0) q2.1 (omega (arith, le2, le)) (held ls g g2 (top + 1) len (omega arith) q2.2 holds1))))
        where
          splits : (o : Out Datum) → with (o >>= λ v k. eval_all (calls x) (seen line ls x) es k >>= λ vs k. pointed line v k >>= λ r k. gives (invocation r op vs) k) x (λ i k. runs_call ls i x k) ≡ with o x (λ v k. with (eval_all (calls x) (seen line ls x) es k) x (λ vs k. with (pointed line v k >>= λ r k. gives (invocation r op vs) k) x (λ i k. runs_call ls i x k)))
          splits (gives v k) = with_then (eval_all (calls x) (seen line ls x) es k) (λ vs k. pointed line v k >>= λ r k. gives (invocation r op vs) k) x (λ i k. runs_call ls i x k)
          splits (traps t) = refl
          splits over = refl
