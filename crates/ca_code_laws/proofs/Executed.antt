-- The instructions of a statement do what it means, whatever its values and its acts mean, or something else holds.
use Rattle.std.proofs.Common.{◌≡◌, ◌≢◌, ℕ, zero, suc, ◌+◌, ◌-◌, ◌<◌, ◌≤◌, List, [], ◌∷◌, ◌++◌, length, Option, Some, None, refl, sym, ap, ◌∙◌, subst, ⊎_elim, arith, length-append, length-set, ◌⊎◌, inl, inr}
use Rattle.std.specs.Prelude.{true, false, Bool, slice_set, cond}
use Rattle.std.proofs.lemmas.Bool.{cases_eq}
use Rattle.ca_tree.specs.declared.tree.AssignOp.{AssignOp}
use Rattle.ca_program.specs.declared.program.LoopId.{LoopId}
use Rattle.ca_program.specs.declared.program.FirstPart.{FirstPart}
use Rattle.ca_program.specs.Plain.{Expression, Statement, Statements, block, put_local, put_field, put_item, new_local, new_field, new_item, invoke, if_else, while_loop, for_loop, return_value, print_value, no_statements, statement_and, PlainProgram}
use Rattle.ca_model.specs.declared.value.Value.{Value as Datum}
use Rattle.ca_model.specs.declared.value.Value.TheVariants.{Long, Bool as Truth, Null, Ref}
use Rattle.ca_meaning.specs.Operators.{assigned}
use Rattle.ca_meaning.specs.Expressions.{Out, gives, traps, over, take_step, value_at}
use Rattle.ca_meaning.specs.Flows.{Flow, goes_on, gives_back, stops, runs_out, and_on, with, choose, Parts, line_of, turn_of, exec, exec_all, turn}
use Rattle.ca_program.specs.declared.program.ValueType.{ValueType}
use Rattle.ca_meaning.proofs.Putting.{put_stores}
use Rattle.ca_code_laws.proofs.Words.{back}
use Rattle.ca_code_laws.specs.Words.{word, read_as, has_kind}
use Rattle.ca_program.specs.Kinds.{Kind, as_truth, Kinds, kinds_in, kind_of}
use Rattle.ca_program.specs.Instructions.{Return, Jump, Unless, Turn, Update, Code, Placed, on, IsAt, HasAt}
use Rattle.ca_program.specs.Layout.{stands, expression_code, operand_code, loop_code, Acts, Hands, unless_handed, update_code, statement_code, statements_code}
use Rattle.ca_code_laws.specs.Machine.{Store, store, Back, Accesses, State, Spent, Next, moved, after, if_true, act, Comes, Wanting, put_as}
use Rattle.ca_code_laws.specs.Told.{Holds}
use Rattle.ca_code_laws.proofs.Steps.{stored_here, stored_there, has_front, has_back, Goes, stays, joins, steps, steps_end, rests}
use Rattle.ca_code_laws.proofs.Evaluated.{Valued, Stood, apart}
use Rattle.ca_tree.specs.declared.tree.AssignOp.TheVariants as change
use Rattle.ca_program.specs.declared.program.LocalId.{LocalId}
use Rattle.ca_code_laws.proofs.Instead.{Otherwise, MayWant, Gets, Does, comes_does, with_does, and_does, step_does}

-- the locals stand in the first slots of the frame
abbrev pub LocalsAt : Kinds → ℕ → ℕ → List Datum → Store → Type 0
LocalsAt ks base n ls f = Holds ks.locals f base ls × (length ls ≡ n)

set_same : (ls : List Datum) (i : ℕ) (v : Datum) → i < length ls → value_at (slice_set ls i v) i ≡ v
set_same [] i v lt = absurd (omega (arith, lt))
set_same (x ∷ ls) zero v lt = refl
set_same (x ∷ ls) (suc i) v lt = set_same ls i v (omega (arith, lt))

set_other : (ls : List Datum) (i j : ℕ) (v : Datum) → j ≢ i → value_at (slice_set ls i v) j ≡ value_at ls j
set_other [] i j v ne = refl
set_other (x ∷ ls) zero zero v ne = absurd (ne refl)
set_other (x ∷ ls) zero (suc j) v ne = refl
set_other (x ∷ ls) (suc i) zero v ne = refl
set_other (x ∷ ls) (suc i) (suc j) v ne = set_other ls i j v (λ e. ne (ap suc e))

-- a local that was put
pub local_put : (κs : ℕ → Kind) (base l : ℕ) (ls : List Datum) (v : Datum) (old f : Store) → l < length ls → Holds κs old base ls → read_as (κs l) (f (base + l)) ≡ v → ((j : ℕ) → j < length ls → j ≢ l → f (base + j) ≡ old (base + j)) → Holds κs f base (slice_set ls l v)
local_put κs base l ls v old f lt holds is same i within =
    ⊎_elim
    (λ e. ap (λ x. read_as (κs x) (f (base + x))) e ∙ is ∙ sym (ap (λ x. value_at (slice_set ls l v) x) e ∙ set_same ls l v lt))
    (λ ne. ap (read_as (κs i)) (same i (subst (λ x. i < x) (length-set ls l v) within) ne) ∙ holds i (subst (λ x. i < x) (length-set ls l v) within) ∙ sym (set_other ls l i v ne))
    (cases_eq i l)

-- the two parts of a loop's code, and what is asked of it
abbrev pub body_of_loop : Kinds → Acts → Hands → ℕ → Statement → ℕ → List Placed
body_of_loop ks a hd line (while_loop _ c b) top = statement_code ks a hd (line_of b) b top
body_of_loop ks a hd line (for_loop l site part first c next b) top = statement_code ks a hd (line_of b) b top ++ statement_code ks a hd line next top
body_of_loop ks a hd line other top = []

abbrev pub tail_code : Kinds → ℕ → Expression → List Placed → ℕ → List Placed
tail_code ks line c body top = operand_code ks line c top ++ on line (Turn (stands c top) (length body + length (operand_code ks line c top))) ∷ []

abbrev pub tail_of_loop : Kinds → Acts → Hands → ℕ → Statement → ℕ → List Placed
tail_of_loop ks a hd line (while_loop _ c b) top = tail_code ks line c (statement_code ks a hd (line_of b) b top) top
tail_of_loop ks a hd line (for_loop l site part first c next b) top = tail_code ks line c (statement_code ks a hd (line_of b) b top ++ statement_code ks a hd line next top) top
tail_of_loop ks a hd line other top = []

abbrev pub IsLoop : Statement → Type 0
IsLoop (while_loop _ c b) = Unit {0}
IsLoop (for_loop l site part first c next b) = Unit {0}
IsLoop other = ⊥

-- what isn't laid out here
abbrev pub IsAct : Statement → Type 0
IsAct (put_field l f op e) = Unit {0}
IsAct (put_item l f i op e) = Unit {0}
IsAct (new_local l x c) = Unit {0}
IsAct (new_field l f c) = Unit {0}
IsAct (new_item l f i c) = Unit {0}
IsAct (print_value l e) = Unit {0}
IsAct (invoke l e op es) = Unit {0}
IsAct other = ⊥

abbrev pub acted : {P : Type 0} → Parts P → ℕ → List Datum → P → Statement → ℕ → Flow P
acted parts line ls p (invoke l e op es) k = parts.call line ls p e op es k
acted parts line ls p other k = parts.act line ls p other k

-- what a statement is laid out to asks of its parts
abbrev pub StatementParts : PlainProgram → List ValueType → Kind → (Expression → Type 0) → (Statement → Type 0) → (Statements → Type 0) → Statement → Type 0
StatementParts pr tys ret E T Ts (block line ss) = Ts ss
StatementParts pr tys ret E T Ts (put_local line l op e) = (l.0 < length tys) × (kind_of (kinds_in pr tys) e ≡ (kinds_in pr tys).locals l.0) × E e
StatementParts pr tys ret E T Ts (if_else line c x y) = (kind_of (kinds_in pr tys) c ≡ as_truth) × E c × T x × T y
StatementParts pr tys ret E T Ts (while_loop line c b) = (kind_of (kinds_in pr tys) c ≡ as_truth) × E c × T b
StatementParts pr tys ret E T Ts (for_loop line site part first c next b) = T first × (kind_of (kinds_in pr tys) c ≡ as_truth) × E c × T next × T b
StatementParts pr tys ret E T Ts (return_value line e) = (kind_of (kinds_in pr tys) e ≡ ret) × E e
StatementParts pr tys ret E T Ts other = Unit {0}

module _ {S P : Type 0} (acc : Accesses S) (code : Code) (alt : Otherwise acc code) (pr : PlainProgram) (tys : List ValueType) (ret : Kind) (w : P → S) (a : Acts) (hd : Hands) (parts : Parts P) (me : Datum) (below : List Back) (base n top : ℕ) where
  -- the kinds in the body
  abbrev ks : Kinds
  ks = kinds_in pr tys

  -- the body at a place
  abbrev at_place : ℕ → ℕ → Store → P → State S
  at_place at k f p = record { at = at; base = base; left = k; this = me; below = below; slots = f; world = w p }

  module _ (E : Expression → Type 0) (T : Statement → Type 0) (Ts : Statements → Type 0) (Here : List Datum → P → Type 0) where
    -- What is known of the statements of the body: of their parts, and what the parts of their meaning are laid out to; that a statement which
    -- goes on leaves what holds here; and that what is put into a local has its kind.
    pub record Means : Type 0 where
      pub wide : length tys ≡ top
      pub parts_of : (x : Statement) → T x → StatementParts pr tys ret E T Ts x
      pub more : (x : Statement) (rest : Statements) → Ts (statement_and x rest) → T x × Ts rest
      pub values : (e : Expression) → E e → (line to : ℕ) (ls : List Datum) (p : P) (at k : ℕ) (f : Store) → HasAt code at (expression_code ks line e to top) → length ls ≡ top → Here ls p → to ≤ top → k ≤ n → Holds ks.locals f base ls → Gets acc code alt (at_place at k f p) (length (expression_code ks line e to top)) (Valued base f to top (kind_of ks e)) (parts.value line ls p e k)
      pub operands : (e : Expression) → E e → (line : ℕ) (ls : List Datum) (p : P) (at k : ℕ) (f : Store) → HasAt code at (operand_code ks line e top) → length ls ≡ top → Here ls p → k ≤ n → Holds ks.locals f base ls → Gets acc code alt (at_place at k f p) (length (operand_code ks line e top)) (Stood base f (stands e top) top (kind_of ks e)) (parts.value line ls p e k)
      pub acting : (x : Statement) (line : ℕ) (ls : List Datum) (p : P) (at k : ℕ) (f : Store) → IsAct x → HasAt code at (a line x top) → T x → length ls ≡ top → Here ls p → k ≤ n → Holds ks.locals f base ls → Does acc code alt w ret (at_place at k f p) (length (a line x top)) (LocalsAt ks base top) (acted parts line ls p x k)
      pub agains : (x : Statement) (line : ℕ) (ls : List Datum) (p : P) (at k : ℕ) (f : Store) → IsLoop x → HasAt code at (body_of_loop ks a hd line x top ++ tail_of_loop ks a hd line x top) → T x → length ls ≡ top → Here ls p → k < n → Holds ks.locals f base ls → Does acc code alt w ret (at_place (at + length (body_of_loop ks a hd line x top)) k f p) (length (tail_of_loop ks a hd line x top)) (LocalsAt ks base top) (parts.again line ls p x k)
      pub begins : (line : ℕ) (ls : List Datum) (p : P) (x : Statement) (k : ℕ) (plain : Flow P) → hd line x top ≡ None → parts.begin line ls p x k plain ≡ plain
      pub handed : (line : ℕ) (ls : List Datum) (p : P) (x : Statement) (at k : ℕ) (f : Store) (plain : Flow P) (cx : List Placed) → hd line x top ≡ Some cx → HasAt code at cx → T x → length ls ≡ top → Here ls p → k ≤ n → Holds ks.locals f base ls → Does acc code alt w ret (at_place at k f p) (length cx) (LocalsAt ks base top) (parts.begin line ls p x k plain)
      pub leaves : (x : Statement) → T x → (line : ℕ) (ls : List Datum) (p : P) (k : ℕ) → Here ls p → Goes Here (exec parts line ls p x k)
      pub keeps : (z : ℕ) (l : LocalId) (op : AssignOp) (e : Expression) → T (put_local z l op e) → (line : ℕ) (ls : List Datum) (p : P) (k j : ℕ) (v : Datum) → Here ls p → parts.value line ls p e k ≡ gives v j → (has_kind (ks.locals l.0) (assigned op (value_at ls l.0) v) ≡ true) ⊎ MayWant acc code alt

    module _ (run : Means) where
      -- a statement that only evaluates and puts into a local
      ends_does : (at k m : ℕ) (f : Store) (p : P) (Q : Datum → Store → Type 0) (g : Datum → List Datum) (o : Out Datum) → Gets acc code alt (at_place at k f p) m Q o → ((v : Datum) (f1 : Store) → Q v f1 → LocalsAt ks base top (g v) f1) → Does acc code alt w ret (at_place at k f p) m (LocalsAt ks base top) (with o p (λ v k. goes_on (g v) p k))
      ends_does at k m f p Q g o (inl t) then = inl t
      ends_does at k m f p Q g (gives v j) (inr r) then = inr (r.0, r.1, then v r.0 r.2, r.3, r.4)
      ends_does at k m f p Q g (traps t) (inr r) then = inr r
      ends_does at k m f p Q g over (inr r) then = inr r

      -- what goes on goes on over more instructions
      longer : (s : State S) (m l : ℕ) (R : List Datum → Store → Type 0) (o : Flow P) → Does acc code alt w ret s m R o → ((k : ℕ) (f : Store) (p : P) → Comes acc code (moved s (s.at + m) k f (w p)) (moved s (s.at + l) k f (w p))) → Does acc code alt w ret s l R o
      longer s m l R o (inl t) then = inl t
      longer s m l R (goes_on ls p k) (inr r) then = inr (r.0, joins acc code r.1 (then k r.0 p), r.2, r.3, r.4)
      longer s m l R (gives_back v p k) (inr r) then = inr r
      longer s m l R (stops t p) (inr r) then = inr r
      longer s m l R (runs_out p) (inr r) then = inr r

      and_sound : (o : Flow P) (g : List Datum → P → ℕ → Flow P) → Goes Here o → ((ls : List Datum) (p : P) (k : ℕ) → Here ls p → Goes Here (g ls p k)) → Goes Here (and_on o g)
      and_sound (goes_on ls p k) g good next = next ls p k good
      and_sound (gives_back v p k) g good next = tt
      and_sound (stops t p) g good next = tt
      and_sound (runs_out p) g good next = tt

      -- a value of the local's kind is put into it by one instruction
      updated : (l : ℕ) (ls : List Datum) (x : Datum) (p : P) (at k : ℕ) (old g : Store) (i : Placed) → l < top → length ls ≡ top → has_kind (ks.locals l) x ≡ true → Holds ks.locals old base ls → ((j : ℕ) → j < top → g (base + j) ≡ old (base + j)) → IsAt code at i → ((next : Next S) → act acc code i.line (Some i.instruction) next (at_place at k g p) ≡ put_as (ks.locals l) (at_place at k g p) next l 0 x k) → Does acc code alt w ret (at_place at k g p) 1 (LocalsAt ks base top) (goes_on (slice_set ls l x) p k)
      updated l ls x p at k old g i lt len has holds same h a =
          let f : Store = store g (base + l) (word x) in
          let within : l < length ls = omega (arith, lt, len) in
          let z : at + 1 + 0 ≡ at + 1 = omega arith in
          let is : read_as (ks.locals l) (f (base + l)) ≡ x = ap (read_as (ks.locals l)) (stored_here g (base + l) (base + l) (word x) refl) ∙ back (ks.locals l) x has in
          let comes = steps acc code (at_place at k g p) (at_place (at + 1 + 0) k f p) i h (λ next. a next ∙ ap (λ b. cond b (next (at_place (at + 1 + 0) k f p)) Wanting) has) in
          inr (f, subst (λ q. Comes acc code (at_place at k g p) (at_place q k f p)) z comes, (local_put ks.locals base l ls x old f within holds is (λ j lt2 ne. stored_there g (base + l) (base + j) (word x) (apart base j l ne) ∙ same j (omega (arith, lt2, len))), length-set ls l x ∙ len), (λ j lt2. stored_there g (base + l) j (word x) (λ e. absurd (omega (arith, lt2, e)))), omega arith)

      -- or it wants memory, where that may be
      put_kept : (l : ℕ) (ls : List Datum) (x : Datum) (p : P) (at k : ℕ) (old g : Store) (i : Placed) → l < top → length ls ≡ top → (has_kind (ks.locals l) x ≡ true) ⊎ MayWant acc code alt → Holds ks.locals old base ls → ((j : ℕ) → j < top → g (base + j) ≡ old (base + j)) → IsAt code at i → ((next : Next S) → act acc code i.line (Some i.instruction) next (at_place at k g p) ≡ put_as (ks.locals l) (at_place at k g p) next l 0 x k) → Does acc code alt w ret (at_place at k g p) 1 (LocalsAt ks base top) (goes_on (slice_set ls l x) p k)
      put_kept l ls x p at k old g i lt len has holds same h a = or has
        where
          by : MayWant acc code alt → (b : Bool) → has_kind (ks.locals l) x ≡ b → Does acc code alt w ret (at_place at k g p) 1 (LocalsAt ks base top) (goes_on (slice_set ls l x) p k)
          by may true e = updated l ls x p at k old g i lt len e holds same h a
          by may false e = inl (may (at_place at k g p) (steps_end acc code (at_place at k g p) Wanting i h (λ next. a next ∙ ap (λ b. cond b (next (at_place (at + 1 + 0) k (store g (base + l) (word x)) p)) Wanting) e)))

          or : (has_kind (ks.locals l) x ≡ true) ⊎ MayWant acc code alt → Does acc code alt w ret (at_place at k g p) 1 (LocalsAt ks base top) (goes_on (slice_set ls l x) p k)
          or (inl e) = updated l ls x p at k old g i lt len e holds same h a
          or (inr may) = by may (has_kind (ks.locals l) x) refl

      -- a put to a local: the expression has its kind, and so has what is put, or want of memory may be
      abbrev Puts : AssignOp → ℕ → Expression → ℕ → List Datum → P → ℕ → Type 0
      Puts op l e line ls p k =
          (l < length tys) × (kind_of ks e ≡ ks.locals l) × E e × ((v : Datum) (j : ℕ) → parts.value line ls p e k ≡ gives v j → (has_kind (ks.locals l) (assigned op (value_at ls l) v) ≡ true) ⊎ MayWant acc code alt)

      updates : (op : AssignOp) (line l : ℕ) (e : Expression) (ls : List Datum) (p : P) (at k : ℕ) (f : Store) → HasAt code at (operand_code ks line e top ++ on line (Update l op (ks.locals l) (stands e top)) ∷ []) → Puts op l e line ls p k → length ls ≡ top → Here ls p → k ≤ n → Holds ks.locals f base ls → Does acc code alt w ret (at_place at k f p) (length (operand_code ks line e top ++ on line (Update l op (ks.locals l) (stands e top)) ∷ [])) (LocalsAt ks base top) (with (parts.value line ls p e k) p (λ v k. goes_on (slice_set ls l (assigned op (value_at ls l) v)) p k))
      updates op line l e ls p at k f h t len good left holds =
          let ce = operand_code ks line e top in
          let κ = ks.locals l in
          let last = on line (Update l op (ks.locals l) (stands e top)) in
          let lt : l < top = omega (arith, t.0, run.wide) in
          with_does acc code alt w ret (at_place at k f p) p ce (last ∷ []) (Stood base f (stands e top) top (kind_of ks e)) (LocalsAt ks base top) (λ v k. goes_on (slice_set ls l (assigned op (value_at ls l) v)) p k) refl h (parts.value line ls p e k)
          (λ h. run.operands e t.2 line ls p at k f h len good left holds)
          (λ v j g z h q below le.
          let here = at_place (at + length ce) j g p in
          let within : l < length ls = omega (arith, lt, len) in
          let is_right : read_as κ (g (base + stands e top)) ≡ v = ap (λ y. read_as y (g (base + stands e top))) (sym t.1) ∙ q.0 in
          let is_old : read_as κ (g (base + l)) ≡ value_at ls l = ap (read_as κ) (q.1 l lt) ∙ holds l within in
          put_kept l ls (assigned op (value_at ls l) v) p (at + length ce) j f g last lt len (t.3 v j z) holds q.1 h.0
          (λ next. ap (λ y. put_as κ here next l 0 (assigned op y (read_as κ (g (base + stands e top)))) j) is_old ∙ ap (λ y. put_as κ here next l 0 (assigned op (value_at ls l) y) j) is_right))

      puts : (op : AssignOp) (line l : ℕ) (e : Expression) (ls : List Datum) (p : P) (at k : ℕ) (f : Store) → HasAt code at (update_code ks line l op e top) → Puts op l e line ls p k → length ls ≡ top → Here ls p → k ≤ n → Holds ks.locals f base ls → Does acc code alt w ret (at_place at k f p) (length (update_code ks line l op e top)) (LocalsAt ks base top) (with (parts.value line ls p e k) p (λ v k. goes_on (slice_set ls l (assigned op (value_at ls l) v)) p k))
      puts change.Put line l e ls p at k f h t len good left holds =
          let below : l < top = omega (arith, t.0, run.wide) in
          let lt : l < length ls = omega (arith, below, len) in
          ends_does at k (length (expression_code ks line e l top)) f p (Valued base f l top (kind_of ks e)) (λ v. slice_set ls l (assigned change.Put (value_at ls l) v)) (parts.value line ls p e k) (run.values e t.2 line l ls p at k f h len good (omega (arith, below)) left holds)
          (λ v g q.
          let is : read_as (ks.locals l) (g (base + l)) ≡ v = ap (λ y. read_as y (g (base + l))) (sym t.1) ∙ q.0 in
          subst (λ x. LocalsAt ks base top (slice_set ls l x) g) (sym (put_stores (value_at ls l) v)) (local_put ks.locals base l ls v f g lt holds is (λ j lt ne. q.1 j (omega (arith, lt, len)) ne), length-set ls l v ∙ len))
      puts op line l e ls p at k f h t len good left holds = updates op line l e ls p at k f h t len good left holds

      -- what a loop's body does, and the loop when it comes again
      abbrev BodyDoes : List Placed → (List Datum → P → ℕ → Flow P) → ℕ → Type 0
      BodyDoes body does at =
          (ls : List Datum) (p : P) (k : ℕ) (f : Store) → length ls ≡ top → Here ls p → k ≤ n → Holds ks.locals f base ls → Does acc code alt w ret (at_place at k f p) (length body) (LocalsAt ks base top) (does ls p k)

      abbrev BodyGoes : (List Datum → P → ℕ → Flow P) → Type 0
      BodyGoes does = (ls : List Datum) (p : P) (k : ℕ) → Here ls p → Goes Here (does ls p k)

      abbrev AgainDoes : ℕ → Expression → List Placed → Statement → ℕ → Type 0
      AgainDoes line c body loop at =
          (ls : List Datum) (p : P) (k : ℕ) (f : Store) → length ls ≡ top → Here ls p → k < n → Holds ks.locals f base ls → Does acc code alt w ret (at_place (at + length body) k f p) (length (tail_code ks line c body top)) (LocalsAt ks base top) (parts.again line ls p loop k)

      -- a loop from its condition on
      turn_does : (line : ℕ) (c : Expression) (body : List Placed) (does : List Datum → P → ℕ → Flow P) (loop : Statement) (at : ℕ) (ls : List Datum) (p : P) (k : ℕ) (f : Store) → HasAt code at (body ++ tail_code ks line c body top) → (kind_of ks c ≡ as_truth) × E c → length ls ≡ top → Here ls p → k ≤ n → Holds ks.locals f base ls → BodyDoes body does at → BodyGoes does → AgainDoes line c body loop at → Does acc code alt w ret (at_place (at + length body) k f p) (length (tail_code ks line c body top)) (LocalsAt ks base top) (turn_of parts c does loop line ls p k)
      turn_does line c body does loop at ls p k f h t len good left holds body_does body_goes again_does =
          with_does acc code alt w ret (at_place (at + length body) k f p) p cc (last ∷ []) (Stood base f (stands c top) top (kind_of ks c)) (LocalsAt ks base top) (λ v k. choose v (stepping k) (goes_on ls p k)) refl (has_back code at body (cc ++ last ∷ []) h) (parts.value line ls p c k)
          (λ h. run.operands c t.1 line ls p (at + length body) k f h len good left holds)
          (λ v j g z h q below le. turned v j g h.0 (ap (λ y. read_as y (g (base + stands c top))) (sym t.0) ∙ q.0) (λ i lt. ap (read_as (ks.locals i)) (q.1 i (omega (arith, lt, len))) ∙ holds i lt) (omega (arith, le, left)))
        where
          cc : List Placed
          cc = operand_code ks line c top

          last : Placed
          last = on line (Turn (stands c top) (length body + length cc))

          stepping : ℕ → Flow P
          stepping k = with (take_step k) p (λ _ k. and_on (does ls p k) (λ ls p k. parts.again line ls p loop k))

          here : ℕ → Store → State S
          here k g = at_place (at + length body + length cc) k g p

          acts : (v : Datum) (k : ℕ) (g : Store) → read_as as_truth (g (base + stands c top)) ≡ v → (next : Next S) → act acc code line (Some last.instruction) next (here k g) ≡ if_true v (after (take_step k) (w p) (λ _ k. next (at_place (at + length body + length cc - (length body + length cc)) k g p))) (next (at_place (at + length body + length cc + 1) k g p))
          acts v k g is next = ap (λ y. if_true y (after (take_step k) (w p) (λ _ k. next (at_place (at + length body + length cc - (length body + length cc)) k g p))) (next (at_place (at + length body + length cc + 1) k g p))) is

          goes : (v : Datum) (k : ℕ) (g : Store) → IsAt code (at + length body + length cc) last → Holds ks.locals g base ls → ((next : Next S) → act acc code line (Some last.instruction) next (here k g) ≡ next (at_place (at + length body + length cc + 1) k g p)) → Does acc code alt w ret (here k g) 1 (LocalsAt ks base top) (goes_on ls p k)
          goes v k g h holds a = inr (g, steps acc code (here k g) (at_place (at + length body + length cc + 1) k g p) last h a, (holds, len), (λ j lt. refl), omega arith)

          turned : (v : Datum) (k : ℕ) (g : Store) → IsAt code (at + length body + length cc) last → read_as as_truth (g (base + stands c top)) ≡ v → Holds ks.locals g base ls → k ≤ n → Does acc code alt w ret (here k g) 1 (LocalsAt ks base top) (choose v (stepping k) (goes_on ls p k))
          turned (Truth true) zero g h is holds left = inr (steps_end acc code (here 0 g) (Spent (w p)) last h (acts (Truth true) 0 g is))
          turned (Truth true) (suc k) g hl is holds left =
              let back : at + length body + length cc - (length body + length cc) ≡ at = omega arith in
              let begins = steps acc code (here (suc k) g) (at_place at k g p) last hl (λ next. acts (Truth true) (suc k) g is next ∙ ap (λ q. next (at_place q k g p)) back) in
              let e : at + length (body ++ tail_code ks line c body top) ≡ at + length body + length cc + 1 = omega (arith, length-append body (tail_code ks line c body top), length-append cc (last ∷ [])) in
              comes_does acc code alt w ret (here (suc k) g) at (length (body ++ tail_code ks line c body top)) 1 k g (w p) (LocalsAt ks base top) e begins (λ j lt. refl) (omega arith) (and_on (does ls p k) (λ ls p k. parts.again line ls p loop k))
              (and_does acc code alt w ret (at_place at k g p) body (tail_code ks line c body top) (LocalsAt ks base top) (LocalsAt ks base top) Here (λ ls p k. parts.again line ls p loop k) h (does ls p k) (body_goes ls p k good)
              (λ h. body_does ls p k g len good (omega (arith, left)) holds)
              (λ ls2 p2 j f2 h good2 q below le. again_does ls2 p2 j f2 q.1 good2 (omega (arith, le, left)) q.0))
          turned (Truth false) k g h is holds left = goes (Truth false) k g h holds (acts (Truth false) k g is)
          turned (Long x) k g h is holds left = goes (Long x) k g h holds (acts (Long x) k g is)
          turned (Ref x) k g h is holds left = goes (Ref x) k g h holds (acts (Ref x) k g is)
          turned Null k g h is holds left = goes Null k g h holds (acts Null k g is)

      -- a branch of an `if`, behind its condition
      abbrev BranchDoes : List Placed → Flow P → ℕ → ℕ → Store → P → Type 0
      BranchDoes cx o at k f p = HasAt code at cx → Does acc code alt w ret (at_place at k f p) (length cx) (LocalsAt ks base top) o

      branches : (line : ℕ) (c : Expression) (cx cy : List Placed) (x y : Flow P) (v : Datum) (at k : ℕ) (g : Store) (p : P) → HasAt code at (on line (Unless (stands c top) (length cx + 1)) ∷ (cx ++ (on line (Jump (length cy)) ∷ cy))) → read_as as_truth (g (base + stands c top)) ≡ v → BranchDoes cx x (at + 1) k g p → BranchDoes cy y (at + 1 + (length cx + 1)) k g p → Does acc code alt w ret (at_place at k g p) (length (on line (Unless (stands c top) (length cx + 1)) ∷ (cx ++ (on line (Jump (length cy)) ∷ cy)))) (LocalsAt ks base top) (choose v x y)
      branches line c cx cy x y v at k g p h is xs ys = by v is
        where
          test : Placed
          test = on line (Unless (stands c top) (length cx + 1))

          jump : Placed
          jump = on line (Jump (length cy))

          all : List Placed
          all = test ∷ (cx ++ (jump ∷ cy))

          acts : (v : Datum) → read_as as_truth (g (base + stands c top)) ≡ v → (next : Next S) → act acc code line (Some test.instruction) next (at_place at k g p) ≡ if_true v (next (at_place (at + 1) k g p)) (next (at_place (at + 1 + (length cx + 1)) k g p))
          acts v is next = ap (λ z. if_true z (next (at_place (at + 1) k g p)) (next (at_place (at + 1 + (length cx + 1)) k g p))) is

          after_x : HasAt code (at + 1 + length cx) (jump ∷ cy)
          after_x = has_back code (at + 1) cx (jump ∷ cy) h.1

          behind : at + 1 + length cx + 1 ≡ at + 1 + (length cx + 1)
          behind = omega arith

          else_side : ((next : Next S) → act acc code line (Some test.instruction) next (at_place at k g p) ≡ next (at_place (at + 1 + (length cx + 1)) k g p)) → Does acc code alt w ret (at_place at k g p) (length all) (LocalsAt ks base top) y
          else_side a =
              let e : at + 1 + (length cx + 1) + length cy ≡ at + length all = omega (arith, length-append cx (jump ∷ cy)) in
              comes_does acc code alt w ret (at_place at k g p) (at + 1 + (length cx + 1)) (length cy) (length all) k g (w p) (LocalsAt ks base top) e (steps acc code (at_place at k g p) (at_place (at + 1 + (length cx + 1)) k g p) test h.0 a) (λ j lt. refl) (omega arith) y (ys (subst (λ q. HasAt code q cy) behind after_x.1))

          by : (v : Datum) → read_as as_truth (g (base + stands c top)) ≡ v → Does acc code alt w ret (at_place at k g p) (length all) (LocalsAt ks base top) (choose v x y)
          by (Truth true) is =
              step_does acc code alt w ret (at_place at k g p) k g (w p) test (cx ++ (jump ∷ cy)) (LocalsAt ks base top) h (acts (Truth true) is) (λ j lt. refl) (omega arith) x
              (λ h. longer (at_place (at + 1) k g p) (length cx) (length (cx ++ (jump ∷ cy))) (LocalsAt ks base top) x (xs (has_front code (at + 1) cx (jump ∷ cy) h))
              (λ j f q. let e : at + 1 + length cx + 1 + length cy ≡ at + 1 + length (cx ++ (jump ∷ cy)) = omega (arith, length-append cx (jump ∷ cy)) in subst (λ z. Comes acc code (at_place (at + 1 + length cx) j f q) (at_place z j f q)) e (steps acc code (at_place (at + 1 + length cx) j f q) (at_place (at + 1 + length cx + 1 + length cy) j f q) jump after_x.0 (λ next. refl))))
          by (Truth false) is = else_side (acts (Truth false) is)
          by (Long z) is = else_side (acts (Long z) is)
          by (Ref z) is = else_side (acts (Ref z) is)
          by Null is = else_side (acts Null is)

      -- to the condition of a loop, which stands behind its body
      enters : (line : ℕ) (body tail : List Placed) (at k : ℕ) (f : Store) (p : P) (o : Flow P) → HasAt code at (on line (Jump (length body)) ∷ (body ++ tail)) → Does acc code alt w ret (at_place (at + 1 + length body) k f p) (length tail) (LocalsAt ks base top) o → Does acc code alt w ret (at_place at k f p) (length (on line (Jump (length body)) ∷ (body ++ tail))) (LocalsAt ks base top) o
      enters line body tail at k f p o h r =
          let e : at + 1 + length body + length tail ≡ at + length (on line (Jump (length body)) ∷ (body ++ tail)) = omega (arith, length-append body tail) in
          comes_does acc code alt w ret (at_place at k f p) (at + 1 + length body) (length tail) (length (on line (Jump (length body)) ∷ (body ++ tail))) k f (w p) (LocalsAt ks base top) e (steps acc code (at_place at k f p) (at_place (at + 1 + length body) k f p) (on line (Jump (length body))) h.0 (λ next. refl)) (λ j lt. refl) (omega arith) o r

      abbrev StatementDoes : Statement → ℕ → Type 0
      StatementDoes x line =
          (ls : List Datum) (p : P) (at k : ℕ) (f : Store) → HasAt code at (statement_code ks a hd line x top) → T x → length ls ≡ top → Here ls p → k ≤ n → Holds ks.locals f base ls → Does acc code alt w ret (at_place at k f p) (length (statement_code ks a hd line x top)) (LocalsAt ks base top) (exec parts line ls p x k)

      for_does : (l : ℕ) (site : LoopId) (part : FirstPart) (first : Statement) (c : Expression) (next b : Statement) (line : ℕ) (ls : List Datum) (p : P) (at k : ℕ) (f : Store) → HasAt code at (statement_code ks a hd line (for_loop l site part first c next b) top) → T (for_loop l site part first c next b) → length ls ≡ top → Here ls p → k ≤ n → Holds ks.locals f base ls → StatementDoes first line → StatementDoes b (line_of b) → StatementDoes next line → Does acc code alt w ret (at_place at k f p) (length (statement_code ks a hd line (for_loop l site part first c next b) top)) (LocalsAt ks base top) (exec parts line ls p (for_loop l site part first c next b) k)
      for_does l site part first c next b line ls p at k f h fits len good left holds first_does b_does next_does = by (hd line (for_loop l site part first c next b) top) refl h
        where
          t : T first × (kind_of ks c ≡ as_truth) × E c × T next × T b
          t = run.parts_of (for_loop l site part first c next b) fits

          loop : Statement
          loop = for_loop l site part first c next b

          cf : List Placed
          cf = statement_code ks a hd line first top

          cb : List Placed
          cb = statement_code ks a hd (line_of b) b top

          cn : List Placed
          cn = statement_code ks a hd line next top

          turns : List Datum → P → ℕ → Flow P
          turns = turn_of parts c (λ ls s k. and_on (exec parts (line_of b) ls s b k) (λ ls s k. exec parts line ls s next k)) loop line

          plain : Flow P
          plain = and_on (exec parts line ls p first k) turns

          all : List Placed
          all = cf ++ (on line (Jump (length (cb ++ cn))) ∷ loop_code ks line c (cb ++ cn) top)

          z : ℕ
          z = at + length cf

          plainly : HasAt code at all → Does acc code alt w ret (at_place at k f p) (length all) (LocalsAt ks base top) plain
          plainly h =
              and_does acc code alt w ret (at_place at k f p) cf (on line (Jump (length (cb ++ cn))) ∷ loop_code ks line c (cb ++ cn) top) (LocalsAt ks base top) (LocalsAt ks base top) Here turns h (exec parts line ls p first k) (run.leaves first t.0 line ls p k good)
              (λ h. first_does ls p at k f h t.0 len good left holds)
              (λ ls p j g h good q below le.
              enters line (cb ++ cn) (tail_code ks line c (cb ++ cn) top) z j g p (turns ls p j) h
              (turn_does line c (cb ++ cn) (λ ls s k. and_on (exec parts (line_of b) ls s b k) (λ ls s k. exec parts line ls s next k)) loop (z + 1) ls p j g h.1 (t.1, t.2) q.1 good (omega (arith, le, left)) q.0
              (λ ls p k f len good left holds.
              and_does acc code alt w ret (at_place (z + 1) k f p) cb cn (LocalsAt ks base top) (LocalsAt ks base top) Here (λ ls s k. exec parts line ls s next k) (has_front code (z + 1) (cb ++ cn) (tail_code ks line c (cb ++ cn) top) h.1) (exec parts (line_of b) ls p b k) (run.leaves b t.4 (line_of b) ls p k good)
              (λ h. b_does ls p (z + 1) k f h t.4 len good left holds)
              (λ ls p j g h good q below le. next_does ls p (z + 1 + length cb) j g h t.3 q.1 good (omega (arith, le, left)) q.0))
              (λ ls p k good. and_sound (exec parts (line_of b) ls p b k) (λ ls s k. exec parts line ls s next k) (run.leaves b t.4 (line_of b) ls p k good) (λ ls p k good. run.leaves next t.3 line ls p k good))
              (λ ls p k f len good lt holds. run.agains loop line ls p (z + 1) k f tt h.1 fits len good lt holds)))

          by : (o : Option (List Placed)) → hd line loop top ≡ o → HasAt code at (unless_handed o all) → Does acc code alt w ret (at_place at k f p) (length (unless_handed o all)) (LocalsAt ks base top) (parts.begin line ls p loop k plain)
          by (Some cx) e h = run.handed line ls p loop at k f plain cx e h fits len good left holds
          by None e h = subst (λ o. Does acc code alt w ret (at_place at k f p) (length all) (LocalsAt ks base top) o) (sym (run.begins line ls p loop k plain e)) (plainly h)

      mutual
        pub statement_does : (x : Statement) (line : ℕ) (ls : List Datum) (p : P) (at k : ℕ) (f : Store) → HasAt code at (statement_code ks a hd line x top) → T x → length ls ≡ top → Here ls p → k ≤ n → Holds ks.locals f base ls → Does acc code alt w ret (at_place at k f p) (length (statement_code ks a hd line x top)) (LocalsAt ks base top) (exec parts line ls p x k)
        statement_does (block l ss) line ls p at k f h fits len good left holds = statements_do ss ls p at k f h (run.parts_of (block l ss) fits) len good left holds
        statement_does (put_local z l op e) line ls p at k f h fits len good left holds =
            let t = run.parts_of (put_local z l op e) fits in
            puts op line l.0 e ls p at k f h (t.0, t.1, t.2, λ v j is. run.keeps z l op e fits line ls p k j v good is) len good left holds
        statement_does (if_else l c x y) line ls p at k f h fits len good left holds =
            let t = run.parts_of (if_else l c x y) fits in
            let cc = operand_code ks line c top in
            let cx = statement_code ks a hd (line_of x) x top in
            let cy = statement_code ks a hd (line_of y) y top in
            with_does acc code alt w ret (at_place at k f p) p cc (on line (Unless (stands c top) (length cx + 1)) ∷ (cx ++ (on line (Jump (length cy)) ∷ cy))) (Stood base f (stands c top) top (kind_of ks c)) (LocalsAt ks base top) (λ v k. choose v (exec parts (line_of x) ls p x k) (exec parts (line_of y) ls p y k)) refl h (parts.value line ls p c k)
            (λ h. run.operands c t.1 line ls p at k f h len good left holds)
            (λ v j g z h q below le.
            branches line c cx cy (exec parts (line_of x) ls p x j) (exec parts (line_of y) ls p y j) v (at + length cc) j g p h (ap (λ y. read_as y (g (base + stands c top))) (sym t.0) ∙ q.0)
            (λ h. statement_does x (line_of x) ls p (at + length cc + 1) j g h t.2 len good (omega (arith, le, left)) (λ i lt. ap (read_as (ks.locals i)) (q.1 i (omega (arith, lt, len))) ∙ holds i lt))
            (λ h. statement_does y (line_of y) ls p (at + length cc + 1 + (length cx + 1)) j g h t.3 len good (omega (arith, le, left)) (λ i lt. ap (read_as (ks.locals i)) (q.1 i (omega (arith, lt, len))) ∙ holds i lt)))
        statement_does (while_loop l c b) line ls p at k f h fits len good left holds =
            let t = run.parts_of (while_loop l c b) fits in
            let cb = statement_code ks a hd (line_of b) b top in
            enters line cb (tail_code ks line c cb top) at k f p (exec parts line ls p (while_loop l c b) k) h
            (turn_does line c cb (λ ls p k. exec parts (line_of b) ls p b k) (while_loop l c b) (at + 1) ls p k f h.1 (t.0, t.1) len good left holds
            (λ ls p k f len good left holds. statement_does b (line_of b) ls p (at + 1) k f (has_front code (at + 1) cb (tail_code ks line c cb top) h.1) t.2 len good left holds)
            (λ ls p k good. run.leaves b t.2 (line_of b) ls p k good)
            (λ ls p k f len good lt holds. run.agains (while_loop l c b) line ls p (at + 1) k f tt h.1 fits len good lt holds))
        statement_does (for_loop l site part first c next b) line ls p at k f h fits len good left holds =
            for_does l site part first c next b line ls p at k f h fits len good left holds (λ ls p at k f h fits len good left holds. statement_does first line ls p at k f h fits len good left holds) (λ ls p at k f h fits len good left holds. statement_does b (line_of b) ls p at k f h fits len good left holds) (λ ls p at k f h fits len good left holds. statement_does next line ls p at k f h fits len good left holds)
        statement_does (return_value l e) line ls p at k f h fits len good left holds =
            let t = run.parts_of (return_value l e) fits in
            let ce = operand_code ks line e top in
            with_does acc code alt w ret (at_place at k f p) p ce (on line (Return (stands e top)) ∷ []) (Stood base f (stands e top) top (kind_of ks e)) (LocalsAt ks base top) (λ v k. gives_back v p k) refl h (parts.value line ls p e k)
            (λ h. run.operands e t.1 line ls p at k f h len good left holds)
            (λ v j g z h q below le. inr (g, at + length ce, stands e top, line, stays acc code (at_place (at + length ce) j g p), h.0, ap (λ y. read_as y (g (base + stands e top))) (sym t.0) ∙ q.0, (λ j lt. refl), omega arith))
        statement_does (invoke l e op es) line ls p at k f h fits len good left holds = run.acting (invoke l e op es) line ls p at k f tt h fits len good left holds
        statement_does (put_field l x op e) line ls p at k f h fits len good left holds = run.acting (put_field l x op e) line ls p at k f tt h fits len good left holds
        statement_does (put_item l x i op e) line ls p at k f h fits len good left holds = run.acting (put_item l x i op e) line ls p at k f tt h fits len good left holds
        statement_does (new_local l x c) line ls p at k f h fits len good left holds = run.acting (new_local l x c) line ls p at k f tt h fits len good left holds
        statement_does (new_field l x c) line ls p at k f h fits len good left holds = run.acting (new_field l x c) line ls p at k f tt h fits len good left holds
        statement_does (new_item l x i c) line ls p at k f h fits len good left holds = run.acting (new_item l x i c) line ls p at k f tt h fits len good left holds
        statement_does (print_value l e) line ls p at k f h fits len good left holds = run.acting (print_value l e) line ls p at k f tt h fits len good left holds

        pub statements_do : (xs : Statements) (ls : List Datum) (p : P) (at k : ℕ) (f : Store) → HasAt code at (statements_code ks a hd xs top) → Ts xs → length ls ≡ top → Here ls p → k ≤ n → Holds ks.locals f base ls → Does acc code alt w ret (at_place at k f p) (length (statements_code ks a hd xs top)) (LocalsAt ks base top) (exec_all parts ls p xs k)
        statements_do no_statements ls p at k f h fits len good left holds = inr (f, rests acc code (at_place at k f p), (holds, len), (λ j lt. refl), omega arith)
        statements_do (statement_and x rest) ls p at k f h fits len good left holds =
            let t = run.more x rest fits in
            and_does acc code alt w ret (at_place at k f p) (statement_code ks a hd (line_of x) x top) (statements_code ks a hd rest top) (LocalsAt ks base top) (LocalsAt ks base top) Here (λ ls s k. exec_all parts ls s rest k) h (exec parts (line_of x) ls p x k) (run.leaves x t.0 (line_of x) ls p k good)
            (λ h. statement_does x (line_of x) ls p at k f h t.0 len good left holds)
            (λ ls p j g h good q below le. statements_do rest ls p (at + length (statement_code ks a hd (line_of x) x top)) j g h t.1 q.1 good (omega (arith, le, left)) q.0)

      -- a loop that comes again
      pub loop_does : (x : Statement) (line : ℕ) (ls : List Datum) (p : P) (at k : ℕ) (f : Store) → IsLoop x → HasAt code at (body_of_loop ks a hd line x top ++ tail_of_loop ks a hd line x top) → T x → length ls ≡ top → Here ls p → k ≤ n → Holds ks.locals f base ls → Does acc code alt w ret (at_place (at + length (body_of_loop ks a hd line x top)) k f p) (length (tail_of_loop ks a hd line x top)) (LocalsAt ks base top) (turn parts line ls p x k)
      loop_does (while_loop l c b) line ls p at k f is h fits len good left holds =
          let t = run.parts_of (while_loop l c b) fits in
          let cb = statement_code ks a hd (line_of b) b top in
          turn_does line c cb (λ ls p k. exec parts (line_of b) ls p b k) (while_loop l c b) at ls p k f h (t.0, t.1) len good left holds
          (λ ls p k f len good left holds. statement_does b (line_of b) ls p at k f (has_front code at cb (tail_code ks line c cb top) h) t.2 len good left holds)
          (λ ls p k good. run.leaves b t.2 (line_of b) ls p k good)
          (λ ls p k f len good lt holds. run.agains (while_loop l c b) line ls p at k f tt h fits len good lt holds)
      loop_does (for_loop l site part first c next b) line ls p at k f is h fits len good left holds =
          let t = run.parts_of (for_loop l site part first c next b) fits in
          let cb = statement_code ks a hd (line_of b) b top in
          let cn = statement_code ks a hd line next top in
          turn_does line c (cb ++ cn) (λ ls s k. and_on (exec parts (line_of b) ls s b k) (λ ls s k. exec parts line ls s next k)) (for_loop l site part first c next b) at ls p k f h (t.1, t.2) len good left holds
          (λ ls p k f len good left holds.
          and_does acc code alt w ret (at_place at k f p) cb cn (LocalsAt ks base top) (LocalsAt ks base top) Here (λ ls s k. exec parts line ls s next k) (has_front code at (cb ++ cn) (tail_code ks line c (cb ++ cn) top) h) (exec parts (line_of b) ls p b k) (run.leaves b t.4 (line_of b) ls p k good)
          (λ h. statement_does b (line_of b) ls p at k f h t.4 len good left holds)
          (λ ls p j g h good q below le. statement_does next line ls p (at + length cb) j g h t.3 q.1 good (omega (arith, le, left)) q.0))
          (λ ls p k good. and_sound (exec parts (line_of b) ls p b k) (λ ls s k. exec parts line ls s next k) (run.leaves b t.4 (line_of b) ls p k good) (λ ls p k good. run.leaves next t.3 line ls p k good))
          (λ ls p k f len good lt holds. run.agains (for_loop l site part first c next b) line ls p at k f tt h fits len good lt holds)
      loop_does other line ls p at k f is h fits len good left holds = absurd is
