-- Calls of value methods do what they mean: no bound on their nesting is left.
use Rattle.std.proofs.Common.{◌≡◌, ℕ, zero, suc, ◌+◌, ◌<◌, ◌≤◌, List, [], ◌∷◌, ◌++◌, length, Option, Some, None, refl, sym, ap, ◌∙◌, subst, ⊎_elim, arith, length-append, append_assoc, map, drop}
use Rattle.std.specs.Prelude.{true, cond, slice_get, ℤ, pos}
use Rattle.std.proofs.lemmas.Bool.{cases_lt}
use Rattle.std.proofs.lemmas.Option.{none-some}
use Rattle.ca_program.specs.Plain.{Statement, invoke, PlainMethod, PlainProgram}
use Rattle.ca_program.specs.declared.program.ValueType.{ValueType}
use Rattle.ca_program.specs.declared.program.ValueType.TheVariants.{Long as LongType, Bool as BoolType, Pointer}
use Rattle.ca_model.specs.declared.value.Value.{Value as Datum}
use Rattle.ca_model.specs.declared.value.Value.TheVariants.{Ref}
use Rattle.ca_model.specs.Slots.{start_of}
use Rattle.ca_model.specs.Typed.{IsOfClass, TypedHeap}
use Rattle.ca_meaning.specs.WellTyped.{ValuesTyped, parameters_of, CallTyped}
use Rattle.ca_meaning.specs.ProgramTyped.{Scope, StatementTyped, scope_of, ProgramTyped}
use Rattle.ca_meaning_laws.specs.Typed.{IsReceiver, PlaceTyped, frozen_heap}
use Rattle.ca_meaning_laws.proofs.Values.{frame_typed}
use Rattle.ca_meaning_laws.proofs.Statements.{Returned as GivesBack, all_returned}
use Rattle.ca_meaning_laws.proofs.FunctionTypes.{nothing, FunctionsTyped, serial_place, function_parts_typed, functions_typed, calls_typed}
use Rattle.ca_meaning.specs.Expressions.{Out, gives, traps, over, value_at, eval}
use Rattle.ca_meaning.specs.Flows.{Flow, goes_on, gives_back, stops, runs_out, exec_all}
use Rattle.ca_meaning.specs.Functions.{own_of, body_of, locals_of, value_of_body, function_parts, functions_of}
use Rattle.ca_meaning.proofs.Fix.{call_runs, again_runs}
use Rattle.ca_code_laws.specs.Words.{read_as}
use Rattle.ca_program.specs.Kinds.{Kind, kind_type, kind_at, param_kind, result_kind, kinds_in, kind_of}
use Rattle.ca_program.specs.Instructions.{Return, Code, Placed, on, IsAt, HasAt, StandsAt, Constant, Lack}
use Rattle.ca_program.specs.Layout.{stands, expression_code, operand_code, no_acts, no_hands, statements_code, starts_code, others_of, width_of, function_code, FunctionsLaidOut, kinds_of}
use Rattle.ca_code_laws.specs.Machine.{Store, store, Back, Accesses, State, Trapped, Spent, moved, returning, Comes, Ends}
use Rattle.ca_code_laws.specs.Told.{Below, Holds, Returned}
use Rattle.ca_code_laws.proofs.Steps.{stored_here, stored_there, has_front, has_back, joins, joins_end, steps, rests, Reaches, Flows, length_mapped}
use Rattle.ca_code_laws.proofs.Values.{CallsRun, expression_runs, operand_runs}
use Rattle.ca_code_laws.proofs.Evaluated.{Valued, Stood}
use Rattle.ca_code_laws.proofs.Typed.{width_is, arguments_counted}
use Rattle.ca_code_laws.proofs.Quiet.{each_may, all_may}
use Rattle.ca_code_laws.proofs.Statements.{PartsRun, statements_run, loop_runs}
use Rattle.ca_code_laws.proofs.Executed.{LocalsAt, body_of_loop, tail_of_loop, IsLoop, acted}

append_nil : (xs : List Datum) → xs ++ [] ≡ xs
append_nil [] = refl
append_nil (x ∷ xs) = ap (λ l. x ∷ l) (append_nil xs)

at_front : (xs ys : List Datum) (i : ℕ) → i < length xs → value_at (xs ++ ys) i ≡ value_at xs i
at_front [] ys i lt = absurd (omega (arith, lt))
at_front (x ∷ xs) ys zero lt = refl
at_front (x ∷ xs) ys (suc i) lt = at_front xs ys i (omega (arith, lt))

at_last : (xs : List Datum) (v : Datum) → value_at (xs ++ v ∷ []) (length xs) ≡ v
at_last [] v = refl
at_last (x ∷ xs) v = at_last xs v

-- what stands behind others
dropped : (n : ℕ) (tys : List ValueType) (i : ℕ) → slice_get (drop n tys) i ≡ slice_get tys (n + i)
dropped zero [] i = refl
dropped zero (ty ∷ tys) i = let e : i ≡ 0 + i = omega arith in ap (slice_get (ty ∷ tys)) e
dropped (suc n) [] i = refl
dropped (suc n) (ty ∷ tys) i = let e : suc (n + i) ≡ suc n + i = omega arith in dropped n tys i ∙ ap (slice_get (ty ∷ tys)) e

pub other_kinds : (p : PlainProgram) (m : PlainMethod) (i : ℕ) → (kinds_of p m).locals (m.params + i) ≡ kind_at (slice_get (others_of m) i)
other_kinds p m i = ap kind_at (sym (dropped m.params m.body.locals i))

-- one more local
one_more : (κs : ℕ → Kind) (base first : ℕ) (f : Store) (vs : List Datum) (x : ℤ) (v : Datum) → length vs ≡ first → read_as (κs first) x ≡ v → Holds κs f base vs → Holds κs (store f (base + first) x) base (vs ++ v ∷ [])
one_more κs base first f vs x v len is holds i lt =
    ⊎_elim
    (λ within. ap (read_as (κs i)) (stored_there f (base + first) (base + i) x (λ e. absurd (omega (arith, within, e, len)))) ∙ holds i within ∙ sym (at_front vs (v ∷ []) i within))
    (λ past.
    let e : i ≡ length vs = omega (arith, lt, past, length-append vs (v ∷ [])) in
    ap (read_as (κs i)) (stored_here f (base + first) (base + i) x (ap (λ y. base + y) (e ∙ len))) ∙ ap (λ y. read_as (κs y) x) (e ∙ len) ∙ is ∙ sym (ap (λ y. value_at (vs ++ v ∷ []) y) e ∙ at_last vs v))
    (cases_lt i (length vs))

-- each local begins with 0
zero_read : (ty : ValueType) → read_as (kind_type ty) (pos 0) ≡ start_of ty
zero_read LongType = refl
zero_read BoolType = refl
zero_read (Pointer c) = refl

module _ {S : Type 0} (acc : Accesses S) (code : Code) where
  -- the locals that are no parameters
  pub begun : (κs : ℕ → Kind) (first : ℕ) (others : List ValueType) (s : State S) (vs : List Datum) → length vs ≡ first → ((i : ℕ) → κs (first + i) ≡ kind_at (slice_get others i)) → HasAt code s.at (starts_code first others) → Holds κs s.slots s.base vs → (g : Store) × Comes acc code s (moved s (s.at + length (starts_code first others)) s.left g s.world) × Holds κs g s.base (vs ++ map start_of others) × Below s.base s.slots g
  begun κs first [] s vs len kinds h holds = (s.slots, rests acc code s, subst (λ ls. Holds κs s.slots s.base ls) (sym (append_nil vs)) holds, λ j lt. refl)
  begun κs first (ty ∷ others) s vs len kinds h holds =
      let v = start_of ty in
      let f1 = store s.slots (s.base + first) (pos 0) in
      let s1 = moved s (s.at + 1) s.left f1 s.world in
      let z : first ≡ first + 0 = omega arith in
      let is : read_as (κs first) (pos 0) ≡ v = ap (λ κ. read_as κ (pos 0)) (ap κs z ∙ kinds 0) ∙ zero_read ty in
      let longer : length (vs ++ v ∷ []) ≡ first + 1 = omega (arith, length-append vs (v ∷ []), len) in
      let rest = begun κs (first + 1) others s1 (vs ++ v ∷ []) longer (λ i. let y : first + 1 + i ≡ first + suc i = omega arith in ap κs y ∙ kinds (suc i)) h.1 (one_more κs s.base first s.slots vs (pos 0) v len is holds) in
      let e : s.at + 1 + length (starts_code (first + 1) others) ≡ s.at + length (starts_code first (ty ∷ others)) = omega arith in
      (rest.0, joins acc code (steps acc code s s1 (on 0 (Constant first (pos 0))) h.0 (λ next. refl)) (subst (λ q. Comes acc code s1 (moved s q s.left rest.0 s.world)) e rest.1), subst (λ ls. Holds κs rest.0 s.base ls) (append_assoc vs (v ∷ []) (map start_of others)) rest.2, λ j lt. rest.3 j lt ∙ stored_there s.slots (s.base + first) j (pos 0) (λ e. absurd (omega (arith, lt, e))))

module _ {S : Type 0} (acc : Accesses S) (code : Code) where
  -- what comes to a return returns
  pub returned_here : (κ : Kind) (s t : State S) (b : Back) (bs : List Back) (o : Out Datum) → Comes acc code s t → s.base ≡ t.base → s.world ≡ t.world → Below s.base s.slots t.slots → t.left ≤ s.left → Returned acc code κ t b bs o → Returned acc code κ s b bs o
  returned_here κ s t b bs (gives v k) c same world below le r =
      (r.0, r.1, subst (λ x. Comes acc code s (record { at = b.at; base = b.base; left = k; this = b.this; below = bs; slots = store r.0 (b.base + b.to) r.1; world = x })) (sym world) (joins acc code c r.2), (λ j lt. r.3 j (subst (λ x. j < x) same lt) ∙ below j lt), omega (arith, le, r.4), r.5)
  returned_here κ s t b bs (traps x) c same world below le r = subst (λ y. Ends acc code s (Trapped x y)) (sym world) (joins_end acc code c r)
  returned_here κ s t b bs over c same world below le r = subst (λ y. Ends acc code s (Spent y)) (sym world) (joins_end acc code c r)

  -- a value is given back to the body below
  pub returns_here : (κ : Kind) (s : State S) (b : Back) (bs : List Back) (a line : ℕ) (v : Datum) → b.wants ≡ true → s.below ≡ b ∷ bs → IsAt code s.at (on line (Return a)) → read_as κ (s.slots (s.base + a)) ≡ v → Returned acc code κ s b bs (gives v s.left)
  returns_here κ s b bs a line v wants below h is =
      let x = s.slots (s.base + a) in
      (s.slots, x, steps acc code s (record { at = b.at; base = b.base; left = s.left; this = b.this; below = bs; slots = store s.slots (b.base + b.to) x; world = s.world }) (on line (Return a)) h (λ next. ap (λ y. returning y s next x) below ∙ ap (λ y. cond y (next (record { at = b.at; base = b.base; left = s.left; this = b.this; below = bs; slots = store s.slots (b.base + b.to) x; world = s.world })) (Spent s.world)) wants), (λ j lt. refl), omega arith, is)

module _ {S : Type 0} (acc : Accesses S) (code : Code) (p : PlainProgram) (typed : ProgramTyped p) (laid : FunctionsLaidOut p code) (inner : (b : Back) (bs : List Back) (w : S) (me : Datum) → acc.own (b ∷ bs) w me ≡ own_of (acc.heap w) me) (w : S) (typed_heap : TypedHeap p (acc.heap w)) where
  -- loops of value methods that come again with fewer than n steps left run as they mean
  abbrev AgainsRun : ℕ → Type 0
  AgainsRun n =
      (s : Scope) (me : Datum) (b : Back) (bs : List Back) (base top : ℕ) → length s.locals ≡ top → IsReceiver (acc.heap w) s.class me → (x : Statement) (line : ℕ) (ls : List Datum) (u : Unit {0}) (at k : ℕ) (f : Store) → IsLoop x → HasAt code at (body_of_loop (kinds_in p s.locals) no_acts no_hands line x top ++ tail_of_loop (kinds_in p s.locals) no_acts no_hands line x top) → StatementTyped p s x → length ls ≡ top → ValuesTyped (acc.heap w) ls s.locals → k < n → Holds (kinds_in p s.locals).locals f base ls → Flows acc code (λ (u : Unit {0}). w) (kind_at s.result) (record { at = at + length (body_of_loop (kinds_in p s.locals) no_acts no_hands line x top); base = base; left = k; this = me; below = b ∷ bs; slots = f; world = w }) (length (tail_of_loop (kinds_in p s.locals) no_acts no_hands line x top)) (LocalsAt (kinds_in p s.locals) base top) ((functions_of p.functions (acc.heap w)).again me line ls u x k)

  acts_nothing : (me : Datum) (line : ℕ) (ls : List Datum) (u : Unit {0}) (x : Statement) (k : ℕ) → acted (function_parts (functions_of p.functions (acc.heap w)) (acc.heap w) me) line ls u x k ≡ goes_on ls u k
  acts_nothing me line ls u (invoke l e op es) k = refl
  acts_nothing me line ls u other k = refl

  all_typed : FunctionsTyped p (acc.heap w) (functions_of p.functions (acc.heap w))
  all_typed = record {
    calls = calls_typed p typed (acc.heap w) typed_heap;
    agains = λ s r line ls x k e v t. (functions_typed p typed (acc.heap w) typed_heap (suc k)).agains s r line ls x k e v t;
  }

  parts_run : (n : ℕ) → CallsRun acc code p laid w (functions_of p.functions (acc.heap w)).call n → AgainsRun n → (s : Scope) (me : Datum) (b : Back) (bs : List Back) (base top : ℕ) → length s.locals ≡ top → IsReceiver (acc.heap w) s.class me → PartsRun acc code p true (λ (u : Unit {0}). w) no_acts no_hands (function_parts (functions_of p.functions (acc.heap w)) (acc.heap w) me) s (frozen_heap (acc.heap w)) nothing me (b ∷ bs) base n top
  parts_run n calls agains s me b bs base top wide receiver = record {
    types = function_parts_typed p (acc.heap w) (functions_of p.functions (acc.heap w)) all_typed typed_heap s me receiver;
    wide = wide;
    values = λ e ty t line to ls u at k f h len good le left holds.
        subst (λ o. Reaches acc code (there at k f) (length (expression_code (kinds_in p s.locals) line e to top)) (Valued base f to top (kind_of (kinds_in p s.locals) e)) (eval (functions_of p.functions (acc.heap w)).call (record { heap = acc.heap w; this = me; own = o; locals = ls; line = line }) e k)) (inner b bs w me)
        (expression_runs acc code p laid s (there at k f) (functions_of p.functions (acc.heap w)).call n calls (calls_typed p typed (acc.heap w) typed_heap) e ty t line to top ls (stands_typed line ls good.1) at k f h (omega (arith, len)) le left holds);
    operands = λ e ty t line ls u at k f h len good left holds.
        subst (λ o. Reaches acc code (there at k f) (length (operand_code (kinds_in p s.locals) line e top)) (Stood base f (stands e top) top (kind_of (kinds_in p s.locals) e)) (eval (functions_of p.functions (acc.heap w)).call (record { heap = acc.heap w; this = me; own = o; locals = ls; line = line }) e k)) (inner b bs w me)
        (operand_runs acc code p laid s (there at k f) (functions_of p.functions (acc.heap w)).call n calls (calls_typed p typed (acc.heap w) typed_heap) e ty t line top ls (stands_typed line ls good.1) at k f h (omega (arith, len)) left holds);
    acts = λ x line ls u at k f is h fits len good left holds.
        subst (λ o. Flows acc code (λ (u : Unit {0}). w) (kind_at s.result) (there at k f) 0 (LocalsAt (kinds_in p s.locals) base top) o) (sym (acts_nothing me line ls u x k))
        (f, rests acc code (there at k f), (holds, len), (λ j lt. refl), omega arith);
    agains = λ x line ls u at k f is h fits len good lt holds. agains s me b bs base top wide receiver x line ls u at k f is h fits.0 len good.1 lt holds;
    begins = λ line ls u x k plain e. refl;
    handed = λ line ls u x at k f plain cx e h fits len good left holds. absurd (none-some _ e);
  }
    where
      there : ℕ → ℕ → Store → State S
      there at k f = record { at = at; base = base; left = k; this = me; below = b ∷ bs; slots = f; world = w }

      stands_typed : (line : ℕ) (ls : List Datum) → ValuesTyped (acc.heap w) ls s.locals → PlaceTyped p s (record { heap = acc.heap w; this = me; own = acc.own (b ∷ bs) w me; locals = ls; line = line })
      stands_typed line ls v = subst (λ o. PlaceTyped p s (record { heap = acc.heap w; this = me; own = o; locals = ls; line = line })) (sym (inner b bs w me)) (serial_place p (acc.heap w) s me line ls typed_heap receiver v)

  agains_too : (n : ℕ) → CallsRun acc code p laid w (functions_of p.functions (acc.heap w)).call n → AgainsRun n → AgainsRun (suc n)
  agains_too n calls agains s me b bs base top wide receiver x line ls u at k f is h t len v lt holds =
      subst (λ o. Flows acc code (λ (u : Unit {0}). w) (kind_at s.result) (record { at = at + length (body_of_loop (kinds_in p s.locals) no_acts no_hands line x top); base = base; left = k; this = me; below = b ∷ bs; slots = f; world = w }) (length (tail_of_loop (kinds_in p s.locals) no_acts no_hands line x top)) (LocalsAt (kinds_in p s.locals) base top) o) (sym (again_runs p.functions (acc.heap w) me line ls x k))
      (loop_runs acc code p true (λ (u : Unit {0}). w) no_acts no_hands (function_parts (functions_of p.functions (acc.heap w)) (acc.heap w) me) s (frozen_heap (acc.heap w)) nothing me (b ∷ bs) base n top (parts_run n calls agains s me b bs base top wide receiver) x line ls tt at k f is h (t, each_may x) len (tt, v) (omega (arith, lt)) holds)

  -- a body, from its beginning to what it gives: it never comes to its end
  body_runs : (n : ℕ) → CallsRun acc code p laid w (functions_of p.functions (acc.heap w)).call n → AgainsRun n → (m : PlainMethod) (i : ℕ) → slice_get p.functions i ≡ Some m → (r : ℕ) (vs : List Datum) (at base k : ℕ) (b : Back) (bs : List Back) (f : Store) → b.wants ≡ true → k ≤ n → HasAt code at (function_code p m) → IsOfClass (slice_get (acc.heap w) r) m.class → ValuesTyped (acc.heap w) vs (parameters_of m) → Holds (kinds_of p m).locals f base vs → Returned acc code (kind_at m.result) (record { at = at; base = base; left = k; this = Ref r; below = b ∷ bs; slots = f; world = w }) b bs (value_of_body (exec_all (function_parts (functions_of p.functions (acc.heap w)) (acc.heap w) (Ref r)) (vs ++ map start_of (others_of m)) tt m.body.statements k))
  body_runs n calls agains m i found r vs at base k b bs f wants left h of_class arguments holds =
      let mt = typed.functions i m found in
      let parts = function_parts (functions_of p.functions (acc.heap w)) (acc.heap w) (Ref r) in
      let params : m.params ≡ length vs = arguments_counted (acc.heap w) m vs mt.method.parameters arguments in
      let first = starts_code m.params (others_of m) in
      let body = statements_code (kinds_of p m) no_acts no_hands m.body.statements (width_of m) in
      let rest = on 0 Lack ∷ [] in
      let g = begun acc code (kinds_of p m).locals m.params (others_of m) (there at k f) vs (sym params) (other_kinds p m) (has_front code at first (body ++ rest) h) holds in
      let ls = vs ++ map start_of (others_of m) in
      let len : length ls ≡ width_of m = omega (arith, length-append vs (map start_of (others_of m)), length_mapped start_of (others_of m), params) in
      let hb = has_back code at first (body ++ rest) h in
      let frame : ValuesTyped (acc.heap w) ls m.body.locals = frame_typed (acc.heap w) vs m.params m.body.locals arguments in
      let flows = statements_run acc code p true (λ (u : Unit {0}). w) no_acts no_hands parts (scope_of m) (frozen_heap (acc.heap w)) nothing (Ref r) (b ∷ bs) base n (width_of m) (parts_run n calls agains (scope_of m) (Ref r) b bs base (width_of m) (sym (width_is m mt.method.parameters)) of_class) m.body.statements ls tt (at + length first) k g.0 (has_front code (at + length first) body rest hb) (mt.method.body, all_may m.body.statements) len (tt, frame) left g.2 in
      returned_here acc code (kind_at m.result) (there at k f) (there (at + length first) k g.0) b bs (value_of_body (exec_all parts ls tt m.body.statements k)) g.1 refl refl g.3 (omega arith)
      (ends (at + length first) k g.0 (length body) (exec_all parts ls tt m.body.statements k) (all_returned parts m.body.statements mt.returns ls tt k) flows)
    where
      there : ℕ → ℕ → Store → State S
      there at k f = record { at = at; base = base; left = k; this = Ref r; below = b ∷ bs; slots = f; world = w }

      ends : (at k : ℕ) (f : Store) (l : ℕ) (o : Flow (Unit {0})) → GivesBack o → Flows acc code (λ (u : Unit {0}). w) (kind_at m.result) (there at k f) l (LocalsAt (kinds_of p m) base (width_of m)) o → Returned acc code (kind_at m.result) (there at k f) b bs (value_of_body o)
      ends at k f l (goes_on ls u j) gives_one t = absurd gives_one
      ends at k f l (gives_back v u j) gives_one t =
          returned_here acc code (kind_at m.result) (there at k f) (there t.1 j t.0) b bs (gives v j) t.4 refl refl t.7 t.8 (returns_here acc code (kind_at m.result) (there t.1 j t.0) b bs t.2 t.3 v wants refl t.5 t.6)
      ends at k f l (stops x u) gives_one t = t
      ends at k f l (runs_out u) gives_one t = t

  calls_too : (n : ℕ) → CallsRun acc code p laid w (functions_of p.functions (acc.heap w)).call n → AgainsRun n → CallsRun acc code p laid w (functions_of p.functions (acc.heap w)).call (suc n)
  calls_too n calls agains m r vs at base k b bs f wants lt place call holds =
      subst (λ o. Returned acc code (result_kind (slice_get p.functions m.0)) (record { at = at; base = base; left = k; this = Ref r; below = b ∷ bs; slots = f; world = w }) b bs o) (sym (call_runs p.functions (acc.heap w) m r vs k)) (by (slice_get p.functions m.0) refl call holds)
    where
      at_its_place : (o : Option ℕ) (x : List Placed) → o ≡ Some at → StandsAt code o x → HasAt code at x
      at_its_place o x e h = subst (λ o. StandsAt code o x) e h

      by : (o : Option PlainMethod) → slice_get p.functions m.0 ≡ o → CallTyped (acc.heap w) o r vs → Holds (λ i. param_kind o i) f base vs → Returned acc code (result_kind o) (record { at = at; base = base; left = k; this = Ref r; below = b ∷ bs; slots = f; world = w }) b bs (value_of_body (exec_all (function_parts (functions_of p.functions (acc.heap w)) (acc.heap w) (Ref r)) (locals_of o vs) tt (body_of o) k))
      by None e c holds = absurd c
      by (Some x) e c holds = body_runs n calls agains x m.0 e r vs at base k b bs f wants (omega (arith, lt)) (at_its_place (slice_get code.functions m.0) (function_code p x) place (laid m.0 x e)) c.0 c.1 holds

  both_run : (n : ℕ) → CallsRun acc code p laid w (functions_of p.functions (acc.heap w)).call n × AgainsRun n
  both_run zero = ((λ m r vs at base k b bs f wants lt place call holds. absurd (omega (arith, lt))), (λ s me b bs base top wide receiver x line ls u at k f is h t len v lt holds. absurd (omega (arith, lt))))
  both_run (suc n) = let r = both_run n in (calls_too n r.0 r.1, agains_too n r.0 r.1)

  -- calls of value methods run as they mean, whatever is left
  pub methods_run : (n : ℕ) → CallsRun acc code p laid w (functions_of p.functions (acc.heap w)).call n
  methods_run n = (both_run n).0
