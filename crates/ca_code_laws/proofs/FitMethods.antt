-- Calls of value methods whose bodies fit do what they mean, or the machine wants memory.
use Rattle.std.proofs.Common.{◌≡◌, ℕ, zero, suc, ◌+◌, ◌<◌, ◌≤◌, List, [], ◌∷◌, ◌++◌, length, Option, Some, None, refl, sym, ◌∙◌, subst, arith, length-append, map, ◌⊎◌, inl, inr}
use Rattle.std.specs.Prelude.{true, false, slice_get}
use Rattle.ca_program.specs.Plain.{Statement, invoke, PlainMethod, PlainProgram}
use Rattle.ca_program.specs.declared.program.ValueType.{ValueType}
use Rattle.ca_model.specs.declared.value.Value.{Value as Datum}
use Rattle.ca_model.specs.declared.value.Value.TheVariants.{Ref}
use Rattle.ca_model.specs.Slots.{start_of}
use Rattle.ca_meaning.specs.Expressions.{gives, eval}
use Rattle.ca_meaning.specs.Flows.{Flow, goes_on, gives_back, stops, runs_out, exec_all}
use Rattle.ca_meaning.specs.Functions.{own_of, body_of, locals_of, value_of_body, function_parts, functions_of}
use Rattle.ca_meaning.proofs.Fix.{call_runs, again_runs}
use Rattle.ca_program.specs.Kinds.{Kind, kind_at, param_kind, result_kind, kinds_in, kind_of}
use Rattle.ca_program.specs.Instructions.{Code, Placed, on, IsAt, HasAt, StandsAt, Lack}
use Rattle.ca_program.specs.Layout.{stands, expression_code, operand_code, no_acts, no_hands, statements_code, starts_code, others_of, width_of, function_code, FunctionsLaidOut, kinds_of}
use Rattle.ca_code_laws.specs.Machine.{Store, Back, Accesses, State, Wanting, Ends}
use Rattle.ca_code_laws.specs.Told.{Holds, Returned}
use Rattle.ca_code_laws.specs.Fitting.{Takes, FitsStatement, FunctionsFit}
use Rattle.ca_code_laws.proofs.Steps.{has_front, has_back, joins_end, steps_end, rests, length_mapped}
use Rattle.ca_code_laws.proofs.Evaluated.{Valued, Stood}
use Rattle.ca_code_laws.proofs.Typed.{width_is}
use Rattle.ca_code_laws.proofs.Executed.{LocalsAt, body_of_loop, tail_of_loop, IsLoop, acted}
use Rattle.ca_code_laws.proofs.Methods.{begun, other_kinds, returned_here, returns_here}
use Rattle.ca_code_laws.proofs.Instead.{or_wants, Gets, Does}
use Rattle.ca_code_laws.proofs.FitValues.{CallsFit, expression_fits, operand_fits}
use Rattle.ca_code_laws.proofs.FitStatements.{PartsFit, statements_fit, loop_fits}

module _ {S : Type 0} (acc : Accesses S) (code : Code) (p : PlainProgram) (fit : FunctionsFit p) (laid : FunctionsLaidOut p code) (inner : (b : Back) (bs : List Back) (w : S) (me : Datum) → acc.own (b ∷ bs) w me ≡ own_of (acc.heap w) me) (w : S) where
  -- loops of value methods that come again with fewer than n steps left
  abbrev AgainsFit : ℕ → Type 0
  AgainsFit n =
      (tys : List ValueType) (result : Kind) (me : Datum) (b : Back) (bs : List Back) (base top : ℕ) → length tys ≡ top → (x : Statement) (line : ℕ) (ls : List Datum) (u : Unit {0}) (at k : ℕ) (f : Store) → IsLoop x → HasAt code at (body_of_loop (kinds_in p tys) no_acts no_hands line x top ++ tail_of_loop (kinds_in p tys) no_acts no_hands line x top) → FitsStatement p tys false result x → length ls ≡ top → k < n → Holds (kinds_in p tys).locals f base ls → Does acc code (or_wants acc code) (λ (u : Unit {0}). w) result (record { at = at + length (body_of_loop (kinds_in p tys) no_acts no_hands line x top); base = base; left = k; this = me; below = b ∷ bs; slots = f; world = w }) (length (tail_of_loop (kinds_in p tys) no_acts no_hands line x top)) (LocalsAt (kinds_in p tys) base top) ((functions_of p.functions (acc.heap w)).again me line ls u x k)

  acts_nothing : (me : Datum) (line : ℕ) (ls : List Datum) (u : Unit {0}) (x : Statement) (k : ℕ) → acted (function_parts (functions_of p.functions (acc.heap w)) (acc.heap w) me) line ls u x k ≡ goes_on ls u k
  acts_nothing me line ls u (invoke l e op es) k = refl
  acts_nothing me line ls u other k = refl

  parts_fit : (n : ℕ) → CallsFit acc code p laid w (functions_of p.functions (acc.heap w)).call n → AgainsFit n → (tys : List ValueType) (result : Kind) (me : Datum) (b : Back) (bs : List Back) (base top : ℕ) → length tys ≡ top → PartsFit acc code p (λ (u : Unit {0}). w) no_acts (function_parts (functions_of p.functions (acc.heap w)) (acc.heap w) me) tys false result me (b ∷ bs) base n top
  parts_fit n calls agains tys result me b bs base top wide = record {
    wide = wide;
    values = λ e t line to ls u at k f h len le left holds.
        subst (λ o. Gets acc code (or_wants acc code) (there at k f) (length (expression_code (kinds_in p tys) line e to top)) (Valued base f to top (kind_of (kinds_in p tys) e)) (eval (functions_of p.functions (acc.heap w)).call (record { heap = acc.heap w; this = me; own = o; locals = ls; line = line }) e k)) (inner b bs w me)
        (expression_fits acc code p laid tys (there at k f) (functions_of p.functions (acc.heap w)).call n calls e t line to top ls (len ∙ sym wide) at k f h (omega (arith, wide)) le left holds);
    operands = λ e t line ls u at k f h len left holds.
        subst (λ o. Gets acc code (or_wants acc code) (there at k f) (length (operand_code (kinds_in p tys) line e top)) (Stood base f (stands e top) top (kind_of (kinds_in p tys) e)) (eval (functions_of p.functions (acc.heap w)).call (record { heap = acc.heap w; this = me; own = o; locals = ls; line = line }) e k)) (inner b bs w me)
        (operand_fits acc code p laid tys (there at k f) (functions_of p.functions (acc.heap w)).call n calls e t line top ls (len ∙ sym wide) at k f h (omega (arith, wide)) left holds);
    acting = λ x line ls u at k f is h fits len left holds.
        subst (λ o. Does acc code (or_wants acc code) (λ (u : Unit {0}). w) result (there at k f) 0 (LocalsAt (kinds_in p tys) base top) o) (sym (acts_nothing me line ls u x k))
        (inr (f, rests acc code (there at k f), (holds, len), (λ j lt. refl), omega arith));
    agains = λ x line ls u at k f is h fits len lt holds. agains tys result me b bs base top wide x line ls u at k f is h fits len lt holds;
    begins = λ line ls u x k plain. refl;
  }
    where
      there : ℕ → ℕ → Store → State S
      there at k f = record { at = at; base = base; left = k; this = me; below = b ∷ bs; slots = f; world = w }

  agains_too : (n : ℕ) → CallsFit acc code p laid w (functions_of p.functions (acc.heap w)).call n → AgainsFit n → AgainsFit (suc n)
  agains_too n calls agains tys result me b bs base top wide x line ls u at k f is h t len lt holds =
      subst (λ o. Does acc code (or_wants acc code) (λ (u : Unit {0}). w) result (record { at = at + length (body_of_loop (kinds_in p tys) no_acts no_hands line x top); base = base; left = k; this = me; below = b ∷ bs; slots = f; world = w }) (length (tail_of_loop (kinds_in p tys) no_acts no_hands line x top)) (LocalsAt (kinds_in p tys) base top) o) (sym (again_runs p.functions (acc.heap w) me line ls x k))
      (loop_fits acc code p (λ (u : Unit {0}). w) no_acts (function_parts (functions_of p.functions (acc.heap w)) (acc.heap w) me) tys false result me (b ∷ bs) base n top (parts_fit n calls agains tys result me b bs base top wide) x line ls tt at k f is h t len (omega (arith, lt)) holds)

  -- a body, from its beginning to what it gives
  body_fits : (n : ℕ) → CallsFit acc code p laid w (functions_of p.functions (acc.heap w)).call n → AgainsFit n → (m : PlainMethod) (i : ℕ) → slice_get p.functions i ≡ Some m → (r : ℕ) (vs : List Datum) (at base k : ℕ) (b : Back) (bs : List Back) (f : Store) → b.wants ≡ true → k ≤ n → HasAt code at (function_code p m) → m.params ≡ length vs → Holds (kinds_of p m).locals f base vs → Ends acc code (record { at = at; base = base; left = k; this = Ref r; below = b ∷ bs; slots = f; world = w }) Wanting ⊎ Returned acc code (kind_at m.result) (record { at = at; base = base; left = k; this = Ref r; below = b ∷ bs; slots = f; world = w }) b bs (value_of_body (exec_all (function_parts (functions_of p.functions (acc.heap w)) (acc.heap w) (Ref r)) (vs ++ map start_of (others_of m)) tt m.body.statements k))
  body_fits n calls agains m i found r vs at base k b bs f wants left h params holds =
      let mf = fit.each i m found in
      let parts = function_parts (functions_of p.functions (acc.heap w)) (acc.heap w) (Ref r) in
      let first = starts_code m.params (others_of m) in
      let body = statements_code (kinds_of p m) no_acts no_hands m.body.statements (width_of m) in
      let rest = on 0 Lack ∷ [] in
      let g = begun acc code (kinds_of p m).locals m.params (others_of m) (there at k f) vs (sym params) (other_kinds p m) (has_front code at first (body ++ rest) h) holds in
      let ls = vs ++ map start_of (others_of m) in
      let len : length ls ≡ width_of m = omega (arith, length-append vs (map start_of (others_of m)), length_mapped start_of (others_of m), params) in
      let hb = has_back code at first (body ++ rest) h in
      let flows = statements_fit acc code p (λ (u : Unit {0}). w) no_acts parts m.body.locals false (kind_at m.result) (Ref r) (b ∷ bs) base n (width_of m) (parts_fit n calls agains m.body.locals (kind_at m.result) (Ref r) b bs base (width_of m) (sym (width_is m mf.parameters))) m.body.statements ls tt (at + length first) k g.0 (has_front code (at + length first) body rest hb) mf.body len left g.2 in
      or (returned_here acc code (kind_at m.result) (there at k f) (there (at + length first) k g.0) b bs (value_of_body (exec_all parts ls tt m.body.statements k)) g.1 refl refl g.3 (omega arith))
      (λ e. joins_end acc code g.1 e)
      (ends (at + length first) k g.0 (length body) (exec_all parts ls tt m.body.statements k) (has_back code (at + length first) body rest hb).0 flows)
    where
      there : ℕ → ℕ → Store → State S
      there at k f = record { at = at; base = base; left = k; this = Ref r; below = b ∷ bs; slots = f; world = w }

      or : {A B C D : Type 0} → (B → D) → (A → C) → A ⊎ B → C ⊎ D
      or g f (inl a) = inl (f a)
      or g f (inr b) = inr (g b)

      ends : (at k : ℕ) (f : Store) (l : ℕ) (o : Flow (Unit {0})) → IsAt code (at + l) (on 0 Lack) → Does acc code (or_wants acc code) (λ (u : Unit {0}). w) (kind_at m.result) (there at k f) l (LocalsAt (kinds_of p m) base (width_of m)) o → Ends acc code (there at k f) Wanting ⊎ Returned acc code (kind_at m.result) (there at k f) b bs (value_of_body o)
      ends at k f l o lack (inl t) = inl t
      ends at k f l (goes_on ls u j) lack (inr t) = inl (joins_end acc code t.1 (steps_end acc code (there (at + l) j t.0) Wanting (on 0 Lack) lack (λ next. refl)))
      ends at k f l (gives_back v u j) lack (inr t) =
          inr (returned_here acc code (kind_at m.result) (there at k f) (there t.1 j t.0) b bs (gives v j) t.4 refl refl t.7 t.8 (returns_here acc code (kind_at m.result) (there t.1 j t.0) b bs t.2 t.3 v wants refl t.5 t.6))
      ends at k f l (stops x u) lack (inr t) = inr t
      ends at k f l (runs_out u) lack (inr t) = inr t

  calls_too : (n : ℕ) → CallsFit acc code p laid w (functions_of p.functions (acc.heap w)).call n → AgainsFit n → CallsFit acc code p laid w (functions_of p.functions (acc.heap w)).call (suc n)
  calls_too n calls agains m r vs at base k b bs f wants lt place takes holds =
      subst (λ o. Ends acc code (record { at = at; base = base; left = k; this = Ref r; below = b ∷ bs; slots = f; world = w }) Wanting ⊎ Returned acc code (result_kind (slice_get p.functions m.0)) (record { at = at; base = base; left = k; this = Ref r; below = b ∷ bs; slots = f; world = w }) b bs o) (sym (call_runs p.functions (acc.heap w) m r vs k)) (by (slice_get p.functions m.0) refl takes holds)
    where
      at_its_place : (o : Option ℕ) (x : List Placed) → o ≡ Some at → StandsAt code o x → HasAt code at x
      at_its_place o x e h = subst (λ o. StandsAt code o x) e h

      by : (o : Option PlainMethod) → slice_get p.functions m.0 ≡ o → Takes o (length vs) → Holds (λ i. param_kind o i) f base vs → Ends acc code (record { at = at; base = base; left = k; this = Ref r; below = b ∷ bs; slots = f; world = w }) Wanting ⊎ Returned acc code (result_kind o) (record { at = at; base = base; left = k; this = Ref r; below = b ∷ bs; slots = f; world = w }) b bs (value_of_body (exec_all (function_parts (functions_of p.functions (acc.heap w)) (acc.heap w) (Ref r)) (locals_of o vs) tt (body_of o) k))
      by None e takes holds = absurd takes
      by (Some x) e takes holds = body_fits n calls agains x m.0 e r vs at base k b bs f wants (omega (arith, lt)) (at_its_place (slice_get code.functions m.0) (function_code p x) place (laid m.0 x e)) takes.0 holds

  both_fit : (n : ℕ) → CallsFit acc code p laid w (functions_of p.functions (acc.heap w)).call n × AgainsFit n
  both_fit zero = ((λ m r vs at base k b bs f wants lt place takes holds. absurd (omega (arith, lt))), (λ tys result me b bs base top wide x line ls u at k f is h t len lt holds. absurd (omega (arith, lt))))
  both_fit (suc n) = let r = both_fit n in (calls_too n r.0 r.1, agains_too n r.0 r.1)

  -- calls of value methods run as they mean, or want memory, whatever is left
  pub methods_fit : (n : ℕ) → CallsFit acc code p laid w (functions_of p.functions (acc.heap w)).call n
  methods_fit n = (both_fit n).0
