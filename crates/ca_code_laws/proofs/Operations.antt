-- Calls of operations and whole runs do what they mean.
use Rattle.std.proofs.Common.{◌≡◌, ℕ, zero, suc, ◌+◌, ◌<◌, ◌≤◌, List, [], ◌∷◌, ◌++◌, length, map, Option, Some, None, refl, sym, ap, ◌∙◌, subst, arith, length-append}
use Rattle.std.specs.Prelude.{Bool, true, false, cond, slice_get}
use Rattle.ca_program.specs.declared.program.ClassId.{ClassId}
use Rattle.ca_program.specs.Plain.{PlainProgram, Statement, put_field, put_item, new_local, new_field, new_item, invoke, print_value, PlainMethod}
use Rattle.ca_model.specs.declared.value.Value.{Value as Datum}
use Rattle.ca_model.specs.declared.value.Value.TheVariants.{Long, Bool as Truth, Null, Ref}
use Rattle.ca_model.specs.declared.value.TrapKind.TheVariants.{NullPointer}
use Rattle.ca_model.specs.Slots.{start_of}
use Rattle.ca_model.specs.Heaps.{starts_of, is_full}
use Rattle.ca_meaning.specs.Expressions.{gives, ◌>>=◌, trap_at, pointed, Invocation, invocation}
use Rattle.ca_meaning.specs.Flows.{Flow, goes_on, gives_back, stops, runs_out, with, exec_all}
use Rattle.ca_meaning.specs.Functions.{place, body_of, locals_of, functions_of}
use Rattle.ca_meaning.specs.Serial.{World, fresh, unless_full, came_back, run_call, operations_of, serial_parts, main_run}
use Rattle.ca_meaning.proofs.Fix.{invoke_runs, loop_runs as loop_means}
use Rattle.ca_program.specs.declared.program.ValueType.TheVariants.{Pointer}
use Rattle.ca_model.specs.declared.value.Object.{Object}
use Rattle.ca_model.specs.Typed.{HasType, TypedHeap}
use Rattle.ca_meaning.specs.WellTyped.{ValuesTyped, CallTyped, WellTyped}
use Rattle.ca_meaning.specs.ProgramTyped.{Scope, StatementTyped, scope_of, main_scope, ProgramTyped}
use Rattle.ca_meaning_laws.specs.Typed.{PlaceTyped, WorldTyped, heap_of}
use Rattle.ca_meaning_laws.proofs.Values.{starts_typed, frame_typed}
use Rattle.ca_meaning_laws.proofs.Evals.{CallsTyped}
use Rattle.ca_meaning_laws.proofs.FunctionTypes.{serial_place, calls_typed}
use Rattle.ca_meaning_laws.proofs.SerialTypes.{serial_parts_typed}
use Rattle.ca_code_laws.specs.Words.{read_as}
use Rattle.ca_program.specs.Kinds.{Kind, Kinds, as_pointer, kind_at, param_kind, kinds_in}
use Rattle.ca_program.specs.Instructions.{Return, Leave, Invoke, Code, Placed, on, IsAt, HasAt, StandsAt}
use Rattle.ca_program.specs.Layout.{all_acts, no_hands, statements_code, starts_code, others_of, width_of, operation_code, FunctionsLaidOut, OperationsLaidOut, MainLaidOut, kinds_of, main_kinds}
use Rattle.ca_code_laws.specs.Machine.{Store, store, Back, enters, State, Finished, Trapped, Spent, Next, moved, after, invoking, entering, returning, leaving, act, Comes, Ends}
use Rattle.ca_code_laws.specs.Runs.{Into, run_into, beginning, outcome_of}
use Rattle.ca_code_laws.specs.Told.{Below, Holds, CameBy}
use Rattle.ca_code_laws.proofs.Steps.{has_front, has_back, Within, joins, joins_end, steps, steps_end, Flows, length_mapped}
use Rattle.ca_code_laws.proofs.Values.{CallsRun, expression_runs, operand_runs}
use Rattle.ca_code_laws.proofs.Typed.{width_is, arguments_counted, operation_call, Sound}
use Rattle.ca_code_laws.proofs.Quiet.{each_may, all_may}
use Rattle.ca_code_laws.proofs.Statements.{PartsRun, statements_run, loop_runs}
use Rattle.ca_code_laws.proofs.Executed.{LocalsAt, body_of_loop, tail_of_loop, IsLoop, IsAct, acted}
use Rattle.ca_code_laws.proofs.Methods.{begun, methods_run, other_kinds}
use Rattle.ca_code_laws.proofs.Acts.{Hands, acts_run, invokes}

pub room_within : (into : Into) (p : PlainProgram) (line : ℕ) (x : World) (c : ClassId) (k : ℕ) → Within k ((run_into into p).room line x c k)
room_within into p line x c k = by (is_full x.heap (starts_of p c))
  where
    by : (b : Bool) → Within k (unless_full b line (length x.heap) k)
    by true = tt
    by false = omega arith

none_is : {cx : List Placed} → None ≡ Some cx → ⊥
none_is e = cc

module _ (into : Into) (p : PlainProgram) (code : Code) (typed : ProgramTyped p) (laid : FunctionsLaidOut p code) (ops_laid : OperationsLaidOut p code) where
  abbrev pub InvokesRun : ℕ → Type 0
  InvokesRun n =
      (i : Invocation) (x : World) (start base k : ℕ) (b : Back) (bs : List Back) (f : Store) → b.wants ≡ false → k < n → slice_get code.ops i.op.0 ≡ Some start → TypedHeap p x.heap → WellTyped p x.heap i → Holds (λ j. param_kind (slice_get p.ops i.op.0) j) f base i.arguments → CameBy (run_into into p) code (record { at = start; base = base; left = k; this = Ref i.receiver; below = b ∷ bs; slots = f; world = x }) b bs ((operations_of p).invoke i x k)

  abbrev pub AgainsRun : ℕ → Type 0
  AgainsRun n =
      (sc : Scope) (me : Datum) (bs : List Back) (base top : ℕ) → length sc.locals ≡ top → (s : Statement) (line : ℕ) (ls : List Datum) (x : World) (at k : ℕ) (f : Store) → IsLoop s → HasAt code at (body_of_loop (kinds_in p sc.locals) (all_acts (kinds_in p sc.locals)) no_hands line s top ++ tail_of_loop (kinds_in p sc.locals) (all_acts (kinds_in p sc.locals)) no_hands line s top) → StatementTyped p sc s → length ls ≡ top → WorldTyped p sc me x → ValuesTyped x.heap ls sc.locals → k < n → Holds (kinds_in p sc.locals).locals f base ls → Flows (run_into into p) code (λ (x : World). x) (kind_at sc.result) (record { at = at + length (body_of_loop (kinds_in p sc.locals) (all_acts (kinds_in p sc.locals)) no_hands line s top); base = base; left = k; this = me; below = bs; slots = f; world = x }) (length (tail_of_loop (kinds_in p sc.locals) (all_acts (kinds_in p sc.locals)) no_hands line s top)) (LocalsAt (kinds_in p sc.locals) base top) ((operations_of p).again me line ls x s k)

  pub starts : (h : List Object) (m r : ℕ) (vs : List Datum) (o : Option PlainMethod) → slice_get p.ops m ≡ o → CallTyped h o r vs → (at : ℕ) × (slice_get code.ops m ≡ Some at)
  starts h m r vs None e t = absurd t
  starts h m r vs (Some f) e t = by (slice_get code.ops m) (ops_laid m f e).0
    where
      by : (o : Option ℕ) → StandsAt code o (operation_code p f) → (at : ℕ) × (o ≡ Some at)
      by None h = absurd h
      by (Some at) h = (at, refl)

  -- value methods that are called in a typed world run as they mean, and their values have their types; so has each place
  pub values_run : (n : ℕ) (sc : Scope) (me : Datum) (x : World) → WorldTyped p sc me x → CallsRun (run_into into p) code p laid x (functions_of p.functions x.heap).call n
  values_run n sc me x good = methods_run (run_into into p) code p typed laid (λ b bs w me. refl) x good.heap n

  pub value_calls : (sc : Scope) (me : Datum) (x : World) → WorldTyped p sc me x → CallsTyped p x.heap (functions_of p.functions x.heap).call
  value_calls sc me x good = calls_typed p typed x.heap good.heap

  pub places : (sc : Scope) (me : Datum) (line : ℕ) (ls : List Datum) (x : World) → WorldTyped p sc me x → ValuesTyped x.heap ls sc.locals → PlaceTyped p sc (place x.heap me line ls)
  places sc me line ls x good v = serial_place p x.heap sc me line ls good.heap good.receiver v

  hands : (n : ℕ) → InvokesRun n → (sc : Scope) (me : Datum) (bs : List Back) (base top : ℕ) (wide : length sc.locals ≡ top) → Hands (run_into into p) code p laid sc (WorldTyped p sc me) me bs base n top wide (room_within into p) (values_run n sc me) (value_calls sc me) (places sc me) Invoke (run_call (operations_of p))
  hands n invokes_run sc me bs base top wide line op class tys ls vs v x at k f h is_op of_class of_types is holds len good left locals = by v k left of_class is
    where
      here : ℕ → State World
      here k = record { at = at; base = base; left = k; this = me; below = bs; slots = f; world = x }

      call : Placed
      call = on line (Invoke op top)

      does : (v : Datum) (k : ℕ) → read_as as_pointer (f (base + top)) ≡ v → (next : Next World) → act (run_into into p) code line (Some call.instruction) next (here k) ≡ after (pointed line v k) x (λ r k. invoking (slice_get code.ops op.0) (here k) next r top k (enters x))
      does (Ref r) k is next = ap (λ y. after (pointed line y k) x (λ r j. invoking (slice_get code.ops op.0) (here k) next r top j (enters x))) is
      does (Long r) k is next = ap (λ y. after (pointed line y k) x (λ r j. invoking (slice_get code.ops op.0) (here k) next r top j (enters x))) is
      does (Truth r) k is next = ap (λ y. after (pointed line y k) x (λ r j. invoking (slice_get code.ops op.0) (here k) next r top j (enters x))) is
      does Null k is next = ap (λ y. after (pointed line y k) x (λ r j. invoking (slice_get code.ops op.0) (here k) next r top j (enters x))) is

      below_it : Back
      below_it = record { at = at + 1; base = base; this = me; wants = false; to = 0 }

      inside : ℕ → ℕ → ℕ → State World
      inside start r k = record { at = start; base = base + (top + 1); left = k; this = Ref r; below = below_it ∷ bs; slots = f; world = x }

      ends : (r start k : ℕ) → (o : Flow World) → Comes (run_into into p) code (here (suc k)) (inside start r k) → CameBy (run_into into p) code (inside start r k) below_it bs o → Flows (run_into into p) code (λ (x : World). x) (kind_at sc.result) (here (suc k)) 1 (LocalsAt (kinds_in p sc.locals) base top) (came_back ls o)
      ends r start k (goes_on ls2 x2 j) begins t =
          (t.0, joins (run_into into p) code begins t.1, ((λ i lt. ap (read_as ((kinds_in p sc.locals).locals i)) (t.2 (base + i) (omega (arith, lt, len))) ∙ locals i lt), len), (λ j lt. t.2 j (omega (arith, lt))), omega (arith, t.3))
      ends r start k (gives_back w x2 j) begins t = joins_end (run_into into p) code begins t
      ends r start k (stops y x2) begins t = joins_end (run_into into p) code begins t
      ends r start k (runs_out x2) begins t = joins_end (run_into into p) code begins t

      by : (v : Datum) (k : ℕ) → k ≤ n → HasType x.heap v (Pointer class) → read_as as_pointer (f (base + top)) ≡ v → Flows (run_into into p) code (λ (x : World). x) (kind_at sc.result) (here k) 1 (LocalsAt (kinds_in p sc.locals) base top) (with (pointed line v k >>= λ r k. gives (invocation r op vs) k) x (λ i k. run_call (operations_of p) ls i x k))
      by (Ref r) zero left of_class is = steps_end (run_into into p) code (here 0) (Spent x) call h (does (Ref r) 0 is)
      by (Ref r) (suc k) left of_class is =
          let well : WellTyped p x.heap (invocation r op vs) = operation_call x.heap (slice_get p.ops op.0) class tys r vs is_op of_class of_types in
          let place = starts x.heap op.0 r vs (slice_get p.ops op.0) refl well in
          let begins = steps (run_into into p) code (here (suc k)) (inside place.0 r k) call h (λ next. does (Ref r) (suc k) is next ∙ ap (λ o. entering o (moved (here (suc k)) at k f x) next (Ref r) top false 0 k) place.1) in
          ends r place.0 k ((operations_of p).invoke (invocation r op vs) x k) begins (invokes_run (invocation r op vs) x place.0 (base + (top + 1)) k below_it bs f refl (omega (arith, left)) place.1 good.0.heap well holds)
      by (Long y) k left of_class is = absurd of_class
      by (Truth y) k left of_class is = absurd of_class
      by Null k left of_class is = steps_end (run_into into p) code (here k) (Trapped (trap_at line NullPointer) x) call h (does Null k is)

  pub parts_run : (n : ℕ) → InvokesRun n → AgainsRun n → (sc : Scope) (me : Datum) (bs : List Back) (base top : ℕ) → length sc.locals ≡ top → PartsRun (run_into into p) code p true (λ (x : World). x) (all_acts (kinds_in p sc.locals)) no_hands (serial_parts p me) sc heap_of (WorldTyped p sc me) me bs base n top
  parts_run n invokes_run agains sc me bs base top wide = record {
    types = serial_parts_typed p typed sc me;
    wide = wide;
    values = λ e ty t line to ls x at k f h len good le left holds.
        expression_runs (run_into into p) code p laid sc (here at k f x) (functions_of p.functions x.heap).call n (values_run n sc me x good.0) (value_calls sc me x good.0) e ty t line to top ls (places sc me line ls x good.0 good.1) at k f h (omega (arith, len)) le left holds;
    operands = λ e ty t line ls x at k f h len good left holds.
        operand_runs (run_into into p) code p laid sc (here at k f x) (functions_of p.functions x.heap).call n (values_run n sc me x good.0) (value_calls sc me x good.0) e ty t line top ls (places sc me line ls x good.0 good.1) at k f h (omega (arith, len)) left holds;
    acts = λ s line ls x at k f is h fits len good left holds. made s line ls x at k f is h fits.0 len good left holds;
    agains = λ s line ls x at k f is h fits len good lt holds. agains sc me bs base top wide s line ls x at k f is h fits.0 len good.0 good.1 lt holds;
    begins = λ line ls x s k plain e. refl;
    handed = λ line ls x s at k f plain cx e h fits len good left holds. absurd (none_is e);
  }
    where
      here : ℕ → ℕ → Store → World → State World
      here at k f x = record { at = at; base = base; left = k; this = me; below = bs; slots = f; world = x }

      made : (s : Statement) (line : ℕ) (ls : List Datum) (x : World) (at k : ℕ) (f : Store) → IsAct s → HasAt code at (all_acts (kinds_in p sc.locals) line s top) → StatementTyped p sc s → length ls ≡ top → Sound heap_of (WorldTyped p sc me) sc ls x → k ≤ n → Holds (kinds_in p sc.locals).locals f base ls → Flows (run_into into p) code (λ (x : World). x) (kind_at sc.result) (here at k f x) (length (all_acts (kinds_in p sc.locals) line s top)) (LocalsAt (kinds_in p sc.locals) base top) (acted (serial_parts p me) line ls x s k)
      made (invoke l e op es) line ls x at k f is h t len good left holds =
          invokes (run_into into p) code p laid sc (WorldTyped p sc me) me bs base n top wide (room_within into p) (values_run n sc me) (value_calls sc me) (places sc me) Invoke (run_call (operations_of p)) (hands n invokes_run sc me bs base top wide) e op es t.0 t.1 line ls x at k f h t.3 t.4 t.5 len good left holds
      made (put_field l y op e) line ls x at k f is h t len good left holds = acts_run (run_into into p) code p laid sc (WorldTyped p sc me) me bs base n top wide (room_within into p) (values_run n sc me) (value_calls sc me) (places sc me) (put_field l y op e) line ls x at k f tt h t len good left holds
      made (put_item l y i op e) line ls x at k f is h t len good left holds = acts_run (run_into into p) code p laid sc (WorldTyped p sc me) me bs base n top wide (room_within into p) (values_run n sc me) (value_calls sc me) (places sc me) (put_item l y i op e) line ls x at k f tt h t len good left holds
      made (new_local l y c) line ls x at k f is h t len good left holds = acts_run (run_into into p) code p laid sc (WorldTyped p sc me) me bs base n top wide (room_within into p) (values_run n sc me) (value_calls sc me) (places sc me) (new_local l y c) line ls x at k f tt h t len good left holds
      made (new_field l y c) line ls x at k f is h t len good left holds = acts_run (run_into into p) code p laid sc (WorldTyped p sc me) me bs base n top wide (room_within into p) (values_run n sc me) (value_calls sc me) (places sc me) (new_field l y c) line ls x at k f tt h t len good left holds
      made (new_item l y i c) line ls x at k f is h t len good left holds = acts_run (run_into into p) code p laid sc (WorldTyped p sc me) me bs base n top wide (room_within into p) (values_run n sc me) (value_calls sc me) (places sc me) (new_item l y i c) line ls x at k f tt h t len good left holds
      made (print_value l e) line ls x at k f is h t len good left holds = acts_run (run_into into p) code p laid sc (WorldTyped p sc me) me bs base n top wide (room_within into p) (values_run n sc me) (value_calls sc me) (places sc me) (print_value l e) line ls x at k f tt h t len good left holds
      made other line ls x at k f is h t len good left holds = absurd is

  agains_too : (n : ℕ) → InvokesRun n → AgainsRun n → AgainsRun (suc n)
  agains_too n invokes_run agains sc me bs base top wide s line ls x at k f is h t len good v lt holds =
      subst (λ o. Flows (run_into into p) code (λ (x : World). x) (kind_at sc.result) (record { at = at + length (body_of_loop (kinds_in p sc.locals) (all_acts (kinds_in p sc.locals)) no_hands line s top); base = base; left = k; this = me; below = bs; slots = f; world = x }) (length (tail_of_loop (kinds_in p sc.locals) (all_acts (kinds_in p sc.locals)) no_hands line s top)) (LocalsAt (kinds_in p sc.locals) base top) o) (sym (loop_means p me line ls x s k))
      (loop_runs (run_into into p) code p true (λ (x : World). x) (all_acts (kinds_in p sc.locals)) no_hands (serial_parts p me) sc heap_of (WorldTyped p sc me) me bs base n top (parts_run n invokes_run agains sc me bs base top wide) s line ls x at k f is h (t, each_may s) len (good, v) (omega (arith, lt)) holds)

  -- what a body does, from its first statement on, until it leaves
  pub came_from : (ks : Kinds) (ret : Kind) (s : State World) (l n : ℕ) (b : Back) (bs : List Back) → s.below ≡ b ∷ bs → b.wants ≡ false → IsAt code (s.at + l) (on 0 Leave) → (o : Flow World) → Flows (run_into into p) code (λ (x : World). x) ret s l (LocalsAt ks s.base n) o → CameBy (run_into into p) code s b bs o
  came_from ks ret s l n b bs below wants h (goes_on ls x k) t =
      (t.0, joins (run_into into p) code t.1 (steps (run_into into p) code (moved s (s.at + l) k t.0 x) (record { at = b.at; base = b.base; left = k; this = b.this; below = bs; slots = t.0; world = x }) (on 0 Leave) h (λ next. ap (λ y. leaving y (moved s (s.at + l) k t.0 x) next) below)), t.3, t.4)
  came_from ks ret s l n b bs below wants h (gives_back v x k) t =
      joins_end (run_into into p) code t.4 (steps_end (run_into into p) code (moved s t.1 k t.0 x) (Spent x) (on t.3 (Return t.2)) t.5 (λ next. ap (λ y. returning y (moved s t.1 k t.0 x) next (t.0 (s.base + t.2))) below ∙ ap (λ y. cond y (next (record { at = b.at; base = b.base; left = k; this = b.this; below = bs; slots = store t.0 (b.base + b.to) (t.0 (s.base + t.2)); world = x })) (Spent x)) wants))
  came_from ks ret s l n b bs below wants h (stops y x) t = t
  came_from ks ret s l n b bs below wants h (runs_out x) t = t

  pub came_after : (s t : State World) (b : Back) (bs : List Back) (o : Flow World) → Comes (run_into into p) code s t → s.base ≡ t.base → Below s.base s.slots t.slots → t.left ≤ s.left → CameBy (run_into into p) code t b bs o → CameBy (run_into into p) code s b bs o
  came_after s t b bs (goes_on ls x k) c same below le r = (r.0, joins (run_into into p) code c r.1, (λ j lt. r.2 j (subst (λ x. j < x) same lt) ∙ below j lt), omega (arith, le, r.3))
  came_after s t b bs (gives_back v x k) c same below le r = joins_end (run_into into p) code c r
  came_after s t b bs (stops y x) c same below le r = joins_end (run_into into p) code c r
  came_after s t b bs (runs_out x) c same below le r = joins_end (run_into into p) code c r

  body_runs : (n : ℕ) → InvokesRun n → AgainsRun n → (m : PlainMethod) (i : ℕ) → slice_get p.ops i ≡ Some m → (r : ℕ) (vs : List Datum) (x : World) (at base k : ℕ) (b : Back) (bs : List Back) (f : Store) → b.wants ≡ false → k ≤ n → HasAt code at (operation_code p m) → TypedHeap p x.heap → CallTyped x.heap (Some m) r vs → Holds (kinds_of p m).locals f base vs → CameBy (run_into into p) code (record { at = at; base = base; left = k; this = Ref r; below = b ∷ bs; slots = f; world = x }) b bs (exec_all (serial_parts p (Ref r)) (vs ++ map start_of (others_of m)) x m.body.statements k)
  body_runs n invokes_run agains m i found r vs x at base k b bs f wants left h typed_heap call holds =
      let mt = typed.ops i m found in
      let params : m.params ≡ length vs = arguments_counted x.heap m vs mt.method.parameters call.1 in
      let first = starts_code m.params (others_of m) in
      let body = statements_code (kinds_of p m) (all_acts (kinds_of p m)) no_hands m.body.statements (width_of m) in
      let g = begun (run_into into p) code (kinds_of p m).locals m.params (others_of m) (there at f) vs (sym params) (other_kinds p m) (has_front code at first (body ++ on 0 Leave ∷ []) h) holds in
      let ls = vs ++ map start_of (others_of m) in
      let len : length ls ≡ width_of m = omega (arith, length-append vs (map start_of (others_of m)), length_mapped start_of (others_of m), params) in
      let hb = has_back code at first (body ++ on 0 Leave ∷ []) h in
      let flows = statements_run (run_into into p) code p true (λ (x : World). x) (all_acts (kinds_of p m)) no_hands (serial_parts p (Ref r)) (scope_of m) heap_of (WorldTyped p (scope_of m) (Ref r)) (Ref r) (b ∷ bs) base n (width_of m) (parts_run n invokes_run agains (scope_of m) (Ref r) (b ∷ bs) base (width_of m) (sym (width_is m mt.method.parameters))) m.body.statements ls x (at + length first) k g.0 (has_front code (at + length first) body (on 0 Leave ∷ []) hb) (mt.method.body, all_may m.body.statements) len (record { heap = typed_heap; receiver = call.0 }, frame_typed x.heap vs m.params m.body.locals call.1) left g.2 in
      came_after (there at f) (there (at + length first) g.0) b bs (exec_all (serial_parts p (Ref r)) ls x m.body.statements k) g.1 refl g.3 (omega arith)
      (came_from (kinds_of p m) (kind_at m.result) (there (at + length first) g.0) (length body) (width_of m) b bs refl wants (has_back code (at + length first) body (on 0 Leave ∷ []) hb).0 (exec_all (serial_parts p (Ref r)) ls x m.body.statements k) flows)
    where
      there : ℕ → Store → State World
      there at f = record { at = at; base = base; left = k; this = Ref r; below = b ∷ bs; slots = f; world = x }

  invokes_too : (n : ℕ) → InvokesRun n → AgainsRun n → InvokesRun (suc n)
  invokes_too n invokes_run agains i x at base k b bs f wants lt place typed_heap well holds =
      subst (λ o. CameBy (run_into into p) code (record { at = at; base = base; left = k; this = Ref i.receiver; below = b ∷ bs; slots = f; world = x }) b bs o) (sym (invoke_runs p i x k)) (by (slice_get p.ops i.op.0) refl well holds)
    where
      at_its_place : (o : Option ℕ) (x : List Placed) → o ≡ Some at → StandsAt code o x → HasAt code at x
      at_its_place o x e h = subst (λ o. StandsAt code o x) e h

      by : (o : Option PlainMethod) → slice_get p.ops i.op.0 ≡ o → CallTyped x.heap o i.receiver i.arguments → Holds (λ j. param_kind o j) f base i.arguments → CameBy (run_into into p) code (record { at = at; base = base; left = k; this = Ref i.receiver; below = b ∷ bs; slots = f; world = x }) b bs (exec_all (serial_parts p (Ref i.receiver)) (locals_of o i.arguments) x (body_of o) k)
      by None e t holds = absurd t
      by (Some m) e t holds = body_runs n invokes_run agains m i.op.0 e i.receiver i.arguments x at base k b bs f wants (omega (arith, lt)) (at_its_place (slice_get code.ops i.op.0) (operation_code p m) place (ops_laid i.op.0 m e).0) typed_heap t holds

  pub both_run : (n : ℕ) → InvokesRun n × AgainsRun n
  both_run zero = ((λ i x at base k b bs f wants lt place typed_heap well holds. absurd (omega (arith, lt))), (λ sc me bs base top wide s line ls x at k f is h t len good v lt holds. absurd (omega (arith, lt))))
  both_run (suc n) = let r = both_run n in (invokes_too n r.0 r.1, agains_too n r.0 r.1)

  pub operations_run : (n : ℕ) → InvokesRun n
  operations_run n = (both_run n).0

  -- a body with none below ends as its call means
  ends_from : (ks : Kinds) (ret : Kind) (s : State World) (l n : ℕ) → s.below ≡ [] → IsAt code (s.at + l) (on 0 Leave) → (o : Flow World) → Flows (run_into into p) code (λ (x : World). x) ret s l (LocalsAt ks s.base n) o → Ends (run_into into p) code s (outcome_of o)
  ends_from ks ret s l n below h (goes_on ls x k) t =
      joins_end (run_into into p) code t.1 (steps_end (run_into into p) code (moved s (s.at + l) k t.0 x) (Finished x k) (on 0 Leave) h (λ next. ap (λ y. leaving y (moved s (s.at + l) k t.0 x) next) below))
  ends_from ks ret s l n below h (gives_back v x k) t =
      joins_end (run_into into p) code t.4 (steps_end (run_into into p) code (moved s t.1 k t.0 x) (Spent x) (on t.3 (Return t.2)) t.5 (λ next. ap (λ y. returning y (moved s t.1 k t.0 x) next (t.0 (s.base + t.2))) below))
  ends_from ks ret s l n below h (stops y x) t = t
  ends_from ks ret s l n below h (runs_out x) t = t

  body_ends : (n : ℕ) (m : PlainMethod) (i : ℕ) → slice_get p.ops i ≡ Some m → (r : ℕ) (vs : List Datum) (x : World) (at base k : ℕ) (f : Store) → k ≤ n → HasAt code at (operation_code p m) → TypedHeap p x.heap → CallTyped x.heap (Some m) r vs → Holds (kinds_of p m).locals f base vs → Ends (run_into into p) code (record { at = at; base = base; left = k; this = Ref r; below = []; slots = f; world = x }) (outcome_of (exec_all (serial_parts p (Ref r)) (vs ++ map start_of (others_of m)) x m.body.statements k))
  body_ends n m i found r vs x at base k f left h typed_heap call holds =
      let both = both_run n in
      let mt = typed.ops i m found in
      let params : m.params ≡ length vs = arguments_counted x.heap m vs mt.method.parameters call.1 in
      let first = starts_code m.params (others_of m) in
      let body = statements_code (kinds_of p m) (all_acts (kinds_of p m)) no_hands m.body.statements (width_of m) in
      let g = begun (run_into into p) code (kinds_of p m).locals m.params (others_of m) (there at f) vs (sym params) (other_kinds p m) (has_front code at first (body ++ on 0 Leave ∷ []) h) holds in
      let ls = vs ++ map start_of (others_of m) in
      let len : length ls ≡ width_of m = omega (arith, length-append vs (map start_of (others_of m)), length_mapped start_of (others_of m), params) in
      let hb = has_back code at first (body ++ on 0 Leave ∷ []) h in
      let flows = statements_run (run_into into p) code p true (λ (x : World). x) (all_acts (kinds_of p m)) no_hands (serial_parts p (Ref r)) (scope_of m) heap_of (WorldTyped p (scope_of m) (Ref r)) (Ref r) [] base n (width_of m) (parts_run n both.0 both.1 (scope_of m) (Ref r) [] base (width_of m) (sym (width_is m mt.method.parameters))) m.body.statements ls x (at + length first) k g.0 (has_front code (at + length first) body (on 0 Leave ∷ []) hb) (mt.method.body, all_may m.body.statements) len (record { heap = typed_heap; receiver = call.0 }, frame_typed x.heap vs m.params m.body.locals call.1) left g.2 in
      joins_end (run_into into p) code g.1 (ends_from (kinds_of p m) (kind_at m.result) (there (at + length first) g.0) (length body) (width_of m) refl (has_back code (at + length first) body (on 0 Leave ∷ []) hb).0 (exec_all (serial_parts p (Ref r)) ls x m.body.statements k) flows)
    where
      there : ℕ → Store → State World
      there at f = record { at = at; base = base; left = k; this = Ref r; below = []; slots = f; world = x }

  pub calls_end : (i : Invocation) (x : World) (start base k : ℕ) (f : Store) → slice_get code.ops i.op.0 ≡ Some start → TypedHeap p x.heap → WellTyped p x.heap i → Holds (λ j. param_kind (slice_get p.ops i.op.0) j) f base i.arguments → Ends (run_into into p) code (record { at = start; base = base; left = k; this = Ref i.receiver; below = []; slots = f; world = x }) (outcome_of ((operations_of p).invoke i x k))
  calls_end i x at base k f place typed_heap well holds =
      subst (λ o. Ends (run_into into p) code (record { at = at; base = base; left = k; this = Ref i.receiver; below = []; slots = f; world = x }) (outcome_of o)) (sym (invoke_runs p i x k)) (by (slice_get p.ops i.op.0) refl well holds)
    where
      at_its_place : (o : Option ℕ) (x : List Placed) → o ≡ Some at → StandsAt code o x → HasAt code at x
      at_its_place o x e h = subst (λ o. StandsAt code o x) e h

      by : (o : Option PlainMethod) → slice_get p.ops i.op.0 ≡ o → CallTyped x.heap o i.receiver i.arguments → Holds (λ j. param_kind o j) f base i.arguments → Ends (run_into into p) code (record { at = at; base = base; left = k; this = Ref i.receiver; below = []; slots = f; world = x }) (outcome_of (exec_all (serial_parts p (Ref i.receiver)) (locals_of o i.arguments) x (body_of o) k))
      by None e t holds = absurd t
      by (Some m) e t holds = body_ends k m i.op.0 e i.receiver i.arguments x at base k f (omega arith) (at_its_place (slice_get code.ops i.op.0) (operation_code p m) place (ops_laid i.op.0 m e).0) typed_heap t holds

  -- a whole run
  pub main_runs : (at k : ℕ) → MainLaidOut p code at → Ends (run_into into p) code (beginning at k) (outcome_of (main_run p k))
  main_runs at k h =
      let locals = map start_of p.main.locals in
      let first = starts_code 0 p.main.locals in
      let body = statements_code (main_kinds p) (all_acts (main_kinds p)) no_hands p.main.statements (length p.main.locals) in
      let z : (i : ℕ) → (main_kinds p).locals (0 + i) ≡ kind_at (slice_get p.main.locals i) = λ i. let e : 0 + i ≡ i = omega arith in ap (λ j. kind_at (slice_get p.main.locals j)) e in
      let g = begun (run_into into p) code (main_kinds p).locals 0 p.main.locals (beginning at k) [] refl z (has_front code at first (body ++ on 0 Leave ∷ []) h) (λ i lt. absurd (omega (arith, lt))) in
      let hb = has_back code at first (body ++ on 0 Leave ∷ []) h in
      let both = both_run k in
      let flows = statements_run (run_into into p) code p true (λ (x : World). x) (all_acts (main_kinds p)) no_hands (serial_parts p Null) (main_scope p) heap_of (WorldTyped p (main_scope p) Null) Null [] 0 k (length p.main.locals) (parts_run k both.0 both.1 (main_scope p) Null [] 0 (length p.main.locals) refl) p.main.statements locals (fresh []) (at + length first) k g.0 (has_front code (at + length first) body (on 0 Leave ∷ []) hb) (typed.main, all_may p.main.statements) (length_mapped start_of p.main.locals) (record { heap = tt; receiver = tt }, starts_typed [] p.main.locals) (omega arith) g.2 in
      joins_end (run_into into p) code g.1 (ends (at + length first) g.0 (length body) (length p.main.locals) (has_back code (at + length first) body (on 0 Leave ∷ []) hb).0 (main_run p k) flows)
    where
      there : ℕ → ℕ → Store → World → State World
      there at j f x = record { at = at; base = 0; left = j; this = Null; below = []; slots = f; world = x }

      ends : (at : ℕ) (f : Store) (l n : ℕ) → IsAt code (at + l) (on 0 Leave) → (o : Flow World) → Flows (run_into into p) code (λ (x : World). x) as_pointer (there at k f (fresh [])) l (LocalsAt (main_kinds p) 0 n) o → Ends (run_into into p) code (there at k f (fresh [])) (outcome_of o)
      ends at f l n h (goes_on ls x j) t = joins_end (run_into into p) code t.1 (steps_end (run_into into p) code (there (at + l) j t.0 x) (Finished x j) (on 0 Leave) h (λ next. refl))
      ends at f l n h (gives_back v x j) t = joins_end (run_into into p) code t.4 (steps_end (run_into into p) code (there t.1 j t.0 x) (Spent x) (on t.3 (Return t.2)) t.5 (λ next. refl))
      ends at f l n h (stops y x) t = t
      ends at f l n h (runs_out x) t = t
