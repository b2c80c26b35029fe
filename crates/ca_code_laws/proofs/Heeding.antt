-- A run that heeds marks: a marked call and a marked loop are handed on, and where that isn't done they run unheeding.
use Rattle.std.proofs.Common.{◌≡◌, ℕ, zero, suc, ◌+◌, ◌-◌, ◌<◌, ◌≤◌, List, [], ◌∷◌, ◌++◌, length, map, Option, Some, None, refl, sym, ap, ◌∙◌, subst, arith, length-append}
use Rattle.std.proofs.lemmas.Bool.{and_parts}
use Rattle.std.specs.Prelude.{Bool, true, false, slice_get, cond}
use Rattle.ca_program.specs.Plain.{PlainProgram, Statement, put_field, put_item, new_local, new_field, new_item, invoke, print_value, PlainMethod}
use Rattle.ca_model.specs.declared.value.Value.{Value as Datum}
use Rattle.ca_model.specs.declared.value.Value.TheVariants.{Long, Bool as Truth, Null, Ref}
use Rattle.ca_model.specs.declared.value.TrapKind.TheVariants.{NullPointer}
use Rattle.ca_model.specs.Slots.{start_of}
use Rattle.ca_meaning.specs.Expressions.{gives, traps, ◌>>=◌, trap_at, pointed, Invocation, invocation}
use Rattle.ca_meaning.specs.Flows.{Flow, goes_on, gives_back, stops, runs_out, and_on, with, exec, exec_all}
use Rattle.ca_meaning.specs.Functions.{body_of, locals_of, functions_of}
use Rattle.ca_meaning.specs.Serial.{World, Operations, fresh, came_back, run_call, operations_of, serial_parts, serial_ops}
use Rattle.ca_meaning.specs.Sections.{LoopOutcome, LoopSectioned, loop_done, loop_stopped, loop_over, loop_section}
use Rattle.ca_meaning.proofs.Near.{NearFlow, left_of_flow}
use Rattle.ca_parallel.specs.Lists.{PlainMarks, op_in, loop_in, either, noted_call}
use Rattle.ca_note_laws.specs.Listing.{puts_nothing, behind_list, with_list, by_section, listing_loop, listing_parts, listing_of, listing_run}
use Rattle.ca_note_laws.proofs.Listing.{list_self, listing_invoke_runs, listing_loop_runs}
use Rattle.ca_program.specs.declared.program.ValueType.TheVariants.{Pointer}
use Rattle.ca_model.specs.declared.value.Object.{Object}
use Rattle.ca_model.specs.Typed.{HasType, TypedHeap}
use Rattle.ca_meaning.specs.WellTyped.{ValuesTyped, CallTyped, WellTyped}
use Rattle.ca_meaning.specs.ProgramTyped.{Scope, StatementTyped, scope_of, main_scope, ProgramTyped}
use Rattle.ca_meaning_laws.specs.Typed.{WorldTyped, heap_of}
use Rattle.ca_meaning_laws.proofs.Values.{starts_typed, frame_typed}
use Rattle.ca_code_laws.proofs.Typed.{width_is, values_counted, all_of_kind, arguments_counted, operation_call, Sound}
use Rattle.ca_code_laws.proofs.Quiet.{each_may, all_may}
use Rattle.ca_code_laws.proofs.Listed.{LeavesTyped, loop_leaves, listing_parts_typed, listing_typed}
use Rattle.ca_code_laws.proofs.Words.{back}
use Rattle.ca_code_laws.specs.Words.{word, read_as, has_kind, all_have}
use Rattle.ca_program.specs.Kinds.{Kind, as_pointer, kind_type, kind_at, param_kind, kinds_in}
use Rattle.ca_program.specs.Instructions.{Return, Leave, Heed, Hand, Code, Placed, on, IsAt, HasAt, StandsAt}
use Rattle.ca_program.specs.Layout.{no_hands, all_acts, statements_code, starts_code, others_of, width_of, FunctionsLaidOut, OperationsLaidOut, kinds_of, main_kinds}
use Rattle.ca_code_laws.specs.Heeding.{heeding_call, heed_acts, handed_code, heed_hands, heeding_code, HeedingLaidOut, MainHeeds, begin_at, plain_loop}
use Rattle.ca_code_laws.specs.Machine.{Store, Back, enters, plainly, State, Outcome, Finished, Trapped, Spent, Next, moved, after, row, loaded, invoking, handed_call, entering, beginning_by, act, Comes, Ends, Wanting, kinds_there, handing, behind}
use Rattle.ca_code_laws.specs.Runs.{Into, run_into, begun_by, begun_with, behind_or, with_call, handed_by, beginning, outcome_of}
use Rattle.ca_code_laws.specs.Told.{Holds, CameBy}
use Rattle.ca_code_laws.proofs.Steps.{stored_here, stored_there, has_front, has_back, joins, joins_end, steps, steps_end, Flows, length_mapped}
use Rattle.ca_code_laws.proofs.Instead.{step_flows}
use Rattle.ca_code_laws.proofs.Values.{expression_runs, operand_runs}
use Rattle.ca_code_laws.proofs.Statements.{PartsRun, statement_runs, statements_run, loop_runs}
use Rattle.ca_code_laws.proofs.Executed.{LocalsAt, body_of_loop, tail_of_loop, IsLoop, IsAct, acted}
use Rattle.ca_code_laws.proofs.Methods.{begun, other_kinds}
use Rattle.ca_code_laws.proofs.Acts.{Hands, acts_run, invokes}
use Rattle.ca_code_laws.proofs.Sections.{row_is, arguments_are, all_mapped}
use Rattle.ca_code_laws.proofs.Operations.{room_within, starts, values_run, value_calls, places, parts_run, came_from, came_after, both_run, operations_run}

loaded_below : (vs : List Datum) (f : Store) (first j : ℕ) → j < first → loaded f first vs j ≡ f j
loaded_below [] f first j lt = refl
loaded_below (v ∷ vs) f first j lt = stored_there (loaded f (first + 1) vs) first j (word v) (λ e. absurd (omega (arith, lt, e))) ∙ loaded_below vs f (first + 1) j (omega (arith, lt))

-- values that were put are held
pub loaded_is : (κs : ℕ → Kind) (kinds : List Kind) (vs : List Datum) (f : Store) (first : ℕ) → all_have kinds vs ≡ true → ((i : ℕ) (κ : Kind) → slice_get kinds i ≡ Some κ → κs i ≡ κ) → Holds κs (loaded f first vs) first vs
loaded_is κs [] [] f first have fits i lt = absurd (omega (arith, lt))
loaded_is κs [] (v ∷ vs) f first have fits i lt = cc
loaded_is κs (κ ∷ kinds) [] f first have fits i lt = absurd (omega (arith, lt))
loaded_is κs (κ ∷ kinds) (v ∷ vs) f first have fits zero lt =
    let has = (and_parts (has_kind κ v) (all_have kinds vs) have).0 in
    ap (λ y. read_as y (loaded f first (v ∷ vs) (first + 0))) (fits 0 κ refl) ∙ ap (read_as κ) (stored_here (loaded f (first + 1) vs) first (first + 0) (word v) (omega arith)) ∙ back κ v has
loaded_is κs (κ ∷ kinds) (v ∷ vs) f first have fits (suc i) lt =
    let e : first + suc i ≡ first + 1 + i = omega arith in
    let others = (and_parts (has_kind κ v) (all_have kinds vs) have).1 in
    ap (read_as (κs (suc i))) (stored_there (loaded f (first + 1) vs) first (first + suc i) (word v) (λ e. absurd (omega (arith, e))) ∙ ap (loaded f (first + 1) vs) e) ∙ loaded_is (λ i. κs (suc i)) kinds vs f (first + 1) others (λ i κ e. fits (suc i) κ e) i (omega (arith, lt))

-- what a call means whose run alone is done
one_call : (p : PlainProgram) (i : Invocation) (w v : World) (ms ls : List Datum) (k j : ℕ) → serial_ops p (i ∷ []) w k ≡ goes_on ms v j → run_call (operations_of p) ls i w k ≡ goes_on ls v j
one_call p i w v ms ls zero j e = cc
one_call p i w v ms ls (suc k) j e = from ((operations_of p).invoke i w k) e
  where
    from : (o : Flow World) → and_on (came_back [] o) (λ ls w k. goes_on [] w k) ≡ goes_on ms v j → came_back ls o ≡ goes_on ls v j
    from (goes_on xs y n) e = let a : y ≡ v = cc in let b : n ≡ j = cc in cc
    from (gives_back x y n) e = cc
    from (stops t y) e = cc
    from (runs_out y) e = cc

module _ (into : Into) (p : PlainProgram) (code : Code) (typed : ProgramTyped p) (laid : FunctionsLaidOut p code) (ops_laid : OperationsLaidOut p code) (marks : PlainMarks) (heeding_laid : HeedingLaidOut marks p code) where
  abbrev HeedsRun : ℕ → Type 0
  HeedsRun n =
      (i : Invocation) (x : World) (start base k : ℕ) (b : Back) (bs : List Back) (f : Store) → b.wants ≡ false → k < n → slice_get code.heeding i.op.0 ≡ Some start → TypedHeap p x.heap → WellTyped p x.heap i → Holds (λ j. param_kind (slice_get p.ops i.op.0) j) f base i.arguments → CameBy (run_into into p) code (record { at = start; base = base; left = k; this = Ref i.receiver; below = b ∷ bs; slots = f; world = x }) b bs ((listing_of into p marks).invoke i x k)

  abbrev HeedsAgain : ℕ → Type 0
  HeedsAgain n =
      (sc : Scope) (me : Datum) (bs : List Back) (base top : ℕ) → length sc.locals ≡ top → (s : Statement) (line : ℕ) (ls : List Datum) (x : World) (at k : ℕ) (f : Store) → IsLoop s → HasAt code at (body_of_loop (kinds_in p sc.locals) (heed_acts marks (kinds_in p sc.locals)) (heed_hands marks (kinds_in p sc.locals) (map kind_type sc.locals)) line s top ++ tail_of_loop (kinds_in p sc.locals) (heed_acts marks (kinds_in p sc.locals)) (heed_hands marks (kinds_in p sc.locals) (map kind_type sc.locals)) line s top) → StatementTyped p sc s → length ls ≡ top → WorldTyped p sc me x → ValuesTyped x.heap ls sc.locals → k < n → Holds (kinds_in p sc.locals).locals f base ls → Flows (run_into into p) code (λ (x : World). x) (kind_at sc.result) (record { at = at + length (body_of_loop (kinds_in p sc.locals) (heed_acts marks (kinds_in p sc.locals)) (heed_hands marks (kinds_in p sc.locals) (map kind_type sc.locals)) line s top); base = base; left = k; this = me; below = bs; slots = f; world = x }) (length (tail_of_loop (kinds_in p sc.locals) (heed_acts marks (kinds_in p sc.locals)) (heed_hands marks (kinds_in p sc.locals) (map kind_type sc.locals)) line s top)) (LocalsAt (kinds_in p sc.locals) base top) ((listing_of into p marks).again me line ls x s k)

  heeds_from : (h : List Object) (m r : ℕ) (vs : List Datum) (o : Option PlainMethod) → slice_get p.ops m ≡ o → CallTyped h o r vs → (at : ℕ) × (slice_get code.heeding m ≡ Some at)
  heeds_from h m r vs None e t = absurd t
  heeds_from h m r vs (Some f) e t = by (slice_get code.heeding m) (heeding_laid m f e)
    where
      by : (o : Option ℕ) → StandsAt code o (heeding_code marks p f) → (at : ℕ) × (o ≡ Some at)
      by None h = absurd h
      by (Some at) h = (at, refl)

  -- a call that enters a body, whatever table tells where
  enters_runs : (sc : Scope) (me : Datum) (bs : List Back) (base top line : ℕ) (o : Operations) (i : Invocation) (call : Placed) (start : Option ℕ) (place : ℕ) (ls : List Datum) (x y : World) (at k : ℕ) (f : Store) → start ≡ Some place → IsAt code at call → ((next : Next World) → act (run_into into p) code call.line (Some call.instruction) next (record { at = at; base = base; left = k; this = me; below = bs; slots = f; world = x }) ≡ invoking start (record { at = at; base = base; left = k; this = me; below = bs; slots = f; world = x }) next i.receiver top k (enters y)) → length ls ≡ top → Holds (kinds_in p sc.locals).locals f base ls → ((j : ℕ) → k ≡ suc j → CameBy (run_into into p) code (record { at = place; base = base + (top + 1); left = j; this = Ref i.receiver; below = record { at = at + 1; base = base; this = me; wants = false; to = 0 } ∷ bs; slots = f; world = y }) (record { at = at + 1; base = base; this = me; wants = false; to = 0 }) bs (o.invoke i y j)) → Flows (run_into into p) code (λ (x : World). x) (kind_at sc.result) (record { at = at; base = base; left = k; this = me; below = bs; slots = f; world = x }) 1 (LocalsAt (kinds_in p sc.locals) base top) (run_call o ls i y k)
  enters_runs sc me bs base top line o i call start place ls x y at zero f e h a len locals came = steps_end (run_into into p) code (record { at = at; base = base; left = 0; this = me; below = bs; slots = f; world = x }) (Spent y) call h a
  enters_runs sc me bs base top line o i call start place ls x y at (suc k) f e h a len locals came =
      ends (o.invoke i y k) (came k refl)
    where
      here : State World
      here = record { at = at; base = base; left = suc k; this = me; below = bs; slots = f; world = x }

      below_it : Back
      below_it = record { at = at + 1; base = base; this = me; wants = false; to = 0 }

      inside : State World
      inside = record { at = place; base = base + (top + 1); left = k; this = Ref i.receiver; below = below_it ∷ bs; slots = f; world = y }

      begins : Comes (run_into into p) code here inside
      begins = steps (run_into into p) code here inside call h (λ next. a next ∙ ap (λ z. entering z (moved here at k f y) next (Ref i.receiver) top false 0 k) e)

      ends : (o : Flow World) → CameBy (run_into into p) code inside below_it bs o → Flows (run_into into p) code (λ (x : World). x) (kind_at sc.result) here 1 (LocalsAt (kinds_in p sc.locals) base top) (came_back ls o)
      ends (goes_on ls2 x2 j) t =
          (t.0, joins (run_into into p) code begins t.1, ((λ i lt. ap (read_as ((kinds_in p sc.locals).locals i)) (t.2 (base + i) (omega (arith, lt, len))) ∙ locals i lt), len), (λ j lt. t.2 j (omega (arith, lt))), omega (arith, t.3))
      ends (gives_back w x2 j) t = joins_end (run_into into p) code begins t
      ends (stops z x2) t = joins_end (run_into into p) code begins t
      ends (runs_out x2) t = joins_end (run_into into p) code begins t

  hands : (n : ℕ) → HeedsRun n → (sc : Scope) (me : Datum) (bs : List Back) (base top : ℕ) (wide : length sc.locals ≡ top) → Hands (run_into into p) code p laid sc (WorldTyped p sc me) me bs base n top wide (room_within into p) (values_run into p code typed laid ops_laid n sc me) (value_calls into p code typed laid ops_laid sc me) (places into p code typed laid ops_laid sc me) (heeding_call marks) (λ ls i x k. noted_call marks (operations_of p) (listing_of into p marks) ls i x k)
  hands n heeds sc me bs base top wide line op class tys ls vs v x at k f h is_op of_class of_types is holds len good left locals = by v of_class h is
    where
      here : State World
      here = record { at = at; base = base; left = k; this = me; below = bs; slots = f; world = x }

      values : row f (base + (top + 1)) (kinds_there (slice_get code.params op.0)) ≡ vs
      values = arguments_are p code ops_laid x.heap op class tys vs f (base + (top + 1)) is_op of_types holds

      called : ℕ → Invocation
      called r = invocation r op vs

      remember : Invocation → World
      remember i = with_call x i k

      hand : Placed
      hand = on line (Hand op top)

      heed : Placed
      heed = on line (Heed op top)

      -- what is given where its run is this
      by_its_run : ℕ → Flow World → Next World → Outcome World
      by_its_run r o next = handed_call (slice_get code.ops op.0) here next r top k (behind_or [] (remember (called r)) o)

      does_hand : (v : Datum) → read_as as_pointer (f (base + top)) ≡ v → (next : Next World) → act (run_into into p) code line (Some hand.instruction) next here ≡ after (pointed line v k) x (λ r j. handed_call (slice_get code.ops op.0) here next r top j (handed_by into p x (called r) j))
      does_hand v is next = ap (λ y. after (pointed line y k) x (λ r j. handed_call (slice_get code.ops op.0) here next r top j (handed_by into p x (invocation r op (row f (base + (top + 1)) (kinds_there (slice_get code.params op.0)))) j))) is ∙ ap (λ y. after (pointed line v k) x (λ r j. handed_call (slice_get code.ops op.0) here next r top j (handed_by into p x (invocation r op y) j))) values

      -- what is given, where it is gone into or its run decides
      given : ℕ → Bool → Next World → Outcome World
      given r b next = handed_call (slice_get code.ops op.0) here next r top k (either b (plainly (remember (called r))) (behind_or [] (remember (called r)) (serial_ops p (called r ∷ []) (remember (called r)) k)))

      -- its run decides
      decides : (r : ℕ) (o : Flow World) → into (length x.notes) ≡ false → read_as as_pointer (f (base + top)) ≡ Ref r → serial_ops p (called r ∷ []) (remember (called r)) k ≡ o → (next : Next World) → act (run_into into p) code line (Some hand.instruction) next here ≡ by_its_run r o next
      decides r o out is e next = does_hand (Ref r) is next ∙ (ap (λ b. given r b next) out ∙ ap (λ o. by_its_run r o next) e)

      does_heed : (v : Datum) → read_as as_pointer (f (base + top)) ≡ v → (next : Next World) → act (run_into into p) code line (Some heed.instruction) next here ≡ after (pointed line v k) x (λ r j. invoking (slice_get code.heeding op.0) here next r top j (enters x))
      does_heed v is next = ap (λ y. after (pointed line y k) x (λ r j. invoking (slice_get code.heeding op.0) here next r top j (enters x))) is

      -- where that isn't done the body is entered
      entered : (r : ℕ) → WellTyped p x.heap (called r) → IsAt code at hand → ((next : Next World) → act (run_into into p) code line (Some hand.instruction) next here ≡ invoking (slice_get code.ops op.0) here next r top k (enters (remember (called r)))) → Flows (run_into into p) code (λ (x : World). x) (kind_at sc.result) here 1 (LocalsAt (kinds_in p sc.locals) base top) (run_call (operations_of p) ls (called r) (remember (called r)) k)
      entered r well h a =
          let place = starts into p code typed laid ops_laid x.heap op.0 r vs (slice_get p.ops op.0) refl well in
          enters_runs sc me bs base top line (operations_of p) (called r) hand (slice_get code.ops op.0) place.0 ls x (remember (called r)) at k f place.1 h a len locals
          (λ j e. operations_run into p code typed laid ops_laid k (called r) (remember (called r)) place.0 (base + (top + 1)) j (record { at = at + 1; base = base; this = me; wants = false; to = 0 }) bs f refl (omega (arith, e)) place.1 good.0.heap well holds)

      by_run : (r : ℕ) → WellTyped p x.heap (called r) → IsAt code at hand → into (length x.notes) ≡ false → read_as as_pointer (f (base + top)) ≡ Ref r → (o : Flow World) → serial_ops p (called r ∷ []) (remember (called r)) k ≡ o → NearFlow k o o → Flows (run_into into p) code (λ (x : World). x) (kind_at sc.result) here 1 (LocalsAt (kinds_in p sc.locals) base top) (run_call (operations_of p) ls (called r) (remember (called r)) k)
      by_run r well h out is (goes_on ms z j) e near =
          subst (λ o. Flows (run_into into p) code (λ (x : World). x) (kind_at sc.result) here 1 (LocalsAt (kinds_in p sc.locals) base top) o) (sym (one_call p (called r) (remember (called r)) z ms ls k j e))
          (f, steps (run_into into p) code here (moved here (at + 1) j f z) hand h (decides r (goes_on ms z j) out is e), (locals, len), (λ j lt. refl), left_of_flow near refl)
      by_run r well h out is (gives_back v z j) e near = entered r well h (decides r (gives_back v z j) out is e)
      by_run r well h out is (stops t z) e near = entered r well h (decides r (stops t z) out is e)
      by_run r well h out is (runs_out z) e near = entered r well h (decides r (runs_out z) out is e)

      by_choice : (b : Bool) → into (length x.notes) ≡ b → (r : ℕ) → WellTyped p x.heap (called r) → IsAt code at hand → read_as as_pointer (f (base + top)) ≡ Ref r → Flows (run_into into p) code (λ (x : World). x) (kind_at sc.result) here 1 (LocalsAt (kinds_in p sc.locals) base top) (run_call (operations_of p) ls (called r) (remember (called r)) k)
      by_choice true within r well h is = entered r well h (λ next. does_hand (Ref r) is next ∙ ap (λ b. given r b next) within)
      by_choice false out r well h is = by_run r well h out is (serial_ops p (called r ∷ []) (remember (called r)) k) refl (list_self p (called r ∷ []) (remember (called r)) k)

      by_mark : (b : Bool) (r : ℕ) → WellTyped p x.heap (called r) → IsAt code at (on line (either b (Hand op top) (Heed op top))) → read_as as_pointer (f (base + top)) ≡ Ref r → Flows (run_into into p) code (λ (x : World). x) (kind_at sc.result) here 1 (LocalsAt (kinds_in p sc.locals) base top) (either b (run_call (operations_of p) ls (called r) (remember (called r)) k) (run_call (listing_of into p marks) ls (called r) x k))
      by_mark true r well h is = by_choice (into (length x.notes)) refl r well h is
      by_mark false r well h is =
          let place = heeds_from x.heap op.0 r vs (slice_get p.ops op.0) refl well in
          enters_runs sc me bs base top line (listing_of into p marks) (called r) heed (slice_get code.heeding op.0) place.0 ls x x at k f place.1 h (does_heed (Ref r) is) len locals
          (λ j e. heeds (called r) x place.0 (base + (top + 1)) j (record { at = at + 1; base = base; this = me; wants = false; to = 0 }) bs f refl (omega (arith, e, left)) place.1 good.0.heap well holds)

      by_trap : (b : Bool) (v : Datum) → IsAt code at (on line (either b (Hand op top) (Heed op top))) → read_as as_pointer (f (base + top)) ≡ v → pointed line v k ≡ traps (trap_at line NullPointer) → Ends (run_into into p) code here (Trapped (trap_at line NullPointer) x)
      by_trap true v h is e = steps_end (run_into into p) code here (Trapped (trap_at line NullPointer) x) hand h (λ next. does_hand v is next ∙ ap (λ y. after y x (λ r j. handed_call (slice_get code.ops op.0) here next r top j (handed_by into p x (called r) j))) e)
      by_trap false v h is e = steps_end (run_into into p) code here (Trapped (trap_at line NullPointer) x) heed h (λ next. does_heed v is next ∙ ap (λ y. after y x (λ r j. invoking (slice_get code.heeding op.0) here next r top j (enters x))) e)

      by : (v : Datum) → HasType x.heap v (Pointer class) → IsAt code at (on line (heeding_call marks op top)) → read_as as_pointer (f (base + top)) ≡ v → Flows (run_into into p) code (λ (x : World). x) (kind_at sc.result) here 1 (LocalsAt (kinds_in p sc.locals) base top) (with (pointed line v k >>= λ r k. gives (invocation r op vs) k) x (λ i k. noted_call marks (operations_of p) (listing_of into p marks) ls i x k))
      by (Ref r) of_class h is = by_mark (op_in marks.ops op) r (operation_call x.heap (slice_get p.ops op.0) class tys r vs is_op of_class of_types) h is
      by (Long y) of_class h is = absurd of_class
      by (Truth y) of_class h is = absurd of_class
      by Null of_class h is = by_trap (op_in marks.ops op) Null h is refl

  -- a loop that is handed on
  loop_handed : (sc : Scope) (me : Datum) (bs : List Back) (base top : ℕ) → length sc.locals ≡ top → (s : Statement) (line : ℕ) (ls : List Datum) (x : World) (at k : ℕ) (f : Store) → HasAt code at (handed_code (kinds_in p sc.locals) (map kind_type sc.locals) line s top) → StatementTyped p sc s → length ls ≡ top → WorldTyped p sc me x → ValuesTyped x.heap ls sc.locals → Holds (kinds_in p sc.locals).locals f base ls → Flows (run_into into p) code (λ (x : World). x) (kind_at sc.result) (record { at = at; base = base; left = k; this = me; below = bs; slots = f; world = x }) (length (handed_code (kinds_in p sc.locals) (map kind_type sc.locals) line s top)) (LocalsAt (kinds_in p sc.locals) base top) (either (puts_nothing s) (by_section into p me line ls x s k (loop_section p x.heap me ls line s k)) (exec (serial_parts p me) line ls x s k))
  loop_handed sc me bs base top wide s line ls x at k f h t len good v holds = by (puts_nothing s) refl
    where
      here : State World
      here = record { at = at; base = base; left = k; this = me; below = bs; slots = f; world = x }

      plain : List Placed
      plain = plain_loop (kinds_in p sc.locals) line s top

      begin : Placed
      begin = begin_at line s (map kind_type sc.locals) (length plain)

      fits : (i : ℕ) (κ : Kind) → slice_get (map kind_type sc.locals) i ≡ Some κ → (kinds_in p sc.locals).locals i ≡ κ
      fits i κ e = all_mapped sc.locals i κ e

      many : length ls ≡ length (map kind_type sc.locals)
      many = len ∙ sym wide ∙ sym (length_mapped kind_type sc.locals)

      values : row f base (map kind_type sc.locals) ≡ ls
      values = row_is (kinds_in p sc.locals).locals (map kind_type sc.locals) ls f base many fits holds

      does : (b : Bool) → puts_nothing s ≡ b → (next : Next World) → act (run_into into p) code line (Some begin.instruction) next here ≡ beginning_by (map kind_type sc.locals) here next (length plain) (either b (begun_with into p x k (loop_section p x.heap me ls line s k)) (plainly x))
      does b e next = ap (λ y. handing (run_into into p) line here next (length plain) y) h.0.2 ∙ ap (λ y. beginning_by (map kind_type sc.locals) here next (length plain) (begun_by into p me line y x s k)) values ∙ ap (λ y. beginning_by (map kind_type sc.locals) here next (length plain) (either y (begun_with into p x k (loop_section p x.heap me ls line s k)) (plainly x))) e

      -- it runs in place of that
      runs : (y : World) → WorldTyped p sc me y → ValuesTyped y.heap ls sc.locals → ((next : Next World) → act (run_into into p) code line (Some begin.instruction) next here ≡ beginning_by (map kind_type sc.locals) here next (length plain) (plainly y)) → Flows (run_into into p) code (λ (x : World). x) (kind_at sc.result) here (length (begin ∷ plain)) (LocalsAt (kinds_in p sc.locals) base top) (exec (serial_parts p me) line ls y s k)
      runs y good v a =
          let r = both_run into p code typed laid ops_laid k in
          step_flows (run_into into p) code (λ (x : World). x) (kind_at sc.result) here k f y begin plain (LocalsAt (kinds_in p sc.locals) base top) h a (λ j lt. refl) (omega arith) (exec (serial_parts p me) line ls y s k)
          (λ h. statement_runs (run_into into p) code p true (λ (x : World). x) (all_acts (kinds_in p sc.locals)) no_hands (serial_parts p me) sc heap_of (WorldTyped p sc me) me bs base k top (parts_run into p code typed laid ops_laid k r.0 r.1 sc me bs base top wide) s line ls y (at + 1) k f h (t, each_may s) len (good, v) (omega arith) holds)

      -- behind it, with its locals
      passed : (m : LoopOutcome) (z : World) (i j : ℕ) → length m.locals ≡ top → j ≤ k → i ≤ j → all_have (map kind_type sc.locals) m.locals ≡ true → ((next : Next World) → act (run_into into p) code line (Some begin.instruction) next here ≡ beginning_by (map kind_type sc.locals) here next (length plain) (behind m.locals z i)) → Flows (run_into into p) code (λ (x : World). x) (kind_at sc.result) here (length (begin ∷ plain)) (LocalsAt (kinds_in p sc.locals) base top) (goes_on m.locals z i)
      passed m z i j count le less have a =
          let e : at + 1 + length plain ≡ at + length (begin ∷ plain) = omega arith in
          (loaded f base m.locals, subst (λ q. Comes (run_into into p) code here (moved here q i (loaded f base m.locals) z)) e (steps (run_into into p) code here (moved here (at + 1 + length plain) i (loaded f base m.locals) z) begin h.0 (λ next. a next ∙ ap (λ y. cond y (next (moved here (at + 1 + length plain) i (loaded f base m.locals) z)) Wanting) have)), (loaded_is (kinds_in p sc.locals).locals (map kind_type sc.locals) m.locals f base have fits, count), (λ j lt. loaded_below m.locals f base j lt), omega (arith, less, le))

      listed_by : (m : LoopOutcome) (y : World) (j : ℕ) → WorldTyped p sc me y → ValuesTyped y.heap ls sc.locals → length m.locals ≡ top → all_have (map kind_type sc.locals) m.locals ≡ true → j ≤ k → (o : Flow World) → NearFlow j o o → ((next : Next World) → act (run_into into p) code line (Some begin.instruction) next here ≡ beginning_by (map kind_type sc.locals) here next (length plain) (behind_or m.locals y o)) → Flows (run_into into p) code (λ (x : World). x) (kind_at sc.result) here (length (begin ∷ plain)) (LocalsAt (kinds_in p sc.locals) base top) (behind_list m.locals o (exec (serial_parts p me) line ls y s k))
      listed_by m y j good v count have le (goes_on l2 z i) near a = passed m z i j count le (left_of_flow near refl) have a
      listed_by m y j good v count have le (gives_back u z i) near a = runs y good v a
      listed_by m y j good v count have le (stops z x) near a = runs y good v a
      listed_by m y j good v count have le (runs_out z) near a = runs y good v a

      by_choice : (m : LoopOutcome) → LeavesTyped p x.heap sc (loop_done m) → (b : Bool) → ((next : Next World) → act (run_into into p) code line (Some begin.instruction) next here ≡ beginning_by (map kind_type sc.locals) here next (length plain) (either b (plainly (with_list x k m)) (behind_or m.locals (with_list x k m) (serial_ops p m.listed (with_list x k m) (k - m.steps))))) → Flows (run_into into p) code (λ (x : World). x) (kind_at sc.result) here (length (begin ∷ plain)) (LocalsAt (kinds_in p sc.locals) base top) (either b (exec (serial_parts p me) line ls (with_list x k m) s k) (behind_list m.locals (serial_ops p m.listed (with_list x k m) (k - m.steps)) (exec (serial_parts p me) line ls (with_list x k m) s k)))
      by_choice m leaves true a = runs (with_list x k m) (record { heap = good.heap; receiver = good.receiver }) v a
      by_choice m leaves false a =
          let y = with_list x k m in
          listed_by m y (k - m.steps) (record { heap = good.heap; receiver = good.receiver }) v (values_counted x.heap m.locals sc.locals leaves.0 ∙ wide) (all_of_kind x.heap m.locals sc.locals leaves.0) (omega arith) (serial_ops p m.listed y (k - m.steps)) (list_self p m.listed y (k - m.steps)) a

      by_loop : (o : LoopSectioned) → LeavesTyped p x.heap sc o → ((next : Next World) → act (run_into into p) code line (Some begin.instruction) next here ≡ beginning_by (map kind_type sc.locals) here next (length plain) (begun_with into p x k o)) → Flows (run_into into p) code (λ (x : World). x) (kind_at sc.result) here (length (begin ∷ plain)) (LocalsAt (kinds_in p sc.locals) base top) (by_section into p me line ls x s k o)
      by_loop (loop_done m) leaves a = by_choice m leaves (into (length x.notes)) a
      by_loop (loop_stopped z) leaves a = runs x good v a
      by_loop loop_over leaves a = runs x good v a

      by : (b : Bool) → puts_nothing s ≡ b → Flows (run_into into p) code (λ (x : World). x) (kind_at sc.result) here (length (begin ∷ plain)) (LocalsAt (kinds_in p sc.locals) base top) (either b (by_section into p me line ls x s k (loop_section p x.heap me ls line s k)) (exec (serial_parts p me) line ls x s k))
      by true e = by_loop (loop_section p x.heap me ls line s k) (loop_leaves p typed x.heap good.heap sc me good.receiver s t line ls k v) (does true e)
      by false e = runs x good v (does false e)

  none_is : {cx : List Placed} → None ≡ Some cx → ⊥
  none_is e = cc

  some_is : {a b : List Placed} → Some a ≡ Some b → a ≡ b
  some_is e = cc

  heed_parts : (n : ℕ) → HeedsRun n → HeedsAgain n → (sc : Scope) (me : Datum) (bs : List Back) (base top : ℕ) → length sc.locals ≡ top → PartsRun (run_into into p) code p true (λ (x : World). x) (heed_acts marks (kinds_in p sc.locals)) (heed_hands marks (kinds_in p sc.locals) (map kind_type sc.locals)) (listing_parts into p marks (listing_of into p marks) me) sc heap_of (WorldTyped p sc me) me bs base n top
  heed_parts n heeds agains sc me bs base top wide = record {
    types = listing_parts_typed p typed marks into (listing_of into p marks) (listing_typed p typed marks into) sc me;
    wide = wide;
    values = λ e ty t line to ls x at k f h len good le left holds.
        expression_runs (run_into into p) code p laid sc (here at k f x) (functions_of p.functions x.heap).call n (values_run into p code typed laid ops_laid n sc me x good.0) (value_calls into p code typed laid ops_laid sc me x good.0) e ty t line to top ls (places into p code typed laid ops_laid sc me line ls x good.0 good.1) at k f h (omega (arith, len)) le left holds;
    operands = λ e ty t line ls x at k f h len good left holds.
        operand_runs (run_into into p) code p laid sc (here at k f x) (functions_of p.functions x.heap).call n (values_run into p code typed laid ops_laid n sc me x good.0) (value_calls into p code typed laid ops_laid sc me x good.0) e ty t line top ls (places into p code typed laid ops_laid sc me line ls x good.0 good.1) at k f h (omega (arith, len)) left holds;
    acts = λ s line ls x at k f is h fits len good left holds. made s line ls x at k f is h fits.0 len good left holds;
    agains = λ s line ls x at k f is h fits len good lt holds. agains sc me bs base top wide s line ls x at k f is h fits.0 len good.0 good.1 lt holds;
    begins = λ line ls x s k plain e. unmarked line ls x s k plain (loop_in marks.loops s) refl e;
    handed = λ line ls x s at k f plain cx e h fits len good left holds. marked line ls x s at k f plain cx (loop_in marks.loops s) refl e h fits.0 len good.0 good.1 holds;
  }
    where
      here : ℕ → ℕ → Store → World → State World
      here at k f x = record { at = at; base = base; left = k; this = me; below = bs; slots = f; world = x }

      made : (s : Statement) (line : ℕ) (ls : List Datum) (x : World) (at k : ℕ) (f : Store) → IsAct s → HasAt code at (heed_acts marks (kinds_in p sc.locals) line s top) → StatementTyped p sc s → length ls ≡ top → Sound heap_of (WorldTyped p sc me) sc ls x → k ≤ n → Holds (kinds_in p sc.locals).locals f base ls → Flows (run_into into p) code (λ (x : World). x) (kind_at sc.result) (here at k f x) (length (heed_acts marks (kinds_in p sc.locals) line s top)) (LocalsAt (kinds_in p sc.locals) base top) (acted (listing_parts into p marks (listing_of into p marks) me) line ls x s k)
      made (invoke l e op es) line ls x at k f is h t len good left holds =
          invokes (run_into into p) code p laid sc (WorldTyped p sc me) me bs base n top wide (room_within into p) (values_run into p code typed laid ops_laid n sc me) (value_calls into p code typed laid ops_laid sc me) (places into p code typed laid ops_laid sc me) (heeding_call marks) (λ ls i x k. noted_call marks (operations_of p) (listing_of into p marks) ls i x k) (hands n heeds sc me bs base top wide) e op es t.0 t.1 line ls x at k f h t.3 t.4 t.5 len good left holds
      made (put_field l y op e) line ls x at k f is h t len good left holds = acts_run (run_into into p) code p laid sc (WorldTyped p sc me) me bs base n top wide (room_within into p) (values_run into p code typed laid ops_laid n sc me) (value_calls into p code typed laid ops_laid sc me) (places into p code typed laid ops_laid sc me) (put_field l y op e) line ls x at k f tt h t len good left holds
      made (put_item l y i op e) line ls x at k f is h t len good left holds = acts_run (run_into into p) code p laid sc (WorldTyped p sc me) me bs base n top wide (room_within into p) (values_run into p code typed laid ops_laid n sc me) (value_calls into p code typed laid ops_laid sc me) (places into p code typed laid ops_laid sc me) (put_item l y i op e) line ls x at k f tt h t len good left holds
      made (new_local l y c) line ls x at k f is h t len good left holds = acts_run (run_into into p) code p laid sc (WorldTyped p sc me) me bs base n top wide (room_within into p) (values_run into p code typed laid ops_laid n sc me) (value_calls into p code typed laid ops_laid sc me) (places into p code typed laid ops_laid sc me) (new_local l y c) line ls x at k f tt h t len good left holds
      made (new_field l y c) line ls x at k f is h t len good left holds = acts_run (run_into into p) code p laid sc (WorldTyped p sc me) me bs base n top wide (room_within into p) (values_run into p code typed laid ops_laid n sc me) (value_calls into p code typed laid ops_laid sc me) (places into p code typed laid ops_laid sc me) (new_field l y c) line ls x at k f tt h t len good left holds
      made (new_item l y i c) line ls x at k f is h t len good left holds = acts_run (run_into into p) code p laid sc (WorldTyped p sc me) me bs base n top wide (room_within into p) (values_run into p code typed laid ops_laid n sc me) (value_calls into p code typed laid ops_laid sc me) (places into p code typed laid ops_laid sc me) (new_item l y i c) line ls x at k f tt h t len good left holds
      made (print_value l e) line ls x at k f is h t len good left holds = acts_run (run_into into p) code p laid sc (WorldTyped p sc me) me bs base n top wide (room_within into p) (values_run into p code typed laid ops_laid n sc me) (value_calls into p code typed laid ops_laid sc me) (places into p code typed laid ops_laid sc me) (print_value l e) line ls x at k f tt h t len good left holds
      made other line ls x at k f is h t len good left holds = absurd is

      unmarked : (line : ℕ) (ls : List Datum) (x : World) (s : Statement) (k : ℕ) (plain : Flow World) (b : Bool) → loop_in marks.loops s ≡ b → either (loop_in marks.loops s) (Some (handed_code (kinds_in p sc.locals) (map kind_type sc.locals) line s top)) None ≡ None → listing_loop into p marks me line ls x s k plain ≡ plain
      unmarked line ls x s k plain true z e = absurd (none_is (sym (ap (λ y. either y (Some (handed_code (kinds_in p sc.locals) (map kind_type sc.locals) line s top)) None) (sym z) ∙ e)))
      unmarked line ls x s k plain false z e = ap (λ y. either y (either (puts_nothing s) (by_section into p me line ls x s k (loop_section p x.heap me ls line s k)) (exec (serial_parts p me) line ls x s k)) plain) z

      marked : (line : ℕ) (ls : List Datum) (x : World) (s : Statement) (at k : ℕ) (f : Store) (plain : Flow World) (cx : List Placed) (b : Bool) → loop_in marks.loops s ≡ b → either (loop_in marks.loops s) (Some (handed_code (kinds_in p sc.locals) (map kind_type sc.locals) line s top)) None ≡ Some cx → HasAt code at cx → StatementTyped p sc s → length ls ≡ top → WorldTyped p sc me x → ValuesTyped x.heap ls sc.locals → Holds (kinds_in p sc.locals).locals f base ls → Flows (run_into into p) code (λ (x : World). x) (kind_at sc.result) (here at k f x) (length cx) (LocalsAt (kinds_in p sc.locals) base top) (listing_loop into p marks me line ls x s k plain)
      marked line ls x s at k f plain cx true z e h t len good v holds =
          let is : handed_code (kinds_in p sc.locals) (map kind_type sc.locals) line s top ≡ cx = some_is (ap (λ y. either y (Some (handed_code (kinds_in p sc.locals) (map kind_type sc.locals) line s top)) None) (sym z) ∙ e) in
          subst (λ y. Flows (run_into into p) code (λ (x : World). x) (kind_at sc.result) (here at k f x) (length cx) (LocalsAt (kinds_in p sc.locals) base top) (either y (either (puts_nothing s) (by_section into p me line ls x s k (loop_section p x.heap me ls line s k)) (exec (serial_parts p me) line ls x s k)) plain)) (sym z)
          (subst (λ y. Flows (run_into into p) code (λ (x : World). x) (kind_at sc.result) (here at k f x) (length y) (LocalsAt (kinds_in p sc.locals) base top) (either (puts_nothing s) (by_section into p me line ls x s k (loop_section p x.heap me ls line s k)) (exec (serial_parts p me) line ls x s k))) is
          (loop_handed sc me bs base top wide s line ls x at k f (subst (λ y. HasAt code at y) (sym is) h) t len good v holds))
      marked line ls x s at k f plain cx false z e h t len good v holds = absurd (none_is (ap (λ y. either y (Some (handed_code (kinds_in p sc.locals) (map kind_type sc.locals) line s top)) None) (sym z) ∙ e))

  again_too : (n : ℕ) → HeedsRun n → HeedsAgain n → HeedsAgain (suc n)
  again_too n heeds agains sc me bs base top wide s line ls x at k f is h t len good v lt holds =
      subst (λ o. Flows (run_into into p) code (λ (x : World). x) (kind_at sc.result) (record { at = at + length (body_of_loop (kinds_in p sc.locals) (heed_acts marks (kinds_in p sc.locals)) (heed_hands marks (kinds_in p sc.locals) (map kind_type sc.locals)) line s top); base = base; left = k; this = me; below = bs; slots = f; world = x }) (length (tail_of_loop (kinds_in p sc.locals) (heed_acts marks (kinds_in p sc.locals)) (heed_hands marks (kinds_in p sc.locals) (map kind_type sc.locals)) line s top)) (LocalsAt (kinds_in p sc.locals) base top) o) (sym (listing_loop_runs p marks into me line ls x s k))
      (loop_runs (run_into into p) code p true (λ (x : World). x) (heed_acts marks (kinds_in p sc.locals)) (heed_hands marks (kinds_in p sc.locals) (map kind_type sc.locals)) (listing_parts into p marks (listing_of into p marks) me) sc heap_of (WorldTyped p sc me) me bs base n top (heed_parts n heeds agains sc me bs base top wide) s line ls x at k f is h (t, each_may s) len (good, v) (omega (arith, lt)) holds)

  body_heeds : (n : ℕ) → HeedsRun n → HeedsAgain n → (m : PlainMethod) (i : ℕ) → slice_get p.ops i ≡ Some m → (r : ℕ) (vs : List Datum) (x : World) (at base k : ℕ) (b : Back) (bs : List Back) (f : Store) → b.wants ≡ false → k ≤ n → HasAt code at (heeding_code marks p m) → TypedHeap p x.heap → CallTyped x.heap (Some m) r vs → Holds (kinds_of p m).locals f base vs → CameBy (run_into into p) code (record { at = at; base = base; left = k; this = Ref r; below = b ∷ bs; slots = f; world = x }) b bs (exec_all (listing_parts into p marks (listing_of into p marks) (Ref r)) (vs ++ map start_of (others_of m)) x m.body.statements k)
  body_heeds n heeds agains m i found r vs x at base k b bs f wants left h typed_heap call holds =
      let mt = typed.ops i m found in
      let params : m.params ≡ length vs = arguments_counted x.heap m vs mt.method.parameters call.1 in
      let first = starts_code m.params (others_of m) in
      let body = statements_code (kinds_of p m) (heed_acts marks (kinds_of p m)) (heed_hands marks (kinds_of p m) (map kind_type m.body.locals)) m.body.statements (width_of m) in
      let g = begun (run_into into p) code (kinds_of p m).locals m.params (others_of m) (there at f) vs (sym params) (other_kinds p m) (has_front code at first (body ++ on 0 Leave ∷ []) h) holds in
      let ls = vs ++ map start_of (others_of m) in
      let len : length ls ≡ width_of m = omega (arith, length-append vs (map start_of (others_of m)), length_mapped start_of (others_of m), params) in
      let hb = has_back code at first (body ++ on 0 Leave ∷ []) h in
      let flows = statements_run (run_into into p) code p true (λ (x : World). x) (heed_acts marks (kinds_of p m)) (heed_hands marks (kinds_of p m) (map kind_type m.body.locals)) (listing_parts into p marks (listing_of into p marks) (Ref r)) (scope_of m) heap_of (WorldTyped p (scope_of m) (Ref r)) (Ref r) (b ∷ bs) base n (width_of m) (heed_parts n heeds agains (scope_of m) (Ref r) (b ∷ bs) base (width_of m) (sym (width_is m mt.method.parameters))) m.body.statements ls x (at + length first) k g.0 (has_front code (at + length first) body (on 0 Leave ∷ []) hb) (mt.method.body, all_may m.body.statements) len (record { heap = typed_heap; receiver = call.0 }, frame_typed x.heap vs m.params m.body.locals call.1) left g.2 in
      came_after into p code typed laid ops_laid (there at f) (there (at + length first) g.0) b bs (exec_all (listing_parts into p marks (listing_of into p marks) (Ref r)) ls x m.body.statements k) g.1 refl g.3 (omega arith)
      (came_from into p code typed laid ops_laid (kinds_of p m) (kind_at m.result) (there (at + length first) g.0) (length body) (width_of m) b bs refl wants (has_back code (at + length first) body (on 0 Leave ∷ []) hb).0 (exec_all (listing_parts into p marks (listing_of into p marks) (Ref r)) ls x m.body.statements k) flows)
    where
      there : ℕ → Store → State World
      there at f = record { at = at; base = base; left = k; this = Ref r; below = b ∷ bs; slots = f; world = x }

  heeds_too : (n : ℕ) → HeedsRun n → HeedsAgain n → HeedsRun (suc n)
  heeds_too n heeds agains i x at base k b bs f wants lt place typed_heap well holds =
      subst (λ o. CameBy (run_into into p) code (record { at = at; base = base; left = k; this = Ref i.receiver; below = b ∷ bs; slots = f; world = x }) b bs o) (sym (listing_invoke_runs p marks into i x k)) (by (slice_get p.ops i.op.0) refl well holds)
    where
      at_its_place : (o : Option ℕ) (x : List Placed) → o ≡ Some at → StandsAt code o x → HasAt code at x
      at_its_place o x e h = subst (λ o. StandsAt code o x) e h

      by : (o : Option PlainMethod) → slice_get p.ops i.op.0 ≡ o → CallTyped x.heap o i.receiver i.arguments → Holds (λ j. param_kind o j) f base i.arguments → CameBy (run_into into p) code (record { at = at; base = base; left = k; this = Ref i.receiver; below = b ∷ bs; slots = f; world = x }) b bs (exec_all (listing_parts into p marks (listing_of into p marks) (Ref i.receiver)) (locals_of o i.arguments) x (body_of o) k)
      by None e t holds = absurd t
      by (Some m) e t holds = body_heeds n heeds agains m i.op.0 e i.receiver i.arguments x at base k b bs f wants (omega (arith, lt)) (at_its_place (slice_get code.heeding i.op.0) (heeding_code marks p m) place (heeding_laid i.op.0 m e)) typed_heap t holds

  both_heed : (n : ℕ) → HeedsRun n × HeedsAgain n
  both_heed zero = ((λ i x at base k b bs f wants lt place typed_heap well holds. absurd (omega (arith, lt))), (λ sc me bs base top wide s line ls x at k f is h t len good v lt holds. absurd (omega (arith, lt))))
  both_heed (suc n) = let r = both_heed n in (heeds_too n r.0 r.1, again_too n r.0 r.1)

  -- a whole run that heeds marks
  pub main_heeds : (at k : ℕ) → MainHeeds marks p code at → Ends (run_into into p) code (beginning at k) (outcome_of (listing_run into p marks k))
  main_heeds at k h =
      let locals = map start_of p.main.locals in
      let first = starts_code 0 p.main.locals in
      let body = statements_code (main_kinds p) (heed_acts marks (main_kinds p)) (heed_hands marks (main_kinds p) (map kind_type p.main.locals)) p.main.statements (length p.main.locals) in
      let z : (i : ℕ) → (main_kinds p).locals (0 + i) ≡ kind_at (slice_get p.main.locals i) = λ i. let e : 0 + i ≡ i = omega arith in ap (λ j. kind_at (slice_get p.main.locals j)) e in
      let g = begun (run_into into p) code (main_kinds p).locals 0 p.main.locals (beginning at k) [] refl z (has_front code at first (body ++ on 0 Leave ∷ []) h) (λ i lt. absurd (omega (arith, lt))) in
      let hb = has_back code at first (body ++ on 0 Leave ∷ []) h in
      let both = both_heed k in
      let flows = statements_run (run_into into p) code p true (λ (x : World). x) (heed_acts marks (main_kinds p)) (heed_hands marks (main_kinds p) (map kind_type p.main.locals)) (listing_parts into p marks (listing_of into p marks) Null) (main_scope p) heap_of (WorldTyped p (main_scope p) Null) Null [] 0 k (length p.main.locals) (heed_parts k both.0 both.1 (main_scope p) Null [] 0 (length p.main.locals) refl) p.main.statements locals (fresh []) (at + length first) k g.0 (has_front code (at + length first) body (on 0 Leave ∷ []) hb) (typed.main, all_may p.main.statements) (length_mapped start_of p.main.locals) (record { heap = tt; receiver = tt }, starts_typed [] p.main.locals) (omega arith) g.2 in
      joins_end (run_into into p) code g.1 (ends (at + length first) g.0 (length body) (length p.main.locals) (has_back code (at + length first) body (on 0 Leave ∷ []) hb).0 (listing_run into p marks k) flows)
    where
      there : ℕ → ℕ → Store → World → State World
      there at j f x = record { at = at; base = 0; left = j; this = Null; below = []; slots = f; world = x }

      ends : (at : ℕ) (f : Store) (l n : ℕ) → IsAt code (at + l) (on 0 Leave) → (o : Flow World) → Flows (run_into into p) code (λ (x : World). x) as_pointer (there at k f (fresh [])) l (LocalsAt (main_kinds p) 0 n) o → Ends (run_into into p) code (there at k f (fresh [])) (outcome_of o)
      ends at f l n h (goes_on ls x j) t = joins_end (run_into into p) code t.1 (steps_end (run_into into p) code (there (at + l) j t.0 x) (Finished x j) (on 0 Leave) h (λ next. refl))
      ends at f l n h (gives_back v x j) t = joins_end (run_into into p) code t.4 (steps_end (run_into into p) code (there t.1 j t.0 x) (Spent x) (on t.3 (Return t.2)) t.5 (λ next. refl))
      ends at f l n h (stops y x) t = t
      ends at f l n h (runs_out x) t = t
