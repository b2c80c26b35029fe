-- Whoever lists the calls of marked loops first runs what the run with marks does.
use Rattle.std.proofs.Common.{◌≡◌, ℕ, zero, suc, ◌≤◌, ◌-◌, List, [], ◌∷◌, ◌++◌, Option, Some, None, refl, sym, ap, ◌∙◌, true, false, Bool, length, map, arith}
use Rattle.std.specs.Prelude.{slice_get}
use Rattle.ca_lists.proofs.Members.{has_nothing, has_first}
use Rattle.ca_program.specs.declared.program.FirstPart.{FirstPart}
use Rattle.ca_program.specs.declared.program.LoopId.{LoopId}
use Rattle.ca_program.specs.declared.program.ValueType.{ValueType}
use Rattle.ca_program.specs.declared.program.ValueType.TheVariants.{Bool as BoolType}
use Rattle.ca_program.specs.Plain.{PlainProgram, PlainMethod, Expression, Statement, Statements, block, put_local, put_field, put_item, new_local, new_field, new_item, invoke, if_else, while_loop, for_loop, return_value, print_value, no_statements, statement_and}
use Rattle.ca_model.specs.declared.value.Value.{Value as Datum}
use Rattle.ca_model.specs.declared.value.Value.TheVariants.{Long, Bool as Truth, Null, Ref}
use Rattle.ca_model.specs.declared.value.Object.{Object}
use Rattle.ca_model.specs.Slots.{start_of}
use Rattle.ca_model.specs.Typed.{HasType, TypedHeap}
use Rattle.ca_meaning.specs.Expressions.{Out, gives, traps, over, take_step, Invocation, due}
use Rattle.ca_meaning.specs.Flows.{Flow, goes_on, gives_back, stops, runs_out, and_on, with, choose, Parts, line_of, turn_of, exec, exec_all, turn}
use Rattle.ca_meaning.specs.Functions.{place, body_of, locals_of, functions_of, value_in}
use Rattle.ca_meaning.specs.Serial.{World, fresh, Operations, came_back, run_call, operation_parts, operations, operations_of, serial_parts, serial_ops}
use Rattle.ca_meaning.specs.Sections.{LoopSectioned, loop_done, loop_stopped, loop_over, loop_section}
use Rattle.ca_meaning.proofs.Near.{le_self, NearFlow, both_go, both_return, both_stop, both_run_out, flow_same, flow_more, flow_go, flow_with, flow_on, CloseParts, exec_near, all_exec_near, loop_near}
use Rattle.ca_meaning.proofs.Fix.{eval_self, due_self, act_self, CloseOps, run_near, operation_agree, close_ops, close_all_ops}
use Rattle.ca_parallel.specs.Bodies.{targets_of}
use Rattle.ca_parallel.specs.Lists.{PlainMarks, op_in, loop_in, note, noted, either, noted_call, loop_noted, noted_loop, noted_parts, noted_operations, noted_of, noted_run}
use Rattle.ca_meaning.specs.WellTyped.{ValuesTyped, CallTyped, WellTyped}
use Rattle.ca_meaning.specs.ProgramTyped.{Scope, ExpressionTyped, StatementTyped, StatementsTyped, scope_of, MethodTyped, OperationTyped, main_scope, ProgramTyped}
use Rattle.ca_meaning_laws.specs.Typed.{Yields, yields, Extends, goes_on_typed, runs_out_typed, runs_out_kept, WorldTyped, heap_of}
use Rattle.ca_meaning_laws.proofs.Values.{starts_typed, frame_typed}
use Rattle.ca_meaning_laws.proofs.Heaps.{extends_self}
use Rattle.ca_meaning_laws.proofs.Evals.{due_typed}
use Rattle.ca_meaning_laws.proofs.Statements.{typed_on}
use Rattle.ca_meaning_laws.proofs.FunctionTypes.{serial_place, calls_typed}
use Rattle.ca_parallel.specs.Bodies.{fors_in, fors_in_all}
use Rattle.ca_parallel.specs.Marks.{loops_of_program, SoundLoop, SoundMarks}
use Rattle.ca_order_laws.specs.Order.{then_looped}
use Rattle.ca_order_laws.proofs.Kept.{Within, within_left, within_right}
use Rattle.ca_order_laws.proofs.Loops.{loop_then_list}
use Rattle.ca_note_laws.proofs.Good.{same_site, loop_there, loops_inside, main_inside, NotesGood, Good, GoodFlow, NotedOps, exec_good, turn_good, value_typed, body_good, plain_all}
use Rattle.ca_note_laws.specs.Listing.{puts_nothing, is_empty, behind_list, CallLoopsPutNothing, ListsFirst, with_list, by_section, listing_loop, listing_parts, listing_operations, listing_of, listing_run}

-- ---- runs that give no steps back

behind_near : {n : ℕ} (ls : List Datum) {a b x y : Flow World} → NearFlow n a b → NearFlow n x y → NearFlow n (behind_list ls a x) (behind_list ls b y)
behind_near ls (both_go h) x = both_go h
behind_near ls (both_return h) x = x
behind_near ls both_stop x = x
behind_near ls both_run_out x = x

module _ (p : PlainProgram) where
  ops_self : (n : ℕ) → CloseOps n (operations_of p) (operations_of p)
  ops_self n = record {
    invokes = λ i w k lt. let c : CloseOps (suc k) (operations (suc k) p) (operations (suc k) p) = close_ops p (suc k) (suc k) (suc k) (le_self (suc k)) (le_self (suc k)) in c.invokes i w k (le_self (suc k));
    agains = λ this line ls w x k lt. let c : CloseOps (suc k) (operations (suc k) p) (operations (suc k) p) = close_ops p (suc k) (suc k) (suc k) (le_self (suc k)) (le_self (suc k)) in c.agains this line ls w x k (le_self (suc k));
  }

  plain_close : (n a : ℕ) → n ≤ a → CloseOps n (operations a p) (operations_of p)
  plain_close n a le = record {
    invokes = λ i w k lt. let c : CloseOps a (operations a p) (operations_of p) = close_all_ops p a in c.invokes i w k (omega arith);
    agains = λ this line ls w x k lt. let c : CloseOps a (operations a p) (operations_of p) = close_all_ops p a in c.agains this line ls w x k (omega arith);
  }

  serial_self : (this : Datum) (line : ℕ) (ls : List Datum) (w : World) (s : Statement) (k : ℕ) → NearFlow k (exec (serial_parts p this) line ls w s k) (exec (serial_parts p this) line ls w s k)
  serial_self this line ls w s k = exec_near k _ _ (operation_agree k p (operations_of p) (operations_of p) (ops_self k) this) s line ls w k (le_self k)

  pub list_self : (is : List Invocation) (w : World) (k : ℕ) → NearFlow k (serial_ops p is w k) (serial_ops p is w k)
  list_self [] w k = flow_go [] w k
  list_self (i ∷ is) w k = flow_on _ _ (run_near k (operations_of p) (operations_of p) (ops_self k) [] i w k (le_self k)) (λ ls w j le. list_self is w j)

  section_self : (into : ℕ → Bool) (this : Datum) (line : ℕ) (ls : List Datum) (w : World) (s : Statement) (k : ℕ) (o : LoopSectioned) → NearFlow k (by_section into p this line ls w s k o) (by_section into p this line ls w s k o)
  section_self into this line ls w s k (loop_done m) = from (into (length w.notes))
    where
      within : Flow World
      within = exec (serial_parts p this) line ls (with_list w k m) s k

      listed : Flow World
      listed = behind_list m.locals (serial_ops p m.listed (with_list w k m) (k - m.steps)) (exec (serial_parts p this) line ls (with_list w k m) s k)

      from : (b : Bool) → NearFlow k (either b within listed) (either b within listed)
      from true = serial_self this line ls (with_list w k m) s k
      from false =
          let le : k - m.steps ≤ k = omega arith in
          behind_near m.locals (flow_more le (list_self m.listed (with_list w k m) (k - m.steps))) (serial_self this line ls (with_list w k m) s k)
  section_self into this line ls w s k (loop_stopped t) = serial_self this line ls w s k
  section_self into this line ls w s k loop_over = serial_self this line ls w s k

  module _ (ms : PlainMarks) where
    call_near : (n : ℕ) (f g o u : Operations) → CloseOps n f g → CloseOps n o u → (ls : List Datum) (i : Invocation) (w : World) (k : ℕ) → k ≤ n → NearFlow k (noted_call ms f o ls i w k) (noted_call ms g u ls i w k)
    call_near n f g o u c d ls i w k le = from (op_in ms.ops i.op)
      where
        from : (b : Bool) → NearFlow k (either b (run_call f ls i (noted w (note w.heap (i ∷ []) k)) k) (run_call o ls i w k)) (either b (run_call g ls i (noted w (note w.heap (i ∷ []) k)) k) (run_call u ls i w k))
        from true = run_near n f g c ls i _ k le
        from false = run_near n o u d ls i w k le

    -- ---- the run that lists first
    module _ (into : ℕ → Bool) where
      listing_loop_near : (this : Datum) (line : ℕ) (ls : List Datum) (w : World) (s : Statement) (k : ℕ) (x y : Flow World) → NearFlow k x y → NearFlow k (listing_loop into p ms this line ls w s k x) (listing_loop into p ms this line ls w s k y)
      listing_loop_near this line ls w s k x y near = from (loop_in ms.loops s) (puts_nothing s)
        where
          from : (a b : Bool) → NearFlow k (either a (either b (by_section into p this line ls w s k (loop_section p w.heap this ls line s k)) (exec (serial_parts p this) line ls w s k)) x) (either a (either b (by_section into p this line ls w s k (loop_section p w.heap this ls line s k)) (exec (serial_parts p this) line ls w s k)) y)
          from true true = section_self into this line ls w s k (loop_section p w.heap this ls line s k)
          from true false = serial_self this line ls w s k
          from false b = near

      listing_agree : (n : ℕ) (o u : Operations) → CloseOps n o u → (this : Datum) → CloseParts n (listing_parts into p ms o this) (listing_parts into p ms u this)
      listing_agree n o u d this = record {
        values = λ line ls w e k le. eval_self p.functions w.heap (place w.heap this line ls) e k;
        acts = λ line ls w x k le. act_self p this line ls w x k;
        calls = λ line ls w e op es k le. flow_with w _ _ (due_self p.functions w.heap (place w.heap this line ls) e op es k) (λ i k1 le1. call_near n (operations_of p) (operations_of p) o u (ops_self n) d ls i w k1 (omega arith));
        agains = λ line ls w x k lt. d.agains this line ls w x k lt;
        begins = λ line ls w x k a b le near. listing_loop_near this line ls w x k a b near;
      }

      close_listing : (n a b : ℕ) → n ≤ a → n ≤ b → CloseOps n (listing_operations into a p ms) (listing_operations into b p ms)
      close_listing n zero b x y = record { invokes = λ i w k lt. absurd (omega arith); agains = λ this line ls w z k lt. absurd (omega arith) }
      close_listing n (suc a) zero x y = record { invokes = λ i w k lt. absurd (omega arith); agains = λ this line ls w z k lt. absurd (omega arith) }
      close_listing n (suc a) (suc b) x y = record {
        invokes = λ i w k lt. all_exec_near k _ _ (listing_agree k _ _ (close_listing k a b (omega arith) (omega arith)) (Ref i.receiver)) (body_of (slice_get p.ops i.op.0)) (locals_of (slice_get p.ops i.op.0) i.arguments) w k (le_self k);
        agains = λ this line ls w z k lt. loop_near k _ _ (listing_agree k _ _ (close_listing k a b (omega arith) (omega arith)) this) z line ls w k (le_self k);
      }

      close_all_listing : (n : ℕ) → CloseOps n (listing_operations into n p ms) (listing_of into p ms)
      close_all_listing n = record {
        invokes = λ i w k lt. let c : CloseOps (suc k) (listing_operations into n p ms) (listing_operations into (suc k) p ms) = close_listing (suc k) n (suc k) lt (le_self (suc k)) in c.invokes i w k (le_self (suc k));
        agains = λ this line ls w x k lt. let c : CloseOps (suc k) (listing_operations into n p ms) (listing_operations into (suc k) p ms) = close_listing (suc k) n (suc k) lt (le_self (suc k)) in c.agains this line ls w x k (le_self (suc k));
      }

      -- a call runs its body
      pub listing_invoke_runs : (i : Invocation) (w : World) (k : ℕ) → (listing_of into p ms).invoke i w k ≡ exec_all (listing_parts into p ms (listing_of into p ms) (Ref i.receiver)) (locals_of (slice_get p.ops i.op.0) i.arguments) w (body_of (slice_get p.ops i.op.0)) k
      listing_invoke_runs i w k = flow_same (all_exec_near k _ _ (listing_agree k _ _ (close_all_listing k) (Ref i.receiver)) (body_of (slice_get p.ops i.op.0)) (locals_of (slice_get p.ops i.op.0) i.arguments) w k (le_self k))

      -- a loop that comes again begins anew
      pub listing_loop_runs : (this : Datum) (line : ℕ) (ls : List Datum) (w : World) (x : Statement) (k : ℕ) → (listing_of into p ms).again this line ls w x k ≡ turn (listing_parts into p ms (listing_of into p ms) this) line ls w x k
      listing_loop_runs this line ls w x k = flow_same (loop_near k _ _ (listing_agree k _ _ (close_all_listing k) this) x line ls w k (le_self k))

    -- ---- the run with marks, by the whole serial run of what is handed off

    abbrev even_operations : ℕ → Operations
    even_operations zero = record { invoke = λ i w k. runs_out w; again = λ this line ls w loop k. runs_out w }
    even_operations (suc n) = record {
      invoke = λ i w k.
          exec_all (noted_parts p ms (operations_of p) (even_operations n) (Ref i.receiver)) (locals_of (slice_get p.ops i.op.0) i.arguments) w (body_of (slice_get p.ops i.op.0)) k;
      again = λ this line ls w loop k. turn (noted_parts p ms (operations_of p) (even_operations n) this) line ls w loop k;
    }

    abbrev even_of : Operations
    even_of = record {
      invoke = λ i w k. (even_operations (suc k)).invoke i w k;
      again = λ this line ls w loop k. (even_operations (suc k)).again this line ls w loop k;
    }

    noted_loop_close : (n : ℕ) (f g : Operations) → CloseOps n f g → (this : Datum) (line : ℕ) (ls : List Datum) (w : World) (s : Statement) (k : ℕ) (x y : Flow World) → k ≤ n → NearFlow k x y → NearFlow k (noted_loop p ms f this line ls w s k x) (noted_loop p ms g this line ls w s k y)
    noted_loop_close n f g c this line ls w s k x y le near = from (loop_in ms.loops s)
      where
        from : (r : Bool) → NearFlow k (either r (exec (operation_parts p f this) line ls (loop_noted w k (loop_section p w.heap this ls line s k)) s k) x) (either r (exec (operation_parts p g this) line ls (loop_noted w k (loop_section p w.heap this ls line s k)) s k) y)
        from true = exec_near n _ _ (operation_agree n p f g c this) s line ls (loop_noted w k (loop_section p w.heap this ls line s k)) k le
        from false = near

    noted_close : (n : ℕ) (f g o u : Operations) → CloseOps n f g → CloseOps n o u → (this : Datum) → CloseParts n (noted_parts p ms f o this) (noted_parts p ms g u this)
    noted_close n f g o u c d this = record {
      values = λ line ls w e k le. eval_self p.functions w.heap (place w.heap this line ls) e k;
      acts = λ line ls w x k le. act_self p this line ls w x k;
      calls = λ line ls w e op es k le. flow_with w _ _ (due_self p.functions w.heap (place w.heap this line ls) e op es k) (λ i k1 le1. call_near n f g o u c d ls i w k1 (omega arith));
      agains = λ line ls w x k lt. d.agains this line ls w x k lt;
      begins = λ line ls w x k a b le near. noted_loop_close n f g c this line ls w x k a b le near;
    }

    close_even : (n a b : ℕ) → n ≤ a → n ≤ b → CloseOps n (noted_operations a p ms) (even_operations b)
    close_even n zero b x y = record { invokes = λ i w k lt. absurd (omega arith); agains = λ this line ls w z k lt. absurd (omega arith) }
    close_even n (suc a) zero x y = record { invokes = λ i w k lt. absurd (omega arith); agains = λ this line ls w z k lt. absurd (omega arith) }
    close_even n (suc a) (suc b) x y = record {
      invokes = λ i w k lt. all_exec_near k _ _ (noted_close k _ _ _ _ (plain_close k a (omega arith)) (close_even k a b (omega arith) (omega arith)) (Ref i.receiver)) (body_of (slice_get p.ops i.op.0)) (locals_of (slice_get p.ops i.op.0) i.arguments) w k (le_self k);
      agains = λ this line ls w z k lt. loop_near k _ _ (noted_close k _ _ _ _ (plain_close k a (omega arith)) (close_even k a b (omega arith) (omega arith)) this) z line ls w k (le_self k);
    }

    close_all_even : (n : ℕ) → CloseOps n (noted_of p ms) even_of
    close_all_even n = record {
      invokes = λ i w k lt. let c : CloseOps (suc k) (noted_operations (suc k) p ms) (even_operations (suc k)) = close_even (suc k) (suc k) (suc k) (le_self (suc k)) (le_self (suc k)) in c.invokes i w k (le_self (suc k));
      agains = λ this line ls w x k lt. let c : CloseOps (suc k) (noted_operations (suc k) p ms) (even_operations (suc k)) = close_even (suc k) (suc k) (suc k) (le_self (suc k)) (le_self (suc k)) in c.agains this line ls w x k (le_self (suc k));
    }

    pub even_run : (k : ℕ) → noted_run p ms k ≡ exec_all (noted_parts p ms (operations_of p) even_of Null) (map start_of p.main.locals) (fresh []) p.main.statements k
    even_run k = flow_same (all_exec_near k _ _ (noted_close k _ _ _ _ (ops_self k) (close_all_even k) Null) p.main.statements (map start_of p.main.locals) (fresh []) k (le_self k))

-- ---- both runs do the same, where the state is good

module _ (p : PlainProgram) (program : ProgramTyped p) (ms : PlainMarks) (sound : SoundMarks p ms) (puts_none : CallLoopsPutNothing) (into : ℕ → Bool) where
  record SameOps (o u : Operations) : Type 0 where
    invokes : (i : Invocation) (w : World) (k : ℕ) → TypedHeap p w.heap → WellTyped p w.heap i → NotesGood p w.notes → o.invoke i w k ≡ u.invoke i w k
    agains : (s : Scope) (r : Datum) (line : ℕ) (ls : List Datum) (w : World) (y : Statement) (k : ℕ) → Good p s r w → ValuesTyped w.heap ls s.locals → StatementTyped p s y → Within (loops_of_program p) (fors_in y) → o.again r line ls w y k ≡ u.again r line ls w y k

  same_with : {A : Type 0} (P : A → Type 0) (o : Out A) (w : World) (f g : A → ℕ → Flow World) → Yields P o → ((v : A) (k : ℕ) → P v → f v k ≡ g v k) → with o w f ≡ with o w g
  same_with P (gives v k) w f g (yields _ _ x) h = h v k x
  same_with P (traps t) w f g y h = refl
  same_with P over w f g y h = refl

  same_step : (w : World) (k : ℕ) (f g : ℕ → Flow World) → ((j : ℕ) → f j ≡ g j) → with (take_step k) w (λ z j. f j) ≡ with (take_step k) w (λ z j. g j)
  same_step w zero f g h = refl
  same_step w (suc k) f g h = h k

  same_choose : (v : Datum) (a b c d : Flow World) → a ≡ c → b ≡ d → choose v a b ≡ choose v c d
  same_choose (Truth true) a b c d x y = x
  same_choose (Truth false) a b c d x y = y
  same_choose (Long n) a b c d x y = y
  same_choose (Ref n) a b c d x y = y
  same_choose Null a b c d x y = y

  same_on : (s : Scope) (r : Datum) (h : List Object) (a b : Flow World) (f g : List Datum → World → ℕ → Flow World) → a ≡ b → GoodFlow p s r h a → ((ls : List Datum) (w : World) (k : ℕ) → Good p s r w → Extends h w.heap → ValuesTyped w.heap ls s.locals → f ls w k ≡ g ls w k) → and_on a f ≡ and_on b g
  same_on s r h a b f g e flow same = from a flow ∙ ap (λ z. and_on z g) e
    where
      from : (a : Flow World) → GoodFlow p s r h a → and_on a f ≡ and_on a g
      from (goes_on ls w k) (goes_on_typed _ _ _ good ext t) = same ls w k good ext t
      from (gives_back v w k) flow = refl
      from (stops t w) flow = refl
      from (runs_out w) flow = refl

  -- a marked loop that lists its calls first
  section_same : (s : Scope) (r : Datum) (line : ℕ) (ls : List Datum) (w : World) (y : Statement) (k : ℕ) → WorldTyped p s r w → ValuesTyped w.heap ls s.locals → StatementTyped p s y → SoundLoop p y → (o : LoopSectioned) → loop_section p w.heap r ls line y k ≡ o → by_section into p r line ls w y k o ≡ exec (serial_parts p r) line ls (loop_noted w k o) y k
  section_same s r line ls w y k good t ty loop (loop_done m) e = by (into (length w.notes))
    where
      v : World
      v = with_list w k m

      from : (a : Flow World) → serial_ops p m.listed (with_list w k m) (k - m.steps) ≡ a → behind_list m.locals a (exec (serial_parts p r) line ls (with_list w k m) y k) ≡ exec (serial_parts p r) line ls (with_list w k m) y k
      from (goes_on xs x j) d =
          let x0 = loop.calls in
          let here : WorldTyped p s r v = record { heap = good.heap; receiver = good.receiver } in
          sym ((loop_then_list p program x0.roots x0.extent x0.is y loop.form x0.holds loop.constant s r line ls v ty here t k j m.locals x).1
          (ap (λ q. then_looped p v k q) e ∙ ap (λ f. and_on f (λ ls w k. goes_on m.locals w k)) d))
      from (gives_back z x j) d = refl
      from (stops z x) d = refl
      from (runs_out x) d = refl

      by : (b : Bool) → either b (exec (serial_parts p r) line ls (with_list w k m) y k) (behind_list m.locals (serial_ops p m.listed (with_list w k m) (k - m.steps)) (exec (serial_parts p r) line ls (with_list w k m) y k)) ≡ exec (serial_parts p r) line ls (with_list w k m) y k
      by true = refl
      by false = from (serial_ops p m.listed (with_list w k m) (k - m.steps)) refl
  section_same s r line ls w y k good t ty loop (loop_stopped u) e = refl
  section_same s r line ls w y k good t ty loop loop_over e = refl

  module _ (o u : Operations) (all : NotedOps p program ms sound o) (same : SameOps o u) (s : Scope) (r : Datum) (h : List Object) where
    abbrev wp : Parts World
    wp = noted_parts p ms (operations_of p) o r

    abbrev up : Parts World
    up = listing_parts into p ms u r

    good_exec : (y : Statement) → StatementTyped p s y → Within (loops_of_program p) (fors_in y) → (line : ℕ) (ls : List Datum) (w : World) (k : ℕ) → Good p s r w → Extends h w.heap → ValuesTyped w.heap ls s.locals → GoodFlow p s r h (exec wp line ls w y k)
    good_exec = exec_good p program ms sound (operations_of p) o (plain_all p program ms sound) all s r h

    call_same : (ls : List Datum) (i : Invocation) (w : World) (k : ℕ) → Good p s r w → WellTyped p w.heap i → noted_call ms (operations_of p) o ls i w k ≡ noted_call ms (operations_of p) u ls i w k
    call_same ls i w k good well = from (op_in ms.ops i.op)
      where
        from : (b : Bool) → either b (run_call (operations_of p) ls i (noted w (note w.heap (i ∷ []) k)) k) (run_call o ls i w k) ≡ either b (run_call (operations_of p) ls i (noted w (note w.heap (i ∷ []) k)) k) (run_call u ls i w k)
        from true = refl
        from false = same_step w k (λ j. came_back ls (o.invoke i w j)) (λ j. came_back ls (u.invoke i w j)) (λ j. ap (came_back ls) (same.invokes i w j good.world.heap well good.notes))

    -- the values of expressions
    value : (line : ℕ) (ls : List Datum) (w : World) (e : Expression) (ty : ValueType) (k : ℕ) → Good p s r w → ValuesTyped w.heap ls s.locals → ExpressionTyped p s e ty → Yields (λ v. HasType w.heap v ty) (value_in p.functions w.heap r line ls e k)
    value = value_typed p program ms sound (operations_of p) o (plain_all p program ms sound) all s r h

    begin_same : (line : ℕ) (ls : List Datum) (w : World) (l : ℕ) (site : LoopId) (part : FirstPart) (first : Statement) (c : Expression) (next b : Statement) (k : ℕ) (x z : Flow World) → Good p s r w → ValuesTyped w.heap ls s.locals → StatementTyped p s (for_loop l site part first c next b) → Within (loops_of_program p) (fors_in (for_loop l site part first c next b)) → x ≡ z → noted_loop p ms (operations_of p) r line ls w (for_loop l site part first c next b) k x ≡ listing_loop into p ms r line ls w (for_loop l site part first c next b) k z
    begin_same line ls w l site part first c next b k x z good t ty here e = from (loop_in ms.loops y) refl
      where
        y : Statement
        y = for_loop l site part first c next b

        found : loop_in ms.loops y ≡ true → SoundLoop p y
        found e =
            let m = loop_there ms.loops y e in
            let same : site ≡ m.0 = same_site site m.0 m.2 in
            sound.sites m.0 m.1 y (here y (has_first y (fors_in first ++ (fors_in next ++ fors_in b)))) same

        empty : targets_of y ≡ [] → puts_nothing y ≡ true
        empty none = ap is_empty none

        from : (q : Bool) → loop_in ms.loops y ≡ q → either q (exec (serial_parts p r) line ls (loop_noted w k (loop_section p w.heap r ls line y k)) y k) x ≡ either q (either (puts_nothing y) (by_section into p r line ls w y k (loop_section p w.heap r ls line y k)) (exec (serial_parts p r) line ls w y k)) z
        from true d =
            let loop : SoundLoop p y = found d in
            let none : puts_nothing y ≡ true = empty (puts_none y loop.form) in
            rw none (sym (section_same s r line ls w y k good.world t ty loop (loop_section p w.heap r ls line y k) refl))
        from false d = e

    turn_of_same : (c : Expression) (f g : List Datum → World → ℕ → Flow World) (loop : Statement) (line : ℕ) (ls : List Datum) (w : World) (k : ℕ) → Good p s r w → Extends h w.heap → ValuesTyped w.heap ls s.locals → ExpressionTyped p s c BoolType → StatementTyped p s loop → Within (loops_of_program p) (fors_in loop) → ((ls : List Datum) (w : World) (k : ℕ) → Good p s r w → Extends h w.heap → ValuesTyped w.heap ls s.locals → GoodFlow p s r h (f ls w k)) → ((ls : List Datum) (w : World) (k : ℕ) → Good p s r w → Extends h w.heap → ValuesTyped w.heap ls s.locals → f ls w k ≡ g ls w k) → turn_of wp c f loop line ls w k ≡ turn_of up c g loop line ls w k
    turn_of_same c f g loop line ls w k good ext t tc tl here flow body =
        same_with (λ v. HasType w.heap v BoolType) (value_in p.functions w.heap r line ls c k) w _ _ (value line ls w c BoolType k good t tc)
        (λ v k1 hv. same_choose v _ _ _ _
        (same_step w k1 (λ j. and_on (f ls w j) (λ ls w k. o.again r line ls w loop k)) (λ j. and_on (g ls w j) (λ ls w k. u.again r line ls w loop k)) (λ j.
        same_on s r h (f ls w j) (g ls w j) (λ ls w k. o.again r line ls w loop k) (λ ls w k. u.again r line ls w loop k) (body ls w j good ext t) (flow ls w j good ext t) (λ ls2 w2 k2 good2 ext2 t2. same.agains s r line ls2 w2 loop k2 good2 t2 tl here)))
        refl)

    mutual
      exec_same : (y : Statement) → StatementTyped p s y → Within (loops_of_program p) (fors_in y) → (line : ℕ) (ls : List Datum) (w : World) (k : ℕ) → Good p s r w → Extends h w.heap → ValuesTyped w.heap ls s.locals → exec wp line ls w y k ≡ exec up line ls w y k
      exec_same (block l ss) ty here line ls w k good ext t = all_same ss ty here ls w k good ext t
      exec_same (put_local l i op e) ty here line ls w k good ext t = refl
      exec_same (if_else l c a b) ty here line ls w k good ext t =
          same_with (λ v. HasType w.heap v BoolType) (value_in p.functions w.heap r line ls c k) w _ _ (value line ls w c BoolType k good t ty.0) (λ v k1 hv. same_choose v _ _ _ _
          (exec_same a ty.1 (within_left (loops_of_program p) (fors_in a) (fors_in b) here) (line_of a) ls w k1 good ext t)
          (exec_same b ty.2 (within_right (loops_of_program p) (fors_in a) (fors_in b) here) (line_of b) ls w k1 good ext t))
      exec_same (while_loop l c b) ty here line ls w k good ext t =
          turn_of_same c (λ ls w k. exec wp (line_of b) ls w b k) (λ ls w k. exec up (line_of b) ls w b k) (while_loop l c b) line ls w k good ext t ty.0 ty here
          (λ ls w k good ext t. good_exec b ty.1 here (line_of b) ls w k good ext t) (λ ls w k good ext t. exec_same b ty.1 here (line_of b) ls w k good ext t)
      exec_same (for_loop l site part first c next b) ty here line ls w k good ext t =
          let loop : Statement = for_loop l site part first c next b in
          let inner : Within (loops_of_program p) (fors_in first ++ (fors_in next ++ fors_in b)) = within_right (loops_of_program p) (loop ∷ []) (fors_in first ++ (fors_in next ++ fors_in b)) here in
          let rest : Within (loops_of_program p) (fors_in next ++ fors_in b) = within_right (loops_of_program p) (fors_in first) (fors_in next ++ fors_in b) inner in
          let before : Within (loops_of_program p) (fors_in first) = within_left (loops_of_program p) (fors_in first) (fors_in next ++ fors_in b) inner in
          let behind_body : Within (loops_of_program p) (fors_in next) = within_left (loops_of_program p) (fors_in next) (fors_in b) rest in
          let body : Within (loops_of_program p) (fors_in b) = within_right (loops_of_program p) (fors_in next) (fors_in b) rest in
          begin_same line ls w l site part first c next b k _ _ good t ty here
          (same_on s r h (exec wp line ls w first k) (exec up line ls w first k) _ _ (exec_same first ty.0 before line ls w k good ext t) (good_exec first ty.0 before line ls w k good ext t) (λ ls1 w1 k1 good1 ext1 t1.
          turn_of_same c (λ ls w k. and_on (exec wp (line_of b) ls w b k) (λ ls w k. exec wp line ls w next k)) (λ ls w k. and_on (exec up (line_of b) ls w b k) (λ ls w k. exec up line ls w next k)) loop line ls1 w1 k1 good1 ext1 t1 ty.1 ty here
          (λ ls w k good ext t. typed_on heap_of (Good p s r) s h (exec wp (line_of b) ls w b k) _ (good_exec b ty.3 body (line_of b) ls w k good ext t) (λ ls2 w2 k2 good2 ext2 t2. good_exec next ty.2 behind_body line ls2 w2 k2 good2 ext2 t2))
          (λ ls w k good ext t. same_on s r h (exec wp (line_of b) ls w b k) (exec up (line_of b) ls w b k) _ _ (exec_same b ty.3 body (line_of b) ls w k good ext t) (good_exec b ty.3 body (line_of b) ls w k good ext t) (λ ls2 w2 k2 good2 ext2 t2. exec_same next ty.2 behind_body line ls2 w2 k2 good2 ext2 t2))))
      exec_same (return_value l e) ty here line ls w k good ext t = refl
      exec_same (invoke l e op es) ty here line ls w k good ext t =
          same_with (λ i. WellTyped p w.heap i) (due (functions_of p.functions w.heap).call (place w.heap r line ls) e op es k) w _ _
          (due_typed p s (place w.heap r line ls) (functions_of p.functions w.heap).call (calls_typed p program w.heap good.world.heap) (serial_place p w.heap s r line ls good.world.heap good.world.receiver t) e op es ty.0 ty.1 ty.3 ty.4 ty.5 k)
          (λ i j well. call_same ls i w j good well)
      exec_same (put_field l f op e) ty here line ls w k good ext t = refl
      exec_same (put_item l f i op e) ty here line ls w k good ext t = refl
      exec_same (new_local l i c) ty here line ls w k good ext t = refl
      exec_same (new_field l f c) ty here line ls w k good ext t = refl
      exec_same (new_item l f i c) ty here line ls w k good ext t = refl
      exec_same (print_value l e) ty here line ls w k good ext t = refl

      all_same : (ys : Statements) → StatementsTyped p s ys → Within (loops_of_program p) (fors_in_all ys) → (ls : List Datum) (w : World) (k : ℕ) → Good p s r w → Extends h w.heap → ValuesTyped w.heap ls s.locals → exec_all wp ls w ys k ≡ exec_all up ls w ys k
      all_same no_statements ty here ls w k good ext t = refl
      all_same (statement_and y rest) ty here ls w k good ext t =
          same_on s r h (exec wp (line_of y) ls w y k) (exec up (line_of y) ls w y k) _ _ (exec_same y ty.0 (within_left (loops_of_program p) (fors_in y) (fors_in_all rest) here) (line_of y) ls w k good ext t)
          (good_exec y ty.0 (within_left (loops_of_program p) (fors_in y) (fors_in_all rest) here) (line_of y) ls w k good ext t)
          (λ ls1 w1 k1 good1 ext1 t1. all_same rest ty.1 (within_right (loops_of_program p) (fors_in y) (fors_in_all rest) here) ls1 w1 k1 good1 ext1 t1)

    turn_same : (y : Statement) → StatementTyped p s y → Within (loops_of_program p) (fors_in y) → (line : ℕ) (ls : List Datum) (w : World) (k : ℕ) → Good p s r w → Extends h w.heap → ValuesTyped w.heap ls s.locals → turn wp line ls w y k ≡ turn up line ls w y k
    turn_same (while_loop l c b) ty here line ls w k good ext t = exec_same (while_loop l c b) ty here line ls w k good ext t
    turn_same (for_loop l site part first c next b) ty here line ls w k good ext t =
        let loop : Statement = for_loop l site part first c next b in
        let inner : Within (loops_of_program p) (fors_in first ++ (fors_in next ++ fors_in b)) = within_right (loops_of_program p) (loop ∷ []) (fors_in first ++ (fors_in next ++ fors_in b)) here in
        let rest : Within (loops_of_program p) (fors_in next ++ fors_in b) = within_right (loops_of_program p) (fors_in first) (fors_in next ++ fors_in b) inner in
        let behind_body : Within (loops_of_program p) (fors_in next) = within_left (loops_of_program p) (fors_in next) (fors_in b) rest in
        let body : Within (loops_of_program p) (fors_in b) = within_right (loops_of_program p) (fors_in next) (fors_in b) rest in
        turn_of_same c (λ ls w k. and_on (exec wp (line_of b) ls w b k) (λ ls w k. exec wp line ls w next k)) (λ ls w k. and_on (exec up (line_of b) ls w b k) (λ ls w k. exec up line ls w next k)) loop line ls w k good ext t ty.1 ty here
        (λ ls w k good ext t. typed_on heap_of (Good p s r) s h (exec wp (line_of b) ls w b k) _ (good_exec b ty.3 body (line_of b) ls w k good ext t) (λ ls2 w2 k2 good2 ext2 t2. good_exec next ty.2 behind_body line ls2 w2 k2 good2 ext2 t2))
        (λ ls w k good ext t. same_on s r h (exec wp (line_of b) ls w b k) (exec up (line_of b) ls w b k) _ _ (exec_same b ty.3 body (line_of b) ls w k good ext t) (good_exec b ty.3 body (line_of b) ls w k good ext t) (λ ls2 w2 k2 good2 ext2 t2. exec_same next ty.2 behind_body line ls2 w2 k2 good2 ext2 t2))
    turn_same (block l ss) ty here line ls w k good ext t = refl
    turn_same (put_local l i op e) ty here line ls w k good ext t = refl
    turn_same (if_else l c a b) ty here line ls w k good ext t = refl
    turn_same (return_value l e) ty here line ls w k good ext t = refl
    turn_same (invoke l e op es) ty here line ls w k good ext t = refl
    turn_same (put_field l f op e) ty here line ls w k good ext t = refl
    turn_same (put_item l f i op e) ty here line ls w k good ext t = refl
    turn_same (new_local l i c) ty here line ls w k good ext t = refl
    turn_same (new_field l f c) ty here line ls w k good ext t = refl
    turn_same (new_item l f i c) ty here line ls w k good ext t = refl
    turn_same (print_value l e) ty here line ls w k good ext t = refl

  -- ---- the body of an operation, and the whole run

  body_same : (o u : Operations) → NotedOps p program ms sound o → SameOps o u → (i : Invocation) (w : World) (k : ℕ) → TypedHeap p w.heap → NotesGood p w.notes → (m : Option PlainMethod) → slice_get p.ops i.op.0 ≡ m → CallTyped w.heap m i.receiver i.arguments → exec_all (noted_parts p ms (operations_of p) o (Ref i.receiver)) (locals_of m i.arguments) w (body_of m) k ≡ exec_all (listing_parts into p ms u (Ref i.receiver)) (locals_of m i.arguments) w (body_of m) k
  body_same o u all same i w k heap notes None e c = absurd c
  body_same o u all same i w k heap notes (Some m) e c =
      let mt : OperationTyped p m = program.ops i.op.0 m e in
      let mm : MethodTyped p m = mt.method in
      all_same o u all same (scope_of m) (Ref i.receiver) w.heap m.body.statements mm.body (loops_inside p m i.op.0 e) _ w k
      (record { world = record { heap = heap; receiver = c.0 }; notes = notes }) (extends_self w.heap) (frame_typed w.heap i.arguments m.params m.body.locals c.1)

  even_good : (n : ℕ) → NotedOps p program ms sound (even_operations p ms n)
  even_good zero = record {
    invokes = λ i w k heap well notes. record { heap = runs_out_kept w heap (extends_self w.heap); notes = notes };
    agains = λ s r h line ls w y k good ext t ty here. runs_out_typed w good ext;
  }
  even_good (suc n) =
      let all : NotedOps p program ms sound (even_operations p ms n) = even_good n in
      record {
        invokes = λ i w k heap well notes. body_good p program ms sound (operations_of p) (even_operations p ms n) (plain_all p program ms sound) all i w k heap notes (slice_get p.ops i.op.0) refl well;
        agains = λ s r h line ls w y k good ext t ty here. turn_good p program ms sound (operations_of p) (even_operations p ms n) (plain_all p program ms sound) all s r h y ty here line ls w k good ext t;
      }

  same_at : (n : ℕ) → SameOps (even_operations p ms n) (listing_operations into n p ms)
  same_at zero = record { invokes = λ i w k heap well notes. refl; agains = λ s r line ls w y k good t ty here. refl }
  same_at (suc n) = record {
    invokes = λ i w k heap well notes. body_same (even_operations p ms n) (listing_operations into n p ms) (even_good n) (same_at n) i w k heap notes (slice_get p.ops i.op.0) refl well;
    agains = λ s r line ls w y k good t ty here. turn_same (even_operations p ms n) (listing_operations into n p ms) (even_good n) (same_at n) s r w.heap y ty here line ls w k good (extends_self w.heap) t;
  }

  even_all : NotedOps p program ms sound (even_of p ms)
  even_all = record {
    invokes = λ i w k heap well notes. let all : NotedOps p program ms sound (even_operations p ms (suc k)) = even_good (suc k) in all.invokes i w k heap well notes;
    agains = λ s r h line ls w y k good ext t ty here. let all : NotedOps p program ms sound (even_operations p ms (suc k)) = even_good (suc k) in all.agains s r h line ls w y k good ext t ty here;
  }

  same_all : SameOps (even_of p ms) (listing_of into p ms)
  same_all = record {
    invokes = λ i w k heap well notes. let same : SameOps (even_operations p ms (suc k)) (listing_operations into (suc k) p ms) = same_at (suc k) in same.invokes i w k heap well notes;
    agains = λ s r line ls w y k good t ty here. let same : SameOps (even_operations p ms (suc k)) (listing_operations into (suc k) p ms) = same_at (suc k) in same.agains s r line ls w y k good t ty here;
  }

  run_same : (k : ℕ) → listing_run into p ms k ≡ noted_run p ms k
  run_same k =
      sym (even_run p ms k
      ∙ all_same (even_of p ms) (listing_of into p ms) even_all same_all (main_scope p) Null [] p.main.statements program.main (main_inside p) _ (fresh []) k
      (record { world = record { heap = tt; receiver = tt }; notes = λ n c. absurd (has_nothing n c) }) (extends_self []) (starts_typed [] p.main.locals))

pub lists_first : ListsFirst
lists_first p program ms sound none into budget = run_same p program ms sound none into budget
