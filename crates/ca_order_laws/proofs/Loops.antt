-- The serial run of a call loop is its section and then the run of what that lists.
use Rattle.std.proofs.Common.{◌≡◌, ℕ, suc, ◌+◌, ◌-◌, List, [], ◌++◌, None, refl, ap, ◌∙◌, arith, true}
use Rattle.std.specs.Prelude.{◌||◌}
use Rattle.std.proofs.lemmas.List.Elements.{Contains-push}
use Rattle.ca_lists.proofs.Members.{has_nothing}
use Rattle.ca_program.specs.declared.program.FieldId.{FieldId}
use Rattle.ca_program.specs.declared.program.LocalId.{LocalId}
use Rattle.ca_program.specs.declared.program.OpId.{OpId}
use Rattle.ca_program.specs.declared.program.FirstPart.{FirstPart}
use Rattle.ca_program.specs.declared.program.FirstPart.TheVariants.{Declares, Assigns}
use Rattle.ca_program.specs.Plain.{PlainProgram, Statement, Statements, block, put_local, put_field, put_item, new_local, new_field, new_item, invoke, if_else, while_loop, for_loop, return_value, print_value, no_statements, statement_and}
use Rattle.ca_model.specs.declared.value.Value.{Value as Datum}
use Rattle.ca_model.specs.declared.value.Slot.{Slot}
use Rattle.ca_meaning.specs.Flows.{Flow, goes_on, gives_back, stops, runs_out, and_on, exec}
use Rattle.ca_meaning.specs.Functions.{own_of}
use Rattle.ca_meaning.specs.Serial.{World, serial_parts, serial_ops}
use Rattle.ca_meaning.specs.Sections.{Section, section_start, loop_run, loop_sectioned, loop_section}
use Rattle.ca_meaning.specs.WellTyped.{ValuesTyped}
use Rattle.ca_meaning.specs.ProgramTyped.{Scope, StatementTyped, StatementsTyped, ProgramTyped}
use Rattle.ca_meaning_laws.specs.Budgets.{on_with, Reaches, Reached}
use Rattle.ca_meaning_laws.specs.Typed.{WorldTyped}
use Rattle.ca_meaning_laws.proofs.Heaps.{extends_self, own_typed}
use Rattle.ca_meaning_laws.proofs.Steady.{SteadyFlow}
use Rattle.ca_meaning_laws.proofs.Bigs.{exec_serial_steady, serial_ops_steady, loop_run_steady}
use Rattle.ca_parallel.specs.Bodies.{calls_of, calls_of_all}
use Rattle.ca_parallel.specs.Extents.{Extent, IsExtentOf}
use Rattle.ca_parallel.specs.Separable.{holds_call, IsSeparated}
use Rattle.ca_parallel.specs.Loops.{Begins, CountsUp, IsCall, AreCalls, CallsAlone, IsCallLoop}
use Rattle.ca_order_laws.specs.Order.{LoopThenList, then_looped}
use Rattle.ca_order_laws.proofs.Runs.{stop_reaches, reaches_steps, list_locals}
use Rattle.ca_order_laws.proofs.Kept.{IsKept, AreKept, Within, within_left, within_right}
use Rattle.ca_order_laws.proofs.Frames.{like_self}
use Rattle.ca_order_laws.proofs.Sections.{body_kept}
use Rattle.ca_order_laws.proofs.Related.{Related, Common}
use Rattle.ca_order_laws.proofs.BothRuns.{common}
use Rattle.ca_order_laws.proofs.First.{Forth, forward}
use Rattle.ca_order_laws.proofs.Back.{Backed, back}

-- ---- what a call loop is made of

module _ (written : List FieldId) (ops : List OpId) where
  first_kept : (part : FirstPart) (x : Statement) (i : LocalId) → Begins part x i → IsKept written ops x
  first_kept part (put_local l j op e) i b = tt
  first_kept Declares (block l ss) i b = absurd b
  first_kept Declares (put_field l f op e) i b = absurd b
  first_kept Declares (put_item l f k op e) i b = absurd b
  first_kept Declares (new_local l k c) i b = absurd b
  first_kept Declares (new_field l f c) i b = absurd b
  first_kept Declares (new_item l f k c) i b = absurd b
  first_kept Declares (invoke l e op es) i b = absurd b
  first_kept Declares (if_else l c x y) i b = absurd b
  first_kept Declares (while_loop l c x) i b = absurd b
  first_kept Declares (for_loop l site part first c next x) i b = absurd b
  first_kept Declares (return_value l e) i b = absurd b
  first_kept Declares (print_value l e) i b = absurd b
  first_kept Assigns x i b = absurd b

  next_kept : (x : Statement) (i : LocalId) → CountsUp x i → IsKept written ops x
  next_kept (put_local l j op e) i b = tt
  next_kept (block l ss) i b = absurd b
  next_kept (put_field l f op e) i b = absurd b
  next_kept (put_item l f k op e) i b = absurd b
  next_kept (new_local l k c) i b = absurd b
  next_kept (new_field l f c) i b = absurd b
  next_kept (new_item l f k c) i b = absurd b
  next_kept (invoke l e op es) i b = absurd b
  next_kept (if_else l c x y) i b = absurd b
  next_kept (while_loop l c x) i b = absurd b
  next_kept (for_loop l site part first c next x) i b = absurd b
  next_kept (return_value l e) i b = absurd b
  next_kept (print_value l e) i b = absurd b

  -- a call: it is kept, and a typed one stands in no value method
  call_kept : (p : PlainProgram) (s : Scope) (x : Statement) → IsCall x → StatementTyped p s x → Within ops (calls_of x) → IsKept written ops x × (s.result ≡ None)
  call_kept p s (invoke l e op es) c ty within = (within op (Contains-push [] op), ty.2)
  call_kept p s (put_local l j op e) c ty within = absurd c
  call_kept p s (block l ss) c ty within = absurd c
  call_kept p s (put_field l f op e) c ty within = absurd c
  call_kept p s (put_item l f k op e) c ty within = absurd c
  call_kept p s (new_local l k d) c ty within = absurd c
  call_kept p s (new_field l f d) c ty within = absurd c
  call_kept p s (new_item l f k d) c ty within = absurd c
  call_kept p s (if_else l d x y) c ty within = absurd c
  call_kept p s (while_loop l d x) c ty within = absurd c
  call_kept p s (for_loop l site part first d next x) c ty within = absurd c
  call_kept p s (return_value l e) c ty within = absurd c
  call_kept p s (print_value l e) c ty within = absurd c

  calls_kept : (p : PlainProgram) (s : Scope) (xs : Statements) → AreCalls xs → StatementsTyped p s xs → Within ops (calls_of_all xs) → AreKept written ops xs
  calls_kept p s no_statements c ty within = tt
  calls_kept p s (statement_and x xs) c ty within =
      ((call_kept p s x c.0 ty.0 (within_left ops (calls_of x) (calls_of_all xs) within)).0, calls_kept p s xs c.1 ty.1 (within_right ops (calls_of x) (calls_of_all xs) within))

  body_calls : (p : PlainProgram) (s : Scope) (x : Statement) → CallsAlone x → StatementTyped p s x → Within ops (calls_of x) → IsKept written ops x × (s.result ≡ None)
  body_calls p s (invoke l e op es) c ty within = call_kept p s (invoke l e op es) tt ty within
  body_calls p s (block l (statement_and x xs)) c ty within =
      let one = call_kept p s x c.0 ty.0 (within_left ops (calls_of x) (calls_of_all xs) within) in
      ((one.0, calls_kept p s xs c.1 ty.1 (within_right ops (calls_of x) (calls_of_all xs) within)), one.1)
  body_calls p s (block l no_statements) c ty within = absurd c
  body_calls p s (put_local l j op e) c ty within = absurd c
  body_calls p s (put_field l f op e) c ty within = absurd c
  body_calls p s (put_item l f k op e) c ty within = absurd c
  body_calls p s (new_local l k d) c ty within = absurd c
  body_calls p s (new_field l f d) c ty within = absurd c
  body_calls p s (new_item l f k d) c ty within = absurd c
  body_calls p s (if_else l d x y) c ty within = absurd c
  body_calls p s (while_loop l d x) c ty within = absurd c
  body_calls p s (for_loop l site part first d next x) c ty within = absurd c
  body_calls p s (return_value l e) c ty within = absurd c
  body_calls p s (print_value l e) c ty within = absurd c

  pub loop_kept : (p : PlainProgram) (s : Scope) (loop : Statement) → IsCallLoop loop → StatementTyped p s loop → Within ops (calls_of loop) → IsKept written ops loop × (s.result ≡ None)
  loop_kept p s (for_loop l site part first c next x) f ty within =
      let rest : Within ops (calls_of next ++ calls_of x) = within_right ops (calls_of first) (calls_of next ++ calls_of x) within in
      let b = body_calls p s x f.calls ty.3 (within_right ops (calls_of next) (calls_of x) rest) in
      ((first_kept part first f.counter f.begins, next_kept next f.counter f.counts, b.0), b.1)
  loop_kept p s (block l ss) f ty within = absurd f
  loop_kept p s (put_local l j op e) f ty within = absurd f
  loop_kept p s (put_field l g op e) f ty within = absurd f
  loop_kept p s (put_item l g k op e) f ty within = absurd f
  loop_kept p s (new_local l k d) f ty within = absurd f
  loop_kept p s (new_field l g d) f ty within = absurd f
  loop_kept p s (new_item l g k d) f ty within = absurd f
  loop_kept p s (invoke l e op es) f ty within = absurd f
  loop_kept p s (if_else l d x y) f ty within = absurd f
  loop_kept p s (while_loop l d x) f ty within = absurd f
  loop_kept p s (return_value l e) f ty within = absurd f
  loop_kept p s (print_value l e) f ty within = absurd f

-- ---- the loop's two runs

module _ (p : PlainProgram) (program : ProgramTyped p) (roots : List OpId) (x : Extent) (is : IsExtentOf p roots x) (s : Scope) (this : Datum) (w : World) (good : WorldTyped p s this w) (result : s.result ≡ None) where
  -- a loop of serial code changes no object itself
  abbrev stays : List Slot → World
  stays own = w

  both : Common p x.written x.ops s w this stays true
  both = common p program x.written x.ops (body_kept p roots x is) s w this stays true good.heap good.receiver (λ e. cc) (λ own t same. record { heap = good.heap; extends = extends_self w.heap; like = like_self x.written w.heap }) result

  abbrev start : Section
  start = section_start (own_of w.heap this)

  at_start : Related p x.written x.ops s w this stays true true w start 0
  at_start = record {
    lite = record { none = λ e. cc; rises = λ e. cc; typed = record { own = own_typed p w.heap s.class this good.heap good.receiver; listed = tt }; constants = λ f e free. refl; inside = λ i c. absurd (has_nothing i c) };
    run = stop_reaches [] w;
  }

  module _ (loop : Statement) (sep : IsSeparated p x.written true loop) (ty : StatementTyped p s loop) (kept : IsKept x.written x.ops loop) (line : ℕ) (ls : List Datum) (tl : ValuesTyped w.heap ls s.locals) where
    loop_first : (ms : List Datum) (v : World) (n : ℕ) → Reaches (λ k. exec (serial_parts p this) line ls w loop k) (on_with ms v) n → Forth p x.written x.ops s w this stays true (λ k. loop_run p w.heap this ls line loop k) (true || holds_call loop) ms v (0 + n)
    loop_first ms v n run = forward p x.written x.ops s w this stays true both loop true sep ty kept line ls w start 0 tl at_start ms v n run

    loop_back : (ms : List Datum) (u : Section) (n : ℕ) (v : World) (t : ℕ) → Reaches (λ k. loop_run p w.heap this ls line loop k) (on_with ms u) n → Reaches (λ k. serial_ops p u.listed w k) (on_with [] v) t → Reaches (λ k. exec (serial_parts p this) line ls w loop k) (on_with ms v) (n + t)
    loop_back ms u n v t run list =
        let b : Backed p x.written x.ops s w this stays true (λ k. exec (serial_parts p this) line ls w loop k) ms v 0 (n + t) = back p x.written x.ops s w this stays true both loop true sep ty kept line ls w start 0 tl at_start ms u n run v t list in
        reaches_steps (let e = b.sum in let z : b.n ≡ n + t = omega arith in z) b.reaches

pub loop_then_list : LoopThenList
loop_then_list p program roots x is loop form inside sep s this line ls w ty good tl k j ms v = (forth, back_to)
  where
    kept : IsKept x.written x.ops loop × (s.result ≡ None)
    kept = loop_kept x.written x.ops p s loop form ty inside

    forth : exec (serial_parts p this) line ls w loop k ≡ goes_on ms v j → then_looped p w k (loop_section p w.heap this ls line loop k) ≡ goes_on ms v j
    forth e =
        let steady : SteadyFlow (suc k) (λ k. exec (serial_parts p this) line ls w loop k) = exec_serial_steady p this loop line ls w k in
        let r : Reached (λ k. exec (serial_parts p this) line ls w loop k) (on_with ms v) k j = steady.reached k (omega arith) (on_with ms v) j e in
        let f : Forth p x.written x.ops s w this (λ own. w) true (λ k. loop_run p w.heap this ls line loop k) (true || holds_call loop) ms v (0 + r.s) = loop_first p program roots x is s this w good kept.1 loop sep ty kept.0 line ls tl ms v r.s r.reaches in
        let sum = f.sum in let taken = r.is in
        let all : k ≡ f.n + (f.t + j) = omega arith in
        let left : k - (k - (f.t + j)) ≡ f.t + j = omega arith in
        ap (λ o. then_looped p w k (loop_sectioned k o)) (ap (λ n. loop_run p w.heap this ls line loop n) all ∙ f.reaches.at (f.t + j))
        ∙ ap (λ n. and_on (serial_ops p f.s.listed w n) (λ ls w k. goes_on ms w k)) left
        ∙ ap (λ o. and_on o (λ ls w k. goes_on ms w k)) (f.rel.run.at j)

    listed : (ns : List Datum) (u : Section) (left : ℕ) → loop_run p w.heap this ls line loop k ≡ goes_on ns u left → (o : Flow World) → serial_ops p u.listed w (k - (k - left)) ≡ o → and_on o (λ ls w k. goes_on ns w k) ≡ goes_on ms v j → exec (serial_parts p this) line ls w loop k ≡ goes_on ms v j
    listed ns u left e (goes_on xs y i) d q =
        let steady : SteadyFlow (suc k) (λ k. loop_run p w.heap this ls line loop k) = loop_run_steady p w.heap this ls line loop k in
        let a : Reached (λ k. loop_run p w.heap this ls line loop k) (on_with ns u) k left = steady.reached k (omega arith) (on_with ns u) left e in
        let steady2 : SteadyFlow (suc (k - (k - left))) (λ k. serial_ops p u.listed w k) = serial_ops_steady p u.listed w (k - (k - left)) in
        let none : xs ≡ [] = list_locals p u.listed w (k - (k - left)) xs y i d in
        let b : Reached (λ k. serial_ops p u.listed w k) (on_with [] y) (k - (k - left)) i = steady2.reached (k - (k - left)) (omega arith) (on_with [] y) i (d ∙ ap (λ l. goes_on l y i) none) in
        let c : Reaches (λ k. exec (serial_parts p this) line ls w loop k) (on_with ns y) (a.s + b.s) = loop_back p program roots x is s this w good kept.1 loop sep ty kept.0 line ls tl ns u a.s y b.s a.reaches b.reaches in
        let is1 = a.is in let is2 = b.is in
        ap (λ n. exec (serial_parts p this) line ls w loop n) (let z : k ≡ (a.s + b.s) + i = omega arith in z) ∙ c.at i ∙ q
    listed ns u left e (gives_back z y i) d q = cc
    listed ns u left e (stops z y) d q = cc
    listed ns u left e (runs_out y) d q = cc

    from : (o : Flow Section) → loop_run p w.heap this ls line loop k ≡ o → then_looped p w k (loop_sectioned k o) ≡ goes_on ms v j → exec (serial_parts p this) line ls w loop k ≡ goes_on ms v j
    from (goes_on ns u left) e q = listed ns u left e (serial_ops p u.listed w (k - (k - left))) refl q
    from (gives_back z u left) e q = cc
    from (stops z u) e q = cc
    from (runs_out u) e q = cc

    back_to : then_looped p w k (loop_section p w.heap this ls line loop k) ≡ goes_on ms v j → exec (serial_parts p this) line ls w loop k ≡ goes_on ms v j
    back_to q = from (loop_run p w.heap this ls line loop k) refl q
