-- A run with marks takes notes and does else what the serial run does; and what its calls and loops mean is
-- a fixed point.
use Rattle.std.proofs.Common.{◌≡◌, ℕ, zero, suc, ◌≤◌, List, [], ◌∷◌, refl, ap, sym, subst, ◌∙◌, true, false, Bool, arith, map}
use Rattle.std.specs.Prelude.{slice_get}
use Rattle.ca_program.specs.declared.program.OpId.{OpId}
use Rattle.ca_program.specs.Plain.{PlainProgram, Expression, Expressions, Statement, Statements}
use Rattle.ca_model.specs.declared.value.Value.{Value as Datum}
use Rattle.ca_model.specs.declared.value.Value.TheVariants.{Null, Ref}
use Rattle.ca_model.specs.Slots.{start_of}
use Rattle.ca_meaning.specs.Expressions.{Invocation, due}
use Rattle.ca_meaning.specs.Flows.{Flow, goes_on, gives_back, stops, runs_out, exec, exec_all, turn}
use Rattle.ca_meaning.specs.Functions.{place, body_of, locals_of, functions_of}
use Rattle.ca_meaning.specs.Serial.{World, fresh, Operations, run_call, operation_parts, operations, operations_of, serial_parts, main_run, ended, serial}
use Rattle.ca_meaning.specs.Sections.{LoopSectioned, loop_done, loop_stopped, loop_over, loop_section}
use Rattle.ca_meaning.proofs.Near.{le_self, NearFlow, flow_same, flow_with, CloseParts, exec_near, all_exec_near, loop_near}
use Rattle.ca_meaning.proofs.Fix.{eval_self, due_self, act_self, CloseOps, run_near, operation_agree, close_ops, close_all_ops}
use Rattle.ca_parallel.specs.Lists.{PlainMarks, no_marks, op_in, loop_in, note, noted, either, noted_call, loop_noted, noted_loop, noted_parts, noted_operations, noted_of, marked_parts, noted_run}
use Rattle.ca_parallel.proofs.Moved.{Prints, Notes, shifted, moved, with_moved, all_moved, turn_moved, act_moved, MovedOps, call_moved, exec_serial_moved, ops_moved}

abbrev pub as_is : Prints
as_is ps = ps

abbrev pub forgotten : Notes
forgotten ns = []

abbrev pub Forgets : Operations → Operations → Type 0
Forgets o q = MovedOps as_is forgotten o q

abbrev pub without : World → World
without w = shifted as_is forgotten w

section_forgotten : (w : World) (k : ℕ) (m : LoopSectioned) → without (loop_noted w k m) ≡ without w
section_forgotten w k (loop_done m) = refl
section_forgotten w k (loop_stopped t) = refl
section_forgotten w k loop_over = refl

module _ (p : PlainProgram) (ms : PlainMarks) (q o : Operations) (fq : Forgets q q) (fo : Forgets o q) where
  call_forgets : (ls : List Datum) (i : Invocation) (w : World) (k : ℕ) → moved as_is forgotten (noted_call ms q o ls i w k) ≡ run_call q ls i (without w) k
  call_forgets ls i w k = from (op_in ms.ops i.op)
    where
      from : (b : Bool) → moved as_is forgotten (either b (run_call q ls i (noted w (note w.heap (i ∷ []) k)) k) (run_call o ls i w k)) ≡ run_call q ls i (without w) k
      from true = call_moved as_is forgotten q q fq ls i (noted w (note w.heap (i ∷ []) k)) k
      from false = call_moved as_is forgotten o q fo ls i w k

  module _ (this : Datum) where
    calls_forget : (line : ℕ) (ls : List Datum) (w : World) (e : Expression) (op : OpId) (es : Expressions) (k : ℕ) → moved as_is forgotten ((noted_parts p ms q o this).call line ls w e op es k) ≡ (operation_parts p q this).call line ls (without w) e op es k
    calls_forget line ls w e op es k = with_moved as_is forgotten (due (functions_of p.functions w.heap).call (place w.heap this line ls) e op es k) _ w _ _ refl (λ i k. call_forgets ls i w k)

    loop_forgets : (line : ℕ) (ls : List Datum) (w : World) (s : Statement) (k : ℕ) (x y : Flow World) → moved as_is forgotten x ≡ y → y ≡ exec (operation_parts p q this) line ls (without w) s k → moved as_is forgotten (noted_loop p ms q this line ls w s k x) ≡ exec (operation_parts p q this) line ls (without w) s k
    loop_forgets line ls w s k x y e f = from (loop_in ms.loops s)
      where
        from : (r : Bool) → moved as_is forgotten (either r (exec (operation_parts p q this) line ls (loop_noted w k (loop_section p w.heap this ls line s k)) s k) x) ≡ exec (operation_parts p q this) line ls (without w) s k
        from true =
            exec_serial_moved as_is forgotten (λ ps v. refl) p q fq this s line ls (loop_noted w k (loop_section p w.heap this ls line s k)) k
            ∙ ap (λ u. exec (operation_parts p q this) line ls u s k) (section_forgotten w k (loop_section p w.heap this ls line s k))
        from false = e ∙ f

    pub all_forget : (ss : Statements) (ls : List Datum) (w : World) (k : ℕ) → moved as_is forgotten (exec_all (noted_parts p ms q o this) ls w ss k) ≡ exec_all (operation_parts p q this) ls (without w) ss k
    all_forget ss ls w k = all_moved as_is forgotten (noted_parts p ms q o this) (operation_parts p q this) (λ line ls w e k. refl) (act_moved as_is forgotten (λ ps v. refl) p this) calls_forget (fo.agains this) loop_forgets ss ls w k

    pub turn_forgets : (s : Statement) (line : ℕ) (ls : List Datum) (w : World) (k : ℕ) → moved as_is forgotten (turn (noted_parts p ms q o this) line ls w s k) ≡ turn (operation_parts p q this) line ls (without w) s k
    turn_forgets s line ls w k = turn_moved as_is forgotten (noted_parts p ms q o this) (operation_parts p q this) (λ line ls w e k. refl) (act_moved as_is forgotten (λ ps v. refl) p this) calls_forget (fo.agains this) loop_forgets s line ls w k

noted_forget : (n : ℕ) (p : PlainProgram) (ms : PlainMarks) → Forgets (noted_operations n p ms) (operations n p)
noted_forget zero p ms = record { invokes = λ i w k. refl; agains = λ this line ls w s k. refl }
noted_forget (suc n) p ms =
    let fq : Forgets (operations n p) (operations n p) = ops_moved as_is forgotten (λ ps v. refl) p n in
    let fo : Forgets (noted_operations n p ms) (operations n p) = noted_forget n p ms in
    record {
      invokes = λ i w k. all_forget p ms (operations n p) (noted_operations n p ms) fq fo (Ref i.receiver) (body_of (slice_get p.ops i.op.0)) (locals_of (slice_get p.ops i.op.0) i.arguments) w k;
      agains = λ this line ls w s k. turn_forgets p ms (operations n p) (noted_operations n p ms) fq fo this s line ls w k;
    }

noted_all_forget : (p : PlainProgram) (ms : PlainMarks) → Forgets (noted_of p ms) (operations_of p)
noted_all_forget p ms = record {
  invokes = λ i w k. let f : Forgets (noted_operations (suc k) p ms) (operations (suc k) p) = noted_forget (suc k) p ms in f.invokes i w k;
  agains = λ this line ls w s k. let f : Forgets (noted_operations (suc k) p ms) (operations (suc k) p) = noted_forget (suc k) p ms in f.agains this line ls w s k;
}

serial_forget : (p : PlainProgram) → Forgets (operations_of p) (operations_of p)
serial_forget p = record {
  invokes = λ i w k. let f : Forgets (operations (suc k) p) (operations (suc k) p) = ops_moved as_is forgotten (λ ps v. refl) p (suc k) in f.invokes i w k;
  agains = λ this line ls w s k. let f : Forgets (operations (suc k) p) (operations (suc k) p) = ops_moved as_is forgotten (λ ps v. refl) p (suc k) in f.agains this line ls w s k;
}

-- but for its notes the run with marks is the serial run
pub run_forgets : (p : PlainProgram) (ms : PlainMarks) (k : ℕ) → moved as_is forgotten (noted_run p ms k) ≡ main_run p k
run_forgets p ms k = all_forget p ms (operations_of p) (noted_of p ms) (serial_forget p) (noted_all_forget p ms) Null p.main.statements (map start_of p.main.locals) (fresh []) k

ended_forgets : (budget : ℕ) (x : Flow World) → ended budget (moved as_is forgotten x) ≡ ended budget x
ended_forgets budget (goes_on ls w k) = refl
ended_forgets budget (gives_back v w k) = refl
ended_forgets budget (stops t w) = refl
ended_forgets budget (runs_out w) = refl

pub notes_change_nothing : (p : PlainProgram) (ms : PlainMarks) (budget : ℕ) → ended budget (noted_run p ms budget) ≡ serial p budget
notes_change_nothing p ms budget = sym (ended_forgets budget (noted_run p ms budget)) ∙ ap (ended budget) (run_forgets p ms budget)

-- ---- fixed points

noted_call_near : (n : ℕ) (ms : PlainMarks) (f g o u : Operations) → CloseOps n f g → CloseOps n o u → (ls : List Datum) (i : Invocation) (w : World) (k : ℕ) → k ≤ n → NearFlow k (noted_call ms f o ls i w k) (noted_call ms g u ls i w k)
noted_call_near n ms f g o u c d ls i w k le = from (op_in ms.ops i.op)
  where
    from : (b : Bool) → NearFlow k (either b (run_call f ls i (noted w (note w.heap (i ∷ []) k)) k) (run_call o ls i w k)) (either b (run_call g ls i (noted w (note w.heap (i ∷ []) k)) k) (run_call u ls i w k))
    from true = run_near n f g c ls i _ k le
    from false = run_near n o u d ls i w k le

noted_loop_near : (n : ℕ) (p : PlainProgram) (ms : PlainMarks) (f g : Operations) → CloseOps n f g → (this : Datum) (line : ℕ) (ls : List Datum) (w : World) (s : Statement) (k : ℕ) (x y : Flow World) → k ≤ n → NearFlow k x y → NearFlow k (noted_loop p ms f this line ls w s k x) (noted_loop p ms g this line ls w s k y)
noted_loop_near n p ms f g c this line ls w s k x y le near = from (loop_in ms.loops s)
  where
    from : (r : Bool) → NearFlow k (either r (exec (operation_parts p f this) line ls (loop_noted w k (loop_section p w.heap this ls line s k)) s k) x) (either r (exec (operation_parts p g this) line ls (loop_noted w k (loop_section p w.heap this ls line s k)) s k) y)
    from true = exec_near n _ _ (operation_agree n p f g c this) s line ls (loop_noted w k (loop_section p w.heap this ls line s k)) k le
    from false = near

noted_agree : (n : ℕ) (p : PlainProgram) (ms : PlainMarks) (f g o u : Operations) → CloseOps n f g → CloseOps n o u → (this : Datum) → CloseParts n (noted_parts p ms f o this) (noted_parts p ms g u this)
noted_agree n p ms f g o u c d this = record {
  values = λ line ls w e k le. eval_self p.functions w.heap (place w.heap this line ls) e k;
  acts = λ line ls w x k le. act_self p this line ls w x k;
  calls = λ line ls w e op es k le. flow_with w _ _ (due_self p.functions w.heap (place w.heap this line ls) e op es k) (λ i k1 le1. noted_call_near n ms f g o u c d ls i w k1 (omega arith));
  agains = λ line ls w x k lt. d.agains this line ls w x k lt;
  begins = λ line ls w x k a b le near. noted_loop_near n p ms f g c this line ls w x k a b le near;
}

close_noted : (p : PlainProgram) (ms : PlainMarks) (n a b : ℕ) → n ≤ a → n ≤ b → CloseOps n (noted_operations a p ms) (noted_operations b p ms)
close_noted p ms n zero b x y = record { invokes = λ i w k lt. absurd (omega arith); agains = λ this line ls w z k lt. absurd (omega arith) }
close_noted p ms n (suc a) zero x y = record { invokes = λ i w k lt. absurd (omega arith); agains = λ this line ls w z k lt. absurd (omega arith) }
close_noted p ms n (suc a) (suc b) x y = record {
  invokes = λ i w k lt. all_exec_near k _ _ (noted_agree k p ms _ _ _ _ (close_ops p k a b (omega arith) (omega arith)) (close_noted p ms k a b (omega arith) (omega arith)) (Ref i.receiver)) (body_of (slice_get p.ops i.op.0)) (locals_of (slice_get p.ops i.op.0) i.arguments) w k (le_self k);
  agains = λ this line ls w z k lt. loop_near k _ _ (noted_agree k p ms _ _ _ _ (close_ops p k a b (omega arith) (omega arith)) (close_noted p ms k a b (omega arith) (omega arith)) this) z line ls w k (le_self k);
}

close_all_noted : (p : PlainProgram) (ms : PlainMarks) (n : ℕ) → CloseOps n (noted_operations n p ms) (noted_of p ms)
close_all_noted p ms n = record {
  invokes = λ i w k lt. let c : CloseOps (suc k) (noted_operations n p ms) (noted_operations (suc k) p ms) = close_noted p ms (suc k) n (suc k) lt (le_self (suc k)) in c.invokes i w k (le_self (suc k));
  agains = λ this line ls w x k lt. let c : CloseOps (suc k) (noted_operations n p ms) (noted_operations (suc k) p ms) = close_noted p ms (suc k) n (suc k) lt (le_self (suc k)) in c.agains this line ls w x k (le_self (suc k));
}

-- a call runs its body
pub noted_invoke_runs : (p : PlainProgram) (ms : PlainMarks) (i : Invocation) (w : World) (k : ℕ) → (noted_of p ms).invoke i w k ≡ exec_all (marked_parts p ms (Ref i.receiver)) (locals_of (slice_get p.ops i.op.0) i.arguments) w (body_of (slice_get p.ops i.op.0)) k
noted_invoke_runs p ms i w k = flow_same (all_exec_near k _ _ (noted_agree k p ms _ _ _ _ (close_all_ops p k) (close_all_noted p ms k) (Ref i.receiver)) (body_of (slice_get p.ops i.op.0)) (locals_of (slice_get p.ops i.op.0) i.arguments) w k (le_self k))

-- a loop that comes again begins anew
pub noted_loop_runs : (p : PlainProgram) (ms : PlainMarks) (this : Datum) (line : ℕ) (ls : List Datum) (w : World) (x : Statement) (k : ℕ) → (noted_of p ms).again this line ls w x k ≡ turn (marked_parts p ms this) line ls w x k
noted_loop_runs p ms this line ls w x k = flow_same (loop_near k _ _ (noted_agree k p ms _ _ _ _ (close_all_ops p k) (close_all_noted p ms k) this) x line ls w k (le_self k))

-- ---- without marks a run takes no notes: it is the serial run

abbrev built : PlainProgram → Operations → Operations → Operations
built p q o = record {
  invoke = λ i w k. exec_all (noted_parts p no_marks q o (Ref i.receiver)) (locals_of (slice_get p.ops i.op.0) i.arguments) w (body_of (slice_get p.ops i.op.0)) k;
  again = λ this line ls w loop k. turn (noted_parts p no_marks q o this) line ls w loop k;
}

none_operations : (n : ℕ) (p : PlainProgram) → noted_operations n p no_marks ≡ operations n p
none_operations zero p = refl
none_operations (suc n) p = ap (λ o. built p (operations n p) o) (none_operations n p)

pub none_all : (p : PlainProgram) (this : Datum) (ss : Statements) (ls : List Datum) (w : World) (k : ℕ) → exec_all (marked_parts p no_marks this) ls w ss k ≡ exec_all (serial_parts p this) ls w ss k
none_all p this ss ls w k = flow_same (all_exec_near k _ _ (none_agree k) ss ls w k (le_self k))
  where
    none_ops : (n : ℕ) → CloseOps n (noted_of p no_marks) (operations_of p)
    none_ops n = record {
      invokes = λ i w k lt. let c : CloseOps (suc k) (operations (suc k) p) (operations_of p) = close_all_ops p (suc k) in subst (λ (o : Operations). NearFlow k (o.invoke i w k) ((operations_of p).invoke i w k)) (sym (none_operations (suc k) p)) (c.invokes i w k (le_self (suc k)));
      agains = λ this line ls w x k lt. let c : CloseOps (suc k) (operations (suc k) p) (operations_of p) = close_all_ops p (suc k) in subst (λ (o : Operations). NearFlow k (o.again this line ls w x k) ((operations_of p).again this line ls w x k)) (sym (none_operations (suc k) p)) (c.agains this line ls w x k (le_self (suc k)));
    }

    none_agree : (n : ℕ) → CloseParts n (marked_parts p no_marks this) (serial_parts p this)
    none_agree n = operation_agree n p (noted_of p no_marks) (operations_of p) (none_ops n) this
