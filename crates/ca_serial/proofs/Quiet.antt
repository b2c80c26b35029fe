-- Operations of a parallel extent print nothing.
use Rattle.std.proofs.Common.{◌≡◌, ℕ, zero, suc, List, [], ◌∷◌, ◌++◌, refl, ap, sym, subst, ◌∙◌, true, false, Bool, map}
use Rattle.std.specs.Prelude.{slice_get, ◌||◌, Contains}
use Rattle.std.proofs.lemmas.List.Elements.{Contains-push, Contains-append_left}
use Rattle.ca_program.specs.declared.program.FieldId.{FieldId}
use Rattle.ca_program.specs.declared.program.OpId.{OpId}
use Rattle.ca_program.specs.Plain.{PlainProgram, Expression, Statement, Statements, block, put_local, put_field, put_item, new_local, new_field, new_item, invoke, if_else, while_loop, for_loop, return_value, print_value, no_statements, statement_and}
use Rattle.ca_model.specs.declared.value.Value.{Value as Datum}
use Rattle.ca_model.specs.declared.value.Value.TheVariants.{Long, Bool as Truth, Null, Ref}
use Rattle.ca_model.specs.declared.value.Object.{Object}
use Rattle.ca_meaning.specs.Expressions.{Out, gives, traps, over, take_step, Invocation, due}
use Rattle.ca_meaning.specs.Flows.{Flow, goes_on, gives_back, stops, runs_out, and_on, with, choose, Parts, line_of, turn_of, exec, exec_all, turn}
use Rattle.ca_meaning.specs.Functions.{place, body_of, locals_of, functions_of, value_in}
use Rattle.ca_meaning.specs.Serial.{World, fresh, own_item_at, Operations, came_back, run_call, operation_act, operation_parts, operations, operations_of, serial_ops}
use Rattle.ca_meaning_laws.specs.Typed.{Yields, yields}
use Rattle.ca_parallel.specs.Bodies.{calls_of, calls_of_all}
use Rattle.ca_parallel.specs.Calls.{RunsTo}
use Rattle.ca_parallel.specs.Extents.{operation_body, called}
use Rattle.ca_parallel.specs.Lists.{world_after}
use Rattle.ca_parallel.specs.Notes.{op_of}
use Rattle.ca_parallel.specs.Parallel.{ParallelFrom}
use Rattle.ca_parallel.specs.Separable.{IsSeparated, AreSeparated, Separable, holds_call}
use Rattle.ca_order_laws.proofs.Kept.{Within, within_left, within_right}
use Rattle.ca_order_laws.proofs.Grown.{due_calls}

-- a run that leaves these values printed
record Quiet (ps : List Datum) (a : Flow World) : Type 0 where
  prints : (world_after a).prints ≡ ps

quiet_with : {A : Type 0} (ps : List Datum) (o : Out A) (w : World) (f : A → ℕ → Flow World) → w.prints ≡ ps → ((v : A) (k : ℕ) → Quiet ps (f v k)) → Quiet ps (with o w f)
quiet_with ps (gives v k) w f at h = h v k
quiet_with ps (traps t) w f at h = record { prints = at }
quiet_with ps over w f at h = record { prints = at }

quiet_yields : {A : Type 0} (P : A → Type 0) (ps : List Datum) (o : Out A) (w : World) (f : A → ℕ → Flow World) → w.prints ≡ ps → Yields P o → ((v : A) (k : ℕ) → P v → Quiet ps (f v k)) → Quiet ps (with o w f)
quiet_yields P ps (gives v k) w f at (yields _ _ x) h = h v k x
quiet_yields P ps (traps t) w f at y h = record { prints = at }
quiet_yields P ps over w f at y h = record { prints = at }

quiet_on : (ps : List Datum) (a : Flow World) (f : List Datum → World → ℕ → Flow World) → Quiet ps a → ((ls : List Datum) (w : World) (k : ℕ) → w.prints ≡ ps → Quiet ps (f ls w k)) → Quiet ps (and_on a f)
quiet_on ps (goes_on ls w k) f q h = h ls w k q.prints
quiet_on ps (gives_back v w k) f q h = record { prints = q.prints }
quiet_on ps (stops t w) f q h = record { prints = q.prints }
quiet_on ps (runs_out w) f q h = record { prints = q.prints }

quiet_choose : (ps : List Datum) (v : Datum) (a b : Flow World) → Quiet ps a → Quiet ps b → Quiet ps (choose v a b)
quiet_choose ps (Truth true) a b x y = x
quiet_choose ps (Truth false) a b x y = y
quiet_choose ps (Long n) a b x y = y
quiet_choose ps (Ref n) a b x y = y
quiet_choose ps Null a b x y = y

quiet_back : (ps ls : List Datum) (a : Flow World) → Quiet ps a → Quiet ps (came_back ls a)
quiet_back ps ls (goes_on ms w k) q = record { prints = q.prints }
quiet_back ps ls (gives_back v w k) q = record { prints = q.prints }
quiet_back ps ls (stops t w) q = record { prints = q.prints }
quiet_back ps ls (runs_out w) q = record { prints = q.prints }

module _ (p : PlainProgram) (written : List FieldId) (ops : List OpId) (separable : (op : OpId) → Contains ops op → Separable p written op) (closed : (op : OpId) → Contains ops op → Within ops (calls_of_all (operation_body p op))) where
  record QuietOps (o : Operations) : Type 0 where
    invokes : (ps : List Datum) (i : Invocation) (w : World) (k : ℕ) → Contains ops i.op → w.prints ≡ ps → Quiet ps (o.invoke i w k)
    agains : (ps : List Datum) (b : Bool) (this : Datum) (line : ℕ) (ls : List Datum) (w : World) (s : Statement) (k : ℕ) → IsSeparated p written b s → Within ops (calls_of s) → w.prints ≡ ps → Quiet ps (o.again this line ls w s k)

  quiet_call : (o : Operations) → QuietOps o → (ps ls : List Datum) (i : Invocation) (w : World) (k : ℕ) → Contains ops i.op → w.prints ≡ ps → Quiet ps (run_call o ls i w k)
  quiet_call o all ps ls i w k inside at = quiet_with ps (take_step k) w _ at (λ z k. quiet_back ps ls (o.invoke i w k) (all.invokes ps i w k inside at))

  module _ (o : Operations) (all : QuietOps o) (this : Datum) (ps : List Datum) where
    abbrev parts : Parts World
    parts = operation_parts p o this

    put_quiet : (line : ℕ) (ls : List Datum) (w : World) (l : ℕ) (f : FieldId) (op : _) (e : Expression) (k : ℕ) → w.prints ≡ ps → Quiet ps (operation_act p this line ls w (put_field l f op e) k)
    put_quiet line ls w l f op e k at = quiet_with ps (value_in p.functions w.heap this line ls e k) w _ at (λ v k. record { prints = at })

    item_quiet : (line : ℕ) (ls : List Datum) (w : World) (l : ℕ) (f : FieldId) (i : Expression) (op : _) (e : Expression) (k : ℕ) → w.prints ≡ ps → Quiet ps (operation_act p this line ls w (put_item l f i op e) k)
    item_quiet line ls w l f i op e k at =
        quiet_with ps (value_in p.functions w.heap this line ls i k) w _ at (λ u k. quiet_with ps (own_item_at line w this f u k) w _ at (λ item k. quiet_with ps (value_in p.functions w.heap this line ls e k) w _ at (λ v k. record { prints = at })))

    turn_of_quiet : (b : Bool) (c : Expression) (f : List Datum → World → ℕ → Flow World) (loop : Statement) (line : ℕ) (ls : List Datum) (w : World) (k : ℕ) → IsSeparated p written b loop → Within ops (calls_of loop) → w.prints ≡ ps → ((ls : List Datum) (w : World) (k : ℕ) → w.prints ≡ ps → Quiet ps (f ls w k)) → Quiet ps (turn_of parts c f loop line ls w k)
    turn_of_quiet b c f loop line ls w k sep inside at body =
        quiet_with ps (parts.value line ls w c k) w _ at (λ v k. quiet_choose ps v _ _
        (quiet_with ps (take_step k) w _ at (λ z k. quiet_on ps (f ls w k) _ (body ls w k at) (λ ls w k at. all.agains ps b this line ls w loop k sep inside at)))
        (record { prints = at }))

    mutual
      exec_quiet : (s : Statement) (b : Bool) → IsSeparated p written b s → Within ops (calls_of s) → (line : ℕ) (ls : List Datum) (w : World) (k : ℕ) → w.prints ≡ ps → Quiet ps (exec parts line ls w s k)
      exec_quiet (block l ss) b sep inside line ls w k at = all_quiet ss b sep inside ls w k at
      exec_quiet (put_local l i op e) b sep inside line ls w k at = quiet_with ps (parts.value line ls w e k) w _ at (λ v k. record { prints = at })
      exec_quiet (put_field l f op e) b sep inside line ls w k at = put_quiet line ls w l f op e k at
      exec_quiet (put_item l f i op e) b sep inside line ls w k at = item_quiet line ls w l f i op e k at
      exec_quiet (new_local l i c) b sep inside line ls w k at = absurd sep
      exec_quiet (new_field l f c) b sep inside line ls w k at = absurd sep
      exec_quiet (new_item l f i c) b sep inside line ls w k at = absurd sep
      exec_quiet (invoke l e op es) b sep inside line ls w k at =
          quiet_yields (λ i. i.op ≡ op) ps (due (functions_of p.functions w.heap).call (place w.heap this line ls) e op es k) w _ at (due_calls (functions_of p.functions w.heap).call (place w.heap this line ls) e op es k)
          (λ i k is. quiet_call o all ps ls i w k (subst (λ z. Contains ops z) (sym is) (inside op (Contains-push [] op))) at)
      exec_quiet (if_else l c x y) b sep inside line ls w k at =
          quiet_with ps (parts.value line ls w c k) w _ at (λ v k. quiet_choose ps v _ _
          (exec_quiet x b sep.1 (within_left ops (calls_of x) (calls_of y) inside) (line_of x) ls w k at)
          (exec_quiet y b sep.2 (within_right ops (calls_of x) (calls_of y) inside) (line_of y) ls w k at))
      exec_quiet (while_loop l c x) b sep inside line ls w k at =
          turn_of_quiet b c (λ ls w k. exec parts (line_of x) ls w x k) (while_loop l c x) line ls w k sep inside at (λ ls w k at. exec_quiet x (b || holds_call x) sep.1 inside (line_of x) ls w k at)
      exec_quiet (for_loop l site part first c next x) b sep inside line ls w k at =
          let loop : Statement = for_loop l site part first c next x in
          let up : Bool = b || holds_call loop in
          let rest : Within ops (calls_of next ++ calls_of x) = within_right ops (calls_of first) (calls_of next ++ calls_of x) inside in
          quiet_on ps (exec parts line ls w first k) _ (exec_quiet first up sep.0 (within_left ops (calls_of first) (calls_of next ++ calls_of x) inside) line ls w k at) (λ ls w k at.
          turn_of_quiet b c (λ ls w k. and_on (exec parts (line_of x) ls w x k) (λ ls w k. exec parts line ls w next k)) loop line ls w k sep inside at (λ ls w k at.
          quiet_on ps (exec parts (line_of x) ls w x k) _ (exec_quiet x up sep.3 (within_right ops (calls_of next) (calls_of x) rest) (line_of x) ls w k at)
          (λ ls w k at. exec_quiet next up sep.2 (within_left ops (calls_of next) (calls_of x) rest) line ls w k at)))
      exec_quiet (return_value l e) b sep inside line ls w k at = quiet_with ps (parts.value line ls w e k) w _ at (λ v k. record { prints = at })
      exec_quiet (print_value l e) b sep inside line ls w k at = absurd sep

      all_quiet : (ss : Statements) (b : Bool) → AreSeparated p written b ss → Within ops (calls_of_all ss) → (ls : List Datum) (w : World) (k : ℕ) → w.prints ≡ ps → Quiet ps (exec_all parts ls w ss k)
      all_quiet no_statements b sep inside ls w k at = record { prints = at }
      all_quiet (statement_and s ss) b sep inside ls w k at =
          quiet_on ps (exec parts (line_of s) ls w s k) _ (exec_quiet s b sep.0 (within_left ops (calls_of s) (calls_of_all ss) inside) (line_of s) ls w k at)
          (λ ls w k at. all_quiet ss (b || holds_call s) sep.1 (within_right ops (calls_of s) (calls_of_all ss) inside) ls w k at)

    loop_quiet : (s : Statement) (b : Bool) → IsSeparated p written b s → Within ops (calls_of s) → (line : ℕ) (ls : List Datum) (w : World) (k : ℕ) → w.prints ≡ ps → Quiet ps (turn parts line ls w s k)
    loop_quiet (while_loop l c x) b sep inside line ls w k at =
        turn_of_quiet b c (λ ls w k. exec parts (line_of x) ls w x k) (while_loop l c x) line ls w k sep inside at (λ ls w k at. exec_quiet x (b || holds_call x) sep.1 inside (line_of x) ls w k at)
    loop_quiet (for_loop l site part first c next x) b sep inside line ls w k at =
        let loop : Statement = for_loop l site part first c next x in
        let up : Bool = b || holds_call loop in
        let rest : Within ops (calls_of next ++ calls_of x) = within_right ops (calls_of first) (calls_of next ++ calls_of x) inside in
        turn_of_quiet b c (λ ls w k. and_on (exec parts (line_of x) ls w x k) (λ ls w k. exec parts line ls w next k)) loop line ls w k sep inside at (λ ls w k at.
        quiet_on ps (exec parts (line_of x) ls w x k) _ (exec_quiet x up sep.3 (within_right ops (calls_of next) (calls_of x) rest) (line_of x) ls w k at)
        (λ ls w k at. exec_quiet next up sep.2 (within_left ops (calls_of next) (calls_of x) rest) line ls w k at))
    loop_quiet (block l ss) b sep inside line ls w k at = record { prints = at }
    loop_quiet (put_local l i op e) b sep inside line ls w k at = record { prints = at }
    loop_quiet (put_field l f op e) b sep inside line ls w k at = record { prints = at }
    loop_quiet (put_item l f i op e) b sep inside line ls w k at = record { prints = at }
    loop_quiet (new_local l i c) b sep inside line ls w k at = record { prints = at }
    loop_quiet (new_field l f c) b sep inside line ls w k at = record { prints = at }
    loop_quiet (new_item l f i c) b sep inside line ls w k at = record { prints = at }
    loop_quiet (invoke l e op es) b sep inside line ls w k at = record { prints = at }
    loop_quiet (if_else l c x y) b sep inside line ls w k at = record { prints = at }
    loop_quiet (return_value l e) b sep inside line ls w k at = record { prints = at }
    loop_quiet (print_value l e) b sep inside line ls w k at = record { prints = at }

  quiet_ops : (n : ℕ) → QuietOps (operations n p)
  quiet_ops zero = record { invokes = λ ps i w k inside at. record { prints = at }; agains = λ ps b this line ls w s k sep inside at. record { prints = at } }
  quiet_ops (suc n) = record {
    invokes = λ ps i w k inside at. all_quiet (operations n p) (quiet_ops n) (Ref i.receiver) ps (body_of (slice_get p.ops i.op.0)) false (separable i.op inside) (closed i.op inside) (locals_of (slice_get p.ops i.op.0) i.arguments) w k at;
    agains = λ ps b this line ls w s k sep inside at. loop_quiet (operations n p) (quiet_ops n) this ps s b sep inside line ls w k at;
  }

  all_quiet_ops : QuietOps (operations_of p)
  all_quiet_ops = record {
    invokes = λ ps i w k inside at. let q : QuietOps (operations (suc k) p) = quiet_ops (suc k) in q.invokes ps i w k inside at;
    agains = λ ps b this line ls w s k sep inside at. let q : QuietOps (operations (suc k) p) = quiet_ops (suc k) in q.agains ps b this line ls w s k sep inside at;
  }

  serial_quiet : (ps : List Datum) (is : List Invocation) → Within ops (map op_of is) → (w : World) (k : ℕ) → w.prints ≡ ps → Quiet ps (serial_ops p is w k)
  serial_quiet ps [] inside w k at = record { prints = at }
  serial_quiet ps (i ∷ is) inside w k at =
      quiet_on ps (run_call (operations_of p) [] i w k) _ (quiet_call (operations_of p) all_quiet_ops ps [] i w k (inside i.op (Contains-append_left (i.op ∷ []) (map op_of is) i.op (Contains-push [] i.op))) at)
      (λ ls w k at. serial_quiet ps is (within_right ops (i.op ∷ []) (map op_of is) inside) w k at)

-- what an engine answers of such operations tells all of their run
pub run_is : (p : PlainProgram) (is : List Invocation) → ParallelFrom p (map op_of is) → (h after : List Object) (k steps : ℕ) (r : RunsTo p h is k after steps) → serial_ops p is (fresh h) k ≡ goes_on [] (fresh after) r.left
run_is p is from h after k steps r =
    let x = from.extent in
    let q : Quiet [] (serial_ops p is (fresh h) k) = serial_quiet p x.written x.ops from.parallel.separable (λ op at callee c. (from.is.ops callee).1 (called ((from.is.ops op).0 at) c)) [] is from.holds (fresh h) k refl in
    let none : r.prints ≡ [] = sym (ap (λ a. (world_after a).prints) r.run) ∙ q.prints in
    r.run ∙ ap (λ ps. goes_on [] (record { heap = after; prints = ps; notes = [] }) r.left) none
