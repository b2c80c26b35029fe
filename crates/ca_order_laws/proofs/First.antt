-- From a serial run to the section and then the serial run of what it lists, for all forms of statements.
use Rattle.std.proofs.Common.{◌≡◌, ℕ, zero, suc, ◌+◌, ◌<◌, ◌≤◌, List, ◌++◌, Some, None, refl, ap, sym, subst, ◌∙◌, arith, true, false, Bool}
use Rattle.std.specs.Prelude.{slice_get, slice_set, ◌||◌, Contains}
use Rattle.ca_program.specs.declared.program.FieldId.{FieldId}
use Rattle.ca_program.specs.declared.program.OpId.{OpId}
use Rattle.ca_program.specs.declared.program.LoopId.{LoopId}
use Rattle.ca_program.specs.declared.program.FirstPart.{FirstPart}
use Rattle.ca_tree.specs.declared.tree.AssignOp.{AssignOp}
use Rattle.ca_program.specs.declared.program.ValueType.TheVariants.{Long as LongType, Bool as BoolType}
use Rattle.ca_program.specs.Plain.{PlainProgram, Expression, Expressions, Statement, Statements, block, put_local, put_field, put_item, new_local, new_field, new_item, invoke, if_else, while_loop, for_loop, return_value, print_value, no_statements, statement_and}
use Rattle.ca_model.specs.declared.value.Value.{Value as Datum}
use Rattle.ca_model.specs.declared.value.Value.TheVariants.{Long, Bool as Truth, Null, Ref}
use Rattle.ca_model.specs.declared.value.Slot.{Slot}
use Rattle.ca_model.specs.Slots.{put_slot}
use Rattle.ca_meaning.specs.Operators.{assigned}
use Rattle.ca_meaning.specs.Expressions.{Out, take_step, value_at, one_in, items_in, Item, indexed, due}
use Rattle.ca_meaning.specs.Flows.{Flow, goes_on, and_on, with, choose, Parts, line_of, turn_of, exec, exec_all}
use Rattle.ca_meaning.specs.Functions.{place, functions_of}
use Rattle.ca_meaning.specs.Serial.{World, in_heap, put_own, own_value, own_item_at, run_call, operations_of, serial_parts}
use Rattle.ca_meaning.specs.Sections.{Section, with_own, with_listed, section_place, section_item_at, section_parts}
use Rattle.ca_meaning.specs.WellTyped.{ValuesTyped}
use Rattle.ca_meaning.specs.ProgramTyped.{Scope, ExpressionTyped, StatementTyped, StatementsTyped}
use Rattle.ca_meaning.proofs.Fix.{loop_runs, section_loop_runs}
use Rattle.ca_parallel.proofs.Somes.{some_left, some_right}
use Rattle.ca_meaning_laws.specs.Budgets.{Takes, End, on_with, Reaches}
use Rattle.ca_meaning_laws.proofs.Steady.{SteadyFlow, flow_less, steady_with, steady_on, steady_stop, steady_choose, steady_turn, steady_indexed, SteadyParts, exec_steady, all_exec_steady, reaches_with, reaches_on}
use Rattle.ca_meaning_laws.proofs.Bigs.{value_steady, dues_steady, serial_parts_steady, serial_call_steady, PartsWith, parts_with, PartsOn, parts_on, AfterStep, after_step, before_step}
use Rattle.ca_parallel.specs.Bodies.{calls_of, calls_of_all}
use Rattle.ca_parallel.specs.Separable.{IsClean, is_some_of, holds_call, IsSeparated, AreSeparated}
use Rattle.ca_order_laws.proofs.Flags.{Rise, rise_or, rise_part, rise_other, rise_two, rise_again, never_down}
use Rattle.ca_order_laws.proofs.Runs.{AtOnce, at_once, reaches_same, takes_same, stop_reaches, reaches_steps, Called, called, one_more}
use Rattle.ca_order_laws.proofs.Kept.{IsKept, AreKept}
use Rattle.ca_order_laws.proofs.Grown.{due_calls}
use Rattle.ca_order_laws.proofs.Related.{called_op, put_constants, Related, rel_rise, rel_before, own_before, listed_inside, Common, locals_after, after_put, rel_put}

module _ (p : PlainProgram) (written : List FieldId) (ops : List OpId) (sc : Scope) (w0 : World) (this : Datum) (put_in : List Slot → World) (b0 : Bool) where
  abbrev wp : Parts World
  wp = serial_parts p this

  abbrev qp : Parts Section
  qp = section_parts p w0.heap this

  abbrev R : Bool → World → Section → ℕ → Type 0
  R b w s t = Related p written ops sc w0 this put_in b0 b w s t

  rises : {b c : Bool} {w : World} {s : Section} {t : ℕ} → Rise b c → R b w s t → R c w s t
  rises up a = rel_rise p written ops sc w0 this put_in b0 up a

  -- what the section makes of the same statement
  pub record Forth (g : ℕ → Flow Section) (b : Bool) (ls : List Datum) (w : World) (m : ℕ) : Type 0 where
    pub s : Section
    pub n : ℕ
    pub t : ℕ
    pub reaches : Reaches g (on_with ls s) n
    pub rel : R b w s t
    pub sum : m ≡ n + t

  forth_at : {g : ℕ → Flow Section} {b : Bool} {ls ms : List Datum} {w v : World} {m n : ℕ} → ls ≡ ms → w ≡ v → m ≡ n → Forth g b ls w m → Forth g b ms v n
  forth_at {g} {b} {ls} {ms} {w} {v} {m} {n} a c d f = subst (λ z. Forth g b ms v z) d (subst (λ z. Forth g b ms z m) c (subst (λ z. Forth g b z w m) a f))

  forth_rise : {g : ℕ → Flow Section} {b c : Bool} {ls : List Datum} {w : World} {m : ℕ} → Rise b c → Forth g b ls w m → Forth g c ls w m
  forth_rise up f = record { s = f.s; n = f.n; t = f.t; reaches = f.reaches; rel = rises up f.rel; sum = f.sum }

  forth_with : {A : Type 0} (f : ℕ → Out A) (s : Section) (g : A → ℕ → Flow Section) (v : A) (a t n : ℕ) {b : Bool} {ls : List Datum} {w : World} → Takes f v a → Forth (g v) b ls w (t + n) → Forth (λ k. with (f k) s g) b ls w (t + (a + n))
  forth_with f s g v a t n {b} {ls} {w} takes z = let e = z.sum in record { s = z.s; n = a + z.n; t = z.t; reaches = reaches_with f s g v (on_with ls z.s) a z.n takes z.reaches; rel = z.rel; sum = omega arith }

  forth_choose : (v : Datum) (y z : ℕ → Flow World) (c d : ℕ → Flow Section) (e : End World) (n m : ℕ) {b : Bool} {ls : List Datum} {w : World} → (Reaches y e n → Forth c b ls w m) → (Reaches z e n → Forth d b ls w m) → Reaches (λ k. choose v (y k) (z k)) e n → Forth (λ k. choose v (c k) (d k)) b ls w m
  forth_choose (Truth true) y z c d e n m f g a = f a
  forth_choose (Truth false) y z c d e n m f g a = g a
  forth_choose (Long i) y z c d e n m f g a = g a
  forth_choose (Ref i) y z c d e n m f g a = g a
  forth_choose Null y z c d e n m f g a = g a

  -- a part that ends at once with the world as it is
  forth_stop : (b : Bool) (ls ms : List Datum) (w v : World) (s : Section) (t n : ℕ) → R b w s t → Reaches (λ k. goes_on ls w k) (on_with ms v) n → Forth (λ k. goes_on ls s k) b ms v (t + n)
  forth_stop b ls ms w v s t n a f =
      let o : AtOnce ls ms w v n = at_once ls ms w v n f in
      let z = o.none in
      forth_at o.locals o.state (let e : 0 + t ≡ t + n = omega arith in e) record { s = s; n = 0; t = t; reaches = stop_reaches ls s; rel = a; sum = refl }

  forth_on : (f : ℕ → Flow Section) (g : List Datum → Section → ℕ → Flow Section) (b c : Bool) (ls ms : List Datum) (w v : World) (t n m : ℕ) (z : Forth f b ls w (t + n)) → Forth (g ls z.s) c ms v (z.t + m) → Forth (λ k. and_on (f k) g) c ms v (t + (n + m))
  forth_on f g b c ls ms w v t n m z y = let e = z.sum in let d = y.sum in record { s = y.s; n = z.n + y.n; t = y.t; reaches = reaches_on f g ls z.s (on_with ms y.s) z.n y.n z.reaches y.reaches; rel = y.rel; sum = omega arith }

  forth_step : (s : Section) (g : ℕ → Flow Section) (t m n : ℕ) {b : Bool} {ms : List Datum} {v : World} → n ≡ suc m → Forth g b ms v (t + m) → Forth (λ k. with (take_step k) s (λ z k. g k)) b ms v (t + n)
  forth_step s g t m n {b} {ms} {v} e z = let q = z.sum in record { s = z.s; n = suc z.n; t = z.t; reaches = before_step s g (on_with ms z.s) z.n z.reaches; rel = z.rel; sum = omega arith }

  module _ (common : Common p written ops sc w0 this put_in b0) where
    put_forward : (l : ℕ) (f : FieldId) (op : AssignOp) (e : Expression) → IsSeparated p written false (put_field l f op e) → StatementTyped p sc (put_field l f op e) → Contains written f → (line : ℕ) (ls : List Datum) (w : World) (s : Section) (t : ℕ) → ValuesTyped w0.heap ls sc.locals → R false w s t → (ms : List Datum) (v : World) (n : ℕ) → Reaches (λ k. exec wp line ls w (put_field l f op e) k) (on_with ms v) n → Forth (λ k. exec qp line ls s (put_field l f op e) k) false ms v (t + n)
    put_forward l f op e a ty kept line ls w s t tl rel ms v n run =
        let c : PartsWith (λ k. wp.value line ls w e k) (λ y k. goes_on ls (in_heap w (put_own w.heap this f 0 (assigned op (own_value w this f) y))) k) (on_with ms v) n =
        parts_with _ w _ _ n (value_steady p.functions w.heap (place w.heap this line ls) e n) (λ y. steady_stop (on_with ls (in_heap w (put_own w.heap this f 0 (assigned op (own_value w this f) y))))) run in
        let x : Datum = assigned op (own_value w this f) c.v in
        let y : Datum = assigned op (one_in (slice_get s.own f.field)) c.v in
        let xy : x ≡ y = ap (λ o. assigned op (one_in (slice_get o f.field)) c.v) (own_before p written ops sc w0 this put_in b0 common.puts w s t rel) in
        let o : AtOnce ls ms (in_heap w (put_own w.heap this f 0 x)) v c.t = at_once ls ms _ v c.t c.rest in
        let z = o.none in let q = c.sum in let tz = (rel_before p written ops sc w0 this put_in b0 w s t rel).1 in
        let own : List Slot = put_slot s.own f.field 0 y in
        let fate : Reaches (λ k. exec qp line ls s (put_field l f op e) k) (on_with ls (with_own s own)) c.s =
        reaches_steps (let q : c.s + 0 ≡ c.s = omega arith in q) (reaches_with (λ k. qp.value line ls s e k) s (λ y k. goes_on ls (with_own s (put_slot s.own f.field 0 (assigned op (one_in (slice_get s.own f.field)) y))) k) c.v (on_with ls (with_own s own)) c.s 0 (takes_same (λ k. common.values false w s t rel line ls tl e ty.0 ty.3.1 a.1 k) c.first) (stop_reaches ls (with_own s own))) in
        let good = (locals_after p written ops sc w0 this put_in b0 common line ls ls s (with_own s own) (put_field l f op e) (c.s + 0) 0 rel.lite.typed tl ty (fate.at 0)).1 in
        forth_at o.locals o.state (let q : c.s + 0 ≡ t + n = omega arith in q)
        record { s = with_own s own; n = c.s; t = 0; reaches = fate; rel = rel_put p written ops sc w0 this put_in b0 common own w _ s t rel good (put_constants p written ops sc w0 this put_in b0 s.own f 0 y kept ty.1.1 rel.lite.constants) (after_put p written ops sc w0 this put_in b0 common f 0 x y w s t rel xy); sum = refl }

    call_forward : (l : ℕ) (e : Expression) (op : OpId) (es : Expressions) (b : Bool) → IsSeparated p written b (invoke l e op es) → StatementTyped p sc (invoke l e op es) → Contains ops op → (line : ℕ) (ls : List Datum) (w : World) (s : Section) (t : ℕ) → ValuesTyped w0.heap ls sc.locals → R b w s t → (ms : List Datum) (v : World) (n : ℕ) → Reaches (λ k. exec wp line ls w (invoke l e op es) k) (on_with ms v) n → Forth (λ k. exec qp line ls s (invoke l e op es) k) (b || true) ms v (t + n)
    call_forward l e op es b a ty kept line ls w s t tl rel ms v n run =
        let c : PartsWith (λ k. due (functions_of p.functions w.heap).call (place w.heap this line ls) e op es k) (λ d k. run_call (operations_of p) ls d w k) (on_with ms v) n =
        parts_with _ w _ _ n (dues_steady p.functions w.heap (place w.heap this line ls) e op es n) (λ d. serial_call_steady p ls d w n) run in
        let o : Called p c.v ls ms w v c.t = called p c.v ls ms w v c.t c.rest in
        let q = c.sum in
        let u : Section = with_listed s c.v in
        let is_op : c.v.op ≡ op = called_op c.v (c.s + 0) 0 (due_calls (functions_of p.functions w.heap).call (place w.heap this line ls) e op es (c.s + 0)) (c.first.at 0) in
        let fate : Reaches (λ k. exec qp line ls s (invoke l e op es) k) (on_with ls u) c.s =
        reaches_steps (let y : c.s + 0 ≡ c.s = omega arith in y) (reaches_with (λ k. due (functions_of p.functions w0.heap).call (section_place w0.heap this s.own line ls) e op es k) s (λ d k. goes_on ls (with_listed s d) k) c.v (on_with ls u) c.s 0 (takes_same (λ k. common.dues b w s t rel line ls tl e op es ty.0 ty.1 ty.4 ty.5 a.0 a.1 k) c.first) (stop_reaches ls u)) in
        let good = (locals_after p written ops sc w0 this put_in b0 common line ls ls s u (invoke l e op es) (c.s + 0) 0 rel.lite.typed tl ty (fate.at 0)).1 in
        forth_at o.locals refl (let y : c.s + (t + c.t) ≡ t + n = omega arith in y)
        record { s = u; n = c.s; t = t + c.t; reaches = fate; rel = record { lite = record { none = λ e. never_down b e; rises = λ e. never_down b e; typed = good; constants = rel.lite.constants; inside = listed_inside p written ops sc w0 this put_in b0 s c.v rel.lite.inside (subst (λ z. Contains ops z) (sym is_op) kept) }; run = one_more p s.listed c.v (put_in s.own) w v t c.t rel.run o.run }; sum = refl }

    -- a loop from its condition on
    turn_forward : (bound : ℕ) (c : Expression) (f : List Datum → World → ℕ → Flow World) (g : List Datum → Section → ℕ → Flow Section) (loop : Statement) (b : Bool) (line : ℕ)
        → ExpressionTyped p sc c BoolType → IsClean p written b c
        → ((n : ℕ) (ls : List Datum) (w : World) → SteadyFlow (suc n) (λ k. f ls w k))
        → ((ls : List Datum) (w : World) (s : Section) (t : ℕ) → ValuesTyped w0.heap ls sc.locals → R b w s t → (ms : List Datum) (v : World) (n : ℕ) → Reaches (λ k. f ls w k) (on_with ms v) n → Forth (λ k. g ls s k) b ms v (t + n) × ValuesTyped w0.heap ms sc.locals)
        → ((ls : List Datum) (w : World) (k : ℕ) → wp.again line ls w loop k ≡ turn_of wp c f loop line ls w k)
        → ((ls : List Datum) (s : Section) (k : ℕ) → qp.again line ls s loop k ≡ turn_of qp c g loop line ls s k)
        → (ls : List Datum) (w : World) (s : Section) (t : ℕ) → ValuesTyped w0.heap ls sc.locals → R b w s t → (ms : List Datum) (v : World) (n : ℕ) → n < bound → Reaches (λ k. turn_of wp c f loop line ls w k) (on_with ms v) n → Forth (λ k. turn_of qp c g loop line ls s k) b ms v (t + n)
    turn_forward zero c f g loop b line tc clean steady body again_w again_s ls w s t tl rel ms v n lt run = absurd (omega arith)
    turn_forward (suc bound) c f g loop b line tc clean steady body again_w again_s ls w s t tl rel ms v n lt run =
        let again_steady : (m : ℕ) (ls : List Datum) (w : World) → SteadyFlow (suc m) (λ k. wp.again line ls w loop k) = λ m ls w. let P : SteadyParts (suc m) wp = serial_parts_steady p this (suc m) in P.agains line ls w loop in
        let go : ℕ → Flow World = λ k. and_on (f ls w k) (λ ls w k. wp.again line ls w loop k) in
        let go_steady : (m : ℕ) → SteadyFlow (suc m) go = λ m. steady_on _ _ (steady m ls w) (again_steady m) in
        let d : PartsWith (λ k. wp.value line ls w c k) (λ u k. choose u (with (take_step k) w (λ z k. go k)) (goes_on ls w k)) (on_with ms v) n =
        parts_with _ w _ _ n (value_steady p.functions w.heap (place w.heap this line ls) c n) (λ u. steady_choose u _ _ (flow_less (let z : suc n ≤ suc (suc n) = omega arith in z) (steady_turn w go (go_steady n))) (steady_stop (on_with ls w))) run in
        let sum = d.sum in
        subst (λ z. Forth (λ k. turn_of qp c g loop line ls s k) b ms v (t + z)) (sym sum)
        (forth_with (λ k. qp.value line ls s c k) s _ d.v d.s t d.t (takes_same (λ k. common.values b w s t rel line ls tl c BoolType tc clean k) d.first)
        (forth_choose d.v (λ k. with (take_step k) w (λ z k. go k)) (λ k. goes_on ls w k) (λ k. with (take_step k) s (λ z k. and_on (g ls s k) (λ ls s k. qp.again line ls s loop k))) (λ k. goes_on ls s k) (on_with ms v) d.t (t + d.t)
        (λ turned.
        let after : AfterStep go (on_with ms v) d.t = after_step w go (on_with ms v) d.t (go_steady d.t) turned in
        let e : PartsOn (λ k. f ls w k) (λ ls w k. wp.again line ls w loop k) (on_with ms v) after.t = parts_on _ _ ms v after.t (steady after.t ls w) (again_steady after.t) after.rest in
        let one = body ls w s t tl rel e.ls e.x e.s e.first in
        let two : Forth (λ k. turn_of qp c g loop line e.ls one.0.s k) b ms v (one.0.t + e.t) =
        turn_forward bound c f g loop b line tc clean steady body again_w again_s e.ls e.x one.0.s one.0.t one.1 one.0.rel ms v e.t (let u1 = after.sum in let u2 = e.sum in omega arith) (reaches_same (λ k. again_w e.ls e.x k) e.rest) in
        let two2 : Forth (λ k. qp.again line e.ls one.0.s loop k) b ms v (one.0.t + e.t) =
        record { s = two.s; n = two.n; t = two.t; reaches = reaches_same (λ k. sym (again_s e.ls one.0.s k)) two.reaches; rel = two.rel; sum = two.sum } in
        let both : Forth (λ k. and_on (g ls s k) (λ ls s k. qp.again line ls s loop k)) b ms v (t + (e.s + e.t)) =
        forth_on (λ k. g ls s k) (λ ls s k. qp.again line ls s loop k) b b e.ls ms e.x v t e.s e.t one.0 two2 in
        forth_step s _ t (e.s + e.t) d.t (after.sum ∙ ap suc e.sum) both)
        (λ stop. forth_stop b ls ms w v s t d.t rel stop) d.rest))

    item_forward : (l : ℕ) (f : FieldId) (i : Expression) (op : AssignOp) (e : Expression) → IsSeparated p written false (put_item l f i op e) → StatementTyped p sc (put_item l f i op e) → Contains written f → (line : ℕ) (ls : List Datum) (w : World) (s : Section) (t : ℕ) → ValuesTyped w0.heap ls sc.locals → R false w s t → (ms : List Datum) (v : World) (n : ℕ) → Reaches (λ k. exec wp line ls w (put_item l f i op e) k) (on_with ms v) n → Forth (λ k. exec qp line ls s (put_item l f i op e) k) false ms v (t + n)
    item_forward l f i op e a ty kept line ls w s t tl rel ms v n run =
        let put : Item → Datum → World = λ it x. in_heap w (put_own w.heap this f it.place (assigned op it.value x)) in
        let made : Item → Datum → Section = λ it x. with_own s (put_slot s.own f.field it.place (assigned op it.value x)) in
        let right : (m : ℕ) (it : Item) → SteadyFlow (suc m) (λ k. with (wp.value line ls w e k) w (λ x k. goes_on ls (put it x) k)) = λ m it. steady_with _ w _ (value_steady p.functions w.heap (place w.heap this line ls) e m) (λ x. steady_stop (on_with ls (put it x))) in
        let looked : (m : ℕ) (u : Datum) → SteadyFlow (suc m) (λ k. with (own_item_at line w this f u k) w (λ item k. with (wp.value line ls w e k) w (λ x k. goes_on ls (put item x) k))) = λ m u. steady_with _ w _ (steady_indexed line _ u) (right m) in
        let c : PartsWith (λ k. wp.value line ls w i k) (λ u k. with (own_item_at line w this f u k) w (λ item k. with (wp.value line ls w e k) w (λ x k. goes_on ls (put item x) k))) (on_with ms v) n =
        parts_with _ w _ _ n (value_steady p.functions w.heap (place w.heap this line ls) i n) (looked n) run in
        let d : PartsWith (λ k. own_item_at line w this f c.v k) (λ item k. with (wp.value line ls w e k) w (λ x k. goes_on ls (put item x) k)) (on_with ms v) c.t =
        parts_with _ w _ _ c.t (steady_indexed line _ c.v) (right c.t) c.rest in
        let g : PartsWith (λ k. wp.value line ls w e k) (λ x k. goes_on ls (put d.v x) k) (on_with ms v) d.t =
        parts_with _ w _ _ d.t (value_steady p.functions w.heap (place w.heap this line ls) e d.t) (λ x. steady_stop (on_with ls (put d.v x))) d.rest in
        let o : AtOnce ls ms (put d.v g.v) v g.t = at_once ls ms _ v g.t g.rest in
        let z = o.none in let q = c.sum in let q2 = d.sum in let q3 = g.sum in let tz = (rel_before p written ops sc w0 this put_in b0 w s t rel).1 in
        let found_item : Takes (λ k. section_item_at line s f c.v k) d.v d.s = takes_same (λ k. ap (λ own. indexed line (items_in (slice_get own f.field)) c.v k) (own_before p written ops sc w0 this put_in b0 common.puts w s t rel)) d.first in
        let last : Reaches (λ k. with (qp.value line ls s e k) s (λ x k. goes_on ls (made d.v x) k)) (on_with ls (made d.v g.v)) (g.s + 0) =
        reaches_with (λ k. qp.value line ls s e k) s (λ x k. goes_on ls (made d.v x) k) g.v (on_with ls (made d.v g.v)) g.s 0 (takes_same (λ k. common.values false w s t rel line ls tl e ty.0 ty.4.1 a.2 k) g.first) (stop_reaches ls (made d.v g.v)) in
        let middle : Reaches (λ k. with (section_item_at line s f c.v k) s (λ item k. with (qp.value line ls s e k) s (λ x k. goes_on ls (made item x) k))) (on_with ls (made d.v g.v)) (d.s + (g.s + 0)) =
        reaches_with (λ k. section_item_at line s f c.v k) s (λ item k. with (qp.value line ls s e k) s (λ x k. goes_on ls (made item x) k)) d.v (on_with ls (made d.v g.v)) d.s (g.s + 0) found_item last in
        let fate : Reaches (λ k. exec qp line ls s (put_item l f i op e) k) (on_with ls (made d.v g.v)) (c.s + (d.s + (g.s + 0))) =
        reaches_with (λ k. qp.value line ls s i k) s (λ u k. with (section_item_at line s f u k) s (λ item k. with (qp.value line ls s e k) s (λ x k. goes_on ls (made item x) k))) c.v (on_with ls (made d.v g.v)) c.s (d.s + (g.s + 0)) (takes_same (λ k. common.values false w s t rel line ls tl i LongType ty.3 a.1 k) c.first) middle in
        let good = (locals_after p written ops sc w0 this put_in b0 common line ls ls s (made d.v g.v) (put_item l f i op e) ((c.s + (d.s + (g.s + 0))) + 0) 0 rel.lite.typed tl ty (fate.at 0)).1 in
        forth_at o.locals o.state (let q : (c.s + (d.s + (g.s + 0))) + 0 ≡ t + n = omega arith in q)
        record { s = made d.v g.v; n = c.s + (d.s + (g.s + 0)); t = 0; reaches = fate; rel = rel_put p written ops sc w0 this put_in b0 common (put_slot s.own f.field d.v.place (assigned op d.v.value g.v)) w _ s t rel good (put_constants p written ops sc w0 this put_in b0 s.own f d.v.place (assigned op d.v.value g.v) kept ty.1.1 rel.lite.constants) (after_put p written ops sc w0 this put_in b0 common f d.v.place _ _ w s t rel refl); sum = refl }

    abbrev Forward : Statement → Type 0
    Forward x = (b : Bool) → IsSeparated p written b x → (line : ℕ) (ls : List Datum) (w : World) (s : Section) (t : ℕ) → ValuesTyped w0.heap ls sc.locals → R b w s t → (ms : List Datum) (v : World) (n : ℕ) → Reaches (λ k. exec wp line ls w x k) (on_with ms v) n → Forth (λ k. exec qp line ls s x k) (b || holds_call x) ms v (t + n)

    for_forward : (l : ℕ) (site : LoopId) (part : FirstPart) (first : Statement) (c : Expression) (next y : Statement) (b : Bool) → IsSeparated p written b (for_loop l site part first c next y) → StatementTyped p sc (for_loop l site part first c next y) → Forward first → Forward next → Forward y → (line : ℕ) (ls : List Datum) (w : World) (s : Section) (t : ℕ) → ValuesTyped w0.heap ls sc.locals → R b w s t → (ms : List Datum) (v : World) (n : ℕ) → Reaches (λ k. exec wp line ls w (for_loop l site part first c next y) k) (on_with ms v) n → Forth (λ k. exec qp line ls s (for_loop l site part first c next y) k) (b || holds_call (for_loop l site part first c next y)) ms v (t + n)
    for_forward l site part first c next y b a ty f1 f2 f3 line ls w s t tl rel ms v n run =
        let loop : Statement = for_loop l site part first c next y in
        let all : List OpId = calls_of first ++ (calls_of next ++ calls_of y) in
        let up : Bool = b || is_some_of all in
        let P : (m : ℕ) → SteadyParts m wp = λ m. serial_parts_steady p this m in
        let f : List Datum → World → ℕ → Flow World = λ ls w k. and_on (exec wp (line_of y) ls w y k) (λ ls w k. exec wp line ls w next k) in
        let g : List Datum → Section → ℕ → Flow Section = λ ls s k. and_on (exec qp (line_of y) ls s y k) (λ ls s k. exec qp line ls s next k) in
        let f_steady : (m : ℕ) (ls : List Datum) (w : World) → SteadyFlow (suc m) (λ k. f ls w k) = λ m ls w. steady_on _ _ (exec_steady m wp (P m) y (line_of y) ls w) (λ ls w. exec_steady m wp (P m) next line ls w) in
        let turn_steady : (m : ℕ) (ls : List Datum) (w : World) → SteadyFlow (suc m) (λ k. turn_of wp c f loop line ls w k) = λ m ls w. again_is_steady m c f loop line ls w f_steady in
        let d : PartsOn (λ k. exec wp line ls w first k) (λ ls w k. turn_of wp c f loop line ls w k) (on_with ms v) n = parts_on _ _ ms v n (exec_steady n wp (P n) first line ls w) (turn_steady n) run in
        let sum = d.sum in
        let one : Forth (λ k. exec qp line ls s first k) (up || holds_call first) d.ls d.x (t + d.s) = f1 up a.0 line ls w s t tl (rises (rise_or b (is_some_of all)) rel) d.ls d.x d.s d.first in
        let one2 : Forth (λ k. exec qp line ls s first k) up d.ls d.x (t + d.s) = forth_rise (rise_again b (is_some_of all) (holds_call first) (λ e. some_left (calls_of first) (calls_of next ++ calls_of y) e)) one in
        let mid : ValuesTyped w0.heap d.ls sc.locals = (locals_after p written ops sc w0 this put_in b0 common line ls d.ls s one2.s first (one2.n + 0) 0 rel.lite.typed tl ty.0 (one2.reaches.at 0)).0 in
        let two : Forth (λ k. turn_of qp c g loop line d.ls one2.s k) up ms v (one2.t + d.t) =
        turn_forward (suc d.t) c f g loop up line ty.1 a.1 f_steady
        (λ ls w s t tl rel ms v n run.
        let e : PartsOn (λ k. exec wp (line_of y) ls w y k) (λ ls w k. exec wp line ls w next k) (on_with ms v) n = parts_on _ _ ms v n (exec_steady n wp (P n) y (line_of y) ls w) (λ ls w. exec_steady n wp (P n) next line ls w) run in
        let sum2 = e.sum in
        let x1 : Forth (λ k. exec qp (line_of y) ls s y k) up e.ls e.x (t + e.s) = forth_rise (rise_again b (is_some_of all) (holds_call y) (λ q. some_right (calls_of next) (calls_of y) (some_right (calls_of first) (calls_of next ++ calls_of y) q))) (f3 up a.3 (line_of y) ls w s t tl rel e.ls e.x e.s e.first) in
        let t1 = locals_after p written ops sc w0 this put_in b0 common (line_of y) ls e.ls s x1.s y (x1.n + 0) 0 rel.lite.typed tl ty.3 (x1.reaches.at 0) in
        let x2 : Forth (λ k. exec qp line e.ls x1.s next k) up ms v (x1.t + e.t) = forth_rise (rise_again b (is_some_of all) (holds_call next) (λ q. some_left (calls_of next) (calls_of y) (some_right (calls_of first) (calls_of next ++ calls_of y) q))) (f2 up a.2 line e.ls e.x x1.s x1.t t1.0 x1.rel ms v e.t e.rest) in
        let t2 = locals_after p written ops sc w0 this put_in b0 common line e.ls ms x1.s x2.s next (x2.n + 0) 0 x1.rel.lite.typed t1.0 ty.2 (x2.reaches.at 0) in
        (subst (λ m. Forth (λ k. g ls s k) up ms v (t + m)) (sym sum2) (forth_on (λ k. exec qp (line_of y) ls s y k) (λ ls s k. exec qp line ls s next k) up up e.ls ms e.x v t e.s e.t x1 x2), t2.0))
        (λ ls w k. loop_runs p this line ls w loop k)
        (λ ls s k. section_loop_runs p w0.heap this line ls s loop k)
        d.ls d.x one2.s one2.t mid one2.rel ms v d.t (omega arith) d.rest in
        subst (λ m. Forth (λ k. exec qp line ls s loop k) up ms v (t + m)) (sym sum)
        (forth_on (λ k. exec qp line ls s first k) (λ ls s k. turn_of qp c g loop line ls s k) up up d.ls ms d.x v t d.s d.t one2 two)
      where
        again_is_steady : (m : ℕ) (c : Expression) (f : List Datum → World → ℕ → Flow World) (loop : Statement) (line : ℕ) (ls : List Datum) (w : World) → ((m : ℕ) (ls : List Datum) (w : World) → SteadyFlow (suc m) (λ k. f ls w k)) → SteadyFlow (suc m) (λ k. turn_of wp c f loop line ls w k)
        again_is_steady m c f loop line ls w st =
            steady_with _ w _ (value_steady p.functions w.heap (place w.heap this line ls) c m) (λ u. steady_choose u _ _ (flow_less (let z : suc m ≤ suc (suc m) = omega arith in z) (steady_turn w _ (steady_on _ _ (st m ls w) (λ ls w. let P : SteadyParts (suc m) wp = serial_parts_steady p this (suc m) in P.agains line ls w loop)))) (steady_stop (on_with ls w)))

    mutual
      pub forward : (x : Statement) (b : Bool) → IsSeparated p written b x → StatementTyped p sc x → IsKept written ops x → (line : ℕ) (ls : List Datum) (w : World) (s : Section) (t : ℕ) → ValuesTyped w0.heap ls sc.locals → R b w s t → (ms : List Datum) (v : World) (n : ℕ) → Reaches (λ k. exec wp line ls w x k) (on_with ms v) n → Forth (λ k. exec qp line ls s x k) (b || holds_call x) ms v (t + n)
      forward (put_field l f op e) true a ty kept line ls w s t tl rel ms v n run = absurd (a.0 kept)
      forward (put_field l f op e) false a ty kept line ls w s t tl rel ms v n run = put_forward l f op e a ty kept line ls w s t tl rel ms v n run
      forward (invoke l e op es) b a ty kept line ls w s t tl rel ms v n run = call_forward l e op es b a ty kept line ls w s t tl rel ms v n run
      forward (if_else l c y z) b a ty kept line ls w s t tl rel ms v n run =
          let P : SteadyParts n wp = serial_parts_steady p this n in
          let d : PartsWith (λ k. wp.value line ls w c k) (λ u k. choose u (exec wp (line_of y) ls w y k) (exec wp (line_of z) ls w z k)) (on_with ms v) n =
          parts_with _ w _ _ n (value_steady p.functions w.heap (place w.heap this line ls) c n) (λ u. steady_choose u _ _ (exec_steady n wp P y (line_of y) ls w) (exec_steady n wp P z (line_of z) ls w)) run in
          let sum = d.sum in
          subst (λ m. Forth (λ k. exec qp line ls s (if_else l c y z) k) (b || is_some_of (calls_of y ++ calls_of z)) ms v (t + m)) (sym sum)
          (forth_with (λ k. qp.value line ls s c k) s _ d.v d.s t d.t (takes_same (λ k. common.values b w s t rel line ls tl c BoolType ty.0 a.0 k) d.first)
          (forth_choose d.v (λ k. exec wp (line_of y) ls w y k) (λ k. exec wp (line_of z) ls w z k) (λ k. exec qp (line_of y) ls s y k) (λ k. exec qp (line_of z) ls s z k) (on_with ms v) d.t (t + d.t)
          (λ g. forth_rise (rise_part b (calls_of y) (calls_of z)) (forward y b a.1 ty.1 kept.0 (line_of y) ls w s t tl rel ms v d.t g))
          (λ g. forth_rise (rise_other b (calls_of y) (calls_of z)) (forward z b a.2 ty.2 kept.1 (line_of z) ls w s t tl rel ms v d.t g)) d.rest))
      forward (while_loop l c y) b a ty kept line ls w s t tl rel ms v n run =
          turn_forward (suc n) c (λ ls w k. exec wp (line_of y) ls w y k) (λ ls s k. exec qp (line_of y) ls s y k) (while_loop l c y) (b || holds_call y) line ty.0 a.0
          (λ n ls w. exec_steady n wp (serial_parts_steady p this n) y (line_of y) ls w)
          (λ ls w s t tl rel ms v n run.
          let one : Forth (λ k. exec qp (line_of y) ls s y k) ((b || holds_call y) || holds_call y) ms v (t + n) = forward y (b || holds_call y) a.1 ty.1 kept (line_of y) ls w s t tl rel ms v n run in
          (forth_rise (rise_again b (holds_call y) (holds_call y) (λ e. e)) one, (locals_after p written ops sc w0 this put_in b0 common (line_of y) ls ms s one.s y (one.n + 0) 0 rel.lite.typed tl ty.1 (one.reaches.at 0)).0))
          (λ ls w k. loop_runs p this line ls w (while_loop l c y) k)
          (λ ls s k. section_loop_runs p w0.heap this line ls s (while_loop l c y) k)
          ls w s t tl (rises (rise_or b (holds_call y)) rel) ms v n (omega arith) run
      forward (for_loop l site part first c next y) b a ty kept line ls w s t tl rel ms v n run =
          for_forward l site part first c next y b a ty
          (λ b a line ls w s t tl rel ms v n run. forward first b a ty.0 kept.0 line ls w s t tl rel ms v n run)
          (λ b a line ls w s t tl rel ms v n run. forward next b a ty.2 kept.1 line ls w s t tl rel ms v n run)
          (λ b a line ls w s t tl rel ms v n run. forward y b a ty.3 kept.2 line ls w s t tl rel ms v n run)
          line ls w s t tl rel ms v n run
      forward (put_local l i op e) b a ty kept line ls w s t tl rel ms v n run =
          let d : PartsWith (λ k. wp.value line ls w e k) (λ y k. goes_on (slice_set ls i.0 (assigned op (value_at ls i.0) y)) w k) (on_with ms v) n =
          parts_with _ w _ _ n (value_steady p.functions w.heap (place w.heap this line ls) e n) (λ y. steady_stop (on_with (slice_set ls i.0 (assigned op (value_at ls i.0) y)) w)) run in
          let sum = d.sum in
          forth_rise (rise_or b false) (subst (λ m. Forth (λ k. exec qp line ls s (put_local l i op e) k) b ms v (t + m)) (sym sum)
          (forth_with (λ k. qp.value line ls s e k) s _ d.v d.s t d.t (takes_same (λ k. common.values b w s t rel line ls tl e ty.0 ty.2.1 a k) d.first) (forth_stop b (slice_set ls i.0 (assigned op (value_at ls i.0) d.v)) ms w v s t d.t rel d.rest)))
      forward (block l ss) b a ty kept line ls w s t tl rel ms v n run = all_forward ss b a ty kept ls w s t tl rel ms v n run
      forward (return_value l e) b a ty kept line ls w s t tl rel ms v n run = let z : Some ty.0 ≡ None = sym ty.1 ∙ common.result in cc
      forward (new_local l i c) b a ty kept line ls w s t tl rel ms v n run = absurd a
      forward (new_field l f c) b a ty kept line ls w s t tl rel ms v n run = absurd a
      forward (new_item l f i c) b a ty kept line ls w s t tl rel ms v n run = absurd a
      forward (print_value l e) b a ty kept line ls w s t tl rel ms v n run = absurd a
      forward (put_item l f i op e) true a ty kept line ls w s t tl rel ms v n run = absurd (a.0 kept)
      forward (put_item l f i op e) false a ty kept line ls w s t tl rel ms v n run = item_forward l f i op e a ty kept line ls w s t tl rel ms v n run

      pub all_forward : (ss : Statements) (b : Bool) → AreSeparated p written b ss → StatementsTyped p sc ss → AreKept written ops ss → (ls : List Datum) (w : World) (s : Section) (t : ℕ) → ValuesTyped w0.heap ls sc.locals → R b w s t → (ms : List Datum) (v : World) (n : ℕ) → Reaches (λ k. exec_all wp ls w ss k) (on_with ms v) n → Forth (λ k. exec_all qp ls s ss k) (b || is_some_of (calls_of_all ss)) ms v (t + n)
      all_forward no_statements b a ty kept ls w s t tl rel ms v n run = forth_rise (rise_or b false) (forth_stop b ls ms w v s t n rel run)
      all_forward (statement_and x rest) b a ty kept ls w s t tl rel ms v n run =
          let P : SteadyParts n wp = serial_parts_steady p this n in
          let d : PartsOn (λ k. exec wp (line_of x) ls w x k) (λ ls w k. exec_all wp ls w rest k) (on_with ms v) n = parts_on _ _ ms v n (exec_steady n wp P x (line_of x) ls w) (λ ls w. all_exec_steady n wp P rest ls w) run in
          let sum = d.sum in
          let one : Forth (λ k. exec qp (line_of x) ls s x k) (b || holds_call x) d.ls d.x (t + d.s) = forward x b a.0 ty.0 kept.0 (line_of x) ls w s t tl rel d.ls d.x d.s d.first in
          let mid : ValuesTyped w0.heap d.ls sc.locals = (locals_after p written ops sc w0 this put_in b0 common (line_of x) ls d.ls s one.s x (one.n + 0) 0 rel.lite.typed tl ty.0 (one.reaches.at 0)).0 in
          let two : Forth (λ k. exec_all qp d.ls one.s rest k) ((b || holds_call x) || is_some_of (calls_of_all rest)) ms v (one.t + d.t) = all_forward rest (b || holds_call x) a.1 ty.1 kept.1 d.ls d.x one.s one.t mid one.rel ms v d.t d.rest in
          subst (λ m. Forth (λ k. exec_all qp ls s (statement_and x rest) k) (b || is_some_of (calls_of x ++ calls_of_all rest)) ms v (t + m)) (sym sum)
          (forth_rise (rise_two b (calls_of x) (calls_of_all rest)) (forth_on (λ k. exec qp (line_of x) ls s x k) (λ ls s k. exec_all qp ls s rest k) (b || holds_call x) ((b || holds_call x) || is_some_of (calls_of_all rest)) d.ls ms d.x v t d.s d.t one two))
