-- From the section and then the serial run of what it lists to the serial run, for all forms of statements.
use Rattle.std.proofs.Common.{◌≡◌, ℕ, zero, suc, ◌+◌, ◌<◌, ◌≤◌, List, [], ◌∷◌, ◌++◌, Some, None, refl, ap, sym, subst, ◌∙◌, arith, true, false, Bool}
use Rattle.std.specs.Prelude.{slice_get, slice_set, ◌||◌}
use Rattle.ca_program.specs.declared.program.FieldId.{FieldId}
use Rattle.ca_program.specs.declared.program.OpId.{OpId}
use Rattle.ca_program.specs.declared.program.LoopId.{LoopId}
use Rattle.ca_program.specs.declared.program.FirstPart.{FirstPart}
use Rattle.ca_tree.specs.declared.tree.AssignOp.{AssignOp}
use Rattle.ca_program.specs.declared.program.ValueType.TheVariants.{Long as LongType, Bool as BoolType}
use Rattle.ca_program.specs.Plain.{PlainProgram, Expression, Expressions, Statement, Statements, block, put_local, put_field, put_item, new_local, new_field, new_item, invoke, if_else, while_loop, for_loop, return_value, print_value, no_statements, statement_and}
use Rattle.ca_model.specs.declared.value.Value.{Value as Datum}
use Rattle.ca_model.specs.declared.value.Value.TheVariants.{Long, Bool as Truth, Null, Ref}
use Rattle.ca_model.specs.declared.value.Slot.{Slot}
use Rattle.ca_model.specs.Slots.{put_slot}
use Rattle.ca_meaning.specs.Operators.{assigned}
use Rattle.ca_meaning.specs.Expressions.{Out, Place, take_step, value_at, one_in, items_in, Item, indexed, due}
use Rattle.ca_meaning.specs.Flows.{Flow, goes_on, and_on, with, choose, Parts, line_of, turn_of, exec, exec_all}
use Rattle.ca_meaning.specs.Functions.{own_of, place, functions_of}
use Rattle.ca_meaning.specs.Serial.{World, in_heap, put_own, own_value, own_item_at, run_call, operations_of, serial_parts, serial_ops}
use Rattle.ca_meaning.specs.Sections.{Section, with_own, with_listed, section_place, section_item_at, section_parts}
use Rattle.ca_meaning.specs.WellTyped.{ValuesTyped}
use Rattle.ca_meaning.specs.ProgramTyped.{Scope, ExpressionTyped, StatementTyped, StatementsTyped}
use Rattle.ca_meaning.proofs.Fix.{loop_runs, section_loop_runs}
use Rattle.ca_parallel.proofs.Somes.{some_left, some_right}
use Rattle.ca_meaning_laws.specs.Budgets.{Takes, End, on_with, Reaches}
use Rattle.ca_meaning_laws.proofs.Steady.{SteadyFlow, flow_less, steady_with, steady_on, steady_stop, steady_choose, steady_turn, steady_indexed, SteadyParts, exec_steady, all_exec_steady, reaches_with, reaches_on}
use Rattle.ca_meaning_laws.proofs.Bigs.{section_parts_steady, serial_ops_steady, value_steady, dues_steady, serial_call_steady, PartsWith, parts_with, PartsOn, parts_on, AfterStep, after_step, before_step}
use Rattle.ca_parallel.specs.Bodies.{calls_of, calls_of_all}
use Rattle.ca_parallel.specs.Separable.{IsClean, is_some_of, holds_call, IsSeparated, AreSeparated}
use Rattle.ca_order_laws.proofs.Flags.{Rise, rise_or, rise_again}
use Rattle.ca_order_laws.proofs.Runs.{ends_same, ends_locals, ends_left, call_with, append_runs, list_locals, AtOnce, at_once, reaches_same, takes_same, stop_reaches, reaches_steps}
use Rattle.ca_order_laws.proofs.Kept.{IsKept, AreKept}
use Rattle.ca_order_laws.proofs.Grown.{Grows, GrownFlow, grown_of, section_grown, all_section_grown, loop_section_grown}
use Rattle.ca_order_laws.proofs.Related.{lite_rise, lite_grown, Lite, Related, rel_rise, rel_before, own_before, Common, locals_after, after_put}

module _ (p : PlainProgram) (written : List FieldId) (ops : List OpId) (sc : Scope) (w0 : World) (this : Datum) (put_in : List Slot → World) (b0 : Bool) where
  abbrev wp : Parts World
  wp = serial_parts p this

  abbrev qp : Parts Section
  qp = section_parts p w0.heap this

  abbrev R : Bool → World → Section → ℕ → Type 0
  R b w s t = Related p written ops sc w0 this put_in b0 b w s t

  abbrev L : Bool → Section → Type 0
  L b s = Lite p written ops sc w0 this put_in b0 b s

  abbrev G : Bool → Bool → Section → Section → Type 0
  G b c s u = Grows written ops sc.class b c s u

  rises : {b c : Bool} {w : World} {s : Section} {t : ℕ} → Rise b c → R b w s t → R c w s t
  rises up a = rel_rise p written ops sc w0 this put_in b0 up a

  -- the list of the whole section runs so, from the world with its object put in
  abbrev pub Listed : Section → World → ℕ → Type 0
  Listed u v t = Reaches (λ k. serial_ops p u.listed (put_in u.own) k) (on_with [] v) t

  -- what the serial run makes of the same statement
  pub record Backed (f : ℕ → Flow World) (ms : List Datum) (v : World) (t m : ℕ) : Type 0 where
    pub n : ℕ
    pub reaches : Reaches f (on_with ms v) n
    pub sum : t + n ≡ m

  record OneEnd (ls ms : List Datum) (w v : World) (t n : ℕ) : Type 0 where
    locals : ls ≡ ms
    world : w ≡ v
    steps : t ≡ n

  ends_once : (f : ℕ → Flow World) (ls ms : List Datum) (w v : World) (t n : ℕ) → Reaches f (on_with ls w) t → Reaches f (on_with ms v) n → OneEnd ls ms w v t n
  ends_once f ls ms w v t n a b =
      let e : t + n ≡ n + t = omega arith in
      let q : goes_on ls w n ≡ goes_on ms v t = sym (a.at n) ∙ ap f e ∙ b.at t in
      record { locals = ends_locals q; world = ends_same q; steps = sym (ends_left q) }

  back_at : {f : ℕ → Flow World} {ls ms : List Datum} {w v : World} {t m : ℕ} → ls ≡ ms → w ≡ v → Backed f ls w t m → Backed f ms v t m
  back_at {f} {ls} {ms} {w} {v} {t} {m} a c x = subst (λ y. Backed f ms y t m) c (subst (λ y. Backed f y w t m) a x)

  back_with : {A : Type 0} (f : ℕ → Out A) (w : World) (g : A → ℕ → Flow World) (x : A) (a t m : ℕ) {ms : List Datum} {v : World} → Takes f x a → Backed (g x) ms v t m → Backed (λ k. with (f k) w g) ms v t (a + m)
  back_with f w g x a t m {ms} {v} takes y = let e = y.sum in record { n = a + y.n; reaches = reaches_with f w g x (on_with ms v) a y.n takes y.reaches; sum = omega arith }

  back_on : (f : ℕ → Flow World) (g : List Datum → World → ℕ → Flow World) (ls ms : List Datum) (w v : World) (t t1 t2 n m : ℕ) → Backed f ls w t (n + t1) → Backed (g ls w) ms v t1 (m + t2) → Backed (λ k. and_on (f k) g) ms v t ((n + m) + t2)
  back_on f g ls ms w v t t1 t2 n m y x = let e = y.sum in let d = x.sum in record { n = y.n + x.n; reaches = reaches_on f g ls w (on_with ms v) y.n x.n y.reaches x.reaches; sum = omega arith }

  back_step : (w : World) (g : ℕ → Flow World) (t m : ℕ) {ms : List Datum} {v : World} → Backed g ms v t m → Backed (λ k. with (take_step k) w (λ z k. g k)) ms v t (suc m)
  back_step w g t m {ms} {v} y = let e = y.sum in record { n = suc y.n; reaches = before_step w g (on_with ms v) y.n y.reaches; sum = omega arith }

  back_steps : {f : ℕ → Flow World} {ms : List Datum} {v : World} {t m n : ℕ} → m ≡ n → Backed f ms v t m → Backed f ms v t n
  back_steps {f} {ms} {v} {t} e y = subst (λ k. Backed f ms v t k) e y

  back_choose : (v : Datum) (y z : ℕ → Flow Section) (c d : ℕ → Flow World) (e : End Section) (n t m : ℕ) {ms : List Datum} {w : World} → (Reaches y e n → Backed c ms w t m) → (Reaches z e n → Backed d ms w t m) → Reaches (λ k. choose v (y k) (z k)) e n → Backed (λ k. choose v (c k) (d k)) ms w t m
  back_choose (Truth true) y z c d e n t m f g a = f a
  back_choose (Truth false) y z c d e n t m f g a = g a
  back_choose (Long i) y z c d e n t m f g a = g a
  back_choose (Ref i) y z c d e n t m f g a = g a
  back_choose Null y z c d e n t m f g a = g a

  back_stop : (b : Bool) (ls ms : List Datum) (w v : World) (s u : Section) (t n t2 : ℕ) → R b w s t → Reaches (λ k. goes_on ls s k) (on_with ms u) n → Listed u v t2 → Backed (λ k. goes_on ls w k) ms v t (n + t2)
  back_stop b ls ms w v s u t n t2 rel f run =
      let o : AtOnce ls ms s u n = at_once ls ms s u n f in
      let x = o.none in
      let run2 : Listed s v t2 = subst (λ y. Listed y v t2) (sym o.state) run in
      let one : OneEnd [] [] w v t t2 = ends_once (λ k. serial_ops p s.listed (put_in s.own) k) [] [] w v t t2 rel.run run2 in
      let q = one.steps in
      back_at o.locals one.world record { n = 0; reaches = stop_reaches ls w; sum = omega arith }

  -- where the serial run stands before the end
  record Middle (c : Bool) (s : Section) : Type 0 where
    w : World
    t : ℕ
    rel : R c w s t

  middle : (c d : Bool) (s u : Section) (v : World) (t2 : ℕ) → L c s → G c d s u → Listed u v t2 → Middle c s
  middle false d s u v t2 lite g run = record { w = put_in s.own; t = 0; rel = record { lite = lite; run = record { at = λ k. ap (λ y. serial_ops p y (put_in s.own) (0 + k)) (lite.none refl) ∙ (stop_reaches [] (put_in s.own)).at k } } }
  middle true d s u v t2 lite g run =
      let same : (k : ℕ) → serial_ops p u.listed (put_in u.own) k ≡ and_on (serial_ops p s.listed (put_in s.own) k) (λ ls w k. serial_ops p g.more w k) =
      λ k. ap (λ y. serial_ops p y (put_in u.own) k) g.listed ∙ ap (λ y. serial_ops p (s.listed ++ g.more) (put_in y) k) (g.own refl) ∙ append_runs p s.listed g.more (put_in s.own) k in
      let d : PartsOn (λ k. serial_ops p s.listed (put_in s.own) k) (λ ls w k. serial_ops p g.more w k) (on_with [] v) t2 =
      parts_on _ _ [] v t2 (serial_ops_steady p s.listed (put_in s.own) t2) (λ ls w. serial_ops_steady p g.more w t2) (reaches_same same run) in
      let none : d.ls ≡ [] = list_locals p s.listed (put_in s.own) (d.s + 0) d.ls d.x 0 (d.first.at 0) in
      record { w = d.x; t = d.s; rel = record { lite = lite; run = subst (λ y. Reaches (λ k. serial_ops p s.listed (put_in s.own) k) (on_with y d.x) d.s) none d.first } }

  -- a section's flow that is done
  grown_at : (b c : Bool) (s u : Section) (ms : List Datum) (j : ℕ) (o : Flow Section) → GrownFlow written ops sc.class b c s o → o ≡ goes_on ms u j → G b c s u
  grown_at b c s u ms j o g e = grown_of written ops sc.class (subst (λ z. GrownFlow written ops sc.class b c s z) e g)

  module _ (common : Common p written ops sc w0 this put_in b0) where
    -- what is so after a statement
    record After (c : Bool) (ms : List Datum) (u : Section) : Type 0 where
      lite : L c u
      locals : ValuesTyped w0.heap ms sc.locals

    after : (x : Statement) (b : Bool) → IsSeparated p written b x → StatementTyped p sc x → IsKept written ops x → (line : ℕ) (ls ms : List Datum) (s u : Section) (n : ℕ) → ValuesTyped w0.heap ls sc.locals → L b s → Reaches (λ k. exec qp line ls s x k) (on_with ms u) n → After (b || holds_call x) ms u
    after x b a ty kept line ls ms s u n tl lite f =
        let q = locals_after p written ops sc w0 this put_in b0 common line ls ms s u x (n + 0) 0 lite.typed tl ty (f.at 0) in
        let g : G b (b || holds_call x) s u = grown_at b (b || holds_call x) s u ms 0 _ (section_grown p written ops w0.heap this sc x b ty a kept line ls s (n + 0)) (f.at 0) in
        record { lite = lite_grown p written ops sc w0 this put_in b0 (rise_or b (holds_call x)) lite g q.1; locals = q.0 }

    after_less : {b c : Bool} {ms : List Datum} {u : Section} → Rise b c → After b ms u → After c ms u
    after_less up a = record { lite = lite_rise p written ops sc w0 this put_in b0 up a.lite; locals = a.locals }

    put_back : (l : ℕ) (f : FieldId) (op : AssignOp) (e : Expression) → IsSeparated p written false (put_field l f op e) → StatementTyped p sc (put_field l f op e) → (line : ℕ) (ls : List Datum) (w : World) (s : Section) (t : ℕ) → ValuesTyped w0.heap ls sc.locals → R false w s t → (ms : List Datum) (u : Section) (n : ℕ) → Reaches (λ k. exec qp line ls s (put_field l f op e) k) (on_with ms u) n → (v : World) (t2 : ℕ) → Listed u v t2 → Backed (λ k. exec wp line ls w (put_field l f op e) k) ms v t (n + t2)
    put_back l f op e a ty line ls w s t tl rel ms u n run v t2 list =
        let made : Datum → Section = λ y. with_own s (put_slot s.own f.field 0 (assigned op (one_in (slice_get s.own f.field)) y)) in
        let put : Datum → World = λ y. in_heap w (put_own w.heap this f 0 (assigned op (own_value w this f) y)) in
        let c : PartsWith (λ k. qp.value line ls s e k) (λ y k. goes_on ls (made y) k) (on_with ms u) n =
        parts_with _ s _ _ n (value_steady p.functions w0.heap (section_place w0.heap this s.own line ls) e n) (λ y. steady_stop (on_with ls (made y))) run in
        let o : AtOnce ls ms (made c.v) u c.t = at_once ls ms (made c.v) u c.t c.rest in
        let xy : assigned op (own_value w this f) c.v ≡ assigned op (one_in (slice_get s.own f.field)) c.v = ap (λ o. assigned op (one_in (slice_get o f.field)) c.v) (own_before p written ops sc w0 this put_in b0 common.puts w s t rel) in
        let heap : put_in (made c.v).own ≡ put c.v = after_put p written ops sc w0 this put_in b0 common f 0 _ _ w s t rel xy in
        let run2 : Listed (made c.v) v t2 = subst (λ y. Listed y v t2) (sym o.state) list in
        let none : Reaches (λ k. serial_ops p (made c.v).listed (put_in (made c.v).own) k) (on_with [] (put_in (made c.v).own)) 0 =
        record { at = λ k. ap (λ y. serial_ops p y (put_in (made c.v).own) (0 + k)) (rel.lite.none refl) ∙ (stop_reaches [] (put_in (made c.v).own)).at k } in
        let one : OneEnd [] [] (put_in (made c.v).own) v 0 t2 = ends_once (λ k. serial_ops p (made c.v).listed (put_in (made c.v).own) k) [] [] _ v 0 t2 none run2 in
        let q1 = o.none in let q2 = c.sum in let q3 = (rel_before p written ops sc w0 this put_in b0 w s t rel).1 in let q4 = one.steps in
        back_at o.locals (sym heap ∙ one.world) record {
          n = c.s;
          reaches = reaches_steps (let y : c.s + 0 ≡ c.s = omega arith in y) (reaches_with (λ k. wp.value line ls w e k) w (λ y k. goes_on ls (put y) k) c.v (on_with ls (put c.v)) c.s 0 (takes_same (λ k. sym (common.values false w s t rel line ls tl e ty.0 ty.3.1 a.1 k)) c.first) (stop_reaches ls (put c.v)));
          sum = omega arith;
        }

    item_back : (l : ℕ) (f : FieldId) (i : Expression) (op : AssignOp) (e : Expression) → IsSeparated p written false (put_item l f i op e) → StatementTyped p sc (put_item l f i op e) → (line : ℕ) (ls : List Datum) (w : World) (s : Section) (t : ℕ) → ValuesTyped w0.heap ls sc.locals → R false w s t → (ms : List Datum) (u : Section) (n : ℕ) → Reaches (λ k. exec qp line ls s (put_item l f i op e) k) (on_with ms u) n → (v : World) (t2 : ℕ) → Listed u v t2 → Backed (λ k. exec wp line ls w (put_item l f i op e) k) ms v t (n + t2)
    item_back l f i op e a ty line ls w s t tl rel ms u n run v t2 list =
        let made : Item → Datum → Section = λ it x. with_own s (put_slot s.own f.field it.place (assigned op it.value x)) in
        let put : Item → Datum → World = λ it x. in_heap w (put_own w.heap this f it.place (assigned op it.value x)) in
        let sq : Place = section_place w0.heap this s.own line ls in
        let right : (m : ℕ) (it : Item) → SteadyFlow (suc m) (λ k. with (qp.value line ls s e k) s (λ x k. goes_on ls (made it x) k)) = λ m it. steady_with _ s _ (value_steady p.functions w0.heap sq e m) (λ x. steady_stop (on_with ls (made it x))) in
        let looked : (m : ℕ) (y : Datum) → SteadyFlow (suc m) (λ k. with (section_item_at line s f y k) s (λ item k. with (qp.value line ls s e k) s (λ x k. goes_on ls (made item x) k))) = λ m y. steady_with _ s _ (steady_indexed line _ y) (right m) in
        let c : PartsWith (λ k. qp.value line ls s i k) (λ y k. with (section_item_at line s f y k) s (λ item k. with (qp.value line ls s e k) s (λ x k. goes_on ls (made item x) k))) (on_with ms u) n =
        parts_with _ s _ _ n (value_steady p.functions w0.heap sq i n) (looked n) run in
        let d : PartsWith (λ k. section_item_at line s f c.v k) (λ item k. with (qp.value line ls s e k) s (λ x k. goes_on ls (made item x) k)) (on_with ms u) c.t =
        parts_with _ s _ _ c.t (steady_indexed line _ c.v) (right c.t) c.rest in
        let g : PartsWith (λ k. qp.value line ls s e k) (λ x k. goes_on ls (made d.v x) k) (on_with ms u) d.t =
        parts_with _ s _ _ d.t (value_steady p.functions w0.heap sq e d.t) (λ x. steady_stop (on_with ls (made d.v x))) d.rest in
        let o : AtOnce ls ms (made d.v g.v) u g.t = at_once ls ms (made d.v g.v) u g.t g.rest in
        let own : own_of w.heap this ≡ s.own = own_before p written ops sc w0 this put_in b0 common.puts w s t rel in
        let heap : put_in (made d.v g.v).own ≡ put d.v g.v = after_put p written ops sc w0 this put_in b0 common f d.v.place _ _ w s t rel refl in
        let run2 : Listed (made d.v g.v) v t2 = subst (λ y. Listed y v t2) (sym o.state) list in
        let none : Reaches (λ k. serial_ops p (made d.v g.v).listed (put_in (made d.v g.v).own) k) (on_with [] (put_in (made d.v g.v).own)) 0 =
        record { at = λ k. ap (λ y. serial_ops p y (put_in (made d.v g.v).own) (0 + k)) (rel.lite.none refl) ∙ (stop_reaches [] (put_in (made d.v g.v).own)).at k } in
        let one : OneEnd [] [] (put_in (made d.v g.v).own) v 0 t2 = ends_once (λ k. serial_ops p (made d.v g.v).listed (put_in (made d.v g.v).own) k) [] [] _ v 0 t2 none run2 in
        let found_item : Takes (λ k. own_item_at line w this f c.v k) d.v d.s = takes_same (λ k. ap (λ o. indexed line (items_in (slice_get o f.field)) c.v k) (sym own)) d.first in
        let last : Reaches (λ k. with (wp.value line ls w e k) w (λ x k. goes_on ls (put d.v x) k)) (on_with ls (put d.v g.v)) (g.s + 0) =
        reaches_with (λ k. wp.value line ls w e k) w (λ x k. goes_on ls (put d.v x) k) g.v (on_with ls (put d.v g.v)) g.s 0 (takes_same (λ k. sym (common.values false w s t rel line ls tl e ty.0 ty.4.1 a.2 k)) g.first) (stop_reaches ls (put d.v g.v)) in
        let mid : Reaches (λ k. with (own_item_at line w this f c.v k) w (λ item k. with (wp.value line ls w e k) w (λ x k. goes_on ls (put item x) k))) (on_with ls (put d.v g.v)) (d.s + (g.s + 0)) =
        reaches_with (λ k. own_item_at line w this f c.v k) w (λ item k. with (wp.value line ls w e k) w (λ x k. goes_on ls (put item x) k)) d.v (on_with ls (put d.v g.v)) d.s (g.s + 0) found_item last in
        let q1 = o.none in let q2 = c.sum in let q3 = (rel_before p written ops sc w0 this put_in b0 w s t rel).1 in let q4 = one.steps in let q5 = d.sum in let q6 = g.sum in
        back_at o.locals (sym heap ∙ one.world) record {
          n = c.s + (d.s + (g.s + 0));
          reaches = reaches_with (λ k. wp.value line ls w i k) w (λ y k. with (own_item_at line w this f y k) w (λ item k. with (wp.value line ls w e k) w (λ x k. goes_on ls (put item x) k))) c.v (on_with ls (put d.v g.v)) c.s (d.s + (g.s + 0)) (takes_same (λ k. sym (common.values false w s t rel line ls tl i LongType ty.3 a.1 k)) c.first) mid;
          sum = omega arith;
        }

    call_back : (l : ℕ) (e : Expression) (op : OpId) (es : Expressions) (b : Bool) → IsSeparated p written b (invoke l e op es) → StatementTyped p sc (invoke l e op es) → (line : ℕ) (ls : List Datum) (w : World) (s : Section) (t : ℕ) → ValuesTyped w0.heap ls sc.locals → R b w s t → (ms : List Datum) (u : Section) (n : ℕ) → Reaches (λ k. exec qp line ls s (invoke l e op es) k) (on_with ms u) n → (v : World) (t2 : ℕ) → Listed u v t2 → Backed (λ k. exec wp line ls w (invoke l e op es) k) ms v t (n + t2)
    call_back l e op es b a ty line ls w s t tl rel ms u n f v t2 run =
        let c : PartsWith (λ k. due (functions_of p.functions w0.heap).call (section_place w0.heap this s.own line ls) e op es k) (λ d k. goes_on ls (with_listed s d) k) (on_with ms u) n =
        parts_with _ s _ _ n (dues_steady p.functions w0.heap (section_place w0.heap this s.own line ls) e op es n) (λ d. steady_stop (on_with ls (with_listed s d))) f in
        let o : AtOnce ls ms (with_listed s c.v) u c.t = at_once ls ms (with_listed s c.v) u c.t c.rest in
        let run2 : Listed (with_listed s c.v) v t2 = subst (λ y. Listed y v t2) (sym o.state) run in
        let d : PartsOn (λ k. serial_ops p s.listed (put_in s.own) k) (λ ls w k. serial_ops p (c.v ∷ []) w k) (on_with [] v) t2 =
        parts_on _ _ [] v t2 (serial_ops_steady p s.listed (put_in s.own) t2) (λ ls w. serial_ops_steady p (c.v ∷ []) w t2) (reaches_same (λ k. append_runs p s.listed (c.v ∷ []) (put_in s.own) k) run2) in
        let one : OneEnd [] d.ls w d.x t d.s = ends_once (λ k. serial_ops p s.listed (put_in s.own) k) [] d.ls w d.x t d.s rel.run d.first in
        let last : Reaches (λ k. serial_ops p (c.v ∷ []) w k) (on_with [] v) d.t = subst (λ y. Reaches (λ k. serial_ops p (c.v ∷ []) y k) (on_with [] v) d.t) (sym one.world) d.rest in
        let g : PartsOn (λ k. run_call (operations_of p) [] c.v w k) (λ ls w k. goes_on [] w k) (on_with [] v) d.t =
        parts_on _ _ [] v d.t (serial_call_steady p [] c.v w d.t) (λ ls w. steady_stop (on_with [] w)) last in
        let stop : AtOnce [] [] g.x v g.t = at_once [] [] g.x v g.t g.rest in
        let call : Reaches (λ k. run_call (operations_of p) ls c.v w k) (on_with ls g.x) g.s = record { at = λ i. call_with p c.v [] g.ls ls w g.x (g.s + i) i (g.first.at i) } in
        finish c.s c.t n t t2 d.s d.t g.s g.t o.none c.sum one.steps d.sum g.sum stop.none
        (back_at o.locals stop.state record {
          n = c.s + g.s;
          reaches = reaches_with (λ k. due (functions_of p.functions w.heap).call (place w.heap this line ls) e op es k) w (λ d k. run_call (operations_of p) ls d w k) c.v (on_with ls g.x) c.s g.s (takes_same (λ k. sym (common.dues b w s t rel line ls tl e op es ty.0 ty.1 ty.4 ty.5 a.0 a.1 k)) c.first) call;
          sum = refl;
        })
      where
        finish : (cs ct n t t2 ds dt gs gt : ℕ) → ct ≡ 0 → n ≡ cs + ct → t ≡ ds → t2 ≡ ds + dt → dt ≡ gs + gt → gt ≡ 0 → {fn : ℕ → Flow World} → Backed fn ms v t (t + (cs + gs)) → Backed fn ms v t (n + t2)
        finish cs ct n t t2 ds dt gs gt a b c d e f x = back_steps (let y : t + (cs + gs) ≡ n + t2 = omega arith in y) x

    -- what the parts of a loop's turn make of a section
    abbrev BodyBack : Bool → (List Datum → World → ℕ → Flow World) → (List Datum → Section → ℕ → Flow Section) → Type 0
    BodyBack b f g = (ls : List Datum) (w : World) (s : Section) (t : ℕ) → ValuesTyped w0.heap ls sc.locals → R b w s t → (ms : List Datum) (u : Section) (n : ℕ) → Reaches (λ k. g ls s k) (on_with ms u) n → (v : World) (t2 : ℕ) → Listed u v t2 → Backed (λ k. f ls w k) ms v t (n + t2)

    abbrev BodyAfter : Bool → (List Datum → Section → ℕ → Flow Section) → Type 0
    BodyAfter b g = (ls ms : List Datum) (s u : Section) (n : ℕ) → ValuesTyped w0.heap ls sc.locals → L b s → Reaches (λ k. g ls s k) (on_with ms u) n → After b ms u

    -- a loop from its condition on
    turn_back : (bound : ℕ) (c : Expression) (f : List Datum → World → ℕ → Flow World) (g : List Datum → Section → ℕ → Flow Section) (loop : Statement) (b d : Bool) (line : ℕ)
        → ExpressionTyped p sc c BoolType → IsClean p written b c
        → ((n : ℕ) (ls : List Datum) (s : Section) → SteadyFlow (suc n) (λ k. g ls s k))
        → BodyBack b f g → BodyAfter b g
        → ((ls ms : List Datum) (s u : Section) (n : ℕ) → Reaches (λ k. qp.again line ls s loop k) (on_with ms u) n → G b d s u)
        → ((ls : List Datum) (w : World) (k : ℕ) → wp.again line ls w loop k ≡ turn_of wp c f loop line ls w k)
        → ((ls : List Datum) (s : Section) (k : ℕ) → qp.again line ls s loop k ≡ turn_of qp c g loop line ls s k)
        → (ls : List Datum) (w : World) (s : Section) (t : ℕ) → ValuesTyped w0.heap ls sc.locals → R b w s t → (ms : List Datum) (u : Section) (n : ℕ) → n < bound → Reaches (λ k. turn_of qp c g loop line ls s k) (on_with ms u) n → (v : World) (t2 : ℕ) → Listed u v t2 → Backed (λ k. turn_of wp c f loop line ls w k) ms v t (n + t2)
    turn_back zero c f g loop b d line tc clean steady body later grown again_w again_s ls w s t tl rel ms u n lt run v t2 list = absurd (omega arith)
    turn_back (suc bound) c f g loop b d line tc clean steady body later grown again_w again_s ls w s t tl rel ms u n lt run v t2 list =
        let again_steady : (m : ℕ) (ls : List Datum) (s : Section) → SteadyFlow (suc m) (λ k. qp.again line ls s loop k) = λ m ls s. let P : SteadyParts (suc m) qp = section_parts_steady p w0.heap this (suc m) in P.agains line ls s loop in
        let go : ℕ → Flow Section = λ k. and_on (g ls s k) (λ ls s k. qp.again line ls s loop k) in
        let go_steady : (m : ℕ) → SteadyFlow (suc m) go = λ m. steady_on _ _ (steady m ls s) (again_steady m) in
        let e : PartsWith (λ k. qp.value line ls s c k) (λ y k. choose y (with (take_step k) s (λ z k. go k)) (goes_on ls s k)) (on_with ms u) n =
        parts_with _ s _ _ n (value_steady p.functions w0.heap (section_place w0.heap this s.own line ls) c n) (λ y. steady_choose y _ _ (flow_less (let z : suc n ≤ suc (suc n) = omega arith in z) (steady_turn s go (go_steady n))) (steady_stop (on_with ls s))) run in
        back_steps (plus_sum n e.s e.t t2 e.sum)
        (back_with (λ k. wp.value line ls w c k) w _ e.v e.s t (e.t + t2) (takes_same (λ k. sym (common.values b w s t rel line ls tl c BoolType tc clean k)) e.first)
        (back_choose e.v (λ k. with (take_step k) s (λ z k. go k)) (λ k. goes_on ls s k) (λ k. with (take_step k) w (λ z k. and_on (f ls w k) (λ ls w k. wp.again line ls w loop k))) (λ k. goes_on ls w k) (on_with ms u) e.t t (e.t + t2)
        (λ turned.
        let step : AfterStep go (on_with ms u) e.t = after_step s go (on_with ms u) e.t (go_steady e.t) turned in
        let q : PartsOn (λ k. g ls s k) (λ ls s k. qp.again line ls s loop k) (on_with ms u) step.t = parts_on _ _ ms u step.t (steady step.t ls s) (again_steady step.t) step.rest in
        let a : After b q.ls q.x = later ls q.ls s q.x q.s tl rel.lite q.first in
        let m : Middle b q.x = middle b d q.x u v t2 a.lite (grown q.ls ms q.x u q.t q.rest) list in
        let one : Backed (λ k. f ls w k) q.ls m.w t (q.s + m.t) = body ls w s t tl rel q.ls q.x q.s q.first m.w m.t m.rel.run in
        let two : Backed (λ k. turn_of wp c f loop line q.ls m.w k) ms v m.t (q.t + t2) =
        turn_back bound c f g loop b d line tc clean steady body later grown again_w again_s q.ls m.w q.x m.t a.locals m.rel ms u q.t (less n bound e.s e.t step.t q.s q.t lt e.sum step.sum q.sum) (reaches_same (λ k. again_s q.ls q.x k) q.rest) v t2 list in
        let two2 : Backed (λ k. wp.again line q.ls m.w loop k) ms v m.t (q.t + t2) = record { n = two.n; reaches = reaches_same (λ k. sym (again_w q.ls m.w k)) two.reaches; sum = two.sum } in
        back_steps (total e.t step.t q.s q.t t2 step.sum q.sum)
        (back_step w _ t ((q.s + q.t) + t2) (back_on (λ k. f ls w k) (λ ls w k. wp.again line ls w loop k) q.ls ms m.w v t m.t t2 q.s q.t one two2)))
        (λ stop. back_stop b ls ms w v s u t e.t t2 rel stop list) e.rest))
      where
        plus_sum : (n a b t : ℕ) → n ≡ a + b → a + (b + t) ≡ n + t
        plus_sum n a b t e = omega arith

        less : (n bound a b c d e : ℕ) → n < suc bound → n ≡ a + b → b ≡ suc c → c ≡ d + e → e < bound
        less n bound a b c d e lt x y z = omega arith

        total : (n a b c t : ℕ) → n ≡ suc a → a ≡ b + c → suc ((b + c) + t) ≡ n + t
        total n a b c t e f = omega arith

    -- a loop's own flag is up already
    up_twice : (b c : Bool) → b || c ≡ (b || c) || c
    up_twice true c = refl
    up_twice false true = refl
    up_twice false false = refl

    -- a `for`: its first part, and then a loop whose turns end with the next part
    abbrev Back : Statement → Type 0
    Back x = (b : Bool) → IsSeparated p written b x → (line : ℕ) (ls : List Datum) (w : World) (s : Section) (t : ℕ) → ValuesTyped w0.heap ls sc.locals → R b w s t → (ms : List Datum) (u : Section) (n : ℕ) → Reaches (λ k. exec qp line ls s x k) (on_with ms u) n → (v : World) (t2 : ℕ) → Listed u v t2 → Backed (λ k. exec wp line ls w x k) ms v t (n + t2)

    for_back : (l : ℕ) (site : LoopId) (part : FirstPart) (first : Statement) (c : Expression) (next y : Statement) (b : Bool) → IsSeparated p written b (for_loop l site part first c next y) → StatementTyped p sc (for_loop l site part first c next y) → IsKept written ops (for_loop l site part first c next y) → Back first → Back next → Back y → (line : ℕ) (ls : List Datum) (w : World) (s : Section) (t : ℕ) → ValuesTyped w0.heap ls sc.locals → R b w s t → (ms : List Datum) (u : Section) (n : ℕ) → Reaches (λ k. exec qp line ls s (for_loop l site part first c next y) k) (on_with ms u) n → (v : World) (t2 : ℕ) → Listed u v t2 → Backed (λ k. exec wp line ls w (for_loop l site part first c next y) k) ms v t (n + t2)
    for_back l site part first c next y b a ty kept back_first back_next back_body line ls w s t tl rel ms u n run v t2 list =
        let loop : Statement = for_loop l site part first c next y in
        let cs : List OpId = calls_of first ++ (calls_of next ++ calls_of y) in
        let up : Bool = b || is_some_of cs in
        let top : Bool = up || is_some_of cs in
        let a2 : IsSeparated p written up loop = subst (λ z. IsSeparated p written z first × IsClean p written z c × IsSeparated p written z next × IsSeparated p written z y) (up_twice b (is_some_of cs)) a in
        let of_first : Rise (up || holds_call first) up = rise_again b (is_some_of cs) (holds_call first) (λ e. some_left (calls_of first) (calls_of next ++ calls_of y) e) in
        let of_body : Rise (up || holds_call y) up = rise_again b (is_some_of cs) (holds_call y) (λ e. some_right (calls_of next) (calls_of y) (some_right (calls_of first) (calls_of next ++ calls_of y) e)) in
        let of_next : Rise (up || holds_call next) up = rise_again b (is_some_of cs) (holds_call next) (λ e. some_left (calls_of next) (calls_of y) (some_right (calls_of first) (calls_of next ++ calls_of y) e)) in
        let Q : (m : ℕ) → SteadyParts m qp = λ m. section_parts_steady p w0.heap this m in
        let f : List Datum → World → ℕ → Flow World = λ ls w k. and_on (exec wp (line_of y) ls w y k) (λ ls w k. exec wp line ls w next k) in
        let g : List Datum → Section → ℕ → Flow Section = λ ls s k. and_on (exec qp (line_of y) ls s y k) (λ ls s k. exec qp line ls s next k) in
        let g_steady : (m : ℕ) (ls : List Datum) (s : Section) → SteadyFlow (suc m) (λ k. g ls s k) = λ m ls s. steady_on _ _ (exec_steady m qp (Q m) y (line_of y) ls s) (λ ls s. exec_steady m qp (Q m) next line ls s) in
        let turns : (m : ℕ) (ls : List Datum) (s : Section) → SteadyFlow (suc m) (λ k. turn_of qp c g loop line ls s k) = λ m ls s. turn_is_steady m c g loop line ls s g_steady in
        let d : PartsOn (λ k. exec qp line ls s first k) (λ ls s k. turn_of qp c g loop line ls s k) (on_with ms u) n = parts_on _ _ ms u n (exec_steady n qp (Q n) first line ls s) (turns n) run in
        let grown : (ls ms : List Datum) (s u : Section) (n : ℕ) → Reaches (λ k. qp.again line ls s loop k) (on_with ms u) n → G up top s u =
        λ ls ms s u n f. grown_at up top s u ms 0 _ (loop_section_grown p written ops w0.heap this sc loop up ty a2 kept line ls s (n + 0)) (f.at 0) in
        let again_s : (ls : List Datum) (s : Section) (k : ℕ) → qp.again line ls s loop k ≡ turn_of qp c g loop line ls s k = λ ls s k. section_loop_runs p w0.heap this line ls s loop k in
        let rel2 : R up w s t = rises (rise_or b (is_some_of cs)) rel in
        let mid : After up d.ls d.x = after_less of_first (after first up a.0 ty.0 kept.0 line ls d.ls s d.x d.s tl rel2.lite d.first) in
        let m : Middle up d.x = middle up top d.x u v t2 mid.lite (grown d.ls ms d.x u d.t (reaches_same (λ k. sym (again_s d.ls d.x k)) d.rest)) list in
        let one : Backed (λ k. exec wp line ls w first k) d.ls m.w t (d.s + m.t) = back_first up a.0 line ls w s t tl rel2 d.ls d.x d.s d.first m.w m.t m.rel.run in
        let two : Backed (λ k. turn_of wp c f loop line d.ls m.w k) ms v m.t (d.t + t2) =
        turn_back (suc d.t) c f g loop up top line ty.1 a.1 g_steady
        (λ ls w s t tl rel ms u n run v t2 list.
        let e : PartsOn (λ k. exec qp (line_of y) ls s y k) (λ ls s k. exec qp line ls s next k) (on_with ms u) n = parts_on _ _ ms u n (exec_steady n qp (Q n) y (line_of y) ls s) (λ ls s. exec_steady n qp (Q n) next line ls s) run in
        let z : After up e.ls e.x = after_less of_body (after y up a.3 ty.3 kept.2 (line_of y) ls e.ls s e.x e.s tl rel.lite e.first) in
        let h : G up (up || holds_call next) e.x u = grown_at up (up || holds_call next) e.x u ms 0 _ (section_grown p written ops w0.heap this sc next up ty.2 a.2 kept.1 line e.ls e.x (e.t + 0)) (e.rest.at 0) in
        let q : Middle up e.x = middle up (up || holds_call next) e.x u v t2 z.lite h list in
        let x1 : Backed (λ k. exec wp (line_of y) ls w y k) e.ls q.w t (e.s + q.t) = back_body up a.3 (line_of y) ls w s t tl rel e.ls e.x e.s e.first q.w q.t q.rel.run in
        let x2 : Backed (λ k. exec wp line e.ls q.w next k) ms v q.t (e.t + t2) = back_next up a.2 line e.ls q.w e.x q.t z.locals q.rel ms u e.t e.rest v t2 list in
        back_steps (ap (λ z. z + t2) (sym e.sum)) (back_on (λ k. exec wp (line_of y) ls w y k) (λ ls w k. exec wp line ls w next k) e.ls ms q.w v t q.t t2 e.s e.t x1 x2))
        (λ ls ms s u n tl lite run.
        let e : PartsOn (λ k. exec qp (line_of y) ls s y k) (λ ls s k. exec qp line ls s next k) (on_with ms u) n = parts_on _ _ ms u n (exec_steady n qp (Q n) y (line_of y) ls s) (λ ls s. exec_steady n qp (Q n) next line ls s) run in
        let z : After up e.ls e.x = after_less of_body (after y up a.3 ty.3 kept.2 (line_of y) ls e.ls s e.x e.s tl lite e.first) in
        after_less of_next (after next up a.2 ty.2 kept.1 line e.ls ms e.x u e.t z.locals z.lite e.rest))
        grown
        (λ ls w k. loop_runs p this line ls w loop k)
        again_s
        d.ls m.w d.x m.t mid.locals m.rel ms u d.t (omega arith) d.rest v t2 list in
        back_steps (ap (λ z. z + t2) (sym d.sum)) (back_on (λ k. exec wp line ls w first k) (λ ls w k. turn_of wp c f loop line ls w k) d.ls ms m.w v t m.t t2 d.s d.t one two)
      where
        turn_is_steady : (m : ℕ) (c : Expression) (g : List Datum → Section → ℕ → Flow Section) (loop : Statement) (line : ℕ) (ls : List Datum) (s : Section) → ((m : ℕ) (ls : List Datum) (s : Section) → SteadyFlow (suc m) (λ k. g ls s k)) → SteadyFlow (suc m) (λ k. turn_of qp c g loop line ls s k)
        turn_is_steady m c g loop line ls s st =
            steady_with _ s _ (value_steady p.functions w0.heap (section_place w0.heap this s.own line ls) c m) (λ y. steady_choose y _ _ (flow_less (let z : suc m ≤ suc (suc m) = omega arith in z) (steady_turn s _ (steady_on _ _ (st m ls s) (λ ls s. let P : SteadyParts (suc m) qp = section_parts_steady p w0.heap this (suc m) in P.agains line ls s loop)))) (steady_stop (on_with ls s)))

    mutual
      pub back : (x : Statement) (b : Bool) → IsSeparated p written b x → StatementTyped p sc x → IsKept written ops x → (line : ℕ) (ls : List Datum) (w : World) (s : Section) (t : ℕ) → ValuesTyped w0.heap ls sc.locals → R b w s t → (ms : List Datum) (u : Section) (n : ℕ) → Reaches (λ k. exec qp line ls s x k) (on_with ms u) n → (v : World) (t2 : ℕ) → Listed u v t2 → Backed (λ k. exec wp line ls w x k) ms v t (n + t2)
      back (block l ss) b a ty kept line ls w s t tl rel ms u n f v t2 run = all_back ss b a ty kept ls w s t tl rel ms u n f v t2 run
      back (put_local l i op e) b a ty kept line ls w s t tl rel ms u n f v t2 run =
          let c : PartsWith (λ k. qp.value line ls s e k) (λ y k. goes_on (slice_set ls i.0 (assigned op (value_at ls i.0) y)) s k) (on_with ms u) n =
          parts_with _ s _ _ n (value_steady p.functions w0.heap (section_place w0.heap this s.own line ls) e n) (λ y. steady_stop (on_with (slice_set ls i.0 (assigned op (value_at ls i.0) y)) s)) f in
          let sum = c.sum in
          back_steps (let z : c.s + (c.t + t2) ≡ n + t2 = omega arith in z)
          (back_with (λ k. wp.value line ls w e k) w _ c.v c.s t (c.t + t2) (takes_same (λ k. sym (common.values b w s t rel line ls tl e ty.0 ty.2.1 a k)) c.first) (back_stop b (slice_set ls i.0 (assigned op (value_at ls i.0) c.v)) ms w v s u t c.t t2 rel c.rest run))
      back (put_field l f op e) true a ty kept line ls w s t tl rel ms u n run v t2 list = absurd (a.0 kept)
      back (put_field l f op e) false a ty kept line ls w s t tl rel ms u n run v t2 list = put_back l f op e a ty line ls w s t tl rel ms u n run v t2 list
      back (put_item l f i op e) true a ty kept line ls w s t tl rel ms u n run v t2 list = absurd (a.0 kept)
      back (put_item l f i op e) false a ty kept line ls w s t tl rel ms u n run v t2 list = item_back l f i op e a ty line ls w s t tl rel ms u n run v t2 list
      back (invoke l e op es) b a ty kept line ls w s t tl rel ms u n f v t2 run = call_back l e op es b a ty line ls w s t tl rel ms u n f v t2 run
      back (if_else l c y z) b a ty kept line ls w s t tl rel ms u n f v t2 run =
          let Q : SteadyParts n qp = section_parts_steady p w0.heap this n in
          let d : PartsWith (λ k. qp.value line ls s c k) (λ x k. choose x (exec qp (line_of y) ls s y k) (exec qp (line_of z) ls s z k)) (on_with ms u) n =
          parts_with _ s _ _ n (value_steady p.functions w0.heap (section_place w0.heap this s.own line ls) c n) (λ x. steady_choose x _ _ (exec_steady n qp Q y (line_of y) ls s) (exec_steady n qp Q z (line_of z) ls s)) f in
          let sum = d.sum in
          back_steps (let x : d.s + (d.t + t2) ≡ n + t2 = omega arith in x)
          (back_with (λ k. wp.value line ls w c k) w _ d.v d.s t (d.t + t2) (takes_same (λ k. sym (common.values b w s t rel line ls tl c BoolType ty.0 a.0 k)) d.first)
          (back_choose d.v (λ k. exec qp (line_of y) ls s y k) (λ k. exec qp (line_of z) ls s z k) (λ k. exec wp (line_of y) ls w y k) (λ k. exec wp (line_of z) ls w z k) (on_with ms u) d.t t (d.t + t2)
          (λ g. back y b a.1 ty.1 kept.0 (line_of y) ls w s t tl rel ms u d.t g v t2 run)
          (λ g. back z b a.2 ty.2 kept.1 (line_of z) ls w s t tl rel ms u d.t g v t2 run) d.rest))
      back (while_loop l c y) b a ty kept line ls w s t tl rel ms u n f v t2 run =
          let up : Bool = b || holds_call y in
          let a2 : IsSeparated p written up (while_loop l c y) = subst (λ z. IsClean p written z c × IsSeparated p written z y) (up_twice b (holds_call y)) a in
          turn_back (suc n) c (λ ls w k. exec wp (line_of y) ls w y k) (λ ls s k. exec qp (line_of y) ls s y k) (while_loop l c y) up (up || holds_call y) line ty.0 a.0
          (λ n ls s. exec_steady n qp (section_parts_steady p w0.heap this n) y (line_of y) ls s)
          (λ ls w s t tl rel ms u n f v t2 run. back y up a.1 ty.1 kept (line_of y) ls w s t tl rel ms u n f v t2 run)
          (λ ls ms s u n tl lite f. after_less (rise_again b (holds_call y) (holds_call y) (λ e. e)) (after y up a.1 ty.1 kept (line_of y) ls ms s u n tl lite f))
          (λ ls ms s u n f. grown_at up (up || holds_call y) s u ms 0 _ (loop_section_grown p written ops w0.heap this sc (while_loop l c y) up ty a2 kept line ls s (n + 0)) (f.at 0))
          (λ ls w k. loop_runs p this line ls w (while_loop l c y) k)
          (λ ls s k. section_loop_runs p w0.heap this line ls s (while_loop l c y) k)
          ls w s t tl (rises (rise_or b (holds_call y)) rel) ms u n (omega arith) f v t2 run
      back (for_loop l site part first c next y) b a ty kept line ls w s t tl rel ms u n f v t2 run =
          for_back l site part first c next y b a ty kept
          (λ b a line ls w s t tl rel ms u n f v t2 run. back first b a ty.0 kept.0 line ls w s t tl rel ms u n f v t2 run)
          (λ b a line ls w s t tl rel ms u n f v t2 run. back next b a ty.2 kept.1 line ls w s t tl rel ms u n f v t2 run)
          (λ b a line ls w s t tl rel ms u n f v t2 run. back y b a ty.3 kept.2 line ls w s t tl rel ms u n f v t2 run)
          line ls w s t tl rel ms u n f v t2 run
      back (return_value l e) b a ty kept line ls w s t tl rel ms u n f v t2 run = let z : Some ty.0 ≡ None = sym ty.1 ∙ common.result in cc
      back (new_local l i c) b a ty kept line ls w s t tl rel ms u n f v t2 run = absurd a
      back (new_field l g c) b a ty kept line ls w s t tl rel ms u n f v t2 run = absurd a
      back (new_item l g i c) b a ty kept line ls w s t tl rel ms u n f v t2 run = absurd a
      back (print_value l e) b a ty kept line ls w s t tl rel ms u n f v t2 run = absurd a

      pub all_back : (ss : Statements) (b : Bool) → AreSeparated p written b ss → StatementsTyped p sc ss → AreKept written ops ss → (ls : List Datum) (w : World) (s : Section) (t : ℕ) → ValuesTyped w0.heap ls sc.locals → R b w s t → (ms : List Datum) (u : Section) (n : ℕ) → Reaches (λ k. exec_all qp ls s ss k) (on_with ms u) n → (v : World) (t2 : ℕ) → Listed u v t2 → Backed (λ k. exec_all wp ls w ss k) ms v t (n + t2)
      all_back no_statements b a ty kept ls w s t tl rel ms u n f v t2 run = back_stop b ls ms w v s u t n t2 rel f run
      all_back (statement_and x rest) b a ty kept ls w s t tl rel ms u n f v t2 run =
          let Q : SteadyParts n qp = section_parts_steady p w0.heap this n in
          let up : Bool = b || holds_call x in
          let d : PartsOn (λ k. exec qp (line_of x) ls s x k) (λ ls s k. exec_all qp ls s rest k) (on_with ms u) n = parts_on _ _ ms u n (exec_steady n qp Q x (line_of x) ls s) (λ ls s. all_exec_steady n qp Q rest ls s) f in
          let mid : After up d.ls d.x = after x b a.0 ty.0 kept.0 (line_of x) ls d.ls s d.x d.s tl rel.lite d.first in
          let g : G up (up || is_some_of (calls_of_all rest)) d.x u = grown_at up (up || is_some_of (calls_of_all rest)) d.x u ms 0 _ (all_section_grown p written ops w0.heap this sc rest up ty.1 a.1 kept.1 d.ls d.x (d.t + 0)) (d.rest.at 0) in
          let m : Middle up d.x = middle up (up || is_some_of (calls_of_all rest)) d.x u v t2 mid.lite g run in
          let one : Backed (λ k. exec wp (line_of x) ls w x k) d.ls m.w t (d.s + m.t) = back x b a.0 ty.0 kept.0 (line_of x) ls w s t tl rel d.ls d.x d.s d.first m.w m.t m.rel.run in
          let two : Backed (λ k. exec_all wp d.ls m.w rest k) ms v m.t (d.t + t2) = all_back rest up a.1 ty.1 kept.1 d.ls m.w d.x m.t mid.locals m.rel ms u d.t d.rest v t2 run in
          back_steps (ap (λ z. z + t2) (sym d.sum)) (back_on (λ k. exec wp (line_of x) ls w x k) (λ ls w k. exec_all wp ls w rest k) d.ls ms m.w v t m.t t2 d.s d.t one two)
