-- The serial run of a call is its section and then the run of what that lists.
use Rattle.std.proofs.Common.{◌≡◌, ℕ, zero, suc, ◌+◌, List, [], ◌∷◌, Option, Some, None, refl, ap, sym, subst, ◌∙◌, arith, false, set-set}
use Rattle.std.specs.Prelude.{slice_get, slice_set, Contains}
use Rattle.ca_lists.proofs.Members.{has_nothing}
use Rattle.ca_lists.proofs.Places.{get_set_here}
use Rattle.ca_program.specs.declared.program.ClassId.{ClassId}
use Rattle.ca_program.specs.declared.program.FieldId.{FieldId}
use Rattle.ca_program.specs.declared.program.OpId.{OpId}
use Rattle.ca_program.specs.Plain.{PlainProgram, PlainMethod}
use Rattle.ca_model.specs.declared.value.Value.{Value as Datum}
use Rattle.ca_model.specs.declared.value.Value.TheVariants.{Ref}
use Rattle.ca_model.specs.declared.value.Slot.{Slot}
use Rattle.ca_model.specs.declared.value.Object.{Object}
use Rattle.ca_model.specs.Slots.{put_slot}
use Rattle.ca_model.specs.Heaps.{stored}
use Rattle.ca_model.specs.Typed.{IsOfClass, ObjectTyped, EachTyped, TypedHeap}
use Rattle.ca_model.proofs.Stores.{stored_is}
use Rattle.ca_meaning.specs.Expressions.{Invocation, slots_in, slot_of}
use Rattle.ca_meaning.specs.Flows.{Flow, goes_on, gives_back, stops, runs_out, exec_all}
use Rattle.ca_meaning.specs.Functions.{own_of, body_of, locals_of}
use Rattle.ca_meaning.specs.Serial.{World, in_heap, came_back, run_call, operations_of, serial_parts, serial_ops}
use Rattle.ca_meaning.specs.Sections.{Section, section_start, section_parts, section_run}
use Rattle.ca_meaning.specs.WellTyped.{CallTyped, WellTyped}
use Rattle.ca_meaning.specs.ProgramTyped.{Scope, scope_of, OperationTyped, ProgramTyped}
use Rattle.ca_meaning.proofs.Fix.{invoke_runs}
use Rattle.ca_meaning_laws.specs.Budgets.{on_with, Reaches, Reached}
use Rattle.ca_meaning_laws.specs.Typed.{Extends, OwnTyped}
use Rattle.ca_meaning_laws.proofs.Values.{frame_typed}
use Rattle.ca_meaning_laws.proofs.Heaps.{each_kept, object_typed}
use Rattle.ca_meaning_laws.proofs.Steady.{SteadyFlow, all_exec_steady}
use Rattle.ca_meaning_laws.proofs.Bigs.{invoke_steady, all_serial_steady, section_parts_steady, AfterStep, after_step, before_step}
use Rattle.ca_parallel.specs.Bodies.{calls_of_all}
use Rattle.ca_parallel.specs.Extents.{Extent, IsExtentOf}
use Rattle.ca_parallel.specs.Separable.{is_some_of, AreSeparated, Separable}
use Rattle.ca_order_laws.proofs.Runs.{ends_same, ends_left, reaches_same, reaches_steps, stop_reaches}
use Rattle.ca_order_laws.proofs.Likes.{Like}
use Rattle.ca_order_laws.proofs.Kept.{AreKept}
use Rattle.ca_order_laws.proofs.Sections.{object_with, body_kept}
use Rattle.ca_order_laws.proofs.Related.{Puts, Constants, Related, Common}
use Rattle.ca_order_laws.proofs.BothRuns.{Placed, common}
use Rattle.ca_order_laws.proofs.First.{Forth, all_forward}
use Rattle.ca_order_laws.proofs.Back.{Backed, all_back}

-- ---- an object put into its place

pub set_same : (h : List Object) (r : ℕ) (o : Object) → slice_get h r ≡ Some o → slice_set h r o ≡ h
set_same [] r o e = refl
set_same (y ∷ ys) zero o e = let q : y ≡ o = cc in ap (λ z. z ∷ ys) (sym q)
set_same (y ∷ ys) (suc r) o e = ap (λ z. y ∷ z) (set_same ys r o e)

-- a put in the heap is a put in the object
put_set : (h : List Object) (r : ℕ) (o : Object) (own : List Slot) (f i : ℕ) (v : Datum) → slice_get h r ≡ Some o → stored (slice_set h r (object_with o own)) r f i v ≡ slice_set h r (object_with o (put_slot own f i v))
put_set h r o own f i v found =
    sym (stored_is (slice_set h r (object_with o own)) r f i v (object_with o own) (get_set_here h r o (object_with o own) found))
    ∙ set-set h r (object_with o own) (object_with o (put_slot own f i v))

set_extends : (h : List Object) (r : ℕ) (o : Object) (own : List Slot) → slice_get h r ≡ Some o → Extends h (slice_set h r (object_with o own))
set_extends h r o own found = record { keeps = λ n c t. from h r n c found t }
  where
    from : (h : List Object) (r n : ℕ) (c : ClassId) → slice_get h r ≡ Some o → IsOfClass (slice_get h n) c → IsOfClass (slice_get (slice_set h r (object_with o own)) n) c
    from [] r n c e t = absurd t
    from (y ∷ ys) zero zero c e t = let q : y ≡ o = cc in sym (ap (λ (z : Object). z.class) q) ∙ t
    from (y ∷ ys) zero (suc n) c e t = t
    from (y ∷ ys) (suc r) zero c e t = t
    from (y ∷ ys) (suc r) (suc n) c e t = from ys r n c e t

set_like : (written : List FieldId) (h : List Object) (r : ℕ) (o : Object) (own : List Slot) → slice_get h r ≡ Some o → ((f : FieldId) → o.class ≡ f.class → ¬ Contains written f → slice_get own f.field ≡ slice_get o.slots f.field) → Like written h (slice_set h r (object_with o own))
set_like written h r o own found same = record { slots = λ n f there free. from h r n f found there free }
  where
    from : (h : List Object) (r n : ℕ) (f : FieldId) → slice_get h r ≡ Some o → IsOfClass (slice_get h n) f.class → ¬ Contains written f → slot_of h n f ≡ slot_of (slice_set h r (object_with o own)) n f
    from [] r n f e t free = absurd t
    from (y ∷ ys) zero zero f e t free = let q : y ≡ o = cc in ap (λ (z : Object). slice_get z.slots f.field) q ∙ sym (same f (sym (ap (λ (z : Object). z.class) q) ∙ t) free)
    from (y ∷ ys) zero (suc n) f e t free = refl
    from (y ∷ ys) (suc r) zero f e t free = refl
    from (y ∷ ys) (suc r) (suc n) f e t free = from ys r n f e t free

each_set : (p : PlainProgram) (g os : List Object) (r : ℕ) (q : Object) → EachTyped p g os → ObjectTyped g (slice_get p.classes q.class.0) q.slots → EachTyped p g (slice_set os r q)
each_set p g [] r q t a = tt
each_set p g (y ∷ ys) zero q t a = (a, t.1)
each_set p g (y ∷ ys) (suc r) q t a = (t.0, each_set p g ys r q t.1 a)

-- a section, and then its list
pub record SectionRest (p : PlainProgram) (w : World) (i : Invocation) (o : Object) (v : World) (n : ℕ) : Type 0 where
  pub locals : List Datum
  pub section : Section
  pub s : ℕ
  pub t : ℕ
  pub reaches : Reaches (λ k. section_run p w.heap i o.slots k) (on_with locals section) s
  pub rest : Reaches (λ k. serial_ops p section.listed (in_heap w (slice_set w.heap i.receiver (object_with o section.own))) k) (on_with [] v) t
  pub sum : n ≡ s + t

-- a call that came back: its body's run
came_reaches : (f : ℕ → Flow World) (v : World) (n : ℕ) → SteadyFlow (suc n) f → Reaches (λ k. came_back [] (f k)) (on_with [] v) n → (ls : List Datum) × Reaches f (on_with ls v) n
came_reaches f v n steady run = from (f n) refl (ap (λ k. came_back [] (f k)) (let z : n ≡ n + 0 = omega arith in z) ∙ run.at 0)
  where
    from : (o : Flow World) → f n ≡ o → came_back [] (f n) ≡ goes_on [] v 0 → (ls : List Datum) × Reaches f (on_with ls v) n
    from o e q = at o e (ap (λ z. came_back [] z) (sym e) ∙ q)
      where
        at : (o : Flow World) → f n ≡ o → came_back [] o ≡ goes_on [] v 0 → (ls : List Datum) × Reaches f (on_with ls v) n
        at (goes_on ls y k) e q =
            let r : Reached f (on_with ls y) n k = steady.reached n (omega arith) (on_with ls y) k e in
            let is = r.is in let none : k ≡ 0 = ends_left q in
            (ls, reaches_steps (let z : r.s ≡ n = omega arith in z) (subst (λ (a : World). Reaches f (on_with ls a) r.s) (ends_same q) r.reaches))
        at (gives_back u y k) e q = cc
        at (stops t y) e q = cc
        at (runs_out y) e q = cc

module _ (p : PlainProgram) (program : ProgramTyped p) (roots : List OpId) (x : Extent) (is_extent : IsExtentOf p roots x) (w : World) (heap : TypedHeap p w.heap) (i : Invocation) (inside : Contains x.ops i.op) (separable : Separable p x.written i.op) (o : Object) (found : slice_get w.heap i.receiver ≡ Some o) where
  abbrev put_in : List Slot → World
  put_in own = in_heap w (slice_set w.heap i.receiver (object_with o own))

  abbrev serial_body : Option PlainMethod → ℕ → Flow World
  serial_body z k = exec_all (serial_parts p (Ref i.receiver)) (locals_of z i.arguments) w (body_of z) k

  abbrev section_body : Option PlainMethod → ℕ → Flow Section
  section_body z k = exec_all (section_parts p w.heap (Ref i.receiver)) (locals_of z i.arguments) (section_start o.slots) (body_of z) k

  record BodyRest (z : Option PlainMethod) (v : World) (n : ℕ) : Type 0 where
    locals : List Datum
    section : Section
    s : ℕ
    t : ℕ
    reaches : Reaches (λ k. section_body z k) (on_with locals section) s
    rest : Reaches (λ k. serial_ops p section.listed (put_in section.own) k) (on_with [] v) t
    sum : n ≡ s + t

  module _ (m : PlainMethod) (is : slice_get p.ops i.op.0 ≡ Some m) (call : CallTyped w.heap (Some m) i.receiver i.arguments) (sep : AreSeparated p x.written false m.body.statements) (kept : AreKept x.written x.ops m.body.statements) where
    sc : Scope
    sc = scope_of m

    of_class : o.class ≡ m.class
    of_class = subst (λ z. IsOfClass z m.class) found call.0

    puts : Puts p x.written x.ops (scope_of m) w (Ref i.receiver) put_in false
    puts = record {
      own_is = λ own. ap slots_in (get_set_here w.heap i.receiver o (object_with o own) found);
      put_is = λ own f n v. ap (λ h. in_heap w h) (sym (put_set w.heap i.receiver o own f.field n v found));
    }

    typed_slots : (own : List Slot) → OwnTyped p w.heap (Some m.class) own → ObjectTyped w.heap (slice_get p.classes o.class.0) own
    typed_slots own t = subst (λ z. ObjectTyped w.heap (slice_get p.classes z.0) own) (sym of_class) t

    own_found : (f : FieldId) → slice_get (own_of w.heap (Ref i.receiver)) f.field ≡ slice_get o.slots f.field
    own_found f = ap (λ z. slice_get (slots_in z) f.field) found

    placed : (own : List Slot) → OwnTyped p w.heap (Some m.class) own → Constants p x.written x.ops (scope_of m) w (Ref i.receiver) put_in false own → Placed p x.written w.heap (put_in own)
    placed own t same =
        let ext : Extends w.heap (put_in own).heap = set_extends w.heap i.receiver o own found in
        record {
          heap = each_kept p w.heap (put_in own).heap ext (put_in own).heap (each_set p w.heap w.heap i.receiver (object_with o own) heap (typed_slots own t));
          extends = ext;
          like = set_like x.written w.heap i.receiver o own found (λ f e free. same f (ap Some (sym of_class ∙ e)) free ∙ own_found f);
        }

    method : OperationTyped p m
    method = program.ops i.op.0 m is

    both : Common p x.written x.ops (scope_of m) w (Ref i.receiver) put_in false
    both = common p program x.written x.ops (body_kept p roots x is_extent) (scope_of m) w (Ref i.receiver) put_in false heap call.0 (λ e. puts) placed method.result

    start : Related p x.written x.ops (scope_of m) w (Ref i.receiver) put_in false false w (section_start o.slots) 0
    start = record {
      lite = record {
        none = λ e. refl;
        rises = λ e. refl;
        typed = record { own = subst (λ z. ObjectTyped w.heap (slice_get p.classes z.0) o.slots) of_class (subst (λ z. ObjectTyped w.heap (slice_get p.classes o.class.0) (slots_in z)) found (object_typed p w.heap w.heap i.receiver o.class heap (subst (λ z. IsOfClass z o.class) (sym found) refl))); listed = tt };
        constants = λ f e free. sym (own_found f);
        inside = λ j c. absurd (has_nothing j c);
      };
      run = record { at = λ k. (stop_reaches [] (put_in o.slots)).at k ∙ ap (λ h. goes_on [] (in_heap w h) k) (set_same w.heap i.receiver o found) };
    }

    abbrev locals : List Datum
    locals = locals_of (Some m) i.arguments

    body_first : (ls : List Datum) (v : World) (n : ℕ) → Reaches (λ k. exec_all (serial_parts p (Ref i.receiver)) locals w m.body.statements k) (on_with ls v) n → BodyRest (Some m) v n
    body_first ls v n run =
        let f : Forth p x.written x.ops (scope_of m) w (Ref i.receiver) put_in false (λ k. exec_all (section_parts p w.heap (Ref i.receiver)) locals (section_start o.slots) m.body.statements k) (is_some_of (calls_of_all m.body.statements)) ls v (0 + n) =
        all_forward p x.written x.ops (scope_of m) w (Ref i.receiver) put_in false both m.body.statements false sep method.method.body kept locals w (section_start o.slots) 0 (frame_typed w.heap i.arguments m.params m.body.locals call.1) start ls v n run in
        let q = f.sum in
        record { locals = ls; section = f.s; s = f.n; t = f.t; reaches = f.reaches; rest = f.rel.run; sum = omega arith }

    body_back : (ls : List Datum) (u : Section) (n : ℕ) (v : World) (t : ℕ) → Reaches (λ k. exec_all (section_parts p w.heap (Ref i.receiver)) locals (section_start o.slots) m.body.statements k) (on_with ls u) n → Reaches (λ k. serial_ops p u.listed (put_in u.own) k) (on_with [] v) t → Reaches (λ k. exec_all (serial_parts p (Ref i.receiver)) locals w m.body.statements k) (on_with ls v) (n + t)
    body_back ls u n v t run list =
        let b : Backed p x.written x.ops (scope_of m) w (Ref i.receiver) put_in false (λ k. exec_all (serial_parts p (Ref i.receiver)) locals w m.body.statements k) ls v 0 (n + t) =
        all_back p x.written x.ops (scope_of m) w (Ref i.receiver) put_in false both m.body.statements false sep method.method.body kept locals w (section_start o.slots) 0 (frame_typed w.heap i.arguments m.params m.body.locals call.1) start ls u n run v t list in
        reaches_steps (let e = b.sum in let z : b.n ≡ n + t = omega arith in z) b.reaches

  first_of : (z : Option PlainMethod) → slice_get p.ops i.op.0 ≡ z → CallTyped w.heap z i.receiver i.arguments → AreSeparated p x.written false (body_of z) → AreKept x.written x.ops (body_of z) → (ls : List Datum) (v : World) (n : ℕ) → Reaches (λ k. serial_body z k) (on_with ls v) n → BodyRest z v n
  first_of None is call sep kept ls v n run = absurd call
  first_of (Some m) is call sep kept ls v n run = body_first m is call sep kept ls v n run

  back_of : (z : Option PlainMethod) → slice_get p.ops i.op.0 ≡ z → CallTyped w.heap z i.receiver i.arguments → AreSeparated p x.written false (body_of z) → AreKept x.written x.ops (body_of z) → (ls : List Datum) (u : Section) (n : ℕ) (v : World) (t : ℕ) → Reaches (λ k. section_body z k) (on_with ls u) n → Reaches (λ k. serial_ops p u.listed (put_in u.own) k) (on_with [] v) t → Reaches (λ k. serial_body z k) (on_with ls v) (n + t)
  back_of None is call sep kept ls u n v t run list = absurd call
  back_of (Some m) is call sep kept ls u n v t run list = body_back m is call sep kept ls u n v t run list

  module _ (well : WellTyped p w.heap i) where
    abbrev called : Option PlainMethod
    called = slice_get p.ops i.op.0

    pub call_first : (v : World) (n : ℕ) → Reaches (λ k. run_call (operations_of p) [] i w k) (on_with [] v) n → SectionRest p w i o v n
    call_first v n f =
        let a : AfterStep (λ k. came_back [] ((operations_of p).invoke i w k)) (on_with [] v) n = after_step w _ (on_with [] v) n (invoke_steady p [] i w n) f in
        let b : (ls : List Datum) × Reaches (λ k. serial_body called k) (on_with ls v) a.t =
        came_reaches (λ k. serial_body called k) v a.t (all_serial_steady p (Ref i.receiver) (body_of called) (locals_of called i.arguments) w a.t) (reaches_same (λ k. ap (λ z. came_back [] z) (invoke_runs p i w k)) a.rest) in
        let r : BodyRest called v a.t = first_of called refl well separable (body_kept p roots x is_extent i.op inside) b.0 v a.t b.1 in
        let q = a.sum in let q1 = r.sum in
        record { locals = r.locals; section = r.section; s = suc r.s; t = r.t; reaches = before_step (section_start o.slots) (λ k. section_body called k) (on_with r.locals r.section) r.s r.reaches; rest = r.rest; sum = omega arith }

    pub call_then : (ls : List Datum) (u : Section) (s : ℕ) (v : World) (t : ℕ) → Reaches (λ k. section_run p w.heap i o.slots k) (on_with ls u) s → Reaches (λ k. serial_ops p u.listed (put_in u.own) k) (on_with [] v) t → Reaches (λ k. run_call (operations_of p) [] i w k) (on_with [] v) (s + t)
    call_then ls u s v t f list =
        let a : AfterStep (λ k. section_body called k) (on_with ls u) s = after_step (section_start o.slots) _ (on_with ls u) s (all_exec_steady s _ (section_parts_steady p w.heap (Ref i.receiver) s) (body_of called) (locals_of called i.arguments) (section_start o.slots)) f in
        let b : Reaches (λ k. serial_body called k) (on_with ls v) (a.t + t) = back_of called refl well separable (body_kept p roots x is_extent i.op inside) ls u a.t v t a.rest list in
        let call : Reaches (λ k. came_back [] ((operations_of p).invoke i w k)) (on_with [] v) (a.t + t) = record { at = λ j. ap (λ z. came_back [] z) (invoke_runs p i w ((a.t + t) + j) ∙ b.at j) } in
        reaches_steps (let q = a.sum in let z : suc (a.t + t) ≡ s + t = omega arith in z) (before_step w _ (on_with [] v) (a.t + t) call)
