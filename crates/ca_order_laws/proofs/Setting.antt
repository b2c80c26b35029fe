-- The setting of the diamond: sections of a parallel extent in a frozen heap.
use Rattle.std.proofs.Common.{◌≡◌, ℕ, ◌+◌, ◌<◌, List, [], ◌∷◌, length, Option, Some, None, refl, sym, subst, ◌∙◌, arith, ⊎_elim}
use Rattle.std.specs.Prelude.{slice_get, Contains}
use Rattle.std.proofs.lemmas.List.Elements.{Contains-push, Contains-push_cases, Contains-append_left, Contains-append_right, Contains-append_cases}
use Rattle.ca_program.specs.declared.program.ClassId.{ClassId}
use Rattle.ca_program.specs.declared.program.OpId.{OpId}
use Rattle.ca_program.specs.Plain.{PlainProgram, PlainMethod}
use Rattle.ca_model.specs.declared.value.Object.{Object}
use Rattle.ca_model.specs.Typed.{IsOfClass, ObjectTyped, TypedHeap}
use Rattle.ca_meaning.specs.Expressions.{Invocation, invocation, slots_in}
use Rattle.ca_meaning.specs.Sections.{Outcome, Completes}
use Rattle.ca_meaning.specs.Multisets.{weight}
use Rattle.ca_meaning.specs.WellTyped.{CallTyped, WellTyped, AllWellTyped, IsMethodOf, IsTypedObject}
use Rattle.ca_meaning.specs.Agree.{Agree, AgreesAt, HeapsAgree}
use Rattle.ca_meaning.specs.Commuting.{joined, OrderCompletes, IsComplete, SameOutcome, CommutesOn}
use Rattle.ca_meaning.specs.ProgramTyped.{ProgramTyped}
use Rattle.ca_meaning_laws.specs.Typed.{Extends}
use Rattle.ca_meaning_laws.proofs.Heaps.{object_kept, object_typed}
use Rattle.ca_parallel.specs.Extents.{Extent, IsExtentOf}
use Rattle.ca_parallel.specs.Parallel.{Parallel}
use Rattle.ca_order_laws.specs.Pending.{Leaves}
use Rattle.ca_order_laws.specs.Order.{StandsFor, AllInside}
use Rattle.ca_order_laws.proofs.Weights.{Split, Decides, equal, other, is_one, count_of, count_self}
use Rattle.ca_order_laws.proofs.Decided.{decide_call}
use Rattle.ca_order_laws.proofs.Diamond.{Swapped, Setting, Fine}
use Rattle.ca_order_laws.proofs.Sections.{leaves_one, Bounded, bounded, typed_leaves}

pub record GoodCall (p : PlainProgram) (x : Extent) (frozen : List Object) (i : Invocation) : Type 0 where
  pub inside : Contains x.ops i.op
  pub typed : WellTyped p frozen i

pub record GoodObject (p : PlainProgram) (x : Extent) (frozen : List Object) (n : ℕ) (o : Object) : Type 0 where
  pub agrees : AgreesAt x.written o frozen n
  pub typed : IsTypedObject p frozen o.class o

-- ---- items of lists

split_contains : (i : Invocation) (is : List Invocation) → 0 < weight (count_of decide_call i) is → Contains is i
split_contains i [] lt = absurd (omega arith)
split_contains i (j ∷ is) lt = from (decide_call i j) (split_contains i is) lt
  where
    from : (d : Decides i j) → (0 < weight (count_of decide_call i) is → Contains is i) → 0 < is_one decide_call d + weight (count_of decide_call i) is → Contains (j ∷ is) i
    from (equal e) f h = Contains-append_left (j ∷ []) is i (subst (λ z. Contains (j ∷ []) z) (sym e) (Contains-push [] j))
    from (other n) f h = Contains-append_right (j ∷ []) is i (f (omega arith))

-- an item that can be taken out of a list stands in it
pub taken : (i : Invocation) (is : List Invocation) → Split i is → Contains is i
taken i is s = split_contains i is (let p = s.same.weighed (count_of decide_call i) in let q = count_self decide_call i in omega arith)

pub well_typed_at : (p : PlainProgram) (h : List Object) (is : List Invocation) → AllWellTyped p h is → (i : Invocation) → Contains is i → WellTyped p h i
well_typed_at p h [] t i c = absurd (let lt = c.1 in omega arith)
well_typed_at p h (j ∷ is) t i c = ⊎_elim (λ a. ⊎_elim (λ b. absurd (let lt = b.1 in omega arith)) (λ e. subst (λ z. WellTyped p h z) e t.0) (Contains-push_cases [] j i a)) (λ a. well_typed_at p h is t.1 i a) (Contains-append_cases (j ∷ []) is i c)

-- ---- classes

pub method_at : (p : PlainProgram) (h : List Object) (i : Invocation) (o : Object) → slice_get h i.receiver ≡ Some o → WellTyped p h i → IsMethodOf (slice_get p.ops i.op.0) o.class
method_at p h i o found typed = from (slice_get p.ops i.op.0) typed
  where
    from : (m : Option PlainMethod) → CallTyped h m i.receiver i.arguments → IsMethodOf m o.class
    from None t = absurd t
    from (Some m) t = sym (subst (λ q. IsOfClass q m.class) found t.0)

pub method_of : (p : PlainProgram) (written : _) (h : List Object) (i : Invocation) (o : Object) → AgreesAt written o h i.receiver → WellTyped p h i → IsMethodOf (slice_get p.ops i.op.0) o.class
method_of p written h i o a typed = subst (λ c. IsMethodOf (slice_get p.ops i.op.0) c) (sym a.agree.class) (method_at p h i a.other a.there typed)

-- ---- a heap that stands for the frozen one

extends_agree : (written : _) (h g : List Object) → HeapsAgree written h g → Extends h g
extends_agree written h g a = record { keeps = λ n c t. from n c (slice_get h n) refl t }
  where
    from : (n : ℕ) (c : ClassId) (o : Option Object) → slice_get h n ≡ o → IsOfClass o c → IsOfClass (slice_get g n) c
    from n c None e t = absurd t
    from n c (Some o) e t = let b : AgreesAt written o g n = a.each n o e in subst (λ z. IsOfClass z c) (sym b.there) (sym b.agree.class ∙ t)

pub good_object : (p : PlainProgram) (x : Extent) (frozen h : List Object) → StandsFor p x frozen h → (n : ℕ) (o : Object) → slice_get h n ≡ Some o → GoodObject p x frozen n o
good_object p x frozen h s n o e =
    let here : IsOfClass (slice_get h n) o.class = subst (λ z. IsOfClass z o.class) (sym e) refl in
    let slots : ObjectTyped h (slice_get p.classes o.class.0) o.slots = subst (λ z. ObjectTyped h (slice_get p.classes o.class.0) (slots_in z)) e (object_typed p h h n o.class s.heap here) in
    record {
      agrees = s.agree.each n o e;
      typed = record { class = refl; slots = object_kept h frozen (extends_agree x.written h frozen s.agree) (slice_get p.classes o.class.0) o.slots slots };
    }

-- ---- the setting

module _ (p : PlainProgram) (program : ProgramTyped p) (roots : List OpId) (x : Extent) (is : IsExtentOf p roots x) (parallel : Parallel p x) (frozen : List Object) (heap : TypedHeap p frozen) where
  pub kept_object : (a : Invocation) (o : Object) (r : Outcome) → GoodCall p x frozen a → GoodObject p x frozen a.receiver o → Leaves p frozen a o r → GoodObject p x frozen a.receiver r.object
  kept_object a o r good ob leaves =
      let of_class : IsMethodOf (slice_get p.ops a.op.0) o.class = method_of p x.written frozen a o ob.agrees good.typed in
      let b : Bounded p program roots x is frozen o r = bounded p program roots x is frozen a good.inside (parallel.separable a.op good.inside) o of_class r leaves in
      let t = typed_leaves p program roots x is frozen heap a good.typed o.class of_class o ob.typed r leaves in
      let ag : Agree x.written o ob.agrees.other = ob.agrees.agree in
      record {
        agrees = record { other = ob.agrees.other; there = ob.agrees.there; agree = record { class = b.class ∙ ag.class; constants = λ f e n. b.constants f (e ∙ b.class) n ∙ ag.constants f (e ∙ b.class) n } };
        typed = subst (λ c. IsTypedObject p frozen c r.object) (sym b.class) t.0;
      }

  pub good_listed : (a : Invocation) (o : Object) (r : Outcome) → GoodCall p x frozen a → GoodObject p x frozen a.receiver o → Leaves p frozen a o r → (i : Invocation) → Split i r.listed → GoodCall p x frozen i
  good_listed a o r good ob leaves i split =
      let of_class : IsMethodOf (slice_get p.ops a.op.0) o.class = method_of p x.written frozen a o ob.agrees good.typed in
      let b : Bounded p program roots x is frozen o r = bounded p program roots x is frozen a good.inside (parallel.separable a.op good.inside) o of_class r leaves in
      let t = typed_leaves p program roots x is frozen heap a good.typed o.class of_class o ob.typed r leaves in
      record { inside = b.inside i (taken i r.listed split); typed = well_typed_at p frozen r.listed t.1 i (taken i r.listed split) }

  pub swapped : (a b : Invocation) (o : Object) (r q : Outcome) → GoodCall p x frozen a → GoodCall p x frozen b → a.receiver ≡ b.receiver → GoodObject p x frozen a.receiver o → Leaves p frozen a o r → Leaves p frozen b r.object q → Swapped p frozen a b o r q
  swapped a b o r q ga gb e good sa sb =
      let typed_b : WellTyped p frozen (invocation a.receiver b.op b.arguments) = subst (λ n. WellTyped p frozen (invocation n b.op b.arguments)) (sym e) gb.typed in
      let class_a : IsMethodOf (slice_get p.ops a.op.0) o.class = method_of p x.written frozen a o good.agrees ga.typed in
      let class_b : IsMethodOf (slice_get p.ops b.op.0) o.class = method_of p x.written frozen b o (subst (λ n. AgreesAt x.written o frozen n) e good.agrees) gb.typed in
      let c : CommutesOn p frozen a.receiver o a.op a.arguments b.op b.arguments =
      parallel.commute a.op b.op ga.inside gb.inside o.class class_a class_b frozen heap a.receiver a.arguments b.arguments ga.typed typed_b o good.typed good.agrees in
      let sb2 : Completes p frozen a.receiver r.object b.op b.arguments q = subst (λ n. Completes p frozen n r.object b.op b.arguments q) (sym e) sb in
      let first : OrderCompletes p frozen a.receiver o a.op a.arguments b.op b.arguments (joined r q) = (r, q, sa, sb2, refl) in
      let back : IsComplete p frozen a.receiver o b.op b.arguments a.op a.arguments = c.complete.0 (joined r q, first) in
      let m : Outcome = back.1.0 in
      let n : Outcome = back.1.1 in
      let s : SameOutcome (joined r q) back.0 = c.same (joined r q) back.0 first back.1 in
      let t : SameOutcome (joined r q) (joined m n) = subst (λ z. SameOutcome (joined r q) z) back.1.4 s in
      record {
        first = m;
        second = n;
        begins = subst (λ k. Completes p frozen k o b.op b.arguments m) e back.1.2;
        follows = back.1.3;
        object = sym t.object;
        listed = t.listed;
        steps = t.steps;
      }

  abbrev pub setting : Setting p frozen (GoodCall p x frozen) (GoodObject p x frozen)
  setting = record {
    decide = decide_call;
    size = length frozen;
    single = λ a o r q sa sb. leaves_one p frozen a o r q sa sb;
    object = kept_object;
    listed = good_listed;
    commutes = swapped;
  }

  pub fine : (h : List Object) → StandsFor p x frozen h → (ps : List Invocation) → AllWellTyped p frozen ps → AllInside x ps → Fine setting h ps
  fine h stands ps typed inside = record {
    size = stands.agree.as_many;
    objects = λ n o e. good_object p x frozen h stands n o e;
    ops = λ i s. record { inside = inside i (taken i ps s); typed = well_typed_at p frozen ps typed i (taken i ps s) };
  }
