-- A heap of good objects stands for the frozen one, and so does the heap that a run leaves.
use Rattle.std.proofs.Common.{◌≡◌, ℕ, suc, List, [], ◌∷◌, length, Option, Some, None, refl, ap, sym, subst, ◌∙◌, arith}
use Rattle.std.specs.Prelude.{slice_get}
use Rattle.ca_lists.proofs.Members.{has_only}
use Rattle.ca_program.specs.declared.program.ClassId.{ClassId}
use Rattle.ca_program.specs.Plain.{PlainProgram}
use Rattle.ca_model.specs.declared.value.Object.{Object}
use Rattle.ca_model.specs.Typed.{IsOfClass, ObjectTyped, EachTyped}
use Rattle.ca_meaning.specs.Expressions.{Invocation}
use Rattle.ca_meaning.specs.WellTyped.{WellTyped, AllWellTyped}
use Rattle.ca_meaning.specs.Multisets.{SameItems}
use Rattle.ca_meaning_laws.specs.Typed.{Extends}
use Rattle.ca_meaning_laws.proofs.Heaps.{each_kept}
use Rattle.ca_parallel.specs.Extents.{Extent}
use Rattle.ca_order_laws.specs.Order.{StandsFor}
use Rattle.ca_order_laws.proofs.Places.{one_some}
use Rattle.ca_order_laws.proofs.Frozen.{there_too}
use Rattle.ca_order_laws.proofs.Diamond.{Setting, Fine}
use Rattle.ca_order_laws.proofs.Setting.{GoodCall, GoodObject, setting, fine}
use Rattle.std.proofs.Common.{Contains, ◌⊎◌, inl, inr}
use Rattle.std.proofs.lemmas.List.Elements.{Contains-push, Contains-append_left, Contains-append_right, Contains-append_cases}
use Rattle.ca_order_laws.specs.Order.{RunsStay}
use Rattle.ca_order_laws.proofs.DepthFirst.{fine_end}
use Rattle.ca_order_laws.proofs.Weights.{Split}

each_from : (p : PlainProgram) (g os : List Object) → ((n : ℕ) (o : Object) → slice_get os n ≡ Some o → ObjectTyped g (slice_get p.classes o.class.0) o.slots) → EachTyped p g os
each_from p g [] f = tt
each_from p g (o ∷ os) f = (f 0 o refl, each_from p g os (λ n q e. f (suc n) q e))

module _ (p : PlainProgram) (x : Extent) (frozen h : List Object) (size : length h ≡ length frozen) (objects : (n : ℕ) (o : Object) → slice_get h n ≡ Some o → GoodObject p x frozen n o) where
  pub extends_frozen : Extends frozen h
  extends_frozen = record { keeps = λ n c t. from n c (slice_get frozen n) refl t }
    where
      from : (n : ℕ) (c : ClassId) (q : Option Object) → slice_get frozen n ≡ q → IsOfClass q c → IsOfClass (slice_get h n) c
      from n c None e t = absurd t
      from n c (Some q) e t =
          let o = there_too h frozen size n q e in
          let g : GoodObject p x frozen n o.0 = objects n o.0 o.1 in
          let same : g.agrees.other ≡ q = one_some _ g.agrees.other q g.agrees.there e in
          subst (λ z. IsOfClass z c) (sym o.1) (g.agrees.agree.class ∙ ap (λ (z : Object). z.class) same ∙ t)

  pub stands_good : StandsFor p x frozen h
  stands_good = record {
    heap = each_kept p frozen h extends_frozen h (each_from p frozen h (λ n o e. let g : GoodObject p x frozen n o = objects n o e in g.typed.slots));
    agree = record { as_many = size; each = λ n o e. let g : GoodObject p x frozen n o = objects n o e in g.agrees };
  }

-- ---- what a run leaves

-- an item of a list can be taken out of it
split_at : (is : List Invocation) (i : Invocation) → Contains is i → Split i is
split_at [] i c = absurd (let below = c.1 in omega arith)
split_at (j ∷ is) i c = from (Contains-append_cases (j ∷ []) is i c) (λ a. split_at is i a)
  where
    from : Contains (j ∷ []) i ⊎ Contains is i → (Contains is i → Split i is) → Split i (j ∷ is)
    from (inl a) f = record { others = is; same = subst (λ z. SameItems (z ∷ is) (i ∷ is)) (sym (has_only j i a)) (record { weighed = λ g. refl }) }
    from (inr a) f = let s : Split i is = f a in record { others = j ∷ s.others; same = record { weighed = λ g. let e = s.same.weighed g in omega arith } }

all_typed : (p : PlainProgram) (h : List Object) (is : List Invocation) → ((i : Invocation) → Contains is i → WellTyped p h i) → AllWellTyped p h is
all_typed p h [] f = tt
all_typed p h (i ∷ is) f = (f i (Contains-append_left (i ∷ []) is i (Contains-push [] i)), all_typed p h is (λ j c. f j (Contains-append_right (i ∷ []) is j c)))

pub runs_stay : RunsStay
runs_stay p program roots x is parallel frozen h heap stands ops typed inside mid rest order s run =
    let z : Setting p frozen (GoodCall p x frozen) (GoodObject p x frozen) = setting p program roots x is parallel frozen heap in
    let f : Fine z h ops = fine p program roots x is parallel frozen heap h stands ops typed inside in
    let g : Fine z mid rest = fine_end z run f in
    (stands_good p x frozen mid g.size g.objects, all_typed p frozen rest (λ i c. let a : GoodCall p x frozen i = g.ops i (split_at rest i c) in a.typed), λ i c. let a : GoodCall p x frozen i = g.ops i (split_at rest i c) in a.inside)
