-- What an entry of a summed extent changes: the same on every object, as on the frozen one.
use Rattle.std.proofs.Common.{◌≡◌, ℕ, ◌+◌, List, [], ◌∷◌, ◌++◌, length, Option, Some, None, refl, ap, sym, subst, ◌∙◌, arith, ℤ, pos, ◌+ℤ◌, ◌-ℤ◌, Bool, true, false, cond, nat_eq, eq-eqb, ne_eqb, length-set}
use Rattle.std.specs.Prelude.{slice_get, slice_set, Contains}
use Rattle.std.proofs.lemmas.Int.{ints}
use Rattle.ca_lists.proofs.Places.{get_set_here, same_by_places}
use Rattle.ca_program.specs.declared.program.OpId.{OpId}
use Rattle.ca_program.specs.declared.program.ClassId.{ClassId}
use Rattle.ca_program.specs.Plain.{PlainProgram}
use Rattle.ca_model.specs.declared.value.Value.TheVariants.{Long, Bool as Truth, Null, Ref}
use Rattle.ca_model.specs.declared.value.Slot.{Slot}
use Rattle.ca_model.specs.declared.value.Slot.TheVariants.{One, Many}
use Rattle.ca_model.specs.declared.value.Object.{Object}
use Rattle.ca_model.specs.Typed.{TypedHeap}
use Rattle.ca_meaning.specs.Expressions.{Invocation, slots_in}
use Rattle.ca_meaning.specs.Sections.{Outcome, Sectioned, done, stopped, over, section, Completes}
use Rattle.ca_meaning.specs.WellTyped.{IsMethodOf, IsTypedObject}
use Rattle.ca_meaning.specs.Agree.{Agree}
use Rattle.ca_meaning.specs.ProgramTyped.{ProgramTyped}
use Rattle.ca_parallel.specs.Extents.{Extent, IsExtentOf}
use Rattle.ca_parallel.specs.Parallel.{Parallel}
use Rattle.ca_order_laws.specs.Order.{StandsFor}
use Rattle.ca_order_laws.proofs.Decided.{decide_nat}
use Rattle.ca_order_laws.proofs.Weights.{Decides, equal, other}
use Rattle.ca_order_laws.proofs.Places.{get_else, one_some}
use Rattle.ca_order_laws.proofs.Sections.{leaves_by, at_all}
use Rattle.ca_order_laws.proofs.Setting.{GoodCall, GoodObject, good_object, kept_object, method_of}
use Rattle.ca_logs.specs.declared.log.Entry.{Entry}
use Rattle.ca_logs.specs.Entries.{call_of}
use Rattle.ca_logs.specs.Legal.{outcome_of}
use Rattle.ca_logs.specs.LogOrder.{put_in, ordered, comes_before}
use Rattle.ca_sum_laws.specs.Summed.{Summed}
use Rattle.ca_sum_laws.specs.Moves.{plus, Moved, MovesAlike, EndsAlike, both_done, both_stopped, both_over}
use Rattle.ca_sum_laws.specs.Replicas.{MayRun}
use Rattle.ca_sum_laws.proofs.Alike.{move_alike}
use Rattle.ca_sum_laws.proofs.Slots.{object_fits}
use Rattle.ca_sum_laws.proofs.Heaps.{moved_slots, moved_heap, moved_is, moved_option, moved_at, Still, still_option, moved_back, SameKind, objects_kinds}

-- ---- what an entry changes

abbrev number_in : Option Slot → ℤ
number_in (Some (One (Long n))) = n
number_in s = pos 0

abbrev left_slots : Sectioned → List Slot
left_slots (done m) = m.object.slots
left_slots (stopped t) = []
left_slots over = []

abbrev run_on : PlainProgram → List Object → Entry → Option Object → List Slot
run_on p frozen e None = []
run_on p frozen e (Some q) = left_slots (section p frozen e.task.op.receiver q e.task.op.op e.task.op.args e.steps)

-- the difference of a number of the receiver, in the section on the frozen object
abbrev pub change : PlainProgram → List Object → Entry → ℕ → ℤ
change p frozen e f =
    number_in (slice_get (run_on p frozen e (slice_get frozen e.task.op.receiver)) f) -ℤ number_in (slice_get (slots_in (slice_get frozen e.task.op.receiver)) f)

-- of object n
abbrev pub change_at : PlainProgram → List Object → Entry → ℕ → ℕ → ℤ
change_at p frozen e n f = cond (nat_eq e.task.op.receiver n) (change p frozen e f) (pos 0)

abbrev pub total : PlainProgram → List Object → List Entry → ℕ → ℕ → ℤ
total p frozen [] n f = pos 0
total p frozen (e ∷ es) n f = change_at p frozen e n f +ℤ total p frozen es n f

pub total_append : (p : PlainProgram) (frozen : List Object) (es gs : List Entry) (n f : ℕ) → total p frozen (es ++ gs) n f ≡ total p frozen es n f +ℤ total p frozen gs n f
total_append p frozen [] gs n f = let z : total p frozen gs n f ≡ pos 0 +ℤ total p frozen gs n f = omega (arith, ints) in z
total_append p frozen (e ∷ es) gs n f =
    let a : ℤ = change_at p frozen e n f in let b : ℤ = total p frozen es n f in let c : ℤ = total p frozen gs n f in
    let z : a +ℤ (b +ℤ c) ≡ (a +ℤ b) +ℤ c = omega (arith, ints) in
    ap (λ t. a +ℤ t) (total_append p frozen es gs n f) ∙ z

total_put : (p : PlainProgram) (frozen : List Object) (e : Entry) (es : List Entry) (n f : ℕ) → total p frozen (put_in e es) n f ≡ change_at p frozen e n f +ℤ total p frozen es n f
total_put p frozen e [] n f = refl
total_put p frozen e (x ∷ xs) n f = from (comes_before x e) (total_put p frozen e xs n f)
  where
    from : (b : Bool) → total p frozen (put_in e xs) n f ≡ change_at p frozen e n f +ℤ total p frozen xs n f → total p frozen (cond b (x ∷ put_in e xs) (e ∷ x ∷ xs)) n f ≡ change_at p frozen e n f +ℤ (change_at p frozen x n f +ℤ total p frozen xs n f)
    from true i =
        let a : ℤ = change_at p frozen e n f in let b : ℤ = change_at p frozen x n f in let c : ℤ = total p frozen xs n f in
        let z : b +ℤ (a +ℤ c) ≡ a +ℤ (b +ℤ c) = omega (arith, ints) in
        ap (λ t. b +ℤ t) i ∙ z
    from false i = refl

pub total_ordered : (p : PlainProgram) (frozen : List Object) (es : List Entry) (n f : ℕ) → total p frozen (ordered es) n f ≡ total p frozen es n f
total_ordered p frozen [] n f = refl
total_ordered p frozen (e ∷ es) n f = total_put p frozen e (ordered es) n f ∙ ap (λ t. change_at p frozen e n f +ℤ t) (total_ordered p frozen es n f)

module _ (p : PlainProgram) (program : ProgramTyped p) (roots : List OpId) (x : Extent) (is : IsExtentOf p roots x) (parallel : Parallel p x) (summed : (op : OpId) → Contains x.ops op → Summed p x.written op) (frozen : List Object) (heap : TypedHeap p frozen) where
  -- on this object the section of the entry is complete, and leaves it with what the entry changes
  pub record MovesOn (e : Entry) (o : Object) : Type 0 where
    pub after : Object
    pub section : Completes p frozen e.task.op.receiver o e.task.op.op e.task.op.args (outcome_of e after)
    pub class : after.class ≡ o.class
    pub moved : Moved (change p frozen e) o.slots after.slots

  -- so it is on each good object
  pub record Free (e : Entry) : Type 0 where
    pub may_run : MayRun p x frozen e.task
    pub moves : (o : Object) → GoodObject p x frozen e.task.op.receiver o → MovesOn e o

  abbrev good_call : Entry → Type 0
  good_call e = GoodCall p x frozen (call_of e.task)

  call_good : (e : Entry) → MayRun p x frozen e.task → good_call e
  call_good e m = record { inside = m.inside; typed = m.typed }

  outcome_parts : (m n : Outcome) → m.object ≡ n.object → m.listed ≡ n.listed → m.steps ≡ n.steps → m ≡ n
  outcome_parts m n a b c = ap (λ o. made o m.listed m.steps) a ∙ ap (λ l. made n.object l m.steps) b ∙ ap (λ k. made n.object n.listed k) c
    where
      made : Object → List Invocation → ℕ → Outcome
      made o l k = record { object = o; listed = l; steps = k }

  -- the other section is done too
  record DoneToo (o q : Object) (m : Outcome) (z : Sectioned) : Type 0 where
    outcome : Outcome
    ended : z ≡ done outcome
    alike : MovesAlike o q m outcome

  done_too : (o q : Object) (m : Outcome) (y z : Sectioned) → y ≡ done m → EndsAlike o q y z → DoneToo o q m z
  done_too o q m y z e (both_done a b alike) = let same : a ≡ m = cc in record { outcome = b; ended = refl; alike = subst (λ c. MovesAlike o q c b) same alike }
  done_too o q m y z e (both_stopped t) = absurd (let w : stopped t ≡ done m = e in none_stopped w)
    where
      none_stopped : {t : _} {m : Outcome} → stopped t ≡ done m → ⊥
      none_stopped e = cc
  done_too o q m y z e both_over = absurd (none_over e)
    where
      none_over : {m : Outcome} → over ≡ done m → ⊥
      none_over e = cc

  -- from one good object to another
  record Across (e : Entry) (o q after : Object) : Type 0 where
    left : Object
    section : Completes p frozen e.task.op.receiver q e.task.op.op e.task.op.args (outcome_of e left)
    alike : MovesAlike o q (outcome_of e after) (outcome_of e left)

  pub agree_both : (n : ℕ) (o q : Object) → GoodObject p x frozen n o → GoodObject p x frozen n q → Agree x.written o q
  agree_both n o q a b =
      let same : a.agrees.other ≡ b.agrees.other = one_some _ a.agrees.other b.agrees.other a.agrees.there b.agrees.there in
      let class : o.class ≡ q.class = a.agrees.agree.class ∙ ap (λ (z : Object). z.class) same ∙ sym b.agrees.agree.class in
      record {
        class = class;
        constants = λ f e w. a.agrees.agree.constants f e w ∙ ap (λ (z : Object). slice_get z.slots f.field) same ∙ sym (b.agrees.agree.constants f (e ∙ class) w);
      }

  across : (e : Entry) → MayRun p x frozen e.task → (o q after : Object) → GoodObject p x frozen e.task.op.receiver o → GoodObject p x frozen e.task.op.receiver q →
      Completes p frozen e.task.op.receiver o e.task.op.op e.task.op.args (outcome_of e after) → Across e o q after
  across e may o q after go gq c =
      let i : Invocation = call_of e.task in
      let agree : Agree x.written o q = agree_both e.task.op.receiver o q go gq in
      let of_class : IsMethodOf (slice_get p.ops i.op.0) o.class = method_of p x.written frozen i o go.agrees may.typed in
      let tq : IsTypedObject p frozen o.class q = subst (λ c. IsTypedObject p frozen c q) (sym agree.class) gq.typed in
      let ends : EndsAlike o q (section p frozen i.receiver o i.op i.arguments c.0) (section p frozen i.receiver q i.op i.arguments c.0) =
      move_alike p program x frozen heap i (summed i.op may.inside) may.typed o.class of_class o q go.typed tq agree c.0 in
      let d : DoneToo o q (outcome_of e after) (section p frozen i.receiver q i.op i.arguments c.0) = done_too o q (outcome_of e after) _ _ c.1 ends in
      let same : d.outcome ≡ outcome_of e d.outcome.object = outcome_parts d.outcome (outcome_of e d.outcome.object) refl (sym d.alike.listed) (sym d.alike.steps) in
      record {
        left = d.outcome.object;
        section = (c.0, d.ended ∙ ap done same);
        alike = subst (λ n. MovesAlike o q (outcome_of e after) n) same d.alike;
      }

  -- the differences that the frozen object shows
  shown : (s a : Option Slot) (d : ℤ) → SameKind s a → plus s (number_in (plus a d) -ℤ number_in a) ≡ plus s d
  shown None a d k = refl
  shown (Some (One (Long n))) a d k =
      let m = k.number n refl in
      subst (λ z. plus (Some (One (Long n))) (number_in (plus z d) -ℤ number_in z) ≡ plus (Some (One (Long n))) d) (sym m.1) (ap (λ z. Some (One (Long z))) (moved_back n m.0 d))
  shown (Some (One (Truth b))) a d k = refl
  shown (Some (One Null)) a d k = refl
  shown (Some (One (Ref b))) a d k = refl
  shown (Some (Many b)) a d k = refl

  -- the frozen object of a good one
  frozen_good : (n : ℕ) (o : Object) → GoodObject p x frozen n o → (q : Object) × (slice_get frozen n ≡ Some q) × GoodObject p x frozen n q
  frozen_good n o g =
      (g.agrees.other, g.agrees.there, good_object p x frozen frozen (record { heap = heap; agree = record { as_many = refl; each = λ n o e. record { other = o; there = e; agree = record { class = refl; constants = λ f c w. refl } } } }) n g.agrees.other g.agrees.there)

  -- on the frozen object it leaves what is computed from it
  computed : (e : Entry) (q left : Object) → slice_get frozen e.task.op.receiver ≡ Some q → Completes p frozen e.task.op.receiver q e.task.op.op e.task.op.args (outcome_of e left) → (f : ℕ) →
      change p frozen e f ≡ number_in (slice_get left.slots f) -ℤ number_in (slice_get q.slots f)
  computed e q left found c f =
      let k : e.steps + 0 ≡ e.steps = omega arith in
      let ends : section p frozen e.task.op.receiver q e.task.op.op e.task.op.args e.steps ≡ done (outcome_of e left) =
      ap (λ n. section p frozen e.task.op.receiver q e.task.op.op e.task.op.args n) (sym k) ∙ at_all p frozen (call_of e.task) q (outcome_of e left) (leaves_by p frozen (call_of e.task) q (outcome_of e left) c) 0 in
      ap (λ z. number_in (slice_get (run_on p frozen e z) f) -ℤ number_in (slice_get (slots_in z) f)) found
      ∙ ap (λ z. number_in (slice_get (left_slots z) f) -ℤ number_in (slice_get q.slots f)) ends

  pub free_of : (e : Entry) → MayRun p x frozen e.task → (o after : Object) → GoodObject p x frozen e.task.op.receiver o → Completes p frozen e.task.op.receiver o e.task.op.op e.task.op.args (outcome_of e after) → Free e
  free_of e may o after good c = record { may_run = may; moves = on }
    where
      q : (q : Object) × (slice_get frozen e.task.op.receiver ≡ Some q) × GoodObject p x frozen e.task.op.receiver q
      q = frozen_good e.task.op.receiver o good

      first : Across e o q.0 after
      first = across e may o q.0 after good q.2 c

      on : (r : Object) → GoodObject p x frozen e.task.op.receiver r → MovesOn e r
      on r gr =
          let then : Across e q.0 r first.left = across e may q.0 r first.left q.2 gr first.section in
          let a : MovesAlike q.0 r (outcome_of e first.left) (outcome_of e then.left) = then.alike in
          let agree : Agree x.written r q.0 = agree_both e.task.op.receiver r q.0 gr q.2 in
          let tq : IsTypedObject p frozen r.class q.0 = subst (λ c. IsTypedObject p frozen c q.0) (sym agree.class) (let g : GoodObject p x frozen e.task.op.receiver q.0 = q.2 in g.typed) in
          record {
            after = then.left;
            section = then.section;
            class = a.second_class;
            moved = record {
              at = λ f.
                  a.second.at f ∙ sym (shown (slice_get r.slots f) (slice_get (slots_of q.0) f) (a.differences f) (objects_kinds frozen (slice_get p.classes r.class.0) r.slots (slots_of q.0) gr.typed.slots tq.slots f))
                  ∙ ap (λ z. plus (slice_get r.slots f) z) (ap (λ z. number_in z -ℤ number_in (slice_get (slots_of q.0) f)) (sym (a.first.at f)) ∙ sym (computed e q.0 first.left q.1 first.section f));
            };
          }
        where
          slots_of : Object → List Slot
          slots_of o = o.slots

  -- ---- heaps of good objects

  pub record GoodHeap (h : List Object) : Type 0 where
    pub as_many : length h ≡ length frozen
    pub objects : (n : ℕ) (o : Object) → slice_get h n ≡ Some o → GoodObject p x frozen n o

  pub good_heap : (h : List Object) → StandsFor p x frozen h → GoodHeap h
  good_heap h s = record { as_many = s.agree.as_many; objects = λ n o e. good_object p x frozen h s n o e }

  pub frozen_stands : GoodHeap frozen
  frozen_stands = good_heap frozen (record { heap = heap; agree = record { as_many = refl; each = λ n o e. record { other = o; there = e; agree = record { class = refl; constants = λ f c w. refl } } } })

  pub still_at : (h : List Object) → GoodHeap h → (n : ℕ) → Still (slice_get h n)
  still_at h g n = from (slice_get h n) refl
    where
      from : (o : Option Object) → slice_get h n ≡ o → Still o
      from None e = tt
      from (Some o) e = let a : GoodObject p x frozen n o = g.objects n o e in object_fits frozen (slice_get p.classes o.class.0) o.slots a.typed.slots

  -- a heap in which an entry ran
  pub entered : (h : List Object) → GoodHeap h → (e : Entry) (o after : Object) → slice_get h e.task.op.receiver ≡ Some o → after.class ≡ o.class → Moved (change p frozen e) o.slots after.slots → slice_set h e.task.op.receiver after ≡ moved_heap (change_at p frozen e) h
  entered h g e o after found class m = same_by_places _ _ (λ k. from k (decide_nat e.task.op.receiver k) ∙ sym (moved_at (change_at p frozen e) h k))
    where
      n : ℕ
      n = e.task.op.receiver

      here : (f : ℕ) → change_at p frozen e n f ≡ change p frozen e f
      here f = ap (λ b. cond b (change p frozen e f) (pos 0)) (eq-eqb n n refl)

      made : ClassId → List Slot → Option Object
      made c ss = Some record { class = c; slots = ss }

      from : (k : ℕ) → Decides n k → slice_get (slice_set h n after) k ≡ moved_option (change_at p frozen e k) (slice_get h k)
      from k (equal same) = subst (λ k. slice_get (slice_set h n after) k ≡ moved_option (change_at p frozen e k) (slice_get h k)) same
          (get_set_here h n o after found ∙ sym (ap (λ z. moved_option (change_at p frozen e n) z) found
          ∙ ap (λ c. made c (moved_slots (change_at p frozen e n) o.slots)) (sym class)
          ∙ ap (λ ss. made after.class ss) (sym (moved_is (change_at p frozen e n) o.slots after.slots record { at = λ f. m.at f ∙ ap (λ d. plus (slice_get o.slots f) d) (sym (here f)) }))))
      from k (other ne) = get_else h n k after ne ∙ sym (still_option (change_at p frozen e k) (slice_get h k) (still_at h g k) (λ f. ap (λ b. cond b (change p frozen e f) (pos 0)) (ne_eqb n k ne)))

  pub entered_good : (h : List Object) → GoodHeap h → (e : Entry) → MayRun p x frozen e.task → (o after : Object) → slice_get h e.task.op.receiver ≡ Some o → Completes p frozen e.task.op.receiver o e.task.op.op e.task.op.args (outcome_of e after) → GoodHeap (slice_set h e.task.op.receiver after)
  entered_good h g e may o after found c = record { as_many = length-set h e.task.op.receiver after ∙ g.as_many; objects = λ k q f. from k q (decide_nat e.task.op.receiver k) f }
    where
      n : ℕ
      n = e.task.op.receiver

      kept : GoodObject p x frozen n after
      kept = kept_object p program roots x is parallel frozen heap (call_of e.task) o (outcome_of e after) (call_good e may) (g.objects n o found) c

      from : (k : ℕ) (q : Object) → Decides n k → slice_get (slice_set h n after) k ≡ Some q → GoodObject p x frozen k q
      from k q (equal same) f =
          let z : after ≡ q = one_some _ after q (ap (λ k. slice_get (slice_set h n after) k) (sym same) ∙ get_set_here h n o after found) f in
          subst (λ q. GoodObject p x frozen k q) z (subst (λ k. GoodObject p x frozen k after) same kept)
      from k q (other ne) f = g.objects k q (sym (get_else h n k after ne) ∙ f)
