-- A section on a copy adds what it adds to each object.
use Rattle.std.proofs.Common.{◌≡◌, ◌+◌, ℕ, List, [], ◌∷◌, ◌++◌, Some, refl, ap, sym, subst, ◌∙◌, ℤ}
use Rattle.std.specs.Prelude.{slice_get, slice_set, Contains, Result, Ok, Err, IfOk}
use Rattle.ca_lists.proofs.Members.{has_only}
use Rattle.ca_lists.proofs.Places.{get_set_here}
use Rattle.ca_program.specs.Plain.{PlainProgram}
use Rattle.ca_model.specs.declared.value.Object.{Object}
use Rattle.ca_meaning.specs.Expressions.{Invocation, slots_in}
use Rattle.ca_meaning.specs.Sections.{Outcome, Sectioned, done, stopped, over, section}
use Rattle.ca_meaning.specs.WellTyped.{WellTyped, IsMethodOf, IsTypedObject}
use Rattle.ca_meaning.specs.Agree.{Agree}
use Rattle.ca_parallel.specs.declared.op.Op.{Op}
use Rattle.ca_parallel.specs.Calls.{invocation_of, invocations_of}
use Rattle.ca_parallel.specs.Extents.{Extent}
use Rattle.ca_order_laws.specs.Pending.{PendingRun, rests, runs}
use Rattle.ca_order_laws.specs.Order.{StandsFor, AllInside}
use Rattle.ca_order_laws.proofs.Places.{get_else}
use Rattle.ca_order_laws.proofs.Setting.{GoodObject, method_of}
use Rattle.ca_order_laws.proofs.Standing.{runs_stay}
use Rattle.ca_sections.specs.Answers.{SectionIs}
use Rattle.ca_sections.specs.declared.operations.SectionAnswer.{SectionAnswer}
use Rattle.ca_sections.specs.declared.operations.SectionAnswer.TheVariants.{Done, Trapped, Spent}
use Rattle.ca_beside.specs.Beside.{Sectioned as Ran}
use Rattle.ca_order_laws.proofs.CallThenList.{set_same}
use Rattle.ca_sum_laws.specs.Moves.{Moved, EndsAlike, both_done, both_stopped, both_over}
use Rattle.ca_sum_laws.proofs.Alike.{move_alike}
use Rattle.ca_sum_laws.proofs.Entering.{GoodHeap, good_heap, agree_both}
use Rattle.ca_replica.specs.Applied.{IsRound, Adds, Applied, SectionsAdd}

module _ (p : PlainProgram) (x : Extent) (frozen : List Object) (round : IsRound p x frozen) (old : List Object) (standing : StandsFor p x frozen old) where
  abbrev good : GoodHeap p round.program round.roots x round.is round.parallel round.summed frozen round.heap old
  good = good_heap p round.program round.roots x round.is round.parallel round.summed frozen round.heap old standing

  -- the sums behind a section that is done stand for the frozen heap
  stays : (i : Invocation) → Contains x.ops i.op → WellTyped p frozen i → (o : Object) → slice_get old i.receiver ≡ Some o → (k : ℕ) (m : Outcome) → section p frozen i.receiver o i.op i.arguments k ≡ done m → StandsFor p x frozen (slice_set old i.receiver m.object)
  stays i inside typed o found k m e =
      let all : AllInside x (i ∷ []) = λ j c. subst (λ (z : Invocation). Contains x.ops z.op) (has_only i j c) inside in
      let run : PendingRun p frozen (slice_set old i.receiver m.object) (m.listed ++ []) (i ∷ []) old (i ∷ []) (m.steps + 0) =
      runs i [] old (i ∷ []) [] o m 0 record { weighed = λ f. refl } found (k, e) (rests (m.listed ++ []) record { weighed = λ f. refl }) in
      let z = runs_stay p round.program round.roots x round.is round.parallel frozen old round.heap standing (i ∷ []) (typed, tt) all (slice_set old i.receiver m.object) (m.listed ++ []) (i ∷ []) (m.steps + 0) run in
      z.0

  slots_at : (h : List Object) (n : ℕ) (o : Object) → slice_get h n ≡ Some o → o.slots ≡ slots_in (slice_get h n)
  slots_at h n o e = sym (ap slots_in e)

  moved_between : (d : ℕ → ℤ) (a b c e : _) → a ≡ c → b ≡ e → Moved d a b → Moved d c e
  moved_between d a b c e same too m = subst (λ z. Moved d z e) same (subst (λ z. Moved d a z) too m)

  -- an answer on the copy, with a section that ends alike on another object
  adds : (r : ℕ) (o q left : Object) (out now : List Op) (a : SectionAnswer) (s t : Sectioned) → slice_get old r ≡ Some o → EndsAlike o q s t → SectionIs a s o left out now → Adds a t old (slice_set old r left) r q out now
  adds r o q left out now (Done steps) all other found (both_done m n alike) is = (
    is.0 ∙ alike.steps,
    is.2 ∙ ap (λ l. invocations_of out ++ l) alike.listed,
    record {
      added = alike.differences;
      sums = moved_between alike.differences o.slots m.object.slots _ _ (slots_at old r o found) (ap (λ (z : Object). z.slots) (sym is.1) ∙ slots_at (slice_set old r left) r left (get_set_here old r o left found)) alike.first;
      object = alike.second;
      others = λ n ne. get_else old r n left ne;
    },
  )
  adds r o q left out now (Done steps) all other found (both_stopped t) is = absurd is
  adds r o q left out now (Done steps) all other found both_over is = absurd is
  adds r o q left out now (Trapped u) all other found (both_done m n alike) is = absurd is
  adds r o q left out now (Trapped u) all other found (both_stopped t) is = (is.0, ap (slice_set old r) is.1 ∙ set_same old r o found, is.2)
  adds r o q left out now (Trapped u) all other found both_over is = absurd is
  adds r o q left out now Spent all other found (both_done m n alike) is = absurd is
  adds r o q left out now Spent all other found (both_stopped t) is = absurd is
  adds r o q left out now Spent all other found both_over is = (ap (slice_set old r) is.0 ∙ set_same old r o found, is.1)

  stands_after : (i : Invocation) → Contains x.ops i.op → WellTyped p frozen i → (o left : Object) (out now : List Op) (k : ℕ) → slice_get old i.receiver ≡ Some o → (a : SectionAnswer) (s : Sectioned) → section p frozen i.receiver o i.op i.arguments k ≡ s → SectionIs a s o left out now → StandsFor p x frozen (slice_set old i.receiver left)
  stands_after i inside typed o left out now k found (Done steps) (done m) e is = subst (λ z. StandsFor p x frozen (slice_set old i.receiver z)) (sym is.1) (stays i inside typed o found k m e)
  stands_after i inside typed o left out now k found (Done steps) (stopped t) e is = absurd is
  stands_after i inside typed o left out now k found (Done steps) over e is = absurd is
  stands_after i inside typed o left out now k found (Trapped t) (stopped u) e is = subst (λ z. StandsFor p x frozen z) (sym (ap (slice_set old i.receiver) is.1 ∙ set_same old i.receiver o found)) standing
  stands_after i inside typed o left out now k found (Trapped t) (done m) e is = absurd is
  stands_after i inside typed o left out now k found (Trapped t) over e is = absurd is
  stands_after i inside typed o left out now k found Spent over e is = subst (λ z. StandsFor p x frozen z) (sym (ap (slice_set old i.receiver) is.0 ∙ set_same old i.receiver o found)) standing
  stands_after i inside typed o left out now k found Spent (done m) e is = absurd is
  stands_after i inside typed o left out now k found Spent (stopped t) e is = absurd is

  pub applied : (op : Op) → Contains x.ops op.op → WellTyped p frozen (invocation_of op) → (left : ℕ) (out : List Op) (new : List Object) (now : List Op) (answer : SectionAnswer) → Ran p frozen old op left out new now answer → Applied p x frozen old op left out new now answer
  applied op inside typed left out new now answer r =
      let go : GoodObject p x frozen op.receiver r.before = good.objects op.receiver r.before r.found in
      let of_class : IsMethodOf (slice_get p.ops op.op.0) (let z : Object = r.before in z.class) = method_of p x.written frozen (invocation_of op) r.before go.agrees typed in
      record {
        stands = subst (λ z. StandsFor p x frozen z) (sym r.heap) (stands_after (invocation_of op) inside typed r.before r.left_object out now left r.found answer _ refl r.is);
        on_each = λ q tq aq.
            let gq : GoodObject p x frozen op.receiver q = record { agrees = aq; typed = tq } in
            let agree : Agree x.written r.before q = agree_both p round.program round.roots x round.is round.parallel round.summed frozen round.heap op.receiver r.before q go gq in
            subst (λ z. Adds answer (section p frozen op.receiver q op.op op.args left) old z op.receiver q out now) (sym r.heap)
            (adds op.receiver r.before q r.left_object out now answer _ _ r.found
            (move_alike p round.program x frozen round.heap (invocation_of op) (round.summed op.op inside) typed (let z : Object = r.before in z.class) of_class r.before q go.typed (subst (λ c. IsTypedObject p frozen c q) (sym agree.class) tq) agree left) r.is);
      }

pub sections_add : SectionsAdd
sections_add p x frozen round old standing op inside typed left out new now answer r = applied p x frozen round old standing op inside typed left out new now answer r

pub if_applied : {E : Type 0} (r : Result SectionAnswer E) (p : PlainProgram) (x : Extent) (frozen : List Object) (round : IsRound p x frozen) (old : List Object) (standing : StandsFor p x frozen old)
    (op : Op) → Contains x.ops op.op → WellTyped p frozen (invocation_of op) → (left : ℕ) (out : List Op) (new : List Object) (now : List Op) → IfOk r (Ran p frozen old op left out new now) → IfOk r (Applied p x frozen old op left out new now)
if_applied (Ok a) p x frozen round old standing op inside typed left out new now r = applied p x frozen round old standing op inside typed left out new now a r
if_applied (Err e) p x frozen round old standing op inside typed left out new now r = tt
