-- What a task does to a replica.
use Rattle.std.proofs.Common.{◌≡◌, ◌+◌, ℕ, suc, List, [], ◌∷◌, ◌++◌, Some, map, refl, ap, sym, subst, ◌∙◌, arith}
use Rattle.std.specs.Prelude.{slice_get, slice_set, Contains, All}
use Rattle.std.proofs.lemmas.List.Elements.{All-cons, Contains-append_right}
use Rattle.ca_program.specs.Plain.{PlainProgram}
use Rattle.ca_model.specs.declared.value.Object.{Object}
use Rattle.ca_model.specs.declared.value.Trap.{Trap}
use Rattle.ca_meaning.specs.Expressions.{Invocation}
use Rattle.ca_meaning.specs.Sections.{Outcome, Sectioned as Section, section, done, stopped, over}
use Rattle.ca_meaning.specs.WellTyped.{AllWellTyped}
use Rattle.ca_parallel.specs.Extents.{Extent}
use Rattle.ca_parallel.specs.declared.op.Op.{Op}
use Rattle.ca_parallel.specs.Calls.{invocation_of, invocations_of}
use Rattle.ca_order_laws.specs.Order.{StandsFor}
use Rattle.ca_order_laws.proofs.Setting.{GoodObject}
use Rattle.ca_logs.specs.declared.log.Task.{Task}
use Rattle.ca_logs.specs.declared.log.Entry.{Entry}
use Rattle.ca_logs.specs.declared.log.Stop.{Stop}
use Rattle.ca_logs.specs.declared.log.Stop.TheVariants as stop
use Rattle.ca_logs.specs.Entries.{task_after, call_of}
use Rattle.ca_logs.specs.Legal.{outcome_of}
use Rattle.ca_deques.specs.Settings.{Setting, Fits, AllFit}
use Rattle.ca_sections.specs.Answers.{SectionIs}
use Rattle.ca_sections.specs.declared.operations.SectionAnswer.{SectionAnswer}
use Rattle.ca_sections.specs.declared.operations.SectionAnswer.TheVariants.{Done, Trapped, Spent}
use Rattle.ca_beside.specs.declared.beside.Changed.{Changed}
use Rattle.ca_beside.specs.Beside.{AreDistinct, Sectioned}
use Rattle.ca_sum_laws.specs.Replicas.{Replicates, one_more}
use Rattle.ca_sum_laws.proofs.Entering.{GoodHeap, good_heap, frozen_stands}
use Rattle.ca_sum_laws.proofs.Running.{class_there, lists_good}
use Rattle.ca_replica.specs.Zeroed.{zeroed_heap}
use Rattle.ca_replica.specs.Applied.{IsRound, Adds, Applied, sums}
use Rattle.ca_sum_pool.specs.Rounded.{IsStop}
use Rattle.ca_sum_pool.specs.Parts.{setting_of, ran_entry, RanOne, StoppedOne}

-- ---- a section that is done

record Ended (p : PlainProgram) (frozen h : List Object) (op : Op) (left : ℕ) (after : List Object) (rest : List Op) (steps : ℕ) : Type 0 where
  before : Object
  outcome : Outcome
  found : slice_get h op.receiver ≡ Some before
  section : section p frozen op.receiver before op.op op.args left ≡ done outcome
  heap : after ≡ slice_set h op.receiver outcome.object
  listed : invocations_of rest ≡ outcome.listed
  steps_are : steps ≡ outcome.steps

ended : (p : PlainProgram) (frozen h : List Object) (op : Op) (left : ℕ) (after : List Object) (waiting rest : List Op) (a : SectionAnswer) (steps : ℕ) → a ≡ Done steps → waiting ≡ [] → Sectioned p frozen h op left waiting after rest a → Ended p frozen h op left after rest steps
ended p frozen h op left after waiting rest a steps is none x = from (section p frozen op.receiver x.before op.op op.args left) refl (subst (λ a. SectionIs a (section p frozen op.receiver x.before op.op op.args left) x.before x.left_object waiting rest) is x.is)
  where
    from : (z : Section) → section p frozen op.receiver x.before op.op op.args left ≡ z → SectionIs (Done steps) z x.before x.left_object waiting rest → Ended p frozen h op left after rest steps
    from (done m) e q = record { before = x.before; outcome = m; found = x.found; section = e; heap = x.heap ∙ ap (slice_set h op.receiver) q.1; listed = q.2 ∙ ap (λ (l : List Op). invocations_of l ++ m.listed) none; steps_are = q.0 }
    from (stopped t) e q = absurd q
    from over e q = absurd q

fits_from : (s : Setting) (clock : ℕ) (os : List Op) → AllWellTyped s.program s.frozen (invocations_of os) → ((i : Invocation) → Contains (invocations_of os) i → Contains s.ops i.op) → AllFit s (map (task_after clock) os)
fits_from s clock [] t c = λ k d lt. absurd (omega (arith, lt))
fits_from s clock (o ∷ os) t c =
    All-cons (Fits s) (task_after clock o) (map (task_after clock) os) (record { typed = t.0; inside = c (invocation_of o) (0, omega arith, refl) })
    (fits_from s clock os t.1 (λ i e. c i (Contains-append_right (invocation_of o ∷ []) (invocations_of os) i e)))

module _ (p : PlainProgram) (x : Extent) (frozen : List Object) (round : IsRound p x frozen) (task : Task) (left : ℕ) (before after : List Changed) (out rest : List Op) (a : SectionAnswer)
    (stands : StandsFor p x frozen (sums x.written frozen before)) (fits : Fits (setting_of p x frozen) task) (once : AreDistinct after) (applied : Applied p x frozen (sums x.written frozen before) task.op left out (sums x.written frozen after) rest a) where
  pub ran_one : (steps : ℕ) → a ≡ Done steps → out ≡ [] → Sectioned p frozen (sums x.written frozen before) task.op left out (sums x.written frozen after) rest a → RanOne p x frozen task before after rest steps
  ran_one steps is none sectioned = let listed = lists_good p round.program round.roots x round.is round.parallel round.summed frozen round.heap old good (call_of task) (record { inside = fits.inside; typed = fits.typed }) ran.before ran.found ran.outcome (left, ran.section) in record {
    once = once;
    further = λ entries leads. subst (Replicates p x frozen (zeroed_heap x.written frozen) (entries ++ the_entry ∷ [])) (sym ran.heap)
        (one_more entries old the_entry ran.before ran.outcome.object leads (record { typed = fits.typed; inside = fits.inside }) refl refl ran.found (left, ran.section ∙ ap done same));
    fits = fits_from (setting_of p x frozen) (suc task.after) rest (subst (AllWellTyped p frozen) (sym ran.listed) listed.0) (subst (λ (is : List Invocation). (i : Invocation) → Contains is i → Contains x.ops i.op) (sym ran.listed) listed.1);
    stands = applied.stands;
  }
    where
      old : List Object
      old = sums x.written frozen before

      ran : Ended p frozen old task.op left (sums x.written frozen after) rest steps
      ran = ended p frozen old task.op left (sums x.written frozen after) out rest a steps is none sectioned

      the_entry : Entry
      the_entry = ran_entry task rest steps

      good : GoodHeap p round.program round.roots x round.is round.parallel round.summed frozen round.heap old
      good = good_heap p round.program round.roots x round.is round.parallel round.summed frozen round.heap old stands

      made : Object → List Invocation → ℕ → Outcome
      made o l k = record { object = o; listed = l; steps = k }

      outcome_is : (m n : Outcome) → m.object ≡ n.object → m.listed ≡ n.listed → m.steps ≡ n.steps → m ≡ n
      outcome_is m n a b c = ap (λ o. made o m.listed m.steps) a ∙ ap (λ l. made n.object l m.steps) b ∙ ap (λ k. made n.object n.listed k) c

      same : ran.outcome ≡ outcome_of the_entry ran.outcome.object
      same = outcome_is ran.outcome (outcome_of the_entry ran.outcome.object) refl (sym ran.listed) (sym ran.steps_are)

  -- ---- a section that stopped

  trapped_so : (trap : Trap) (z : Section) (q : Object) → Adds (Trapped trap) z (sums x.written frozen before) (sums x.written frozen after) task.op.receiver q out rest → IsStop z (stop.Trapped trap) × (sums x.written frozen after ≡ sums x.written frozen before)
  trapped_so trap (stopped u) q d = (ap stop.Trapped d.0, d.1)
  trapped_so trap (done m) q d = absurd d
  trapped_so trap over q d = absurd d

  spent_so : (z : Section) (q : Object) → Adds Spent z (sums x.written frozen before) (sums x.written frozen after) task.op.receiver q out rest → IsStop z stop.Spent × (sums x.written frozen after ≡ sums x.written frozen before)
  spent_so over q d = (refl, d.0)
  spent_so (done m) q d = absurd d
  spent_so (stopped u) q d = absurd d

  stopped_one : (why : Stop) → ((z : Section) (q : Object) → Adds a z (sums x.written frozen before) (sums x.written frozen after) task.op.receiver q out rest → IsStop z why × (sums x.written frozen after ≡ sums x.written frozen before)) → StoppedOne p x frozen left task before after (record { task = task; why = why })
  stopped_one why so =
      let q = class_there p frozen (call_of task) fits.typed in
      let f : GoodHeap p round.program round.roots x round.is round.parallel round.summed frozen round.heap frozen = frozen_stands p round.program round.roots x round.is round.parallel round.summed frozen round.heap in
      let g : GoodObject p x frozen task.op.receiver q.0 = f.objects task.op.receiver q.0 q.1 in
      let z = so (section p frozen task.op.receiver q.0 task.op.op task.op.args left) q.0 (applied.on_each q.0 g.typed g.agrees) in
      record { once = once; same = z.1; task_is = refl; stops = record { may = record { typed = fits.typed; inside = fits.inside }; object = q.0; there = q.1; section = z.0 } }

  pub trapped_one : (trap : Trap) → a ≡ Trapped trap → StoppedOne p x frozen left task before after (record { task = task; why = stop.Trapped trap })
  trapped_one trap is = stopped_one (stop.Trapped trap) (λ z q d. trapped_so trap z q (subst (λ (b : SectionAnswer). Adds b z (sums x.written frozen before) (sums x.written frozen after) task.op.receiver q out rest) is d))

  pub spent_one : a ≡ Spent → StoppedOne p x frozen left task before after (record { task = task; why = stop.Spent })
  spent_one is = stopped_one stop.Spent (λ z q d. spent_so z q (subst (λ (b : SectionAnswer). Adds b z (sums x.written frozen before) (sums x.written frozen after) task.op.receiver q out rest) is d))
