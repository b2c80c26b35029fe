-- A round from end to end: what the workers and the caller did, told of entries.
use Rattle.std.proofs.Common.{◌≡◌, ◌≢◌, ℕ, suc, ◌+◌, ◌<◌, ◌≤◌, cond, List, [], ◌∷◌, ◌++◌, All, Option, Some, None, length, map, flat_map, inl, inr, ◌⊎◌, ⊎_elim, sym, refl, ap, ◌∙◌, subst, arith, append-nil}
use Rattle.std.specs.Prelude.{Contains, filter, is_none, is_some, slice_index_or}
use Rattle.std.proofs.lemmas.List.{length-append}
use Rattle.std.proofs.lemmas.List.Elements.{All-append, All-map, All-cons, All-nil, All-head, All-tail, Contains-append_left, Contains-append_right, Contains-append_cases, Contains-push, filter-append}
use Rattle.ca_lists.proofs.Members.{has_nothing, has_only}
use Rattle.ca_program.specs.Plain.{PlainProgram}
use Rattle.ca_model.specs.declared.value.Object.{Object}
use Rattle.ca_meaning.specs.Multisets.{weight, SameItems}
use Rattle.ca_parallel.specs.Extents.{Extent}
use Rattle.ca_parallel.specs.declared.op.Op.{Op}
use Rattle.ca_order_laws.specs.Pending.{PendingRun}
use Rattle.ca_order_laws.proofs.Weights.{weight_append}
use Rattle.ca_logs.specs.declared.log.Task.{Task}
use Rattle.ca_logs.specs.declared.log.Entry.{Entry}
use Rattle.ca_logs.specs.Entries.{ran_in, stuck_in, tasks_in, listed_by, task_after, task_calls}
use Rattle.ca_logs.specs.LogOrder.{ordered}
use Rattle.ca_logs.specs.Laws.{steps_of}
use Rattle.ca_logs.proofs.Orders.{weight_ordered}
use Rattle.ca_logs.proofs.Tasks.{weight_map, weight_flat}
use Rattle.ca_deques.specs.Settings.{Setting, Fits, AllFit}
use Rattle.ca_beside.specs.declared.beside.Changed.{Changed}
use Rattle.ca_sum_laws.specs.Replicas.{MayRun, Replicates, nothing, one_more, AreBalanced}
use Rattle.ca_sum_laws.specs.Facts.{OnFrozen}
use Rattle.ca_sum_laws.proofs.Facts.{ran_on_frozen}
use Rattle.ca_replica.specs.Zeroed.{zeroed_heap}
use Rattle.ca_replica.specs.Adding.{Once, AllWhole}
use Rattle.ca_replica.specs.Applied.{IsRound, sums}
use Rattle.ca_replica.specs.Together.{Worker, all_entries, copies_of, added_one_by_one, all_added}
use Rattle.ca_replica.proofs.Beginning.{no_sums_stand}
use Rattle.ca_replica.proofs.Together.{sums_run, whole_here}
use Rattle.ca_sum_pool.specs.declared.performing.Stuck.{Stuck}
use Rattle.ca_sum_pool.specs.declared.working.Left.{Left}
use Rattle.ca_sum_pool.specs.declared.round.SummedRound.{SummedRound}
use Rattle.ca_sum_pool.specs.Rounded.{last_clock, IsSum, first_stop, copies_in, StopsThere, Rounded}
use Rattle.ca_sum_pool.specs.Parts.{setting_of, stuck_entry, tasks_of, first_why, StopsSo, Worked, Ends, Finished}
use Rattle.ca_sum_pool.proofs.Totals.{sum_is}
use Rattle.ca_sum_pool.proofs.Joins.{entries_more, entries_longer, copies_longer}
use Rattle.ca_sum_pool.proofs.Waiting.{none_waits}

-- ---- entries with a stop

abbrev stuck_entries : List Stuck → List Entry
stuck_entries ss = map stuck_entry ss

none_ran : (ss : List Stuck) → ran_in (stuck_entries ss) ≡ []
none_ran [] = refl
none_ran (s ∷ ss) = none_ran ss

all_stuck : (ss : List Stuck) → stuck_in (stuck_entries ss) ≡ stuck_entries ss
all_stuck [] = refl
all_stuck (s ∷ ss) = ap (λ l. stuck_entry s ∷ l) (all_stuck ss)

first_same : (ss : List Stuck) → first_why ss ≡ first_stop (stuck_entries ss)
first_same [] = refl
first_same (s ∷ ss) = refl

no_first : (ss : List Stuck) → first_why ss ≡ None → ss ≡ []
no_first [] e = refl
no_first (s ∷ ss) e = cc

pub no_why : (ss : List Stuck) → length ss ≡ 0 → None ≡ first_why ss
no_why [] e = refl
no_why (s ∷ ss) e = absurd (omega (arith, e))

pub why_of : (ss : List Stuck) (s : Stuck) → s ≡ slice_index_or ss 0 s → 0 < length ss → Some s.why ≡ first_why ss
why_of [] s e lt = absurd (omega (arith, lt))
why_of (t ∷ ss) s e lt = ap (λ (z : Stuck). Some z.why) e

stuck_tasks_there : (ss : List Stuck) (e : Entry) → Contains (stuck_entries ss) e → Contains (tasks_of ss) e.task
stuck_tasks_there [] e c = absurd (has_nothing e c)
stuck_tasks_there (s ∷ ss) e c = ⊎_elim
    (λ b. subst (λ (z : Entry). Contains (s.task ∷ tasks_of ss) z.task) (has_only (stuck_entry s) e b) (Contains-append_left (s.task ∷ []) (tasks_of ss) s.task (Contains-push [] s.task)))
    (λ b. Contains-append_right (s.task ∷ []) (tasks_of ss) e.task (stuck_tasks_there ss e b)) (Contains-append_cases (stuck_entry s ∷ []) (stuck_entries ss) e c)

stuck_clocks : (ss : List Stuck) (e : Entry) → Contains (stuck_entries ss) e → e.clock ≡ suc e.task.after
stuck_clocks [] e c = absurd (has_nothing e c)
stuck_clocks (s ∷ ss) e c = ⊎_elim (λ b. subst (λ (z : Entry). z.clock ≡ suc z.task.after) (has_only (stuck_entry s) e b) refl) (λ b. stuck_clocks ss e b) (Contains-append_cases (stuck_entry s ∷ []) (stuck_entries ss) e c)

module _ (p : PlainProgram) (x : Extent) (frozen : List Object) (left : ℕ) where
  stops_there : (s : Stuck) → StopsSo p x frozen left s → StopsThere p frozen left (stuck_entry s)
  stops_there s z = record { why = s.why; stop = refl; steps = refl; invoked = refl; object = z.object; there = z.there; section = z.section }

  all_stop_there : (ss : List Stuck) → All (StopsSo p x frozen left) ss → (e : Entry) → Contains (stuck_entries ss) e → StopsThere p frozen left e
  all_stop_there [] a e c = absurd (has_nothing e c)
  all_stop_there (s ∷ ss) a e c = ⊎_elim
      (λ b. subst (λ (z : Entry). StopsThere p frozen left z) (has_only (stuck_entry s) e b) (stops_there s (All-head (StopsSo p x frozen left) s ss a)))
      (λ b. all_stop_there ss (All-tail (StopsSo p x frozen left) s ss a) e b) (Contains-append_cases (stuck_entry s ∷ []) (stuck_entries ss) e c)

  all_may_run : (ss : List Stuck) → All (StopsSo p x frozen left) ss → All (MayRun p x frozen) (tasks_of ss)
  all_may_run [] a = All-nil (MayRun p x frozen)
  all_may_run (s ∷ ss) a = All-cons (MayRun p x frozen) s.task (tasks_of ss) (let z : StopsSo p x frozen left s = All-head (StopsSo p x frozen left) s ss a in z.may) (all_may_run ss (All-tail (StopsSo p x frozen left) s ss a))

-- ---- entries that ran

module _ (p : PlainProgram) (x : Extent) (frozen base : List Object) where
  all_ran : (es : List Entry) (h : List Object) → Replicates p x frozen base es h → ran_in es ≡ es
  all_ran es h nothing = refl
  all_ran all g (one_more es h e o after before may clock stop found section) =
      filter-append (λ (e : Entry). is_none e.stop) es (e ∷ []) ∙ ap (λ l. l ++ ran_in (e ∷ [])) (all_ran es h before) ∙ ap (λ z. es ++ cond (is_none z) (e ∷ []) []) stop

  none_stuck : (es : List Entry) (h : List Object) → Replicates p x frozen base es h → stuck_in es ≡ []
  none_stuck es h nothing = refl
  none_stuck all g (one_more es h e o after before may clock stop found section) =
      filter-append (λ (e : Entry). is_some e.stop) es (e ∷ []) ∙ ap (λ l. l ++ stuck_in (e ∷ [])) (none_stuck es h before) ∙ ap (λ z. cond (is_some z) (e ∷ []) []) stop

  ran_clocks : (es : List Entry) (h : List Object) → Replicates p x frozen base es h → (d : Entry) → Contains es d → d.clock ≡ suc d.task.after
  ran_clocks es h nothing d c = absurd (has_nothing d c)
  ran_clocks all g (one_more es h e o after before may clock stop found section) d c = ⊎_elim (λ b. ran_clocks es h before d b) (λ b. subst (λ (z : Entry). z.clock ≡ suc z.task.after) (has_only e d b) clock) (Contains-append_cases es (e ∷ []) d c)

module _ (p : PlainProgram) (x : Extent) (frozen : List Object) where
  workers_ran : (ws : List (Worker p x frozen)) → ran_in (all_entries ws) ≡ all_entries ws
  workers_ran [] = refl
  workers_ran (w ∷ ws) =
      filter-append (λ (e : Entry). is_none e.stop) w.entries (all_entries ws) ∙ ap (λ l. l ++ ran_in (all_entries ws)) (all_ran p x frozen (zeroed_heap x.written frozen) w.entries (sums x.written frozen w.copies) w.replicates)
      ∙ ap (λ l. w.entries ++ l) (workers_ran ws)

  workers_not_stuck : (ws : List (Worker p x frozen)) → stuck_in (all_entries ws) ≡ []
  workers_not_stuck [] = refl
  workers_not_stuck (w ∷ ws) =
      filter-append (λ (e : Entry). is_some e.stop) w.entries (all_entries ws) ∙ ap (λ l. l ++ stuck_in (all_entries ws)) (none_stuck p x frozen (zeroed_heap x.written frozen) w.entries (sums x.written frozen w.copies) w.replicates)
      ∙ workers_not_stuck ws

  workers_clocks : (ws : List (Worker p x frozen)) (e : Entry) → Contains (all_entries ws) e → e.clock ≡ suc e.task.after
  workers_clocks [] e c = absurd (has_nothing e c)
  workers_clocks (w ∷ ws) e c = ⊎_elim (λ b. ran_clocks p x frozen (zeroed_heap x.written frozen) w.entries (sums x.written frozen w.copies) w.replicates e b) (λ b. workers_clocks ws e b) (Contains-append_cases w.entries (all_entries ws) e c)

  workers_on_frozen : IsRound p x frozen → (ws : List (Worker p x frozen)) (e : Entry) → Contains (all_entries ws) e → OnFrozen p frozen e
  workers_on_frozen round [] e c = absurd (has_nothing e c)
  workers_on_frozen round (w ∷ ws) e c = ⊎_elim
      (λ b. ran_on_frozen p round.program round.roots x round.is round.parallel round.summed frozen (zeroed_heap x.written frozen) round.heap (no_sums_stand p x frozen round.heap) w.entries (sums x.written frozen w.copies) w.replicates e b)
      (λ b. workers_on_frozen round ws e b) (Contains-append_cases w.entries (all_entries ws) e c)

  workers_whole : IsRound p x frozen → Once x.written → (ws : List (Worker p x frozen)) → AllWhole x.written frozen (copies_of ws)
  workers_whole round once [] = tt
  workers_whole round once (w ∷ ws) = (whole_here p x frozen round once w, workers_whole round once ws)

-- ---- the round

empty_left : {A : Type 0} (xs ys : List A) → xs ++ ys ≡ [] → (xs ≡ []) × (ys ≡ [])
empty_left [] ys e = (refl, e)
empty_left (x ∷ xs) ys e = absurd (cc)

no_stuck : (ss : List Stuck) → stuck_entries ss ≡ [] → ss ≡ []
no_stuck [] e = refl
no_stuck (s ∷ ss) e = cc

-- a first task that no entry ran is left
left_over : (first rest : List Task) → AreBalanced [] first rest → first ≢ [] → rest ≢ []
left_over [] rest b ne none = ne refl
left_over (t ∷ ts) [] b ne none = let w = b.weighed (λ u. 1) in absurd (omega (arith, w))
left_over (t ∷ ts) (u ∷ us) b ne none = cc

first_begins : (ts : List Task) → All (λ (t : Task). t.after ≡ 0) ts → (t : Task) → Contains ts t → t.after ≡ 0
first_begins [] a t c = absurd (has_nothing t c)
first_begins (u ∷ ts) a t c = ⊎_elim (λ b. subst (λ (z : Task). z.after ≡ 0) (has_only u t b) (All-head (λ (t : Task). t.after ≡ 0) u ts a)) (λ b. first_begins ts (All-tail (λ (t : Task). t.after ≡ 0) u ts a) t b) (Contains-append_cases (u ∷ []) ts t c)

may_run_of : (p : PlainProgram) (x : Extent) (frozen : List Object) (ts : List Task) → AllFit (setting_of p x frozen) ts → All (MayRun p x frozen) ts
may_run_of p x frozen ts h k d l = let m : Fits (setting_of p x frozen) _ = h k d l in record { typed = m.typed; inside = m.inside }

fits_of : (p : PlainProgram) (x : Extent) (frozen : List Object) (ts : List Task) → All (MayRun p x frozen) ts → AllFit (setting_of p x frozen) ts
fits_of p x frozen ts h k d l = let m : MayRun p x frozen _ = h k d l in record { typed = m.typed; inside = m.inside }

pub first_fit : (s : Setting) (p : PlainProgram) (x : Extent) (frozen : List Object) (ts : List Task) → s ≡ setting_of p x frozen → All (MayRun p x frozen) ts → AllFit s ts
first_fit s p x frozen ts e h = subst (λ (z : Setting). AllFit z ts) (sym e) (fits_of p x frozen ts h)

-- calls of a list begin the round, and so do tasks behind them
pub all_begin : (calls : List Op) (first : List Task) → All (λ (t : Task). t.after ≡ 0) first → All (λ (t : Task). t.after ≡ 0) (map (task_after 0) calls ++ first)
all_begin calls first h = All-append (λ (t : Task). t.after ≡ 0) (map (task_after 0) calls) first (All-map (λ (t : Task). t.after ≡ 0) (task_after 0) calls (λ k d l. refl)) h

module _ (p : PlainProgram) (x : Extent) (frozen : List Object) (round : IsRound p x frozen) (once : Once x.written) (left quota : ℕ) (some_quota : 0 < quota) (first : List Task) (begins : All (λ (t : Task). t.after ≡ 0) first)
    (l : Left) (w : Worked (setting_of p x frozen) x left first l) (more : List Task) (all : List Stuck) (own : List Changed) (total : Option ℕ) (fin : Finished p x frozen left quota l.count l.rest.items more l.stuck.items all l.steps own total) where
  abbrev caller : Worker p x frozen
  caller = record { entries = fin.goes.entries; copies = own; apart = fin.goes.once; replicates = fin.goes.leads }

  abbrev ws : List (Worker p x frozen)
  ws = w.workers ++ caller ∷ []

  abbrev es : List Entry
  es = all_entries ws

  abbrev told : List Entry
  told = es ++ stuck_entries all

  stops : All (StopsSo p x frozen left) all
  stops = fin.goes.stops w.stops

  balanced : AreBalanced es first (more ++ tasks_of all)
  balanced = record {
    weighed = λ h.
        let a : List Entry = all_entries w.workers in omega (
          arith,
          w.balanced.weighed h,
          fin.goes.balance h,
          entries_more (λ (e : Entry). h e.task) w.workers caller,
          entries_more (λ (e : Entry). weight h (listed_by e)) w.workers caller,
          weight_append h (tasks_in a) (l.rest.items ++ tasks_of l.stuck.items),
          weight_append h l.rest.items (tasks_of l.stuck.items),
          weight_map h (λ (e : Entry). e.task) a,
          weight_append h first (flat_map listed_by a),
          weight_flat h listed_by a,
          weight_append h (tasks_in es) (more ++ tasks_of all),
          weight_append h more (tasks_of all),
          weight_map h (λ (e : Entry). e.task) es,
          weight_append h first (flat_map listed_by es),
          weight_flat h listed_by es,
        );
  }

  told_ran : ran_in told ≡ es
  told_ran = filter-append (λ (e : Entry). is_none e.stop) es (stuck_entries all) ∙ ap (λ k. ran_in es ++ k) (none_ran all) ∙ append-nil (ran_in es) ∙ workers_ran p x frozen ws

  told_stuck : stuck_in told ≡ stuck_entries all
  told_stuck = filter-append (λ (e : Entry). is_some e.stop) es (stuck_entries all) ∙ ap (λ k. k ++ stuck_in (stuck_entries all)) (workers_not_stuck p x frozen ws) ∙ all_stuck all

  copies : copies_of ws ≡ copies_in l.replicas.items ++ own ∷ []
  copies = copies_longer w.workers caller ∙ ap (λ k. k ++ own ∷ []) w.copies_are

  enough : all ≡ [] → more ≢ [] → ((e : Entry) → Contains told e → e.clock ≢ last_clock) → quota ≤ length told
  enough none ne clocks = from fin.ended
    where
      long : length told ≡ length es + length (stuck_entries all)
      long = length-append es (stuck_entries all)

      from : Ends p x frozen left quota (l.count + length fin.goes.entries) more all → quota ≤ length told
      from (inl empty) = absurd (ne empty)
      from (inr (inl stuck)) = absurd (stuck none)
      from (inr (inr (inl many))) = omega (arith, many, w.counted, entries_longer w.workers caller, long)
      from (inr (inr (inr t))) = absurd (none_waits es first (more ++ tasks_of all) balanced (first_begins first begins) last_clock (omega arith) (λ e c. clocks e (Contains-append_left es (stuck_entries all) e c)) t.0 (Contains-append_left more (tasks_of all) t.0 t.1) t.2)

  some_entry : first ≢ [] → told ≢ []
  some_entry ne none =
      let z = empty_left es (stuck_entries all) none in
      let free : all ≡ [] = no_stuck all z.1 in
      let b : AreBalanced [] first more = subst (λ k. AreBalanced k first more) z.0 (subst (λ k. AreBalanced es first k) (ap (λ k. more ++ tasks_of k) free ∙ append-nil more) balanced) in
      let q = enough free (left_over first more b ne) (λ e c. absurd (has_nothing e (subst (λ k. Contains k e) none c))) in
      let short = ap length none in
      absurd (omega (arith, q, short, some_quota))

  pub rounded : (r : SummedRound) → copies_in r.replicas.items ≡ copies_in l.replicas.items ++ own ∷ [] → r.rest.items ≡ more ++ tasks_of all → r.stop ≡ first_why all → r.steps ≡ total → Rounded p x frozen left quota first r
  rounded r replicas rest stop steps = record {
    entries = told;
    balanced = record {
      once = subst (λ k. SameItems (tasks_in k ++ r.rest.items) (first ++ flat_map listed_by k)) (sym told_ran) (subst (λ k. SameItems (tasks_in es ++ k) (first ++ flat_map listed_by es)) (sym rest) balanced);
      stuck = λ e c. subst (λ k. Contains k e.task) (sym rest) (Contains-append_right more (tasks_of all) e.task (stuck_tasks_there all e (subst (λ k. Contains k e) told_stuck c)));
      some = some_entry;
    };
    stop_is = stop ∙ first_same all ∙ ap first_stop (sym told_stuck);
    full = λ none ne clocks.
        let free : all ≡ [] = no_first all (sym stop ∙ none) in
        enough free (λ empty. ne (rest ∙ ap (λ k. more ++ tasks_of k) free ∙ append-nil more ∙ empty)) clocks;
    clocks = λ e c. ⊎_elim (λ b. workers_clocks p x frozen ws e b) (λ b. stuck_clocks all e b) (Contains-append_cases es (stuck_entries all) e c);
    ran = λ e c. workers_on_frozen p x frozen round ws e (subst (λ k. Contains k e) told_ran c);
    stuck = λ e c. all_stop_there p x frozen left all stops e (subst (λ k. Contains k e) told_stuck c);
    run = λ now standing.
        subst (λ k. PendingRun p frozen (added_one_by_one x.written (copies_in r.replicas.items) now) (task_calls r.rest.items) (task_calls (tasks_in (ordered k))) now (task_calls first) (steps_of (ordered k))) (sym told_ran)
        (subst (λ k. PendingRun p frozen (added_one_by_one x.written k now) (task_calls r.rest.items) (task_calls (tasks_in (ordered es))) now (task_calls first) (steps_of (ordered es))) (copies ∙ sym replicas)
        (subst (λ k. PendingRun p frozen (all_added now ws) (task_calls k) (task_calls (tasks_in (ordered es))) now (task_calls first) (steps_of (ordered es))) (sym rest)
        (sums_run p x frozen round once now standing ws first (more ++ tasks_of all) balanced)));
    whole = subst (AllWhole x.written frozen) (copies ∙ sym replicas) (workers_whole p x frozen round once ws);
    counted = subst (λ k. IsSum left (steps_of (ordered k)) r.steps) (sym told_ran) (subst (IsSum left (steps_of (ordered es))) (sym steps) (sum_is left _ _ total (sym (entries_more (λ (e : Entry). e.steps) w.workers caller) ∙ sym (weight_ordered (λ (e : Entry). e.steps) es)) (fin.goes.steps_are (steps_of (all_entries w.workers)) w.steps_are)));
    may_run = subst (All (MayRun p x frozen)) (sym rest) (All-append (MayRun p x frozen) more (tasks_of all) (may_run_of p x frozen more fin.goes.fits) (all_may_run p x frozen left all stops));
  }

-- the same, of the setting and the extent that were picked
worked_in : (s : Setting) (p : PlainProgram) (x y : Extent) (frozen : List Object) (left own : ℕ) (first : List Task) (l : Left) → s ≡ setting_of p y frozen → x ≡ y → own ≡ left → Worked s x left first l → Worked (setting_of p y frozen) y own first l
worked_in s p x y frozen left own first l is e f w =
    subst (λ (k : ℕ). Worked (setting_of p y frozen) y k first l) (sym f) (subst (λ (z : Extent). Worked (setting_of p y frozen) z left first l) e (subst (λ (z : Setting). Worked z x left first l) is w))

pub rounded_in : (s : Setting) (p : PlainProgram) (x y : Extent) (frozen : List Object) (left own quota : ℕ) (first : List Task) (l : Left) (more : List Task) (all : List Stuck) (copies : List Changed) (total : Option ℕ) (r : SummedRound) → s ≡ setting_of p y frozen → x ≡ y → own ≡ left → IsRound p y frozen → Once y.written → 0 < quota → All (λ (t : Task). t.after ≡ 0) first
    → Worked s x left first l → Finished p y frozen own quota l.count l.rest.items more l.stuck.items all l.steps copies total → copies_in r.replicas.items ≡ copies_in l.replicas.items ++ copies ∷ [] → r.rest.items ≡ more ++ tasks_of all → r.stop ≡ first_why all → r.steps ≡ total → Rounded p y frozen own quota first r
rounded_in s p x y frozen left own quota first l more all copies total r is e f round once some begins w fin replicas rest stop steps =
    rounded p y frozen round once own quota some first begins l (worked_in s p x y frozen left own first l is e f w) more all copies total fin r replicas rest stop steps

pub rest_fits : (s : Setting) (p : PlainProgram) (x y : Extent) (frozen : List Object) (left : ℕ) (first : List Task) (l : Left) → s ≡ setting_of p y frozen → Worked s x left first l → AllFit (setting_of p y frozen) l.rest.items
rest_fits s p x y frozen left first l is w = subst (λ (z : Setting). AllFit z l.rest.items) is w.fits
