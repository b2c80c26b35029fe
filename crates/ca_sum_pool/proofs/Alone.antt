-- The caller's own tasks.
use Rattle.std.proofs.Common.{◌≡◌, ◌≢◌, ℕ, suc, ◌+◌, ◌≤◌, List, [], ◌∷◌, ◌++◌, All, Option, length, map, inl, inr, ◌⊎◌, sym, refl, ap, ◌∙◌, subst, arith}
use Rattle.std.specs.Prelude.{Contains}
use Rattle.std.proofs.lemmas.List.{length_push, map-append}
use Rattle.std.proofs.lemmas.List.Elements.{All-append, All-cons, All-nil, Contains-push}
use Rattle.ca_program.specs.Plain.{PlainProgram}
use Rattle.ca_model.specs.declared.value.Object.{Object}
use Rattle.ca_meaning.specs.Multisets.{weight}
use Rattle.ca_parallel.specs.Extents.{Extent}
use Rattle.ca_parallel.specs.declared.op.Op.{Op}
use Rattle.ca_order_laws.specs.Order.{StandsFor}
use Rattle.ca_order_laws.proofs.Weights.{weight_append}
use Rattle.ca_logs.specs.declared.log.Task.{Task}
use Rattle.ca_logs.specs.declared.log.Entry.{Entry}
use Rattle.ca_logs.specs.Entries.{task_after, listed_by}
use Rattle.ca_logs.specs.Laws.{steps_of}
use Rattle.ca_deques.specs.Settings.{Setting, Fits, AllFit}
use Rattle.ca_deques.proofs.Grown.{shrunk_fit, last_fits, grown_weight}
use Rattle.ca_beside.specs.declared.beside.Changed.{Changed}
use Rattle.ca_sum_laws.specs.Replicas.{Replicates, nothing}
use Rattle.ca_replica.specs.Zeroed.{zeroed_heap}
use Rattle.ca_replica.specs.Applied.{IsRound}
use Rattle.ca_replica.proofs.Beginning.{no_sums_stand}
use Rattle.ca_sum_pool.specs.declared.performing.Stuck.{Stuck}
use Rattle.ca_sum_pool.specs.Rounded.{IsSum, last_clock}
use Rattle.ca_sum_pool.specs.Parts.{setting_of, sum_within, ran_entry, tasks_of, StopsSo, ran_weight, made_weight, RanOne, StoppedOne, RanAndPoured, Waits, Stops, RanNot, GoesAlone, Ends, Finished}
use Rattle.ca_sum_pool.proofs.Totals.{sum_more, sum_is}
use Rattle.ca_sum_pool.proofs.Did.{none_apart}

module _ (p : PlainProgram) (x : Extent) (frozen : List Object) (left : ℕ) where
  abbrev s : Setting
  s = setting_of p x frozen

  -- ---- one task

  pub waits_alone : (task : Task) (cs : List Changed) (rest more : List Task) (stucks : List Stuck) (steps : Option ℕ) → task.after ≡ last_clock → more ≡ rest ++ task ∷ [] → RanNot p x frozen left task cs cs rest more stucks stucks steps steps
  waits_alone task cs rest more stucks steps late put = record { once = λ d. d; same = refl; total_is = refl; either = inl (record { late = late; rest_is = put; stucks_are = refl }) }

  pub stops_alone : (task : Task) (before after : List Changed) (rest : List Task) (stucks all : List Stuck) (steps : Option ℕ) (one : Stuck) → StoppedOne p x frozen left task before after one → all ≡ stucks ++ one ∷ [] → RanNot p x frozen left task before after rest rest stucks all steps steps
  stops_alone task before after rest stucks all steps one z put = record { once = λ d. z.once; same = z.same; total_is = refl; either = inr (record { one = one; stopped = z; rest_is = refl; stucks_are = put }) }

  pub ran_alone : (task : Task) (before after : List Changed) (rest more : List Task) (stucks : List Stuck) (steps total : Option ℕ) (ops : List Op) (clock took : ℕ) → clock ≡ suc task.after → RanOne p x frozen task before after ops took →
      ((z : Setting) → AllFit z (map (task_after clock) ops) → AllFit z rest → AllFit z more) → ((h : Task → ℕ) → weight h more ≡ weight h rest + weight h (map (task_after clock) ops)) → total ≡ sum_within left steps took → RanAndPoured p x frozen left task before after rest more stucks stucks steps total
  ran_alone task before after rest more stucks steps total ops clock took is ran fits poured total_is = record {
    ops = ops;
    took = took;
    ran = ran;
    stucks_are = refl;
    total_is = total_is;
    fits = λ a. fits s (subst (λ k. AllFit s (map (task_after k) ops)) (sym is) ran.fits) a;
    poured = subst (λ k. (h : Task → ℕ) → weight h more ≡ weight h rest + weight h (map (task_after k) ops)) is poured;
  }

  -- ---- task after task

  -- so many ran
  pub record GoesOn (count ran : ℕ) (rest more : List Task) (stucks all : List Stuck) (steps : Option ℕ) (copies : List Changed) (total : Option ℕ) : Type 0 where
    pub goes : GoesAlone p x frozen left rest more stucks all steps copies total
    pub same : all ≡ stucks
    pub counted : ran ≤ count + length goes.entries

  module _ (round : IsRound p x frozen) where
    none_goes : (rest : List Task) (stucks : List Stuck) (steps : Option ℕ) → AllFit s rest → GoesAlone p x frozen left rest rest stucks stucks steps [] steps
    none_goes rest stucks steps fits = record {
      entries = [];
      once = none_apart;
      leads = nothing;
      stands = no_sums_stand p x frozen round.heap;
      fits = fits;
      stops = λ a. a;
      steps_are = λ n t. sum_is left n (n + steps_of []) steps (omega arith) t;
      balance = λ h. omega arith;
    }

    pub goes_first : (count : ℕ) (rest : List Task) (stucks : List Stuck) (steps : Option ℕ) (copies : List Changed) → copies ≡ [] → AllFit s rest → GoesOn count count rest rest stucks stucks steps copies steps
    goes_first count rest stucks steps copies none fits = subst (λ (cs : List Changed). GoesOn count count rest rest stucks stucks steps cs steps) (sym none) (record { goes = none_goes rest stucks steps fits; same = refl; counted = omega arith })

    -- no task was run, since a section had stopped
    pub finished_first : (quota count : ℕ) (rest : List Task) (stucks : List Stuck) (steps : Option ℕ) (copies : List Changed) → copies ≡ [] → AllFit s rest → stucks ≢ [] → Finished p x frozen left quota count rest rest stucks stucks steps copies steps
    finished_first quota count rest stucks steps copies none fits some = subst (λ (cs : List Changed). Finished p x frozen left quota count rest rest stucks stucks steps cs steps) (sym none) (record { goes = none_goes rest stucks steps fits; ended = inr (inl some) })

  module _ (count ran : ℕ) (rest : List Task) (stucks all : List Stuck) (steps : Option ℕ) (copies : List Changed) (total : Option ℕ) where
    -- nothing is left, or there are enough
    pub finished_none : (quota : ℕ) (more now : List Task) → now ≡ more → more ≡ [] → GoesOn count ran rest more stucks all steps copies total → Finished p x frozen left quota count rest now stucks all steps copies total
    finished_none quota more now same none i = subst (λ (ts : List Task). Finished p x frozen left quota count rest ts stucks all steps copies total) (sym same) (record { goes = i.goes; ended = inl none })

    pub finished_full : (quota : ℕ) (more : List Task) → quota ≤ ran → GoesOn count ran rest more stucks all steps copies total → Finished p x frozen left quota count rest more stucks all steps copies total
    finished_full quota more enough i = record { goes = i.goes; ended = inr (inr (inl (omega (arith, enough, i.counted)))) }

    module _ (task : Task) (olds mid : List Task) (pop : olds ≡ mid ++ task ∷ []) (i : GoesOn count ran rest olds stucks all steps copies total) where
      pub task_fits : Fits s task
      task_fits = last_fits s olds mid task pop i.goes.fits

      mid_fits : AllFit s mid
      mid_fits = shrunk_fit s olds mid task pop i.goes.fits

      pub goes_on : (after : List Changed) (more : List Task) (every : List Stuck) (sum : Option ℕ) → RanAndPoured p x frozen left task copies after mid more all every total sum → GoesOn count (ran + 1) rest more stucks every steps after sum
      goes_on after more every sum r = record {
        goes = record {
          entries = i.goes.entries ++ entry ∷ [];
          once = r.ran.once;
          leads = r.ran.further i.goes.entries i.goes.leads;
          stands = r.ran.stands;
          fits = r.fits mid_fits;
          stops = λ a. subst (All (StopsSo p x frozen left)) (sym r.stucks_are) (i.goes.stops a);
          steps_are = λ n t. sum_is left _ _ sum (steps_more n) (subst (IsSum left ((n + steps_of i.goes.entries) + r.took)) (sym r.total_is) (sum_more left (n + steps_of i.goes.entries) r.took total (i.goes.steps_are n t)));
          balance = λ h. omega (
            arith,
            i.goes.balance h,
            one h,
            r.poured h,
            grown_weight olds mid task pop h,
            ap (λ (zs : List Stuck). weight h (tasks_of zs)) r.stucks_are,
            weight_append (λ (e : Entry). h e.task) i.goes.entries (entry ∷ []),
            weight_append (λ (e : Entry). weight h (listed_by e)) i.goes.entries (entry ∷ []),
          );
        };
        same = r.stucks_are ∙ i.same;
        counted = omega (arith, i.counted, length_push i.goes.entries entry);
      }
        where
          entry : Entry
          entry = ran_entry task r.ops r.took

          one : (h : Task → ℕ) → ran_weight h (entry ∷ []) + weight h (map (task_after (suc task.after)) r.ops) ≡ h task + made_weight h (entry ∷ [])
          one h = omega arith

          steps_more : (n : ℕ) → (n + steps_of i.goes.entries) + r.took ≡ n + steps_of (i.goes.entries ++ entry ∷ [])
          steps_more n = let w = weight_append (λ (e : Entry). e.steps) i.goes.entries (entry ∷ []) in omega (arith, w)

      pub finished_not : (quota : ℕ) (after : List Changed) (more : List Task) (every : List Stuck) (sum : Option ℕ) → RanNot p x frozen left task copies after mid more all every total sum → Finished p x frozen left quota count rest more stucks every steps after sum
      finished_not quota after more every sum r = record {
        goes = record {
          entries = i.goes.entries;
          once = r.once i.goes.once;
          leads = subst (Replicates p x frozen (zeroed_heap x.written frozen) i.goes.entries) (sym r.same) i.goes.leads;
          stands = subst (StandsFor p x frozen) (sym r.same) i.goes.stands;
          fits = fits_of r.either;
          stops = λ a. stops_of r.either (i.goes.stops a);
          steps_are = λ n t. subst (IsSum left (n + steps_of i.goes.entries)) (sym r.total_is) (i.goes.steps_are n t);
          balance = λ h. let b = i.goes.balance h in let w = grown_weight olds mid task pop h in let z = same_of r.either h in omega (arith, b, w, z);
        };
        ended = ended_of r.either;
      }
        where
          fits_of : Waits p x frozen left task mid more all every ⊎ Stops p x frozen left task copies after mid more all every → AllFit s more
          fits_of (inl w) = subst (AllFit s) (pop ∙ sym w.rest_is) i.goes.fits
          fits_of (inr z) = subst (AllFit s) (sym z.rest_is) mid_fits

          stops_of : Waits p x frozen left task mid more all every ⊎ Stops p x frozen left task copies after mid more all every → All (StopsSo p x frozen left) all → All (StopsSo p x frozen left) every
          stops_of (inl w) a = subst (All (StopsSo p x frozen left)) (sym w.stucks_are) a
          stops_of (inr z) a = subst (All (StopsSo p x frozen left)) (sym z.stucks_are) (All-append (StopsSo p x frozen left) all (z.one ∷ []) a (All-cons (StopsSo p x frozen left) z.one [] z.stopped.stops (All-nil (StopsSo p x frozen left))))

          same_of : Waits p x frozen left task mid more all every ⊎ Stops p x frozen left task copies after mid more all every → (h : Task → ℕ) → weight h more + weight h (tasks_of every) ≡ weight h mid + h task + weight h (tasks_of all)
          same_of (inl w) h = omega (arith, grown_weight more mid task w.rest_is h, ap (λ (zs : List Stuck). weight h (tasks_of zs)) w.stucks_are)
          same_of (inr z) h = omega (arith, ap (weight h) z.rest_is, ap (λ (t : Task). h t) z.stopped.task_is, ap (λ (zs : List Stuck). weight h (tasks_of zs)) z.stucks_are, ap (weight h) (map-append (λ (q : Stuck). q.task) all (z.one ∷ [])), weight_append h (tasks_of all) (tasks_of (z.one ∷ [])))

          ended_of : Waits p x frozen left task mid more all every ⊎ Stops p x frozen left task copies after mid more all every → Ends p x frozen left quota (count + length i.goes.entries) more every
          ended_of (inl w) = inr (inr (inr (task, subst (λ (ts : List Task). Contains ts task) (sym w.rest_is) (Contains-push mid task), w.late)))
          ended_of (inr z) = inr (inl (λ none. some all z.one (sym z.stucks_are ∙ none)))
            where
              some : (zs : List Stuck) (q : Stuck) → zs ++ q ∷ [] ≡ [] → ⊥
              some [] q e = cc
              some (y ∷ ys) q e = cc
