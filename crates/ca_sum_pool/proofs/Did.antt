-- What a task does to a worker's part.
use Rattle.std.proofs.Common.{◌≡◌, ℕ, suc, ◌+◌, ◌≤◌, Bool, false, true, true≢false, option_to_list, List, [], ◌∷◌, ◌++◌, Option, Some, None, map, sym, refl, ap, ◌∙◌, subst, arith, length-append}
use Rattle.std.proofs.lemmas.List.Elements.{All-cons, All-nil}
use Rattle.ca_model.specs.declared.value.Object.{Object}
use Rattle.ca_meaning.specs.Multisets.{weight}
use Rattle.ca_parallel.specs.Extents.{Extent}
use Rattle.ca_parallel.specs.declared.op.Op.{Op}
use Rattle.ca_order_laws.specs.Order.{StandsFor}
use Rattle.ca_order_laws.proofs.Weights.{weight_append}
use Rattle.ca_logs.specs.declared.log.Task.{Task}
use Rattle.ca_logs.specs.declared.log.Entry.{Entry}
use Rattle.ca_logs.specs.declared.log.Stop.{Stop}
use Rattle.ca_logs.specs.Entries.{task_after, listed_by}
use Rattle.ca_logs.specs.Laws.{steps_of}
use Rattle.ca_logs.proofs.Tasks.{weight_map, weight_flat}
use Rattle.ca_deques.specs.Settings.{Setting, Fits, AllFit}
use Rattle.ca_deques.specs.Thieves.{OwnerView, OwnerKey, owner_key, ThiefView, taken_by_thief}
use Rattle.ca_deques.specs.declared.rule.Hand.{Hand}
use Rattle.ca_deques.specs.Hands.{IsUnused}
use Rattle.ca_deques.proofs.Grown.{grown_fit, grown_weight, one_fits}
use Rattle.ca_beside.specs.declared.beside.Changed.{Changed}
use Rattle.ca_beside.specs.Beside.{AreDistinct}
use Rattle.ca_sum_laws.specs.Replicas.{Replicates, nothing}
use Rattle.ca_replica.specs.Zeroed.{zeroed_heap}
use Rattle.ca_replica.specs.Applied.{sums}
use Rattle.ca_replica.proofs.Beginning.{no_sums_stand}
use Rattle.ca_sum_pool.specs.declared.performing.Stuck.{Stuck}
use Rattle.ca_sum_pool.specs.declared.performing.Turn.{Turn}
use Rattle.ca_sum_pool.specs.declared.performing.Turn.TheVariants as turns
use Rattle.ca_sum_pool.specs.Rounded.{IsSum}
use Rattle.ca_sum_pool.specs.Parts.{begun, sum_within, ran_entry, tasks_of, StopsSo, RanOne, RanWhole, SameSums, StoppedOne, Keeps, Tells, RanAndPushed, Performed, Did, Sound}
use Rattle.ca_sum_pool.proofs.Totals.{sum_more, sum_is}

-- ---- what is answered of a task

-- the call and the clock of a task are the task
pub same_task : (t : Task) (after : ℕ) (op : Op) → after ≡ t.after → op ≡ t.op → task_after after op ≡ t
same_task t after op e d = ap (λ k. task_after k op) e ∙ ap (λ o. task_after t.after o) d

abbrev pub stuck_of : Task → Stop → Stuck
stuck_of t why = record { task = t; why = why }

module _ (s : Setting) (x : Extent) (left : ℕ) (task : Task) where
  -- a task that was kept
  pub kept_performed : (o : OwnerView) (cs : List Changed) (share rest : List Task) (turn : Turn) → Keeps share task rest turn → Fits s task → AllFit s share → Performed s x left task o o cs cs share rest turn
  kept_performed o cs share rest (turns.Ran n) k f a = absurd k
  kept_performed o cs share rest turns.Kept k f a = record { owner = refl; taken = refl; fits = grown_fit s rest share task k a (one_fits s task f); turned = (record { once = λ d. d; same = refl }, refl, k) }
  kept_performed o cs share rest (turns.Stopped z) k f a = absurd k
  kept_performed o cs share rest turns.Short k f a = record { owner = refl; taken = refl; fits = subst (AllFit s) (sym k) a; turned = tt }

  -- one whose section is done
  pub ran_performed : (old new : OwnerView) (before after : List Changed) (share rest : List Task) (ops : List Op) (clock steps : ℕ) → clock ≡ suc task.after → RanOne s.program x s.frozen task before after ops steps → owner_key new ≡ owner_key old → new.hand.taken ≡ old.hand.taken → AllFit s rest →
      ((h : Task → ℕ) → weight h new.hand.pushed + weight h rest ≡ weight h old.hand.pushed + weight h share + weight h (map (task_after clock) ops)) → Performed s x left task old new before after share rest (turns.Ran steps)
  ran_performed old new before after share rest ops clock steps is ran key taken all pushed = record {
    owner = key;
    taken = taken;
    fits = all;
    turned = record {
      entries = ran_entry task ops steps ∷ [];
      ran = record { some = omega arith; once = ran.once; further = ran.further; stands = ran.stands; steps_are = omega arith };
      pushed = λ h.
          let w = subst (λ k. (h : Task → ℕ) → weight h new.hand.pushed + weight h rest ≡ weight h old.hand.pushed + weight h share + weight h (map (task_after k) ops)) is pushed in
          omega (arith, w h);
    };
  }

  -- one that ran with all that it leads to
  pub whole_performed : (o : OwnerView) (before after : List Changed) (share : List Task) (steps : ℕ) → RanWhole s.program x s.frozen task before after steps → AllFit s share → Performed s x left task o o before after share share (turns.Ran steps)
  whole_performed o before after share steps w a = record {
    owner = refl;
    taken = refl;
    fits = a;
    turned = record {
      entries = w.entries;
      ran = w.ran;
      pushed = λ h. omega (arith, w.each.weighed h, weight_map h (λ (e : Entry). e.task) w.entries, weight_flat h listed_by w.entries);
    };
  }

  -- what was answered of a task holds where the sums were the same before
  pub performed_on : (o n : OwnerView) (before mid after : List Changed) (share rest : List Task) (turn : Turn) → SameSums s.program x s.frozen before mid → Performed s x left task o n mid after share rest turn → Performed s x left task o n before after share rest turn
  performed_on o n before mid after share rest (turns.Ran steps) same q =
      let f : RanAndPushed s x task o n mid after share rest steps = q.turned in
      record {
        owner = q.owner;
        taken = q.taken;
        fits = q.fits;
        turned = record {
          entries = f.entries;
          ran = record {
            some = f.ran.some;
            once = f.ran.once;
            further = λ es l. f.ran.further es (subst (λ (z : List Object). Replicates s.program x s.frozen (zeroed_heap x.written s.frozen) es z) (sym same.same) l);
            stands = f.ran.stands;
            steps_are = f.ran.steps_are;
          };
          pushed = f.pushed;
        };
      }
  performed_on o n before mid after share rest turns.Kept same q =
      let k : SameSums s.program x s.frozen mid after = q.turned.0 in
      record { owner = q.owner; taken = q.taken; fits = q.fits; turned = (record { once = λ d. k.once (same.once d); same = k.same ∙ same.same }, q.turned.1, q.turned.2) }
  performed_on o n before mid after share rest (turns.Stopped one) same q =
      let z : StoppedOne s.program x s.frozen left task mid after one = q.turned.0 in
      record { owner = q.owner; taken = q.taken; fits = q.fits; turned = (record { once = z.once; same = z.same ∙ same.same; task_is = z.task_is; stops = z.stops }, q.turned.1, q.turned.2) }
  performed_on o n before mid after share rest turns.Short same q = record { owner = q.owner; taken = q.taken; fits = q.fits; turned = tt }

  pub short_performed : (old new : OwnerView) (before after : List Changed) (share rest : List Task) → owner_key new ≡ owner_key old → new.hand.taken ≡ old.hand.taken → AllFit s rest → Performed s x left task old new before after share rest turns.Short
  short_performed old new before after share rest key taken all = record { owner = key; taken = taken; fits = all; turned = tt }

  -- one whose section stopped
  pub stuck_performed : (o : OwnerView) (before after : List Changed) (share : List Task) (one : Stuck) → StoppedOne s.program x s.frozen left task before after one → AllFit s share → Performed s x left task o o before after share share (turns.Stopped one)
  stuck_performed o before after share one z a = record { owner = refl; taken = refl; fits = a; turned = (z, refl, refl) }

  -- the same of how it is told, if there is memory for it
  pub told_performed : (o : OwnerView) (before after : List Changed) (share : List Task) (why : Stop) (turn : Turn) → Tells task why turn → StoppedOne s.program x s.frozen left task before after (record { task = task; why = why }) → AllFit s share → Performed s x left task o o before after share share turn
  told_performed o before after share why (turns.Ran n) t z a = absurd t
  told_performed o before after share why turns.Kept t z a = absurd t
  told_performed o before after share why (turns.Stopped one) t z a = stuck_performed o before after share one (subst (λ (q : Stuck). StoppedOne s.program x s.frozen left task before after q) (sym t) z) a
  told_performed o before after share why turns.Short t z a = record { owner = refl; taken = refl; fits = a; turned = tt }

-- ---- a worker's part

pub nothing_found : {A : Type 0} (got : Option A) → ((x : A) → got ≡ Some x → ⊥) → got ≡ None
nothing_found None absent = refl
nothing_found (Some x) absent = absurd (absent x refl)

-- what is_some denies
pub none_there : {A : Type 0} (got : Option A) → ((x : A) → got ≡ Some x → ⊥) → option_to_list got ≡ []
none_there None absent = refl
none_there (Some x) absent = absurd (absent x refl)

pub none_apart : AreDistinct []
none_apart i j c d e f same = cc

module _ (s : Setting) (x : Extent) (left : ℕ) where
  pub sound_short : (hand : Hand) (thieves : List ThiefView) (copies : List Changed) (share mine waits : List Task) (stuck : Option Stuck) (count : ℕ) (steps : Option ℕ) (short : Bool) → Sound s x left hand thieves copies share mine waits stuck count steps short → Sound s x left hand thieves copies share mine waits stuck count steps true
  sound_short hand thieves copies share mine waits stuck count steps short i = record { fits = i.fits; did = λ e. absurd (true≢false e) }

  -- a worker that has run nothing
  pub sound_new : (hand : Hand) (thieves : List ThiefView) (copies : List Changed) (share mine : List Task) → IsUnused hand → ((h : Task → ℕ) → weight (taken_by_thief h) thieves ≡ 0) → copies ≡ [] → share ≡ [] → Sound s x left hand thieves copies share mine mine None 0 (Some 0) false
  sound_new hand thieves copies share mine unused stolen none empty = record {
    fits = subst (AllFit s) (sym empty) (λ k d lt. absurd (omega (arith, lt)));
    did = λ e. record {
      entries = [];
      once = subst AreDistinct (sym none) none_apart;
      leads = subst (λ (cs : List Changed). Replicates s.program x s.frozen (zeroed_heap x.written s.frozen) [] (sums x.written s.frozen cs)) (sym none) nothing;
      stands = λ typed. subst (λ (cs : List Changed). StandsFor s.program x s.frozen (sums x.written s.frozen cs)) (sym none) (no_sums_stand s.program x s.frozen typed);
      stops = All-nil (StopsSo s.program x s.frozen left);
      counted = omega arith;
      steps_are = (refl, omega arith);
      balance = λ h. omega (arith, stolen h, ap (weight h) unused.dealt, ap (weight h) unused.taken, ap (weight h) empty);
    };
  }

  module _ (o m : OwnerView) (thieves more : List ThiefView) (copies : List Changed) (share mid mine : List Task) (k l : List Op) (kl : k ≡ l) (at end now last : ℕ) (stuck : Option Stuck) (count : ℕ) (steps : Option ℕ) (short : Bool) (got : Option Task)
      (i : Sound s x left o.hand thieves copies share mine (begun k at end) stuck count steps short) (same : owner_key m ≡ owner_key o)
      (taken : (h : Task → ℕ) → weight h m.hand.taken + weight (taken_by_thief h) more + weight h o.hand.pushed + weight h share + weight h (begun l at end) ≡ weight h o.hand.taken + weight (taken_by_thief h) thieves + weight h m.hand.pushed + weight h mid + weight h (begun l now last) + weight h (option_to_list got)) where
    -- a worker found no task
    pub sound_still : AllFit s mid → got ≡ None → Sound s x left m.hand more copies mid mine (begun k now last) stuck count steps short
    sound_still fits is = record {
      fits = fits;
      did = λ e. let d : Did s x left o.hand thieves copies share mine (begun k at end) stuck count steps = i.did e in record {
        entries = d.entries;
        once = d.once;
        leads = d.leads;
        stands = d.stands;
        stops = d.stops;
        counted = d.counted;
        steps_are = d.steps_are;
        balance = λ h. omega (arith, d.balance h, taken h, ap (λ z. weight h (begun z at end)) kl, ap (λ z. weight h (begun z now last)) kl, ap (λ (t : Option Task). weight h (option_to_list t)) is, ap (λ (k : OwnerKey). weight h k.2) same);
      };
    }

    module _ (task : Task) (is : got ≡ Some task) (n : OwnerView) (after : List Changed) (rest : List Task) where
      -- a worker ran a task
      pub sound_ran : (took more_count : ℕ) (total : Option ℕ) → Performed s x left task m n copies after mid rest (turns.Ran took) → more_count ≤ count + 1 → total ≡ sum_within left steps took → Sound s x left n.hand more after rest mine (begun k now last) stuck more_count total short
      sound_ran took more_count total q few total_is = record {
        fits = q.fits;
        did = λ e.
            let d : Did s x left o.hand thieves copies share mine (begun k at end) stuck count steps = i.did e in
            let f : RanAndPushed s x task m n copies after mid rest took = q.turned in
            let steps_more : steps_of d.entries + took ≡ steps_of (d.entries ++ f.entries) = let w = weight_append (λ (e : Entry). e.steps) d.entries f.entries in omega (arith, w, f.ran.steps_are) in record {
              entries = d.entries ++ f.entries;
              once = f.ran.once;
              leads = f.ran.further d.entries d.leads;
              stands = λ typed. f.ran.stands;
              stops = d.stops;
              counted = omega (arith, d.counted, few, f.ran.some, length-append d.entries f.entries);
              steps_are = sum_is left _ _ total steps_more (subst (IsSum left (steps_of d.entries + took)) (sym total_is) (sum_more left (steps_of d.entries) took steps d.steps_are));
              balance = λ h. omega (
                arith,
                d.balance h,
                taken h,
                ap (λ z. weight h (begun z at end)) kl,
                ap (λ z. weight h (begun z now last)) kl,
                ap (λ (t : Option Task). weight h (option_to_list t)) is,
                f.pushed h,
                ap (weight h) q.taken,
                ap (λ (k : OwnerKey). weight h k.2) q.owner,
                ap (λ (k : OwnerKey). weight h k.2) same,
                weight_append (λ (e : Entry). h e.task) d.entries f.entries,
                weight_append (λ (e : Entry). weight h (listed_by e)) d.entries f.entries,
              );
            };
      }

      -- a task was kept
      pub sound_kept : Performed s x left task m n copies after mid rest turns.Kept → Sound s x left n.hand more after rest mine (begun k now last) stuck count steps short
      sound_kept q = record {
        fits = q.fits;
        did = λ e.
            let d : Did s x left o.hand thieves copies share mine (begun k at end) stuck count steps = i.did e in
            let cs : SameSums s.program x s.frozen copies after = q.turned.0 in let own = q.turned.1 in let put = q.turned.2 in record {
              entries = d.entries;
              once = cs.once d.once;
              leads = subst (Replicates s.program x s.frozen (zeroed_heap x.written s.frozen) d.entries) (sym cs.same) d.leads;
              stands = λ typed. subst (StandsFor s.program x s.frozen) (sym cs.same) (d.stands typed);
              stops = d.stops;
              counted = d.counted;
              steps_are = d.steps_are;
              balance = λ h. omega (arith, d.balance h, taken h, ap (λ z. weight h (begun z at end)) kl, ap (λ z. weight h (begun z now last)) kl, ap (λ (t : Option Task). weight h (option_to_list t)) is, ap (λ (v : OwnerView). weight h v.hand.taken) own, ap (λ (v : OwnerView). weight h v.hand.pushed) own, ap (λ (v : OwnerView). weight h v.hand.dealt) own, grown_weight rest mid task put h, ap (λ (k : OwnerKey). weight h k.2) same);
            };
      }

      -- a section stopped
      pub sound_stuck : (one : Stuck) → option_to_list stuck ≡ [] → Performed s x left task m n copies after mid rest (turns.Stopped one) → Sound s x left n.hand more after rest mine (begun k now last) (Some one) count steps short
      sound_stuck one free q = record {
        fits = q.fits;
        did = λ e.
            let d : Did s x left o.hand thieves copies share mine (begun k at end) stuck count steps = i.did e in
            let z : StoppedOne s.program x s.frozen left task copies after one = q.turned.0 in let own = q.turned.1 in let put = q.turned.2 in record {
              entries = d.entries;
              once = z.once;
              leads = subst (Replicates s.program x s.frozen (zeroed_heap x.written s.frozen) d.entries) (sym z.same) d.leads;
              stands = λ typed. subst (StandsFor s.program x s.frozen) (sym z.same) (d.stands typed);
              stops = All-cons (StopsSo s.program x s.frozen left) one [] z.stops (All-nil (StopsSo s.program x s.frozen left));
              counted = d.counted;
              steps_are = d.steps_are;
              balance = λ h. omega (arith, d.balance h, taken h, ap (λ z. weight h (begun z at end)) kl, ap (λ z. weight h (begun z now last)) kl, ap (λ (t : Option Task). weight h (option_to_list t)) is, ap (λ (l : List Stuck). weight h (tasks_of l)) free, ap (λ (t : Task). h t) z.task_is, ap (λ (v : OwnerView). weight h v.hand.taken) own, ap (λ (v : OwnerView). weight h v.hand.pushed) own, ap (λ (v : OwnerView). weight h v.hand.dealt) own, ap (weight h) put, ap (λ (k : OwnerKey). weight h k.2) same);
            };
      }

      pub sound_lost : (turn : Turn) → Performed s x left task m n copies after mid rest turn → Sound s x left n.hand more after rest mine (begun k now last) stuck count steps true
      sound_lost turn q = record { fits = q.fits; did = λ e. absurd (true≢false e) }
