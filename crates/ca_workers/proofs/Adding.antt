-- A round of replicas, as a run of the pending machine.
use Rattle.std.proofs.Common.{◌≡◌, ◌≢◌, ◌≤◌, ◌<◌, ◌-◌, ℕ, zero, suc, true, List, [], ◌∷◌, ◌++◌, All, Option, Some, None, length, refl, ap, sym, subst, ◌∙◌, arith}
use Rattle.std.specs.Prelude.{slice_get, Contains, is_some}
use Rattle.std.proofs.lemmas.List.{map-append, length-map}
use Rattle.std.proofs.lemmas.List.Elements.{Contains-append_left, Contains-append_right, Contains-push}
use mathlib.Core.Logic.{dite}
use native.Mathlib.Decide.{dec_le}
use Rattle.ca_program.specs.declared.program.OpId.{OpId}
use Rattle.ca_program.specs.Plain.{PlainProgram}
use Rattle.ca_model.specs.declared.value.Object.{Object}
use Rattle.ca_meaning.specs.Expressions.{Invocation}
use Rattle.ca_meaning.specs.Multisets.{SameItems}
use Rattle.ca_meaning.specs.Sections.{Outcome, Sectioned, section, done, stopped, over}
use Rattle.ca_meaning.specs.WellTyped.{AllWellTyped, IsMethodOf, IsTypedObject}
use Rattle.ca_meaning.specs.Agree.{Agree}
use Rattle.ca_parallel.specs.Extents.{Extent}
use Rattle.ca_parallel.specs.ExtentsOf.{ExtentOf}
use Rattle.ca_order_laws.specs.Complete.{DoneBy}
use Rattle.ca_order_laws.specs.Order.{AllInside}
use Rattle.ca_order_laws.specs.Pending.{PendingRun, rests, runs}
use Rattle.ca_order_laws.proofs.Complete.{sections_end}
use Rattle.ca_order_laws.proofs.PendingRuns.{run_same}
use Rattle.ca_order_laws.proofs.Setting.{GoodObject, method_of}
use Rattle.ca_order_laws.proofs.Weights.{weight_append}
use Rattle.ca_logs.specs.declared.log.Task.{Task}
use Rattle.ca_logs.specs.declared.log.Entry.{Entry}
use Rattle.ca_logs.specs.declared.log.Stop.{Stop}
use Rattle.ca_logs.specs.Entries.{ran_in, stuck_in, tasks_in, call_of, task_calls}
use Rattle.ca_logs.specs.LogOrder.{ordered}
use Rattle.ca_logs.specs.Laws.{steps_of}
use Rattle.ca_logs.proofs.Orders.{weight_ordered}
use Rattle.ca_logs.proofs.Paths.{keeps_ran}
use Rattle.ca_pool.proofs.OneMore.{counted}
use Rattle.ca_run.specs.Turns.{RanTo}
use Rattle.ca_sum_laws.specs.Summed.{HasOnlySums}
use Rattle.ca_sum_laws.specs.Moves.{EndsAlike, both_done, both_stopped, both_over}
use Rattle.ca_sum_laws.specs.Replicas.{MayRun}
use Rattle.ca_sum_laws.proofs.OnlySums.{separable_summed}
use Rattle.ca_sum_laws.proofs.Alike.{move_alike}
use Rattle.ca_sum_laws.proofs.Entering.{GoodHeap, good_heap, frozen_stands, agree_both}
use Rattle.ca_replica.specs.Adding.{Once}
use Rattle.ca_replica.specs.Applied.{IsRound}
use Rattle.ca_replica.specs.Together.{added_one_by_one}
use Rattle.ca_replica.proofs.Once.{rising_once}
use Rattle.ca_sum_pool.specs.declared.round.SummedRound.{SummedRound}
use Rattle.ca_sum_pool.specs.Rounded.{IsStop, IsSum, first_stop, copies_in, StopsThere, Rounded}
use Rattle.ca_workers.specs.clauses.Runs.{IsSetting, MayWait, NoneWithin}
use Rattle.ca_workers.proofs.Behind.{overrun, stuck, still_waits}
use Rattle.ca_workers.proofs.Logs.{TakenOut, keeps_stuck, some_stop, steps_for_each, taken_out}

-- ---- a run beside which others wait

run_beside : {p : PlainProgram} {frozen last : List Object} {rest es : List Invocation} {h : List Object} {is : List Invocation} {s : ℕ} (more : List Invocation) → PendingRun p frozen last rest es h is s → PendingRun p frozen last (rest ++ more) es h (is ++ more) s
run_beside {rest = rest} more (rests ps same) = rests (ps ++ more) record { weighed = λ f. let a = same.weighed f in let b = weight_append f ps more in let c = weight_append f rest more in omega arith }
run_beside {rest = rest} more (runs a es h ps others o r s same found sec tail) =
    runs a es h (ps ++ more) (others ++ more) o r s
    record { weighed = λ f. let x = same.weighed f in let q = weight_append f ps more in let u = weight_append f others more in omega arith }
    found sec
    (run_same (r.listed ++ (others ++ more)) record { weighed = λ f. let p = weight_append f (r.listed ++ others) more in let p1 = weight_append f r.listed others in let p2 = weight_append f others more in let p3 = weight_append f r.listed (others ++ more) in omega arith } (run_beside more tail))

run_behind : {p : PlainProgram} {frozen last : List Object} {rest es : List Invocation} {h : List Object} {is : List Invocation} {s : ℕ} (more : List Invocation) → PendingRun p frozen last rest es h is s → PendingRun p frozen last (more ++ rest) es h (more ++ is) s
run_behind {rest = rest} {is = is} more run =
    rest_same record { weighed = λ f. let a = weight_append f rest more in let b = weight_append f more rest in omega arith }
    (run_same (more ++ is) record { weighed = λ f. let a = weight_append f more is in let b = weight_append f is more in omega arith } (run_beside more run))
  where
    rest_same : {p : PlainProgram} {frozen last : List Object} {rest others es : List Invocation} {h : List Object} {is : List Invocation} {s : ℕ} → SameItems rest others → PendingRun p frozen last rest es h is s → PendingRun p frozen last others es h is s
    rest_same e (rests ps same) = rests ps record { weighed = λ f. same.weighed f ∙ e.weighed f }
    rest_same e (runs a es h ps others o r s same found sec tail) = runs a es h ps others o r s same found sec (rest_same e tail)

-- ---- an extent's written fields

pub extents_once : (p : PlainProgram) (roots : List OpId) (x : Extent) → ExtentOf p roots x → Once x.written
extents_once p roots x of = rising_once x.written of.written

-- ---- entries

-- where none has a stop all ran
all_ran : (es : List Entry) → stuck_in es ≡ [] → es ≢ [] → ran_in es ≢ []
all_ran [] e ne none = ne refl
all_ran (x ∷ es) e ne none = from x.stop refl
  where
    from : (s : Option Stop) → x.stop ≡ s → ⊥
    from None q = let z : x ∷ ran_in es ≡ [] = sym (keeps_ran x es q) ∙ none in cc
    from (Some w) q = let z : x ∷ stuck_in es ≡ [] = sym (keeps_stuck x es w q) ∙ e in cc

record HasFirst (es : List Entry) (why : Stop) : Type 0 where
  entry : Entry
  there : Contains es entry
  stop : entry.stop ≡ Some why

has_first : (es : List Entry) (why : Stop) → first_stop es ≡ Some why → HasFirst es why
has_first [] why e = cc
has_first (x ∷ es) why e = record { entry = x; there = Contains-append_left (x ∷ []) es x (Contains-push [] x); stop = e }

some_length : (es : List Entry) → es ≢ [] → 0 < length es
some_length [] ne = absurd (ne refl)
some_length (x ∷ es) ne = omega arith

-- a section that isn't done on the frozen object
is_no_stop : (s : Sectioned) (m : Outcome) (why : Stop) → s ≡ done m → IsStop s why → ⊥
is_no_stop (done n) m why e i = i
is_no_stop (stopped t) m why e i = cc
is_no_stop over m why e i = cc

no_other : (o q : Object) (m : Outcome) (y z : Sectioned) → y ≡ done m → ((n : Outcome) → ¬ (z ≡ done n)) → EndsAlike o q y z → ⊥
no_other o q m y z e none (both_done a b alike) = none b refl
no_other o q m y z e none (both_stopped t) = cc
no_other o q m y z e none both_over = cc

module _ (p : PlainProgram) (x : Extent) (frozen : List Object) (set : IsSetting p x frozen) (sums : (op : OpId) → Contains x.ops op → HasOnlySums p x.written op) where
  pub is_round : IsRound p x frozen
  is_round = record { program = set.program; roots = set.roots; is = set.extent; parallel = set.parallel; summed = λ op c. separable_summed p x.written op (set.parallel.separable op c) (sums op c); heap = set.heap }

  sums_run : (ts : List Task) → AllWellTyped p frozen (task_calls ts) → AllInside x (task_calls ts) → All (MayRun p x frozen) ts
  sums_run [] t i k d l = absurd (omega (arith, l))
  sums_run (u ∷ ts) t i zero d l = record { typed = t.0; inside = i (call_of u) (Contains-append_left (call_of u ∷ []) (task_calls ts) (call_of u) (Contains-push [] (call_of u))) }
  sums_run (u ∷ ts) t i (suc k) d l = sums_run ts t.1 (λ j c. i j (Contains-append_right (call_of u ∷ []) (task_calls ts) j c)) k d (omega (arith, l))

  pub sums_may_run : (now : List Object) (ts : List Task) → MayWait p x frozen now (task_calls ts) → All (MayRun p x frozen) ts
  sums_may_run now ts w = sums_run ts w.typed w.inside

  module _ (now : List Object) (others first : List Task) (w : MayWait p x frozen now (task_calls (others ++ first))) (left quota : ℕ) (r : SummedRound) (d : Rounded p x frozen left quota first r) where
    abbrev rest : List Task
    rest = r.rest.items

    abbrev pub after : List Object
    after = added_one_by_one x.written (copies_in r.replicas.items) now

    abbrev order : List Invocation
    order = task_calls (tasks_in (ordered (ran_in d.entries)))

    abbrev steps : ℕ
    steps = steps_of (ordered (ran_in d.entries))

    ran : PendingRun p frozen after (task_calls rest) order now (task_calls first) steps
    ran = d.run now w.stands

    all : PendingRun p frozen after (task_calls (others ++ rest)) order now (task_calls (others ++ first)) steps
    all = subst (λ is. PendingRun p frozen after is order now (task_calls (others ++ first)) steps) (sym (map-append call_of others rest))
        (subst (λ is. PendingRun p frozen after (task_calls others ++ task_calls rest) order now is steps) (sym (map-append call_of others first)) (run_behind (task_calls others) ran))

    -- it took more steps than are left
    pub sums_passed : r.steps ≡ None → NoneWithin p frozen now (task_calls (others ++ first)) left
    sums_passed e = overrun p x frozen set now (task_calls (others ++ first)) w after (task_calls (others ++ rest)) order steps all left (subst (IsSum left steps) e d.counted)

    none_stuck : (es : List Entry) → ((e : Entry) → Contains es e → StopsThere p frozen left e) → first_stop es ≡ None → es ≡ []
    none_stuck [] f e = refl
    none_stuck (y ∷ es) f e = let z : StopsThere p frozen left y = f y (Contains-append_left (y ∷ []) es y (Contains-push [] y)) in absurd (no_some z.why (sym z.stop ∙ e))
      where
        no_some : (why : Stop) → Some why ≡ None → ⊥
        no_some why e = cc

    pub sums_went : r.stop ≡ None → 0 < length first → (n : ℕ) → r.steps ≡ Some n → RanTo p frozen now (task_calls (others ++ first)) left after (task_calls (others ++ rest)) n × (0 < n)
    sums_went e lt n is =
        let s = subst (IsSum left steps) is d.counted in
        let same : n ≡ steps = s.0 in
        let le : steps ≤ left = s.1 in
        let none : stuck_in d.entries ≡ [] = none_stuck (stuck_in d.entries) d.stuck (sym d.stop_is ∙ e) in
        let some : 0 < length (ran_in d.entries) = some_length (ran_in d.entries) (all_ran d.entries none (d.balanced.some (λ z. let short = ap length z in absurd (omega (arith, short, lt))))) in
        let long : length order ≤ steps = steps_for_each all in
        let one : length order ≡ length (ordered (ran_in d.entries)) = length-map (tasks_in (ordered (ran_in d.entries))) call_of ∙ length-map (ordered (ran_in d.entries)) (λ (y : Entry). y.task) in (
          record { order = order; run = subst (λ k. PendingRun p frozen after (task_calls (others ++ rest)) order now (task_calls (others ++ first)) k) (sym same) all; within = omega (arith, same, le) },
          omega (arith, some, long, one, same, counted (ordered (ran_in d.entries)), counted (ran_in d.entries), weight_ordered (λ (y : Entry). 1) (ran_in d.entries)),
        )

    -- a section stopped
    pub sums_stopped : is_some r.stop ≡ true → NoneWithin p frozen now (task_calls (others ++ first)) left
    sums_stopped some = dite (dec_le steps left) within (λ gt. overrun p x frozen set now (task_calls (others ++ first)) w after (task_calls (others ++ rest)) order steps all left (omega (arith, gt)))
      where
        cause : (why : Stop) × (r.stop ≡ Some why)
        cause = some_stop r.stop some

        one : HasFirst (stuck_in d.entries) cause.0
        one = has_first (stuck_in d.entries) cause.0 (sym d.stop_is ∙ cause.1)

        task : Task
        task = one.entry.task

        stops : StopsThere p frozen left one.entry
        stops = d.stuck one.entry one.there

        out : TakenOut (others ++ rest) task
        out = taken_out (others ++ rest) task (Contains-append_right others rest task (d.balanced.stuck one.entry one.there))

        round : IsRound p x frozen
        round = is_round

        may : MayRun p x frozen task
        may = let c = d.balanced.stuck one.entry one.there in subst (λ (z : Task). MayRun p x frozen z) c.2 (d.may_run c.0 task c.1)

        undone : (k : ℕ) → k ≤ left → (o : Object) (m : Outcome) → slice_get after task.op.receiver ≡ Some o → ¬ (section p frozen task.op.receiver o task.op.op task.op.args k ≡ done m)
        undone k le o m found s =
            let v : MayWait p x frozen after (task_calls (others ++ rest)) = still_waits p x frozen set now (task_calls (others ++ first)) w after (task_calls (others ++ rest)) order steps all in
            let g : GoodHeap p round.program round.roots x round.is round.parallel round.summed frozen round.heap after = good_heap p round.program round.roots x round.is round.parallel round.summed frozen round.heap after v.stands in
            let f : GoodHeap p round.program round.roots x round.is round.parallel round.summed frozen round.heap frozen = frozen_stands p round.program round.roots x round.is round.parallel round.summed frozen round.heap in
            let go : GoodObject p x frozen task.op.receiver o = g.objects task.op.receiver o found in
            let gq : GoodObject p x frozen task.op.receiver stops.object = f.objects task.op.receiver stops.object stops.there in
            let agree : Agree x.written o stops.object = agree_both p round.program round.roots x round.is round.parallel round.summed frozen round.heap task.op.receiver o stops.object go gq in
            let of_class : IsMethodOf (slice_get p.ops task.op.op.0) o.class = method_of p x.written frozen (call_of task) o go.agrees may.typed in
            let tq : IsTypedObject p frozen o.class stops.object = subst (λ c. IsTypedObject p frozen c stops.object) (sym agree.class) gq.typed in
            let b : DoneBy (λ n j. section p frozen task.op.receiver o task.op.op task.op.args j ≡ done n) m m.steps = sections_end p frozen (call_of task) o m (k, s) in
            let few : m.steps ≤ k = (b.only k m s).1 in
            let whole : section p frozen task.op.receiver o task.op.op task.op.args left ≡ done m = b.within left (let z : m.steps ≤ left = omega (arith, few, le) in z) in
            no_other o stops.object m _ _ whole (λ n e. is_no_stop _ n stops.why e stops.section)
            (move_alike p round.program x frozen round.heap (call_of task) (round.summed task.op.op may.inside) may.typed o.class of_class o stops.object go.typed tq agree left)

        within : steps ≤ left → NoneWithin p frozen now (task_calls (others ++ first)) left
        within le = stuck p x frozen set now (task_calls (others ++ first)) w left (record {
          mid = after;
          rest = task_calls (others ++ rest);
          steps = steps;
          ran = record { order = order; run = all; within = le };
          stuck = record { call = call_of task; others = out.others; waited = out.same; none = undone (left - steps) (omega arith) };
        })
