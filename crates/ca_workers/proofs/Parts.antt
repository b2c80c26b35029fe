-- A round of some of what waits, beside which the others stay where they are.
use Rattle.std.proofs.Common.{◌≡◌, ◌<◌, ℕ, Bool, List, [], ◌∷◌, ◌++◌, All, length, length-append, take, drop, Option, Result, Ok, Err, IfOk, refl, sym, ap, ◌∙◌, subst, arith}
use Rattle.std.specs.Prelude.{flat_map}
use Rattle.std.proofs.lemmas.List.{map-append}
use Rattle.std.proofs.lemmas.List.Elements.{All-append, All-take, All-drop, Contains-append_left, Contains-append_right}
use Rattle.ca_base.specs.declared.faults.Memory.{Memory}
use Rattle.ca_program.specs.Plain.{PlainProgram}
use Rattle.ca_model.specs.declared.value.Object.{Object}
use Rattle.ca_meaning.specs.Expressions.{Invocation}
use Rattle.ca_meaning.specs.Multisets.{SameItems}
use Rattle.ca_meaning.specs.WellTyped.{AllWellTyped}
use Rattle.ca_parallel.specs.Extents.{Extent}
use Rattle.ca_order_laws.proofs.Weights.{weight_append}
use Rattle.ca_logs.specs.declared.log.Task.{Task}
use Rattle.ca_logs.specs.declared.log.Stop.{Stop}
use Rattle.ca_logs.specs.declared.log.Entry.{Entry}
use Rattle.ca_logs.specs.declared.log.CellLog.{CellLog}
use Rattle.ca_logs.specs.Entries.{loose_entries, all_entries, ran_in, tasks_in, listed_by, call_of, task_calls}
use Rattle.ca_cells.specs.declared.rule.Given.{Given}
use Rattle.ca_cells.specs.Rounds.{IsGiven, MayRun}
use Rattle.ca_cells.specs.declared.cells.RoundLog.{RoundLog}
use Rattle.ca_cells.specs.Logs.{began_with, logs_in, loose_in}
use Rattle.ca_pool.specs.Gathered.{IsTold}
use Rattle.ca_pool.specs.declared.round.Round.{Round}
use Rattle.ca_pool.specs.Rounded.{Rounded}
use Rattle.ca_pool.proofs.Reading.{entries_told}
use Rattle.ca_workers.specs.clauses.Runs.{MayWait, InCells, RanBy}
use Rattle.ca_workers.proofs.Beginning.{may_run}

typed_before : (p : PlainProgram) (h : List Object) (xs ys : List Invocation) → AllWellTyped p h (xs ++ ys) → AllWellTyped p h xs
typed_before p h [] ys t = tt
typed_before p h (x ∷ xs) ys t = (t.0, typed_before p h xs ys t.1)

typed_behind : (p : PlainProgram) (h : List Object) (xs ys : List Invocation) → AllWellTyped p h (xs ++ ys) → AllWellTyped p h ys
typed_behind p h [] ys t = t
typed_behind p h (x ∷ xs) ys t = typed_behind p h xs ys t.1

module _ (p : PlainProgram) (x : Extent) (frozen h : List Object) (others first : List Task) (w : MayWait p x frozen h (task_calls (others ++ first))) where
  parted : MayWait p x frozen h (task_calls others ++ task_calls first)
  parted = subst (λ (is : List Invocation). MayWait p x frozen h is) (map-append call_of others first) w

  pub others_wait : MayWait p x frozen h (task_calls others)
  others_wait = let v : MayWait p x frozen h (task_calls others ++ task_calls first) = parted in record {
    stands = v.stands;
    typed = typed_before p frozen (task_calls others) (task_calls first) v.typed;
    inside = λ i c. v.inside i (Contains-append_left (task_calls others) (task_calls first) i c);
  }

  pub first_wait : MayWait p x frozen h (task_calls first)
  first_wait = let v : MayWait p x frozen h (task_calls others ++ task_calls first) = parted in record {
    stands = v.stands;
    typed = typed_behind p frozen (task_calls others) (task_calls first) v.typed;
    inside = λ i c. v.inside i (Contains-append_right (task_calls others) (task_calls first) i c);
  }

-- A round of some tasks is one of all, which leaves the others too, but for the number of entries that it makes at least.
pub round_of_all : (given : Given) (left quota : ℕ) (others first : List Task) (logs : List CellLog) (loose : List (List Entry)) (rest : List Task) (stop : Option Stop) →
    All (MayRun given) others → 0 < length first → Rounded given left quota first logs loose rest stop → Rounded given left 0 (others ++ first) logs loose (others ++ rest) stop
round_of_all given left quota others first logs loose rest stop run some r =
    let ran : List Task = tasks_in (ran_in (all_entries logs loose)) in
    let listed : List Task = flat_map listed_by (all_entries logs loose) in
    let same : SameItems (ran ++ rest) (first ++ listed) = r.balanced.tasks in
    record {
      count = r.count;
      legal = r.legal;
      legal_loose = r.legal_loose;
      balanced = record {
        tasks = record {
          weighed = λ f.
              let e = same.weighed f in
              let a = weight_append f ran (others ++ rest) in
              let b = weight_append f others rest in
              let c = weight_append f ran rest in
              let d = weight_append f (others ++ first) listed in
              let g = weight_append f others first in
              let k = weight_append f first listed in
              omega (arith, e, a, b, c, d, g, k);
        };
        stuck = λ e c. Contains-append_right others rest e.task (r.balanced.stuck e c);
      };
      may_run = All-append (MayRun given) others rest run r.may_run;
      first_one = r.first_one;
      stuck = r.stuck;
      stuck_loose = r.stuck_loose;
      some = λ _. r.some some;
      full = λ _ _ _. omega arith;
    }

module _ (given : Given) (p : PlainProgram) (x : Extent) (frozen now : List Object) (is : IsGiven p x frozen now given) (left quota : ℕ) (others first : List Task) (logs : List CellLog) (loose : List (List Entry)) (rest : List Task) (stop : Option Stop) (w : MayWait p x frozen now (task_calls (others ++ first))) (some : 0 < length first) (r : Rounded given left quota first logs loose rest stop) where
  pub rounded_all : Rounded given left 0 (others ++ first) logs loose (others ++ rest) stop
  rounded_all = round_of_all given left quota others first logs loose rest stop (may_run given p x frozen now is others (others_wait p x frozen now others first w)) some r

-- ---- lists of tasks in two parts

pub take_front : (xs ys : List Task) → take (length xs) (xs ++ ys) ≡ xs
take_front [] ys = refl
take_front (x ∷ xs) ys = ap (λ (zs : List Task). x ∷ zs) (take_front xs ys)

pub drop_front : (xs ys : List Task) → drop (length xs) (xs ++ ys) ≡ ys
drop_front [] ys = refl
drop_front (x ∷ xs) ys = drop_front xs ys

-- all of them begin a round, the others and the first ones
pub all_begin : (others first all : List Task) → all ≡ others ++ first → All (λ (t : Task). t.after ≡ 0) all → All (λ (t : Task). t.after ≡ 0) others × All (λ (t : Task). t.after ≡ 0) first
all_begin others first all is begins =
    let these : All (λ (t : Task). t.after ≡ 0) (others ++ first) = subst (λ (ts : List Task). All (λ (t : Task). t.after ≡ 0) ts) is begins in (
      subst (λ (ts : List Task). All (λ (t : Task). t.after ≡ 0) ts) (take_front others first) (All-take (λ (t : Task). t.after ≡ 0) (length others) (others ++ first) these),
      subst (λ (ts : List Task). All (λ (t : Task). t.after ≡ 0) ts) (drop_front others first) (All-drop (λ (t : Task). t.after ≡ 0) (length others) (others ++ first) these),
    )

pub all_together : (others rest all : List Task) → all ≡ others ++ rest → All (λ (t : Task). t.after ≡ 0) others → All (λ (t : Task). t.after ≡ 0) rest → All (λ (t : Task). t.after ≡ 0) all
all_together others rest all is one two = subst (λ (ts : List Task). All (λ (t : Task). t.after ≡ 0) ts) (sym is) (All-append (λ (t : Task). t.after ≡ 0) others rest one two)

pub some_of : (others first : List Task) → 0 < length first → 0 < length (others ++ first)
some_of others first lt = let n = length-append others first in omega (arith, lt, n)

-- a run of the others and the first ones, which leaves the others and what begins anew
pub went_on : (p : PlainProgram) (frozen now : List Object) (others first all : List Task) → all ≡ others ++ first → (left : ℕ) (after : List Object) (rest anew : List Task) → task_calls anew ≡ task_calls rest →
    (more : List Task) → more ≡ others ++ anew → (order : List Invocation) (steps : ℕ) → RanBy p frozen now (task_calls (others ++ first)) left after (task_calls (others ++ rest)) order steps → RanBy p frozen now (task_calls all) left after (task_calls more) order steps
went_on p frozen now others first all is left after rest anew same more behind order steps r =
    let calls : task_calls more ≡ task_calls (others ++ rest) = ap task_calls behind ∙ (map-append call_of others anew ∙ (ap (λ (js : List Invocation). task_calls others ++ js) same ∙ sym (map-append call_of others rest))) in
    subst (λ (ts : List Task). RanBy p frozen now (task_calls ts) left after (task_calls more) order steps) (sym is)
    (subst (λ (js : List Invocation). RanBy p frozen now (task_calls (others ++ first)) left after js order steps) (sym calls) r)

-- what a round answers, in its cells
pub in_cells : (p : PlainProgram) (x : Extent) (frozen now : List Object) (left quota : ℕ) (first : List Task) (given : Given) → IsGiven p x frozen now given → (k keeps : Bool) → k ≡ keeps → (r : Result Round Memory) →
    IfOk r (λ q. (began_with q.log ≡ now) × IsTold q.log) → IfOk r (λ q. q.log.keeps ≡ k) → IfOk r (λ q. Rounded given left quota first (logs_in q.log) (loose_in q.log) q.rest.items q.stop) → IfOk r (InCells p x frozen now left quota first keeps)
in_cells p x frozen now left quota first given is k keeps same (Ok q) tells kept rounded = record { given = given; is = is; began = tells.0; told = tells.1; kept = kept ∙ same; rounded = rounded }
in_cells p x frozen now left quota first given is k keeps same (Err e) tells kept rounded = tt

-- what is read off the touched histories and the loose lists is read off all
pub told_entries : (log : RoundLog) → IsTold log → (logs : List CellLog) (loose : List (List Entry)) → logs ≡ log.logs.items → loose ≡ loose_in log → all_entries logs loose ≡ all_entries (logs_in log) (loose_in log)
told_entries log told logs loose a b =
    ap (λ (ls : List CellLog). all_entries ls loose) a
    ∙ (ap (λ (es : List Entry). es ++ loose_entries loose) (sym (entries_told log told)) ∙ ap (λ (ls : List (List Entry)). all_entries (logs_in log) ls) b)
