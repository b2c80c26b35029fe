-- Calls of a list, which are lent, and tasks behind them.
use Rattle.std.proofs.Common.{◌≡◌, ◌<◌, ◌≤◌, ◌+◌, ◌-◌, ℕ, zero, suc, List, [], ◌∷◌, ◌++◌, All, length, map, take, drop, append_assoc, append-nil, length-append, refl, ap, sym, subst, ◌∙◌, arith}
use Rattle.std.proofs.lemmas.List.{map-append, length-map, take-append-drop, take_all, drop_all}
use Rattle.std.proofs.lemmas.List.Elements.{All-append, All-nil, All-take, All-drop}
use Rattle.ca_parallel.specs.declared.op.Op.{Op}
use Rattle.ca_parallel.specs.Calls.{invocations_of}
use Rattle.ca_meaning.specs.Expressions.{Invocation}
use Rattle.ca_program.specs.Plain.{PlainProgram}
use Rattle.ca_model.specs.declared.value.Object.{Object}
use Rattle.ca_logs.specs.declared.log.Task.{Task}
use Rattle.ca_logs.specs.Entries.{task_after, call_of, task_calls}
use Rattle.ca_parallel.specs.Extents.{Extent}
use Rattle.ca_run.specs.Turns.{RanTo}
use Rattle.ca_sum_laws.specs.Replicas.{MayRun}
use Rattle.ca_workers.specs.clauses.Runs.{with_lent}
use Rattle.ca_workers.proofs.Beginning.{calls_of_tasks, task_calls_are, tasks_begin}
use Rattle.ca_workers.proofs.Parts.{take_front, drop_front}

abbrev begun : List Op → List Task
begun calls = map (task_after 0) calls

-- all of those from a place on
pub all_behind : (calls : List Op) (from : ℕ) → take (length calls - from) (drop from calls) ≡ drop from calls
all_behind calls from = whole (length calls - from) (drop from calls) (behind from calls)
  where
    whole : (n : ℕ) (os : List Op) → length os ≤ n → take n os ≡ os
    whole zero [] le = refl
    whole zero (o ∷ os) le = absurd (omega (arith, le))
    whole (suc n) [] le = refl
    whole (suc n) (o ∷ os) le = ap (λ (rest : List Op). o ∷ rest) (whole n os (omega (arith, le)))

    behind : (n : ℕ) (os : List Op) → length (drop n os) ≤ length os - n
    behind zero os = omega arith
    behind (suc n) [] = omega arith
    behind (suc n) (o ∷ os) = let le = behind n os in omega (arith, le)

-- the calls from a place on with the tasks that go into a round, behind those before it with the others
pub parted_lent : (calls : List Op) (from : ℕ) (others first all : List Task) → all ≡ others ++ first → (0 < length others → from ≡ length calls) → with_lent calls all ≡ with_lent (take from calls) others ++ with_lent (drop from calls) first
parted_lent calls from [] first all is none =
    let parts : begun calls ≡ begun (take from calls) ++ begun (drop from calls) = ap begun (sym (take-append-drop from calls)) ∙ map-append (task_after 0) (take from calls) (drop from calls) in
    ap (λ (ts : List Task). begun calls ++ ts) is
    ∙ (ap (λ (ts : List Task). ts ++ first) parts
    ∙ (append_assoc (begun (take from calls)) (begun (drop from calls)) first ∙ ap (λ (ts : List Task). ts ++ (begun (drop from calls) ++ first)) (sym (append-nil (begun (take from calls))))))
parted_lent calls from (o ∷ os) first all is none =
    let here : from ≡ length calls = none (omega arith) in
    let le : length calls ≤ from = omega (arith, here) in
    let whole : begun (take from calls) ≡ begun calls = ap begun (take_all from calls le) in
    let empty : begun (drop from calls) ≡ [] = ap begun (drop_all from calls le) in
    ap (λ (ts : List Task). begun calls ++ ts) is
    ∙ (sym (append_assoc (begun calls) (o ∷ os) first)
    ∙ (ap (λ (ts : List Task). (ts ++ (o ∷ os)) ++ first) (sym whole) ∙ ap (λ (ts : List Task). (begun (take from calls) ++ (o ∷ os)) ++ (ts ++ first)) (sym empty)))

-- a round gets a call or a task
pub some_lent : (calls : List Op) (from most : ℕ) (others first all : List Task) → all ≡ others ++ first → (0 < length all → 0 < length first) → from ≤ length calls → (length others ≡ 0 → length first ≡ 0 → 0 < most → 0 < length calls → from < length calls) → 0 < most → 0 < length calls + length all → 0 < length (drop from calls) + length first
some_lent calls from most others first all is some within less lt any = from_first first refl
  where
    many : length all ≡ length others + length first
    many = ap length is ∙ length-append others first

    parts : length calls ≡ length (take from calls) + length (drop from calls)
    parts = ap length (sym (take-append-drop from calls)) ∙ length-append (take from calls) (drop from calls)

    from_first : (ts : List Task) → first ≡ ts → 0 < length (drop from calls) + length first
    from_first (t ∷ ts) e = let long = ap length e in omega (arith, long)
    from_first [] e =
        let none : length first ≡ 0 = ap length e in
        let no_task : ¬ (0 < length all) = λ a. let b = some a in omega (arith, b, none) in
        let left : length others ≡ 0 = omega (arith, many, no_task) in
        let f : from < length calls = less left none lt (omega (arith, any, many, left, none)) in
        let short = take_shorter from calls in
        omega (arith, parts, short, f)
      where
        take_shorter : (n : ℕ) (os : List Op) → length (take n os) ≤ n
        take_shorter zero os = omega arith
        take_shorter (suc n) [] = omega arith
        take_shorter (suc n) (o ∷ os) = let a = take_shorter n os in omega (arith, a)

pub some_in_round : (calls : List Op) (ts : List Task) → 0 < length calls + length ts → 0 < length (with_lent calls ts)
some_in_round calls ts lt = let n = length-append (begun calls) ts in let m = length-map calls (task_after 0) in omega (arith, n, m, lt)

-- calls and tasks that may run
pub both_run : (p : PlainProgram) (x : Extent) (frozen : List Object) (calls : List Op) (ts : List Task) → All (MayRun p x frozen) (with_lent calls ts) → All (MayRun p x frozen) (begun calls) × All (MayRun p x frozen) ts
both_run p x frozen calls ts h = (
  subst (All (MayRun p x frozen)) (take_front (begun calls) ts) (All-take (MayRun p x frozen) (length (begun calls)) (with_lent calls ts) h),
  subst (All (MayRun p x frozen)) (drop_front (begun calls) ts) (All-drop (MayRun p x frozen) (length (begun calls)) (with_lent calls ts) h),
)

-- all of them begin a round
pub lent_begin : (calls : List Op) (ts : List Task) → All (λ (t : Task). t.after ≡ 0) ts → All (λ (t : Task). t.after ≡ 0) (with_lent calls ts)
lent_begin calls ts h = All-append (λ (t : Task). t.after ≡ 0) (begun calls) ts (tasks_begin calls) h

pub none_begin : (ts : List Task) → ts ≡ [] → All (λ (t : Task). t.after ≡ 0) ts
none_begin ts none = subst (All (λ (t : Task). t.after ≡ 0)) (sym none) (All-nil (λ (t : Task). t.after ≡ 0))

-- calls that are lent, behind which no task waits
pub lent_calls : (calls : List Op) (ts : List Task) → ts ≡ [] → task_calls (with_lent calls ts) ≡ invocations_of calls
lent_calls calls ts none = ap (λ us. task_calls (begun calls ++ us)) none ∙ (ap task_calls (append-nil (begun calls)) ∙ calls_of_tasks calls)

-- calls that are lent, and tasks of others behind them
pub both_calls : (calls ws : List Op) (ts : List Task) → ts ≡ map (task_after 0) ws → task_calls (with_lent calls ts) ≡ invocations_of calls ++ invocations_of ws
both_calls calls ws ts is = map-append call_of (begun calls) ts
    ∙ (ap (λ (js : List Invocation). js ++ task_calls ts) (calls_of_tasks calls) ∙ ap (λ (js : List Invocation). invocations_of calls ++ js) (task_calls_are ws ts is))

-- neither calls nor tasks
pub none_wait : (calls : List Op) (ts : List Task) → length calls + length ts ≡ 0 → task_calls (with_lent calls ts) ≡ []
none_wait [] [] e = refl
none_wait [] (t ∷ ts) e = absurd (omega (arith, e))
none_wait (o ∷ os) ts e = absurd (omega (arith, e))

-- where none of so many are counted there are none
pub none_left : (n counted : ℕ) → (0 < n → 0 < counted) → counted ≤ 0 → n ≡ 0
none_left zero counted some none = refl
none_left (suc n) counted some none = absurd (let one = some (omega arith) in omega (arith, one, none))

-- what a round of some leaves
pub lent_went : (p : PlainProgram) (frozen now : List Object) (kept : List Op) (others first waits : List Task) → waits ≡ with_lent kept others ++ first → (left : ℕ) (after : List Object) (rest anew : List Task) → task_calls anew ≡ task_calls rest →
    (more : List Task) → more ≡ others ++ anew → (steps : ℕ) → RanTo p frozen now (task_calls (with_lent kept others ++ first)) left after (task_calls (with_lent kept others ++ rest)) steps × (0 < steps) → RanTo p frozen now (task_calls waits) left after (task_calls (with_lent kept more)) steps × (0 < steps)
lent_went p frozen now kept others first waits is left after rest anew same more behind steps r =
    let calls : task_calls (with_lent kept more) ≡ task_calls (with_lent kept others ++ rest) =
    ap (λ ts. task_calls (begun kept ++ ts)) behind
    ∙ (ap task_calls (sym (append_assoc (begun kept) others anew))
    ∙ (map-append call_of (with_lent kept others) anew ∙ (ap (λ (js : List Invocation). task_calls (with_lent kept others) ++ js) same ∙ sym (map-append call_of (with_lent kept others) rest)))) in (
      subst (λ (ts : List Task). RanTo p frozen now (task_calls ts) left after (task_calls (with_lent kept more)) steps) (sym is)
          (subst (λ (js : List Invocation). RanTo p frozen now (task_calls (with_lent kept others ++ first)) left after js steps) (sym calls) r.0),
      r.1,
    )
