-- What is known of a worker's part of a round with replicas, and the equation that it keeps.
use Rattle.std.specs.Prelude.{ℕ, zero, suc, ◌≡◌, ◌≢◌, ◌<◌, ◌≤◌, ◌+◌, ◌-◌, ◌⊎◌, nat_lt, cond, Bool, true, false, List, [], ◌∷◌, ◌++◌, length, map, flat_map, reverse, option_to_list, All, Contains, Option, Some, None, slice_get}
use Rattle.ca_program.specs.Plain.{PlainProgram}
use Rattle.ca_model.specs.declared.value.Object.{Object}
use Rattle.ca_model.specs.Typed.{TypedHeap}
use Rattle.ca_meaning.specs.Multisets.{weight, SameItems}
use Rattle.ca_meaning.specs.Sections.{section}
use Rattle.ca_parallel.specs.declared.op.Op.{Op}
use Rattle.ca_parallel.specs.Extents.{Extent}
use Rattle.ca_order_laws.specs.Order.{StandsFor}
use Rattle.ca_logs.specs.declared.log.Task.{Task}
use Rattle.ca_logs.specs.declared.log.Entry.{Entry}
use Rattle.ca_logs.specs.declared.log.Stop.{Stop}
use Rattle.ca_logs.specs.Entries.{listed_by, task_after, tasks_in}
use Rattle.ca_logs.specs.Laws.{steps_of}
use Rattle.ca_deques.specs.declared.rule.Hand.{Hand}
use Rattle.ca_deques.specs.Settings.{Setting, AllFit}
use Rattle.ca_deques.specs.Thieves.{OwnerView, OwnerKey, ThiefView, ThiefKey, owner_key, key_of, taken_by, dealt_by, pushed_by, taken_by_thief}
use Rattle.ca_deques.specs.Settling.{all_of as all_thieves}
use Rattle.ca_beside.specs.declared.beside.Changed.{Changed}
use Rattle.ca_beside.specs.Beside.{AreDistinct}
use Rattle.ca_sum_laws.specs.Replicas.{MayRun, Replicates, AreBalanced}
use Rattle.ca_replica.specs.Zeroed.{zeroed_heap}
use Rattle.ca_replica.specs.Applied.{sums}
use Rattle.ca_replica.specs.Together.{Worker, all_entries, copies_of}
use Rattle.ca_sum_pool.specs.declared.next.Next.{Next}
use Rattle.ca_sum_pool.specs.declared.next.Next.TheVariants as nexts
use Rattle.ca_sum_pool.specs.declared.performing.Stuck.{Stuck}
use Rattle.ca_sum_pool.specs.declared.performing.Went.{Went}
use Rattle.ca_sum_pool.specs.declared.performing.Went.TheVariants as went
use Rattle.ca_sum_pool.specs.declared.performing.Turn.{Turn}
use Rattle.ca_sum_pool.specs.declared.performing.Turn.TheVariants as turns
use Rattle.ca_sum_pool.specs.declared.working.Left.{Left}
use Rattle.ca_sum_pool.specs.Rounded.{IsStop, IsSum, copies_in, last_clock}

-- no operations
abbrev pub no_extent : Extent
no_extent = record { ops = []; functions = []; written = [] }

abbrev pub setting_of : PlainProgram → Extent → List Object → Setting
setting_of p x frozen = record { program = p; frozen = frozen; ops = x.ops }

-- ---- calls of a list

-- a task for each call of the list from one place on, up to another: it begins the round
abbrev pub begun : List Op → ℕ → ℕ → List Task
begun [] at end = []
begun (o ∷ os) at zero = []
begun (o ∷ os) zero (suc end) = task_after 0 o ∷ begun os zero end
begun (o ∷ os) (suc at) (suc end) = begun os at end

-- the call at a place before the end was taken, and the place moved on; or none was
abbrev pub Took : List Op → ℕ → ℕ → ℕ → Option Op → Type 0
Took calls old new end None = new ≡ old
Took calls old new end (Some o) = (old < end) × (slice_get calls old ≡ Some o) × (new ≡ old + 1)

-- what a worker runs next, as a task
abbrev pub next_task : Next → Task
next_task (nexts.Own t) = t
next_task (nexts.Call o) = task_after 0 o.now

abbrev pub taken_of : Option Next → Option Task
taken_of None = None
taken_of (Some n) = Some (next_task n)

-- ---- sums of steps

abbrev pub sum_within : ℕ → Option ℕ → ℕ → Option ℕ
sum_within left None steps = None
sum_within left (Some n) steps = cond (nat_lt left n) None (cond (nat_lt (left - n) steps) None (Some (n + steps)))

abbrev pub sums_within : ℕ → Option ℕ → Option ℕ → Option ℕ
sums_within left taken None = None
sums_within left taken (Some steps) = sum_within left taken steps

-- ---- entries

-- the entry of a task whose section is done
abbrev pub ran_entry : Task → List Op → ℕ → Entry
ran_entry t ops steps = record { task = t; clock = suc t.after; steps = steps; invoked = ops; stop = None }

-- the entry of a task whose section stopped
abbrev pub stuck_entry : Stuck → Entry
stuck_entry s = record { task = s.task; clock = suc s.task.after; steps = 0; invoked = []; stop = Some s.why }

abbrev pub tasks_of : List Stuck → List Task
tasks_of ss = map (λ (s : Stuck). s.task) ss

-- why the first of these stopped
abbrev pub first_why : List Stuck → Option Stop
first_why [] = None
first_why (s ∷ ss) = Some s.why

-- the task may run, and its section stops so on the frozen object
pub record StopsSo (p : PlainProgram) (x : Extent) (frozen : List Object) (left : ℕ) (s : Stuck) : Type 0 where
  pub may : MayRun p x frozen s.task
  pub object : Object
  pub there : slice_get frozen s.task.op.receiver ≡ Some object
  pub section : IsStop (section p frozen s.task.op.receiver object s.task.op.op s.task.op.args left) s.why

abbrev pub ran_weight : (Task → ℕ) → List Entry → ℕ
ran_weight h es = weight (λ (e : Entry). h e.task) es

abbrev pub made_weight : (Task → ℕ) → List Entry → ℕ
made_weight h es = weight (λ (e : Entry). weight h (listed_by e)) es

-- ---- one task

module _ (p : PlainProgram) (x : Extent) (frozen : List Object) where
  -- from copies that begin at 0 the entries lead to these
  abbrev pub Leads : List Entry → List Changed → Type 0
  Leads entries copies = Replicates p x frozen (zeroed_heap x.written frozen) entries (sums x.written frozen copies)

  -- The task's section is done on the copy, took so many steps, and lists these operations: whatever entries led to the
  -- copies before it, with this one behind them they lead to those after it.
  pub record RanOne (task : Task) (before after : List Changed) (ops : List Op) (steps : ℕ) : Type 0 where
    pub once : AreDistinct after
    pub further : (entries : List Entry) → Leads entries before → Leads (entries ++ ran_entry task ops steps ∷ []) after
    pub fits : AllFit (setting_of p x frozen) (map (task_after (suc task.after)) ops)
    pub stands : StandsFor p x frozen (sums x.written frozen after)

  -- Sections are done, one behind the other, in so many steps: whatever entries led to the copies before them, with these behind
  -- them they lead to those after.
  pub record RanAll (entries : List Entry) (before after : List Changed) (steps : ℕ) : Type 0 where
    pub some : 0 < length entries
    pub once : AreDistinct after
    pub further : (es : List Entry) → Leads es before → Leads (es ++ entries) after
    pub stands : StandsFor p x frozen (sums x.written frozen after)
    pub steps_are : steps_of entries ≡ steps

  -- all sums are the same, and no object has two copies if none had
  pub record SameSums (before after : List Changed) : Type 0 where
    pub once : AreDistinct before → AreDistinct after
    pub same : sums x.written frozen after ≡ sums x.written frozen before

  -- a task ran with all that it leads to, each section once
  pub record RanWhole (task : Task) (before after : List Changed) (steps : ℕ) : Type 0 where
    pub entries : List Entry
    pub ran : RanAll entries before after steps
    pub each : SameItems (tasks_in entries) (task ∷ flat_map listed_by entries)

  -- or it isn't done
  abbrev pub WentWhole : Task → List Changed → List Changed → Option ℕ → Type 0
  WentWhole task before after (Some steps) = RanWhole task before after steps
  WentWhole task before after None = SameSums before after

  -- The task's section stopped, and all sums are as before.
  pub record StoppedOne (left : ℕ) (task : Task) (before after : List Changed) (s : Stuck) : Type 0 where
    pub once : AreDistinct after
    pub same : sums x.written frozen after ≡ sums x.written frozen before
    pub task_is : s.task ≡ task
    pub stops : StopsSo p x frozen left s

  -- how a task went
  abbrev pub WentSo : ℕ → Task → List Changed → List Changed → Went → Type 0
  WentSo left task before after (went.Ran ops clock steps) = (clock ≡ suc task.after) × RanOne task before after ops.items steps
  WentSo left task before after (went.Stopped why) = StoppedOne left task before after (record { task = task; why = why })

-- a task was kept in the share, unless memory was wanting
abbrev pub Keeps : List Task → Task → List Task → Turn → Type 0
Keeps share task rest (turns.Ran steps) = ⊥
Keeps share task rest turns.Kept = rest ≡ share ++ task ∷ []
Keeps share task rest (turns.Stopped s) = ⊥
Keeps share task rest turns.Short = rest ≡ share

-- a task whose section stopped is told, unless memory was wanting
abbrev pub Tells : Task → Stop → Turn → Type 0
Tells task why (turns.Ran steps) = ⊥
Tells task why turns.Kept = ⊥
Tells task why (turns.Stopped s) = s ≡ record { task = task; why = why }
Tells task why turns.Short = Unit {0}

-- Sections ran: that of the task, or all that it leads to. What they list ran too, was pushed, or is in the share.
pub record RanAndPushed (s : Setting) (x : Extent) (task : Task) (old new : OwnerView) (before after : List Changed) (share rest : List Task) (steps : ℕ) : Type 0 where
  pub entries : List Entry
  pub ran : RanAll s.program x s.frozen entries before after steps
  pub pushed : (h : Task → ℕ) → ran_weight h entries + weight h new.hand.pushed + weight h rest ≡ h task + made_weight h entries + weight h old.hand.pushed + weight h share

-- by how the worker goes on
abbrev pub TurnedSo : Setting → Extent → ℕ → Task → OwnerView → OwnerView → List Changed → List Changed → List Task → List Task → Turn → Type 0
TurnedSo s x left task old new before after share rest (turns.Ran steps) = RanAndPushed s x task old new before after share rest steps
TurnedSo s x left task old new before after share rest turns.Kept = SameSums s.program x s.frozen before after × (new ≡ old) × (rest ≡ share ++ task ∷ [])
TurnedSo s x left task old new before after share rest (turns.Stopped one) = StoppedOne s.program x s.frozen left task before after one × (new ≡ old) × (rest ≡ share)
TurnedSo s x left task old new before after share rest turns.Short = Unit {0}

-- A worker's task was run, was kept in the share, or its section stopped.
pub record Performed (s : Setting) (x : Extent) (left : ℕ) (task : Task) (old new : OwnerView) (before after : List Changed) (share rest : List Task) (turn : Turn) : Type 0 where
  pub owner : owner_key new ≡ owner_key old
  pub taken : new.hand.taken ≡ old.hand.taken
  pub fits : AllFit s rest
  pub turned : TurnedSo s x left task old new before after share rest turn

-- ---- a worker's part

-- what never changes while a worker runs: its deque, its passes, and its calls of the list
pub record PartKey : Type 0 where
  pub owner : OwnerKey
  pub thieves : List ThiefKey
  pub mine : List Task

-- There are entries that lead to the worker's copies. What it took, what they listed, what was dealt to it and its calls of
-- the list are what they ran, what it pushed, its share, those of its calls that wait, and the task whose section stopped.
pub record Did (s : Setting) (x : Extent) (left : ℕ) (hand : Hand) (thieves : List ThiefView) (copies : List Changed) (share mine waits : List Task) (stuck : Option Stuck) (count : ℕ) (steps : Option ℕ) : Type 0 where
  pub entries : List Entry
  pub once : AreDistinct copies
  pub leads : Leads s.program x s.frozen entries copies
  pub stands : TypedHeap s.program s.frozen → StandsFor s.program x s.frozen (sums x.written s.frozen copies)
  pub stops : All (StopsSo s.program x s.frozen left) (option_to_list stuck)
  pub counted : count ≤ length entries
  pub steps_are : IsSum left (steps_of entries) steps
  pub balance : (h : Task → ℕ) → weight h hand.taken + weight (taken_by_thief h) thieves + made_weight h entries + weight h hand.dealt + weight h mine ≡ ran_weight h entries + weight h hand.pushed + weight h share + weight h waits + weight h (tasks_of (option_to_list stuck))

pub record Sound (s : Setting) (x : Extent) (left : ℕ) (hand : Hand) (thieves : List ThiefView) (copies : List Changed) (share mine waits : List Task) (stuck : Option Stuck) (count : ℕ) (steps : Option ℕ) (short : Bool) : Type 0 where
  pub fits : AllFit s share
  pub did : short ≡ false → Did s x left hand thieves copies share mine waits stuck count steps

-- The parts are those of these owners and passes, from the last worker to the first.
pub record Assembled (owners : List OwnerView) (thieves : List (List ThiefView)) (parts : List PartKey) : Type 0 where
  pub owner_keys : map owner_key owners ≡ reverse (map (λ (p : PartKey). p.owner) parts)
  pub thief_keys : map (λ (ts : List ThiefView). map key_of ts) thieves ≡ reverse (map (λ (p : PartKey). p.thieves) parts)

abbrev pub mine_weight : (Task → ℕ) → List PartKey → ℕ
mine_weight h ps = weight (λ (p : PartKey). weight h p.mine) ps

-- the parts have the calls of the list, each of them one
pub record Given (listed : List Op) (parts : List PartKey) : Type 0 where
  pub all : (h : Task → ℕ) → mine_weight h parts ≡ weight h (map (task_after 0) listed)

-- The pieces of a part stand behind those of others. Its share and those of its calls that wait came into the rest.
pub record TornOff (s : Setting) (x : Extent) (left : ℕ) (part : PartKey) (owners more_owners : List OwnerView) (thieves more_thieves : List (List ThiefView)) (replicas more_replicas : List (List Changed)) (stucks more_stucks : List Stuck) (count more_count : ℕ) (steps more_steps : Option ℕ) (rest more : List Task) : Type 0 where
  pub owner : OwnerView
  pub passes : List ThiefView
  pub copies : List Changed
  pub share : List Task
  pub mine : List Task
  pub waits : List Task
  pub stuck : Option Stuck
  pub own_count : ℕ
  pub own_steps : Option ℕ
  pub owners_are : more_owners ≡ owners ++ owner ∷ []
  pub thieves_are : more_thieves ≡ thieves ++ passes ∷ []
  pub replicas_are : more_replicas ≡ replicas ++ copies ∷ []
  pub stucks_are : more_stucks ≡ stucks ++ option_to_list stuck
  pub count_is : more_count ≤ count + own_count
  pub steps_are : more_steps ≡ sums_within left steps own_steps
  pub part_is : part ≡ record { owner = owner_key owner; thieves = map key_of passes; mine = mine }
  pub sound : Sound s x left owner.hand passes copies share mine waits stuck own_count own_steps false
  pub fits : AllFit s rest → AllFit s more
  pub poured : (h : Task → ℕ) → weight h more ≡ weight h rest + weight h share + weight h waits

-- What the parts were made of, from the first worker to the last, and the equation of all workers. The shares and the calls
-- that wait came into the rest.
pub record Torn (s : Setting) (x : Extent) (left : ℕ) (parts : List PartKey) (owners : List OwnerView) (thieves : List (List ThiefView)) (replicas : List (List Changed)) (stucks : List Stuck) (count : ℕ) (steps : Option ℕ) (rest more : List Task) : Type 0 where
  pub assembled : Assembled owners thieves parts
  pub workers : List (Worker s.program x s.frozen)
  pub copies_are : copies_of workers ≡ replicas
  pub stops : All (StopsSo s.program x s.frozen left) stucks
  pub counted : count ≤ length (all_entries workers)
  pub steps_are : IsSum left (steps_of (all_entries workers)) steps
  pub fits : AllFit s more
  pub balance : (h : Task → ℕ) → weight (taken_by h) owners + weight (taken_by_thief h) (all_thieves thieves) + made_weight h (all_entries workers) + weight (dealt_by h) owners + weight h rest + mine_weight h parts ≡ ran_weight h (all_entries workers) + weight (pushed_by h) owners + weight h more + weight h (tasks_of stucks)

-- What the workers did: replicas of entries which, with the rest and the tasks whose sections stopped, are balanced.
pub record Worked (s : Setting) (x : Extent) (left : ℕ) (first : List Task) (l : Left) : Type 0 where
  pub workers : List (Worker s.program x s.frozen)
  pub copies_are : copies_of workers ≡ copies_in l.replicas.items
  pub stops : All (StopsSo s.program x s.frozen left) l.stuck.items
  pub counted : l.count ≤ length (all_entries workers)
  pub steps_are : IsSum left (steps_of (all_entries workers)) l.steps
  pub fits : AllFit s l.rest.items
  pub balanced : AreBalanced (all_entries workers) first (l.rest.items ++ tasks_of l.stuck.items)

-- ---- the caller's tasks

module _ (p : PlainProgram) (x : Extent) (frozen : List Object) (left : ℕ) where
  -- a section ran, and what it lists is in the rest
  pub record RanAndPoured (task : Task) (before after : List Changed) (rest more : List Task) (stucks all : List Stuck) (steps total : Option ℕ) : Type 0 where
    pub ops : List Op
    pub took : ℕ
    pub ran : RanOne p x frozen task before after ops took
    pub stucks_are : all ≡ stucks
    pub total_is : total ≡ sum_within left steps took
    pub fits : AllFit (setting_of p x frozen) rest → AllFit (setting_of p x frozen) more
    pub poured : (h : Task → ℕ) → weight h more ≡ weight h rest + weight h (map (task_after (suc task.after)) ops)

  -- No clock is behind the task's own, and it is in the rest again.
  pub record Waits (task : Task) (rest more : List Task) (stucks all : List Stuck) : Type 0 where
    pub late : task.after ≡ last_clock
    pub rest_is : more ≡ rest ++ task ∷ []
    pub stucks_are : all ≡ stucks

  -- Its section stopped.
  pub record Stops (task : Task) (before after : List Changed) (rest more : List Task) (stucks all : List Stuck) : Type 0 where
    pub one : Stuck
    pub stopped : StoppedOne p x frozen left task before after one
    pub rest_is : more ≡ rest
    pub stucks_are : all ≡ stucks ++ one ∷ []

  -- It didn't run.
  pub record RanNot (task : Task) (before after : List Changed) (rest more : List Task) (stucks all : List Stuck) (steps total : Option ℕ) : Type 0 where
    pub once : AreDistinct before → AreDistinct after
    pub same : sums x.written frozen after ≡ sums x.written frozen before
    pub total_is : total ≡ steps
    pub either : Waits task rest more stucks all ⊎ Stops task before after rest more stucks all

  abbrev pub RanAlone : Task → List Changed → List Changed → List Task → List Task → List Stuck → List Stuck → Option ℕ → Option ℕ → Bool → Type 0
  RanAlone task before after rest more stucks all steps total true = RanAndPoured task before after rest more stucks all steps total
  RanAlone task before after rest more stucks all steps total false = RanNot task before after rest more stucks all steps total

  -- What ran on the caller's replica, from none on: entries that lead to its copies.
  pub record GoesAlone (rest more : List Task) (stucks all : List Stuck) (steps : Option ℕ) (copies : List Changed) (total : Option ℕ) : Type 0 where
    pub entries : List Entry
    pub once : AreDistinct copies
    pub leads : Leads p x frozen entries copies
    pub stands : StandsFor p x frozen (sums x.written frozen copies)
    pub fits : AllFit (setting_of p x frozen) more
    pub stops : All (StopsSo p x frozen left) stucks → All (StopsSo p x frozen left) all
    pub steps_are : (n : ℕ) → IsSum left n steps → IsSum left (n + steps_of entries) total
    pub balance : (h : Task → ℕ) → weight h rest + made_weight h entries + weight h (tasks_of stucks) ≡ ran_weight h entries + weight h more + weight h (tasks_of all)

  -- Nothing is left, a section stopped, there are as many entries as the quota, or a task waits that has no clock
  -- behind its own.
  abbrev pub Ends : ℕ → ℕ → List Task → List Stuck → Type 0
  Ends quota count rest stucks = (rest ≡ []) ⊎ ((stucks ≢ []) ⊎ ((quota ≤ count) ⊎ ((t : Task) × Contains rest t × (t.after ≡ last_clock))))

  pub record Finished (quota count : ℕ) (rest more : List Task) (stucks all : List Stuck) (steps : Option ℕ) (copies : List Changed) (total : Option ℕ) : Type 0 where
    pub goes : GoesAlone rest more stucks all steps copies total
    pub ended : Ends quota (count + length goes.entries) more all
