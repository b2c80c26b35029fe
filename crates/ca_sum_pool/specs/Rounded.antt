-- What a round of replicas answers. The entries are told: nobody stores them.
use Rattle.std.specs.Prelude.{ℕ, suc, ◌≡◌, ◌≢◌, ◌<◌, ◌≤◌, List, [], ◌∷◌, ◌++◌, length, map, flat_map, All, Contains, Option, Some, None, slice_get}
use Rattle.ca_program.specs.Plain.{PlainProgram}
use Rattle.ca_model.specs.declared.value.Object.{Object}
use Rattle.ca_meaning.specs.Multisets.{SameItems}
use Rattle.ca_meaning.specs.Sections.{Sectioned, done, stopped, over, section}
use Rattle.ca_parallel.specs.Extents.{Extent}
use Rattle.ca_order_laws.specs.Pending.{PendingRun}
use Rattle.ca_order_laws.specs.Order.{StandsFor}
use Rattle.ca_logs.specs.declared.log.Task.{Task}
use Rattle.ca_logs.specs.declared.log.Entry.{Entry}
use Rattle.ca_logs.specs.declared.log.Stop.{Stop}
use Rattle.ca_logs.specs.declared.log.Stop.TheVariants.{Trapped, Spent}
use Rattle.ca_logs.specs.Entries.{ran_in, stuck_in, tasks_in, listed_by, task_calls}
use Rattle.ca_logs.specs.LogOrder.{ordered}
use Rattle.ca_logs.specs.Laws.{steps_of}
use Rattle.ca_beside.specs.declared.beside.Changed.{Changed}
use Rattle.ca_sum_laws.specs.Replicas.{MayRun}
use Rattle.ca_sum_laws.specs.Facts.{OnFrozen}
use Rattle.ca_replica.specs.declared.replica.Replica.{Replica}
use Rattle.ca_replica.specs.Adding.{AllWhole}
use Rattle.ca_replica.specs.Together.{added_one_by_one}
use Rattle.ca_sum_pool.specs.declared.round.SummedRound.{SummedRound}

-- the greatest clock
abbrev pub last_clock : ℕ
last_clock = 18446744073709551615

-- a section that isn't done, and why
abbrev pub IsStop : Sectioned → Stop → Type 0
IsStop (done m) why = ⊥
IsStop (stopped t) why = why ≡ Trapped t
IsStop over why = why ≡ Spent

-- so many steps, where these are no more than are left, and None elsewhere
abbrev pub IsSum : ℕ → ℕ → Option ℕ → Type 0
IsSum left n None = left < n
IsSum left n (Some m) = (m ≡ n) × (n ≤ left)

-- the stop of the first one of entries with a stop
abbrev pub first_stop : List Entry → Option Stop
first_stop [] = None
first_stop (e ∷ es) = e.stop

abbrev pub copies_in : List Replica → List (List Changed)
copies_in rs = map (λ (r : Replica). r.copies) rs

-- Each task runs once: no task is lost, and none comes from nowhere. Where there was a first task there is an entry.
pub record Balances (entries : List Entry) (first rest : List Task) : Type 0 where
  pub once : SameItems (tasks_in (ran_in entries) ++ rest) (first ++ flat_map listed_by (ran_in entries))
  pub stuck : (e : Entry) → Contains (stuck_in entries) e → Contains rest e.task
  pub some : first ≢ [] → entries ≢ []

-- The section of the entry's task stops so on the frozen object. The entry took no steps and invoked nothing.
pub record StopsThere (p : PlainProgram) (frozen : List Object) (left : ℕ) (e : Entry) : Type 0 where
  pub why : Stop
  pub stop : e.stop ≡ Some why
  pub steps : e.steps ≡ 0
  pub invoked : e.invoked ≡ []
  pub object : Object
  pub there : slice_get frozen e.task.op.receiver ≡ Some object
  pub section : IsStop (section p frozen e.task.op.receiver object e.task.op.op e.task.op.args left) why

pub record Rounded (p : PlainProgram) (x : Extent) (frozen : List Object) (left quota : ℕ) (first : List Task) (r : SummedRound) : Type 0 where
  pub entries : List Entry
  pub balanced : Balances entries first r.rest.items
  -- the stop is that of the first entry that has one
  pub stop_is : r.stop ≡ first_stop (stuck_in entries)
  -- where nothing stopped, tasks are left and there are clocks, there are as many entries as the quota
  pub full : r.stop ≡ None → r.rest.items ≢ [] → ((e : Entry) → Contains entries e → e.clock ≢ last_clock) → quota ≤ length entries
  -- an entry's clock is the one behind its task's
  pub clocks : (e : Entry) → Contains entries e → e.clock ≡ suc e.task.after
  -- an entry without a stop is the complete section of its task on the frozen object
  pub ran : (e : Entry) → Contains (ran_in entries) e → OnFrozen p frozen e
  -- one with a stop stops so on the frozen object
  pub stuck : (e : Entry) → Contains (stuck_in entries) e → StopsThere p frozen left e
  -- with all replicas added, any heap that stands for the frozen one becomes what a run leaves: that of all entries
  -- without a stop, by clock and object
  pub run : (now : List Object) → StandsFor p x frozen now → PendingRun p frozen (added_one_by_one x.written (copies_in r.replicas.items) now) (task_calls r.rest.items) (task_calls (tasks_in (ordered (ran_in entries)))) now (task_calls first) (steps_of (ordered (ran_in entries)))
  -- the replicas' copies are whole, so that each may take its object's place
  pub whole : AllWhole x.written frozen (copies_in r.replicas.items)
  -- the steps of that run are told
  pub counted : IsSum left (steps_of (ordered (ran_in entries))) r.steps
  -- what is left may run in a round like this one
  pub may_run : All (MayRun p x frozen) r.rest.items
