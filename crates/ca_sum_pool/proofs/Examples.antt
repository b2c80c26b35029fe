-- Worked examples: a worker that adds 3 to a bin, and one whose section has too few steps.
use Rattle.std.proofs.Common.{◌≡◌, List, [], ◌∷◌, ◌++◌, Some, None, refl, pos, arith}
use Rattle.ca_parallel.specs.declared.op.Op.{Op}
use Rattle.ca_logs.specs.declared.log.Task.{Task}
use Rattle.ca_logs.specs.declared.log.Entry.{Entry}
use Rattle.ca_logs.specs.declared.log.Stop.TheVariants.{Spent}
use Rattle.ca_logs.specs.Entries.{ran_in, stuck_in, tasks_in}
use Rattle.ca_model.specs.declared.value.Value.TheVariants.{Long}
use Rattle.ca_meaning.specs.Multisets.{SameItems}
use Rattle.ca_sum_pool.specs.Rounded.{IsSum, first_stop}
use Rattle.ca_sum_pool.specs.Parts.{begun, ran_entry, stuck_entry, sum_within}

-- b->add(3), and b->add(4), each a first task
abbrev adds : Op
adds = record { receiver = 1; op = record { 0 = 0 }; args = Long (pos 3) ∷ [] }

abbrev more : Op
more = record { receiver = 1; op = record { 0 = 0 }; args = Long (pos 4) ∷ [] }

abbrev one : Task
one = record { op = adds; after = 0 }

abbrev two : Task
two = record { op = more; after = 0 }

-- one ran, in one step, and two stopped
abbrev told : List Entry
told = ran_entry one [] 1 ∷ stuck_entry (record { task = two; why = Spent }) ∷ []

ran : ran_in told ≡ ran_entry one [] 1 ∷ []
ran = refl

-- the stop is that of the first entry with one
why : first_stop (stuck_in told) ≡ Some Spent
why = refl

-- and where none has one there is none
none_stopped : first_stop (stuck_in (ran_in told)) ≡ None
none_stopped = refl

-- both first tasks are there: one ran, and two is left
all_there : SameItems (tasks_in (ran_in told) ++ two ∷ []) (one ∷ two ∷ [])
all_there = record { weighed = λ f. refl }

-- a step is within two, and three are not
within : IsSum 2 1 (Some 1)
within = (refl, omega arith)

too_many : IsSum 2 3 None
too_many = omega arith

added : sum_within 2 (Some 1) 1 ≡ Some 2
added = refl

past : sum_within 2 (Some 1) 2 ≡ None
past = refl

-- of a list of both the second one, and none behind it
second : begun (adds ∷ more ∷ []) 1 2 ≡ two ∷ []
second = refl

none_behind : begun (adds ∷ more ∷ []) 2 2 ≡ []
none_behind = refl
