-- How far lines are followed as a block of a list.
use Rattle.std.specs.Prelude.{Option, ℕ, ◌≡◌, ◌≤◌, ◌+◌, ◌⊎◌, Bool, true, false, List, [], ◌∷◌, ◌++◌, length}
use Rattle.ca_program.specs.Plain.{PlainProgram}
use Rattle.ca_model.specs.declared.value.Object.{Object}
use Rattle.ca_meaning.specs.Expressions.{Invocation}
use Rattle.ca_meaning.specs.Serial.{Note}
use Rattle.ca_parallel.specs.declared.op.Op.{Op}
use Rattle.ca_parallel.specs.Calls.{invocation_of, invocations_of}
use Rattle.ca_order_laws.specs.Pending.{PendingRun}
use Rattle.ca_trace.specs.declared.line.Line.{Line}
use Rattle.ca_trace.specs.declared.line.Line.TheVariants.{Block, End, Step, Declined}
use Rattle.ca_trace.specs.Lines.{steps_of, block_of}
use Rattle.ca_trace.specs.Laws.{RunsNow}
use Rattle.ca_trace.specs.Engines.{Replay}
use Rattle.ca_replay.specs.declared.following.Followed.{Followed}
use Rattle.ca_replay.specs.declared.following.Followed.TheVariants.{Whole, Stopped}

abbrev pub starts_block : List Line → Bool
starts_block [] = false
starts_block (Block ∷ ls) = true
starts_block (l ∷ ls) = false

-- by the next line, if there is one, a block doesn't go on
abbrev pub Halts : PlainProgram → List Object → List Object → List Invocation → ℕ → List Line → Type 0
Halts p frozen mid rest left [] = Unit {0}
Halts p frozen mid rest left (Step o ∷ ls) = ¬ RunsNow p frozen mid rest left (invocation_of o)
Halts p frozen mid rest left (End ∷ ls) = ¬ (rest ≡ [])
Halts p frozen mid rest left (l ∷ ls) = Unit {0}

-- the operations of a block ran as the pending machine does, and stand in front
pub record Passed (p : PlainProgram) (frozen h : List Object) (is : List Invocation) (left : ℕ) (lines : List Line) (mid : List Object) (rest : List Invocation) (still at : ℕ) : Type 0 where
  pub ops : List Op
  pub behind : List Line
  pub steps : ℕ
  pub there : lines ≡ Block ∷ (steps_of ops ++ behind)
  pub count : at ≡ length ops + 1
  pub run : PendingRun p frozen mid rest (invocations_of ops) h is steps
  pub sum : steps + still ≡ left

pub record HaltsAt (p : PlainProgram) (frozen h : List Object) (is : List Invocation) (left : ℕ) (lines : List Line) (at : ℕ) : Type 0 where
  pub mid : List Object
  pub rest : List Invocation
  pub still : ℕ
  pub passed : Passed p frozen h is left lines mid rest still at
  pub halts : Halts p frozen mid rest still passed.behind

-- a whole block stands in front
pub record BlockThere (p : PlainProgram) (frozen h : List Object) (is : List Invocation) (left : ℕ) (lines : List Line) (after : List Object) (count steps : ℕ) : Type 0 where
  pub ops : List Op
  pub behind : List Line
  pub there : lines ≡ block_of ops ++ behind
  pub counted : count ≡ length (block_of ops)
  pub run : PendingRun p frozen after [] (invocations_of ops) h is steps
  pub within : steps ≤ left

abbrev pub BlockIs : PlainProgram → List Object → List Object → List Invocation → ℕ → List Line → List Object → Followed → Type 0
BlockIs p frozen h is left lines after (Whole count steps) = BlockThere p frozen h is left lines after count steps
BlockIs p frozen h is left lines after (Stopped at) = HaltsAt p frozen h is left lines at

-- so far the lines were followed, from what waited and its heap on
abbrev pub FollowedFrom : PlainProgram → List Object → List Object → List Invocation → ℕ → List Line → List Object → Followed → Type 0
FollowedFrom p frozen h is left lines after (Whole count steps) = BlockThere p frozen h is left lines after count steps
FollowedFrom p frozen h is left lines after (Stopped at) = ((at ≡ 0) × (starts_block lines ≡ false)) ⊎ HaltsAt p frozen h is left lines at

-- from the beginning of a list on
abbrev pub FollowedIs : PlainProgram → Note → List Line → List Object → Followed → Type 0
FollowedIs p n lines after f = FollowedFrom p n.heap n.heap n.first n.left lines after f

abbrev pub is_word : List Line → Bool
is_word [] = false
is_word (Declined ∷ ls) = true
is_word (l ∷ ls) = false

abbrev pub kept : List Line → ℕ → Option ℕ → Replay
kept lines place bad = record { lines = lines; place = place; bad = bad }
