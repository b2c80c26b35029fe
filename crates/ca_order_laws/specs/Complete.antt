-- What is done within a budget is done alike within each budget that has its steps, and within no other.
use Rattle.std.specs.Prelude.{ℕ, ◌≡◌, ◌≤◌, List}
use Rattle.ca_program.specs.Plain.{PlainProgram, Statement}
use Rattle.ca_model.specs.declared.value.Value.{Value as Datum}
use Rattle.ca_model.specs.declared.value.Object.{Object}
use Rattle.ca_meaning.specs.Expressions.{Invocation}
use Rattle.ca_meaning.specs.Sections.{Outcome, done, section, LoopOutcome, loop_done, loop_section}
use Rattle.ca_parallel.specs.Calls.{RunsTo}
use Rattle.ca_order_laws.specs.Pending.{Leaves}

-- Whatever `Is m budget` says is done within a budget, m is, in so many steps: within each budget that has them, and
-- nothing is within a smaller one, or within any with another end.
pub record DoneBy {M : Type 0} (Is : M → ℕ → Type 0) (m : M) (steps : ℕ) : Type 0 where
  pub within : (budget : ℕ) → steps ≤ budget → Is m budget
  pub only : (budget : ℕ) (n : M) → Is n budget → (n ≡ m) × (steps ≤ budget)

-- a complete section
abbrev pub SectionsEndAlike : Type 0
SectionsEndAlike =
    (p : PlainProgram) (frozen : List Object) (i : Invocation) (o : Object) (m : Outcome) → Leaves p frozen i o m →
    DoneBy (λ n budget. section p frozen i.receiver o i.op i.arguments budget ≡ done n) m m.steps

-- a section of a loop of serial code that is done
abbrev pub LoopSectionsEndAlike : Type 0
LoopSectionsEndAlike =
    (p : PlainProgram) (h : List Object) (this : Datum) (ls : List Datum) (line : ℕ) (loop : Statement) (k : ℕ) (m : LoopOutcome) →
    loop_section p h this ls line loop k ≡ loop_done m → DoneBy (λ n budget. loop_section p h this ls line loop budget ≡ loop_done n) m m.steps

-- the serial run of operations in order, with its heap and its steps
abbrev pub RunsEndAlike : Type 0
RunsEndAlike =
    (p : PlainProgram) (h : List Object) (is : List Invocation) (k : ℕ) (after : List Object) (steps : ℕ) → RunsTo p h is k after steps →
    (budget : ℕ) → (steps ≤ budget → RunsTo p h is budget after steps) ×
    ((last : List Object) (taken : ℕ) → RunsTo p h is budget last taken → (last ≡ after) × (taken ≡ steps) × (steps ≤ budget))
