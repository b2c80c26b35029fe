-- What is known of the section of a body or a loop that fits, by whoever runs it.
use Rattle.std.specs.Prelude.{◌≡◌, ◌⊎◌, Option, ◌-◌, ◌∷◌, ◌++◌, ℕ, List, [], length, Some, slice_get}
use Rattle.ca_program.specs.declared.program.ValueType.{ValueType}
use Rattle.ca_program.specs.Plain.{PlainProgram, Statement}
use Rattle.ca_program.specs.Kinds.{kinds_in}
use Rattle.ca_program.specs.Instructions.{Leave, Placed, on, Code, Instruction, Hand, Begin}
use Rattle.ca_program.specs.Layout.{all_acts, no_hands, statement_code}
use Rattle.ca_model.specs.declared.value.Value.{Value as Datum}
use Rattle.ca_model.specs.declared.value.Object.{Object}
use Rattle.ca_meaning.specs.Functions.{own_of}
use Rattle.ca_meaning.specs.Sections.{Section, LoopSectioned, loop_stopped, loop_over, LoopOutcome, loop_done, loop_section, section_start}
use Rattle.ca_code_laws.specs.Machine.{Store, State, Outcome, Finished, Trapped, Spent, Wanting, Stuck, Accesses, Next, act, Comes, Ends}
use Rattle.ca_code_laws.specs.Runs.{section_access}
use Rattle.ca_code_laws.specs.Told.{Holds}

-- an end at which no memory is wanted
abbrev pub IsKnown : {S : Type 0} → Outcome S → Type 0
IsKnown (Finished w k) = Unit {0}
IsKnown (Trapped t w) = Unit {0}
IsKnown (Spent w) = Unit {0}
IsKnown _ = ⊥

-- whatever is next, the instruction where the machine stands wants memory, or none stands there
abbrev pub Wrong : {S : Type 0} → Accesses S → Code → State S → Type 0
Wrong {S} acc c u =
    ((line : ℕ) (next : Next S) → act acc c line (slice_get c.items u.at) next u ≡ Wanting) ⊎ ((line : ℕ) (next : Next S) → act acc c line (slice_get c.items u.at) next u ≡ Stuck)

-- it hands nothing on
abbrev pub HandsNothing : Option Instruction → Type 0
HandsNothing (Some (Hand op first)) = ⊥
HandsNothing (Some (Begin n)) = ⊥
HandsNothing _ = Unit {0}

-- the code of a loop on its own
abbrev pub loop_alone : PlainProgram → List ValueType → ℕ → Statement → List Placed
loop_alone p tys line loop = statement_code (kinds_in p tys) (all_acts (kinds_in p tys)) no_hands line loop (length tys) ++ on 0 Leave ∷ []

-- how the section of a loop ends whose machine traps or spends
abbrev pub StopsAs : Outcome Section → LoopSectioned → Type 0
StopsAs (Trapped t w) s = s ≡ loop_stopped t
StopsAs (Spent w) s = s ≡ loop_over
StopsAs _ s = Unit {0}

-- where the code of a loop on its own is entered
abbrev pub before_loop : List Object → Datum → ℕ → ℕ → ℕ → Store → State Section
before_loop h me at base k f = record { at = at; base = base; left = k; this = me; below = []; slots = f; world = section_start (own_of h me) }

-- Whoever runs such code to a trap, or to a step too many, knows the section of the loop. So does who comes to its end, where the
-- loop's locals stand in the first slots.
module _ (p : PlainProgram) (frozen : List Object) (code : Code) (tys : List ValueType) (me : Datum) (line : ℕ) (loop : Statement) (ls : List Datum) (at base k : ℕ) (f : Store) where
  pub record EndOf (t : State Section) : Type 0 where
    pub outcome : LoopOutcome
    pub base_is : t.base ≡ base
    pub is : loop_section p frozen me ls line loop k ≡ loop_done outcome
    pub steps : outcome.steps ≡ k - t.left
    pub listed : outcome.listed ≡ t.world.listed
    pub locals : Holds (kinds_in p tys).locals t.slots base outcome.locals
    pub many : length outcome.locals ≡ length tys

  pub record KnowsLoop : Type 0 where
    pub stops : (o : Outcome Section) → Ends (section_access frozen) code (before_loop frozen me at base k f) o → StopsAs o (loop_section p frozen me ls line loop k)
    pub ends : (t : State Section) → t.below ≡ [] → slice_get code.items t.at ≡ Some Leave → Comes (section_access frozen) code (before_loop frozen me at base k f) t → EndOf t
