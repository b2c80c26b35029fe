-- A code with the code of loops behind it, each on its own.
use Rattle.std.specs.Prelude.{◌≡◌, ◌++◌, ◌+◌, ℕ, suc, true, false, List, [], ◌∷◌, Some, length, map, drop, slice_get}
use Rattle.ca_program.specs.Plain.{PlainProgram}
use Rattle.ca_program.specs.Kinds.{as_pointer, kind_type}
use Rattle.ca_program.specs.Instructions.{Begin, Instruction, Placed, Code}
use Rattle.ca_program.specs.View.{statement_view}
use Rattle.ca_code.specs.declared.layout.Code.{Code as CodeHeld}
use Rattle.ca_code.specs.Seen.{placed}
use Rattle.ca_code.specs.Laying.{Laying, laid}
use Rattle.ca_code_laws.specs.Fitting.{FitsStatement}
use Rattle.ca_code_laws.specs.Known.{loop_alone}
use Rattle.ca_sections.specs.declared.loop_code.LoopPlace.{LoopPlace}
use Rattle.ca_sections.specs.Fitting.{LoopStands}

-- more rows stand behind, and what names places is as it was
pub record Extended (c d : CodeHeld) : Type 0 where
  pub more : List Placed
  pub rows : map placed d.rows.items ≡ map placed c.rows.items ++ more
  pub same : d ≡ record c { rows = d.rows; room = d.room }

-- A loop's code stands on its own where it is told, and the loop is handed on where that is told.
pub record StandsAlone (p : PlainProgram) (c : Code) (l : LoopPlace) : Type 0 where
  pub code : LoopStands p c l.place l.types.now l.line (statement_view l.s.now)
  pub line : slice_get c.lines l.at ≡ Some l.line
  pub loop : slice_get c.loops l.at ≡ Some (Some (record { loop = statement_view l.s.now; locals = map kind_type l.types.now }))

abbrev pub AllStand : PlainProgram → Code → List LoopPlace → Type 0
AllStand p c [] = Unit {0}
AllStand p c (l ∷ ls) = StandsAlone p c l × AllStand p c ls

abbrev pub with_begin : Instruction → ℕ → List ℕ → List ℕ
with_begin (Begin count) n ns = n ∷ ns
with_begin _ n ns = ns

-- the places at which loops are handed on, of instructions from a place on
abbrev pub begins_from : ℕ → List Instruction → List ℕ
begins_from n [] = []
begins_from n (i ∷ is) = with_begin i n (begins_from (suc n) is)

-- where these loops are handed on
abbrev pub ats : List LoopPlace → List ℕ
ats ls = map (λ (l : LoopPlace). l.at) ls

-- A loop's code that stands among rows, and the row that hands it on.
pub record Stood (p : PlainProgram) (ps : List Placed) (l : LoopPlace) : Type 0 where
  pub fits : FitsStatement p l.types.now true as_pointer (statement_view l.s.now)
  pub before : List Placed
  pub after : List Placed
  pub is : ps ≡ before ++ (loop_alone p l.types.now l.line (statement_view l.s.now) ++ after)
  pub place : l.place ≡ length before
  pub row : (i : Instruction) × (slice_get ps l.at ≡ Some (record { instruction = i; line = l.line; loop = Some (record { loop = statement_view l.s.now; locals = map kind_type l.types.now }) }))

abbrev pub AllStood : PlainProgram → List Placed → List LoopPlace → Type 0
AllStood p ps [] = Unit {0}
AllStood p ps (l ∷ ls) = Stood p ps l × AllStood p ps ls

-- the rows of a code as far as loops are added behind them
pub record Adding (p : PlainProgram) (old : List Placed) (now : Laying) (places : List LoopPlace) : Type 0 where
  pub begun : now.failed ≡ false → (more : List Placed) × (laid now ≡ old ++ more)
  pub each : now.failed ≡ false → AllStood p (laid now) places

abbrev pub instructions_of : List Placed → List Instruction
instructions_of ps = map (λ (r : Placed). r.instruction) ps

-- the same, where the rows before a place were looked at
pub record Looked (p : PlainProgram) (old : List Placed) (at : ℕ) (now : Laying) (places : List LoopPlace) : Type 0 where
  pub adding : Adding p old now places
  pub told : now.failed ≡ false → ats places ++ begins_from at (instructions_of (drop at old)) ≡ begins_from 0 (instructions_of old)
