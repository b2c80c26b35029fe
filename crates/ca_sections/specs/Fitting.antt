-- What a program and its code are to sections, and what stands where one begins.
use Rattle.std.specs.Prelude.{◌≡◌, ◌<◌, ◌≤◌, ℕ, Bool, List, [], true, length, Some, slice_get}
use Rattle.ca_program.specs.declared.program.FunctionId.{FunctionId}
use Rattle.ca_program.specs.declared.program.LocalId.{LocalId}
use Rattle.ca_program.specs.declared.program.OpId.{OpId}
use Rattle.ca_program.specs.declared.program.Program.{Program}
use Rattle.ca_program.specs.declared.program.ValueType.{ValueType}
use Rattle.ca_program.specs.Plain.{PlainProgram, PlainMethod, Expression, Expressions, Statement}
use Rattle.ca_program.specs.View.{program_view}
use Rattle.ca_program.specs.Kinds.{Kind, as_pointer, kind_of, param_kind, kinds_in}
use Rattle.ca_program.specs.Instructions.{Code, HasAt}
use Rattle.ca_program.specs.Layout.{how_many}
use Rattle.ca_parallel.specs.declared.op.Op.{Op}
use Rattle.ca_code.specs.Codes.{code_seen}
use Rattle.ca_code_laws.specs.Fitting.{AreOf, FitAll, Fits, FitsMethod, FitsStatement, FunctionsFit, Takes}
use Rattle.ca_code_laws.specs.Known.{loop_alone}
use Rattle.ca_code_laws.specs.Told.{Holds, IsLaidOut}
use Rattle.ca_steps.specs.declared.frames.Frames.{Frames}
use Rattle.ca_steps.specs.declared.running.Laid.{Laid}
use Rattle.ca_selection.specs.Ops.{Runs}
use Rattle.ca_steps.specs.Stands.{seen}
use Rattle.ca_steps.specs.Handed.{IsFirst}

-- a test finds whether something is so
abbrev pub Finds : Bool → Type 0 → Type 0
Finds found A = (found ≡ true → A) × (A → found ≡ true)

-- Parts of texts that fit: an operand that is read as a kind, an assignment to a local, and the arguments of calls.
module _ (p : PlainProgram) (tys : List ValueType) where
  abbrev pub Reads : Kind → Expression → Type 0
  Reads κ e = (kind_of (kinds_in p tys) e ≡ κ) × Fits p tys e

  abbrev pub PutsLocal : LocalId → Expression → Type 0
  PutsLocal l e = (l.0 < length tys) × (kind_of (kinds_in p tys) e ≡ (kinds_in p tys).locals l.0) × Fits p tys e

  abbrev pub Calls : FunctionId → Expressions → Type 0
  Calls m es = Takes (slice_get p.functions m.0) (how_many es) × AreOf (kinds_in p tys) ((kinds_in p tys).params m) es

  abbrev pub Invokes : OpId → Expressions → Type 0
  Invokes op es = Takes (slice_get p.ops op.0) (how_many es) × AreOf (kinds_in p tys) ((kinds_in p tys).arguments op) es

  abbrev pub InvokesOn : Expression → OpId → Expressions → Type 0
  InvokesOn e op es = (kind_of (kinds_in p tys) e ≡ as_pointer) × Takes (slice_get p.ops op.0) (how_many es) × AreOf (kinds_in p tys) ((kinds_in p tys).arguments op) es × Fits p tys e × FitAll p tys es

-- An operation that has a place there fits, and begins at it. Others have the greatest number of 32 bits.
abbrev pub OpsBegin : PlainProgram → List ℕ → List ℕ → Type 0
OpsBegin p starts places = (i place : ℕ) → slice_get places i ≡ Some place → place < 4294967295 → (m : PlainMethod) × (slice_get p.ops i ≡ Some m) × FitsMethod p true m × (slice_get starts i ≡ Some place)

-- Each operation that fits has its place.
abbrev pub OpsStand : PlainProgram → List ℕ → List ℕ → Type 0
OpsStand p starts places = (i start : ℕ) (m : PlainMethod) → slice_get p.ops i ≡ Some m → FitsMethod p true m → slice_get starts i ≡ Some start → slice_get places i ≡ Some start

-- The program is laid out in the code, which is run. All value methods fit, and the operations that fit have a place, and no others.
pub record IsCoded (p : Program) (on : Laid) (places : List ℕ) : Type 0 where
  pub functions : FunctionsFit (program_view p)
  pub laid : IsLaidOut (program_view p) (code_seen on.code)
  pub runs : Runs (code_seen on.code) on.code.rows.items on.ops.items
  pub each : OpsBegin (program_view p) on.code.ops.items places
  pub all : OpsStand (program_view p) on.code.ops.items places

-- The body of an operation that fits begins at this place of a code, in which the program is laid out and which is run. Something is
-- run there.
pub record Starts (p : PlainProgram) (op : OpId) (on : Laid) (place : ℕ) : Type 0 where
  pub functions : FunctionsFit p
  pub laid : IsLaidOut p (code_seen on.code)
  pub runs : Runs (code_seen on.code) on.code.rows.items on.ops.items
  pub method : PlainMethod
  pub is : slice_get p.ops op.0 ≡ Some method
  pub fits : FitsMethod p true method
  pub begins : slice_get (code_seen on.code).ops op.0 ≡ Some place
  pub within : place < length on.ops.items

-- The arguments of a call stand in the first slots, as many as it takes, each of its kind, in a first frame, and no body is below.
pub record Entered (p : PlainProgram) (op : Op) (m : Frames) : Type 0 where
  pub first : IsFirst m
  pub below : m.below ≡ []
  pub arguments : (method : PlainMethod) → slice_get p.ops op.op.0 ≡ Some method → method.params ≤ length method.body.locals → (method.params ≡ length op.args) × Holds (λ i. param_kind (Some method) i) (seen m.slots.items) 0 op.args

-- The code of a loop that fits stands at a place of its own, in a body with locals of these types.
pub record LoopStands (p : PlainProgram) (code : Code) (place : ℕ) (tys : List ValueType) (line : ℕ) (loop : Statement) : Type 0 where
  pub fits : FitsStatement p tys true as_pointer loop
  pub there : HasAt code place (loop_alone p tys line loop)
