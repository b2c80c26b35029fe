-- What is told of the pairs of an extent, one pair after another.
use Rattle.std.specs.Prelude.{◌≡◌, ◌≢◌, ℕ, true, List, [], ◌∷◌, ◌++◌, map, Some, slice_get, Contains}
use Rattle.std.specs.Global.{Global}
use Rattle.std.specs.declared.rc.Rc.{Rc}
use Rattle.ca_program.specs.declared.program.LoopId.{LoopId}
use Rattle.ca_program.specs.declared.program.OpId.{OpId}
use Rattle.ca_program.specs.Plain.{PlainProgram, Statement}
use Rattle.ca_meaning.specs.Commuting.{Commutes as DoCommute}
use Rattle.ca_parallel.specs.Bodies.{calls_of_all}
use Rattle.ca_parallel.specs.Extents.{Extent, operation_body}
use Rattle.ca_parallel.specs.ExtentsOf.{ExtentOf}
use Rattle.ca_parallel.specs.Separable.{IsSeparated}
use Rattle.ca_verdicts.specs.Analysed.{Analysed}
use Rattle.ca_verdicts.specs.declared.verdicts.Verdict.TheVariants.{Commutes}
use Rattle.ca_verdicts.specs.Verdicts.{VerdictOf}
use Rattle.ca_plan.specs.Pairs.{Pair, pairs_in}
use Rattle.ca_plan.specs.Plans.{PairVerdict, PlainPlan, Judged, JudgedLoop, op_at, pair_of}

-- a verdict, which is right where it says that the two commute
pub record PairTold (p : PlainProgram) (x : Extent) (v : PairVerdict) : Type 0 where
  pub exact : VerdictOf p x.written v.a v.b v.verdict
  pub sound : Analysed p x v.a v.b → v.verdict ≡ Commutes → DoCommute p x.written v.a v.b

abbrev pub AllTold : PlainProgram → Extent → List PairVerdict → Type 0
AllTold p x vs = (v : PairVerdict) → Contains vs v → PairTold p x v

-- verdicts on these pairs came behind those that there were
pub record Told (p : PlainProgram) (x : Extent) (old new : List PairVerdict) (pairs : List Pair) : Type 0 where
  pub added : List PairVerdict
  pub all : new ≡ old ++ added
  pub on : map pair_of added ≡ pairs
  pub each : AllTold p x added

-- all pairs of an extent are told
pub record WhollyTold (p : PlainProgram) (j : Judged) : Type 0 where
  pub roots : List OpId
  pub extent : ExtentOf p roots j.extent
  pub on : map pair_of j.pairs ≡ pairs_in p j.extent.ops
  pub each : AllTold p j.extent j.pairs

abbrev pub AllWhollyTold : PlainProgram → List Judged → Type 0
AllWhollyTold p js = (j : Judged) → Contains js j → WhollyTold p j

-- each pair has the verdict Commutes
abbrev pub AllCommute : Judged → Type 0
AllCommute j = (v : PairVerdict) → Contains j.pairs v → v.verdict ≡ Commutes

-- extents in memory, as plain ones
abbrev pub shared : List (Rc Judged Global) → List Judged
shared js = map (λ j. j.value) js

-- what is known of the extent of operation n
pub record JudgedOp (p : PlainProgram) (n : ℕ) (j : Judged) : Type 0 where
  pub extent : ExtentOf p (op_at n ∷ []) j.extent
  pub told : WhollyTold p j

-- an item was added to a list, where P holds
pub data Noted {A : Type 0} (P : Type 0) (old new : List A) (x : A) : Type 0 where
  taken : P → new ≡ old ++ x ∷ [] → Noted P old new x
  left : ¬ P → new ≡ old → Noted P old new x

-- an operation calls, and each pair of its extent commutes
pub record CommutingOp (p : PlainProgram) (js : List Judged) (op : OpId) : Type 0 where
  pub judged : Judged
  pub found : slice_get js op.0 ≡ Some judged
  pub calls : calls_of_all (operation_body p op) ≢ []
  pub commute : AllCommute judged

-- a loop of calls has the number n, each pair of its extent commutes, and it is constant there
pub record CommutingLoop (p : PlainProgram) (loops : List Statement) (ls : List JudgedLoop) (n : ℕ) : Type 0 where
  pub place : ℕ
  pub loop : Statement
  pub judged : JudgedLoop
  pub stands : slice_get loops place ≡ Some loop
  pub found : slice_get ls place ≡ Some judged
  pub number : judged.site.0 ≡ n
  pub commute : AllCommute judged.judged
  pub constant : IsSeparated p judged.judged.extent.written true loop

abbrev pub loop_of : ℕ → LoopId
loop_of n = record { 0 = n }

-- each pair in each extent of a plan is told
pub record PlanTold (p : PlainProgram) (plan : PlainPlan) : Type 0 where
  pub ops : AllWhollyTold p plan.ops
  pub loops : (l : JudgedLoop) → Contains plan.loops l → WhollyTold p l.judged
