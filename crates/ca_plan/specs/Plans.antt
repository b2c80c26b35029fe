-- The plan of a program: for each operation and for each call loop its extent with the verdicts on the pairs in it, and
-- the marks on those whose calls may run in any order.
use Rattle.std.specs.Prelude.{ℕ, ◌≡◌, ◌≢◌, ◌<◌, ◌↔◌, true, if◌then◌else◌, List, [], ◌∷◌, length, map, Some, slice_get, Contains}
use Rattle.ca_program.specs.declared.program.LoopId.{LoopId}
use Rattle.ca_program.specs.declared.program.OpId.{OpId}
use Rattle.ca_program.specs.Plain.{PlainProgram, Statement}
use Rattle.ca_meaning.specs.Commuting.{Commutes as DoCommute}
use Rattle.ca_meaning.specs.Flows.{line_of}
use Rattle.ca_parallel.specs.Bodies.{calls_of, calls_of_all}
use Rattle.ca_parallel.specs.Extents.{Extent, operation_body}
use Rattle.ca_parallel.specs.ExtentsOf.{ExtentOf, Rises, OpBefore}
use Rattle.ca_parallel.specs.Lists.{PlainMarks}
use Rattle.ca_parallel.specs.Marks.{loops_of_program, HasSite}
use Rattle.ca_parallel.specs.Separable.{Separable, IsSeparated}
use Rattle.ca_symbolic.specs.OtherLoops.{is_call_loop}
use Rattle.ca_verdicts.specs.declared.verdicts.Verdict.{Verdict}
use Rattle.ca_verdicts.specs.declared.verdicts.Verdict.TheVariants.{Commutes}
use Rattle.ca_verdicts.specs.Verdicts.{VerdictOf}
use Rattle.ca_plan.specs.Pairs.{Pair, pairs_in}

-- two operations of one class, of which the first doesn't come behind the second, and the verdict on them
pub record PairVerdict : Type 0 where
  pub a : OpId
  pub b : OpId
  pub verdict : Verdict

-- an extent, with a verdict on each of its pairs
pub record Judged : Type 0 where
  pub extent : Extent
  pub pairs : List PairVerdict

pub record JudgedLoop : Type 0 where
  pub site : LoopId
  pub line : ℕ
  pub judged : Judged

-- what is said of each operation in order, and of each call loop in the order of the text
pub record PlainPlan : Type 0 where
  pub marks : PlainMarks
  pub ops : List Judged
  pub loops : List JudgedLoop

abbrev pub pair_of : PairVerdict → Pair
pair_of x = record { a = x.a; b = x.b }

-- the extent of these operations, with the verdict on each of its pairs
pub record IsJudged (p : PlainProgram) (roots : List OpId) (j : Judged) : Type 0 where
  pub extent : ExtentOf p roots j.extent
  pub pairs : map pair_of j.pairs ≡ pairs_in p j.extent.ops
  pub verdicts : (x : PairVerdict) → Contains j.pairs x → VerdictOf p j.extent.written x.a x.b x.verdict

-- its operations may run in any order: each is separable, and every two of one class commute
pub record AnyOrder (p : PlainProgram) (j : Judged) : Type 0 where
  pub separable : (op : OpId) → Contains j.extent.ops op → Separable p j.extent.written op
  pub commute : (x : PairVerdict) → Contains j.pairs x → x.verdict ≡ Commutes

-- Operations

abbrev pub op_at : ℕ → OpId
op_at n = record { 0 = n }

-- The body of the operation calls operations, and what it may invoke may run in any order.
pub record IsMarked (p : PlainProgram) (js : List Judged) (op : OpId) : Type 0 where
  pub judged : Judged
  pub found : slice_get js op.0 ≡ Some judged
  pub calls : calls_of_all (operation_body p op) ≢ []
  pub order : AnyOrder p judged

-- Loops

abbrev pub call_loops_of : List Statement → List Statement
call_loops_of [] = []
call_loops_of (x ∷ xs) = if is_call_loop x then x ∷ call_loops_of xs else call_loops_of xs

-- the call loops of operations and of `main`, in the order of the text
abbrev pub call_loops : PlainProgram → List Statement
call_loops p = call_loops_of (loops_of_program p)

pub record IsJudgedLoop (p : PlainProgram) (loop : Statement) (j : JudgedLoop) : Type 0 where
  pub site : HasSite loop j.site
  pub line : j.line ≡ line_of loop
  pub judged : IsJudged p (calls_of loop) j.judged

-- What the calls of the loop may invoke may run in any order, and the loop's own expressions read, directly or through
-- value methods, only locals and constants of that extent, and divide by literals other than 0 alone.
pub record IsMarkedLoop (p : PlainProgram) (js : List JudgedLoop) (site : LoopId) : Type 0 where
  pub place : ℕ
  pub loop : Statement
  pub judged : JudgedLoop
  pub stands : slice_get (call_loops p) place ≡ Some loop
  pub found : slice_get js place ≡ Some judged
  pub numbered : HasSite loop site
  pub order : AnyOrder p judged.judged
  pub constant : IsSeparated p judged.judged.extent.written true loop

-- The plan

abbrev pub LoopBefore : LoopId → LoopId → Type 0
LoopBefore a b = a.0 < b.0

-- The marks: as lists that rise, so they are one value.
pub record MarksOf (p : PlainProgram) (plan : PlainPlan) : Type 0 where
  pub ops : (op : OpId) → Contains plan.marks.ops op ↔ IsMarked p plan.ops op
  pub loops : (site : LoopId) → Contains plan.marks.loops site ↔ IsMarkedLoop p plan.loops site
  pub ops_rise : Rises OpBefore plan.marks.ops
  pub loops_rise : Rises LoopBefore plan.marks.loops

pub record PlanOf (p : PlainProgram) (plan : PlainPlan) : Type 0 where
  pub as_many : length plan.ops ≡ length p.ops
  pub ops : (n : ℕ) (j : Judged) → slice_get plan.ops n ≡ Some j → IsJudged p (op_at n ∷ []) j
  pub each_loop : length plan.loops ≡ length (call_loops p)
  pub loops : (n : ℕ) (loop : Statement) (j : JudgedLoop) → slice_get (call_loops p) n ≡ Some loop → slice_get plan.loops n ≡ Some j → IsJudgedLoop p loop j
  pub marks : MarksOf p plan

-- What its verdicts promise

-- where one says that two operations commute, they do
abbrev pub CommuteIn : PlainProgram → Judged → Type 0
CommuteIn p j = (x : PairVerdict) → Contains j.pairs x → x.verdict ≡ Commutes → DoCommute p j.extent.written x.a x.b

pub record CommuteAsTold (p : PlainProgram) (plan : PlainPlan) : Type 0 where
  pub ops : (j : Judged) → Contains plan.ops j → CommuteIn p j
  pub loops : (l : JudgedLoop) → Contains plan.loops l → CommuteIn p l.judged
