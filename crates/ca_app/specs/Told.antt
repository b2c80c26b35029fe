-- What `pairs`, `plan` and `emit` tell of the plan of a text's program.
use Rattle.std.specs.Prelude.{ℕ, ◌≡◌, List, Option}
use Rattle.ca_tree.specs.Plain.{TextTree}
use Rattle.ca_base.specs.Devices.{grown}
use Rattle.ca_program.specs.Plain.{PlainProgram}
use Rattle.ca_parallel.specs.Marks.{SoundMarks}
use Rattle.ca_words.specs.declared.PlanCommand.{PlanCommand}
use Rattle.ca_words.specs.declared.PlanCommand.TheVariants.{Pairs, Plan, Emit}
use Rattle.ca_plan.specs.Plans.{PlainPlan, PlanOf, CommuteAsTold}
use Rattle.ca_plan.specs.Texts.{pairs_text, plan_text}
use Rattle.ca_emit.specs.Annotations.{annotated_text}
use Rattle.ca_app.specs.Accepted.{Accepted}

-- what a command tells of a plan: the verdicts, what is marked, or the annotated text
pub data Tells (tree : TextTree) (p : PlainProgram) (plan : PlainPlan) : PlanCommand → List ℕ → Type 0 where
  verdicts : Tells tree p plan Pairs (pairs_text p plan)
  marks : Tells tree p plan Plan (plan_text p plan)
  annotated : Tells tree p plan Emit (annotated_text p plan tree)

-- What was written is what the command tells of the plan of the program. What is marked may run in any order, and
-- operations of which the plan says that they commute do so.
pub record ProgramTold (tree : TextTree) (p : PlainProgram) (command : PlanCommand) (old now : Option (List ℕ)) : Type 0 where
  pub plan : PlainPlan
  pub is : PlanOf p plan
  pub bytes : List ℕ
  pub tells : Tells tree p plan command bytes
  pub written : now ≡ grown old bytes
  pub sound : SoundMarks p plan.marks
  pub commute : CommuteAsTold p plan

-- the program of the text was told
pub record CommandTold (command : PlanCommand) (text : List ℕ) (old now : Option (List ℕ)) : Type 0 where
  pub program : PlainProgram
  pub accepted : Accepted text program
  pub told : ProgramTold accepted.tree program command old now
