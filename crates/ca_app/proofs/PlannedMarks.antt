-- A copy of a plan's marks is the marks of that plan.
use Rattle.std.proofs.Common.{◌≡◌, Result, Ok, Err, sym, subst}
use Rattle.std.specs.Prelude.{IfOk}
use Rattle.ca_program.specs.Plain.{PlainProgram}
use Rattle.ca_parallel.specs.Lists.{PlainMarks}
use Rattle.ca_parallel.specs.Marks.{SoundMarks}
use Rattle.ca_plan.specs.Plans.{PlainPlan, PlanOf}

module _ {E : Type 0} {p : PlainProgram} (plan : PlainPlan) where
  pub are_planned : (r : Result PlainMarks E) → PlanOf p plan → IfOk r (λ m. m ≡ plan.marks) → IfOk r (λ m. (of : PlainPlan) × PlanOf p of × (m ≡ of.marks))
  are_planned (Ok m) is same = (plan, is, same)
  are_planned (Err e) is same = tt

  pub are_sound : (r : Result PlainMarks E) → SoundMarks p plan.marks → IfOk r (λ m. m ≡ plan.marks) → IfOk r (SoundMarks p)
  are_sound (Ok m) sound same = subst (SoundMarks p) (sym same) sound
  are_sound (Err e) sound same = tt
