-- What `emit` tells of an accepted text keeps the lock discipline, and has each mark.
use Rattle.std.proofs.Common.{◌≡◌, ℕ, List, Option, Result, Ok, refl}
use Rattle.ca_tree.specs.Plain.{TextTree}
use Rattle.ca_program.specs.Plain.{PlainProgram}
use Rattle.ca_words.specs.declared.PlanCommand.TheVariants.{Emit}
use Rattle.ca_shape_laws.proofs.Shapes.{program_resolves}
use Rattle.ca_plan.specs.Plans.{PlainPlan}
use Rattle.ca_emit.specs.Annotations.{annotated_text}
use Rattle.ca_emit.specs.Locks.{KeptText, MarkedText}
use Rattle.ca_emit.proofs.Locked.{kept_text}
use Rattle.ca_emit.proofs.Marked.{marked_text}
use Rattle.ca_app.specs.Told.{Tells, annotated, CommandTold}
use Rattle.ca_app.proofs.AcceptedTyped.{accepted_is_checked}
use Rattle.ca_app.proofs.NamesApart.{names_apart}

tells_annotated : {tree : TextTree} {p : PlainProgram} {plan : PlainPlan} {bytes : List ℕ} → Tells tree p plan Emit bytes → bytes ≡ annotated_text p plan tree
tells_annotated annotated = refl

module _ {text : List ℕ} {old now : Option (List ℕ)} (it : CommandTold Emit text old now) where
  -- the bytes, as what may have failed
  bytes : Result (List ℕ) (List ℕ)
  bytes = Ok it.told.bytes

  pub kept : KeptText it.program it.told.plan it.accepted.tree it.told.bytes
  unfolding bytes
  kept = kept_text it.program it.told.plan it.told.is (accepted_is_checked it.accepted) (λ v. v) bytes it.accepted.tree it.told.sound (tells_annotated it.told.tells)

  pub marked : MarkedText it.program it.told.plan it.accepted.tree it.told.bytes
  unfolding bytes
  marked = marked_text it.program it.told.plan it.accepted.tree (program_resolves it.accepted.tree it.program it.accepted.resolved) it.told.is (names_apart it.accepted) (λ v. v) bytes (tells_annotated it.told.tells)
