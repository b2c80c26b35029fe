-- What is told of an offence is a verdict.
use Rattle.std.proofs.Common.{◌≡◌, List}
use Rattle.ca_program.specs.declared.program.FieldId.{FieldId}
use Rattle.ca_program.specs.declared.program.OpId.{OpId}
use Rattle.ca_program.specs.Plain.{PlainProgram}
use Rattle.ca_verdicts.specs.declared.verdicts.Reason.{Reason}
use Rattle.ca_verdicts.specs.declared.verdicts.Reason.TheVariants.{NotSeparable, LoopForm, Large, FieldDiffers, DemandsDiffer}
use Rattle.ca_verdicts.specs.declared.verdicts.Verdict.TheVariants.{Commutes, Unproved}
use Rattle.ca_verdicts.specs.Verdicts.{OffenceTold, VerdictOf}

pub told_verdict : (p : PlainProgram) (written : List FieldId) (a b : OpId) (r : Reason) → OffenceTold p written a b r → VerdictOf p written a b (Unproved r)
told_verdict p written a b (NotSeparable op line why) t = t
told_verdict p written a b (LoopForm line) t = t
told_verdict p written a b Large t = absurd t
told_verdict p written a b (FieldDiffers f x y) t = absurd t
told_verdict p written a b (DemandsDiffer kind parts x y) t = absurd t

pub not_commutes : (r : Reason) → Unproved r ≡ Commutes → ⊥
not_commutes r is = absurd cc
