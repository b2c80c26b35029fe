-- The verdict on a pair that raises one field, or lowers it, is that it commutes.
use Rattle.std.proofs.Common.{◌≡◌, List, Result, Ok, Err, IfOk}
use Rattle.ca_program.specs.declared.program.FieldId.{FieldId}
use Rattle.ca_program.specs.declared.program.OpId.{OpId}
use Rattle.ca_program.specs.Plain.{PlainProgram}
use Rattle.ca_verdicts.specs.declared.verdicts.Verdict.{Verdict}
use Rattle.ca_verdicts.specs.declared.verdicts.Verdict.TheVariants.{Commutes}
use Rattle.ca_verdicts.specs.Verdicts.{VerdictOf}
use Rattle.ca_verdicts.specs.MovingPairs.{IsMovingPair}
use Rattle.ca_verdicts.proofs.Moving.{moving_commutes}
use Rattle.ca_verdicts.proofs.PlainPairs.{only_commutes}
use Rattle.ca_verdicts.proofs.Unique.{same_verdict}

pub moving_verdict : {E : Type 0} (p : PlainProgram) (written : List FieldId) (a b : OpId) → IsMovingPair p a b → (r : Result Verdict E) → IfOk r (λ v. VerdictOf p written a b v) → IfOk r (λ v. v ≡ Commutes)
moving_verdict p written a b h (Ok v) e = only_commutes v (same_verdict p written a b v Commutes e (moving_commutes p written a b h))
moving_verdict p written a b h (Err m) e = tt
