-- The laws of verdicts as statements: a pair has one, and what is the same by forms commutes.
use Rattle.std.specs.Prelude.{◌≡◌, List, map}
use Rattle.ca_program.specs.declared.program.FieldId.{FieldId}
use Rattle.ca_program.specs.declared.program.OpId.{OpId}
use Rattle.ca_program.specs.Plain.{PlainProgram}
use Rattle.ca_verdicts.specs.declared.verdicts.Verdict.{Verdict}
use Rattle.ca_norm.specs.Forms.{norm}
use Rattle.ca_verdicts.specs.declared.verdicts.Verdict.TheVariants.{Commutes, Unproved}
use Rattle.ca_verdicts.specs.declared.verdicts.Reason.TheVariants.{DemandsDiffer}
use Rattle.ca_verdicts.specs.Demands.{SameSums}
use Rattle.ca_verdicts.specs.Orders.{first_order, second_order}
use Rattle.ca_verdicts.specs.Verdicts.{Light, VerdictOf}
use Rattle.ca_verdicts.specs.MovingPairs.{IsMovingPair}

-- the same verdict, but for which of the demands that differ is told
abbrev pub SameVerdict : Verdict → Verdict → Type 0
SameVerdict (Unproved (DemandsDiffer k xs f g)) (Unproved (DemandsDiffer l ys h i)) = Unit {0}
SameVerdict v w = v ≡ w

-- A pair has one verdict, but for which of the demands that differ is told.
abbrev pub OneVerdict : Type 0
OneVerdict = (p : PlainProgram) (written : List FieldId) (a b : OpId) (v w : Verdict) → VerdictOf p written a b v → VerdictOf p written a b w → SameVerdict v w

-- Each field and each sum has one form, whatever its points.
pub record CommutesByForms (p : PlainProgram) (written : List FieldId) (a b : OpId) : Type 0 where
  pub light : Light p written a b
  pub fields : map norm (first_order p a b).fields ≡ map norm (second_order p a b).fields
  pub demands : SameSums (first_order p a b).demands (second_order p a b).demands

-- What commutes by forms alone has the verdict Commutes.
abbrev pub NoneIsLost : Type 0
NoneIsLost = (p : PlainProgram) (written : List FieldId) (a b : OpId) → CommutesByForms p written a b → VerdictOf p written a b Commutes

-- So has a pair that raises one field, or lowers it.
abbrev pub MovingPairsCommute : Type 0
MovingPairsCommute = (p : PlainProgram) (written : List FieldId) (a b : OpId) → IsMovingPair p a b → VerdictOf p written a b Commutes
