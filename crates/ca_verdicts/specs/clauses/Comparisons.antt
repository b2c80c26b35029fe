-- What the comparison of two orders tells.
use Rattle.std.specs.Prelude.{◌≡◌, ◌≢◌, List}
use Rattle.ca_program.specs.declared.program.ClassId.{ClassId}
use Rattle.ca_forms.specs.declared.form.Normal.TheVariants.{Scalar}
use Rattle.ca_forms.specs.Plain.{PlainPolynomial, number_form}
use Rattle.ca_norm.specs.Terms.{PlainTerm}
use Rattle.ca_symbolic.specs.Demanded.{kind_of}
use Rattle.ca_symbolic.specs.States.{PlainDemand}
use Rattle.ca_verdicts.specs.declared.verdicts.Reason.{Reason}
use Rattle.ca_verdicts.specs.declared.verdicts.Reason.TheVariants as reason
use Rattle.ca_verdicts.specs.declared.verdicts.Verdict.{Verdict}
use Rattle.ca_verdicts.specs.declared.verdicts.Verdict.TheVariants.{Commutes, Unproved}
use Rattle.ca_verdicts.specs.Keys.{Key}
use Rattle.ca_verdicts.specs.Demands.{demanded_at}
use Rattle.ca_verdicts.specs.Counts.{SameDemand, SameDemands}
use Rattle.ca_verdicts.specs.Verdicts.{SameFields, FirstApart}

abbrev pub Not : Type 0 → Type 0
Not P = P → ⊥

-- the first field of the class at which two lists of terms are not the same
abbrev pub FieldsDiffer : ClassId → List PlainTerm → List PlainTerm → Reason → Type 0
FieldsDiffer c ts us (reason.FieldDiffers f x y) = (f.class ≡ c) × FirstApart ts us f.field x y
FieldsDiffer c ts us other = ⊥

-- The parts of what is told of a demand: its key, the two sums, and that they differ.
abbrev pub TellsKey : Key → Reason → Type 0
TellsKey k (reason.DemandsDiffer kind parts x y) = record { kind = kind_of kind; parts = parts } ≡ k
TellsKey k other = ⊥

abbrev pub TellsFirst : PlainPolynomial → Reason → Type 0
TellsFirst f (reason.DemandsDiffer kind parts x y) = x ≡ Scalar (number_form f)
TellsFirst f other = ⊥

abbrev pub TellsSecond : PlainPolynomial → Reason → Type 0
TellsSecond f (reason.DemandsDiffer kind parts x y) = y ≡ Scalar (number_form f)
TellsSecond f other = ⊥

abbrev pub TellsApart : Reason → Type 0
TellsApart (reason.DemandsDiffer kind parts x y) = x ≢ y
TellsApart other = ⊥

-- a key under which two lists of demands don't demand the same, with the sums of both
abbrev pub DemandsDiffer : List PlainDemand → List PlainDemand → Reason → Type 0
DemandsDiffer ds es (reason.DemandsDiffer kind parts x y) =
    (x ≡ Scalar (number_form (demanded_at (record { kind = kind_of kind; parts = parts }) ds))) ×
    (y ≡ Scalar (number_form (demanded_at (record { kind = kind_of kind; parts = parts }) es))) ×
    Not (SameDemand (record { kind = kind_of kind; parts = parts }) ds es)
DemandsDiffer ds es other = ⊥

-- what is said of two orders whose fields end in the terms ts and us, and which demand ds and es
abbrev pub IsCompared : ClassId → List PlainTerm → List PlainTerm → List PlainDemand → List PlainDemand → Verdict → Type 0
IsCompared c ts us ds es (Unproved (reason.FieldDiffers f x y)) = (f.class ≡ c) × FirstApart ts us f.field x y
IsCompared c ts us ds es (Unproved (reason.DemandsDiffer kind parts x y)) =
    SameFields ts us × (x ≡ Scalar (number_form (demanded_at (record { kind = kind_of kind; parts = parts }) ds))) ×
    (y ≡ Scalar (number_form (demanded_at (record { kind = kind_of kind; parts = parts }) es))) ×
    Not (SameDemand (record { kind = kind_of kind; parts = parts }) ds es)
IsCompared c ts us ds es Commutes = SameFields ts us × SameDemands ds es
IsCompared c ts us ds es other = ⊥
