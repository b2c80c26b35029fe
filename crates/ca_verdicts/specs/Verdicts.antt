-- The verdict on two operations in an extent that writes these fields: the first reason why they aren't shown to
-- commute, or that they do. Fields and demands are the same by their forms, or under each order of their points. The
-- offences of both are asked for before the loops of both, and these before the weight of any term.
use Rattle.std.specs.Prelude.{◌≡◌, ◌⊎◌, ℕ, Bool, true, false, ◌||◌, List, [], ◌∷◌, take, Option, Some, None, slice_get}
use Rattle.std.specs.Option.{option_or}
use Rattle.ca_program.specs.declared.program.FieldId.{FieldId}
use Rattle.ca_program.specs.declared.program.OpId.{OpId}
use Rattle.ca_program.specs.Plain.{PlainProgram}
use Rattle.ca_meaning.specs.WellTyped.{IsMethodOf}
use Rattle.ca_parallel.specs.Separable.{Separable}
use Rattle.ca_section.specs.declared.offence.Offence.{Offence}
use Rattle.ca_section.specs.Offences.{FirstOffence}
use Rattle.ca_forms.specs.declared.form.Normal.{Normal}
use Rattle.ca_forms.specs.declared.form.Normal.TheVariants.{Scalar}
use Rattle.ca_forms.specs.Plain.{number_form}
use Rattle.ca_norm.specs.Terms.{PlainTerm, sort_of, IsScalar}
use Rattle.ca_norm.specs.Forms.{norm}
use Rattle.ca_order.specs.OrderSame.{OrderSame}
use Rattle.ca_symbolic.specs.Runs.{first_other_loop}
use Rattle.ca_verdicts.specs.declared.verdicts.Verdict.{Verdict}
use Rattle.ca_verdicts.specs.declared.verdicts.Verdict.TheVariants.{Commutes, Unproved}
use Rattle.ca_verdicts.specs.declared.verdicts.Reason.{Reason}
use Rattle.ca_verdicts.specs.declared.verdicts.Reason.TheVariants.{NotSeparable, LoopForm, Large, FieldDiffers, DemandsDiffer}
use Rattle.ca_symbolic.specs.Demanded.{kind_of}
use Rattle.ca_verdicts.specs.Demands.{demanded_at}
use Rattle.ca_verdicts.specs.Counts.{SameDemand, SameDemands}
use Rattle.ca_verdicts.specs.Orders.{first_order, second_order}

-- the first offence of a, or of b where a has none
abbrev pub Offends : PlainProgram → List FieldId → OpId → OpId → OpId → Offence → Type 0
Offends p written a b op first =
    ((op ≡ a) × FirstOffence p written a first) ⊎ ((op ≡ b) × Separable p written a × FirstOffence p written b first)

abbrev pub BothSeparable : PlainProgram → List FieldId → OpId → OpId → Type 0
BothSeparable p written a b = Separable p written a × Separable p written b

-- the line of the first loop of a that is neither a call loop nor a sweep, or of b where a has none
abbrev pub loop_of_both : PlainProgram → List FieldId → OpId → OpId → Option ℕ
loop_of_both p written a b = option_or (first_other_loop p written a) (first_other_loop p written b)

-- the reason names that offence, or that loop where there is no offence
abbrev pub OffenceTold : PlainProgram → List FieldId → OpId → OpId → Reason → Type 0
OffenceTold p written a b (NotSeparable op line why) = Offends p written a b op (record { line = line; why = why })
OffenceTold p written a b (LoopForm line) = BothSeparable p written a b × (loop_of_both p written a b ≡ Some line)
OffenceTold p written a b other = ⊥

-- what symbolic execution is for
pub record CanExecute (p : PlainProgram) (written : List FieldId) (a b : OpId) : Type 0 where
  pub separable : BothSeparable p written a b
  pub loops : loop_of_both p written a b ≡ None

-- a term of one of the orders weighs too much
abbrev pub is_large : PlainProgram → OpId → OpId → Bool
is_large p a b = (first_order p a b).heavy || (second_order p a b).heavy

-- no term of the orders is too heavy
pub record Light (p : PlainProgram) (written : List FieldId) (a b : OpId) : Type 0 where
  pub can : CanExecute p written a b
  pub light : is_large p a b ≡ false

-- the terms of a field have one form, or are those of a single value and the same under each order of their points
pub record OrderedScalar (t u : PlainTerm) : Type 0 where
  pub scalar : IsScalar (sort_of t)
  pub same : OrderSame t u

abbrev pub SameField : PlainTerm → PlainTerm → Type 0
SameField t u = (norm t ≡ norm u) ⊎ OrderedScalar t u

abbrev pub SameFields : List PlainTerm → List PlainTerm → Type 0
SameFields [] [] = Unit {0}
SameFields (t ∷ ts) (u ∷ us) = SameField t u × SameFields ts us
SameFields _ _ = ⊥

-- field n is the first at which two lists of terms differ, and there they have these forms
pub record FirstApart (ts us : List PlainTerm) (n : ℕ) (x y : Normal) : Type 0 where
  pub before : SameFields (take n ts) (take n us)
  pub one : PlainTerm
  pub other : PlainTerm
  pub first : slice_get ts n ≡ Some one
  pub second : slice_get us n ≡ Some other
  pub apart : SameField one other → ⊥
  pub first_form : x ≡ norm one
  pub second_form : y ≡ norm other

abbrev pub VerdictOf : PlainProgram → List FieldId → OpId → OpId → Verdict → Type 0
VerdictOf p written a b (Unproved (NotSeparable op line why)) = Offends p written a b op (record { line = line; why = why })
VerdictOf p written a b (Unproved (LoopForm line)) = BothSeparable p written a b × (loop_of_both p written a b ≡ Some line)
VerdictOf p written a b (Unproved Large) = CanExecute p written a b × (is_large p a b ≡ true)
VerdictOf p written a b (Unproved (FieldDiffers f x y)) =
    Light p written a b × IsMethodOf (slice_get p.ops a.0) f.class × FirstApart (first_order p a b).fields (second_order p a b).fields f.field x y
VerdictOf p written a b (Unproved (DemandsDiffer kind parts x y)) =
    Light p written a b × SameFields (first_order p a b).fields (second_order p a b).fields ×
    (x ≡ Scalar (number_form (demanded_at (record { kind = kind_of kind; parts = parts }) (first_order p a b).demands))) ×
    (y ≡ Scalar (number_form (demanded_at (record { kind = kind_of kind; parts = parts }) (second_order p a b).demands))) ×
    (SameDemand (record { kind = kind_of kind; parts = parts }) (first_order p a b).demands (second_order p a b).demands → ⊥)
VerdictOf p written a b Commutes =
    Light p written a b × SameFields (first_order p a b).fields (second_order p a b).fields × SameDemands (first_order p a b).demands (second_order p a b).demands
