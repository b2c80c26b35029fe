-- Worked examples of objects and heaps that agree but for what is written.
use Rattle.std.proofs.Common.{◌≡◌, ℕ, zero, suc, List, [], ◌∷◌, Option, Some, refl, ap, ap₂, sym, subst, pos, arith}
use Rattle.std.specs.Prelude.{Contains, slice_get}
use Rattle.ca_program.specs.declared.program.ClassId.{ClassId}
use Rattle.ca_program.specs.declared.program.FieldId.{FieldId}
use Rattle.ca_model.specs.declared.value.Value.TheVariants.{Long}
use Rattle.ca_model.specs.declared.value.Slot.{Slot}
use Rattle.ca_model.specs.declared.value.Slot.TheVariants.{One}
use Rattle.ca_model.specs.declared.value.Object.{Object}
use Rattle.ca_meaning.specs.Agree.{Agree, AgreesAt, HeapsAgree}
use Rattle.ca_meaning.proofs.CommutingExamples.{class_a, n, with_n, heap}

-- class A has the field n alone, and it is written
abbrev written : List FieldId
written = n ∷ []

abbrev field : ClassId → ℕ → FieldId
field c k = record { class = c; field = k }

others_same : (x y : ℕ) (f : FieldId) → f.class ≡ class_a → ¬ Contains written f → slice_get (with_n x).slots f.field ≡ slice_get (with_n y).slots f.field
others_same x y f class not = from f.field refl
  where
    from : (k : ℕ) → f.field ≡ k → slice_get (with_n x).slots k ≡ slice_get (with_n y).slots k
    from zero e = let is : n ≡ f = ap₂ field (sym class) (sym e) in absurd (not (0, omega arith, is))
    from (suc k) e = refl

-- so objects of class A agree, whatever n is
any_n : (x y : ℕ) → Agree written (with_n x) (with_n y)
any_n x y = record { class = refl; constants = others_same x y }

-- where n is a constant they agree only if it is the same
abbrev n_in : Option Slot → ℕ
n_in (Some (One (Long (pos x)))) = x
n_in _ = 0

nothing_written : ¬ Contains [] n
nothing_written (k, below, is) = absurd (omega (arith, below))

constant_differs : ¬ Agree [] (with_n 1) (with_n 2)
constant_differs a = let e : 1 ≡ 2 = ap n_in (a.constants n refl nothing_written) in absurd (omega (arith, e))

-- objects of two classes never agree
abbrev of_class : ℕ → Object
of_class c = record { class = record { 0 = c }; slots = [] }

other_class : (fields : List FieldId) → ¬ Agree fields (of_class 0) (of_class 1)
other_class fields a = let e : 0 ≡ 1 = ap (λ (c : ClassId). c.0) a.class in absurd (omega (arith, e))

-- object 0 of the heap agrees, and there is no object 1
at_0 : (x : ℕ) → AgreesAt written (with_n x) heap 0
at_0 x = record { other = with_n 0; there = refl; agree = any_n x 0 }

at_1 : (x : ℕ) → ¬ AgreesAt written (with_n x) heap 1
at_1 x a = past a.other a.there
  where
    past : (o : Object) → ¬ (slice_get heap 1 ≡ Some o)
    past o e = absurd cc

-- heaps of one object each
heaps_agree : (x : ℕ) → HeapsAgree written (with_n x ∷ []) heap
heaps_agree x = record { as_many = refl; each = each }
  where
    each : (k : ℕ) (o : Object) → slice_get (with_n x ∷ []) k ≡ Some o → AgreesAt written o heap k
    each zero o at = let e : with_n x ≡ o = cc in subst (λ z. AgreesAt written z heap 0) e (at_0 x)
    each (suc k) o at = absurd cc

fewer_objects : ¬ HeapsAgree written heap []
fewer_objects a = absurd (omega (arith, a.as_many))
