-- The texts of lists, at one of their items.
use Rattle.std.proofs.Common.{◌≡◌, ℕ, zero, suc, ◌+◌, ◌≤◌, min, List, [], ◌∷◌, ◌++◌, length, drop, get_or, Some, None, refl, ap, add-one, arith}
use Rattle.std.specs.Prelude.{codes, slice_get}
use Rattle.std.proofs.lemmas.Option.{slice_get-map}
use Rattle.ca_program.specs.declared.program.Class.{Class}
use Rattle.ca_program.specs.declared.program.FieldInfo.{FieldInfo}
use Rattle.ca_program.specs.declared.program.Program.{Program}
use Rattle.ca_program.specs.Plain.{PlainProgram}
use Rattle.ca_program.specs.View.{class_view, program_view}
use Rattle.ca_model.specs.declared.value.Value.{Value as Datum}
use Rattle.ca_model.specs.declared.value.Slot.{Slot}
use Rattle.ca_model.specs.declared.value.Object.{Object}
use Rattle.ca_model.specs.Texts.{value_text, values_text, further_values_text, field_text, fields_text, class_text, object_text, objects_text}

drop_suc : {X : Type 0} (xs : List X) (i : ℕ) (x : X) → slice_get xs i ≡ Some x → drop i xs ≡ x ∷ drop (suc i) xs
drop_suc [] i x h = absurd (cc)
drop_suc (y ∷ xs) zero x h = let e : y ≡ x = cc in rw e
drop_suc (y ∷ xs) (suc i) x h = drop_suc xs i x h

pub drop_there : {X : Type 0} (xs : List X) (i : ℕ) (x : X) → slice_get xs i ≡ Some x → drop i xs ≡ x ∷ drop (i + 1) xs
drop_there xs i x h = rw (add-one i) (drop_suc xs i x h)

pub first_value : (vs : List Datum) (d : Datum) → 1 ≤ length vs → values_text vs ≡ value_text (get_or vs 0 d) ++ further_values_text (drop 1 vs)
first_value [] d some = absurd (omega arith)
first_value (v ∷ vs) d some = refl

pub at_value : (vs : List Datum) (i : ℕ) (v : Datum) → slice_get vs i ≡ Some v → further_values_text (drop i vs) ≡ (codes "," ++ value_text v) ++ further_values_text (drop (i + 1) vs)
at_value vs i v h = ap further_values_text (drop_there vs i v h)

pub at_field : (fs : List FieldInfo) (slots : List Slot) (i : ℕ) (f : FieldInfo) (s : Slot) → slice_get fs i ≡ Some f → slice_get slots i ≡ Some s → fields_text (drop i fs) (drop i slots) ≡ field_text f s ++ fields_text (drop (i + 1) fs) (drop (i + 1) slots)
at_field fs slots i f s h k = rw (drop_there fs i f h, drop_there slots i s k)

no_slots : (fs : List FieldInfo) → fields_text fs [] ≡ []
no_slots [] = refl
no_slots (f ∷ fs) = refl

-- behind the last field or slot there is no more text
pub no_fields : (fs : List FieldInfo) (slots : List Slot) (i : ℕ) → min (length fs) (length slots) ≤ i → fields_text (drop i fs) (drop i slots) ≡ []
no_fields [] slots zero le = refl
no_fields [] slots (suc i) le = refl
no_fields (f ∷ fs) [] zero le = refl
no_fields (f ∷ fs) [] (suc i) le = no_slots (drop i fs)
no_fields (f ∷ fs) (s ∷ slots) zero le = absurd (omega arith)
no_fields (f ∷ fs) (s ∷ slots) (suc i) le = no_fields fs slots i (omega arith)

pub class_there : (p : Program) (n : ℕ) (slots : List Slot) (c : Class) → Some c ≡ slice_get p.classes.items n → class_text (slice_get (program_view p).classes n) slots ≡ (codes " " ++ c.name) ++ fields_text c.fields.items slots
class_there p n slots c there = rw (slice_get-map class_view p.classes.items n, ← there)

pub no_class : (p : Program) (n : ℕ) (slots : List Slot) → None ≡ slice_get p.classes.items n → class_text (slice_get (program_view p).classes n) slots ≡ []
no_class p n slots absent = rw (slice_get-map class_view p.classes.items n, ← absent)

pub no_objects : (p : PlainProgram) (n : ℕ) (os : List Object) (i : ℕ) → length os ≤ i → objects_text p n (drop i os) ≡ []
no_objects p n [] zero le = refl
no_objects p n [] (suc i) le = refl
no_objects p n (o ∷ os) zero le = absurd (omega arith)
no_objects p n (o ∷ os) (suc i) le = no_objects p n os i (omega arith)

pub at_object : (p : PlainProgram) (os : List Object) (i : ℕ) (o : Object) → slice_get os i ≡ Some o → objects_text p i (drop i os) ≡ object_text p i o ++ objects_text p (i + 1) (drop (i + 1) os)
at_object p os i o h = ap (λ l. objects_text p i l) (drop_there os i o h)
