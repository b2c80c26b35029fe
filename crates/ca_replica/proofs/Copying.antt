-- A copy that is added to a replica.
use Rattle.std.proofs.Common.{◌≡◌, ℕ, zero, suc, List, [], ◌∷◌, ◌++◌, length, Some, Result, Ok, Err, IfOk, ap, ◌∙◌}
use Rattle.std.specs.Prelude.{slice_get, OnErr}
use Rattle.ca_lists.proofs.Places.{get_last}
use Rattle.ca_program.specs.declared.program.FieldId.{FieldId}
use Rattle.ca_model.specs.declared.value.Object.{Object}
use Rattle.ca_beside.specs.declared.beside.Changed.{Changed}
use Rattle.ca_beside.specs.Beside.{present, IsAbsent, IsPlace}
use Rattle.ca_beside.proofs.Present.{changed, present_copied}
use Rattle.ca_replica.specs.Zeroed.{zeroed, zeroed_heap}

pub placed : {E : Type 0} (r : Result ℕ E) (cs new : List Changed) (n : ℕ) (o : Object) → IfOk r (λ i. i ≡ length cs) → IfOk r (λ _. new ≡ cs ++ changed n o ∷ []) → IfOk r (λ i. IsPlace new i n)
placed (Ok i) cs new n o at is = record { object = o; there = ap (λ z. slice_get z i) is ∙ ap (λ k. slice_get (cs ++ changed n o ∷ []) k) at ∙ get_last cs (changed n o) }
placed (Err e) cs new n o at is = tt

pub zeroed_at : (fs : List FieldId) (h : List Object) (n : ℕ) (o : Object) → slice_get h n ≡ Some o → slice_get (zeroed_heap fs h) n ≡ Some (zeroed fs o)
zeroed_at fs [] n o e = cc
zeroed_at fs (x ∷ h) zero o e = let same : x ≡ o = cc in ap (λ z. Some (zeroed fs z)) same
zeroed_at fs (x ∷ h) (suc n) o e = zeroed_at fs h n o e

pub copied_same : {E : Type 0} (r : Result ℕ E) (base : List Object) (cs new : List Changed) (n : ℕ) (o : Object) → IsAbsent cs n → slice_get base n ≡ Some o → IfOk r (λ _. new ≡ cs ++ changed n o ∷ []) → OnErr r (new ≡ cs) → present base new ≡ present base cs
copied_same (Ok i) base cs new n o away there is kept = ap (present base) is ∙ present_copied base cs n o away there
copied_same (Err e) base cs new n o away there is kept = ap (present base) kept
