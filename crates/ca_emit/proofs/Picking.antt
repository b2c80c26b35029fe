-- Places that are picked one by one.
use Rattle.std.proofs.Common.{◌≡◌, ◌+◌, ◌≤◌, ◌<◌, ℕ, zero, suc, Bool, List, [], ◌∷◌, ◌++◌, length, min, drop, get_or, Some, refl, sym, ap, ap₂, ◌∙◌, arith, append_assoc}
use Rattle.std.specs.Prelude.{slice_get, option_map}
use Rattle.std.specs.Borrow.{Bor}
use Rattle.std.proofs.lemmas.List.{length-map, drop_all}
use Rattle.std.proofs.lemmas.Option.{slice_get-map}
use Rattle.ca_tree.specs.declared.name.Place.{Place}
use Rattle.ca_tree.specs.declared.tree.MethodNode.{MethodNode}
use Rattle.ca_tree.specs.Plain.{MethodTree}
use Rattle.ca_tree.specs.View.{method_view}
use Rattle.ca_model.proofs.Stores.{found}
use Rattle.ca_model.proofs.Texts.{drop_there}
use Rattle.ca_emit.specs.Annotations.{picked, place_if}
use Rattle.ca_emit.specs.clauses.Seen.{methods_seen}

-- one item more, of a list that is made by number
pub one_at : {A B : Type 0} (from : ℕ → List A → List B) (one : ℕ → A → List B) → ((n : ℕ) (x : A) (xs : List A) → from n (x ∷ xs) ≡ one n x ++ from (n + 1) xs)
    → (xs : List A) (i : ℕ) (x : A) → slice_get xs i ≡ Some x → (all now next : List B)
    → now ++ from i (drop i xs) ≡ all → next ≡ now ++ one i x → next ++ from (i + 1) (drop (i + 1) xs) ≡ all
one_at from one by xs i x at all now next was is =
    ap (λ z. z ++ from (i + 1) (drop (i + 1) xs)) is
    ∙ append_assoc now (one i x) (from (i + 1) (drop (i + 1) xs))
    ∙ ap (λ z. now ++ z) (sym (by i x (drop (i + 1) xs)))
    ∙ ap (λ z. now ++ from i z) (sym (drop_there xs i x at))
    ∙ was

no_places : (ats : List Place) → picked ats [] ≡ []
no_places [] = refl
no_places (at ∷ ats) = refl

pub one_picked : (ats : List Place) (bs : List Bool) (i : ℕ) (at : Place) (b : Bool) → slice_get ats i ≡ Some at → slice_get bs i ≡ Some b → (all now next : List Place)
    → now ++ picked (drop i ats) (drop i bs) ≡ all → next ≡ now ++ place_if b at → next ++ picked (drop (i + 1) ats) (drop (i + 1) bs) ≡ all
one_picked ats bs i at b p q all now next was is =
    ap (λ z. z ++ picked (drop (i + 1) ats) (drop (i + 1) bs)) is
    ∙ append_assoc now (place_if b at) (picked (drop (i + 1) ats) (drop (i + 1) bs))
    ∙ ap (λ z. now ++ z) (sym (ap₂ picked (drop_there ats i at p) (drop_there bs i b q)))
    ∙ was

pub all_picked : (ats : List Place) (bs : List Bool) (i : ℕ) → min (length ats) (length bs) ≤ i → picked (drop i ats) (drop i bs) ≡ []
all_picked [] bs zero h = refl
all_picked [] bs (suc i) h = refl
all_picked (at ∷ ats) [] zero h = refl
all_picked (at ∷ ats) [] (suc i) h = no_places (drop i ats)
all_picked (at ∷ ats) (b ∷ bs) zero h = absurd (omega (arith, h))
all_picked (at ∷ ats) (b ∷ bs) (suc i) h = all_picked ats bs i (omega (arith, h))

-- methods in memory

pub method_at : (ms : List (Bor MethodNode)) (n : ℕ) (m : Bor MethodNode) → n < length ms → m ≡ get_or ms n m → slice_get (methods_seen ms) n ≡ Some (method_view m.now)
method_at ms n m h is = slice_get-map (λ (x : Bor MethodNode). method_view x.now) ms n ∙ ap (option_map (λ (x : Bor MethodNode). method_view x.now)) (found ms n m h is)

pub none_behind : {B : Type 0} (from : ℕ → List MethodTree → List B) → ((n : ℕ) → from n [] ≡ []) → (ms : List (Bor MethodNode)) (n : ℕ) → length ms ≤ n → from n (drop n (methods_seen ms)) ≡ []
none_behind from none ms n h = ap (from n) (drop_all n (methods_seen ms) (omega (arith, h, length-map ms (λ (x : Bor MethodNode). method_view x.now)))) ∙ none n
