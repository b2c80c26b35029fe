-- A list that is read item by item: what was found, and what is found in the items that are left.
use Rattle.std.proofs.Common.{◌≡◌, ℕ, ◌+◌, ◌<◌, ◌≤◌, List, [], ◌∷◌, ◌++◌, length, drop, get_or, sym, ap, ◌∙◌, append_assoc, append-nil, subst, Result, Ok, Err}
use Rattle.std.specs.Prelude.{IfOk}
use Rattle.std.specs.Result.{result_and}
use Rattle.std.proofs.lemmas.List.{drop_all, get_or_default}
use Rattle.ca_lists.proofs.Places.{item_and_rest}

-- one item more: `found` of a list is that of its first item, and then that of the others
pub one_more : {A B : Type 0} (one : A → List B) (found : List A → List B) → ((x : A) (xs : List A) → found (x ∷ xs) ≡ one x ++ found xs)
    → (xs : List A) (i : ℕ) (x : A) → i < length xs → x ≡ get_or xs i x → (all now next : List B)
    → now ++ found (drop i xs) ≡ all → next ≡ now ++ one x → next ++ found (drop (i + 1) xs) ≡ all
one_more one found by xs i x h e all now next was is =
    ap (λ z. z ++ found (drop (i + 1) xs)) is
    ∙ append_assoc now (one x) (found (drop (i + 1) xs))
    ∙ ap (λ z. now ++ z) (sym (by x (drop (i + 1) xs)))
    ∙ ap (λ z. now ++ found z) (sym (item_and_rest xs i x h e))
    ∙ was

-- the same, where the item is read by its index
pub one_more_at : {A B : Type 0} (one : A → List B) (found : List A → List B) → ((x : A) (xs : List A) → found (x ∷ xs) ≡ one x ++ found xs)
    → (xs : List A) (i : ℕ) (d : A) → i < length xs → (all now next : List B)
    → now ++ found (drop i xs) ≡ all → next ≡ now ++ one (get_or xs i d) → next ++ found (drop (i + 1) xs) ≡ all
one_more_at one found by xs i d h = one_more one found by xs i (get_or xs i d) h (get_or_default xs i d (get_or xs i d) h)

pub none_left : {A B : Type 0} (found : List A → List B) → found [] ≡ [] → (xs : List A) (i : ℕ) → length xs ≤ i → (all now : List B) → now ++ found (drop i xs) ≡ all → now ≡ all
none_left found empty xs i h all now was =
    sym (append-nil now) ∙ ap (λ z. now ++ z) (sym empty) ∙ ap (λ z. now ++ found z) (sym (drop_all i xs h)) ∙ was

-- what two find, one behind the other, and nothing where one of them fails
pub both_found : {A T U E : Type 0} (r : Result T E) (s t : Result U E) (old mid new x y : List A)
    → IfOk r (λ _. mid ≡ old ++ x) → IfOk s (λ _. new ≡ mid ++ y) → t ≡ result_and r s → IfOk t (λ _. new ≡ old ++ (x ++ y))
both_found (Ok a) (Ok b) t old mid new x y p q is = subst (λ z. IfOk z (λ _. new ≡ old ++ (x ++ y))) (sym is) (q ∙ ap (λ z. z ++ y) p ∙ append_assoc old x y)
both_found (Ok a) (Err e) t old mid new x y p q is = subst (λ z. IfOk z (λ _. new ≡ old ++ (x ++ y))) (sym is) tt
both_found (Err e) s t old mid new x y p q is = subst (λ z. IfOk z (λ _. new ≡ old ++ (x ++ y))) (sym is) tt

-- what is found in a node, whose view is another's
pub found_at : {S A T E : Type 0} (found : S → List A) (r : Result T E) (old new : List A) (s t : S) → s ≡ t → IfOk r (λ _. new ≡ old ++ found t) → IfOk r (λ _. new ≡ old ++ found s)
found_at found r old new s t is h = subst (λ z. IfOk r (λ _. new ≡ old ++ found z)) (sym is) h
