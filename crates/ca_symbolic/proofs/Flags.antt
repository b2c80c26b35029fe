-- What is refused, and what is not.
use Rattle.std.proofs.Common.{◌≡◌, Bool, true, false, ◌||◌, List, [], ◌∷◌, Result, Ok, Err, OnOk, IfOk, IsOkAnd, refl, ap, subst, ◌∙◌}

-- `auto` takes these three by name
pub neither : (a b : Bool) → a ≡ false → b ≡ false → (a || b) ≡ false
neither false b p q = q
neither true b p q = absurd cc

pub first_of : (a b : Bool) → a ≡ true → (a || b) ≡ true
first_of true b p = refl
first_of false b p = absurd cc

pub second_of : (a b : Bool) → b ≡ true → (a || b) ≡ true
second_of true b p = refl
second_of false b p = p

pub if_ok : {T E : Type 0} (r : Result T E) (P Q : Type 0) → (P → Q) → IfOk r (λ _. P) → OnOk r Q
if_ok (Ok x) P Q f h = f h
if_ok (Err e) P Q f h = tt

-- what holds in any case
pub always : {T E : Type 0} (r : Result T E) (P : Type 0) → P → OnOk r P
always (Ok x) P h = h
always (Err e) P h = tt

-- the error of a call that was told again is that of the call
pub again : {T E : Type 0} (r : Result T E) (f e w : E) → r ≡ Err f → f ≡ e → r ≡ Err w → e ≡ w
again r f e w is same told = cc

-- two facts at once
pub both_ok : {T E : Type 0} (r : Result T E) (P Q R : Type 0) → (P → Q → R) → OnOk r P → OnOk r Q → OnOk r R
both_ok (Ok x) P Q R f p q = f p q
both_ok (Err e) P Q R f p q = tt

-- neither of two before a third
pub neither_before : (a b c : Bool) → (a || b) ≡ false → (a || (b || c)) ≡ c
neither_before true b c h = absurd cc
neither_before false true c h = absurd cc
neither_before false false c h = refl

-- what was made is no error
pub made_is_light : {T E : Type 0} {x : T} {e : E} → Ok x ≡ Err e → ⊥
made_is_light is = cc

-- the list of one that was made
pub one_item : {T E : Type 0} (q : Result T E) (xs : List T) (x : T) → IsOkAnd q (λ y. xs ≡ y ∷ []) → IfOk q (λ y. y ≡ x) → xs ≡ x ∷ []
one_item (Ok y) xs x h is = h ∙ ap (λ z. z ∷ []) is
one_item (Err e) xs x h is = absurd h

-- what follows where a call's answer was passed on
pub passed : {T E F : Type 0} (r : Result T E) (q : Result T F) (P Q : Type 0) → IfOk r (λ x. q ≡ Ok x) → (P → Q) → OnOk q P → OnOk r Q
passed (Ok x) q P Q is f h = f (subst (λ z. OnOk z P) is h)
passed (Err e) q P Q is f h = tt
