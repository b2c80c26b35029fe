-- What is made of two answers, where both are known.
use Rattle.std.proofs.Common.{◌≡◌, ◌∙◌, subst}
use Rattle.std.specs.Prelude.{Result, Ok, Err, IfOk, IsOkAnd}

pub both_known : {X Y E : Type 0} (a : Result X E) (b : Result Y E) (x : X) (y : Y) (P : X → Y → Type 0) → IfOk a (λ z. z ≡ x) → IfOk b (λ z. z ≡ y) → IsOkAnd a (λ u. IsOkAnd b (λ v. P u v)) → P x y
both_known (Ok u) (Ok v) x y P e f h = subst (λ w. P x w) f (subst (λ w. P w v) e h)
both_known (Ok u) (Err g) x y P e f h = absurd h
both_known (Err g) b x y P e f h = absurd h

pub both_made : {T X Y E : Type 0} (r : Result T E) (a : Result X E) (b : Result Y E) (make : X → Y → T) (x : X) (y : Y) (t : T) → make x y ≡ t → IfOk a (λ z. z ≡ x) → IfOk b (λ z. z ≡ y) → IfOk r (λ z. IsOkAnd a (λ u. IsOkAnd b (λ v. z ≡ make u v))) → IfOk r (λ z. z ≡ t)
both_made (Ok z) a b make x y t g e f h = both_known a b x y (λ u v. z ≡ make u v) e f h ∙ g
both_made (Err g) a b make x y t h e f i = tt
