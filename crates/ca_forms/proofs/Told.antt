-- What is known of a call's answer, taken further.
use Rattle.std.proofs.Common.{◌≡◌, ℕ, ◌+◌, List, [], ◌∷◌, ◌++◌, take, sym, ap, subst, ◌∙◌}
use Rattle.std.specs.Prelude.{Result, Ok, Err, OnOk, IfOk, IsOkAnd}
use Rattle.std.specs.Result.{result_and}

pub on_ok : {T E : Type 0} (r : Result T E) (P Q : Type 0) → (P → Q) → OnOk r P → OnOk r Q
on_ok (Ok x) P Q f p = f p
on_ok (Err e) P Q f p = tt

pub if_ok : {T E : Type 0} (r : Result T E) (x y : T) → x ≡ y → IfOk r (λ z. z ≡ x) → IfOk r (λ z. z ≡ y)
if_ok r x y e h = subst (λ w. IfOk r (λ z. z ≡ w)) e h

-- the one item more, where it is known
pub put_behind : {T E : Type 0} (item : Result T E) (x : T) (old new : List T) → IsOkAnd item (λ y. new ≡ old ++ y ∷ []) → IfOk item (λ y. y ≡ x) → new ≡ old ++ x ∷ []
put_behind (Ok y) x old new h e = h ∙ ap (λ z. old ++ z ∷ []) e
put_behind (Err e) x old new h k = absurd h

pub copied : {T E : Type 0} (xs : List T) (i : ℕ) (x : T) (item : Result T E) (old new : List T) → take (i + 1) xs ≡ take i xs ++ x ∷ [] → old ≡ take i xs → IsOkAnd item (λ y. new ≡ old ++ y ∷ []) → IfOk item (λ y. y ≡ x) → new ≡ take (i + 1) xs
copied xs i x item old new h o n e = put_behind item x old new n e ∙ ap (λ z. z ++ x ∷ []) o ∙ sym h

-- one step further, from what the answer was made of
pub made : {T V E : Type 0} (r : Result T E) (part : Result V E) (f : V → T) (t : T) (P : V → Type 0) → ((v : V) → P v → f v ≡ t) → IfOk part P → IfOk r (λ z. IsOkAnd part (λ v. z ≡ f v)) → IfOk r (λ z. z ≡ t)
made (Ok z) (Ok v) f t P g h i = i ∙ g v h
made (Ok z) (Err e) f t P g h i = absurd i
made (Err e) part f t P g h i = tt

-- both parts of a pair that was made of two answers
pub both_told : {X Y E : Type 0} (s : Result (X × Y) E) (a : Result X E) (b : Result Y E) (x : X) (y : Y) → IfOk s (λ p. a ≡ Ok p.0) → IfOk s (λ p. b ≡ Ok p.1) → IfOk a (λ z. z ≡ x) → IfOk b (λ z. z ≡ y) → IfOk s (λ p. (p.0 ≡ x) × (p.1 ≡ y))
both_told (Ok p) a b x y e f h k = (subst (λ r. IfOk r (λ z. z ≡ x)) e h, subst (λ r. IfOk r (λ z. z ≡ y)) f k)
both_told (Err e) a b x y f g h k = tt

pub sides_told : {T C X Y E : Type 0} (r : Result T E) (c : Result C E) (s : Result (X × Y) E) (make : C → X → Y → T) (k : C) (x : X) (y : Y) (t : T) → make k x y ≡ t → IfOk c (λ z. z ≡ k) → IfOk s (λ p. (p.0 ≡ x) × (p.1 ≡ y)) → IfOk r (λ z. IsOkAnd c (λ v. IsOkAnd s (λ p. z ≡ make v p.0 p.1))) → IfOk r (λ z. z ≡ t)
sides_told (Ok z) (Ok v) (Ok p) make k x y t e g h i = i ∙ ap (λ w. make w p.0 p.1) g ∙ ap (λ w. make k w p.1) h.0 ∙ ap (λ w. make k x w) h.1 ∙ e
sides_told (Ok z) (Ok v) (Err f) make k x y t e g h i = absurd i
sides_told (Ok z) (Err f) s make k x y t e g h i = absurd i
sides_told (Err f) c s make k x y t e g h i = tt

-- what is known of a part, of what holds what was made of it
pub through : {S X E : Type 0} (s : Result S E) (part : Result X E) (f : S → X) (P : X → Type 0) → IfOk s (λ p. part ≡ Ok (f p)) → IfOk part P → IfOk s (λ p. P (f p))
through (Ok p) part f P e h = subst (λ r. IfOk r P) e h
through (Err e) part f P g h = tt

-- one step, where it was made of an answer of which something is known
pub on_made : {T V E : Type 0} (r : Result T E) (part : Result V E) (P Q : V → Type 0) (R : Type 0) → ((v : V) → P v → Q v → R) → IfOk part P → OnOk r (IsOkAnd part Q) → OnOk r R
on_made (Ok z) (Ok v) P Q R f p h = f v p h
on_made (Ok z) (Err e) P Q R f p h = absurd h
on_made (Err e) part P Q R f p h = tt

-- two steps, one behind the other
pub chained : {T U E : Type 0} (r : Result T E) (s t : Result U E) (P Q R : Type 0) → (P → Q → R) → OnOk r P → OnOk s Q → t ≡ result_and r s → OnOk t R
chained (Ok a) (Ok b) t P Q R f p q is = subst (λ z. OnOk z R) (sym is) (f p q)
chained (Ok a) (Err e) t P Q R f p q is = subst (λ z. OnOk z R) (sym is) tt
chained (Err e) s t P Q R f p q is = subst (λ z. OnOk z R) (sym is) tt

-- a step, and what is made behind it
pub finished : {T U E : Type 0} (r : Result T E) (s t : Result U E) (P : Type 0) (Q R : U → Type 0) → (P → (x : U) → Q x → R x) → OnOk r P → IfOk s Q → t ≡ result_and r s → IfOk t R
finished (Ok a) (Ok b) t P Q R f p q is = subst (λ z. IfOk z R) (sym is) (f p b q)
finished (Ok a) (Err e) t P Q R f p q is = subst (λ z. IfOk z R) (sym is) tt
finished (Err e) s t P Q R f p q is = subst (λ z. IfOk z R) (sym is) tt
