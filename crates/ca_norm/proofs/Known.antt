-- What is made of answers over what they are known to show.
use Rattle.std.proofs.Common.{◌≡◌, ◌∙◌, ap, ap₂, subst}
use Rattle.std.specs.Prelude.{Result, Ok, Err, IfOk, IsOkAnd}

pub over_known : {T A P E : Type 0} (r : Result T E) (a : Result A E) (view : T → P) (seen : A → P) (f : P → P) (x t : P) → f x ≡ t → IfOk a (λ v. seen v ≡ x) → IfOk r (λ z. IsOkAnd a (λ v. view z ≡ f (seen v))) → IfOk r (λ z. view z ≡ t)
over_known (Ok z) (Ok v) view seen f x t e g h = h ∙ ap f g ∙ e
over_known (Ok z) (Err i) view seen f x t e g h = absurd h
over_known (Err i) a view seen f x t e g h = tt

pub over_both : {T A B P E : Type 0} (r : Result T E) (s : Result (A × B) E) (a : Result A E) (b : Result B E) (view : T → P) (first : A → P) (second : B → P) (f : P → P → P) (x y t : P) → f x y ≡ t → IfOk s (λ p. a ≡ Ok p.0) → IfOk s (λ p. b ≡ Ok p.1) → IfOk a (λ v. first v ≡ x) → IfOk b (λ w. second w ≡ y) → IfOk r (λ z. IsOkAnd s (λ p. view z ≡ f (first p.0) (second p.1))) → IfOk r (λ z. view z ≡ t)
over_both (Ok z) (Ok p) a b view first second f x y t e i j g h k = k ∙ ap₂ f (subst (λ r. IfOk r (λ v. first v ≡ x)) i g) (subst (λ r. IfOk r (λ w. second w ≡ y)) j h) ∙ e
over_both (Ok z) (Err q) a b view first second f x y t e i j g h k = absurd k
over_both (Err q) s a b view first second f x y t e i j g h k = tt

-- a pair of answers, each known
pub pair_known : {A B P E : Type 0} (s : Result (A × B) E) (a : Result A E) (b : Result B E) (first : A → P) (second : B → P) (x y : P) → IfOk s (λ p. a ≡ Ok p.0) → IfOk s (λ p. b ≡ Ok p.1) → IfOk a (λ v. first v ≡ x) → IfOk b (λ w. second w ≡ y) → IfOk s (λ p. (first p.0 ≡ x) × (second p.1 ≡ y))
pair_known (Ok p) a b first second x y i j g h = (subst (λ r. IfOk r (λ v. first v ≡ x)) i g, subst (λ r. IfOk r (λ w. second w ≡ y)) j h)
pair_known (Err q) a b first second x y i j g h = tt

pub over_three_known : {T A S P E : Type 0} (r : Result T E) (s : Result (A × S) E) (a : Result A E) (b : Result S E) (view : T → P) (first : A → P) (second third : S → P) (f : P → P → P → P) (w x y t : P) → f w x y ≡ t → IfOk s (λ p. a ≡ Ok p.0) → IfOk s (λ p. b ≡ Ok p.1) → IfOk a (λ v. first v ≡ w) → IfOk b (λ q. (second q ≡ x) × (third q ≡ y)) → IfOk r (λ z. IsOkAnd s (λ p. view z ≡ f (first p.0) (second p.1) (third p.1))) → IfOk r (λ z. view z ≡ t)
over_three_known (Ok z) (Ok p) a b view first second third f w x y t e i j g h k =
    let known : (second p.1 ≡ x) × (third p.1 ≡ y) = subst (λ r. IfOk r (λ q. (second q ≡ x) × (third q ≡ y))) j h in
    k ∙ ap (λ n. f n (second p.1) (third p.1)) (subst (λ r. IfOk r (λ v. first v ≡ w)) i g) ∙ ap₂ (f w) known.0 known.1 ∙ e
over_three_known (Ok z) (Err q) a b view first second third f w x y t e i j g h k = absurd k
over_three_known (Err q) s a b view first second third f w x y t e i j g h k = tt
