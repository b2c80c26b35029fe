-- What is known of an answer is known of what is put into a box.
use Rattle.std.proofs.Common.{◌≡◌, subst, Box, Global}
use Rattle.std.specs.Prelude.{Result, Ok, Err, IfOk, box_value}

pub boxed_known : {A P E : Type 0} (b : Result (Box A Global) E) (r : Result A E) (seen : A → P) (x : P) → IfOk b (λ v. r ≡ Ok (box_value v)) → IfOk r (λ v. seen v ≡ x) → IfOk b (λ v. seen (box_value v) ≡ x)
boxed_known (Ok v) r seen x is known = subst (λ r. IfOk r (λ v. seen v ≡ x)) is known
boxed_known (Err e) r seen x is known = tt
