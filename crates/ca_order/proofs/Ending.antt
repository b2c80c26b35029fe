-- Behind the last point or the last rank there is nothing.
use Rattle.std.proofs.Common.{◌≡◌, ℕ, ◌≤◌, List, [], ◌∷◌, length, drop, refl, ap, ◌∙◌}
use Rattle.std.proofs.lemmas.List.{drop_all}
use Rattle.ca_order.specs.declared.point.Point.{Point}
use Rattle.ca_order.specs.Rankings.{ranked}

none : (ps : List Point) → ranked ps [] ≡ []
none [] = refl
none (p ∷ ps) = refl

pub no_ranks : (ps : List Point) (ks : List ℕ) (i : ℕ) → length ks ≤ i → ranked (drop i ps) (drop i ks) ≡ []
no_ranks ps ks i l = ap (ranked (drop i ps)) (drop_all i ks l) ∙ none (drop i ps)

pub no_points : (ps : List Point) (ks : List ℕ) (i : ℕ) → length ps ≤ i → ranked (drop i ps) (drop i ks) ≡ []
no_points ps ks i l = ap (λ z. ranked z (drop i ks)) (drop_all i ps l)
