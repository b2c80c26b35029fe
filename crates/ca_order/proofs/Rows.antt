-- Terms of a list under an order, and how heavy they are.
use Rattle.std.proofs.Common.{◌≡◌, ◌≤◌, List, [], ◌∷◌, ◌++◌, map, refl, sym, ap, ◌∙◌, subst}
use Rattle.std.specs.Prelude.{Result, Ok, Err, IfOk, IsOkAnd}
use Rattle.std.proofs.lemmas.List.{map-append}
use Rattle.ca_norm.specs.declared.term.Term.{Term}
use Rattle.ca_norm.specs.Terms.{PlainTerm, term_and, terms_of, shape}
use Rattle.ca_norm.specs.Weights.{weight_of}
use Rattle.ca_order.specs.Points.{Ranked}
use Rattle.ca_order.specs.Under.{under, all_under}
use Rattle.ca_order.proofs.Lighter.{no_heavier}

pub put_shape : {E : Type 0} (r : Result Term E) (u : PlainTerm) (old new : List Term) → IsOkAnd r (λ x. new ≡ old ++ x ∷ []) → IfOk r (λ t. shape t ≡ u) → map shape new ≡ map shape old ++ u ∷ []
put_shape (Ok t) u old new e f = ap (map shape) e ∙ map-append shape old (t ∷ []) ∙ ap (λ z. map shape old ++ z ∷ []) f
put_shape (Err x) u old new e f = absurd e

pub rows_under : (r : Ranked) (ts : List PlainTerm) → terms_of (map (under r) ts) ≡ all_under r (terms_of ts)
rows_under r [] = refl
rows_under r (t ∷ ts) = ap (term_and (under r t)) (rows_under r ts)

pub light_under : {E : Type 0} (r : Ranked) (t : PlainTerm) (made : Result Term E) → IfOk made (λ u. shape u ≡ under r t) → IfOk made (λ u. weight_of (shape u) ≤ weight_of t)
light_under r t (Ok u) e = subst (λ z. weight_of z ≤ weight_of t) (sym e) (no_heavier r t)
light_under r t (Err x) e = tt
