use Rattle.std.proofs.Common.{◌≡◌, ◌≤◌, ◌<◌, ℕ, List, length, get_or, sym, ap, ◌∙◌, subst}
use Rattle.std.specs.Prelude.{is_ok}
use Rattle.std.proofs.lemmas.List.Sorted.{searched}
use Rattle.ca_emit.specs.Annotations.{number_in, place_number}
use Rattle.ca_emit.proofs.Placing.{decided}
use Rattle.ca_emit.proofs.places.Places.has.Goals as goal

pub returns : goal.returns
returns c =
    let xs = c.deref.result.now in
    let same : xs ≡ c.args.self.now = c.deref.ensures.value ∙ c.self.view_is in
    let up : (i j : ℕ) → i ≤ j → j < length xs → get_or xs i 0 ≤ get_or xs j 0 = subst (λ (ys : List ℕ). (i j : ℕ) → i ≤ j → j < length ys → get_or ys i 0 ≤ get_or ys j 0) (sym c.deref.ensures.value) c.self.invariant in
    let found : is_ok c.binary_search.result ≡ number_in xs c.number_of.result = decided xs c.number_of.result c.binary_search.result (searched xs c.number_of.result c.binary_search.result c.binary_search.ensures.position up) in
    c.is_ok.ensures.value ∙ (found ∙ (ap (λ n. number_in xs n) c.number_of.ensures ∙ ap (λ ys. number_in ys (place_number c.args.at)) same))
