use Rattle.std.proofs.Common.{sym, ap, ◌∙◌}
use Rattle.std.specs.Prelude.{nat_eq}
use Rattle.std.proofs.lemmas.List.Sorted.{list_any-IsPermutation, IsNonDecreasingBy-from_sort}
use Rattle.ca_emit.specs.Annotations.{number_in}
use Rattle.ca_emit.proofs.places.Places.of.Goals as goal

pub invariant_of-result : goal.invariant_of-result
invariant_of-result c = λ i j. IsNonDecreasingBy-from_sort (λ x. x) _ c.sort_unstable.ensures.sorted i j 0

pub returns : goal.returns
returns c = λ n. sym (list_any-IsPermutation (λ m. nat_eq m n) _ _ c.sort_unstable.ensures.permutation) ∙ ap (λ ns. number_in ns n) c.in_ok-numbers.ensures
