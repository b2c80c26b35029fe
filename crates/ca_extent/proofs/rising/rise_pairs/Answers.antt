use Rattle.std.proofs.lemmas.List.Filters.{dedup_is}
use Rattle.std.proofs.lemmas.List.Kept.{Contains-dedup, Contains-from_dedup, IsStrictlySortedBy-dedup}
use Rattle.std.proofs.lemmas.List.Sorted.{Contains-permutation, IsPermutation-sym}
use Rattle.ca_extent.proofs.Pairs.{pairs_total, pairs_tie, pairs_equal, equal_pairs, rising_pairs}
use Rattle.ca_extent.proofs.rising.rise_pairs.Goals as goal

pub returns : goal.returns
returns c =
    let is = dedup_is _ _ _ c.dedup.ensures.filtered in
    let moved = c.sort_unstable.ensures.permutation in
    record {
      rises = rw is (rising_pairs _ (IsStrictlySortedBy-dedup pairs_total pairs_tie _ c.sort_unstable.ensures.sorted));
      keeps = λ p h. rw is (Contains-dedup pairs_equal equal_pairs _ p (Contains-permutation _ _ p moved h));
      adds_none = λ p h. Contains-permutation _ _ p (IsPermutation-sym _ _ moved) (Contains-from_dedup _ _ p (rw is at h));
    }
