-- Comparisons under an order as sums of products.
use Rattle.std.proofs.Common.{◌≡◌, ℕ, Bool, refl, sym, ap, ◌∙◌}
use Rattle.std.specs.Prelude.{nat_eq, Option, Some, None}
use Rattle.ca_forms.specs.declared.sort.Sort.{Sort}
use Rattle.ca_forms.specs.declared.sort.Sort.TheVariants.{Long}
use Rattle.ca_forms.specs.Rules.{gathered}
use Rattle.ca_forms.proofs.Gathered.{same_numbers_gathered}
use Rattle.ca_norm.specs.Terms.{PlainTerm, same, sort_of}
use Rattle.ca_norm.specs.Forms.{expand, pointer_of, same_sum}
use Rattle.ca_order.specs.Points.{Ranked}
use Rattle.ca_order.specs.Under.{under, decided, rank_of_term, same_under}
use Rattle.ca_order.proofs.Sorts.{sort_kept}
use Rattle.ca_order.specs.clauses.Gathered.{told_by, same_known}

expand_decided : (j k : Option ℕ) (test : ℕ → ℕ → Bool) (t : PlainTerm) → expand (decided j k test t) ≡ told_by j k test (expand t)
expand_decided (Some m) (Some n) test t = refl
expand_decided (Some m) None test t = refl
expand_decided None k test t = refl

-- equations, by the sort of the first side
pub expand_equal : (r : Ranked) (a b : PlainTerm) → sort_of a ≡ Long → expand (under r (same a b)) ≡ same_known r (gathered (expand (under r a))) (gathered (expand (under r b)))
expand_equal r a b e =
    ap (λ s. expand (same_under r s (under r a) (under r b))) e
    ∙ expand_decided (rank_of_term r (under r a)) (rank_of_term r (under r b)) nat_eq (same (under r a) (under r b))
    ∙ ap (told_by (rank_of_term r (under r a)) (rank_of_term r (under r b)) nat_eq)
    (ap (λ s. same_sum s (expand (under r a)) (expand (under r b)) (pointer_of (under r a)) (pointer_of (under r b))) (sort_kept r a ∙ e)
    ∙ sym (same_numbers_gathered (expand (under r a)) (expand (under r b))))

abbrev not_long : Sort → Type 0
not_long Long = ⊥
not_long s = Unit {0}

stays_same : (r : Ranked) (s : Sort) (a b : PlainTerm) → not_long s → same_under r s a b ≡ same a b
stays_same r Long a b h = absurd h
stays_same r s a b h = refl

pub expand_other : (r : Ranked) (a b : PlainTerm) (s : Sort) → sort_of a ≡ s → not_long s → expand (under r (same a b)) ≡ same_sum s (expand (under r a)) (expand (under r b)) (pointer_of (under r a)) (pointer_of (under r b))
expand_other r a b s e h =
    ap (λ z. expand (same_under r z (under r a) (under r b))) e
    ∙ ap expand (stays_same r s (under r a) (under r b) h)
    ∙ ap (λ z. same_sum z (expand (under r a)) (expand (under r b)) (pointer_of (under r a)) (pointer_of (under r b))) (sort_kept r a ∙ e)
