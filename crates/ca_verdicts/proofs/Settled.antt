-- Marks of which it is known that both orders name conditions of the same sum.
use Rattle.std.proofs.Common.{◌≡◌, ℕ, Bool, true, false, List, [], ◌∷◌, refl, ap, ap₂, ◌∙◌, sym, is_eq, Ordering, Less, Equal, Greater, nat_cmp}
use Rattle.std.specs.Prelude.{◌||◌}
use Rattle.std.specs.Ordering.{ordering_then, match_ordering}
use Rattle.std.specs.Cmp.Lexicographic.{slice_cmp}
use Rattle.std.specs.List.{list_any}
use Rattle.std.specs.BTreeSet.{insert_key}
use Rattle.std.proofs.lemmas.Map.Lookups.{exact_unsigned, exact_pairs}
use Rattle.ca_forms.specs.Plain.{PlainPolynomial}
use Rattle.ca_forms.specs.Rules.{gathered}
use Rattle.ca_verdicts.specs.declared.marks.Marks.{Marks}
use Rattle.ca_verdicts.specs.clauses.Marks.{summed_up, IsSettled, AllSettled}
use Rattle.ca_sums.proofs.Rows.{then_equal as then_tied}

abbrev pub mark_cmp : ℕ × ℕ → ℕ × ℕ → Ordering
mark_cmp a b = ordering_then (nat_cmp a.0 b.0) (nat_cmp a.1 b.1)

abbrev pub marks_cmp : Marks → Marks → Ordering
marks_cmp a b = ordering_then (slice_cmp mark_cmp a.first.items b.first.items) (slice_cmp mark_cmp a.second.items b.second.items)

both_tied : (o p : Ordering) → is_eq (ordering_then o p) ≡ true → (o ≡ Equal) × (p ≡ Equal)
both_tied Less p e = cc
both_tied Equal Less e = cc
both_tied Equal Equal e = (refl, refl)
both_tied Equal Greater e = cc
both_tied Greater p e = cc

marks_exact : (xs ys : List (ℕ × ℕ)) → slice_cmp mark_cmp xs ys ≡ Equal → xs ≡ ys
marks_exact [] [] e = refl
marks_exact [] (y ∷ ys) e = cc
marks_exact (x ∷ xs) [] e = cc
marks_exact (x ∷ xs) (y ∷ ys) e =
    let t : (mark_cmp x y ≡ Equal) × (slice_cmp mark_cmp xs ys ≡ Equal) = then_tied (mark_cmp x y) (slice_cmp mark_cmp xs ys) e in
    ap₂ (λ a b. a ∷ b) (exact_pairs nat_cmp nat_cmp exact_unsigned exact_unsigned x y t.0) (marks_exact xs ys t.1)

module _ (fs gs : List PlainPolynomial) where
  tied_settled : (m n : Marks) → is_eq (marks_cmp m n) ≡ true → IsSettled fs gs n → IsSettled fs gs m
  tied_settled m n e s =
      let t = both_tied (slice_cmp mark_cmp m.first.items n.first.items) (slice_cmp mark_cmp m.second.items n.second.items) e in
      ap (λ z. gathered (summed_up fs z)) (marks_exact m.first.items n.first.items t.0) ∙ (s ∙ sym (ap (λ z. gathered (summed_up gs z)) (marks_exact m.second.items n.second.items t.1)))

  -- marks that are tied with some that are settled
  pub known_settled : (ms : List Marks) (m : Marks) → AllSettled fs gs ms → list_any (λ n. is_eq (marks_cmp m n)) ms ≡ true → IsSettled fs gs m
  known_settled [] m s e = cc
  known_settled (n ∷ ms) m s e = at (is_eq (marks_cmp m n)) refl e (known_settled ms m s.1)
    where
      at : (b : Bool) → is_eq (marks_cmp m n) ≡ b → (b || list_any (λ k. is_eq (marks_cmp m k)) ms) ≡ true → (list_any (λ k. is_eq (marks_cmp m k)) ms ≡ true → IsSettled fs gs m) → IsSettled fs gs m
      at true f g r = tied_settled m n f s.0
      at false f g r = r g

  pub settled_insert : (R : Marks → Marks → Ordering) (ms : List Marks) (m : Marks) → AllSettled fs gs ms → IsSettled fs gs m → AllSettled fs gs (insert_key R ms m)
  settled_insert R [] m s t = (t, tt)
  settled_insert R (n ∷ ms) m s t = at (R m n) (settled_insert R ms m s.1 t)
    where
      at : (o : Ordering) → AllSettled fs gs (insert_key R ms m) → AllSettled fs gs (match_ordering o (m ∷ n ∷ ms) (n ∷ ms) (n ∷ insert_key R ms m))
      at Less r = (t, s)
      at Equal r = s
      at Greater r = (s.0, r)
