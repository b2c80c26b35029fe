-- What the rules for pointers come to under a valuation.
use Rattle.std.proofs.Common.{◌≡◌, ℕ, ◌%◌, ◌^◌, Bool, true, false, cond, ◌&&◌, ◌||◌, eqb, Option, Some, None, Ordering, Less, Equal, Greater, refl, sym, ap, ◌∙◌, arith}
use Rattle.std.specs.Prelude.{nat_eq}
use Rattle.std.proofs.lemmas.Bool.Decides.{nat_tests}
use Rattle.ca_model.specs.declared.value.Value.{Value as Datum}
use Rattle.ca_model.specs.declared.value.Value.TheVariants as datum
use Rattle.ca_meaning.specs.Operators.{same_value}
use Rattle.ca_forms.specs.declared.sort.Sort.{Sort}
use Rattle.ca_forms.specs.declared.sort.Sort.TheVariants.{Long, Bool as Truth, Pointer, LongArray, BoolArray, PointerArray}
use Rattle.ca_forms.specs.Plain.{PlainPart, PlainPolynomial, PlainPointer, variable, is_less, is_zero, same_pointer, quotient, modulus, field_of, item_of, result_of, own_item, fold_of, no_object, pointer_part, pointer_choice}
use Rattle.ca_forms.specs.Compare.{pointer_cmp}
use Rattle.ca_forms.specs.Rules.{constancy, is_pointer_sort, is_receiver_part, is_receiver, is_no_object, differ, unless_false, same_pointers_at, same_pointers, chosen_kind, chosen_pointer_at, chosen_pointer}
use Rattle.ca_forms.proofs.Exact.{pointer_same}
use Rattle.ca_sums.specs.Sums.{total}
use Rattle.ca_norm.specs.Meanings.{IsOfSort, IsObject, Valuation, chosen, bit, truth_in, part_value, polynomial_value, monomial_value, part_mean, pointer_mean}
use Rattle.ca_norm.proofs.Rules.{constancy_value, alone_value, truth_value}
use Rattle.ca_folds.proofs.Laws.{same_number as nat_is}
use Rattle.ca_norm.proofs.Operations.{itself as eqb_itself}

eqb_flip : (m n : ℕ) → eqb m n ≡ eqb n m
eqb_flip m n = grind (arith, nat_tests)

same_itself : (d : Datum) → IsOfSort Pointer d → same_value d d ≡ true
same_itself (datum.Long n) h = absurd h
same_itself (datum.Bool b) h = absurd h
same_itself datum.Null h = refl
same_itself (datum.Ref r) h = eqb_itself r

pub same_flip : (d e : Datum) → IsOfSort Pointer d → IsOfSort Pointer e → same_value d e ≡ same_value e d
same_flip (datum.Long n) e g h = absurd g
same_flip (datum.Bool b) e g h = absurd g
same_flip datum.Null (datum.Long n) g h = absurd h
same_flip datum.Null (datum.Bool b) g h = absurd h
same_flip datum.Null datum.Null g h = refl
same_flip datum.Null (datum.Ref r) g h = refl
same_flip (datum.Ref q) (datum.Long n) g h = absurd h
same_flip (datum.Ref q) (datum.Bool b) g h = absurd h
same_flip (datum.Ref q) datum.Null g h = refl
same_flip (datum.Ref q) (datum.Ref r) g h = eqb_flip q r

object_is_no_null : (d : Datum) → IsObject d → same_value datum.Null d ≡ false
object_is_no_null (datum.Long n) h = absurd h
object_is_no_null (datum.Bool b) h = absurd h
object_is_no_null datum.Null h = absurd h
object_is_no_null (datum.Ref r) h = refl

no_null_object : (d : Datum) → IsObject d → same_value d datum.Null ≡ false
no_null_object (datum.Long n) h = absurd h
no_null_object (datum.Bool b) h = absurd h
no_null_object datum.Null h = absurd h
no_null_object (datum.Ref r) h = refl

is_pointer : (s : Sort) → is_pointer_sort s ≡ true → s ≡ Pointer
is_pointer Pointer e = refl
is_pointer Long e = absurd cc
is_pointer Truth e = absurd cc
is_pointer LongArray e = absurd cc
is_pointer BoolArray e = absurd cc
is_pointer PointerArray e = absurd cc

both_true : (a b : Bool) → (a && b) ≡ true → (a ≡ true) × (b ≡ true)
both_true true b e = (refl, e)
both_true false b e = absurd cc

module _ (v : Valuation) where
  -- a part that is the receiver means an object
  receiver_part : (p : PlainPart) → is_receiver_part p ≡ true → IsObject (part_mean v p)
  receiver_part (variable s g n) e =
      let t = both_true (is_pointer_sort s) (nat_eq g 0 && nat_eq n 0) e in
      let u = both_true (nat_eq g 0) (nat_eq n 0) t.1 in
      rw (is_pointer s t.0, nat_is g 0 u.0, nat_is n 0 u.1) v.receiver
  receiver_part (is_less f g) e = absurd cc
  receiver_part (is_zero f) e = absurd cc
  receiver_part (same_pointer p q) e = absurd cc
  receiver_part (quotient f n) e = absurd cc
  receiver_part (modulus f n) e = absurd cc
  receiver_part (field_of s p c f) e = absurd cc
  receiver_part (item_of s p c f i) e = absurd cc
  receiver_part (result_of s m p xs) e = absurd cc
  receiver_part (own_item s g n i) e = absurd cc
  receiver_part (fold_of o w xs) e = absurd cc

  receiver_means : (p : PlainPointer) → is_receiver p ≡ true → IsObject (pointer_mean v p)
  receiver_means no_object e = absurd cc
  receiver_means (pointer_part p) e = receiver_part p e
  receiver_means (pointer_choice c p q) e = absurd cc

  differ_means : (p q : PlainPointer) → differ p q ≡ true → same_value (pointer_mean v p) (pointer_mean v q) ≡ false
  differ_means no_object q e = object_is_no_null (pointer_mean v q) (receiver_means q (first_of (is_receiver q) e))
    where
      first_of : (b : Bool) → ((true && b) || (false && is_no_object q)) ≡ true → b ≡ true
      first_of true h = refl
      first_of false h = absurd cc
  differ_means (pointer_part p) no_object e = no_null_object (part_mean v p) (receiver_part p (second_of (is_receiver_part p) e))
    where
      second_of : (b : Bool) → ((false && false) || (b && true)) ≡ true → b ≡ true
      second_of true h = refl
      second_of false h = absurd cc
  differ_means (pointer_part p) (pointer_part q) e = absurd (neither (is_receiver_part p) (is_receiver_part q) e)
    where
      neither : (a b : Bool) → ((false && b) || (a && false)) ≡ true → ⊥
      neither true b h = cc
      neither false b h = cc
  differ_means (pointer_part p) (pointer_choice c q r) e = absurd (neither (is_receiver_part p) e)
    where
      neither : (a : Bool) → ((false && false) || (a && false)) ≡ true → ⊥
      neither true h = cc
      neither false h = cc
  differ_means (pointer_choice c p q) r e = absurd cc

  unless_value : (b : Bool) (p q : PlainPointer) (r : PlainPart) → b ≡ differ p q → part_value v r ≡ bit (same_value (pointer_mean v p) (pointer_mean v q)) → total (monomial_value v) (unless_false b r) ≡ bit (same_value (pointer_mean v p) (pointer_mean v q))
  unless_value true p q r e h = ap bit (sym (differ_means p q (sym e)))
  unless_value false p q r e h = alone_value v r ∙ h

  same_at : (o : Ordering) (p q : PlainPointer) → pointer_cmp p q ≡ o → IsOfSort Pointer (pointer_mean v p) → IsOfSort Pointer (pointer_mean v q) → total (monomial_value v) (same_pointers_at o p q) ≡ bit (same_value (pointer_mean v p) (pointer_mean v q))
  same_at Less p q e g h = unless_value (differ p q) p q (same_pointer p q) refl refl
  same_at Equal p q e g h = truth_value v true ∙ ap bit (sym (same_itself (pointer_mean v p) g)) ∙ ap (λ z. bit (same_value (pointer_mean v p) (pointer_mean v z))) (pointer_same p q e)
  same_at Greater p q e g h = unless_value (differ p q) p q (same_pointer q p) refl (ap bit (same_flip (pointer_mean v q) (pointer_mean v p) h g))

  pub same_pointers_value : (p q : PlainPointer) → IsOfSort Pointer (pointer_mean v p) → IsOfSort Pointer (pointer_mean v q) → total (monomial_value v) (same_pointers p q) ≡ bit (same_value (pointer_mean v p) (pointer_mean v q))
  same_pointers_value p q g h = same_at (pointer_cmp p q) p q refl g h

  chosen_same : (b : Bool) (d : Datum) → d ≡ chosen (datum.Bool b) d d
  chosen_same true d = refl
  chosen_same false d = refl

  -- what a condition is as a word tells which pointer it chooses
  by_word : (b : Bool) (k : ℕ) (p q : PlainPointer) → k ≡ bit b → pointer_mean v (cond (nat_eq k 0) q p) ≡ chosen (datum.Bool b) (pointer_mean v p) (pointer_mean v q)
  by_word true k p q e = rw e refl
  by_word false k p q e = rw e refl

  chosen_kind_means : (k : Option ℕ) (c : PlainPolynomial) (p q : PlainPointer) (b : Bool) → constancy c ≡ k → polynomial_value v c % (2 ^ 64) ≡ bit b → truth_in (polynomial_value v c) ≡ datum.Bool b → pointer_mean v (chosen_kind k c p q) ≡ chosen (datum.Bool b) (pointer_mean v p) (pointer_mean v q)
  chosen_kind_means (Some n) c p q b e h t = by_word b (n % (2 ^ 64)) p q (ap (λ z. z % (2 ^ 64)) (sym (constancy_value v c n e)) ∙ h)
  chosen_kind_means None c p q b k h t = ap (λ z. chosen z (pointer_mean v p) (pointer_mean v q)) t

  chosen_at : (o : Ordering) (c : PlainPolynomial) (p q : PlainPointer) (b : Bool) → pointer_cmp p q ≡ o → polynomial_value v c % (2 ^ 64) ≡ bit b → truth_in (polynomial_value v c) ≡ datum.Bool b → pointer_mean v (chosen_pointer_at o c p q) ≡ chosen (datum.Bool b) (pointer_mean v p) (pointer_mean v q)
  chosen_at Less c p q b e h t = chosen_kind_means (constancy c) c p q b refl h t
  chosen_at Equal c p q b e h t = chosen_same b (pointer_mean v p) ∙ ap (λ z. chosen (datum.Bool b) (pointer_mean v p) (pointer_mean v z)) (pointer_same p q e)
  chosen_at Greater c p q b e h t = chosen_kind_means (constancy c) c p q b refl h t

  pub chosen_pointer_means : (c : PlainPolynomial) (p q : PlainPointer) (b : Bool) → polynomial_value v c % (2 ^ 64) ≡ bit b → truth_in (polynomial_value v c) ≡ datum.Bool b → pointer_mean v (chosen_pointer c p q) ≡ chosen (datum.Bool b) (pointer_mean v p) (pointer_mean v q)
  chosen_pointer_means c p q b h t = chosen_at (pointer_cmp p q) c p q b refl h t
