-- One changed object after the other, merged into a heap.
use Rattle.std.proofs.Common.{◌≡◌, ℕ, List, Option, Some, None, refl, ap, sym, subst, ◌∙◌, arith, ℤ, pos, ◌+ℤ◌, ◌-ℤ◌}
use Rattle.std.specs.Prelude.{slice_get, slice_set}
use Rattle.std.specs.Int.{int_wrap, w64}
use Rattle.std.proofs.lemmas.Int.{int_wrap_fits, SFits-int_wrap, ints}
use Rattle.ca_lists.proofs.Places.{get_set_here, same_by_places}
use Rattle.ca_model.specs.declared.value.Value.TheVariants.{Long, Bool as Truth, Null, Ref}
use Rattle.ca_model.specs.declared.value.Slot.{Slot}
use Rattle.ca_model.specs.declared.value.Slot.TheVariants.{One, Many}
use Rattle.ca_model.specs.declared.value.Object.{Object}
use Rattle.ca_order_laws.proofs.Decided.{decide_nat}
use Rattle.ca_order_laws.proofs.Weights.{Decides, equal, other}
use Rattle.ca_order_laws.proofs.Places.{get_else}
use Rattle.ca_sum_laws.specs.Moves.{plus, Still}
use Rattle.ca_sum_laws.specs.Replicas.{merged_slots, merged_object, merged}
use Rattle.ca_sum_laws.proofs.Heaps.{merged_slot_option, merged_slot_at, merged_option, merged_at}

still_number : (n k : ℤ) → int_wrap w64 (n +ℤ pos 0) ≡ n → int_wrap w64 (n +ℤ (k -ℤ k)) ≡ n
still_number n k e = let z : n +ℤ (k -ℤ k) ≡ n +ℤ pos 0 = omega (arith, ints) in ap (int_wrap w64) z ∙ e

wrapped_still : (m : ℤ) → int_wrap w64 (int_wrap w64 m +ℤ pos 0) ≡ int_wrap w64 m
wrapped_still m = let z : int_wrap w64 m +ℤ pos 0 ≡ int_wrap w64 m = omega (arith, ints) in ap (int_wrap w64) z ∙ int_wrap_fits w64 (int_wrap w64 m) (SFits-int_wrap w64 m)

number_of : {n m : ℤ} → Some (One (Long n)) ≡ Some (One (Long m)) → n ≡ m
number_of e = cc

-- merging the first again changes nothing
again_slot : (s a b : Option Slot) → plus s (pos 0) ≡ s → merged_slot_option (merged_slot_option s a b) a a ≡ merged_slot_option s a b
again_slot None a b e = refl
again_slot (Some (One (Long n))) None b e = refl
again_slot (Some (One (Long n))) (Some (One (Long k))) None e = ap (λ z. Some (One (Long z))) (still_number n k (number_of e))
again_slot (Some (One (Long n))) (Some (One (Long k))) (Some (One (Long m))) e = ap (λ z. Some (One (Long z))) (still_number (int_wrap w64 (n +ℤ (m -ℤ k))) k (wrapped_still (n +ℤ (m -ℤ k))))
again_slot (Some (One (Long n))) (Some (One (Long k))) (Some (One (Truth m))) e = ap (λ z. Some (One (Long z))) (still_number n k (number_of e))
again_slot (Some (One (Long n))) (Some (One (Long k))) (Some (One Null)) e = ap (λ z. Some (One (Long z))) (still_number n k (number_of e))
again_slot (Some (One (Long n))) (Some (One (Long k))) (Some (One (Ref m))) e = ap (λ z. Some (One (Long z))) (still_number n k (number_of e))
again_slot (Some (One (Long n))) (Some (One (Long k))) (Some (Many m)) e = ap (λ z. Some (One (Long z))) (still_number n k (number_of e))
again_slot (Some (One (Long n))) (Some (One (Truth k))) None e = refl
again_slot (Some (One (Long n))) (Some (One (Truth k))) (Some b) e = refl
again_slot (Some (One (Long n))) (Some (One Null)) None e = refl
again_slot (Some (One (Long n))) (Some (One Null)) (Some b) e = refl
again_slot (Some (One (Long n))) (Some (One (Ref k))) None e = refl
again_slot (Some (One (Long n))) (Some (One (Ref k))) (Some b) e = refl
again_slot (Some (One (Long n))) (Some (Many k)) None e = refl
again_slot (Some (One (Long n))) (Some (Many k)) (Some b) e = refl
again_slot (Some (One (Truth n))) None b e = refl
again_slot (Some (One (Truth n))) (Some a) None e = refl
again_slot (Some (One (Truth n))) (Some a) (Some b) e = refl
again_slot (Some (One Null)) None b e = refl
again_slot (Some (One Null)) (Some a) None e = refl
again_slot (Some (One Null)) (Some a) (Some b) e = refl
again_slot (Some (One (Ref n))) None b e = refl
again_slot (Some (One (Ref n))) (Some a) None e = refl
again_slot (Some (One (Ref n))) (Some a) (Some b) e = refl
again_slot (Some (Many n)) None b e = refl
again_slot (Some (Many n)) (Some a) None e = refl
again_slot (Some (Many n)) (Some a) (Some b) e = refl

abbrev with_slots : Object → List Slot → Object
with_slots o ss = record { class = o.class; slots = ss }

again : (o a b : Object) → Still o → merged_object (merged_object o a b) a a ≡ merged_object o a b
again o a b still = ap (with_slots o) (same_by_places _ _ (λ f.
    merged_slot_at (merged_slots o.slots a.slots b.slots) a.slots a.slots f
    ∙ ap (λ z. merged_slot_option z (slice_get a.slots f) (slice_get a.slots f)) (merged_slot_at o.slots a.slots b.slots f)
    ∙ again_slot (slice_get o.slots f) (slice_get a.slots f) (slice_get b.slots f) (still f)
    ∙ sym (merged_slot_at o.slots a.slots b.slots f)))

-- Where the replica has another object in place of the first one, that one may be merged first, and then the rest.
pub one_by_one : (now frozen replica : List Object) (n : ℕ) (o a b : Object) → Still o → slice_get now n ≡ Some o → slice_get frozen n ≡ Some a → slice_get replica n ≡ Some a →
    merged now frozen (slice_set replica n b) ≡ merged (slice_set now n (merged_object o a b)) frozen replica
one_by_one now frozen replica n o a b still there first before = same_by_places _ _ (λ m. from m (decide_nat n m))
  where
    next : List Object
    next = slice_set now n (merged_object o a b)

    from : (m : ℕ) → Decides n m → slice_get (merged now frozen (slice_set replica n b)) m ≡ slice_get (merged next frozen replica) m
    from m (equal same) = subst (λ k. slice_get (merged now frozen (slice_set replica n b)) k ≡ slice_get (merged next frozen replica) k) same
        (merged_at now frozen (slice_set replica n b) n
        ∙ ap (λ z. merged_option z (slice_get frozen n) (slice_get (slice_set replica n b) n)) there
        ∙ ap (λ z. merged_option (Some o) z (slice_get (slice_set replica n b) n)) first
        ∙ ap (λ z. merged_option (Some o) (Some a) z) (get_set_here replica n a b before)
        ∙ sym (merged_at next frozen replica n
        ∙ ap (λ z. merged_option z (slice_get frozen n) (slice_get replica n)) (get_set_here now n o (merged_object o a b) there)
        ∙ ap (λ z. merged_option (Some (merged_object o a b)) z (slice_get replica n)) first
        ∙ ap (λ z. merged_option (Some (merged_object o a b)) (Some a) z) before
        ∙ ap Some (again o a b still)))
    from m (other ne) =
        merged_at now frozen (slice_set replica n b) m
        ∙ ap (λ z. merged_option (slice_get now m) (slice_get frozen m) z) (get_else replica n m b ne)
        ∙ sym (merged_at next frozen replica m ∙ ap (λ z. merged_option z (slice_get frozen m) (slice_get replica m)) (get_else now n m (merged_object o a b) ne))
