-- Sums at items have one form in either order.
use Rattle.std.proofs.Common.{◌≡◌, Bool, true, false, ◌-◌, ◌^◌, [], ◌∷◌, refl, sym, ap, ap₂, ◌∙◌}
use Rattle.ca_forms.specs.declared.sort.Sort.{Sort}
use Rattle.ca_forms.specs.declared.sort.Sort.TheVariants.{Long, Bool as Truth, Pointer, LongArray, BoolArray, PointerArray}
use Rattle.ca_forms.specs.Plain.{PlainPolynomial}
use Rattle.ca_forms.specs.Rules.{gathered}
use Rattle.ca_forms.specs.Arrays.{PlainSpan, one, range, PlainRows, PlainArray, own_items, put_item, with_sums, array_choice}
use Rattle.ca_forms.specs.ArrayRules.{put_sum, rest_of, last_rows, summed, added_at, put_weighed, agree, chosen_rows, chosen_if}
use Rattle.ca_forms.proofs.RowOrder.{IsGathered, AreOrdered, gathered_itself, sum_ordered, weighed_ordered, sums_commute as rows_commute}
use Rattle.ca_norm.specs.Terms.{PlainTerm, atom, choose, put, add_at, sweep, sort_of}
use Rattle.ca_norm.specs.Forms.{expand, array_of, form_at, norm}
use Rattle.ca_forms.specs.declared.form.Normal.TheVariants as normal

-- no gathered sum stands last
abbrev IsBase : PlainArray → Type 0
IsBase (own_items s g n) = Unit {0}
IsBase (put_item a i x) = Unit {0}
IsBase (with_sums a rs) = ⊥
IsBase (array_choice c a b) = Unit {0}

-- no two gathered sums stand on each other, and the last one is in order
abbrev IsSound : PlainArray → Type 0
IsSound a = IsBase (rest_of a) × AreOrdered (last_rows a)

-- no gathered sum is empty where it stands last
abbrev IsWhole : PlainArray → Type 0
IsWhole (own_items s g n) = Unit {0}
IsWhole (put_item a i x) = Unit {0}
IsWhole (with_sums a []) = ⊥
IsWhole (with_sums a (r ∷ rs)) = Unit {0}
IsWhole (array_choice c a b) = Unit {0}

abbrev Parts : PlainArray → PlainArray → PlainRows → Type 0
Parts a r rs = (rest_of a ≡ r) × (last_rows a ≡ rs)

parts_of : (r : PlainArray) (rs : PlainRows) → IsBase r → Parts (summed r rs) r rs
parts_of (own_items s g n) [] h = (refl, refl)
parts_of (put_item a i x) [] h = (refl, refl)
parts_of (with_sums a ss) rs h = absurd h
parts_of (array_choice c a b) [] h = (refl, refl)
parts_of r (x ∷ rs) h = (refl, refl)

sound_of : (r : PlainArray) (rs : PlainRows) → IsBase r → AreOrdered rs → IsSound (summed r rs)
sound_of r rs h g = let p = parts_of r rs h in rw (p.0, p.1) (h, g)

added_sound : (a : PlainArray) (i : PlainSpan) (f : PlainPolynomial) → IsGathered f → IsSound a → IsSound (added_at a i f)
added_sound a i f h g = sound_of (rest_of a) (put_sum i f (last_rows a)) g.0 (sum_ordered i f (last_rows a) h g.1)

chosen_if_sound : (t : Bool) (c : PlainPolynomial) (a b : PlainArray) → IsSound b → IsSound (chosen_if t c a b)
chosen_if_sound true c a b g =
    sound_of (rest_of b) (chosen_rows c (last_rows a) (last_rows b)) g.0 (weighed_ordered (2 ^ 64 - 1) c (last_rows b) (put_weighed 1 c (last_rows a) (last_rows b)) (weighed_ordered 1 c (last_rows a) (last_rows b) g.1))
chosen_if_sound false c a b g = (tt, tt)

sound : (t : PlainTerm) → IsSound (array_of t)
sound (choose c a b) = chosen_if_sound (agree (array_of a) (array_of b)) (gathered (expand c)) (array_of a) (array_of b) (sound b)
sound (add_at a i x) = added_sound (array_of a) (one (gathered (expand i))) (gathered (expand x)) (gathered_itself (expand x)) (sound a)
sound (sweep a f t x) = added_sound (array_of a) (range (gathered (expand f)) (gathered (expand t))) (gathered (expand x)) (gathered_itself (expand x)) (sound a)
sound (put a i x) = (tt, tt)
sound (atom s g n) = (tt, tt)
sound t = (tt, tt)

added_twice : (a : PlainArray) (i : PlainSpan) (f : PlainPolynomial) (j : PlainSpan) (g : PlainPolynomial) → IsSound a → added_at (added_at a i f) j g ≡ summed (rest_of a) (put_sum j g (put_sum i f (last_rows a)))
added_twice a i f j g h =
    let p = parts_of (rest_of a) (put_sum i f (last_rows a)) h.0 in
    ap₂ (λ r rs. summed r (put_sum j g rs)) p.0 p.1

adds_commute : (a : PlainArray) (i : PlainSpan) (f : PlainPolynomial) (j : PlainSpan) (g : PlainPolynomial) → IsGathered f → IsGathered g → IsSound a → added_at (added_at a i f) j g ≡ added_at (added_at a j g) i f
adds_commute a i f j g h k s =
    added_twice a i f j g s ∙ ap (summed (rest_of a)) (rows_commute i f j g (last_rows a) h k s.1) ∙ sym (added_twice a j g i f s)

pub arrays_commute : (a i x j y : PlainTerm) → array_of (add_at (add_at a i x) j y) ≡ array_of (add_at (add_at a j y) i x)
arrays_commute a i x j y =
    adds_commute (array_of a) (one (gathered (expand i))) (gathered (expand x)) (one (gathered (expand j))) (gathered (expand y)) (gathered_itself (expand x)) (gathered_itself (expand y)) (sound a)

pub sweep_arrays : (a f t x g u y : PlainTerm) → array_of (sweep (sweep a f t x) g u y) ≡ array_of (sweep (sweep a g u y) f t x)
sweep_arrays a f t x g u y =
    adds_commute (array_of a) (range (gathered (expand f)) (gathered (expand t))) (gathered (expand x)) (range (gathered (expand g)) (gathered (expand u))) (gathered (expand y)) (gathered_itself (expand x)) (gathered_itself (expand y)) (sound a)

pub mixed_arrays : (a f t x j y : PlainTerm) → array_of (add_at (sweep a f t x) j y) ≡ array_of (sweep (add_at a j y) f t x)
mixed_arrays a f t x j y =
    adds_commute (array_of a) (range (gathered (expand f)) (gathered (expand t))) (gathered (expand x)) (one (gathered (expand j))) (gathered (expand y)) (gathered_itself (expand x)) (gathered_itself (expand y)) (sound a)

summed_whole : (r : PlainArray) (rs : PlainRows) → IsBase r → IsWhole (summed r rs)
summed_whole (own_items s g n) [] h = tt
summed_whole (put_item a i x) [] h = tt
summed_whole (with_sums a ss) rs h = absurd h
summed_whole (array_choice c a b) [] h = tt
summed_whole r (x ∷ rs) h = tt

chosen_whole : (t : Bool) (c : PlainPolynomial) (a b : PlainArray) → IsSound b → IsWhole (chosen_if t c a b)
chosen_whole true c a b g = summed_whole (rest_of b) (chosen_rows c (last_rows a) (last_rows b)) g.0
chosen_whole false c a b g = tt

whole : (t : PlainTerm) → IsWhole (array_of t)
whole (choose c a b) = chosen_whole (agree (array_of a) (array_of b)) (gathered (expand c)) (array_of a) (array_of b) (sound b)
whole (add_at a i x) = summed_whole (rest_of (array_of a)) (put_sum (one (gathered (expand i))) (gathered (expand x)) (last_rows (array_of a))) (sound a).0
whole (sweep a f t x) = summed_whole (rest_of (array_of a)) (put_sum (range (gathered (expand f)) (gathered (expand t))) (gathered (expand x)) (last_rows (array_of a))) (sound a).0
whole (put a i x) = tt
whole (atom s g n) = tt
whole t = tt

at_sort : (s : Sort) (a i x j y : PlainTerm) → form_at s (add_at (add_at a i x) j y) ≡ form_at s (add_at (add_at a j y) i x)
at_sort Long a i x j y = refl
at_sort Truth a i x j y = refl
at_sort Pointer a i x j y = refl
at_sort LongArray a i x j y = ap normal.Array (arrays_commute a i x j y)
at_sort BoolArray a i x j y = ap normal.Array (arrays_commute a i x j y)
at_sort PointerArray a i x j y = ap normal.Array (arrays_commute a i x j y)

pub sums_commute : (a i x j y : PlainTerm) → norm (add_at (add_at a i x) j y) ≡ norm (add_at (add_at a j y) i x)
sums_commute a i x j y = at_sort (sort_of a) a i x j y

sweeps_commute_at : (s : Sort) (a f t x g u y : PlainTerm) → form_at s (sweep (sweep a f t x) g u y) ≡ form_at s (sweep (sweep a g u y) f t x)
sweeps_commute_at Long a f t x g u y = refl
sweeps_commute_at Truth a f t x g u y = refl
sweeps_commute_at Pointer a f t x g u y = refl
sweeps_commute_at LongArray a f t x g u y = ap normal.Array (sweep_arrays a f t x g u y)
sweeps_commute_at BoolArray a f t x g u y = ap normal.Array (sweep_arrays a f t x g u y)
sweeps_commute_at PointerArray a f t x g u y = ap normal.Array (sweep_arrays a f t x g u y)

pub sweeps_commute : (a f t x g u y : PlainTerm) → norm (sweep (sweep a f t x) g u y) ≡ norm (sweep (sweep a g u y) f t x)
sweeps_commute a f t x g u y = sweeps_commute_at (sort_of a) a f t x g u y

sweep_and_item_at : (s : Sort) (a f t x j y : PlainTerm) → form_at s (add_at (sweep a f t x) j y) ≡ form_at s (sweep (add_at a j y) f t x)
sweep_and_item_at Long a f t x j y = refl
sweep_and_item_at Truth a f t x j y = refl
sweep_and_item_at Pointer a f t x j y = refl
sweep_and_item_at LongArray a f t x j y = ap normal.Array (mixed_arrays a f t x j y)
sweep_and_item_at BoolArray a f t x j y = ap normal.Array (mixed_arrays a f t x j y)
sweep_and_item_at PointerArray a f t x j y = ap normal.Array (mixed_arrays a f t x j y)

pub sweep_and_item : (a f t x j y : PlainTerm) → norm (add_at (sweep a f t x) j y) ≡ norm (sweep (add_at a j y) f t x)
sweep_and_item a f t x j y = sweep_and_item_at (sort_of a) a f t x j y
