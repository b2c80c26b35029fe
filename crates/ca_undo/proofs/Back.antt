-- A put of the old value undoes a put.
use Rattle.std.proofs.Common.{◌≡◌, ℕ, zero, suc, ◌<◌, ◌-◌, Bool, true, false, List, [], ◌∷◌, Option, Some, refl, ap, sym, ◌∙◌, subst, arith, length, get_or, length-set, true≢false}
use Rattle.std.specs.Prelude.{◌&&◌, ◌||◌, reverse, nat_eq, nat_lt, if◌then◌else◌}
use Rattle.std.proofs.lemmas.Bool.{and_parts, eqb-true, lt-ltb}
use Rattle.std.proofs.lemmas.List.{get_or-reverse, length-reverse}
use Rattle.std.proofs.lemmas.Option.{slice_get-get_or}
use Rattle.std.specs.Prelude.{slice_get, slice_set}
use Rattle.ca_model.specs.declared.value.Value.{Value as Datum}
use Rattle.ca_model.specs.declared.value.Slot.{Slot}
use Rattle.ca_model.specs.declared.value.Slot.TheVariants.{One, Many}
use Rattle.ca_model.specs.Slots.{put_item, put_slot, HasItem}
use Rattle.ca_undo.specs.declared.olds.Old.{Old}
use Rattle.ca_undo.specs.Olds.{item_in, or_null, is_of, has_old, is_found, olds_after, put_back, AllThere}

set_back : (vs : List Datum) (i : ℕ) (v : Datum) → i < length vs → slice_set (slice_set vs i v) i (or_null (slice_get vs i)) ≡ vs
set_back [] i v lt = absurd (omega arith)
set_back (x ∷ vs) zero v lt = refl
set_back (x ∷ vs) (suc i) v lt = ap (λ r. x ∷ r) (set_back vs i v (omega arith))

pub put_undone : (ss : List Slot) (f i : ℕ) (v : Datum) → HasItem (slice_get ss f) i → put_slot (put_slot ss f i v) f i (item_in (slice_get ss f) i) ≡ ss
put_undone [] f i v h = refl
put_undone (One x ∷ ss) zero i v h = refl
put_undone (Many vs ∷ ss) zero i v h = ap (λ r. Many r ∷ ss) (set_back vs i v h)
put_undone (s ∷ ss) (suc f) i v h = ap (λ r. s ∷ r) (put_undone ss f i v h)

-- a put leaves each item where it is
has_after : (ss : List Slot) (f i : ℕ) (v : Datum) (g j : ℕ) → HasItem (slice_get ss g) j → HasItem (slice_get (put_slot ss f i v) g) j
has_after [] f i v g j h = h
has_after (One x ∷ ss) zero i v zero j h = h
has_after (Many vs ∷ ss) zero i v zero j h = rw (length-set vs i v) h
has_after (One x ∷ ss) zero i v (suc g) j h = h
has_after (Many vs ∷ ss) zero i v (suc g) j h = h
has_after (s ∷ ss) (suc f) i v zero j h = h
has_after (s ∷ ss) (suc f) i v (suc g) j h = has_after ss f i v g j h

-- and adds none
had_before : (ss : List Slot) (f i : ℕ) (v : Datum) (g j : ℕ) → HasItem (slice_get (put_slot ss f i v) g) j → HasItem (slice_get ss g) j
had_before [] f i v g j h = h
had_before (One x ∷ ss) zero i v zero j h = h
had_before (Many vs ∷ ss) zero i v zero j h = rw (length-set vs i v) at h
had_before (One x ∷ ss) zero i v (suc g) j h = h
had_before (Many vs ∷ ss) zero i v (suc g) j h = h
had_before (s ∷ ss) (suc f) i v zero j h = h
had_before (s ∷ ss) (suc f) i v (suc g) j h = had_before ss f i v g j h

pub still_there : (ss : List Slot) (f i : ℕ) (v : Datum) → HasItem (slice_get ss f) i → HasItem (slice_get (put_slot ss f i v) f) i
still_there ss f i v h = has_after ss f i v f i h

set_twice : (vs : List Datum) (i : ℕ) (v w : Datum) → slice_set (slice_set vs i v) i w ≡ slice_set vs i w
set_twice [] i v w = refl
set_twice (x ∷ vs) zero v w = refl
set_twice (x ∷ vs) (suc i) v w = ap (λ r. x ∷ r) (set_twice vs i v w)

-- of two puts to a place the second one counts
put_twice : (ss : List Slot) (f i : ℕ) (v w : Datum) → put_slot (put_slot ss f i v) f i w ≡ put_slot ss f i w
put_twice [] f i v w = refl
put_twice (One x ∷ ss) zero i v w = refl
put_twice (Many vs ∷ ss) zero i v w = ap (λ r. Many r ∷ ss) (set_twice vs i v w)
put_twice (s ∷ ss) (suc f) i v w = ap (λ r. s ∷ r) (put_twice ss f i v w)

-- so it does where another one stands between them

set_between : (vs : List Datum) (i j : ℕ) (v x w : Datum) → slice_set (slice_set (slice_set vs i v) j x) i w ≡ slice_set (slice_set vs j x) i w
set_between [] i j v x w = refl
set_between (y ∷ vs) zero zero v x w = refl
set_between (y ∷ vs) zero (suc j) v x w = refl
set_between (y ∷ vs) (suc i) zero v x w = ap (λ r. x ∷ r) (set_twice vs i v w)
set_between (y ∷ vs) (suc i) (suc j) v x w = ap (λ r. y ∷ r) (set_between vs i j v x w)

put_between : (ss : List Slot) (f i g j : ℕ) (v x w : Datum) → put_slot (put_slot (put_slot ss f i v) g j x) f i w ≡ put_slot (put_slot ss g j x) f i w
put_between [] f i g j v x w = refl
put_between (One y ∷ ss) zero i zero j v x w = refl
put_between (Many vs ∷ ss) zero i zero j v x w = ap (λ r. Many r ∷ ss) (set_between vs i j v x w)
put_between (One y ∷ ss) zero i (suc g) j v x w = refl
put_between (Many vs ∷ ss) zero i (suc g) j v x w = ap (λ r. Many r ∷ put_slot ss g j x) (set_twice vs i v w)
put_between (s ∷ ss) (suc f) i zero j v x w = ap (λ r. put_item s j x ∷ r) (put_twice ss f i v w)
put_between (s ∷ ss) (suc f) i (suc g) j v x w = ap (λ r. s ∷ r) (put_between ss f i g j v x w)

-- slots that are the same behind each put to a place
abbrev SameBut : ℕ → ℕ → List Slot → List Slot → Type 0
SameBut f i ss rs = (w : Datum) → put_slot ss f i w ≡ put_slot rs f i w

same_after : (f i g j : ℕ) (x : Datum) (ss rs : List Slot) → SameBut f i ss rs → SameBut f i (put_slot ss g j x) (put_slot rs g j x)
same_after f i g j x ss rs s w =
    sym (put_between ss f i g j w x w) ∙ (ap (λ r. put_slot (put_slot r g j x) f i w) (s w) ∙ put_between rs f i g j w x w)

-- an old value of the place makes them the same
same_at : (o : Old) (f i : ℕ) (ss rs : List Slot) → is_of (Some o) f i ≡ true → SameBut f i ss rs → put_slot ss o.field o.item o.value ≡ put_slot rs o.field o.item o.value
same_at o f i ss rs e s =
    let b = and_parts (nat_eq o.field f) (nat_eq o.item i) e in
    let p : f ≡ o.field = sym (eqb-true o.field f b.0) in
    let q : i ≡ o.item = sym (eqb-true o.item i b.1) in
    subst (λ (n : ℕ). put_slot ss n o.item o.value ≡ put_slot rs n o.item o.value) p (subst (λ (n : ℕ). put_slot ss f n o.value ≡ put_slot rs f n o.value) q (s o.value))

back_by : (b : Bool) (o : Old) (os : List Old) (f i : ℕ) (ss rs : List Slot) → is_of (Some o) f i ≡ b → SameBut f i ss rs
    → (has_old os f i ≡ true → put_back os (put_slot ss o.field o.item o.value) ≡ put_back os (put_slot rs o.field o.item o.value)) → (b || has_old os f i) ≡ true → put_back (o ∷ os) ss ≡ put_back (o ∷ os) rs
back_by true o os f i ss rs e s rest h = ap (put_back os) (same_at o f i ss rs e s)
back_by false o os f i ss rs e s rest h = rest h

back_same : (olds : List Old) (f i : ℕ) (ss rs : List Slot) → SameBut f i ss rs → has_old olds f i ≡ true → put_back olds ss ≡ put_back olds rs
back_same [] f i ss rs s h = absurd (true≢false (sym h))
back_same (o ∷ os) f i ss rs s h =
    back_by (is_of (Some o) f i) o os f i ss rs refl s
    (back_same os f i (put_slot ss o.field o.item o.value) (put_slot rs o.field o.item o.value) (same_after f i o.field o.item o.value ss rs s)) h

-- what is found is there
has_found : (b : Bool) (olds : List Old) (f i : ℕ) → (if b then has_old olds f i else is_of (slice_get olds 0) f i) ≡ true → has_old olds f i ≡ true
has_found true olds f i e = e
has_found false [] f i e = e
has_found false (o ∷ os) f i e = ap (λ b. b || has_old os f i) e

-- of item 0 of the first 64 fields each one is found
pub found_first : (olds : List Old) (f : ℕ) (b : Bool) → f < 64 → has_old olds f 0 ≡ b → is_found olds f 0 ≡ b
found_first olds f b low e = ap (λ c. if c && nat_eq 0 0 then has_old olds f 0 else is_of (slice_get olds 0) f 0) (lt-ltb f 64 low) ∙ e

pub back_again : (olds : List Old) (ss : List Slot) (f i : ℕ) (v : Datum) → has_old olds f i ≡ true → put_back olds (put_slot ss f i v) ≡ put_back olds ss
back_again olds ss f i v h = back_same olds f i (put_slot ss f i v) ss (λ w. put_twice ss f i v w) h

-- putting back after a put and what it keeps

back_if : (b : Bool) (olds : List Old) (ss : List Slot) (f i : ℕ) (v : Datum) → is_found olds f i ≡ b → HasItem (slice_get ss f) i
    → put_back (if b then olds else (record { field = f; item = i; value = item_in (slice_get ss f) i } ∷ olds)) (put_slot ss f i v) ≡ put_back olds ss
back_if true olds ss f i v e h = back_again olds ss f i v (has_found (nat_lt f 64 && nat_eq i 0) olds f i e)
back_if false olds ss f i v e h = ap (put_back olds) (put_undone ss f i v h)

pub back_kept : (olds : List Old) (ss : List Slot) (f i : ℕ) (v : Datum) → HasItem (slice_get ss f) i → put_back (olds_after olds ss f i) (put_slot ss f i v) ≡ put_back olds ss
back_kept olds ss f i v h = back_if (is_found olds f i) olds ss f i v refl h

-- each place is there in slots that have the same items
there_alike : (olds : List Old) (ss rs : List Slot) → ((g j : ℕ) → HasItem (slice_get ss g) j → HasItem (slice_get rs g) j) → ((g j : ℕ) → HasItem (slice_get rs g) j → HasItem (slice_get ss g) j)
    → AllThere olds ss → AllThere olds rs
there_alike [] ss rs more less a = tt
there_alike (o ∷ os) ss rs more less a = (
  more o.field o.item a.0,
  there_alike os (put_slot ss o.field o.item o.value) (put_slot rs o.field o.item o.value)
      (λ g j h. has_after rs o.field o.item o.value g j (more g j (had_before ss o.field o.item o.value g j h)))
      (λ g j h. has_after ss o.field o.item o.value g j (less g j (had_before rs o.field o.item o.value g j h)))
      a.1,
)

pub there_again : (olds : List Old) (ss : List Slot) (f i : ℕ) (v : Datum) → AllThere olds ss → AllThere olds (put_slot ss f i v)
there_again olds ss f i v a = there_alike olds ss (put_slot ss f i v) (has_after ss f i v) (had_before ss f i v) a

there_if : (b : Bool) (olds : List Old) (ss : List Slot) (f i : ℕ) (v : Datum) → HasItem (slice_get ss f) i → AllThere olds ss
    → AllThere (if b then olds else (record { field = f; item = i; value = item_in (slice_get ss f) i } ∷ olds)) (put_slot ss f i v)
there_if true olds ss f i v h a = there_again olds ss f i v a
there_if false olds ss f i v h a = (still_there ss f i v h, subst (λ s. AllThere olds s) (sym (put_undone ss f i v h)) a)

pub there_kept : (olds : List Old) (ss : List Slot) (f i : ℕ) (v : Datum) → HasItem (slice_get ss f) i → AllThere olds ss → AllThere (olds_after olds ss f i) (put_slot ss f i v)
there_kept olds ss f i v h a = there_if (is_found olds f i) olds ss f i v h a

-- the first of a reversed list is the last
pub first_is_last : {A : Type 0} (xs : List A) → slice_get (reverse xs) 0 ≡ slice_get xs (length xs - 1)
first_is_last [] = refl
first_is_last (x ∷ xs) =
    slice_get-get_or (reverse (x ∷ xs)) 0 x (omega (arith, length-reverse (x ∷ xs)))
    ∙ (ap Some (get_or-reverse (x ∷ xs) 0 x (omega arith)) ∙ (ap (λ (n : ℕ). Some (get_or (x ∷ xs) n x)) (omega arith) ∙ sym (slice_get-get_or (x ∷ xs) (length (x ∷ xs) - 1) x (omega arith))))

-- what is kept of a put: nothing more where an old value of the place is found, and else the old value
abbrev pub old_at : ℕ → ℕ → Datum → Old
old_at f i v = record { field = f; item = i; value = v }

pub same_kept : (olds : List Old) (ss : List Slot) (f i : ℕ) → is_found olds f i ≡ true → olds ≡ olds_after olds ss f i
same_kept olds ss f i e = subst (λ b. olds ≡ (if b then olds else (old_at f i (item_in (slice_get ss f) i) ∷ olds))) (sym e) refl

pub other_kept : (olds : List Old) (ss : List Slot) (f i : ℕ) (v : Datum) → is_found olds f i ≡ false → item_in (slice_get ss f) i ≡ v → (old_at f i v ∷ olds) ≡ olds_after olds ss f i
other_kept olds ss f i v e is =
    subst (λ b. (old_at f i v ∷ olds) ≡ (if b then olds else (old_at f i (item_in (slice_get ss f) i) ∷ olds))) (sym e) (ap (λ v. old_at f i v ∷ olds) (sym is))

-- a single value has item 0
pub one_there : (s : Option Slot) (v : Datum) → s ≡ Some (One v) → HasItem s 0
one_there s v e = subst (λ s. HasItem s 0) (sym e) (omega arith)

-- a put of what stands in a single value undoes one before it
pub one_undone : (ss : List Slot) (f : ℕ) (v w : Datum) → slice_get ss f ≡ Some (One v) → put_slot (put_slot ss f 0 w) f 0 v ≡ ss
one_undone ss f v w e =
    subst (λ s. put_slot (put_slot ss f 0 w) f 0 (item_in s 0) ≡ ss) e (put_undone ss f 0 w (one_there (slice_get ss f) v e))
