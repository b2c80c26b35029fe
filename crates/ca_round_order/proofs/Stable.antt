-- A list has one stable order.
use Rattle.std.proofs.Common.{◌≡◌, ℕ, suc, ◌+◌, ◌<◌, Bool, true, false, true≢false, not, ◌&&◌, cond, List, [], ◌∷◌, length, filter, map, get_or, refl, ap, sym, subst, ◌∙◌, arith}
use Rattle.std.specs.Cmp.{IsStrictWeakOrder}
use Rattle.std.specs.List.Sorted.{IsSortedBy, ties}
use Rattle.std.proofs.lemmas.List.Sorted.{sorted_far}
use Rattle.ca_lists.proofs.Places.{heads, tails, no_item}
use Rattle.ca_logs.proofs.Comparing.{by_bool}

pub cond_true : {A : Type 0} (b : Bool) (x y : A) → b ≡ true → cond b x y ≡ x
cond_true b x y e = ap (λ c. cond c x y) e

pub cond_false : {A : Type 0} (b : Bool) (x y : A) → b ≡ false → cond b x y ≡ y
cond_false b x y e = ap (λ c. cond c x y) e

both_not : (a b : Bool) → a ≡ false → b ≡ false → not a && not b ≡ true
both_not false false p q = refl
both_not true b p q = absurd (true≢false p)
both_not false true p q = absurd (true≢false q)

pub first_not : (a b : Bool) → not a && not b ≡ true → a ≡ false
first_not true b e = absurd (true≢false (sym e))
first_not false b e = refl

pub second_not : (a b : Bool) → not a && not b ≡ true → b ≡ false
second_not true b e = absurd (true≢false (sym e))
second_not false true e = absurd (true≢false (sym e))
second_not false false e = refl

module _ {X : Type 0} (lt : X → X → Bool) where
  -- none of them comes before
  pub data NoneBefore (x : X) : List X → Type 0 where
    no_more : NoneBefore x []
    not_before : (y : X) (ys : List X) → lt y x ≡ false → NoneBefore x ys → NoneBefore x (y ∷ ys)

  pub data Up : List X → Type 0 where
    up_none : Up []
    up : (x : X) (xs : List X) → NoneBefore x xs → Up xs → Up (x ∷ xs)

  none_before : (x : X) (ys : List X) → ((k : ℕ) → k < length ys → lt (get_or ys k x) x ≡ false) → NoneBefore x ys
  none_before x [] f = no_more
  none_before x (y ∷ ys) f = not_before y ys (f 0 (omega arith)) (none_before x ys (λ k l. f (suc k) (omega (arith, l))))

  tail_sorted : (x : X) (xs : List X) → IsSortedBy lt (x ∷ xs) → IsSortedBy lt xs
  tail_sorted x xs s k d le l =
      let e : suc k + 1 ≡ suc (k + 1) = omega arith in
      subst (λ n. lt (get_or (x ∷ xs) n d) (get_or (x ∷ xs) (suc k) d) ≡ false) e (s (suc k) d (omega arith) (omega (arith, l)))

  module _ (o : IsStrictWeakOrder lt) where
    pub itself : (x : X) → lt x x ≡ false
    itself x = by_bool (lt x x ≡ false) (lt x x) (λ t. o.one_way x x t) (λ f. f)

    pub from_sorted : (xs : List X) → IsSortedBy lt xs → Up xs
    from_sorted [] s = up_none
    from_sorted (x ∷ xs) s = up x xs (none_before x xs (λ k l. sorted_far lt o (x ∷ xs) s 0 (suc k) x (omega arith) (omega (arith, l)))) (from_sorted xs (tail_sorted x xs s))

    ties_itself : (x : X) → ties lt x x ≡ true
    ties_itself x = both_not (lt x x) (lt x x) (itself x) (itself x)

    -- the first that passes a test is among them
    first_behind : (y : X) (ys : List X) → NoneBefore y ys → (p : X → Bool) (w : X) (r : List X) → filter p ys ≡ w ∷ r → lt w y ≡ false
    first_behind y [] no_more p w r e = absurd (no_item e)
    first_behind y (z ∷ zs) (not_before z2 zs2 b more) p w r e =
        by_bool (lt w y ≡ false) (p z) (λ t. subst (λ v. lt v y ≡ false) (heads (sym (cond_true (p z) (z ∷ filter p zs) (filter p zs) t) ∙ e)) b) (λ f. first_behind y zs more p w r (sym (cond_false (p z) (z ∷ filter p zs) (filter p zs) f) ∙ e))

    first_of : (y : X) (ys : List X) → NoneBefore y ys → (p : X → Bool) (w : X) (r : List X) → filter p (y ∷ ys) ≡ w ∷ r → lt w y ≡ false
    first_of y ys b p w r e =
        by_bool (lt w y ≡ false) (p y) (λ t. subst (λ v. lt v y ≡ false) (heads (sym (cond_true (p y) (y ∷ filter p ys) (filter p ys) t) ∙ e)) (itself y)) (λ f. first_behind y ys b p w r (sym (cond_false (p y) (y ∷ filter p ys) (filter p ys) f) ∙ e))

    front_passes : (y : X) (ys : List X) → filter (ties lt y) (y ∷ ys) ≡ y ∷ filter (ties lt y) ys
    front_passes y ys = cond_true (ties lt y y) (y ∷ filter (ties lt y) ys) (filter (ties lt y) ys) (ties_itself y)

    -- lists in order whose items tie alike are one
    pub unique : (ys zs : List X) → Up ys → Up zs → ((x : X) → filter (ties lt x) ys ≡ filter (ties lt x) zs) → ys ≡ zs
    unique [] [] up_none up_none same = refl
    unique [] (z ∷ zs) up_none (up z2 zs2 b more) same = absurd (no_item (same z ∙ front_passes z zs))
    unique (y ∷ ys) [] (up y2 ys2 b more) up_none same = absurd (no_item (sym (same y) ∙ front_passes y ys))
    unique (y ∷ ys) (z ∷ zs) (up y2 ys2 by more) (up z2 zs2 bz rest) same =
        ap (λ (v : X). v ∷ ys) first ∙ ap (λ (l : List X). z ∷ l) (unique ys zs more rest tails_same)
      where
        z_not : lt z y ≡ false
        z_not = first_of y ys by (ties lt z) z (filter (ties lt z) zs) (same z ∙ front_passes z zs)

        y_not : lt y z ≡ false
        y_not = first_of z zs bz (ties lt y) y (filter (ties lt y) ys) (sym (same y) ∙ front_passes y ys)

        first : y ≡ z
        first = heads (sym (front_passes y ys) ∙ (same y ∙ cond_true (ties lt y z) (z ∷ filter (ties lt y) zs) (filter (ties lt y) zs) (both_not (lt y z) (lt z y) y_not z_not)))

        tails_same : (x : X) → filter (ties lt x) ys ≡ filter (ties lt x) zs
        tails_same x = by_bool (filter (ties lt x) ys ≡ filter (ties lt x) zs) (ties lt x y)
            (λ t. tails (sym (cond_true (ties lt x y) (y ∷ filter (ties lt x) ys) (filter (ties lt x) ys) t) ∙ (same x ∙ cond_true (ties lt x z) (z ∷ filter (ties lt x) zs) (filter (ties lt x) zs) (ap (λ v. ties lt x v) (sym first) ∙ t))))
            (λ f. sym (cond_false (ties lt x y) (y ∷ filter (ties lt x) ys) (filter (ties lt x) ys) f) ∙ (same x ∙ cond_false (ties lt x z) (z ∷ filter (ties lt x) zs) (filter (ties lt x) zs) (ap (λ v. ties lt x v) (sym first) ∙ f)))

-- under a map that keeps what comes before
module _ {A B : Type 0} (f : A → B) (lt : A → A → Bool) (less : B → B → Bool) (keeps : (a b : A) → less (f a) (f b) ≡ lt a b) where
  none_map : (x : A) (xs : List A) → NoneBefore lt x xs → NoneBefore less (f x) (map f xs)
  none_map x [] no_more = no_more
  none_map x (y ∷ ys) (not_before y2 ys2 b more) = not_before (f y) (map f ys) (keeps y x ∙ b) (none_map x ys more)

  pub up_map : (xs : List A) → Up lt xs → Up less (map f xs)
  up_map [] up_none = up_none
  up_map (x ∷ xs) (up x2 xs2 b more) = up (f x) (map f xs) (none_map x xs b) (up_map xs more)

pub filter_map : {A B : Type 0} (f : A → B) (p : B → Bool) (xs : List A) → filter p (map f xs) ≡ map f (filter (λ a. p (f a)) xs)
filter_map f p [] = refl
filter_map {A} {B} f p (x ∷ xs) = from (p (f x)) (filter_map f p xs)
  where
    from : (b : Bool) → filter p (map f xs) ≡ map f (filter (λ a. p (f a)) xs) → cond b (f x ∷ filter p (map f xs)) (filter p (map f xs)) ≡ map f (cond b (x ∷ filter (λ a. p (f a)) xs) (filter (λ a. p (f a)) xs))
    from true e = ap (λ (l : List B). f x ∷ l) e
    from false e = e
