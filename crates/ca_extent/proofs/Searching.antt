-- The work list: what has been met, which numbers have been read, and how far it has come.
use Rattle.std.proofs.Common.{◌≡◌, ◌≢◌, ◌⊎◌, inl, inr, ℕ, zero, suc, ◌+◌, ◌-◌, ◌<◌, ◌≤◌, Bool, true, false, List, [], ◌∷◌, ◌++◌, length, get_or, refl, sym, ap, ◌∙◌, subst, arith}
use Rattle.std.proofs.Math.ListN.{set}
use Rattle.std.specs.Prelude.{Contains, replicate}
use Rattle.std.proofs.lemmas.List.{length-append, length-set, get_or_append_left, get_or-set_same, get_or-set_other, get_or_default, get_or-replicate, get_or_past, length-replicate}
use Rattle.std.proofs.lemmas.List.Elements.{Contains-get_or, Contains-append_left, Contains-append_right, Contains-append_cases}
use Rattle.std.proofs.lemmas.Bool.{cases_lt, cases_eq, both_ways}
use Rattle.ca_extent.specs.clauses.Reached.{Reached, from_root, onward, Turn, read, passed}

-- how many numbers the bodies have that are not read yet
abbrev pub unread : (ℕ → List ℕ) → List Bool → ℕ
unread next [] = 0
unread next (true ∷ marks) = unread (λ n. next (suc n)) marks
unread next (false ∷ marks) = length (next 0) + unread (λ n. next (suc n)) marks

same_first : (next : ℕ → List ℕ) (b : Bool) (ms ns : List Bool) (k : ℕ) → unread (λ n. next (suc n)) ms ≡ k + unread (λ n. next (suc n)) ns → unread next (b ∷ ms) ≡ k + unread next (b ∷ ns)
same_first next true ms ns k e = e
same_first next false ms ns k e = omega (arith, e)

-- a number that gets a mark was unread
pub mark_reads : (next : ℕ → List ℕ) (marks : List Bool) (n : ℕ) → n < length marks → get_or marks n false ≡ false → unread next marks ≡ length (next n) + unread next (set marks n true)
mark_reads next [] n h e = absurd (omega (arith, h))
mark_reads next (true ∷ marks) zero h e = absurd cc
mark_reads next (false ∷ marks) zero h e = refl
mark_reads next (b ∷ marks) (suc n) h e = same_first next b marks (set marks n true) (length (next (suc n))) (mark_reads (λ k. next (suc k)) marks n (omega (arith, h)) e)

pub record Searching (next : ℕ → List ℕ) (roots : List ℕ) (marks : List Bool) (met : List ℕ) (done : ℕ) : Type 0 where
  pub reached : (n : ℕ) → Contains met n → Reached next roots n
  pub begun : (n : ℕ) → Contains roots n → Contains met n
  pub led : (n m : ℕ) → get_or marks n false ≡ true → Contains (next n) m → Contains met m
  pub seen : (k : ℕ) → k < done → get_or met k 0 < length marks → get_or marks (get_or met k 0) false ≡ true
  pub within : done ≤ length met

unmarked : (k n : ℕ) → get_or (replicate k false) n false ≡ false
unmarked k n = from (cases_lt n k)
  where
    from : (n < k) ⊎ (k ≤ n) → get_or (replicate k false) n false ≡ false
    from (inl h) = get_or-replicate k n false false h
    from (inr h) = get_or_past (replicate k false) n false (omega (arith, length-replicate k false, h))

pub starts : (next : ℕ → List ℕ) (roots : List ℕ) (marks : List Bool) (k : ℕ) → marks ≡ replicate k false → Searching next roots marks roots 0
starts next roots marks k e = record {
  reached = λ n c. from_root c;
  begun = λ n c. c;
  led = λ n m is c. absurd (both_ways _ (unmarked k n) (subst (λ ms. get_or ms n false ≡ true) e is));
  seen = λ n h below. absurd (omega (arith, h));
  within = omega arith;
}

seen_more : (marks : List Bool) (met : List ℕ) (done : ℕ)
    → ((k : ℕ) → k < done → get_or met k 0 < length marks → get_or marks (get_or met k 0) false ≡ true)
    → (get_or met done 0 < length marks → get_or marks (get_or met done 0) false ≡ true)
    → (k : ℕ) → k < done + 1 → get_or met k 0 < length marks → get_or marks (get_or met k 0) false ≡ true
seen_more marks met done before here k h = from (cases_lt k done)
  where
    from : (k < done) ⊎ (done ≤ k) → get_or met k 0 < length marks → get_or marks (get_or met k 0) false ≡ true
    from (inl less) = before k less
    from (inr least) = let e : done ≡ k = omega (arith, h, least) in subst (λ j. get_or met j 0 < length marks → get_or marks (get_or met j 0) false ≡ true) e here

-- a number that is marked, or names no body
pub passes : {next : ℕ → List ℕ} {roots : List ℕ} {marks : List Bool} {met : List ℕ} {done : ℕ} → Searching next roots marks met done → done < length met
    → (get_or met done 0 < length marks → get_or marks (get_or met done 0) false ≡ true) → Searching next roots marks met (done + 1)
passes {next} {roots} {marks} {met} {done} s h here = record {
  reached = s.reached;
  begun = s.begun;
  led = s.led;
  seen = seen_more marks met done s.seen here;
  within = omega (arith, h);
}

-- a number whose body is read
pub reads : {next : ℕ → List ℕ} {roots : List ℕ} {marks : List Bool} {met : List ℕ} {done : ℕ} → Searching next roots marks met done → (n : ℕ) → done < length met → n ≡ get_or met done 0 → n < length marks
    → (marks2 : List Bool) (met2 : List ℕ) → marks2 ≡ set marks n true → met2 ≡ met ++ next n → Searching next roots marks2 met2 (done + 1)
reads {next} {roots} {marks} {met} {done} s n h at known marks2 met2 p q = record {
  reached = λ m c. from m (Contains-append_cases met (next n) m (subst (λ z. Contains z m) q c));
  begun = λ m c. longer m (s.begun m c);
  led = λ a m is c. back m (read_more a m (cases_eq a n) (subst (λ z. get_or z a false ≡ true) p is) c);
  seen = seen_more marks2 met2 done before here;
  within = omega (arith, h, ap length q, length-append met (next n));
}
  where
    in_met : Contains met n
    in_met = subst (λ z. Contains met z) (sym at) (Contains-get_or met done 0 h)

    from : (m : ℕ) → Contains met m ⊎ Contains (next n) m → Reached next roots m
    from m (inl c) = s.reached m c
    from m (inr c) = onward (s.reached n in_met) c

    back : (m : ℕ) → Contains (met ++ next n) m → Contains met2 m
    back m c = subst (λ z. Contains z m) (sym q) c

    longer : (m : ℕ) → Contains met m → Contains met2 m
    longer m c = back m (Contains-append_left met (next n) m c)

    read_more : (a m : ℕ) → (a ≡ n) ⊎ (a ≢ n) → get_or (set marks n true) a false ≡ true → Contains (next a) m → Contains (met ++ next n) m
    read_more a m (inl e) is c = Contains-append_right met (next n) m (subst (λ z. Contains (next z) m) e c)
    read_more a m (inr other) is c = Contains-append_left met (next n) m (s.led a m (sym (get_or-set_other marks n a true false other) ∙ is) c)

    old_at : (k : ℕ) → k < length met → get_or met2 k 0 ≡ get_or met k 0
    old_at k below = ap (λ z. get_or z k 0) q ∙ get_or_append_left met (next n) 0 k below

    marked : (a : ℕ) → (a ≡ n) ⊎ (a ≢ n) → (a < length marks → get_or marks a false ≡ true) ⊎ (a ≡ n) → a < length marks2 → get_or marks2 a false ≡ true
    marked a (inl e) w below = subst (λ z. get_or z a false ≡ true) (sym p) (subst (λ z. get_or (set marks n true) z false ≡ true) (sym e) (get_or-set_same marks n true false known))
    marked a (inr other) (inl w) below = subst (λ z. get_or z a false ≡ true) (sym p) (get_or-set_other marks n a true false other ∙ w (omega (arith, below, ap length p, length-set marks n true)))
    marked a (inr other) (inr e) below = absurd (other e)

    before : (k : ℕ) → k < done → get_or met2 k 0 < length marks2 → get_or marks2 (get_or met2 k 0) false ≡ true
    before k less = subst (λ z. z < length marks2 → get_or marks2 z false ≡ true) (sym (old_at k (omega (arith, less, h)))) (marked (get_or met k 0) (cases_eq (get_or met k 0) n) (inl (s.seen k less)))

    here : get_or met2 done 0 < length marks2 → get_or marks2 (get_or met2 done 0) false ≡ true
    here = subst (λ z. z < length marks2 → get_or marks2 z false ≡ true) (sym (old_at done h)) (marked (get_or met done 0) (cases_eq (get_or met done 0) n) (inr (sym at)))

-- at the end all is met that is reached
pub all_met : {next : ℕ → List ℕ} {roots : List ℕ} {marks : List Bool} {met : List ℕ} {done : ℕ} → Searching next roots marks met done → length met ≤ done
    → ((n : ℕ) → length marks ≤ n → next n ≡ []) → {n : ℕ} → Reached next roots n → Contains met n
all_met {next} {roots} {marks} {met} {done} s end none (from_root {n} c) = s.begun n c
all_met {next} {roots} {marks} {met} {done} s end none (onward {n} {m} r c) = from (cases_lt n (length marks)) (all_met s end none r)
  where
    at : Contains met n → n < length marks → get_or marks n false ≡ true
    at (k, below, is) less =
        let e : get_or met k 0 ≡ n = get_or_default met k 0 n below ∙ is in
        subst (λ z. get_or marks z false ≡ true) e (s.seen k (omega (arith, below, end)) (subst (λ z. z < length marks) (sym e) less))

    nothing : Contains [] m → Contains met m
    nothing (k, below, is) = absurd (omega (arith, below))

    from : (n < length marks) ⊎ (length marks ≤ n) → Contains met n → Contains met m
    from (inl less) held = s.led n m (at held less) c
    from (inr least) held = nothing (subst (λ z. Contains z m) (none n least) c)

-- ---- one turn

pub turn_keeps : {next : ℕ → List ℕ} {roots : List ℕ} {marks marks2 : List Bool} {met met2 : List ℕ} {done : ℕ} → done < length met → Turn next done marks met marks2 met2 → Searching next roots marks met done → Searching next roots marks2 met2 (done + 1)
turn_keeps {next} {roots} {marks} {marks2} {met} {met2} {done} h (read n at known clear p q) s = reads s n h at known marks2 met2 p q
turn_keeps {next} {roots} {marks} {marks2} {met} {met2} {done} h (passed here p q) s = subst (λ z. Searching next roots z met2 (done + 1)) (sym p) (subst (λ z. Searching next roots marks z (done + 1)) (sym q) (passes s h here))

pub turn_known : {next : ℕ → List ℕ} {marks marks2 : List Bool} {met met2 : List ℕ} {done : ℕ} → Turn next done marks met marks2 met2 → length marks2 ≡ length marks
turn_known {marks = marks} (read n at known clear p q) = ap length p ∙ length-set marks n true
turn_known (passed here p q) = ap length p

pub turn_less : {next : ℕ → List ℕ} {marks marks2 : List Bool} {met met2 : List ℕ} {done : ℕ} → done < length met → Turn next done marks met marks2 met2 → unread next marks2 + (length met2 - (done + 1)) < unread next marks + (length met - done)
turn_less {next} {marks} {marks2} {met} {met2} {done} h (read n at known clear p q) = omega (arith, h, mark_reads next marks n known clear, ap (λ z. unread next z) p, ap length q, length-append met (next n))
turn_less {next} {marks} {marks2} {met} {met2} {done} h (passed here p q) = omega (arith, h, ap (λ z. unread next z) p, ap length q)
