-- What is found among names that stand beside what they mean.
use Rattle.std.proofs.Common.{◌≡◌, ℕ, suc, ◌+◌, Bool, true, false, List, [], ◌∷◌, Option, Some, None, map, slice_get, cond, refl, sym, ◌∙◌, ap, subst, arith}
use Rattle.std.specs.List.{position_from, zip}
use Rattle.std.specs.Map.{lookup}
use Rattle.std.specs.Option.{option_map, option_copied}
use Rattle.std.specs.Borrow.{Bor}
use Rattle.std.proofs.lemmas.Option.{slice_get-map}

-- the first name that passes has a number, and the lookup gives what stands there
abbrev FoundAt : {X : Type 0} → (List ℕ → Bool) → List (List ℕ) → List X → ℕ → ℕ → Type 0
FoundAt test names xs start k = (d : ℕ) × (k ≡ start + d) × (lookup test (zip names xs) ≡ slice_get xs d)

found_here : {X : Type 0} (test : List ℕ → Bool) (n : List ℕ) (ns : List (List ℕ)) (xs : List X) (start k : ℕ) → test n ≡ true → Some start ≡ Some k → FoundAt test (n ∷ ns) xs start k
found_here test n ns [] start k p e = let h : start ≡ k = cc e in (0, omega (arith, h), refl)
found_here test n ns (x ∷ xs) start k p e = let h : start ≡ k = cc e in (0, omega (arith, h), rw p refl)

found_behind : {X : Type 0} (test : List ℕ → Bool) (n : List ℕ) (ns : List (List ℕ)) (x : X) (xs : List X) (start k : ℕ) → test n ≡ false → FoundAt test ns xs (start + 1) k → FoundAt test (n ∷ ns) (x ∷ xs) start k
found_behind test n ns x xs start k p r = (suc r.0, omega (arith, r.1), rw p r.2)

found_past : {X : Type 0} (test : List ℕ → Bool) (n : List ℕ) (ns : List (List ℕ)) (start k : ℕ) → FoundAt {X = X} test ns [] (start + 1) k → FoundAt {X = X} test (n ∷ ns) [] start k
found_past test n ns start k r = (suc r.0, omega (arith, r.1), refl)

-- the first name that passes has a number, and the lookup gives what stands there
found_at : {X : Type 0} (test : List ℕ → Bool) (names : List (List ℕ)) (xs : List X) (start k : ℕ) → position_from test start names ≡ Some k → FoundAt test names xs start k
found_at test [] xs start k e = absurd (cc e)
found_at {X} test (n ∷ ns) [] start k e =
    by_test (test n) refl (λ h. found_here test n ns [] start k h) (λ h r. found_past test n ns start k (found_at {X = X} test ns [] (start + 1) k r)) e
  where
    by_test : (b : Bool) → test n ≡ b → (test n ≡ true → Some start ≡ Some k → FoundAt {X = X} test (n ∷ ns) [] start k) → (test n ≡ false → position_from test (start + 1) ns ≡ Some k → FoundAt {X = X} test (n ∷ ns) [] start k)
        → cond (test n) (Some start) (position_from test (start + 1) ns) ≡ Some k → FoundAt {X = X} test (n ∷ ns) [] start k
    by_test true p here behind h = here p (subst (λ b. cond b (Some start) (position_from test (start + 1) ns) ≡ Some k) p h)
    by_test false p here behind h = behind p (subst (λ b. cond b (Some start) (position_from test (start + 1) ns) ≡ Some k) p h)
found_at {X} test (n ∷ ns) (x ∷ xs) start k e =
    by_test (test n) refl (λ h. found_here test n ns (x ∷ xs) start k h) (λ h r. found_behind test n ns x xs start k h (found_at {X = X} test ns xs (start + 1) k r)) e
  where
    by_test : (b : Bool) → test n ≡ b → (test n ≡ true → Some start ≡ Some k → FoundAt test (n ∷ ns) (x ∷ xs) start k) → (test n ≡ false → position_from test (start + 1) ns ≡ Some k → FoundAt test (n ∷ ns) (x ∷ xs) start k)
        → cond (test n) (Some start) (position_from test (start + 1) ns) ≡ Some k → FoundAt test (n ∷ ns) (x ∷ xs) start k
    by_test true p here behind h = here p (subst (λ b. cond b (Some start) (position_from test (start + 1) ns) ≡ Some k) p h)
    by_test false p here behind h = behind p (subst (λ b. cond b (Some start) (position_from test (start + 1) ns) ≡ Some k) p h)

not_found : {X : Type 0} (test : List ℕ → Bool) (names : List (List ℕ)) (xs : List X) (start : ℕ) → position_from test start names ≡ None → lookup test (zip names xs) ≡ None
not_found test [] xs start e = refl
not_found test (n ∷ ns) [] start e = refl
not_found {X} test (n ∷ ns) (x ∷ xs) start e = at (test n) refl (not_found {X = X} test ns xs (start + 1)) e
  where
    at : (b : Bool) → test n ≡ b → (position_from test (start + 1) ns ≡ None → lookup test (zip ns xs) ≡ None) → cond (test n) (Some start) (position_from test (start + 1) ns) ≡ None → lookup test (zip (n ∷ ns) (x ∷ xs)) ≡ None
    at true p behind h = let d : Some start ≡ None = subst (λ b. cond b (Some start) (position_from test (start + 1) ns) ≡ None) p h in absurd (cc d)
    at false p behind h = let d : position_from test (start + 1) ns ≡ None = subst (λ b. cond b (Some start) (position_from test (start + 1) ns) ≡ None) p h in rw p (behind d)

pub lookup_at : {X : Type 0} (test : List ℕ → Bool) (names : List (List ℕ)) (xs : List X) (k : ℕ) → position_from test 0 names ≡ Some k → lookup test (zip names xs) ≡ slice_get xs k
lookup_at test names xs k e = let r = found_at test names xs 0 k e in let h : r.0 ≡ k = omega (arith, r.1) in r.2 ∙ ap (slice_get xs) h

pub lookup_none : {X : Type 0} (test : List ℕ → Bool) (names : List (List ℕ)) (xs : List X) → position_from test 0 names ≡ None → lookup test (zip names xs) ≡ None
lookup_none test names xs e = not_found test names xs 0 e

pub seen : {X Y : Type 0} (view : X → Y) (o : Option (Bor X)) → option_map (λ b. view b.now) o ≡ option_map view (option_copied o)
seen view None = refl
seen view (Some b) = refl

-- the item of a number, seen by a view
pub seen_at : {X Y : Type 0} (view : X → Y) (xs : List X) (k : ℕ) (o : Option (Bor X)) → option_copied o ≡ slice_get xs k → option_map (λ b. view b.now) o ≡ slice_get (map view xs) k
seen_at view xs k o e = seen view o ∙ (ap (option_map view) e ∙ sym (slice_get-map view xs k))
