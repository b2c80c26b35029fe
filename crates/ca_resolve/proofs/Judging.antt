-- Answers of parts, and of what is made of them.
use Rattle.std.proofs.Common.{◌≡◌, List, [], ◌∷◌, ◌++◌, map, refl, sym, ◌∙◌, ap, subst, Result, Ok, Err, arith, Global}
use Rattle.std.proofs.lemmas.List.{append_assoc, append-nil, map-append}
use Rattle.std.specs.declared.vec.Vec.{Vec}
use Rattle.ca_resolve.specs.declared.errors.CheckError.{CheckError}
use Rattle.ca_resolve.specs.declared.errors.CheckError.TheVariants.{Violation as Tells_violation, Limit as Tells_limit, Memory}
use Rattle.ca_resolve.specs.Judged.{Violation, Judged, fine, faulty, violations, both, within, each, Tells, Answers, Finds, Joins, Extends}

-- violations of two parts
pub both_violations : {A B : Type 0} (j : Judged A) (k : Judged B) → violations (both j k) ≡ violations j ++ violations k
both_violations (fine a) (fine b) = refl
both_violations (fine a) (faulty u us) = refl
both_violations (faulty v vs) k = refl

-- what is told of no violations may be told of any
none_tells : (e : CheckError) (vs : List Violation) → Tells e [] → Tells e vs
none_tells (Tells_violation at code) vs h = absurd (omega (arith, h.1.one.1))
none_tells (Tells_limit at code) vs h = absurd (omega (arith, h.1.one.1))
none_tells Memory vs h = (tt, tt)

-- a node tells what stands inside it
pub within_tells : {A B : Type 0} (e : CheckError) (j : Judged A) (rule : A → Judged B) → Tells e (violations j) → Tells e (violations (within j rule))
within_tells e (fine a) rule h = none_tells e (violations (rule a)) h
within_tells e (faulty v vs) rule h = h

pub finds : {T A : Type 0} (view : T → A) (r : Result T CheckError) (j : Judged A) → Answers view r j → Finds r (violations j)
finds view (Ok t) j h = ap violations h
finds view (Err e) j h = h

-- one part that is asked for
pub one_fine : {T A : Type 0} (view : T → A) (r : Result T CheckError) (t : T) (j : Judged A) → r ≡ Ok t → Answers view r j → j ≡ fine (view t)
one_fine view r t j e h = subst (λ x. Answers view x j) e h

pub one_exit : {T A B : Type 0} (view : T → A) (r : Result T CheckError) (e : CheckError) (j : Judged A) (rule : A → Judged B) → r ≡ Err e → Answers view r j → Tells e (violations (within j rule))
one_exit view r e j rule is h = within_tells e j rule (subst (λ x. Answers view x j) is h)

-- two parts that are asked for
pub both_fine : {T U A B : Type 0} (f : T → A) (g : U → B) (a : Result T CheckError) (b : Result U CheckError) (r : Result (T × U) CheckError) (p : T × U) (j : Judged A) (k : Judged B)
    → r ≡ Ok p → Joins a b r → Answers f a j → Answers g b k → both j k ≡ fine (f p.0, g p.1)
both_fine f g a b r p j k is h x y =
    let q : (a ≡ Ok p.0) × (b ≡ Ok p.1) = subst (Joins a b) is h in
    let e : j ≡ fine (f p.0) = one_fine f a p.0 j q.0 x in
    let d : k ≡ fine (g p.1) = one_fine g b p.1 k q.1 y in
    rw (e, d) refl

pub both_exit : {T U A B C : Type 0} (f : T → A) (g : U → B) (a : Result T CheckError) (b : Result U CheckError) (r : Result (T × U) CheckError) (e : CheckError) (j : Judged A) (k : Judged B) (rule : A × B → Judged C)
    → r ≡ Err e → Joins a b r → Answers f a j → Answers g b k → Tells e (violations (within (both j k) rule))
both_exit f g a b r e j k rule is h x y =
    let q : (vs us : List Violation) → Finds a vs → Finds b us → Tells e (vs ++ us) = subst (Joins a b) is h in
    within_tells e (both j k) rule (rw (both_violations j k) (q (violations j) (violations k) (finds f a j x) (finds g b k y)))

-- lists
snoc_one : {A : Type 0} (j : Judged A) → each (j ∷ []) ≡ within (both (fine []) j) (λ p. fine (p.0 ++ p.1 ∷ []))
snoc_one (fine x) = refl
snoc_one (faulty v vs) = ap (λ us. faulty v us) (append-nil vs)

snoc_over : {A : Type 0} (i : Judged A) (k : Judged (List A)) (j : Judged A)
    → within (both i (within (both k j) (λ p. fine (p.0 ++ p.1 ∷ [])))) (λ p. fine (p.0 ∷ p.1)) ≡ within (both (within (both i k) (λ p. fine (p.0 ∷ p.1))) j) (λ p. fine (p.0 ++ p.1 ∷ []))
snoc_over (fine x) (fine xs) (fine y) = refl
snoc_over (fine x) (fine xs) (faulty u us) = refl
snoc_over (fine x) (faulty w ws) j = refl
snoc_over (faulty v vs) (fine xs) (fine y) = ap (λ us. faulty v us) (sym (append-nil (vs ++ [])))
snoc_over (faulty v vs) (fine xs) (faulty u us) = ap (λ ws. faulty v (ws ++ u ∷ us)) (sym (append-nil vs))
snoc_over (faulty v vs) (faulty w ws) j = ap (λ us. faulty v us) (sym (append_assoc vs (w ∷ ws) (violations j)))

pub each_snoc : {A : Type 0} (js : List (Judged A)) (j : Judged A) → each (js ++ j ∷ []) ≡ within (both (each js) j) (λ p. fine (p.0 ++ p.1 ∷ []))
each_snoc [] j = snoc_one j
each_snoc (i ∷ js) j = ap (λ k. within (both i k) (λ p. fine (p.0 ∷ p.1))) (each_snoc js j) ∙ snoc_over i (each js) j

-- the parts so far and one more
pub extends_answers : {T A : Type 0} (view : T → A) (a : Result (Vec T Global) CheckError) (b : Result T CheckError) (r : Result (Vec T Global) CheckError) (js : List (Judged A)) (j : Judged A)
    → Extends a b r → Answers (λ (v : Vec T Global). map view v.items) a (each js) → Answers view b j → Answers (λ (v : Vec T Global). map view v.items) r (each (js ++ j ∷ []))
extends_answers view a b (Ok w) js j (v, x, is, it, more) h k =
    let e : each js ≡ fine (map view v.items) = one_fine (λ (u : Vec _ Global). map view u.items) a v (each js) is h in
    let d : j ≡ fine (view x) = one_fine view b x j it k in
    each_snoc js j ∙ rw (e, d) (rw more (ap (λ (xs : List _). fine xs) (sym (map-append view v.items (x ∷ [])))))
extends_answers view a b (Err e) js j g h k =
    rw (each_snoc js j) (within_tells e (both (each js) j) (λ p. fine (p.0 ++ p.1 ∷ []))
    (rw (both_violations (each js) j) (g (violations (each js)) (violations j) (finds (λ (u : Vec _ Global). map view u.items) a (each js) h) (finds view b j k))))

-- errors that two parts give
pub left_joins : {T U : Type 0} (a : Result T CheckError) (b : Result U CheckError) (r : Result (T × U) CheckError) (d : CheckError) (u : U) → a ≡ Err d → b ≡ Ok u → r ≡ Err d → Joins a b r
left_joins a b r d u p q s = rw (p, q, s) (λ vs us h k. rw (k, append-nil vs) h)

pub both_join : {T U : Type 0} (a : Result T CheckError) (b : Result U CheckError) (r : Result (T × U) CheckError) (d e f : CheckError) → a ≡ Err d → b ≡ Err e → r ≡ Err f
    → ((vs us : List Violation) → Tells d vs → Tells e us → Tells f (vs ++ us)) → Joins a b r
both_join a b r d e f p q s h = rw (p, q, s) h
