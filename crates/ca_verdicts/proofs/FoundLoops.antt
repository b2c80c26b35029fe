-- Where a number names at most one `for` of the operations, each is found by its number.
use Rattle.std.proofs.Common.{◌≡◌, ℕ, zero, suc, ◌⊎◌, inl, inr, Bool, true, false, List, [], ◌∷◌, length, Option, Some, None, refl, sym, ap, ◌∙◌, arith, subst}
use Rattle.std.specs.Prelude.{slice_get, Contains, if◌then◌else◌}
use Rattle.std.specs.Option.{option_or}
use Rattle.std.proofs.lemmas.Bool.Decides.{nat_tests}
use Rattle.std.proofs.lemmas.List.Elements.{Contains-push, Contains-push_cases, Contains-append_left, Contains-append_right, Contains-append_cases}
use Rattle.ca_lists.proofs.Members.{has_nothing}
use Rattle.ca_program.specs.declared.program.LoopId.{LoopId}
use Rattle.ca_program.specs.Plain.{PlainProgram, PlainMethod, Statement, block, put_local, put_field, put_item, new_local, new_field, new_item, invoke, if_else, while_loop, for_loop, return_value, print_value}
use Rattle.ca_parallel.specs.Bodies.{fors_in_all}
use Rattle.ca_parallel.specs.Lists.{has_site}
use Rattle.ca_parallel.specs.Marks.{HasSite}
use Rattle.ca_symbolic_laws.specs.Demanded.{LoopPlace, loop_among, loop_at}
use Rattle.ca_verdicts.proofs.Sound.{LoopsFound}

sited : (x : Statement) (id : LoopId) → HasSite x id → has_site x id ≡ true
sited (for_loop line site part first c next body) id h = let e : site.0 ≡ id.0 = ap (λ (i : LoopId). i.0) h in grind (arith, nat_tests)
sited x id h = absurd h

site_of : (x : Statement) (id : LoopId) → has_site x id ≡ true → HasSite x id
site_of (for_loop line site part first c next body) id h = let e : site.0 ≡ id.0 = grind (arith, nat_tests) in ap (λ (n : ℕ). record { 0 = n }) e
site_of (block line ss) id h = cc
site_of (put_local line l op e) id h = cc
site_of (put_field line f op e) id h = cc
site_of (put_item line f i op e) id h = cc
site_of (new_local line l c) id h = cc
site_of (new_field line f c) id h = cc
site_of (new_item line f i c) id h = cc
site_of (invoke line e op arguments) id h = cc
site_of (if_else line c a b) id h = cc
site_of (while_loop line c b) id h = cc
site_of (return_value line e) id h = cc
site_of (print_value line e) id h = cc

abbrev place : Statement → ℕ → Option LoopPlace
place x n = Some (record { loop = x; locals = n })

pub at_head : (y x : Statement) (ys : List Statement) → Contains (y ∷ ys) x → (y ≡ x) ⊎ Contains ys x
at_head y x ys c = split (Contains-append_cases (y ∷ []) ys x c)
  where
    head : Contains [] x ⊎ (y ≡ x) → (y ≡ x) ⊎ Contains ys x
    head (inl i) = absurd (has_nothing x i)
    head (inr i) = inl i

    split : Contains (y ∷ []) x ⊎ Contains ys x → (y ≡ x) ⊎ Contains ys x
    split (inl i) = head (Contains-push_cases [] y x i)
    split (inr i) = inr i

pub here : (y : Statement) (ys : List Statement) → Contains (y ∷ ys) y
here y ys = Contains-append_left (y ∷ []) ys y (Contains-push [] y)

later : (y x : Statement) (ys : List Statement) → Contains ys x → Contains (y ∷ ys) x
later y x ys c = Contains-append_right (y ∷ []) ys x c

among_found : (n : ℕ) (id : LoopId) (x : Statement) (xs : List Statement) → Contains xs x → HasSite x id → ((y : Statement) → Contains xs y → HasSite y id → y ≡ x) → loop_among n id xs ≡ place x n
among_found n id x [] c s one = absurd (has_nothing x c)
among_found n id x (y ∷ ys) c s one = at (has_site y id) refl (at_head y x ys c) (λ d. among_found n id x ys d s (λ z k t. one z (later y z ys k) t))
  where
    at : (b : Bool) → has_site y id ≡ b → (y ≡ x) ⊎ Contains ys x → (Contains ys x → loop_among n id ys ≡ place x n) → (if b then place y n else loop_among n id ys) ≡ place x n
    at true e d r = ap (λ z. place z n) (one y (here y ys) (site_of y id e))
    at false e (inl d) r = let f : has_site x id ≡ false = ap (λ z. has_site z id) (sym d) ∙ e in let g : has_site x id ≡ true = sited x id s in cc
    at false e (inr d) r = r d

among_none : (n : ℕ) (id : LoopId) (xs : List Statement) → ((y : Statement) → Contains xs y → HasSite y id → ⊥) → loop_among n id xs ≡ None
among_none n id [] h = refl
among_none n id (y ∷ ys) h = at (has_site y id) refl (among_none n id ys (λ z k. h z (later y z ys k)))
  where
    at : (b : Bool) → has_site y id ≡ b → loop_among n id ys ≡ None → (if b then place y n else loop_among n id ys) ≡ None
    at true e r = absurd (h y (here y ys) (site_of y id e))
    at false e r = r

-- a number names at most one `for` of these
abbrev pub Apart : List PlainMethod → Type 0
Apart ms = (i j : ℕ) (m n : PlainMethod) (x y : Statement) (id : LoopId) → slice_get ms i ≡ Some m → slice_get ms j ≡ Some n → Contains (fors_in_all m.body.statements) x → Contains (fors_in_all n.body.statements) y → HasSite x id → HasSite y id → (i ≡ j) × (x ≡ y)

found_in : (ms : List PlainMethod) (i : ℕ) (m : PlainMethod) (x : Statement) (id : LoopId) → Apart ms → slice_get ms i ≡ Some m → Contains (fors_in_all m.body.statements) x → HasSite x id → loop_at ms id ≡ place x (length m.body.locals)
found_in [] i m x id h e c s = absurd cc
found_in (q ∷ ms) zero m x id h e c s =
    let same : q ≡ m = cc in
    let there : Contains (fors_in_all q.body.statements) x = subst (λ (z : PlainMethod). Contains (fors_in_all z.body.statements) x) (sym same) c in
    ap (λ z. option_or z (loop_at ms id)) (among_found (length q.body.locals) id x (fors_in_all q.body.statements) there s (λ y d t. sym (h 0 0 q q x y id refl refl there d s t).1))
    ∙ ap (λ (z : PlainMethod). place x (length z.body.locals)) same
found_in (q ∷ ms) (suc i) m x id h e c s =
    ap (λ z. option_or z (loop_at ms id)) (among_none (length q.body.locals) id (fors_in_all q.body.statements) (λ y d t. let z : 0 ≡ suc i = (h 0 (suc i) q m y x id refl e d c t s).0 in omega (arith, z)))
    ∙ found_in ms i m x id (λ j k a b y z w f g d u t v. let r = h (suc j) (suc k) a b y z w f g d u t v in (let n : j ≡ k = omega (arith, r.0) in n, r.1)) e c s

pub loops_found : (p : PlainProgram) → Apart p.ops → LoopsFound p
loops_found p h = λ op m e x site c s. found_in p.ops op.0 m x site h e c s
