-- Where the numbers of loops rise in the order of the text, a number names at most one `for` of the operations.
use Rattle.std.proofs.Common.{◌≡◌, ℕ, zero, suc, ◌<◌, ◌⊎◌, inl, inr, List, [], ◌∷◌, ◌++◌, Some, refl, sym, ap, ◌∙◌, arith, subst}
use Rattle.std.specs.Prelude.{slice_get, flat_map, Contains}
use Rattle.std.proofs.lemmas.List.Elements.{Contains-append_left, Contains-append_right, Contains-append_cases}
use Rattle.ca_lists.proofs.Members.{has_nothing}
use Rattle.ca_program.specs.declared.program.LoopId.{LoopId}
use Rattle.ca_program.specs.Plain.{PlainProgram, PlainMethod, Statement, Statements, block, put_local, put_field, put_item, new_local, new_field, new_item, invoke, if_else, while_loop, for_loop, return_value, print_value, no_statements, statement_and}
use Rattle.ca_parallel.specs.Bodies.{fors_in, fors_in_all}
use Rattle.ca_parallel.specs.ExtentsOf.{Rises}
use Rattle.ca_parallel.specs.Marks.{HasSite, loops_of_method, loops_of_program}
use Rattle.ca_parallel.specs.Numbered.{LoopBefore}
use Rattle.ca_verdicts.proofs.FoundLoops.{Apart, at_head, here}

-- a `for`, with its number
record Sited (x : Statement) : Type 0 where
  id : LoopId
  is : HasSite x id

abbrev AllSited : List Statement → Type 0
AllSited xs = (x : Statement) → Contains xs x → Sited x

none_sited : AllSited []
none_sited x c = absurd (has_nothing x c)

both_sited : (xs ys : List Statement) → AllSited xs → AllSited ys → AllSited (xs ++ ys)
both_sited xs ys h k x c = at (Contains-append_cases xs ys x c)
  where
    at : Contains xs x ⊎ Contains ys x → Sited x
    at (inl i) = h x i
    at (inr i) = k x i

more_sited : (x : Statement) (xs : List Statement) → Sited x → AllSited xs → AllSited (x ∷ xs)
more_sited x xs s h y c = at (at_head x y xs c)
  where
    at : (x ≡ y) ⊎ Contains xs y → Sited y
    at (inl i) = subst Sited i s
    at (inr i) = h y i

mutual
  sited_in : (x : Statement) → AllSited (fors_in x)
  sited_in (block line ss) = sited_in_all ss
  sited_in (if_else line c a b) = both_sited (fors_in a) (fors_in b) (sited_in a) (sited_in b)
  sited_in (while_loop line c b) = sited_in b
  sited_in (for_loop line site part first c next b) =
      more_sited (for_loop line site part first c next b) (fors_in first ++ (fors_in next ++ fors_in b)) (record { id = site; is = refl })
      (both_sited (fors_in first) (fors_in next ++ fors_in b) (sited_in first) (both_sited (fors_in next) (fors_in b) (sited_in next) (sited_in b)))
  sited_in (put_local line l op e) = none_sited
  sited_in (put_field line f op e) = none_sited
  sited_in (put_item line f i op e) = none_sited
  sited_in (new_local line l c) = none_sited
  sited_in (new_field line f c) = none_sited
  sited_in (new_item line f i c) = none_sited
  sited_in (invoke line e op arguments) = none_sited
  sited_in (return_value line e) = none_sited
  sited_in (print_value line e) = none_sited

  sited_in_all : (xs : Statements) → AllSited (fors_in_all xs)
  sited_in_all no_statements = none_sited
  sited_in_all (statement_and x xs) = both_sited (fors_in x) (fors_in_all xs) (sited_in x) (sited_in_all xs)

sited_methods : (ms : List PlainMethod) → AllSited (flat_map loops_of_method ms)
sited_methods [] = none_sited
sited_methods (m ∷ ms) = both_sited (loops_of_method m) (flat_map loops_of_method ms) (sited_in_all m.body.statements) (sited_methods ms)

rest_rises : (x : Statement) (xs : List Statement) → Rises LoopBefore (x ∷ xs) → Rises LoopBefore xs
rest_rises x xs r = record { rises = λ n y z e f. r.rises (suc n) y z e f }

-- the first of rising loops is before all others
first_least : (x : Statement) (xs : List Statement) → Rises LoopBefore (x ∷ xs) → AllSited xs → (y : Statement) → Contains xs y → LoopBefore x y
first_least x [] r s y c = absurd (has_nothing y c)
first_least x (z ∷ zs) r s y c = at (at_head z y zs c) (λ d. first_least z zs (rest_rises x (z ∷ zs) r) (λ w e. s w (Contains-append_right (z ∷ []) zs w e)) y d)
  where
    next : LoopBefore x z
    next = r.rises zero x z refl refl

    at : (z ≡ y) ⊎ Contains zs y → (Contains zs y → LoopBefore z y) → LoopBefore x y
    at (inl e) later = subst (LoopBefore x) e next
    at (inr d) later = λ i j h k.
        let m : Sited z = s z (here z zs) in
        let a : i.0 < m.id.0 = next i m.id h m.is in
        let b : m.id.0 < j.0 = later d m.id j m.is k in
        omega (arith, a, b)

-- loops in front are before those behind
front_before : (xs ys : List Statement) → Rises LoopBefore (xs ++ ys) → AllSited (xs ++ ys) → (x y : Statement) → Contains xs x → Contains ys y → LoopBefore x y
front_before [] ys r s x y c d = absurd (has_nothing x c)
front_before (z ∷ xs) ys r s x y c d = at (at_head z x xs c) (λ e. front_before xs ys (rest_rises z (xs ++ ys) r) tail x y e d)
  where
    tail : AllSited (xs ++ ys)
    tail w e = s w (Contains-append_right (z ∷ []) (xs ++ ys) w e)

    least : LoopBefore z y
    least = first_least z (xs ++ ys) r tail y (Contains-append_right xs ys y d)

    at : (z ≡ x) ⊎ Contains xs x → (Contains xs x → LoopBefore x y) → LoopBefore x y
    at (inl e) f = subst (λ w. LoopBefore w y) e least
    at (inr e) f = f e

front_rises : (xs ys : List Statement) → Rises LoopBefore (xs ++ ys) → AllSited (xs ++ ys) → (x y : Statement) (id : LoopId) → Contains xs x → Contains xs y → HasSite x id → HasSite y id → x ≡ y
front_rises [] ys r s x y id c d h k = absurd (has_nothing x c)
front_rises (z ∷ xs) ys r s x y id c d h k = at (at_head z x xs c) (at_head z y xs d) (λ e f. front_rises xs ys (rest_rises z (xs ++ ys) r) tail x y id e f h k)
  where
    tail : AllSited (xs ++ ys)
    tail w e = s w (Contains-append_right (z ∷ []) (xs ++ ys) w e)

    least : (w : Statement) → Contains xs w → LoopBefore z w
    least w e = first_least z (xs ++ ys) r tail w (Contains-append_left xs ys w e)

    at : (z ≡ x) ⊎ Contains xs x → (z ≡ y) ⊎ Contains xs y → (Contains xs x → Contains xs y → x ≡ y) → x ≡ y
    at (inl e) (inl f) g = sym e ∙ f
    at (inl e) (inr f) g = let l : id.0 < id.0 = least y f id id (subst (λ w. HasSite w id) (sym e) h) k in absurd (omega (arith, l))
    at (inr e) (inl f) g = let l : id.0 < id.0 = least x e id id (subst (λ w. HasSite w id) (sym f) k) h in absurd (omega (arith, l))
    at (inr e) (inr f) g = g e f

behind_rises : (xs ys : List Statement) → Rises LoopBefore (xs ++ ys) → Rises LoopBefore ys
behind_rises [] ys r = r
behind_rises (x ∷ xs) ys r = behind_rises xs ys (rest_rises x (xs ++ ys) r)

behind_sited : (xs ys : List Statement) → AllSited (xs ++ ys) → AllSited ys
behind_sited xs ys s x c = s x (Contains-append_right xs ys x c)

one_of : (ms : List PlainMethod) (n : ℕ) (m : PlainMethod) (x : Statement) → slice_get ms n ≡ Some m → Contains (loops_of_method m) x → Contains (flat_map loops_of_method ms) x
one_of [] n m x e c = absurd cc
one_of (q ∷ ms) zero m x e c = let same : q ≡ m = cc in Contains-append_left (loops_of_method q) (flat_map loops_of_method ms) x (subst (λ (z : PlainMethod). Contains (loops_of_method z) x) (sym same) c)
one_of (q ∷ ms) (suc n) m x e c = Contains-append_right (loops_of_method q) (flat_map loops_of_method ms) x (one_of ms n m x e c)

apart_in : (ms : List PlainMethod) → Rises LoopBefore (flat_map loops_of_method ms) → AllSited (flat_map loops_of_method ms) → Apart ms
apart_in [] r s i j m n x y id e f c d h k = absurd cc
apart_in (q ∷ ms) r s zero zero m n x y id e f c d h k =
    let one : q ≡ m = cc in
    let two : q ≡ n = cc in
    (refl, front_rises (loops_of_method q) (flat_map loops_of_method ms) r s x y id (subst (λ (z : PlainMethod). Contains (loops_of_method z) x) (sym one) c) (subst (λ (z : PlainMethod). Contains (loops_of_method z) y) (sym two) d) h k)
apart_in (q ∷ ms) r s zero (suc j) m n x y id e f c d h k =
    let one : q ≡ m = cc in
    let l : id.0 < id.0 = front_before (loops_of_method q) (flat_map loops_of_method ms) r s x y (subst (λ (z : PlainMethod). Contains (loops_of_method z) x) (sym one) c) (one_of ms j n y f d) id id h k in
    absurd (omega (arith, l))
apart_in (q ∷ ms) r s (suc i) zero m n x y id e f c d h k =
    let two : q ≡ n = cc in
    let l : id.0 < id.0 = front_before (loops_of_method q) (flat_map loops_of_method ms) r s y x (subst (λ (z : PlainMethod). Contains (loops_of_method z) y) (sym two) d) (one_of ms i m x e c) id id k h in
    absurd (omega (arith, l))
apart_in (q ∷ ms) r s (suc i) (suc j) m n x y id e f c d h k =
    let t : (i ≡ j) × (x ≡ y) = apart_in ms (behind_rises (loops_of_method q) (flat_map loops_of_method ms) r) (behind_sited (loops_of_method q) (flat_map loops_of_method ms) s) i j m n x y id e f c d h k in
    (ap suc t.0, t.1)

front_only : (xs ys : List Statement) → Rises LoopBefore (xs ++ ys) → Rises LoopBefore xs
front_only xs ys r = record { rises = λ n x y e f. r.rises n x y (within xs ys n x e) (within xs ys (suc n) y f) }
  where
    within : (xs ys : List Statement) (n : ℕ) (x : Statement) → slice_get xs n ≡ Some x → slice_get (xs ++ ys) n ≡ Some x
    within [] ys n x e = absurd cc
    within (z ∷ xs) ys zero x e = e
    within (z ∷ xs) ys (suc n) x e = within xs ys n x e

-- the loops of the operations stand in front of those of `main`
pub apart : (p : PlainProgram) → Rises LoopBefore (loops_of_program p) → Apart p.ops
apart p r = apart_in p.ops (front_only (flat_map loops_of_method p.ops) (fors_in_all p.main.statements) r) (sited_methods p.ops)
