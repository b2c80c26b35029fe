-- Lists of items, read one behind the other by a loop.
use Rattle.std.proofs.Common.{◌≡◌, ℕ, List, [], ◌∷◌, ◌++◌, refl, sym, ap, subst, append_assoc}
use Rattle.std.proofs.lemmas.List.{append-nil}
use Rattle.ca_descent.specs.Exact.{Grammar, Failure, Answer, Got, Failed, Exact, prefixed, image, Gathers}
use Rattle.ca_descent.proofs.Exact.{Rule, then_ok, exact_image}

-- lists that begin with x and go on by D
pub record Consed {T A : Type 0} (D : Grammar T (List A)) (x : A)
    (free : ℕ) (s : List T) (xs : List A) (r : List T) : Type 0 where
  pub tail : List A
  pub split : xs ≡ x ∷ tail
  pub it : D free s tail r

-- what was read before goes in front, at once or in two parts
pub prefixed_append : {T A : Type 0} (xs ys : List A) (o : Answer T (List A)) → prefixed xs (prefixed ys o) ≡ prefixed (xs ++ ys) o
prefixed_append xs ys (Got zs q) = ap (λ z. Got z q) (sym (append_assoc xs ys zs))
prefixed_append xs ys (Failed f) = refl

-- nothing was read before
pub prefixed_none : {T A : Type 0} (o : Answer T (List A)) → prefixed [] o ≡ o
prefixed_none (Got xs q) = refl
prefixed_none (Failed f) = refl

-- an item in front of the answer is an item in front of what was read
cons_image : {T A : Type 0} (x : A) (o : Answer T (List A)) → image (λ xs. x ∷ xs) o ≡ prefixed (x ∷ []) o
cons_image x (Got xs q) = refl
cons_image x (Failed f) = refl

-- the first item is read, so the answer is that of the rest with the item in front
pub then_consed : {T A : Type 0} {Part PartClosed : Grammar T A} {Rest RestClosed D C : Grammar T (List A)}
    → Rule Part PartClosed (Consed Rest) (Consed RestClosed) D C → {s q : List T} {x : A} {o : Answer T (List A)} → Exact Part PartClosed s (Got x q)
    → Exact Rest RestClosed q o → Exact D C s (prefixed (x ∷ []) o)
then_consed {Rest = Rest} {RestClosed = RestClosed} rule {s} {q} {x} {o} d f = then_ok rule d
    (subst (λ z. Exact (Consed Rest x) (Consed RestClosed x) q z) (cons_image x o)
    (exact_image (λ xs. x ∷ xs) (λ free s r xs c. record { tail = xs; split = refl; it = c }) (λ free s r ys c. (c.tail, c.split, c.it)) f))

-- a loop begins with nothing read
pub gathers_none : {T A : Type 0} {D C : Grammar T (List A)} {s : List T} → Gathers D C D C s [] s
gathers_none {D = D} {C = C} {s = s} = record { go = λ o d. subst (λ z. Exact D C s z) (sym (prefixed_none o)) d }

-- a loop reads one more
pub gathers_more : {T A : Type 0} {D C Rest RestClosed : Grammar T (List A)} {all rest q : List T} {xs : List A} {x : A}
    → Gathers D C Rest RestClosed all xs rest → ((o : Answer T (List A)) → Exact Rest RestClosed q o → Exact Rest RestClosed rest (prefixed (x ∷ []) o))
    → Gathers D C Rest RestClosed all (xs ++ x ∷ []) q
gathers_more {D = D} {C = C} {all = all} {xs = xs} {x = x} g f = record {
  go = λ o d. subst (λ z. Exact D C all z) (prefixed_append xs (x ∷ []) o) (g.go (prefixed (x ∷ []) o) (f o d));
}

-- a loop ends, and all that it read is the answer
pub gathers_end : {T A : Type 0} {D C Rest RestClosed : Grammar T (List A)} {all rest q : List T} {xs : List A}
    → Gathers D C Rest RestClosed all xs rest → Exact Rest RestClosed rest (Got [] q) → Exact D C all (Got xs q)
gathers_end {D = D} {C = C} {all = all} {q = q} {xs = xs} g d =
    subst (λ z. Exact D C all (Got z q)) (append-nil xs) (g.go (Got [] q) d)

-- a loop does not read on
pub gathers_failed : {T A : Type 0} {D C Rest RestClosed : Grammar T (List A)} {all rest : List T} {xs : List A} (f : Failure T)
    → Gathers D C Rest RestClosed all xs rest → Exact Rest RestClosed rest (Failed f) → Exact D C all (Failed f)
gathers_failed f g d = g.go (Failed f) d
