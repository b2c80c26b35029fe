-- Lists that begin with others, and what holds of each item.
use Rattle.std.proofs.Common.{◌≡◌, ◌≤◌, ℕ, ◌+◌, List, [], ◌∷◌, ◌++◌, refl, sym, subst, ap, ◌∙◌, length, take, arith}
use Rattle.std.specs.Prelude.{Some, slice_get}
use Rattle.std.specs.List.{AllByRecursion}
use Rattle.std.proofs.lemmas.List.{append_assoc, append-nil, length-append}
use Rattle.std.proofs.lemmas.List.Elements.{All-from_recursion}
use Rattle.std.proofs.lemmas.Option.{slice_get_within, get_or_from_slice_get}

-- the second list begins with the first
abbrev pub Begins : {A : Type 0} → List A → List A → Type 0
Begins {A} xs ys = (zs : List A) × (xs ++ zs ≡ ys)

pub begins_itself : {A : Type 0} (xs : List A) → Begins xs xs
begins_itself xs = ([], append-nil xs)

pub begins_through : {A : Type 0} (xs ys zs : List A) → Begins xs ys → Begins ys zs → Begins xs zs
begins_through xs ys zs h k = (h.0 ++ k.0, sym (append_assoc xs h.0 k.0) ∙ (ap (λ us. us ++ k.0) h.1 ∙ k.1))

pub begins_more : {A : Type 0} (xs ys zs : List A) → Begins (xs ++ ys) zs → Begins xs zs
begins_more xs ys zs h = (ys ++ h.0, sym (append_assoc xs ys h.0) ∙ h.1)

pub begins_behind : {A : Type 0} (front xs ys : List A) → Begins xs ys → Begins (front ++ xs) (front ++ ys)
begins_behind front xs ys h = (h.0, append_assoc front xs h.0 ∙ ap (λ us. front ++ us) h.1)

-- the item behind those
there : {A : Type 0} (xs : List A) (x : A) (zs : List A) → slice_get (xs ++ x ∷ zs) (length xs) ≡ Some x
there [] x zs = refl
there (y ∷ xs) x zs = there xs x zs

pub item_there : {A : Type 0} (xs ys : List A) (x : A) → Begins (xs ++ x ∷ []) ys → slice_get ys (length xs) ≡ Some x
item_there xs ys x h = ap (λ zs. slice_get zs (length xs)) (sym h.1 ∙ append_assoc xs (x ∷ []) h.0) ∙ there xs x h.0

taken : {A : Type 0} (xs zs : List A) → take (length xs) (xs ++ zs) ≡ xs
taken [] zs = refl
taken (x ∷ xs) zs = ap (λ ys. x ∷ ys) (taken xs zs)

pub begins_taken : {A : Type 0} (xs ys : List A) → Begins xs ys → take (length xs) ys ≡ xs
begins_taken xs ys h = ap (take (length xs)) (sym h.1) ∙ taken xs h.0

pub begins_shorter : {A : Type 0} (xs ys : List A) → Begins xs ys → length xs ≤ length ys
begins_shorter xs ys h = let e : length xs + length h.0 ≡ length ys = sym (length-append xs h.0) ∙ ap length h.1 in omega (arith, e)

module _ {A : Type 0} (P : A → Type 0) where
  pub all_at : (xs : List A) (i : ℕ) (x : A) → AllByRecursion P xs → slice_get xs i ≡ Some x → P x
  all_at xs i x h e = subst P (get_or_from_slice_get xs i x x e) (All-from_recursion P xs h i x (slice_get_within xs i x e))
