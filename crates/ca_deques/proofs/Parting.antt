-- Lists of owners and passes that are put together and taken apart, from the last to the first.
use Rattle.std.proofs.Common.{◌≡◌, ℕ, suc, ◌+◌, ◌<◌, get_or, List, [], ◌∷◌, ◌++◌, length, map, reverse, take, drop, slice_get, refl, sym, ap, ◌∙◌, arith, append_assoc, append-nil}
use lib.Seq.{take-append_seam}
use Rattle.std.proofs.lemmas.List.{length_push, reverse-append, map-append}
use Rattle.ca_lists.proofs.Places.{get_in_front, get_last}
use Rattle.ca_meaning.specs.Multisets.{weight}
use Rattle.ca_order_laws.proofs.Weights.{weight_append}
use Rattle.ca_logs.specs.declared.log.Task.{Task}
use Rattle.ca_deques.specs.Settings.{Setting, AllFit}
use Rattle.ca_deques.specs.Hands.{IsUnused}
use Rattle.ca_deques.specs.Thieves.{OwnerView, ThiefView, taken_by_thief}
use Rattle.ca_deques.specs.Settling.{AreUnused, all_of as all_thieves}
use Rattle.ca_deques.proofs.Bands.{all_last}

same_head : {A : Type 0} (a b : A) (xs ys : List A) → a ≡ b → xs ≡ ys → a ∷ xs ≡ b ∷ ys
same_head a b xs ys e f = ap (λ z. z ∷ xs) e ∙ ap (λ zs. b ∷ zs) f

pub same_lists : {A : Type 0} (xs ys : List A) → length ys ≡ length xs → ((k : ℕ) (d : A) → k < length xs → get_or ys k d ≡ get_or xs k d) → ys ≡ xs
same_lists [] [] n h = refl
same_lists [] (y ∷ ys) n h = absurd (omega (arith, n))
same_lists (x ∷ xs) [] n h = absurd (omega (arith, n))
same_lists (x ∷ xs) (y ∷ ys) n h = same_head y x ys xs (h 0 x (omega arith)) (same_lists xs ys (omega (arith, n)) (λ k d l. h (suc k) d (omega (arith, l))))

pub fewer : {A : Type 0} (xs ys : List A) (x : A) → xs ≡ ys ++ x ∷ [] → length ys < length xs
fewer xs ys x e = let a = ap length e in let b = length_push ys x in omega (arith, a, b)

pub reverse_twice : {A : Type 0} (xs : List A) → reverse (reverse xs) ≡ xs
reverse_twice [] = refl
reverse_twice (x ∷ xs) = ap reverse (reverse-append (x ∷ []) xs) ∙ (reverse-append (reverse xs) (x ∷ []) ∙ ap (λ l. x ∷ l) (reverse_twice xs))

-- one more is taken from the end of a list and put at the end of another
mirror_step : {A : Type 0} (all olds news done more : List A) (x : A) → all ≡ olds ++ reverse done → olds ≡ news ++ x ∷ [] → more ≡ done ++ x ∷ [] → all ≡ news ++ reverse more
mirror_step all olds news done more x e o m =
    e ∙ (ap (λ l. l ++ reverse done) o ∙ (append_assoc news (x ∷ []) (reverse done) ∙ ap (λ l. news ++ l) (sym (ap reverse m ∙ reverse-append done (x ∷ [])))))

-- the same by keys
pub moves_one : {A B K : Type 0} (f : A → K) (g : B → K) (all olds news : List A) (done more : List B) (x : A) (y : B) → f x ≡ g y → map f all ≡ map f olds ++ reverse (map g done) → olds ≡ news ++ x ∷ [] → more ≡ done ++ y ∷ [] → map f all ≡ map f news ++ reverse (map g more)
moves_one f g all olds news done more x y same e o m = mirror_step (map f all) (map f olds) (map f news) (map g done) (map g more) (f x) e
    (ap (map f) o ∙ map-append f news (x ∷ []))
    (ap (map g) m ∙ (map-append g done (y ∷ []) ∙ ap (λ k. map g done ++ k ∷ []) (sym same)))

pub moves_none : {A B K : Type 0} (f : A → K) (g : B → K) (all : List A) → map f all ≡ map f all ++ reverse (map g [])
moves_none f g all = sym (append-nil (map f all))

-- when all were moved
pub moved_all : {A B K : Type 0} (f : A → K) (g : B → K) (all olds : List A) (done : List B) → olds ≡ [] → map f all ≡ map f olds ++ reverse (map g done) → map f all ≡ reverse (map g done)
moved_all f g all olds done o e = e ∙ ap (λ l. map f l ++ reverse (map g done)) o

pub mirrored : {A : Type 0} (xs ys : List A) → xs ≡ reverse ys → ys ≡ reverse xs
mirrored xs ys e = sym (reverse_twice ys) ∙ ap reverse (sym e)

pub last_unused : (owners news : List OwnerView) (o : OwnerView) → owners ≡ news ++ o ∷ [] → AreUnused owners → IsUnused o.hand × AreUnused news
last_unused owners news o e u = (u (length news) o (ap (λ (l : List OwnerView). slice_get l (length news)) e ∙ get_last news o), λ d x there. u d x (ap (λ (l : List OwnerView). slice_get l d) e ∙ get_in_front news (o ∷ []) d x there))

pub last_stole_nothing : (bands news : List (List ThiefView)) (mine : List ThiefView) → bands ≡ news ++ mine ∷ [] → ((h : Task → ℕ) → weight (taken_by_thief h) (all_thieves bands) ≡ 0) → (h : Task → ℕ) → (weight (taken_by_thief h) mine ≡ 0) × (weight (taken_by_thief h) (all_thieves news) ≡ 0)
last_stole_nothing bands news mine e z h = let q = ap (weight (taken_by_thief h)) (all_last news bands mine e) in let s = weight_append (taken_by_thief h) (all_thieves news) mine in let y = z h in (omega (arith, q, s, y), omega (arith, q, s, y))

-- a slice that is given back as it was
pub given_back : {A : Type 0} (xs ys : List A) (n : ℕ) → n ≡ length xs → ys ≡ xs → take n (ys ++ drop (length ys) xs) ≡ xs
given_back xs ys n e h = ap (λ k. take k (ys ++ drop (length ys) xs)) e ∙ (ap (λ zs. take (length xs) (zs ++ drop (length zs) xs)) h ∙ take-append_seam xs (drop (length xs) xs))

pub nothing_fits : (s : Setting) → AllFit s []
nothing_fits s k d l = absurd (omega arith)
