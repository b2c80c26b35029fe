-- A walk over a list of parameters, members or classes.
use Rattle.std.proofs.Common.{◌≡◌, ℕ, ◌+◌, ◌<◌, ◌≤◌, List, [], ◌∷◌, map, drop, length, get_or, refl, sym, ◌∙◌, ap}
use Rattle.std.proofs.lemmas.List.{drop_all}
use Rattle.ca_lists.proofs.Places.{item_and_rest}
use Rattle.ca_resolve.specs.Judged.{Judged}
use Rattle.ca_types.specs.Classes.{walked}
use Rattle.ca_types.specs.clauses.Adding.{gathered}

pub next_item : {X Y : Type 0} (view : X → Y) (xs : List X) (i : ℕ) (x : X) → i < length xs → x ≡ get_or xs i x → map view (drop i xs) ≡ view x ∷ map view (drop (i + 1) xs)
next_item view xs i x h e = ap (map view) (item_and_rest xs i x h e)

-- the items of a list from i on, behind others that gave `front`, are all that is left of the whole
pub record Rest {S T A : Type 0} (next : S → T → S) (add : S → Judged A → T → Judged A) (s0 : S) (front0 : Judged A) (all : List T) (s : S) (front : Judged A) (rest : List T) : Type 0 where
  pub judged : gathered next add s0 front0 all ≡ gathered next add s front rest
  pub standing : walked next s0 all ≡ walked next s rest

pub rest_start : {S T A : Type 0} (next : S → T → S) (add : S → Judged A → T → Judged A) (s : S) (front : Judged A) (all : List T) → Rest next add s front all s front all
rest_start next add s front all = record { judged = refl; standing = refl }

pub rest_step : {S T A : Type 0} (next : S → T → S) (add : S → Judged A → T → Judged A) (s0 s s' : S) (front0 front : Judged A) (all : List T) (x : T) (xs rest : List T)
    → xs ≡ x ∷ rest → s' ≡ next s x → Rest next add s0 front0 all s front xs → Rest next add s0 front0 all s' (add s front x) rest
rest_step next add s0 s s' front0 front all x xs rest e b r = record {
  judged = r.judged ∙ (ap (gathered next add s front) e ∙ ap (λ z. gathered next add z (add s front x) rest) (sym b));
  standing = r.standing ∙ (ap (walked next s) e ∙ ap (λ z. walked next z rest) (sym b));
}

pub rest_end : {S T A : Type 0} (next : S → T → S) (add : S → Judged A → T → Judged A) (s0 s : S) (front0 front : Judged A) (all xs : List T) → xs ≡ [] → Rest next add s0 front0 all s front xs
    → (gathered next add s0 front0 all ≡ front) × (walked next s0 all ≡ s)
rest_end next add s0 s front0 front all xs e r = (r.judged ∙ ap (gathered next add s front) e, r.standing ∙ ap (walked next s) e)

pub none_left : {X Y : Type 0} (view : X → Y) (xs : List X) (i : ℕ) → length xs ≤ i → map view (drop i xs) ≡ []
none_left view xs i h = ap (map view) (drop_all i xs h)
