-- Lines that are put together part by part.
use Rattle.std.proofs.Common.{◌≡◌, ℕ, zero, suc, ◌+◌, ◌<◌, List, [], ◌∷◌, ◌++◌, length, take, drop, get_or, Option, refl, ap, sym, ◌∙◌, subst, arith, append_assoc, add-one}
use Rattle.std.proofs.lemmas.List.{append-nil}
use Rattle.std.specs.Borrow.{Bor}
use Rattle.ca_base.specs.Devices.{Began}
use Rattle.ca_base.proofs.Writing.{began_more}
use Rattle.ca_model.specs.Lines.{Went}
use Rattle.ca_model.proofs.Lines.{went_after, began_in}
use Rattle.ca_model.specs.Lines.{joined}

-- the parts through i are those before it, and then it
joined_through : (ps : List (Bor (List ℕ))) (i : ℕ) (d : Bor (List ℕ)) → i < length ps → joined (take (suc i) ps) ≡ joined (take i ps) ++ (get_or ps i d).now
joined_through [] i d lt = absurd (omega arith)
joined_through (p ∷ ps) zero d lt = append-nil p.now
joined_through (p ∷ ps) (suc i) d lt = ap (λ t. p.now ++ t) (joined_through ps i d (omega arith)) ∙ sym (append_assoc p.now (joined (take i ps)) _)

-- all parts are those through i and the rest
joined_rest : (ps : List (Bor (List ℕ))) (i : ℕ) → joined ps ≡ joined (take i ps) ++ joined (drop i ps)
joined_rest [] zero = refl
joined_rest [] (suc i) = refl
joined_rest (p ∷ ps) zero = refl
joined_rest (p ∷ ps) (suc i) = ap (λ t. p.now ++ t) (joined_rest ps i) ∙ sym (append_assoc p.now _ _)

-- one part more went to what is to be written
pub part_went : (old mid now : Option (List ℕ)) (pending : List ℕ) (ps : List (Bor (List ℕ))) (i : ℕ) (d : Bor (List ℕ)) (left last : List ℕ) → i < length ps
    → Went old mid (pending ++ joined (take i ps)) left → Went mid now (left ++ (get_or ps i d).now) last → Went old now (pending ++ joined (take (i + 1) ps)) last
part_went old mid now pending ps i d left last lt v w =
    let P : List ℕ → Type 0 = λ t. Went old now (pending ++ t) last in
    rw add-one (subst P (sym (joined_through ps i d lt)) (went_after old mid now pending (joined (take i ps)) left _ last v w))

-- one part more did not, so the text has begun at most
pub part_began : (old mid now : Option (List ℕ)) (pending : List ℕ) (ps : List (Bor (List ℕ))) (i : ℕ) (d : Bor (List ℕ)) (left : List ℕ) → i < length ps
    → Went old mid (pending ++ joined (take i ps)) left → Began mid now (left ++ (get_or ps i d).now) → Began old now (pending ++ joined ps)
part_began old mid now pending ps i d left lt v b =
    let P : List ℕ → Type 0 = λ t. Began old now t in
    let through : Began old now (pending ++ (joined (take i ps) ++ (get_or ps i d).now)) = began_in old mid now pending (joined (take i ps)) left _ v b in
    let all : (pending ++ (joined (take i ps) ++ (get_or ps i d).now)) ++ joined (drop (suc i) ps) ≡ pending ++ joined ps =
    append_assoc pending _ _ ∙ ap (λ t. pending ++ t) (sym (joined_rest ps (suc i) ∙ ap (λ t. t ++ joined (drop (suc i) ps)) (joined_through ps i d lt))) in
    subst P all (began_more old now _ (joined (drop (suc i) ps)) through)
