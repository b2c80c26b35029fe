-- The demands of groups that were joined, and how many they are.
use Rattle.std.proofs.Common.{◌≡◌, ◌+◌, List, [], ◌∷◌, ◌++◌, length, map, sym, refl, ap, ◌∙◌, append_assoc, length-append}
use Rattle.std.proofs.lemmas.List.{length-map}
use Rattle.ca_symbolic.specs.declared.demand.Group.{Group}
use Rattle.ca_symbolic.specs.Demanded.{demand_of, demands_of}

pub demands_append : (xs ys : List Group) → demands_of (xs ++ ys) ≡ demands_of xs ++ demands_of ys
demands_append [] ys = refl
demands_append (x ∷ xs) ys =
    ap (λ ds. map (demand_of x.guard) x.items.items ++ ds) (demands_append xs ys) ∙ sym (append_assoc (map (demand_of x.guard) x.items.items) (demands_of xs) (demands_of ys))

pub counted : (g : Group) (rest : List Group) → length (demands_of (g ∷ rest)) ≡ length g.items.items + length (demands_of rest)
counted g rest =
    length-append (map (demand_of g.guard) g.items.items) (demands_of rest) ∙ ap (λ n. n + length (demands_of rest)) (length-map g.items.items (demand_of g.guard))
