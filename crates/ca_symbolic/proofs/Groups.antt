-- Groups of demands, with one more behind them.
use Rattle.std.proofs.Common.{◌≡◌, ℕ, ◌≤◌, List, [], ◌∷◌, ◌++◌, length, length-append, map, sym, ap, ap₂, ◌∙◌, arith, append_assoc, append-nil}
use Rattle.ca_norm.specs.Terms.{PlainTerm}
use Rattle.ca_symbolic.specs.declared.demand.Demand.{Demand}
use Rattle.ca_symbolic.specs.declared.demand.Group.{Group}
use Rattle.ca_symbolic.specs.Demanded.{demand_of, demands_of}

pub one_more : (xs : List Group) (x : Group) → demands_of (xs ++ x ∷ []) ≡ demands_of xs ++ map (demand_of x.guard) x.items.items
one_more [] x = append-nil (map (demand_of x.guard) x.items.items)
one_more (y ∷ xs) x =
    ap (λ ds. map (demand_of y.guard) y.items.items ++ ds) (one_more xs x)
    ∙ sym (append_assoc (map (demand_of y.guard) y.items.items) (demands_of xs) (map (demand_of x.guard) x.items.items))

pub opened : (xs ys : List Group) (x : Group) (is : List Demand) (g : PlainTerm) → ys ≡ xs ++ x ∷ [] → is ≡ [] →
    demands_of ys ++ map (demand_of g) is ≡ demands_of xs ++ map (demand_of x.guard) x.items.items
opened xs ys x is g p q =
    ap₂ (λ (zs : List Group) (ds : List Demand). demands_of zs ++ map (demand_of g) ds) p q ∙ (append-nil (demands_of (xs ++ x ∷ [])) ∙ one_more xs x)

-- a group without demands
pub none_opened : (xs : List Group) (is js : List Demand) (g h : PlainTerm) → is ≡ [] → js ≡ [] → demands_of xs ++ map (demand_of g) is ≡ demands_of xs ++ map (demand_of h) js
none_opened xs is js g h p q =
    ap (λ (ds : List Demand). demands_of xs ++ map (demand_of g) ds) p ∙ sym (ap (λ (ds : List Demand). demands_of xs ++ map (demand_of h) ds) q)

-- where the group that was open is lost, no more demands are left than there were
pub still_few : (xs ys : List Group) (is js : List Demand) (g h : PlainTerm) (n : ℕ) → ys ≡ xs → is ≡ [] → length (demands_of xs ++ map (demand_of h) js) ≤ n → length (demands_of ys ++ map (demand_of g) is) ≤ n
still_few xs ys is js g h n p q few =
    let left : demands_of ys ++ map (demand_of g) is ≡ demands_of xs =
    ap₂ (λ (zs : List Group) (ds : List Demand). demands_of zs ++ map (demand_of g) ds) p q ∙ append-nil (demands_of xs) in
    omega (arith, few, ap length left, length-append (demands_of xs) (map (demand_of h) js))
