-- How often something is demanded, summed from the left, and where that is too heavy.
use Rattle.std.proofs.Common.{◌≡◌, ℕ, ◌+◌, ◌<◌, ◌≤◌, pos, Bool, true, false, List, [], ◌∷◌, ◌++◌, length, map, drop, Option, Some, None, Result, Ok, Err, refl, sym, ap, ◌∙◌, arith, subst, slice_index_or, is_eq}
use Rattle.std.specs.Prelude.{◌==◌, IfOk, IfSome, IfNone, if◌then◌else◌}
use Rattle.std.proofs.lemmas.List.{at_drop_more, drop_all}
use Rattle.ca_norm.specs.Terms.{PlainTerm, number, add}
use Rattle.ca_shared_terms.specs.Heavy.{is_heavy}
use Rattle.ca_shared_terms.specs.declared.errors.ExecutionError.{ExecutionError}
use Rattle.ca_shared_terms.specs.declared.errors.ExecutionError.TheVariants.{Large}
use Rattle.ca_shared_terms.proofs.Heavier.{add_left, add_right}
use Rattle.ca_symbolic.specs.declared.demand.Group.{Group}
use Rattle.ca_symbolic.specs.States.{PlainDemand}
use Rattle.ca_symbolic.specs.Demanded.{demand_of, demands_of}
use Rattle.ca_verdicts.specs.Keys.{Key, key_of, key_cmp}
use Rattle.ca_verdicts.specs.Counts.{counted, conditions_of, counted_onto, count_of}

-- What a maker tells, or that the term is too heavy.
module _ {E : Type 0} (r : Result (Option PlainTerm) E) (m : Result PlainTerm ExecutionError) (x : PlainTerm) where
  pub light_made : IfOk r (λ o. IfSome o (λ t. m ≡ Ok t)) → IfOk m (λ t. t ≡ x) → IfOk r (λ o. IfSome o (λ t. t ≡ x))
  light_made e f = by r e
    where
      by : (r : Result (Option PlainTerm) E) → IfOk r (λ o. IfSome o (λ t. m ≡ Ok t)) → IfOk r (λ o. IfSome o (λ t. t ≡ x))
      by (Ok (Some t)) g = subst (λ z. IfOk z (λ t. t ≡ x)) g f
      by (Ok None) g = tt
      by (Err z) g = tt

  pub light_light : IfOk r (λ o. IfSome o (λ t. m ≡ Ok t)) → IfOk m (λ t. t ≡ x) → IfOk m (λ _. is_heavy x ≡ false) → IfOk r (λ o. IfSome o (λ t. is_heavy t ≡ false))
  light_light e f l = by r e
    where
      by : (r : Result (Option PlainTerm) E) → IfOk r (λ o. IfSome o (λ t. m ≡ Ok t)) → IfOk r (λ o. IfSome o (λ t. is_heavy t ≡ false))
      by (Ok (Some t)) g = ap is_heavy (subst (λ z. IfOk z (λ t. t ≡ x)) g f) ∙ subst (λ z. IfOk z (λ _. is_heavy x ≡ false)) g l
      by (Ok None) g = tt
      by (Err z) g = tt

  pub light_heavy : IfOk r (λ o. IfNone o (m ≡ Err Large)) → (m ≡ Err Large → is_heavy x ≡ true) → IfOk r (λ o. IfNone o (is_heavy x ≡ true))
  light_heavy e f = by r e
    where
      by : (r : Result (Option PlainTerm) E) → IfOk r (λ o. IfNone o (m ≡ Err Large)) → IfOk r (λ o. IfNone o (is_heavy x ≡ true))
      by (Ok (Some t)) g = tt
      by (Ok None) g = f g
      by (Err z) g = tt

-- a sum is no lighter than what it begins with
pub onto_heavy : (t : PlainTerm) (cs : List PlainTerm) → is_heavy t ≡ true → is_heavy (counted_onto t cs) ≡ true
onto_heavy t [] h = h
onto_heavy t (c ∷ cs) h = onto_heavy (add t (counted c)) cs (add_left t (counted c) h)

pub one_heavy : (t c : PlainTerm) → is_heavy (counted c) ≡ true → is_heavy (add t (counted c)) ≡ true
one_heavy t c h = add_right t (counted c) h

-- one condition more
pub one_onto : (t : PlainTerm) (cs : List PlainTerm) (i : ℕ) (c : PlainTerm) → i < length cs → c ≡ slice_index_or cs i c → counted_onto t (drop i cs) ≡ counted_onto (add t (counted c)) (drop (i + 1) cs)
one_onto t cs i c l e = at_drop_more (λ zs. counted_onto t zs) cs i c l ∙ ap (λ (z : PlainTerm). counted_onto t (z ∷ drop (i + 1) cs)) (sym e)

pub no_more : (t : PlainTerm) (cs : List PlainTerm) (i : ℕ) → length cs ≤ i → counted_onto t (drop i cs) ≡ t
no_more t cs i l = ap (counted_onto t) (drop_all i cs l)

pub some_there : (cs : List PlainTerm) → (length cs == 0) ≡ false → 0 < length cs
some_there [] e = let z : true ≡ false = e in absurd cc
some_there (c ∷ cs) e = omega arith

-- the first condition, and the others
pub from_first : (cs : List PlainTerm) (c : PlainTerm) → 0 < length cs → c ≡ slice_index_or cs 0 c → count_of cs ≡ counted_onto (counted c) (drop 1 cs)
from_first [] c l e = absurd (omega (arith, l))
from_first (d ∷ cs) c l e = ap (λ z. counted_onto (counted z) cs) (sym e)

pub none_counted : (cs : List PlainTerm) → length cs ≡ 0 → count_of cs ≡ number (pos 0)
none_counted [] e = refl
none_counted (c ∷ cs) e = absurd (omega (arith, e))

-- Conditions of the demands that have a key

pub conditions_of_both : (k : Key) (ds es : List PlainDemand) → conditions_of k (ds ++ es) ≡ conditions_of k ds ++ conditions_of k es
conditions_of_both k [] es = refl
conditions_of_both k (d ∷ ds) es = by (is_eq (key_cmp k (key_of d))) (conditions_of_both k ds es)
  where
    by : (b : Bool) → conditions_of k (ds ++ es) ≡ conditions_of k ds ++ conditions_of k es →
        (if b then d.guard ∷ conditions_of k (ds ++ es) else conditions_of k (ds ++ es)) ≡ (if b then d.guard ∷ conditions_of k ds else conditions_of k ds) ++ conditions_of k es
    by true h = ap (λ zs. d.guard ∷ zs) h
    by false h = h

-- the rest of the groups behind one of them
pub groups_step : (k : Key) (gs : List Group) (i : ℕ) (g : Group) → i < length gs → g ≡ slice_index_or gs i g →
    conditions_of k (demands_of (drop i gs)) ≡ conditions_of k (map (demand_of g.guard) g.items.items) ++ conditions_of k (demands_of (drop (i + 1) gs))
groups_step k gs i g l e =
    at_drop_more (λ zs. conditions_of k (demands_of zs)) gs i g l
    ∙ ap (λ (z : Group). conditions_of k (demands_of (z ∷ drop (i + 1) gs))) (sym e)
    ∙ conditions_of_both k (map (demand_of g.guard) g.items.items) (demands_of (drop (i + 1) gs))
