-- What calls of value methods take within a budget. That a call never ends can't be decided, so a valuation
-- is made with a budget, and the calls that need more count as such that never end.
use Rattle.std.proofs.Common.{◌≡◌, ℕ, ◌+◌, ◌-◌, ◌≤◌, Bool, true, false, Some, None, refl, sym, ap, ap₂, ◌∙◌, arith}
use Rattle.std.specs.Prelude.{nat_le}
use Rattle.std.proofs.lemmas.Bool.Decides.{nat_tests}
use Rattle.ca_meaning.specs.Expressions.{Out, gives, traps, over}
use Rattle.ca_meaning_laws.specs.Budgets.{Taken}
use Rattle.ca_symbolic_laws.specs.Costs.{left_if, left, value_of, with_left}
use Rattle.ca_symbolic_laws.specs.Demanded.{steps_taken}

gives_same : {A : Type 0} (v w : A) (i j : ℕ) → gives v i ≡ gives w j → (v ≡ w) × (i ≡ j)
gives_same v w i j e = let a : v ≡ w = cc in let b : i ≡ j = cc in (a, b)

no_value : {A : Type 0} (o : Out A) → ((w : A) (i : ℕ) → o ≡ gives w i → ⊥) → value_of o ≡ None
no_value (gives w i) h = absurd (h w i refl)
no_value (traps t) h = refl
no_value over h = refl

pub le_of : (s k : ℕ) → nat_le s k ≡ true → s ≤ k
le_of s k e = grind (arith, nat_tests)

not_le : (s k : ℕ) → nat_le s k ≡ false → s ≤ k → ⊥
not_le s k e h = grind (arith, nat_tests)

module _ {A : Type 0} (f : ℕ → Out A) (steady : (v : A) (k j : ℕ) → f k ≡ gives v j → Taken f v k j) where
  -- what has a value with k steps has it within every greater budget
  later : (budget k : ℕ) → k ≤ budget → (w : A) (i : ℕ) → (t : Taken f w k i) → f budget ≡ gives w (budget - t.s)
  later budget k l w i t = let z : budget ≡ t.s + (budget - t.s) = omega (arith, t.is, l) in ap f z ∙ t.takes.at (budget - t.s)

  at_test : (budget k : ℕ) → k ≤ budget → (v : A) (j : ℕ) → f budget ≡ gives v j → (t : Taken f v budget j) → (b : Bool) → nat_le t.s k ≡ b → value_of (f k) ≡ with_left v (left_if b (k - t.s))
  at_test budget k l v j e t true h =
      let z : k ≡ t.s + (k - t.s) = let g : t.s ≤ k = le_of t.s k h in omega (arith, g) in ap (λ n. value_of (f n)) z ∙ ap value_of (t.takes.at (k - t.s))
  at_test budget k l v j e t false h = no_value (f k) (λ w i g.
      let u : Taken f w k i = steady w k i g in
      let same : budget - u.s ≡ j = (gives_same w v (budget - u.s) j (sym (later budget k l w i u) ∙ e)).1 in
      not_le t.s k h (omega (arith, same, t.is, u.is, l)))

  taken_cost : (budget j s : ℕ) → budget ≡ s + j → budget - j ≡ s
  taken_cost budget j s e = omega (arith, e)

  bounded_at : (budget k : ℕ) → k ≤ budget → (x : A) (o : Out A) → f budget ≡ o → ((w : A) (j : ℕ) → o ≡ gives w j → w ≡ x) → value_of (f k) ≡ with_left x (left (steps_taken budget o) k)
  bounded_at budget k l x (gives v j) e is =
      let t : Taken f v budget j = steady v budget j e in
      at_test budget k l v j e t (nat_le t.s k) refl ∙ ap₂ (λ y s. with_left y (left (Some s) k)) (is v j refl) (sym (taken_cost budget j t.s t.is))
  bounded_at budget k l x (traps t) e is = no_value (f k) (λ w i g. let d : traps t ≡ gives w (budget - (steady w k i g).s) = sym e ∙ later budget k l w i (steady w k i g) in cc)
  bounded_at budget k l x over e is = no_value (f k) (λ w i g. let d : over ≡ gives w (budget - (steady w k i g).s) = sym e ∙ later budget k l w i (steady w k i g) in cc)

  -- a steady evaluation takes its cost, as far as the budget goes, and gives x if it gives x with the whole budget
  pub bounded : (budget k : ℕ) → k ≤ budget → (x : A) → ((w : A) (j : ℕ) → f budget ≡ gives w j → w ≡ x) → value_of (f k) ≡ with_left x (left (steps_taken budget (f budget)) k)
  bounded budget k l x is = bounded_at budget k l x (f budget) refl is
