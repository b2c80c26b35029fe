-- What symbolic execution says of the section of an operation.
use Rattle.std.proofs.Common.{◌≡◌, ℕ, ◌-◌, Bool, true, false, List, Option, Some, None, refl, ap, arith}
use Rattle.std.specs.Prelude.{nat_le}
use Rattle.std.proofs.lemmas.Bool.Decides.{nat_tests}
use Rattle.ca_program.specs.declared.program.ClassId.{ClassId}
use Rattle.ca_model.specs.declared.value.Value.{Value as Datum}
use Rattle.ca_meaning.specs.Flows.{Flow, goes_on, gives_back, stops, runs_out}
use Rattle.ca_meaning.specs.Sections.{Section, Outcome, sectioned}
use Rattle.ca_symbolic_laws.specs.Costs.{left_if, left, with_left, state_of, outcome_of, if_within, within}

-- what a section leaves that goes on with so much of its budget
abbrev pub outcome_at : ClassId → ℕ → Option ((List Datum × Section) × ℕ) → Option Outcome
outcome_at c budget None = None
outcome_at c budget (Some r) = Some record { object = record { class = c; slots = r.0.1.own }; listed = r.0.1.listed; steps = budget - r.1 }

pub sectioned_is : (t : ℕ → Bool) (c : ClassId) (budget : ℕ) (f : Flow Section) → outcome_of (sectioned c budget f) ≡ outcome_at c budget (state_of t f)
sectioned_is t c budget (goes_on ls q k) = refl
sectioned_is t c budget (gives_back d q k) = refl
sectioned_is t c budget (stops e q) = refl
sectioned_is t c budget (runs_out q) = refl

taken : (n k : ℕ) → nat_le n k ≡ true → k - (k - n) ≡ n
taken n k e = grind (arith, nat_tests)

-- the section is complete where the cost is within the budget
pub outcome_is : (c : ClassId) (w : List Datum × Section) (e : Option ℕ) (k : ℕ) → outcome_at c k (with_left w (left e k)) ≡ within e k (λ n. record { object = record { class = c; slots = w.1.own }; listed = w.1.listed; steps = n })
outcome_is c w None k = refl
outcome_is c w (Some n) k = at (nat_le n k) refl
  where
    at : (b : Bool) → nat_le n k ≡ b → outcome_at c k (with_left w (left_if b (k - n))) ≡ if_within b (Some (record { object = record { class = c; slots = w.1.own }; listed = w.1.listed; steps = n }))
    at true q = ap (λ z. Some record { object = record { class = c; slots = w.1.own }; listed = w.1.listed; steps = z }) (taken n k q)
    at false q = refl
