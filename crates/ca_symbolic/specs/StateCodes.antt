-- States and demands as trees of numbers, by which proofs tell them apart.
use Rattle.std.specs.Prelude.{ℕ, zero, suc, List, ◌≡◌, refl}
use Rattle.std.specs.Coded.{Coded, code_by, coded_list, coded×, coded_ℕ}
use Rattle.ca_norm.specs.Terms.{PlainTerm}
use Rattle.ca_shared_terms.specs.Codes.{coded_term}
use Rattle.ca_symbolic.specs.States.{State, DemandKind, not_null, in_range, calls, invokes, loops, sweeps, PlainDemand}
use Rattle.ca_symbolic.specs.Demanded.{Demanded}

abbrev pub coded_state : Coded State
coded_state =
    code_by (List PlainTerm × List PlainTerm) (coded× (coded_list coded_term) (coded_list coded_term)) (λ s. (s.fields, s.locals))
    (λ p. record { fields = p.0; locals = p.1 }) (λ _. refl)

abbrev pub kind_numbers : DemandKind → ℕ × (ℕ × ℕ)
kind_numbers not_null = (0, (0, 0))
kind_numbers (in_range f) = (1, (f.class.0, f.field))
kind_numbers (calls m) = (2, (m.0, 0))
kind_numbers (invokes op) = (3, (op.0, 0))
kind_numbers (loops site) = (4, (site.0, 0))
kind_numbers (sweeps f) = (5, (f.class.0, f.field))

abbrev pub kind_by : ℕ → ℕ → ℕ → DemandKind
kind_by zero m n = not_null
kind_by (suc zero) m n = in_range (record { class = record { 0 = m }; field = n })
kind_by (suc (suc zero)) m n = calls (record { 0 = m })
kind_by (suc (suc (suc zero))) m n = invokes (record { 0 = m })
kind_by (suc (suc (suc (suc zero)))) m n = loops (record { 0 = m })
kind_by (suc (suc (suc (suc (suc k))))) m n = sweeps (record { class = record { 0 = m }; field = n })

abbrev pub kind_from : ℕ × (ℕ × ℕ) → DemandKind
kind_from p = kind_by p.0 p.1.0 p.1.1

pub kind_back : (k : DemandKind) → kind_from (kind_numbers k) ≡ k
kind_back not_null = refl
kind_back (in_range f) = refl
kind_back (calls m) = refl
kind_back (invokes op) = refl
kind_back (loops site) = refl
kind_back (sweeps f) = refl

abbrev pub coded_kind : Coded DemandKind
coded_kind = code_by (ℕ × (ℕ × ℕ)) (coded× coded_ℕ (coded× coded_ℕ coded_ℕ)) kind_numbers kind_from kind_back

abbrev pub coded_demand : Coded PlainDemand
coded_demand =
    code_by (PlainTerm × (DemandKind × List PlainTerm)) (coded× coded_term (coded× coded_kind (coded_list coded_term))) (λ d. (d.guard, (d.kind, d.parts)))
    (λ p. record { guard = p.0; kind = p.1.0; parts = p.1.1 }) (λ _. refl)

abbrev pub coded_demanded : Coded Demanded
coded_demanded =
    code_by (PlainTerm × List PlainDemand) (coded× coded_term (coded_list coded_demand)) (λ d. (d.guard, d.list))
    (λ p. record { guard = p.0; list = p.1 }) (λ _. refl)
