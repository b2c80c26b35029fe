-- A polynomial adds what the sum adds that it is gathered from.
use Rattle.std.proofs.Common.{ℕ}
use Rattle.ca_sums.specs.Sums.{Sum, AddsSum, total}
use Rattle.ca_sums.proofs.Algebra.{alike_refl, alike_trans, alike_add, alike_mul}
use Rattle.ca_forms.specs.Plain.{PlainMonomial}
use Rattle.ca_forms.specs.Lists.{products_of}
use Rattle.ca_forms.specs.Rules.{gathered}
use Rattle.ca_forms.proofs.Gathered.{gathered_same_totals}

pub adds_own : (a b : Sum PlainMonomial) (k : ℕ) (ps : Sum PlainMonomial) → AddsSum a b k (products_of (gathered ps)) → AddsSum a b k ps
adds_own a b k ps h = record { added = λ f. alike_trans (h.added f) (alike_add (alike_refl (total f a)) (alike_mul (alike_refl k) ((gathered_same_totals ps).same f))) }
