use Rattle.std.proofs.Common.{◌≡◌, codes, get_or, arith, ◌∙◌, sym, inl, inr}
use Rattle.std.proofs.lemmas.Fmt.{decimal_digit, parse-decimal}
use Rattle.std.proofs.lemmas.Slice.Eq.{bytes_eq-Decides}
use Rattle.std.specs.Int.{IsInRange}
use Rattle.ca_words.proofs.Numbers.{begins_as_number, decimal_of_parsed}
use Rattle.ca_words.proofs.number_in.Goals.{Else-eq}
use Rattle.ca_words.proofs.number_in.Goals as goal

not_zero : (c : Else-eq) → c.args.word.now ≡ codes "0" → ⊥
not_zero c zero = let same = (bytes_eq-Decides c.args.word.now (codes "0")).1 zero in let other = c.if-eq.ensures in cc

pub returns-then-eq-clause-some : goal.returns-then-eq-clause-some
returns-then-eq-clause-some c = (bytes_eq-Decides c.args.word.now (codes "0")).0 (sym c.if-eq.ensures) ∙ sym (decimal_digit 0 (omega arith))

pub returns-in-Ok-clause-some : goal.returns-in-Ok-clause-some
returns-in-Ok-clause-some c =
    let begins : IsInRange 49 57 (get_or c.as_bytes.result.now 0 0) = (omega arith, omega arith) in
    let first : IsInRange 49 57 (get_or c.args.word.now 0 0) = rw (sym c.as_bytes.ensures.value) begins in
    decimal_of_parsed _ _ c.in-Ok.number first c.parse.ensures.value.0 c.in-Ok.is

pub returns-in-Err-clause-none : goal.returns-in-Err-clause-none
returns-in-Err-clause-none c n small is =
    let read = parse-decimal 64 n _ _ small small is c.parse.ensures.value.0 in cc

pub returns-in_default-clause-none : goal.returns-in_default-clause-none
returns-in_default-clause-none c n small is =
    elim (begins_as_number c.as_bytes.result.now n small (c.as_bytes.ensures.value ∙ is)) [
      | inl digit ↦ omega (arith, digit.0, digit.1, digit.2)
      | inr zero ↦ not_zero (goal.at.returns-in_default-clause-none c).Else-eq (sym c.as_bytes.ensures.value ∙ zero)
    ]

pub returns-in_default-2-clause-none : goal.returns-in_default-2-clause-none
returns-in_default-2-clause-none c n small is =
    elim (begins_as_number c.as_bytes.result.now n small (c.as_bytes.ensures.value ∙ is)) [
      | inl digit ↦ omega (arith, digit.0, digit.1, digit.2)
      | inr zero ↦ not_zero (goal.at.returns-in_default-2-clause-none c).Else-eq (sym c.as_bytes.ensures.value ∙ zero)
    ]

pub returns-in_default-3-clause-none : goal.returns-in_default-3-clause-none
returns-in_default-3-clause-none c n small is =
    elim (begins_as_number c.as_bytes.result.now n small (c.as_bytes.ensures.value ∙ is)) [
      | inl digit ↦ omega (arith, digit.0, digit.1, digit.2)
      | inr zero ↦ not_zero (goal.at.returns-in_default-3-clause-none c).Else-eq (sym c.as_bytes.ensures.value ∙ zero)
    ]
