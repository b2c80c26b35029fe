-- Where a row of a span stands among rows, or is to stand.
use Rattle.std.specs.Prelude.{◌≡◌, ◌≤◌, ◌<◌, ◌++◌, suc, length, take, drop, Bool, true, false}
use Rattle.ca_forms.specs.Plain.{PlainPolynomial, no_products, product_and}
use Rattle.ca_forms.specs.Arrays.{PlainSpan, PlainRows}
use Rattle.ca_forms.specs.ArrayRules.{row_if, row_at, joined_rows, put_row}
use Rattle.ca_forms.specs.declared.array_rules.Place.{Place}
use Rattle.ca_forms.specs.declared.array_rules.Place.TheVariants.{At, Before}

abbrev pub IsPlace : Place → PlainSpan → PlainRows → Type 0
IsPlace (At p) i rs = (p < length rs) × ((f : PlainPolynomial) → put_row i f rs ≡ take p rs ++ row_if i (joined_rows (row_at rs p) f) (drop (suc p) rs))
IsPlace (Before p) i rs = (p ≤ length rs) × ((f : PlainPolynomial) → put_row i f rs ≡ take p rs ++ row_if i f (drop p rs))

abbrev pub is_nothing : PlainPolynomial → Bool
is_nothing no_products = true
is_nothing (product_and m c f) = false
