use Rattle.std.proofs.Common.{◌≡◌, ◌≤◌, ◌++◌, length, take, drop}
use Rattle.ca_forms.specs.Plain.{PlainPolynomial}
use Rattle.ca_forms.specs.ArrayRules.{put_row}
use Rattle.ca_forms.proofs.array_rules.place_of.Given as goal

abbrev pub invariant-loop-i : goal.invariant-loop-i
invariant-loop-i l = (l.i ≤ length l.rows) × ((f : PlainPolynomial) → put_row l.span f l.rows ≡ take l.i l.rows ++ put_row l.span f (drop l.i l.rows))
