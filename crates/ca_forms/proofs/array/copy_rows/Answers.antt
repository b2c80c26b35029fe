use Rattle.std.proofs.Common.{rules, ◌≡◌, ℕ, ◌+◌, List, [], ◌∷◌, ◌++◌, take}
use Rattle.std.proofs.lemmas.List.{take_more}
use Rattle.ca_forms.specs.Plain.{PlainPolynomial}
use Rattle.ca_forms.specs.Arrays.{PlainSpan}
use Rattle.ca_forms.proofs.Told.{copied}
use Rattle.ca_forms.proofs.array.copy_rows.Goals as goal

pub loop-row-preserved : goal.loop-row-preserved
loop-row-preserved c =
    let i : ℕ = c.loop-row.row-index in
    let xs : List (PlainSpan × PlainPolynomial) = c.args.rows.now in
    let x : PlainSpan × PlainPolynomial = c.row-item.result in
    let step : take (i + 1) xs ≡ take i xs ++ x ∷ [] = search (rules, take_more) in
    copied xs i x c.copy.result c.loop-row.copies.items c.add.new.items.items step c.loop-row.invariant c.in_ok-add.ensures c.copy.ensures
