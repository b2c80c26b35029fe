use Rattle.std.proofs.Common.{◌≡◌, ℕ, ◌+◌, List, [], ◌∷◌, ◌++◌, drop}
use Rattle.ca_lists.proofs.Places.{item_and_rest}
use Rattle.ca_forms.specs.Plain.{PlainPart}
use Rattle.ca_forms.proofs.Told.{put_behind}
use Rattle.ca_forms.proofs.Merging.{took, nothing_left}
use Rattle.ca_forms.proofs.products.add_powers.Goals as goal

pub loop-i-preserved : goal.loop-i-preserved
loop-i-preserved c =
    let x : PlainPart × ℕ = c.index-list-i.result in
    let xs : List (PlainPart × ℕ) = c.args.list.now in
    let i : ℕ = c.loop-i.i in
    let old : List (PlainPart × ℕ) = c.loop-i.powers.items in
    let new : List (PlainPart × ℕ) = c.add.new.items.items in
    let step : drop i xs ≡ x ∷ drop (i + 1) xs = item_and_rest xs i x c.loop-i-test.true c.index-list-i.is in
    let more : new ≡ old ++ x ∷ [] = put_behind c.copy.result x old new c.in_ok-add.ensures c.copy.ensures in
    took old new (drop (i + 1) xs) (drop i xs) (c.args.powers.now.items ++ drop c.args.place xs) x more step c.loop-i.invariant

pub returns : goal.returns
returns c = nothing_left c.loop-i.powers.items c.args.list.now _ c.loop-i.i c.loop-i-test.false c.loop-i.invariant
