use Rattle.std.proofs.Common.{arith, ◌≡◌, ℕ, ◌≤◌, ◌⊎◌, inl, inr, List, ◌++◌, Ok, length, drop, refl, ◌∙◌}
use Rattle.ca_forms.specs.Plain.{PlainPart}
use Rattle.ca_forms.specs.Products.{merge}
use Rattle.ca_forms.proofs.Told.{chained, finished}
use Rattle.ca_forms.proofs.Merging.{next_took, merge_end}
use Rattle.ca_forms.proofs.products.merged.Goals.{then-loop-i-test+else-j-b, else-loop-i-test}
use Rattle.ca_forms.proofs.products.merged.Goals as goal

pub loop-i-smaller : goal.loop-i-smaller
loop-i-smaller c = omega (arith, c.next-power.ensures.1, c.next-power.ensures.2, c.next-power.ensures.3, c.loop-i.invariant.0, c.loop-i.invariant.1)

pub loop-i-preserved : goal.loop-i-preserved
loop-i-preserved c =
    let xs : List (PlainPart × ℕ) = c.args.a.now in
    let ys : List (PlainPart × ℕ) = c.args.b.now in
    let whole : List (PlainPart × ℕ) = merge (drop c.loop-i.i xs) (drop c.loop-i.j ys) in
    let rest : List (PlainPart × ℕ) = merge (drop c.next-power.result.1 xs) (drop c.next-power.result.2 ys) in
    (c.next-power.ensures.1, c.next-power.ensures.2, next_took c.next-power.result.0 c.loop-i.powers.items c.add.new.items.items rest whole (merge xs ys) c.next-power.ensures.0 c.in_ok-add.ensures c.loop-i.invariant.2)

pub returns : goal.returns
returns c =
    let xs : List (PlainPart × ℕ) = c.args.a.now in
    let ys : List (PlainPart × ℕ) = c.args.b.now in
    let ps : List (PlainPart × ℕ) = c.loop-i.powers.items in
    let mid : List (PlainPart × ℕ) = c.add_powers-first.new.powers.items in
    let end : List (PlainPart × ℕ) = c.add_powers.new.powers.items in
    let over : (length xs ≤ c.loop-i.i) ⊎ (length ys ≤ c.loop-i.j) = elim c.loop-i-test.branch [ then-loop-i-test+else-j-b w ↦ inr w.if-j-b.false | else-loop-i-test w ↦ inl w.loop-i-test.false ] in
    let all = chained c.add_powers-first.result c.add_powers.result c.and-both.result (mid ≡ ps ++ drop c.loop-i.i xs) (end ≡ mid ++ drop c.loop-i.j ys) (end ≡ merge xs ys) (λ p q. merge_end xs ys ps mid end (merge xs ys) c.loop-i.i c.loop-i.j over p q c.loop-i.invariant.2) c.add_powers-first.ensures c.add_powers.ensures c.and-both.ensures in
    finished c.and-both.result (Ok c.add_powers.new.powers) c.and.result (end ≡ merge xs ys) (λ v. v.items ≡ end) (λ v. v.items ≡ merge xs ys) (λ p v q. q ∙ p) all refl c.and.ensures
