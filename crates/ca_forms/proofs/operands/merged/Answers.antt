use Rattle.std.proofs.Common.{◌≡◌, ◌++◌, [], List, ◌⊎◌, inl, inr, Ok, reverse, arith, refl, ap, ap₂, ◌∙◌}
use Rattle.std.proofs.lemmas.List.{reverse-reverse}
use Rattle.ca_folds.specs.Operators.{cancels}
use Rattle.ca_folds.specs.Operands.{merge}
use Rattle.ca_forms.specs.Plain.{PlainScalar}
use Rattle.ca_forms.specs.Compare.{scalar_cmp}
use Rattle.ca_forms.proofs.Told.{chained, finished}
use Rattle.ca_forms.proofs.Folding.{nothing, merge_over}
use Rattle.ca_forms.proofs.operands.merged.Goals.{then-loop-ys-test+else-len-gt0, else-loop-ys-test}
use Rattle.ca_forms.proofs.operands.merged.Goals as goal

pub loop-ys-init : goal.loop-ys-init
loop-ys-init c =
    ap (λ z. z ++ merge (cancels c.args.op) scalar_cmp (reverse c.reverse.new.self.items) (reverse c.reverse-2.new.self.items)) c.new-all.ensures.items
    ∙ ap₂ (merge (cancels c.args.op) scalar_cmp) (ap reverse c.reverse.ensures.items ∙ reverse-reverse c.args.first.items) (ap reverse c.reverse-2.ensures.items ∙ reverse-reverse c.args.second.items)

pub returns : goal.returns
returns c =
    let xs : List PlainScalar = c.loop-ys.xs.items in
    let ys : List PlainScalar = c.loop-ys.ys.items in
    let ps : List PlainScalar = c.loop-ys.all.items in
    let mid : List PlainScalar = c.move_all-one.new.all.items in
    let end : List PlainScalar = c.move_all.new.all.items in
    let whole : List PlainScalar = merge (cancels c.args.op) scalar_cmp c.args.first.items c.args.second.items in
    let over : (xs ≡ []) ⊎ (ys ≡ []) = elim c.loop-ys-test.branch [ then-loop-ys-test+else-len-gt0 w ↦ inr (nothing ys w.len-in-loop-ys.result (omega (arith, w.if-len-gt0.false)) (w.len-in-loop-ys.ensures ∙ c.loop-ys.ys.ok.0)) | else-loop-ys-test w ↦ inl (nothing xs c.len.result (omega (arith, w.loop-ys-test.false)) (c.len.ensures ∙ c.loop-ys.xs.ok.0)) ] in
    let all = chained c.move_all-one.result c.move_all.result c.and-both.result (mid ≡ ps ++ reverse xs) (end ≡ mid ++ reverse ys) (end ≡ whole) (λ p q. merge_over (cancels c.args.op) scalar_cmp xs ys ps mid end whole over p q c.loop-ys.invariant) c.move_all-one.ensures c.move_all.ensures c.and-both.ensures in
    finished c.and-both.result (Ok c.move_all.new.all) c.and.result (end ≡ whole) (λ v. v.items ≡ end) (λ v. v.items ≡ whole) (λ p v q. q ∙ p) all refl c.and.ensures
