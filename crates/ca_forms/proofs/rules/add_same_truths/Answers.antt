use Rattle.std.proofs.Common.{◌*◌, ◌-◌, ◌%◌, ◌^◌, ◌++◌, true}
use Rattle.ca_sums.specs.Sums.{Sum, AddsSum, scale}
use Rattle.ca_sums.specs.Products.{product}
use Rattle.ca_sums.proofs.Additions.{adds_both}
use Rattle.ca_forms.specs.Plain.{PlainMonomial}
use Rattle.ca_forms.specs.Lists.{products_of}
use Rattle.ca_forms.specs.Products.{times}
use Rattle.ca_forms.specs.Rules.{minus, truth_sum, same_truths}
use Rattle.ca_forms.proofs.Gathered.{adds_scaled}
use Rattle.ca_forms.proofs.Told.{chained}
use Rattle.ca_forms.proofs.rules.add_same_truths.Goals as goal

pub returns-clause-added : goal.returns-clause-added
returns-clause-added c =
    let old = c.args.form.now.entries in
    let one = c.add_truth-one.new.form.entries in
    let first = c.add_polynomial.new.form.entries in
    let second = c.add_polynomial-2.new.form.entries in
    let end = c.add_product_of.new.form.entries in
    let k = c.args.factor in
    let a : Sum PlainMonomial = products_of c.args.f.now in
    let b : Sum PlainMonomial = products_of c.args.g.now in
    let ab : Sum PlainMonomial = product times a b in
    let P : Type 0 = AddsSum old one k (truth_sum true) in
    let Q : Type 0 = AddsSum one first ((k * (2 ^ 64 - 1)) % (2 ^ 64)) a in
    let R : Type 0 = AddsSum first second ((k * (2 ^ 64 - 1)) % (2 ^ 64)) b in
    let S : Type 0 = AddsSum second end ((k * 2) % (2 ^ 64)) ab in
    let two = chained c.add_truth-one.result c.add_polynomial.result c.and-first.result P Q (P × Q) (λ p q. (p, q)) c.add_truth-one.ensures.added c.add_polynomial.ensures.added c.and-first.ensures in
    let three = chained c.and-first.result c.add_polynomial-2.result c.and-second.result (P × Q) R ((P × Q) × R) (λ p q. (p, q)) two c.add_polynomial-2.ensures.added c.and-second.ensures in
    chained c.and-second.result c.add_product_of.result c.and.result ((P × Q) × R) S (AddsSum old end k (same_truths a b))
    (λ p q. adds_both old one end k (truth_sum true) (minus a ++ (minus b ++ scale 2 ab)) p.0.0 (adds_both one first end k (minus a) (minus b ++ scale 2 ab) (adds_scaled one first k (2 ^ 64 - 1) a p.0.1) (adds_both first second end k (minus b) (scale 2 ab) (adds_scaled first second k (2 ^ 64 - 1) b p.1) (adds_scaled second end k 2 ab q))))
    three c.add_product_of.ensures.added c.and.ensures
