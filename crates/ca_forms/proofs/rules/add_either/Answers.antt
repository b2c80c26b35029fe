use Rattle.std.proofs.Common.{◌*◌, ◌-◌, ◌%◌, ◌^◌, ◌++◌}
use Rattle.ca_sums.specs.Sums.{Sum, AddsSum}
use Rattle.ca_sums.specs.Products.{product}
use Rattle.ca_sums.proofs.Additions.{adds_both}
use Rattle.ca_forms.specs.Plain.{PlainMonomial}
use Rattle.ca_forms.specs.Lists.{products_of}
use Rattle.ca_forms.specs.Products.{times}
use Rattle.ca_forms.specs.Rules.{minus, either}
use Rattle.ca_forms.proofs.Gathered.{adds_scaled}
use Rattle.ca_forms.proofs.Told.{chained}
use Rattle.ca_forms.proofs.rules.add_either.Goals as goal

pub returns-clause-added : goal.returns-clause-added
returns-clause-added c =
    let old = c.args.form.now.entries in
    let first = c.add_polynomial-first.new.form.entries in
    let second = c.add_polynomial.new.form.entries in
    let end = c.add_product_of.new.form.entries in
    let k = c.args.factor in
    let a : Sum PlainMonomial = products_of c.args.f.now in
    let b : Sum PlainMonomial = products_of c.args.g.now in
    let ab : Sum PlainMonomial = product times a b in
    let P : Type 0 = AddsSum old first k a in
    let Q : Type 0 = AddsSum first second k b in
    let R : Type 0 = AddsSum second end ((k * (2 ^ 64 - 1)) % (2 ^ 64)) ab in
    let two = chained c.add_polynomial-first.result c.add_polynomial.result c.and-second.result P Q (P × Q) (λ p q. (p, q)) c.add_polynomial-first.ensures.added c.add_polynomial.ensures.added c.and-second.ensures in
    chained c.and-second.result c.add_product_of.result c.and.result (P × Q) R (AddsSum old end k (either a b))
    (λ p q. adds_both old first end k a (b ++ minus ab) p.0 (adds_both first second end k b (minus ab) p.1 (adds_scaled second end k (2 ^ 64 - 1) ab q))) two c.add_product_of.ensures.added c.and.ensures
