use Rattle.ca_sums.specs.Sums.{Sum, AddsSum}
use Rattle.ca_sums.specs.Products.{product}
use Rattle.ca_sums.proofs.Additions.{adds_both}
use Rattle.std.proofs.Common.{OnOk, ◌++◌}
use Rattle.ca_forms.specs.Plain.{PlainMonomial}
use Rattle.ca_forms.specs.Lists.{products_of}
use Rattle.ca_forms.specs.Products.{times}
use Rattle.ca_forms.specs.Rules.{gathered, minus}
use Rattle.ca_forms.proofs.Gathered.{adds_by_gathered}
use Rattle.ca_forms.proofs.Told.{on_ok}
use Rattle.ca_forms.proofs.rules.add_chosen.Goals as goal

pub returns-clause-added : goal.returns-clause-added
returns-clause-added c =
    let old = c.args.form.now.entries in
    let mid = c.add_polynomial.new.form.entries in
    let end = c.add_product_of.new.form.entries in
    let cs : Sum PlainMonomial = products_of c.args.f.now in
    let first : Sum PlainMonomial = products_of c.args.g.now in
    let second : Sum PlainMonomial = products_of c.args.h.now in
    let raw : OnOk c.add_product_of.result (AddsSum mid end c.args.factor (product times cs (products_of (gathered (first ++ minus second))))) = rw (← c.in_ok-apart.ensures) c.add_product_of.ensures.added in
    on_ok c.add_product_of.result _ _ (λ (added : AddsSum mid end c.args.factor (product times cs (products_of (gathered (first ++ minus second))))). adds_both old mid end c.args.factor second (product times cs (first ++ minus second)) c.in_ok-add_polynomial.ensures.added (adds_by_gathered mid end c.args.factor cs (first ++ minus second) added)) raw
