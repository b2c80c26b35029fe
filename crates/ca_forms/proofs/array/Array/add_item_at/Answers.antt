use Rattle.std.proofs.Common.{◌≡◌, sym, ap, ◌∙◌, subst}
use Rattle.std.specs.Prelude.{OnOk}
use Rattle.ca_sums.specs.Sums.{AddsSum}
use Rattle.ca_forms.specs.Plain.{PlainPart}
use Rattle.ca_forms.specs.Rules.{alone}
use Rattle.ca_forms.specs.Arrays.{PlainArray, own_items}
use Rattle.ca_forms.specs.ArraysSeen.{array_of}
use Rattle.ca_forms.specs.ArrayRules.{selected}
use Rattle.ca_forms.proofs.array.Array.add_item_at.Goals as goal

pub returns-in-Items-clause-added : goal.returns-in-Items-clause-added
returns-in-Items-clause-added c =
    let old = c.args.form.now.entries in
    let new = c.add_part.new.form.entries in
    let is : own_items c.in-Items.s c.in-Items.g c.in-Items.n ≡ c.args.self.now = ap array_of (sym c.in-Items.is) ∙ c.self.view_is in
    subst (λ (z : PlainArray). OnOk c.add_part.result (AddsSum old new c.args.factor (selected z c.args.index))) is
    (subst (λ (p : PlainPart). OnOk c.add_part.result (AddsSum old new c.args.factor (alone p))) c.own_item-part.ensures c.add_part.ensures.added)
