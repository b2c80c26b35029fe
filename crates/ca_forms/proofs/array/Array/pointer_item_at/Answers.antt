use Rattle.std.proofs.Common.{◌≡◌, sym, ap, ◌∙◌, subst}
use Rattle.std.specs.Prelude.{IfOk}
use Rattle.ca_forms.specs.Arrays.{PlainArray, own_items}
use Rattle.ca_forms.specs.ArraysSeen.{array_of}
use Rattle.ca_forms.specs.ArrayRules.{selected_pointer}
use Rattle.ca_forms.proofs.array.Array.pointer_item_at.Goals as goal

pub returns-in-Items : goal.returns-in-Items
returns-in-Items c =
    let is : own_items c.in-Items.s c.in-Items.g c.in-Items.n ≡ c.args.self.now = ap array_of (sym c.in-Items.is) ∙ c.self.view_is in
    subst (λ (z : PlainArray). IfOk c.own_pointer.result (λ p. p ≡ selected_pointer z c.args.index)) is c.own_pointer.ensures
