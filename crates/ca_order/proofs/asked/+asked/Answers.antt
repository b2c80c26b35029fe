use Rattle.std.proofs.Common.{◌≡◌, List, ℕ, map, sym, ap, ap₂, ◌∙◌}
use Rattle.ca_forms.proofs.Told.{on_ok}
use Rattle.ca_norm.specs.declared.term.Term.{Term}
use Rattle.ca_norm.specs.Terms.{shape, terms_of}
use Rattle.ca_norm.proofs.Shapes.{call_is}
use Rattle.ca_order.specs.Asked.{asked, all_asked}
use Rattle.ca_order.proofs.asked.+asked.Goals as goal

pub add_asked-returns-in_ok-add_asked-in-Result : goal.add_asked-returns-in_ok-add_asked-in-Result
add_asked-returns-in_ok-add_asked-in-Result t c =
    let r = c.args.places.now in
    let old : List (ℕ × ℕ) = c.args.pairs.now.items in
    let whole = ap (λ z. asked r z old) (sym (call_is c.in-Result.field-0 c.in-Result.field-1 c.in-Result.p c.in-Result.args) ∙ sym (ap shape c.in-Result.is)) in
    on_ok c.add_all.result _ _
    (λ (e : c.add_all.new.pairs.items ≡ all_asked r (terms_of (map shape c.as_slice.result.now)) c.add_asked-in-Result.new.pairs.items).
    e ∙ ap₂ (λ (z : List Term) (q : List (ℕ × ℕ)). all_asked r (terms_of (map shape z)) q) c.as_slice.ensures.value (c.in_ok-add_asked-in-Result.ensures ∙ ap (λ z. asked r (shape z) old) c.deref-in-Result.ensures) ∙ whole)
    c.add_all.ensures
