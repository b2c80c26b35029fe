use Rattle.std.proofs.Common.{◌≡◌, ℕ, ◌+◌, List, [], ◌∷◌, ◌++◌, refl, ap, ap₂, ◌∙◌}
use Rattle.ca_forms.proofs.Told.{put_behind}
use Rattle.ca_forms.specs.declared.sort.Sort.{Sort}
use Rattle.ca_norm.specs.Terms.{PlainTerm, atom}
use Rattle.ca_shared_terms.specs.Starts.{starts, sort_of_slot}
use Rattle.ca_symbolic.proofs.Joining.{numbered_step, all_made}
use Rattle.ca_symbolic.proofs.state.SymState.starting.Goals as goal

pub loop-field-preserved : goal.loop-field-preserved
loop-field-preserved c =
    let i = c.loop-field.field-index in
    let x = c.field-item.result in
    let l = c.loop-field.invariant in
    let y = atom (sort_of_slot x.ty x.length) 3 i in
    let term : atom c.sort_of_slot.result 3 c.len.result ≡ y = ap₂ (λ (s : Sort) (n : ℕ). atom s 3 n) c.sort_of_slot.ensures (c.len.ensures ∙ (c.loop-field.terms.ok.0 ∙ l.0)) in
    numbered_step c.args.fields.now i x c.loop-field-test.true c.field-item.is c.loop-field.terms.items c.add.new.items.items (starts 0 c.args.fields.now) starts y refl
    (put_behind c.atom_at-term.result (atom c.sort_of_slot.result 3 c.len.result) c.loop-field.terms.items c.add.new.items.items c.in_ok-add.ensures c.atom_at-term.ensures ∙ ap (λ (t : PlainTerm). c.loop-field.terms.items ++ t ∷ []) term) l

pub returns : goal.returns
returns c =
    let i = c.loop-field.field-index in
    ap₂ (λ (ts ls : List PlainTerm). record { fields = ts; locals = ls }) (all_made c.args.fields.now i (starts i) refl c.loop-field-test.false c.loop-field.terms.items (starts 0 c.args.fields.now) c.loop-field.invariant.1) c.new.ensures.items
