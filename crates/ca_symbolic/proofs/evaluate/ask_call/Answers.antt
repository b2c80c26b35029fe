use Rattle.std.proofs.Common.{◌≡◌, [], ◌∷◌, ◌++◌, List, ap, ap₂, ◌∙◌}
use Rattle.ca_norm.specs.Terms.{PlainTerm}
use Rattle.ca_symbolic.specs.States.{PlainDemand, demand, not_null}
use Rattle.ca_symbolic.specs.Demanded.{kind_of, with_demands}
use Rattle.ca_symbolic.proofs.Flags.{one_item}
use Rattle.ca_forms.proofs.Told.{on_ok}
use Rattle.ca_symbolic.proofs.Valued.{behind, guard_of}
use Rattle.ca_symbolic.proofs.evaluate.ask_call.Goals as goal

pub returns : goal.returns
returns c =
    let a = c.args in
    let d1 = c.ask_not_null.new.out in
    let held : List PlainDemand = demand a.out.now.guard not_null (a.object.now ∷ []) ∷ [] in
    let first : d1 ≡ with_demands a.out.now held = c.in_ok-ask_not_null.ensures in
    let receiver : c.in_ok-receiver.receiver.items ≡ a.object.now ∷ [] = one_item c.share.result c.in_ok-receiver.receiver.items a.object.now c.in_ok-receiver.ensures c.share.ensures.same in
    let parts : c.in_ok-parts.parts.items ≡ a.object.now ∷ a.args.now = c.in_ok-parts.ensures ∙ ap (λ (ts : List PlainTerm). ts ++ a.args.now) receiver in
    let asked : ◌≡◌ {A = List PlainDemand} (demand d1.guard (kind_of a.kind) c.in_ok-parts.parts.items ∷ []) (demand a.out.now.guard (kind_of a.kind) (a.object.now ∷ a.args.now) ∷ []) =
    ap₂ (λ (k : PlainTerm) (ts : List PlainTerm). demand k (kind_of a.kind) ts ∷ []) (guard_of a.out.now d1 held first) parts in
    on_ok c.push.result _ _ (λ last. behind a.out.now d1 c.push.new.self held (demand a.out.now.guard (kind_of a.kind) (a.object.now ∷ a.args.now) ∷ []) first (last ∙ ap (with_demands d1) asked)) c.push.ensures
