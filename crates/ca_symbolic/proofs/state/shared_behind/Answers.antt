use Rattle.std.proofs.Common.{◌+◌, [], ◌∷◌, ◌++◌, List, take, ap, sym, ◌∙◌, append_assoc}
use Rattle.std.proofs.lemmas.List.{take_all}
use Rattle.ca_forms.proofs.Told.{put_behind}
use Rattle.ca_norm.specs.Terms.{PlainTerm}
use Rattle.ca_symbolic.proofs.Joining.{taken_more}
use Rattle.ca_symbolic.proofs.state.shared_behind.Goals as goal

pub loop-term-preserved : goal.loop-term-preserved
loop-term-preserved c =
    let i = c.loop-term.term-index in
    let x = c.term-item.result in
    let first = c.args.first.items in
    let others = c.args.others.now in
    put_behind c.share.result x c.loop-term.terms.items c.add.new.items.items c.in_ok-add.ensures c.share.ensures.same
    ∙ (ap (λ (ts : List PlainTerm). ts ++ x ∷ []) c.loop-term.invariant
    ∙ (append_assoc first (take i others) (x ∷ []) ∙ ap (λ (ts : List PlainTerm). first ++ ts) (sym (taken_more others i x c.loop-term-test.true c.term-item.is))))

pub returns : goal.returns
returns c = c.loop-term.invariant ∙ ap (λ (ts : List PlainTerm). c.args.first.items ++ ts) (take_all c.loop-term.term-index c.args.others.now c.loop-term-test.false)
