use Rattle.std.proofs.Common.{rules, ◌≡◌, ℕ, ◌+◌, ◌≤◌, List, [], ◌∷◌, ◌++◌, length, map, take, sym, ap, ap₂, ◌∙◌}
use Rattle.std.proofs.lemmas.List.{take_all, map-append}
use Rattle.ca_norm.specs.declared.term.Term.{Term}
use Rattle.ca_norm.specs.Terms.{PlainTerm, result, shape, terms_of}
use Rattle.ca_norm.proofs.Shapes.{call_is, shapes_more}
use Rattle.ca_order.specs.Under.{under, all_under}
use Rattle.ca_order.proofs.Rows.{put_shape, rows_under}
use Rattle.ca_order.proofs.under.+under.Goals as goal

pub all_under-loop-term-init : goal.all_under-loop-term-init
all_under-loop-term-init t c = ap (map shape) c.new-items.ensures.items

pub all_under-loop-term-preserved : goal.all_under-loop-term-preserved
all_under-loop-term-preserved t c =
    let r = c.args.places.now in
    let i : ℕ = c.loop-term.term-index in
    let ts : List Term = c.args.terms.now in
    let x : Term = c.term-item.result in
    let step : map shape (take (i + 1) ts) ≡ map shape (take i ts) ++ shape x ∷ [] = shapes_more ts i x c.term-item.is c.loop-term-test.true in
    put_shape c.term_under.result (under r (shape x)) c.loop-term.items.items c.add.new.items.items c.in_ok-add.ensures c.term_under.ensures
    ∙ ap (λ z. z ++ under r (shape x) ∷ []) c.loop-term.invariant ∙ sym (map-append (under r) (map shape (take i ts)) (shape x ∷ [])) ∙ ap (map (under r)) (sym step)

pub all_under-returns : goal.all_under-returns
all_under-returns t c =
    let r = c.args.places.now in
    let ts : List Term = c.args.terms.now in
    let end : length ts ≤ c.loop-term.term-index = c.loop-term-test.false in
    ap terms_of (c.loop-term.invariant ∙ ap (λ xs. map (under r) (map shape xs)) (take_all c.loop-term.term-index ts end)) ∙ rows_under r (map shape ts)

pub term_under-returns-in_ok-receiver-in-Result : goal.term_under-returns-in_ok-receiver-in-Result
term_under-returns-in_ok-receiver-in-Result t c =
    let r = c.args.places.now in
    let ts : List PlainTerm = map shape c.in-Result.args.items in
    let receiver : shape c.in_ok-receiver-in-Result.receiver.value ≡ under r (shape c.in-Result.p.value) = search rules in
    let args : terms_of (map shape c.in_ok-receiver-in-Result.args.items) ≡ all_under r (terms_of ts) = search rules in
    let is : result c.in-Result.sort c.in-Result.method (shape c.in-Result.p.value) (terms_of ts) ≡ shape c.args.term.now = sym (call_is c.in-Result.sort c.in-Result.method c.in-Result.p c.in-Result.args) ∙ sym (ap shape c.in-Result.is) in
    call_is c.in-Result.sort c.in-Result.method c.in_ok-receiver-in-Result.receiver c.in_ok-receiver-in-Result.args
    ∙ ap₂ (result c.in-Result.sort c.in-Result.method) receiver args ∙ ap (under r) is
