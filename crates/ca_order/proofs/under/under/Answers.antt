use Rattle.std.proofs.Common.{◌≡◌, ap₂, ◌∙◌, subst, IfOk}
use Rattle.ca_norm.specs.Terms.{shape}
use Rattle.ca_order.specs.Points.{Ranked}
use Rattle.ca_order.specs.Rankings.{ranked, order_in}
use Rattle.ca_order.specs.Under.{under}
use Rattle.ca_order.proofs.Rows.{light_under}
use Rattle.ca_order.proofs.under.under.Goals as goal

pub returns : goal.returns
returns c =
    let places : c.as_slice-3.result.now ≡ order_in c.args.ranking.now = c.as_slice-3.ensures.value ∙ c.in_ok-places.ensures ∙ ap₂ ranked c.as_slice.ensures.value c.as_slice-2.ensures.value in
    let told = subst (λ (r : Ranked). IfOk c.term_under-made.result (λ t. shape t ≡ under r (shape c.args.term.now))) places c.term_under-made.ensures in
    record { term = told; light = light_under (order_in c.args.ranking.now) (shape c.args.term.now) c.term_under-made.result told }
