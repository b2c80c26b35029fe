use Rattle.std.proofs.Common.{sym, ap, ◌∙◌, true≢false}
use Rattle.ca_model.specs.declared.value.Object.{Object}
use Rattle.ca_order_laws.proofs.Places.{one_some}
use Rattle.ca_replica.proofs.marks.is_class.Goals as goal

pub returns-then-there-class : goal.returns-then-there-class
returns-then-there-class c = record {
  is = λ e o at. sym c.if-there-class.true ∙ ap (λ (z : Object). z.class.0) (one_some _ c.at.result.now o c.at.ensures at);
  isnt = λ e. absurd (true≢false e);
}

pub returns : goal.returns
returns c = record {
  is = λ e. absurd (true≢false (sym e));
  isnt = λ e o at same. c.if-there-class.false (ap (λ (z : Object). z.class.0) (one_some _ c.at.result.now o c.at.ensures at) ∙ same);
}
