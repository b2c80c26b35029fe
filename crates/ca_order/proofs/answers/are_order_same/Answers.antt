use Rattle.std.proofs.Common.{◌∙◌}
use Rattle.ca_norm.specs.Terms.{shape}
use Rattle.ca_order.proofs.Refuted.{told_same, not_same}
use Rattle.ca_order.proofs.answers.are_order_same.Goals as goal

pub returns-then-refuted : goal.returns-then-refuted
returns-then-refuted c = record {
  same = λ yes. cc;
  apart = λ no. c.in_ok-refuted.ensures c.if-refuted.true (c.as_slice.ensures.value ∙ c.in_ok-points.ensures);
}

pub returns : goal.returns
returns c =
    let t = shape c.args.first.now in
    let u = shape c.args.second.now in
    record {
      same = λ yes. told_same t u c.in_ok-answer.answer c.in_ok-answer.ensures.answer (c.is_same-same.ensures.yes yes);
      apart = λ no. not_same t u c.in_ok-answer.answer c.in_ok-answer.ensures.answer (c.is_same-same.ensures.no no);
    }
