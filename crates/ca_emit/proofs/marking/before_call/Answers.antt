use Rattle.std.proofs.Common.{◌≡◌, [], sym, ap, ◌∙◌, if◌then◌else◌}
use Rattle.ca_tree.specs.Plain.{call_statement}
use Rattle.ca_tree.specs.View.{expression_view, form_view, statement_view}
use Rattle.ca_canonical.specs.Marks.{front_view}
use Rattle.ca_emit.specs.Annotations.{before_call, call_marks}
use Rattle.ca_emit.proofs.marking.before_call.Goals as goal

pub returns-then-follows : goal.returns-then-follows
returns-then-follows c =
    let is : statement_view c.args.s.now ≡ call_statement c.args.s.now.at (expression_view c.in-Call.call) = ap (λ k. form_view k c.args.s.now.at) c.in-Call.is in
    sym (ap (before_call c.args.locked (front_view c.args.front)) is ∙ ap (λ b. if b then [] else call_marks c.args.locked) (sym c.follows.ensures ∙ c.if-follows.true))

pub returns-else-follows : goal.returns-else-follows
returns-else-follows c =
    let is : statement_view c.args.s.now ≡ call_statement c.args.s.now.at (expression_view c.in-Call.call) = ap (λ k. form_view k c.args.s.now.at) c.in-Call.is in
    c.call_marks.ensures ∙ sym (ap (before_call c.args.locked (front_view c.args.front)) is ∙ ap (λ b. if b then [] else call_marks c.args.locked) (sym c.follows.ensures ∙ c.if-follows.false))
