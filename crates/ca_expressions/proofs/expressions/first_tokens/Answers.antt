use Rattle.std.proofs.Common.{take, ap, ◌∙◌}
use Rattle.std.proofs.lemmas.List.{take_min}
use Rattle.ca_expressions.proofs.expressions.first_tokens.Goals as goal

pub returns : goal.returns
returns c = c.split_at.ensures.front ∙ (ap (λ n. take n c.args.tokens.now) c.min.ensures ∙ take_min 1001 c.args.tokens.now)
