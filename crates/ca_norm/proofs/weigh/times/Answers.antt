use Rattle.std.proofs.Common.{◌-◌, ◌*◌, ◌^◌, min, ap₂, ◌∙◌}
use Rattle.ca_norm.proofs.Counts.{count_product}
use Rattle.ca_norm.proofs.weigh.times.Goals as goal

pub returns : goal.returns
returns c = λ x y g h. c.saturating_mul.ensures ∙ ap₂ (λ m n. min (m * n) (2 ^ 64 - 1)) g h ∙ count_product x y
