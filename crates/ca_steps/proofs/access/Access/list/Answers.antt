use Rattle.std.proofs.Common.{sym, refl, true≢false}
use Rattle.ca_steps.proofs.access.Access.list.Goals as goal

pub returns : goal.returns
returns g c = record { listed = λ e. absurd (true≢false (sym e)); fixed = refl; fits = λ bs h. h }
