use Rattle.std.proofs.Common.{refl}
use Rattle.ca_sections.proofs.access.put_anyway.Goals as goal

pub returns-then-not-has : goal.returns-then-not-has
returns-then-not-has c = record { put = λ e. cc; back = refl; there = λ t. t }

pub returns-in-Ok : goal.returns-in-Ok
returns-in-Ok c = record { put = λ e. c.in-Ok.ensures.put; back = c.in-Ok.ensures.back; there = c.in-Ok.ensures.there }

pub returns-in-Err : goal.returns-in-Err
returns-in-Err c = record { put = λ e. cc; back = c.in-Err.ensures.back; there = c.in-Err.ensures.there }
