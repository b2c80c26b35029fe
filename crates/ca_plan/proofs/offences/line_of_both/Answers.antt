use Rattle.ca_plan.proofs.Knowing.{both_seen}
use Rattle.ca_plan.proofs.offences.line_of_both.Goals as goal

pub returns-in-Some-Some : goal.returns-in-Some-Some
returns-in-Some-Some c = λ p written all.
    let told = both_seen p written c.args.seen.now c.args.a c.args.b c.in-Some-Some.one c.in-Some-Some.other (rw c.in-Some-Some.is-0 at c.seen_at.ensures) (rw c.in-Some-Some.is-1 at c.seen_at-2.ensures) all in
    (told.0, rw c.first_line.ensures told.1)
